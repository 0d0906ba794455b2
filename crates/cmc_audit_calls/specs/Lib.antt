pub mod CallsOfLines
