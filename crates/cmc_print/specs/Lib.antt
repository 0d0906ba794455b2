pub mod Trees
pub mod Words
pub mod Puts
pub mod Printed
