mod NamesAgain
mod PartsAgain
pub mod LinesAgain
mod LinesSo
