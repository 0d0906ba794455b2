mod Suffixes
mod Keys
mod FreeNames
