pub mod HeldPairs
pub mod Keys
pub mod Names
pub mod PairLists
pub mod ConditionLists
pub mod Wordings
pub mod Decimals
