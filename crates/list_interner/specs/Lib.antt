pub mod Numbered
pub mod Bits
pub mod NumberPairs
pub mod NumberLists
pub mod Writes
pub mod NumberRows
pub mod NumberSet
