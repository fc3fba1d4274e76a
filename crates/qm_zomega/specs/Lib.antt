pub mod Component
pub mod Numbers
pub mod Range
pub mod Zw
pub mod NumberLists
