pub mod ListsHeld
pub mod OrderedLists
pub mod SavingsLaws
