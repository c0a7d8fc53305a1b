pub mod KeyLists
pub mod OneMerge
pub mod PairsFound
pub mod PairsMerged
