pub mod LinePieces
pub mod WrittenHeaders
pub mod WrittenLines
pub mod WrittenNumbers
pub mod WrittenPlaces
pub mod WrittenWeights
