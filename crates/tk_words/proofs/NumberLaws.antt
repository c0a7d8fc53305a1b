pub mod Digits
pub mod Exponents
pub mod Integers
pub mod MinusOne
pub mod Naturals
pub mod Numbers
