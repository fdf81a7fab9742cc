pub mod Cutting
pub mod Listings
pub mod Naming
pub mod Reading
pub mod Written
pub mod WrittenLines
pub mod WrittenInstrs
