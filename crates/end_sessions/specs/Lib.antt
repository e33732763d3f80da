pub mod Farewells
pub mod Carriers
