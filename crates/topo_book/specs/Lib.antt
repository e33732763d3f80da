pub mod Books
pub mod Fresh
pub mod Means
pub mod Offers
