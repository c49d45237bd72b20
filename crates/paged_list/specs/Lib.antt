pub mod Lending
pub mod Listed
pub mod Paged
