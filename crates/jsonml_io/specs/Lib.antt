pub mod JsonMl
pub mod Pointers
pub mod Written
pub mod inside
