pub mod ImageRows
