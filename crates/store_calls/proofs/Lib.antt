pub mod Fragments
pub mod KeptCalls
pub mod PlainRunLaws
pub mod Reading
pub mod RequestRows
pub mod StoreCallLaws
pub mod ValidParts
