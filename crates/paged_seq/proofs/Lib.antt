pub mod CountLaws
pub mod MapLaws
pub mod OpenLaws
pub mod PlaceLaws
pub mod RecordLaws
pub mod ValidLaws
pub mod SizeLaws
pub mod CostLaws
