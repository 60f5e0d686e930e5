pub mod BodyLaws
mod ByteRows
pub mod ChangeLaws
pub mod DivisionForms
pub mod EntryLaws
mod FoundLaws
mod Prefixes
pub mod KeyLaws
pub mod KeyOrder
pub mod LabelLaws
mod LabelReads
pub mod ReadLaws
pub mod RecordLaws
mod TextLaws
