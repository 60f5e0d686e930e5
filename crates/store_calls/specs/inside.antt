-- Words of private functions.
pub mod KindLaws
