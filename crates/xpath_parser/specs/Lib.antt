-- Tokens
pub mod Lex
pub mod Input
-- Rules
pub mod Words
pub mod Grammar
pub mod Parse
-- Texts of paths
pub mod PathText
-- Words of the proofs alone
pub mod inside
