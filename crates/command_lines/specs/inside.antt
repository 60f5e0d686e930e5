-- Words of private functions: no public clause has them.
pub mod SaidText
