-- words of public clauses
pub mod DomPlans
pub mod Plans
-- words that only the proof uses
pub mod inside
