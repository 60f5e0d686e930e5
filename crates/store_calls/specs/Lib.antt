-- what a call on the store's tree is
pub mod StoreCalls
-- what they are on a plain tree, one after another
pub mod PlainRuns
-- words that only private functions use
pub mod inside
