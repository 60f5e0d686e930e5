use Rattle.node_pages.proofs.CountLaws.{pages_same}
use Rattle.node_pages.proofs.reading_laws.pages_behind_the_count_are_not_read.Goals as goal

pub returns : goal.returns
returns c = pages_same
