use Rattle.node_pages.proofs.FileLaws.{read_sorted}
use Rattle.node_pages.proofs.reading_laws.pages_that_keep_the_rules_are_maps_in_order.Goals as goal

pub returns : goal.returns
returns c page es base is = read_sorted page es base is
