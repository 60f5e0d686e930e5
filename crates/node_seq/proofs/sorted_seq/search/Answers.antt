use Rattle.std.proofs.Common.{rules}
use Rattle.node_seq.proofs.Cuts.{searched_by}
use Rattle.node_seq.proofs.sorted_seq.search.Goals as goal

pub returns : goal.returns
returns c =
    let es = c.args.entries.now in
    let k = c.args.key.now in
    searched_by k es _ c.requires c.binary_search_by.ensures.bound c.binary_search_by.ensures.position (search rules)
