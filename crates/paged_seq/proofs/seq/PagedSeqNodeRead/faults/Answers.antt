use Rattle.std.proofs.Common.{subst}
use Rattle.tree_model.specs.Entries.{Sorted}
use Rattle.paged_seq.specs.PagedMaps.{file_entries, is_valid_entry}
use Rattle.paged_seq.proofs.MapLaws.{kept_sorted}
use Rattle.paged_seq.proofs.OpenLaws.{map_told}
use Rattle.paged_seq.proofs.seq.PagedSeqNodeRead.faults.Goals as goal

pub returns-clause-in_order : goal.returns-clause-in_order
returns-clause-in_order g c es is =
    let file = (g.P.Disk.history c.args.self.now.disk).now.reads in
    let told = map_told g.P.Disk.is_known file es is in
    subst Sorted told.1 (kept_sorted is_valid_entry (file_entries file) (c.most_entries-sorted.ensures.sorted told.0))
