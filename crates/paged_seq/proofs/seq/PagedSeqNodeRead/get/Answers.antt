use Rattle.std.proofs.Common.{◌≤◌, ◌+◌, Option, sym, ap, subst, ◌∙◌}
use Rattle.tree_model.specs.Entries.{get}
use Rattle.tree_model.specs.declared.record.Record.{Record}
use Rattle.paged_seq.specs.PagedMaps.{chunks_found, file_entries, is_valid_entry, valid_at}
use Rattle.paged_seq.proofs.MapLaws.{get_kept}
use Rattle.paged_seq.proofs.OpenLaws.{map_told}
use Rattle.paged_seq.proofs.seq.PagedSeqNodeRead.get.Goals as goal

pub returns-clause-value : goal.returns-clause-value
returns-clause-value g c es is =
    let file = (g.P.Disk.history c.args.self.now.disk).now.reads in
    let told = map_told g.P.Disk.is_known file es is in
    let k = c.args.key.now in
    c.valid_at.ensures.value ∙ ap (valid_at is_valid_entry k) (c.in_ok-found.ensures.value told.0) ∙ sym (get_kept is_valid_entry k (file_entries file) (c.most_entries-sorted.ensures.sorted told.0)) ∙ ap (get k) told.1

pub returns-clause-pages : goal.returns-clause-pages
returns-clause-pages g c known =
    subst (λ (o : Option Record). c.record_at.new.self.pool.reads ≤ c.args.self.now.pool.reads + 2 + chunks_found o) (c.in_ok-found.ensures.value known) (c.in_ok-found.ensures.reads known)
