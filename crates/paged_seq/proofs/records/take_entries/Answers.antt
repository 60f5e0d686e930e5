use Rattle.std.proofs.Common.{◌++◌, ◌∷◌, [], List, sym, ap, ◌∙◌, append_assoc}
use Rattle.node_records.specs.declared.entries.Entry.{Entry}
use Rattle.node_pages.specs.Chunks.{records_behind}
use Rattle.paged_seq.proofs.records.take_entries.Goals as goal

pub loop-entry-preserved : goal.loop-entry-preserved
loop-entry-preserved c more =
    let entry : Entry = c.in-Some.entry in
    c.in_ok-take_entry.ensures more ∙ c.loop-entry.invariant (entry ∷ more)
    ∙ ap (λ (es : List Entry). c.args.records.now ++ records_behind c.args.part.now es) (sym (append_assoc c.loop-entry.yielded (entry ∷ []) more))
