use Rattle.std.proofs.Common.{◌≡◌, ◌-◌, ◌++◌, Bool, IsTrue, length, slice_index_or, take, drop, ap, ◌∙◌}
use Rattle.tree_model.specs.Changes.{differences}
use Rattle.tree_model.specs.declared.key.Key.{Key}
use Rattle.tree_model.specs.declared.record.Record.{Record}
use Rattle.tree_model.specs.declared.record.Record.TheVariants.{Text}
use Rattle.tree_model.specs.Entries.{Entries}
use Rattle.dom_reads.specs.inside.Gathered.{texts_in}
use Rattle.dom_writes.specs.inside.NormalTexts.{joined_run, run_changes}
use Rattle.dom_writes.proofs.NormalChanges.{if_ok_on, into_changes}
use Rattle.dom_writes.proofs.MergeLaws.{same_first, with_first}
use Rattle.dom_writes.proofs.normal_texts.join_run.Goals as goal

pub returns-clause-changes : goal.returns-clause-changes
returns-clause-changes c =
    let run : Entries = c.args.run.now in
    let some = c.in-len1-up.len_at_least in
    let e : Key × Record = slice_index_or run 0 c.index-run-0.result in
    let others : Entries = take (length run - 1) (drop 1 run) in
    let d = c.in-Text.first in
    let is : e.1 ≡ Text d = ap (λ (x : Key × Record). x.1) (same_first run c.index-run-0.result c.index-run-0-2.result some) ∙ c.in-Text.is in
    let old = c.args.changes.now in
    let new = c.join_into.new.changes in
    if_ok_on (λ (valid : Bool). IsTrue valid → new ≡ old ++ run_changes (e.0, Text d) others (d ++ texts_in others))
    (λ (valid : Bool). IsTrue valid → new ≡ old ++ differences run (joined_run run)) c.join_into.result
    (λ valid h fit. h fit ∙ ap (λ v. old ++ v) (into_changes run others e.0 e.1 d (with_first run c.index-run-0.result some) is c.requires.sorted))
    c.join_into.ensures.changes
