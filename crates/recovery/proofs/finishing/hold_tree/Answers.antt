use Rattle.std.proofs.Common.{◌≡◌, ◌∙◌, ℕ, true, List, [], Err, IsTrue, refl, sym, ap, subst}
use Rattle.outside_kinds.specs.MemoryDisks.{history_of}
use Rattle.tree_model.specs.Entries.{Entries, Sorted}
use Rattle.tree_model.specs.StoredTree.{IsStoredTree}
use Rattle.node_pages.specs.PageFiles.{contents_of_file}
use Rattle.journal.specs.Refusals.{HasReason}
use Rattle.journal.specs.declared.group.Group.{Group}
use Rattle.paged_seq.specs.PagedMaps.{file_entries}
use Rattle.store_contents.specs.Contents.{after_commits, over_pages}
use Rattle.recovery.specs.inside.Finishing.{memory_alone}
use Rattle.recovery.specs.inside.Nets.{IsMisfit}
use Rattle.recovery.proofs.PagedSteps.{reason_leads}
use Rattle.recovery.proofs.TestLaws.{in_memory, row_breaks, row_holds, row_misfits}
use Rattle.recovery.proofs.WalkLaws.{file_sorted}
use Rattle.recovery.proofs.finishing.hold_tree.Goals as goal

pub follow-requires : goal.follow-requires
follow-requires c = record { sorted = λ known. subst (λ (bytes : List ℕ). Sorted (file_entries bytes)) (sym c.in-Ok.ensures.bytes) (file_sorted c.args.bytes _ _ c.in-Ok.ensures.held) }

pub returns-in-Ok-follow-clause-tree : goal.returns-in-Ok-follow-clause-tree
returns-in-Ok-follow-clause-tree c =
    let read = c.in-Ok-follow.ensures.net in
    let all : read.records ≡ file_entries c.args.bytes = read.are.all refl ∙ ap file_entries c.in-Ok.ensures.bytes in
    row_holds c.args.bytes (file_entries c.args.bytes) c.in-Ok.seq.index.base c.in-Ok.ensures.held
    (subst IsStoredTree all (subst (λ (l : List Group). IsStoredTree (after_commits l read.records)) c.new.ensures read.net.tree))

pub returns-in-Ok-clause-damage : goal.returns-in-Ok-clause-damage
returns-in-Ok-clause-damage c =
    let es : Entries = file_entries (history_of c.in-Ok.seq.disk).now.reads in
    let found : HasReason (λ place. IsTrue true → IsMisfit (after_commits c.new.result es) place) ⊥ (memory_alone c.in-Err-follow.fault) = in_memory _ _ c.in-Err-follow.fault c.in-Err-follow.ensures.reason in
    let same : after_commits c.new.result es ≡ file_entries c.args.bytes = ap (λ (l : List Group). after_commits l es) c.new.ensures ∙ ap file_entries c.in-Ok.ensures.bytes in
    subst (HasReason (λ place. over_pages [] (contents_of_file c.args.bytes) ≡ Err place) ⊥) (sym c.memory_alone.ensures)
    (reason_leads (λ place. IsTrue true → IsMisfit (after_commits c.new.result es) place) (λ place. over_pages [] (contents_of_file c.args.bytes) ≡ Err place) ⊥ ⊥ (memory_alone c.in-Err-follow.fault)
    (λ place misfit. row_misfits c.args.bytes (file_entries c.args.bytes) c.in-Ok.seq.index.base place c.in-Ok.ensures.held (subst (λ (rs : Entries). IsMisfit rs place) same (misfit refl)))
    (λ never. never) found)

pub returns-clause-damage : goal.returns-clause-damage
returns-clause-damage c = reason_leads _ _ _ _ c.in-Err.fault (λ place breaks. row_breaks c.args.bytes place breaks) (λ never. never) c.in-Err.ensures.damage
