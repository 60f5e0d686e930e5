use Rattle.std.proofs.Common.{◌≡◌, ◌+◌, ◌∷◌, ◌++◌, ℕ, List, Some, None, length, drop, arith, ap, sym, ◌∙◌, append_assoc, append-nil}
use Rattle.std.proofs.lemmas.List.{drop_more, drop_all}
use Rattle.node_records.specs.Entries.{entry_bytes}
use Rattle.node_records.specs.declared.entries.Entry.{Entry}
use Rattle.node_pages.specs.EntryForm.{entry_behind}
use Rattle.node_pages.specs.Filling.{written}
use Rattle.node_pages.proofs.ScanLaws.{any_before}
use Rattle.node_pages.proofs.scan.size_of.Goals as goal

pub loop-entry-preserved : goal.loop-entry-preserved
loop-entry-preserved c =
    let l = c.loop-entry in
    let xs = c.args.entries.now in
    let x = c.entry-item.result in
    let rest = drop (l.entry-index + 1) xs in
    let here : drop l.entry-index xs ≡ x ∷ rest = drop_more xs l.entry-index x (omega arith) ∙ ap (λ (y : Entry). y ∷ rest) (sym c.entry-item.is) in
    ap (λ (b : List ℕ). b ++ written entry_behind None rest) c.in_ok-write_entry.ensures.ok
    ∙ append_assoc l.bytes (entry_bytes x) (written entry_behind None rest)
    ∙ ap (λ (w : List ℕ). l.bytes ++ (entry_bytes x ++ w)) (any_before None (Some x) rest)
    ∙ ap (λ (es : List Entry). l.bytes ++ written entry_behind None es) (sym here)
    ∙ l.invariant

pub returns : goal.returns
returns c =
    let l = c.loop-entry in
    let xs = c.args.entries.now in
    c.len.ensures
    ∙ ap length (sym (append-nil l.bytes) ∙ ap (λ (es : List Entry). l.bytes ++ written entry_behind None es) (sym (drop_all l.entry-index xs (omega arith))) ∙ l.invariant)
