use Rattle.std.proofs.Common.{◌≡◌, List, [], ◌∷◌, ◌++◌, map, Some, None, sym, ap, subst, ◌∙◌, true≢false}
use Rattle.dewey_labels.specs.Labels.{Label, root}
use Rattle.tree_model.specs.Changes.{drop_change}
use Rattle.tree_model.specs.Entries.{Entries}
use Rattle.tree_model.specs.Keys.{key_at}
use Rattle.tree_model.specs.Tree.{beside}
use Rattle.tree_model.specs.declared.change.Change.{Change}
use Rattle.tree_model.specs.declared.key.Key.{Key}
use Rattle.tree_model.specs.declared.reply.Reply.TheVariants.{Nothing}
use Rattle.node_seq.specs.ChangeLists.{IsChangeList}
use Rattle.dom_reads.proofs.ReplyLaws.{later}
use Rattle.dom_reads.specs.SubtreeWalks.{subtree_of}
use Rattle.dom_writes.specs.inside.Above.{is_head_above}
use Rattle.dom_writes.proofs.RemovalLaws.{document_above, drop_missing, dropped, drops_behind}
use Rattle.dom_writes.proofs.ReadLaws.{drop_all, drop_one}
use Rattle.dom_writes.proofs.drops.document_removal.Goals as goal

pub returns-in_default-clause-outcome : goal.returns-in_default-clause-outcome
returns-in_default-clause-outcome g c t stands =
    (λ i. (c.not_found.ensures i, c.new.ensures i)) ∙ drop_missing c.args.name.now t stands.valid (sym c.in_default.is ∙ c.in_ok-at.ensures.found t stands)

pub returns-then-not-is_head_above-clause-outcome : goal.returns-then-not-is_head_above-clause-outcome
returns-then-not-is_head_above-clause-outcome g c t stands =
    let n = c.args.name.now in
    let l : Label = c.in-Some.at in
    let e : Some l ≡ beside n t.catalogue = sym c.in-Some.is ∙ c.in_ok-at.ensures.found t stands in
    let key : c.in_ok-key.key ≡ key_at root n = c.in_ok-key.ensures ∙ (λ i. key_at (c.in_ok-root.ensures i) (c.as_str.ensures.bytes i)) in
    let entries : c.as_slice.result.now ≡ subtree_of l t =
    c.as_slice.ensures ∙ c.in_ok-entries.ensures.entries t (later _ _ t (g.met.S.NodeRead.unchanged_contents _ _ c.in_ok-at.ensures.unchanged) stands) in
    absurd (true≢false (sym ((λ i. is_head_above (key i) (entries i)) ∙ document_above n t stands.valid l e) ∙ sym c.is_head_above.ensures ∙ c.if-not-is_head_above.true))

pub returns-clause-outcome : goal.returns-clause-outcome
returns-clause-outcome g c t stands =
    let n = c.args.name.now in
    let l : Label = c.in-Some.at in
    let k : Key = c.in_ok-key.key in
    let es : Entries = c.in_ok-entries.entries in
    let one : Change = record { key = k; now = None } in
    let e : Some l ≡ beside n t.catalogue = sym c.in-Some.is ∙ c.in_ok-at.ensures.found t stands in
    let key : k ≡ key_at root n = c.in_ok-key.ensures ∙ (λ i. key_at (c.in_ok-root.ensures i) (c.as_str.ensures.bytes i)) in
    let entries : es ≡ subtree_of l t = c.in_ok-entries.ensures.entries t (later _ _ t (g.met.S.NodeRead.unchanged_contents _ _ c.in_ok-at.ensures.unchanged) stands) in
    let first : c.push_drop.new.changes ≡ one ∷ [] = c.in_ok-push_drop.ensures ∙ ap (λ (v : List Change). v ++ (one ∷ [])) c.new-changes.ensures in
    let drops : c.push_drops.new.changes ≡ one ∷ map drop_change es = c.in_ok-push_drops.ensures ∙ (λ i. first i ++ map drop_change (c.as_slice-2.ensures i)) in
    ap (λ (cs : List Change). (Nothing, cs)) drops ∙ dropped n t stands.valid l e k es key entries

pub returns-clause-rise : goal.returns-clause-rise
returns-clause-rise g c =
    let k : Key = c.in_ok-key.key in
    let es : Entries = c.in_ok-entries.entries in
    let one : Change = record { key = k; now = None } in
    let first : c.push_drop.new.changes ≡ one ∷ [] = c.in_ok-push_drop.ensures ∙ ap (λ (v : List Change). v ++ (one ∷ [])) c.new-changes.ensures in
    let drops : c.push_drops.new.changes ≡ one ∷ map drop_change es = c.in_ok-push_drops.ensures ∙ (λ i. first i ++ map drop_change (c.as_slice-2.ensures i)) in
    subst IsChangeList (sym drops)
    (drops_behind k es c.in_ok-entries.ensures.rise (ap (is_head_above k) (sym c.as_slice.ensures) ∙ sym c.is_head_above.ensures ∙ c.if-not-is_head_above.false))

pub returns-in_err-at-clause-reads : goal.returns-in_err-at-clause-reads
returns-in_err-at-clause-reads g c t stands =
    drop_one _ t _ (beside c.args.name.now t.catalogue) c.in_err-at.ensures.reads

pub returns-in_default-clause-reads : goal.returns-in_default-clause-reads
returns-in_default-clause-reads g c t stands =
    drop_one _ t _ (beside c.args.name.now t.catalogue) c.in_ok-at.ensures.reads

pub returns-in_err-entries-clause-reads : goal.returns-in_err-entries-clause-reads
returns-in_err-entries-clause-reads g c t stands =
    let l : Label = c.in-Some.at in
    let e : Some l ≡ beside c.args.name.now t.catalogue = sym c.in-Some.is ∙ c.in_ok-at.ensures.found t stands in
    drop_all _ t _ _ l _ e c.in_ok-at.ensures.reads (c.in_err-entries.ensures.reads_of_tree t (later _ _ t (g.met.S.NodeRead.unchanged_contents _ _ c.in_ok-at.ensures.unchanged) stands))

pub returns-in_err-root-clause-reads : goal.returns-in_err-root-clause-reads
returns-in_err-root-clause-reads g c t stands =
    let l : Label = c.in-Some.at in
    let e : Some l ≡ beside c.args.name.now t.catalogue = sym c.in-Some.is ∙ c.in_ok-at.ensures.found t stands in
    drop_all _ t _ _ l _ e c.in_ok-at.ensures.reads (c.in_ok-entries.ensures.reads_of_tree t (later _ _ t (g.met.S.NodeRead.unchanged_contents _ _ c.in_ok-at.ensures.unchanged) stands))

pub returns-in_err-key-clause-reads : goal.returns-in_err-key-clause-reads
returns-in_err-key-clause-reads g c t stands =
    let l : Label = c.in-Some.at in
    let e : Some l ≡ beside c.args.name.now t.catalogue = sym c.in-Some.is ∙ c.in_ok-at.ensures.found t stands in
    drop_all _ t _ _ l _ e c.in_ok-at.ensures.reads (c.in_ok-entries.ensures.reads_of_tree t (later _ _ t (g.met.S.NodeRead.unchanged_contents _ _ c.in_ok-at.ensures.unchanged) stands))

pub returns-then-not-is_head_above-clause-reads : goal.returns-then-not-is_head_above-clause-reads
returns-then-not-is_head_above-clause-reads g c t stands =
    let l : Label = c.in-Some.at in
    let e : Some l ≡ beside c.args.name.now t.catalogue = sym c.in-Some.is ∙ c.in_ok-at.ensures.found t stands in
    drop_all _ t _ _ l _ e c.in_ok-at.ensures.reads (c.in_ok-entries.ensures.reads_of_tree t (later _ _ t (g.met.S.NodeRead.unchanged_contents _ _ c.in_ok-at.ensures.unchanged) stands))

pub returns-in_err-push_drop-clause-reads : goal.returns-in_err-push_drop-clause-reads
returns-in_err-push_drop-clause-reads g c t stands =
    let l : Label = c.in-Some.at in
    let e : Some l ≡ beside c.args.name.now t.catalogue = sym c.in-Some.is ∙ c.in_ok-at.ensures.found t stands in
    drop_all _ t _ _ l _ e c.in_ok-at.ensures.reads (c.in_ok-entries.ensures.reads_of_tree t (later _ _ t (g.met.S.NodeRead.unchanged_contents _ _ c.in_ok-at.ensures.unchanged) stands))

pub returns-in_err-push_drops-clause-reads : goal.returns-in_err-push_drops-clause-reads
returns-in_err-push_drops-clause-reads g c t stands =
    let l : Label = c.in-Some.at in
    let e : Some l ≡ beside c.args.name.now t.catalogue = sym c.in-Some.is ∙ c.in_ok-at.ensures.found t stands in
    drop_all _ t _ _ l _ e c.in_ok-at.ensures.reads (c.in_ok-entries.ensures.reads_of_tree t (later _ _ t (g.met.S.NodeRead.unchanged_contents _ _ c.in_ok-at.ensures.unchanged) stands))

pub returns-clause-reads : goal.returns-clause-reads
returns-clause-reads g c t stands =
    let l : Label = c.in-Some.at in
    let e : Some l ≡ beside c.args.name.now t.catalogue = sym c.in-Some.is ∙ c.in_ok-at.ensures.found t stands in
    drop_all _ t _ _ l _ e c.in_ok-at.ensures.reads (c.in_ok-entries.ensures.reads_of_tree t (later _ _ t (g.met.S.NodeRead.unchanged_contents _ _ c.in_ok-at.ensures.unchanged) stands))
