use Rattle.std.proofs.Common.{◌≡◌, List, ◌++◌, map, sym, ap, subst, ◌∙◌, true≢false}
use Rattle.tree_model.specs.Changes.{drop_change}
use Rattle.tree_model.specs.Entries.{Entries}
use Rattle.tree_model.specs.declared.change.Change.{Change}
use Rattle.tree_model.specs.declared.record.Record.{Record}
use Rattle.tree_model.specs.declared.reply.Reply.TheVariants as reply
use Rattle.node_seq.specs.ChangeLists.{IsChangeList}
use Rattle.dom_reads.proofs.ReplyLaws.{later}
use Rattle.dom_writes.proofs.MergeLaws.{drops_change_list}
use Rattle.dom_writes.proofs.RemovalLaws.{remove_no_child, remove_no_parent, removed}
use Rattle.dom_writes.proofs.ReadLaws.{removal_all}
use Rattle.dom_writes.proofs.removals.removal.Goals as goal

pub returns-in_default-clause-outcome : goal.returns-in_default-clause-outcome
returns-in_default-clause-outcome g c t stands =
    (λ i. (c.not_found.ensures i, c.new.ensures i))
    ∙ remove_no_parent c.args.at.now c.args.child.now t stands.valid (sym c.in_default.is ∙ c.in_ok-_parent.ensures.parent t stands)

pub returns-then-is_empty-clause-outcome : goal.returns-then-is_empty-clause-outcome
returns-then-is_empty-clause-outcome g c t stands =
    let r : Record = c.in-Some._parent in
    let entries = c.in_ok-entries.ensures.entries t (later _ _ t (g.met.S.NodeRead.unchanged_contents _ _ c.in_ok-_parent.ensures.unchanged) stands) in
    (λ i. (c.not_found-then-is_empty.ensures i, c.new-then-is_empty.ensures i))
    ∙ remove_no_child c.args.at.now c.args.child.now t stands.valid r (sym c.in-Some.is ∙ c.in_ok-_parent.ensures.parent t stands)
    (sym (c.is_empty.ensures.0 c.if-is_empty.true) ∙ entries)

pub returns-clause-outcome : goal.returns-clause-outcome
returns-clause-outcome g c t stands =
    let r : Record = c.in-Some._parent in
    let es : Entries = c.in_ok-entries.entries in
    let gone = c.in_ok-gone.gone in
    let entries = c.in_ok-entries.ensures.entries t (later _ _ t (g.met.S.NodeRead.unchanged_contents _ _ c.in_ok-_parent.ensures.unchanged) stands) in
    let drops : c.push_drops.new.changes ≡ map drop_change es = c.in_ok-push_drops.ensures ∙ (λ i. c.new-changes.ensures i ++ map drop_change (c.as_slice.ensures i)) in
    ap (λ (cs : List Change). (reply.Tree gone, cs)) drops
    ∙ removed c.args.at.now c.args.child.now t stands.valid r es gone (sym c.in-Some.is ∙ c.in_ok-_parent.ensures.parent t stands) entries
    (λ q. true≢false (sym (c.is_empty.ensures.1 q) ∙ c.if-is_empty.false)) (c.in_ok-gone.ensures.fragment c.args.child.now t stands.valid entries)

pub returns-clause-rise : goal.returns-clause-rise
returns-clause-rise g c =
    let es : Entries = c.in_ok-entries.entries in
    let drops : c.push_drops.new.changes ≡ map drop_change es = c.in_ok-push_drops.ensures ∙ (λ i. c.new-changes.ensures i ++ map drop_change (c.as_slice.ensures i)) in
    subst IsChangeList (sym drops) (drops_change_list es c.in_ok-entries.ensures.rise)

pub returns-in_err-entries-clause-reads : goal.returns-in_err-entries-clause-reads
returns-in_err-entries-clause-reads g c t stands =
    removal_all _ t _ _ c.args.child.now c.in_ok-_parent.ensures.reads (c.in_err-entries.ensures.reads_of_tree t (later _ _ t (g.met.S.NodeRead.unchanged_contents _ _ c.in_ok-_parent.ensures.unchanged) stands))

pub returns-then-is_empty-clause-reads : goal.returns-then-is_empty-clause-reads
returns-then-is_empty-clause-reads g c t stands =
    removal_all _ t _ _ c.args.child.now c.in_ok-_parent.ensures.reads (c.in_ok-entries.ensures.reads_of_tree t (later _ _ t (g.met.S.NodeRead.unchanged_contents _ _ c.in_ok-_parent.ensures.unchanged) stands))

pub returns-in_err-push_drops-clause-reads : goal.returns-in_err-push_drops-clause-reads
returns-in_err-push_drops-clause-reads g c t stands =
    removal_all _ t _ _ c.args.child.now c.in_ok-_parent.ensures.reads (c.in_ok-entries.ensures.reads_of_tree t (later _ _ t (g.met.S.NodeRead.unchanged_contents _ _ c.in_ok-_parent.ensures.unchanged) stands))

pub returns-in_err-gone-clause-reads : goal.returns-in_err-gone-clause-reads
returns-in_err-gone-clause-reads g c t stands =
    removal_all _ t _ _ c.args.child.now c.in_ok-_parent.ensures.reads (c.in_ok-entries.ensures.reads_of_tree t (later _ _ t (g.met.S.NodeRead.unchanged_contents _ _ c.in_ok-_parent.ensures.unchanged) stands))

pub returns-clause-reads : goal.returns-clause-reads
returns-clause-reads g c t stands =
    removal_all _ t _ _ c.args.child.now c.in_ok-_parent.ensures.reads (c.in_ok-entries.ensures.reads_of_tree t (later _ _ t (g.met.S.NodeRead.unchanged_contents _ _ c.in_ok-_parent.ensures.unchanged) stands))
