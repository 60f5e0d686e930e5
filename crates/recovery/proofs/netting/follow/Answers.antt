use Rattle.std.proofs.Common.{List, refl, sym, ap, subst, ◌∙◌}
use Rattle.tree_model.specs.Changes.{Rising}
use Rattle.tree_model.specs.Entries.{Entries, changed}
use Rattle.tree_model.specs.StoredTree.{IsStoredTree}
use Rattle.tree_model.specs.declared.change.Change.{Change}
use Rattle.store_contents.specs.Contents.{after_commits}
use Rattle.recovery.specs.inside.Nets.{IsMisfit, NetOf}
use Rattle.recovery.proofs.NetLaws.{net_is, net_list}
use Rattle.recovery.proofs.PagedSteps.{reason_leads}
use Rattle.recovery.proofs.netting.follow.Goals as goal

pub is_tree-requires-clause-rising : goal.is_tree-requires-clause-rising
is_tree-requires-clause-rising g c = subst Rising (sym c.as_slice.ensures) c.in-Ok.ensures.rising

pub layer_of-requires : goal.layer_of-requires
layer_of-requires g c =
    let changes = c.in-Ok.net.0 in
    let made = c.in-Ok-is_tree.ensures.tree in
    record { list = net_list changes made.records c.in-Ok.ensures.rising made.are.sorted (subst (λ (cs : List Change). IsStoredTree (changed cs made.records)) c.as_slice.ensures made.tree) }

pub returns-in-Ok-layer_of-clause-net : goal.returns-in-Ok-layer_of-clause-net
returns-in-Ok-layer_of-clause-net g c =
    let changes = c.in-Ok.net.0 in
    let made = c.in-Ok-is_tree.ensures.tree in
    let stored : IsStoredTree (changed changes made.records) = subst (λ (cs : List Change). IsStoredTree (changed cs made.records)) c.as_slice.ensures made.tree in
    record {
      records = made.records;
      are = made.are;
      net = subst (λ (cs : List Change). NetOf made.records c.args.base c.args.commits cs c.in-Ok.net.1) (sym c.in-Ok-layer_of.ensures)
          (net_is made.records c.args.base c.args.commits changes c.in-Ok.net.1 (changed changes made.records) made.are.sorted c.in-Ok.ensures.rising c.in-Ok.ensures.effect c.in-Ok.ensures.number refl stored);
    }

pub returns-in-Err-is_tree-clause-reason : goal.returns-in-Err-is_tree-clause-reason
returns-in-Err-is_tree-clause-reason g c = reason_leads _ _ _ _ c.in-Err-is_tree.fault
    (λ place found known. subst (λ (es : Entries). IsMisfit es place)
    (ap (λ (cs : List Change). changed cs found.records) c.as_slice.ensures ∙ c.in-Ok.ensures.effect found.records found.are.sorted ∙ ap (after_commits c.args.commits) (found.are.all known)) found.misfit)
    (λ rose. rose) c.in-Err-is_tree.ensures.reason
