use Rattle.std.proofs.Common.{◌≡◌, [], ◌∷◌, ◌++◌, ◌+◌, drop, arith, ap, sym, ◌∙◌, append_assoc, append-nil}
use Rattle.std.proofs.lemmas.List.{drop_more, drop_all}
use Rattle.dewey_labels.specs.NewLabels.{first_division}
use Rattle.tree_model.specs.declared.record.Record.TheVariants.{Element}
use Rattle.tree_model.specs.Entries.{Entries}
use Rattle.tree_model.specs.Fragments.{plain, plain_row}
use Rattle.tree_model.specs.Graft.{all_within, graft, graft_below}
use Rattle.tree_model.specs.Tree.{none, entries_of, own}
use Rattle.dom_writes.proofs.GraftSteps.{child_entries, child_is_label, child_within, code_after, division_within, element_entries}
use Rattle.dom_writes.proofs.grafts.+push_graft.Goals as goal

pub child_label-requires : goal.child_label-requires
child_label-requires t c =
    let l = c.loop-child in
    let at = c.args.at.now in
    let xs = c.as_slice-child-items.result.now in
    let rest = drop (l.child-index + 1) xs in
    let here : drop l.child-index xs ≡ c.child-item.result ∷ rest = drop_more xs l.child-index c.child-item.result (omega arith) ∙ ap (λ y. y ∷ rest) (sym c.child-item.is) in
    let within = child_within at l.division c.child-item.result (plain_row rest) (ap (λ fs. all_within (graft_below at l.division (plain_row fs))) (sym here) ∙ l.invariant.within) in
    record { label = child_is_label at l.division c.divisions-divisions.ensures.label l.invariant.code within.label }

pub overflow_add-division : goal.overflow_add-division
overflow_add-division t c =
    let l = c.loop-child in
    let at = c.args.at.now in
    let xs = c.as_slice-child-items.result.now in
    let rest = drop (l.child-index + 1) xs in
    let here : drop l.child-index xs ≡ c.child-item.result ∷ rest = drop_more xs l.child-index c.child-item.result (omega arith) ∙ ap (λ y. y ∷ rest) (sym c.child-item.is) in
    let within = child_within at l.division c.child-item.result (plain_row rest) (ap (λ fs. all_within (graft_below at l.division (plain_row fs))) (sym here) ∙ l.invariant.within) in
    omega (arith, division_within at l.division within.label)

pub loop-child-preserved : goal.loop-child-preserved
loop-child-preserved t c =
    let l = c.loop-child in
    let at = c.args.at.now in
    let xs = c.as_slice-child-items.result.now in
    let x = c.child-item.result in
    let rest = drop (l.child-index + 1) xs in
    let here : drop l.child-index xs ≡ x ∷ rest = drop_more xs l.child-index x (omega arith) ∙ ap (λ y. y ∷ rest) (sym c.child-item.is) in
    let within = child_within at l.division x (plain_row rest) (ap (λ fs. all_within (graft_below at l.division (plain_row fs))) (sym here) ∙ l.invariant.within) in
    let behind : Entries = entries_of (graft_below at (l.division + 2) (plain_row rest)) in
    let so_far : Entries = l.entries in
    record {
      code = code_after l.division l.invariant.code;
      within = within.others;
      entries =
          ap (λ (v : Entries). v ++ behind) c.in_ok-push_graft-in-Element.ensures
          ∙ ap (λ m. (so_far ++ entries_of (graft m (plain x) none)) ++ behind) c.in_ok-label-in-Element.ensures
          ∙ append_assoc so_far (entries_of (graft (at ++ (l.division ∷ [])) (plain x) none)) behind
          ∙ ap (λ (v : Entries). so_far ++ v) (sym (child_entries at l.division x (plain_row rest)))
          ∙ ap (λ fs. so_far ++ entries_of (graft_below at l.division (plain_row fs))) (sym here)
          ∙ l.invariant.entries;
    }

pub returns-after-loop-child : goal.returns-after-loop-child
returns-after-loop-child t c =
    let l = c.loop-child in
    let at = c.args.at.now in
    let xs = c.as_slice-child-items.result.now in
    let e = c.in-Element in
    let so_far : Entries = l.entries in
    let before : Entries = c.args.entries.now in
    let own_entries : Entries = own at (Element e.name) e.attrs in
    sym (append-nil so_far)
    ∙ ap (λ fs. so_far ++ entries_of (graft_below at l.division (plain_row fs))) (sym (drop_all l.child-index xs (omega arith)))
    ∙ l.invariant.entries
    ∙ ap (λ (v : Entries). v ++ entries_of (graft_below at first_division (plain_row xs))) c.in_ok-push_element-in-Element.ensures
    ∙ append_assoc before own_entries (entries_of (graft_below at first_division (plain_row xs)))
    ∙ ap (λ fs. before ++ (own_entries ++ entries_of (graft_below at first_division (plain_row fs)))) c.as_slice-child-items.ensures
    ∙ ap (λ (v : Entries). before ++ v) (sym (element_entries at e.name e.attrs e.children))
    ∙ ap (λ f. before ++ entries_of (graft at (plain f) none)) (sym e.is)
