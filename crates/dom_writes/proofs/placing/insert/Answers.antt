use Rattle.std.proofs.Common.{Bor, Option, option_map, sym, ap, ◌∙◌}
use Rattle.dewey_labels.specs.declared.label.Label.{Label}
use Rattle.tree_model.specs.Changes.{differences}
use Rattle.tree_model.specs.Fragments.{plain}
use Rattle.tree_model.specs.Placing.{insert}
use Rattle.tree_model.specs.Tree.{map_of}
use Rattle.dom_writes.proofs.PlacedCalls.{insert_changes}
use Rattle.dom_writes.proofs.placing.insert.Goals as goal

pub returns-clause-changes : goal.returns-clause-changes
returns-clause-changes g c = λ t stands.
    let p = c.args.at.now in
    c.in_ok-put_fragment.ensures.changes
    ∙ insert_changes p c.in-Some.child.now c.args.fragment.now t c.in_ok-place.place stands.valid c.requires.may_bring.fragment c.in_ok-place.ensures.suits (c.in_ok-place.ensures.place t stands)
    ∙ ap (λ (o : Option (Bor Label)). differences (map_of t) (map_of (insert p (option_map (λ l. l.now) o) (plain c.args.fragment.now) t).1)) (sym c.in-Some.is)
