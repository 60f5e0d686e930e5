use Rattle.std.proofs.Common.{rules, ◌≡◌, List, [], ◌∷◌, map, refl, sym, ap, subst, ◌∙◌, append_assoc, append-nil}
use Rattle.std.proofs.lemmas.Iterator.Adapters.{YieldsList-from_vec}
use Rattle.std.proofs.lemmas.Iterator.Consumers.{YieldsList-end}
use Rattle.tree_model.specs.declared.key.Key.{Key}
use Rattle.tree_model.specs.declared.record.Record.{Record}
use Rattle.tree_model.specs.Changes.{differences}
use Rattle.tree_model.specs.Entries.{Entries, Sorted}
use Rattle.node_seq.specs.ChangeLists.{IsChangeList}
use Rattle.dom_writes.proofs.MergeLaws.{merge_goes_on, sorted_above, differences_change_list}
use Rattle.dom_writes.proofs.merges.differences_between.Goals.{After-drop-out}
use Rattle.dom_writes.proofs.merges.differences_between.Goals as goal

pub loop-entry-preserved : goal.loop-entry-preserved
loop-entry-preserved c =
    let x : Key × Record = c.in-Some.entry in
    let es : Entries = c.loop-entry.rest.now in
    record {
      sorted = subst Sorted (sym c.in_ok-rest.ensures.rest) (sorted_above x.0 es c.loop-entry.invariant.sorted);
      changes = λ more.
          merge_goes_on x es c.in_ok-rest.rest.now more c.loop-entry.changes c.change_up_to.new.changes c.in_ok-rest.ensures.changes c.in_ok-rest.ensures.rest
          ∙ c.loop-entry.invariant.changes (x ∷ more) ∙ ap (differences c.args.old.now) (sym (append_assoc c.loop-entry.yielded (x ∷ []) more));
    }

each_as_it_is : {A : Type 0} (xs : List A) → xs ≡ map (λ x. x) xs
each_as_it_is [] = refl
each_as_it_is (x ∷ xs) = ap (λ v. x ∷ v) (each_as_it_is xs)

all_met : (c : After-drop-out) → c.push_drops.new.changes ≡ differences c.args.old.now c.args.new
all_met c =
    let yielded : Entries = c.loop-entry.yielded in
    let items : Entries = c.into_vec-entry-items.result.items in
    let all : yielded ≡ c.args.new =
    each_as_it_is yielded
    ∙ (YieldsList-end (YieldsList-from_vec {s = c.into_iter-entry-iterator.result} items (search rules) (search rules)) yielded c.loop-entry.entry-iterator c.loop-entry.yielded_by c.next.result c.next.new.self c.in-None.is c.next.ensures.steps).0
    ∙ c.into_vec-entry-items.ensures in
    c.in_ok-push_drops.ensures ∙ c.loop-entry.invariant.changes [] ∙ ap (differences c.args.old.now) (append-nil yielded ∙ all)

pub returns-clause-ok : goal.returns-clause-ok
returns-clause-ok c = all_met c

pub returns-clause-rise : goal.returns-clause-rise
returns-clause-rise c sorted valid = subst IsChangeList (sym (all_met c)) (differences_change_list c.args.old.now c.args.new c.requires.sorted sorted valid)
