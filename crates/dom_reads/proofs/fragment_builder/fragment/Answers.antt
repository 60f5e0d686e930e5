use Rattle.std.proofs.Common.{rules, ◌≡◌, [], ◌∷◌, List, map, refl, sym, ap, ◌∙◌}
use Rattle.std.proofs.lemmas.Iterator.Adapters.{YieldsList-from_vec}
use Rattle.std.proofs.lemmas.Iterator.Consumers.{YieldsList-end}
use Rattle.std.proofs.lemmas.Result.{IfOk-weaker}
use Rattle.tree_model.specs.declared.key.Key.{Key}
use Rattle.tree_model.specs.declared.record.Record.{Record}
use Rattle.tree_model.specs.Entries.{Entries}
use Rattle.dom_reads.specs.inside.FragmentBuilders.{add, add_all, finished, nothing_made}
use Rattle.dom_reads.proofs.BuiltFragments.{add_all-append, subtree_built}
use Rattle.dom_reads.proofs.fragment_builder.fragment.Goals as goal

pub loop-entry-preserved : goal.loop-entry-preserved
loop-entry-preserved c =
    let e : Key × Record = c.in-Some.entry in
    c.in_ok-add.ensures ∙ ap (add e.0 e.1) c.loop-entry.invariant ∙ sym (add_all-append c.loop-entry.yielded (e ∷ []) nothing_made)

each_as_it_is : {A : Type 0} (xs : List A) → xs ≡ map (λ x. x) xs
each_as_it_is [] = refl
each_as_it_is (x ∷ xs) = ap (λ v. x ∷ v) (each_as_it_is xs)

pub returns : goal.returns
returns c =
    let yielded : Entries = c.loop-entry.yielded in
    let items : Entries = c.into_vec-entry-items.result.items in
    let all : yielded ≡ c.args.entries =
    each_as_it_is yielded
    ∙ (YieldsList-end (YieldsList-from_vec {s = c.into_iter-entry-iterator.result} items (search rules) (search rules)) yielded c.loop-entry.entry-iterator c.loop-entry.yielded_by c.next.result c.next.new.self c.in-None.is c.next.ensures.steps).0
    ∙ c.into_vec-entry-items.ensures in
    record {
      fragment = IfOk-weaker c.finish.result _ _ (λ found h l t w e.
          h ∙ ap finished (c.loop-entry.invariant ∙ ap (λ (v : Entries). add_all v nothing_made) (all ∙ e)) ∙ subtree_built l t w) c.finish.ensures;
    }
