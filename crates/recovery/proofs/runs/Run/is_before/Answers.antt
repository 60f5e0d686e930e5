use Rattle.std.proofs.Common.{◌≡◌, ◌-◌, is_lt, length, slice_get, List, Some, Less, ap, sym, subst, ◌∙◌}
use Rattle.tree_model.specs.declared.change.Change.{Change}
use Rattle.tree_model.specs.Changes.{Rising}
use Rattle.tree_model.specs.Keys.{key_cmp}
use Rattle.tree_model.proofs.Orders.{lt_is}
use Rattle.recovery.proofs.RunLaws.{IsLast, joined_rise}
use Rattle.recovery.proofs.runs.Run.is_before.Goals as goal

pub returns-in-Some-Some : goal.returns-in-Some-Some
returns-in-Some-Some c = λ before.
    let xs : List Change = c.args.self.now in
    let ys : List Change = c.args.other.now in
    let last = c.in-Some-Some.last.now in
    let first = c.in-Some-Some.first.now in
    let ends : IsLast xs last = subst (λ (v : List Change). Some last ≡ slice_get v (length v - 1)) (c.deref.ensures.value ∙ c.self.view_is) c.in-Some-Some.ensures.value in
    let begins : Some first ≡ slice_get ys 0 = subst (λ (v : List Change). Some first ≡ slice_get v 0) (c.deref-2.ensures.value ∙ c.other.view_is) c.in-Some-Some.ensures'.value in
    let less : key_cmp last.key first.key ≡ Less = lt_is (key_cmp last.key first.key) (ap is_lt (sym c.cmp.ensures) ∙ sym c.is_lt.ensures ∙ before) in
    joined_rise xs ys last first (subst Rising c.self.view_is c.self.invariant) (subst Rising c.other.view_is c.other.invariant) ends begins less
