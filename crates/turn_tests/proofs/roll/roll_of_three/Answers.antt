use Rattle.std.proofs.Common.{ℕ, false, sym, ap, ap₂, subst, lit<, ◌∙◌}
use Rattle.std.specs.Prelude.{slice_set}
use Rattle.turn_lock.specs.Turns.{HasAll, PassView, merged}
use Rattle.turn_tests.proofs.Rolls.{both_back}
use Rattle.turn_tests.proofs.roll.roll_of_three.Goals as goal

pub close-requires-clause-all : goal.close-requires-clause-all
close-requires-clause-all g c =
    let has = λ (p : PassView ℕ). p.has in
    let rest = ap has c.split-last.ensures.kept ∙ ap (λ h. slice_set h 64 false) (ap has c.split-seven.ensures.kept ∙ ap (λ h. slice_set h 7 false) (ap has c.in-Ok.ensures.ok)) in
    let rest_met = ap has c.meet-2.ensures.other ∙ c.in_ok-write-3.ensures.kept.2 ∙ rest in
    let last = c.in_ok-write-2.ensures.kept.2 ∙ ap has c.meet.ensures.pass ∙ ap has c.split-last.ensures.given in
    let seven = c.in_ok-write-4.ensures.kept.2 ∙ ap has c.meet-2.ensures.pass ∙ ap has c.meet.ensures.other ∙ c.in_ok-write.ensures.kept.2 ∙ ap has c.split-seven.ensures.given in
    let joined = c.in_ok-write-5.ensures.kept.2 ∙ ap has c.join.ensures.pass ∙ ap₂ merged rest_met last in
    subst HasAll (sym (ap has c.join-2.ensures.pass ∙ ap₂ merged joined seven)) (both_back 7 64 (lit< tt) (lit< tt))
