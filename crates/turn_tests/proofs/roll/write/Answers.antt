use Rattle.std.proofs.Common.{◌≡◌, ℕ, true, ◌++◌, ◌∷◌, [], sym, ap, subst, ◌∙◌}
use Rattle.turn_lock.specs.Turns.{PassView, has_number}
use Rattle.turn_tests.proofs.Rolls.{wrote}
use Rattle.turn_tests.proofs.roll.write.Goals as goal

pub give-requires-clause-grew : goal.give-requires-clause-grew
give-requires-clause-grew g c =
    let seen = ap (λ (p : PassView ℕ). p.seen) c.take-turn.ensures.pass in
    let has = ap (λ (p : PassView ℕ). p.has) c.take-turn.ensures.pass in
    wrote c.take-turn.new.pass.has c.take-turn.new.pass.seen c.push.new.self.items c.args.number
    (c.in_ok-push.ensures.items ∙ ap (λ xs. xs ++ c.args.number ∷ []) (sym seen))
    (subst (λ h. has_number h c.args.number ≡ true) (sym has) c.requires.number)
