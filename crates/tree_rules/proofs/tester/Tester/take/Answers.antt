use Rattle.std.proofs.Common.{◌++◌, ◌∷◌, [], sym, subst}
use Rattle.tree_model.specs.declared.key.Key.{Key}
use Rattle.tree_model.specs.declared.record.Record.{Record}
use Rattle.tree_rules.specs.declared.tester.Tester.{Tester}
use Rattle.tree_rules.specs.Testing.{HasTaken}
use Rattle.tree_rules.proofs.TestLaws.{taken_behind}
use Rattle.tree_rules.proofs.tester.Tester.take.Goals as goal

pub returns-in_ok-count-in-Some : goal.returns-in_ok-count-in-Some
returns-in_ok-count-in-Some c es has =
    let x : Key × Record = (c.args.key.now, c.args.value.now) in
    subst (λ (t : Tester). HasTaken t (es ++ x ∷ [])) (sym c.in_ok-count-in-Some.ensures) (taken_behind c.args.self.now es x c.in-Some._first has c.in-Some.is)
