use Rattle.std.proofs.Common.{◌++◌, Option, sym, subst}
use Rattle.std.proofs.lemmas.List.{append-nil}
use Rattle.tree_model.specs.Entries.{Entries}
use Rattle.tree_model.specs.declared.record.Record.{Record}
use Rattle.tree_rules.specs.Testing.{HasTaken}
use Rattle.recovery.specs.inside.Merging.{standing}
use Rattle.recovery.proofs.merging.put_one.Goals as goal

pub returns-in_ok-take-in-Some : goal.returns-in_ok-take-in-Some
returns-in_ok-take-in-Some c taken has =
    subst (λ (o : Option Record). HasTaken c.take.new.self (taken ++ standing c.args.change.now.key o)) (sym c.in-Some.is) (c.in_ok-take-in-Some.ensures taken has)

pub returns-in-None : goal.returns-in-None
returns-in-None c taken has =
    subst (λ (o : Option Record). HasTaken c.args.tester.now (taken ++ standing c.args.change.now.key o)) (sym c.in-None.is)
    (subst (λ (es : Entries). HasTaken c.args.tester.now es) (sym (append-nil taken)) has)
