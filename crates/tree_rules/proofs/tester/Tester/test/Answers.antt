use Rattle.std.proofs.Common.{◌++◌, ◌∷◌, [], ◌∙◌, sym, subst}
use Rattle.tree_model.specs.declared.key.Key.{Key}
use Rattle.tree_model.specs.declared.record.Record.{Record}
use Rattle.tree_rules.specs.declared.tester.Tester.{Tester}
use Rattle.tree_rules.specs.Testing.{HasTaken, IsNext}
use Rattle.tree_rules.proofs.TestLaws.{taken_misfit, taken_more}
use Rattle.tree_rules.proofs.tester.Tester.test.Goals as goal

pub returns-then-fits : goal.returns-then-fits
returns-then-fits c es has =
    let x : Key × Record = (c.args.key.now, c.args.value.now) in
    subst (λ (t : Tester). HasTaken t (es ++ x ∷ [])) (sym c.in_ok-count.ensures)
    (taken_more c.args.self.now c.keep.new.self es x has c.requires.unbroken c.in_ok-keep.ensures.taken c.in_ok-keep.ensures.broken
    (λ s keeps.
    let next : IsNext c.args.self.now es x = record { keeps = keeps; sorted = s; label = c.in_ok-fits.ensures.label } in
    c.in_ok-keep.ensures.keeps es next (sym (c.in_ok-fits.ensures.fits es next) ∙ c.if-fits.true)))

pub returns : goal.returns
returns c es has =
    let x : Key × Record = (c.args.key.now, c.args.value.now) in
    subst (λ (t : Tester). HasTaken t (es ++ x ∷ [])) (sym c.in_ok-count-2.ensures)
    (taken_misfit c.args.self.now es x has c.requires.unbroken (λ next. sym (c.in_ok-fits.ensures.fits es next) ∙ c.if-fits.false) c.in_ok-fits.ensures.label)
