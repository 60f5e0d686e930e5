use Rattle.std.proofs.Common.{◌≡◌, [], Some, subst, unwrap_or}
use Rattle.tree_model.specs.Entries.{Entries}
use Rattle.tree_model.specs.Changes.{laid}
use Rattle.overlays.specs.Views.{contents_after}
use Rattle.overlays.specs.Stretches.{AreWithin, IsEmpty}
use Rattle.overlays.specs.inside.Passing.{with_piece}
use Rattle.overlays.proofs.StretchLaws.{some_on}
use Rattle.overlays.proofs.PassLaws.{noted_on, empty_with}
use Rattle.overlays.proofs.view.note_gone.Goals as goal

pub returns-in_err-note_if-clause-empty : goal.returns-in_err-note_if-clause-empty
returns-in_err-note_if-clause-empty g c = λ es t.
    let seen = contents_after c.args.own.now (contents_after c.args.layers.now.changes (g.S.NodeRead.contents c.args.base.now)) in
    empty_with c.in_ok-come.stretch c.args.gaps.now c.note_if.new.gaps es
    (some_on (λ s. (es : Entries) → seen ≡ Some es → IsEmpty s es) (λ s. IsEmpty s es) c.in_ok-come.stretch (λ s h. h es t) c.in_ok-come.ensures.passed) (c.requires.empty es t)
    (subst (λ v. AreWithin c.note_if.new.gaps (with_piece c.in_ok-come.stretch v)) c.keep_hint.ensures c.note_if.ensures.within)

pub returns-clause-empty : goal.returns-clause-empty
returns-clause-empty g c = λ es t.
    let seen = contents_after c.args.own.now (contents_after c.args.layers.now.changes (g.S.NodeRead.contents c.args.base.now)) in
    empty_with c.in_ok-come.stretch c.args.gaps.now c.note_if.new.gaps es
    (some_on (λ s. (es : Entries) → seen ≡ Some es → IsEmpty s es) (λ s. IsEmpty s es) c.in_ok-come.stretch (λ s h. h es t) c.in_ok-come.ensures.passed) (c.requires.empty es t)
    (subst (λ v. AreWithin c.note_if.new.gaps (with_piece c.in_ok-come.stretch v)) c.keep_hint.ensures c.note_if.ensures.within)

pub returns-clause-noted : goal.returns-clause-noted
returns-clause-noted g c =
    noted_on c.args.toward c.args.key.now (unwrap_or c.in_ok-come.come.at c.args.key.now) (laid c.args.own.now c.args.layers.now.changes) c.args.gaps.now (with_piece c.in_ok-come.stretch []) c.note_if.new.gaps
    (g.S.NodeRead.reads c.args.base.now) (g.S.NodeRead.reads c.pass_gone.new.base) c.in_ok-come.ensures.noted c.in_ok-note_if.ensures.noted
