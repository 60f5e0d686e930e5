use Rattle.std.proofs.Common.{◌≡◌, true, sym, subst}
use Rattle.overlays.specs.Stretches.{is_covered}
use Rattle.overlays.proofs.StretchLaws.{note_kept}
use Rattle.overlays.proofs.gaps.Gaps.note.Goals as goal

pub returns-clause-kept : goal.returns-clause-kept
returns-clause-kept c = λ j h.
    note_kept c.joined-whole.result c.args.stretch c.make_place-gone.result c.self.inside.stretches.items c.joined-whole.new.stretches.items c.make_place-gone.new.stretches.items c.add.new.stretches.items
    c.joined-whole.ensures.whole c.make_place-gone.ensures.left c.in_ok-add.ensures.whole j (subst (λ v. is_covered v j ≡ true) (sym c.self.view_is) h)
