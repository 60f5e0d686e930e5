use Rattle.std.proofs.Common.{ℕ, List, ◌∙◌, sym, subst}
use Rattle.recovery.specs.inside.Finishing.{ArePages, IsRowOf}
use Rattle.recovery.proofs.PagedSteps.{err_then, ok_then, reason_leads}
use Rattle.recovery.proofs.TestLaws.{judged_is, sound_row}
use Rattle.recovery.proofs.finishing.tested.Goals as goal

pub returns-in-Ok-clause-sound : goal.returns-in-Ok-clause-sound
returns-in-Ok-clause-sound g c = ok_then c.judged.result _ _ (λ count is known are.
    let row = subst (λ (l : List (ℕ × List ℕ)). ArePages l → IsRowOf (g.P.Disk.history c.args.pages.now).now.reads l c.in-Ok.row) c.as_slice.ensures (c.in-Ok.ensures.found known) are in
    sound_row (g.P.Disk.history c.args.pages.now).now.reads c.args.images.now are c.in-Ok.row count row is) c.judged.ensures.sound

pub returns-in-Ok-clause-reason : goal.returns-in-Ok-clause-reason
returns-in-Ok-clause-reason g c = err_then c.judged.result _ _ (λ fault reason. reason_leads _ _ _ _ fault
    (λ place is known are.
    let row = subst (λ (l : List (ℕ × List ℕ)). ArePages l → IsRowOf (g.P.Disk.history c.args.pages.now).now.reads l c.in-Ok.row) c.as_slice.ensures (c.in-Ok.ensures.found known) are in
    sym (judged_is (g.P.Disk.history c.args.pages.now).now.reads c.args.images.now are c.in-Ok.row row) ∙ is) (λ never. absurd never) reason) c.judged.ensures.damage
