use Rattle.std.proofs.Common.{◌≡◌, sym, ap, subst, ◌∙◌, ◌++◌, ◌∷◌, [], take, length, get_or, arith}
use Rattle.std.proofs.lemmas.Bool.{OnFalse_at}
use Rattle.dewey_labels.specs.LabelText.{BeginsLabelText}
use Rattle.dewey_labels.proofs.Reading.{refused_at}
use Rattle.dewey_labels.proofs.label.Label.read_bytes.Goals as goal

pub returns-then-not-branch-clause-cause : goal.returns-then-not-branch-clause-cause
returns-then-not-branch-clause-cause c =
    let t = c.args.text.now in
    let at : c.loop-byte.reader ≡ take c.loop-byte.byte-index t = c.loop-byte.invariant in
    let no = OnFalse_at c.if-not-branch.true c.in_ok-read.ensures.refused in
    refused_at t c.loop-byte.byte-index c.place.result (omega arith) (c.place.ensures.place ∙ ap length (no.0 ∙ at)) (subst BeginsLabelText (no.0 ∙ at) c.place.ensures.begins)
    (λ b. no.1 (subst (λ v. BeginsLabelText (v ++ get_or t c.loop-byte.byte-index 0 ∷ [])) (sym at) b))
