use Rattle.std.proofs.Common.{arith, ◌∙◌, ◌<◌, ◌+◌, length}
use Rattle.std.proofs.lemmas.Result.{err_from_is_err_and}
use Rattle.journal.proofs.ImageSteps.{images_stopped, images_leave, images_added, images_held, length-images}
use Rattle.journal.proofs.StandLaws.{within}
use Rattle.journal.proofs.StepLaws.{framed_does, framed_stops}
use Rattle.journal.proofs.file.JournalFile.append_images.Goals as goal

pub write_group-requires : goal.write_group-requires
write_group-requires g c = record {
  fits = c.requires.kept.fits;
  within = λ is_known. within _ _ _ (c.requires.kept.settled is_known).stands;
}

pub returns-in_err-write_group-clause-stops : goal.returns-in_err-write_group-clause-stops
returns-in_err-write_group-clause-stops g c =
    let p = err_from_is_err_and c.from_residual.result c.from_residual.ensures.1 in
    let framing = c.as_slice-framed.ensures.value ∙ c.frame.ensures.framed in
    rw p.1 (λ is_known. framed_stops _ _ _ _ _ framing (c.in_err-write_group.ensures.stops is_known))

pub returns-in_err-write_group-clause-any_moment : goal.returns-in_err-write_group-clause-any_moment
returns-in_err-write_group-clause-any_moment g c is_known =
    let framing = c.as_slice-framed.ensures.value ∙ c.frame.ensures.framed in
    images_stopped _ _ _ (c.requires.kept.settled is_known) c.args.number c.args.body.now c.ranges.number.fits c.requires.images _
    (framed_stops _ _ _ _ _ framing (c.in_err-write_group.ensures.stops is_known))

pub returns-clause-any_moment : goal.returns-clause-any_moment
returns-clause-any_moment g c is_known =
    let framing = c.as_slice-framed.ensures.value ∙ c.frame.ensures.framed in
    images_leave _ _ _ (c.requires.kept.settled is_known) c.args.number c.args.body.now c.ranges.number.fits c.requires.images _
    (framed_does _ _ _ _ _ framing (c.in_ok-write_group.ensures.does is_known))

pub returns-clause-adds : goal.returns-clause-adds
returns-clause-adds g c is_known =
    let framing = c.as_slice-framed.ensures.value ∙ c.frame.ensures.framed in
    images_added _ _ _ (c.requires.kept.settled is_known) c.args.number c.args.body.now c.ranges.number.fits c.requires.images _
    (framed_does _ _ _ _ _ framing (c.in_ok-write_group.ensures.does is_known))

pub returns-clause-held : goal.returns-clause-held
returns-clause-held g c =
    let framing = c.as_slice-framed.ensures.value ∙ c.frame.ensures.framed in
    let past : 8 < c.args.self.now.gate + length c.as_slice-framed.result.now = omega (arith, length-images c.args.number c.args.body.now c.as_slice-framed.result.now c.ranges.number.fits c.requires.images.short framing) in
    record {
      holding = λ is_known.
          images_held _ _ _ (c.requires.kept.settled is_known) c.args.number c.args.body.now c.ranges.number.fits c.requires.images _
          (framed_does _ _ _ _ _ framing (c.in_ok-write_group.ensures.does is_known)) _ past;
      past = past;
    }

pub returns-clause-gate : goal.returns-clause-gate
returns-clause-gate g c = omega (arith, length-images c.args.number c.args.body.now c.as_slice-framed.result.now c.ranges.number.fits c.requires.images.short (c.as_slice-framed.ensures.value ∙ c.frame.ensures.framed))
