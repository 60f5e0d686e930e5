use Rattle.std.proofs.lemmas.Result.{err_from_is_err_and}
use Rattle.journal.proofs.StepLaws.{images_to_view, images_stop_of_view}
use Rattle.journal.proofs.journal.Journal.append_images.Goals as goal

pub returns-in_err-append_images-clause-stops : goal.returns-in_err-append_images-clause-stops
returns-in_err-append_images-clause-stops g c =
    let p = err_from_is_err_and c.from_residual.result c.from_residual.ensures.1 in
    rw p.1 (λ is_known. images_stop_of_view _ _ _ _ _ c.self.view_is (c.in_err-append_images.ensures.stops is_known))

pub returns-clause-durable : goal.returns-clause-durable
returns-clause-durable g c is_known = images_to_view _ _ _ _ _ c.self.view_is (c.in_ok-append_images.ensures.adds is_known)
