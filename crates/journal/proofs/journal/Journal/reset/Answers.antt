use Rattle.std.proofs.lemmas.Result.{err_from_is_err_and}
use Rattle.journal.proofs.StepLaws.{clears_view, reset_stops_of_view}
use Rattle.journal.proofs.journal.Journal.reset.Goals as goal

pub returns-in_err-reset-clause-stops : goal.returns-in_err-reset-clause-stops
returns-in_err-reset-clause-stops g c =
    let p = err_from_is_err_and c.from_residual.result c.from_residual.ensures.1 in
    rw p.1 (λ is_known. reset_stops_of_view _ _ _ c.self.view_is (c.in_err-reset.ensures.stops is_known))

pub returns-clause-durable : goal.returns-clause-durable
returns-clause-durable g c is_known = clears_view _ _ _ c.self.view_is (c.in_ok-reset.ensures.clears is_known)
