use Rattle.std.proofs.Common.{inl, inr, refl}
use Rattle.std.proofs.lemmas.Result.{err_from_is_err_and}
use Rattle.journal.proofs.file.write_group.Goals as goal

pub returns-in_err-sync-2-clause-stops : goal.returns-in_err-sync-2-clause-stops
returns-in_err-sync-2-clause-stops g c =
    let p = err_from_is_err_and c.from_residual-in_err-sync-2.result c.from_residual-in_err-sync-2.ensures.1 in
    rw p.1 (λ is_known. inr (_, c.in_ok-write_at.ensures.ok is_known, inr (_, c.in_ok-sync.ensures.ok is_known, inr (_, c.in_ok-write_at-2.ensures.ok is_known, inl (c.in_err-sync-2.ensures.err is_known)))))

pub returns-clause-does : goal.returns-clause-does
returns-clause-does g c is_known = (_, c.in_ok-write_at.ensures.ok is_known, (_, c.in_ok-sync.ensures.ok is_known, (_, c.in_ok-write_at-2.ensures.ok is_known, (_, c.in_ok-sync-2.ensures.ok is_known, refl))))
