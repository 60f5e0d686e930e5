use Rattle.std.proofs.Common.{arith, ◌≢◌}
use Rattle.std.proofs.lemmas.Result.{err_from_is_err_and}
use Rattle.journal.proofs.ResetSteps.{holding, nothing_open, reset_clears, reset_leaves, reset_ready, reset_settled, reset_stops_first, reset_stops_second, reset_torn, reset_unsynced, unheld_at_first}
use Rattle.journal.proofs.file.JournalFile.reset.Goals as goal

pub returns-then-self-eq-FIRST_GATE-clause-kept : goal.returns-then-self-eq-FIRST_GATE-clause-kept
returns-then-self-eq-FIRST_GATE-clause-kept g c = c.requires.kept (unheld_at_first g.J.Disk.is_known c.args.self.now.has_images _ c.args.self.now.gate c.requires.held (omega arith))

pub returns-then-self-eq-FIRST_GATE-clause-has_images : goal.returns-then-self-eq-FIRST_GATE-clause-has_images
returns-then-self-eq-FIRST_GATE-clause-has_images g c = unheld_at_first g.J.Disk.is_known c.args.self.now.has_images _ c.args.self.now.gate c.requires.held (omega arith)

pub returns-then-self-eq-FIRST_GATE-clause-clears : goal.returns-then-self-eq-FIRST_GATE-clause-clears
returns-then-self-eq-FIRST_GATE-clause-clears g c is_known =
    let kept = c.requires.kept (unheld_at_first g.J.Disk.is_known c.args.self.now.has_images _ c.args.self.now.gate c.requires.held (omega arith)) in
    nothing_open _ c.args.self.now.gate _ (kept.settled is_known) (omega arith)

pub write_at-requires : goal.write_at-requires
write_at-requires g c = record {
  within = λ is_known.
      let some : c.args.self.now.gate ≢ 8 = λ is. omega (arith, is) in
      reset_ready _ _ (holding g.J.Disk.is_known c.args.self.now.has_images _ c.args.self.now.gate c.args.self.now.last c.requires.kept c.requires.held is_known some);
}

pub returns-in_err-write_at-clause-any_moment : goal.returns-in_err-write_at-clause-any_moment
returns-in_err-write_at-clause-any_moment g c is_known =
    let some : c.args.self.now.gate ≢ 8 = λ is. omega (arith, is) in
    let holds = holding g.J.Disk.is_known c.args.self.now.has_images _ c.args.self.now.gate c.args.self.now.last c.requires.kept c.requires.held is_known some in
    reset_torn _ _ holds _ (c.in_err-write_at.ensures.err is_known)

pub returns-in_err-write_at-clause-stops : goal.returns-in_err-write_at-clause-stops
returns-in_err-write_at-clause-stops g c =
    let p = err_from_is_err_and c.from_residual.result c.from_residual.ensures.1 in
    rw p.1 (λ is_known.
    let some : c.args.self.now.gate ≢ 8 = λ is. omega (arith, is) in
    let holds = holding g.J.Disk.is_known c.args.self.now.has_images _ c.args.self.now.gate c.args.self.now.last c.requires.kept c.requires.held is_known some in
    reset_stops_first _ _ holds _ some (c.in_err-write_at.ensures.err is_known))

pub returns-in_err-sync-clause-any_moment : goal.returns-in_err-sync-clause-any_moment
returns-in_err-sync-clause-any_moment g c is_known =
    let some : c.args.self.now.gate ≢ 8 = λ is. omega (arith, is) in
    let holds = holding g.J.Disk.is_known c.args.self.now.has_images _ c.args.self.now.gate c.args.self.now.last c.requires.kept c.requires.held is_known some in
    reset_unsynced _ _ holds _ (c.in_ok-write_at.ensures.ok is_known) _ (c.in_err-sync.ensures.err is_known)

pub returns-in_err-sync-clause-stops : goal.returns-in_err-sync-clause-stops
returns-in_err-sync-clause-stops g c =
    let p = err_from_is_err_and c.from_residual-in_err-sync.result c.from_residual-in_err-sync.ensures.1 in
    rw p.1 (λ is_known.
    let some : c.args.self.now.gate ≢ 8 = λ is. omega (arith, is) in
    let holds = holding g.J.Disk.is_known c.args.self.now.has_images _ c.args.self.now.gate c.args.self.now.last c.requires.kept c.requires.held is_known some in
    reset_stops_second _ _ holds _ _ some (c.in_ok-write_at.ensures.ok is_known) (c.in_err-sync.ensures.err is_known))

pub returns-clause-kept : goal.returns-clause-kept
returns-clause-kept g c = record {
  settled = λ is_known.
      let some : c.args.self.now.gate ≢ 8 = λ is. omega (arith, is) in
      let holds = holding g.J.Disk.is_known c.args.self.now.has_images _ c.args.self.now.gate c.args.self.now.last c.requires.kept c.requires.held is_known some in
      reset_settled _ _ holds _ (c.in_ok-write_at.ensures.ok is_known) _ (c.in_ok-sync.ensures.ok is_known) _;
  fits = omega arith;
}

pub returns-clause-clears : goal.returns-clause-clears
returns-clause-clears g c is_known =
    let some : c.args.self.now.gate ≢ 8 = λ is. omega (arith, is) in
    let holds = holding g.J.Disk.is_known c.args.self.now.has_images _ c.args.self.now.gate c.args.self.now.last c.requires.kept c.requires.held is_known some in
    reset_clears _ _ holds _ (c.in_ok-write_at.ensures.ok is_known) _ (c.in_ok-sync.ensures.ok is_known) some

pub returns-clause-any_moment : goal.returns-clause-any_moment
returns-clause-any_moment g c is_known =
    let some : c.args.self.now.gate ≢ 8 = λ is. omega (arith, is) in
    let holds = holding g.J.Disk.is_known c.args.self.now.has_images _ c.args.self.now.gate c.args.self.now.last c.requires.kept c.requires.held is_known some in
    reset_leaves _ _ holds _ (c.in_ok-write_at.ensures.ok is_known) _ (c.in_ok-sync.ensures.ok is_known)
