use Rattle.std.specs.Option.{option_map}
use Rattle.std.specs.Prelude.{Option}
use Rattle.std.proofs.Common.{rules, arith, refl, ap, ◌∙◌, append-nil, ◌≡◌, ◌+◌, ℕ, List, [], ◌++◌, take, sym, subst, length-append, Ok, Err}
use Rattle.outside_traits.specs.Bytes.{Gave}
use Rattle.outside_traits.proofs.Laws.{gave_none, gave_on}
use Rattle.node_records.specs.declared.open_error.Place.{Place}
use Rattle.script_runs.specs.Lines.{line_limit}
use Rattle.script_runs.proofs.LogLaws.{flushed_on}
use Rattle.script_runs.specs.Counts.{DisksCountedWhere}
use Rattle.script_runs.specs.declared.feeding.Stop.{Stop}
use Rattle.script_runs.specs.declared.feeding.Stop.TheVariants.{WriteFault, Halted}
use Rattle.script_runs.specs.declared.halt.Halt.TheVariants.{DiskFault, Damaged}
use Rattle.script_runs.proofs.AnswerLaws.{as_stop, step_is_no_stop}
use Rattle.script_runs.proofs.InputLaws.{takes_none, takes_flushed, takes_fault, takes_end, takes_piece, counted_from, stops_unwritten, input_stopped, input_failed, input_ended}
use Rattle.script_runs.proofs.running.take_pieces.Goals as goal

-- a failed write is no failed disk
write_is_no_halt : (e : Stop) → as_stop e ≡ Err WriteFault → as_stop e ≡ Err (Halted DiskFault) → ⊥
write_is_no_halt e is it = cc

-- nor a damaged file
write_is_no_damage : (e : Stop) (place : Place) → as_stop e ≡ Err WriteFault → as_stop e ≡ Err (Halted (Damaged place)) → ⊥
write_is_no_damage e place is it = cc

-- one piece more was given
gave_piece : (a b c : Option (List ℕ)) (read piece prefix : List ℕ) → Gave a b read → piece ≡ prefix → Gave b c prefix → Gave a c (read ++ piece)
gave_piece a b c read piece prefix so_far is given = gave_on a b c read piece so_far (subst (Gave b c) (sym is) given)

pub feed-requires-clause-ready : goal.feed-requires-clause-ready
feed-requires-clause-ready g c = subst g.M.LineMachine.machine.usable (sym c.in_ok-flush.ensures.machine) c.loop-source.invariant.ready

pub loop-source-init : goal.loop-source-init
loop-source-init g c = record {
  so_far = ([], gave_none _, omega arith, λ s stands. takes_none g.M.LineMachine.machine line_limit s c.args.script.now (g.K.Sink.held c.args.sink.now) _ stands);
  ready = c.requires.ready;
  same_reference = refl;
  used = ap (λ n. g.S.Source.given c.args.source.now.inner.now + n) c.requires.room;
  lines = omega (arith, c.requires.new.lines, c.requires.room);
  no_read_fault = refl;
  no_write_fault = refl;
  no_disk_fault = refl;
}

pub returns-in_err-flush-clause-takes : goal.returns-in_err-flush-clause-takes
returns-in_err-flush-clause-takes g c =
    let m = g.M.LineMachine.machine in
    let invariant = c.loop-source.invariant in
    let so = invariant.so_far in
    let f = c.in_err-flush.ensures in
    let e = c.in_err-flush.field-0.0 in
    input_stopped m g.S.Source.left g.S.Source.given g.S.Source.asked g.S.Source.faults g.K.Sink.held g.K.Sink.faults _ _ _ _ _ _ c.from_residual.result e c.from_residual.ensures.1
    (so.0, so.1, so.2, λ s stands. takes_flushed m line_limit s c.args.script.now c.loop-source.script c.flush.new.self _ _ _ so.0 _ (Err e) (so.3 s stands) f.leaves)
    (stops_unwritten (m.usable c.flush.new.self.machine) e f.error)
    (omega (arith, invariant.lines, f.lines))
    (omega (arith, invariant.used))
    invariant.no_read_fault
    (counted_from (as_stop e ≡ Err WriteFault) (g.K.Sink.faults c.args.sink.now) (g.K.Sink.faults c.loop-source.sink) (g.K.Sink.faults c.flush.new.sink) invariant.no_write_fault f.write)
    (record { counted = λ it. absurd (write_is_no_halt e f.error it); exact = λ other. ap m.faults f.machine ∙ invariant.no_disk_fault })
    (λ place it. absurd (write_is_no_damage e place f.error it))

pub returns-in-Err-clause-takes : goal.returns-in-Err-clause-takes
returns-in-Err-clause-takes g c =
    let m = g.M.LineMachine.machine in
    let invariant = c.loop-source.invariant in
    let so = invariant.so_far in
    let r = c.in-Err.ensures in
    let f = c.in_ok-flush.ensures in
    input_failed m g.S.Source.left g.S.Source.given g.S.Source.asked g.S.Source.faults g.K.Sink.held g.K.Sink.faults _ _ _ _ _ _ (
      so.0,
      so.1 ∙ ap (λ o. option_map (λ rest. so.0 ++ rest) o) (sym r.err.0),
      omega (arith, so.2, r.err.1),
      λ s stands. takes_fault m line_limit s c.args.script.now c.flush.new.self c.requires.new _ _ so.0 _ (flushed_on m line_limit s c.args.script.now c.loop-source.script c.flush.new.self _ _ _ so.0 (Ok tt) (so.3 s stands).leaves f.leaves) f.empty f.short,
    )
    (subst m.usable (sym f.machine) invariant.ready)
    (omega (arith, invariant.lines, f.lines))
    (omega (arith, invariant.used, r.err.1))
    f.empty
    f.short
    (search rules)
    (f.write.exact (step_is_no_stop _) ∙ invariant.no_write_fault)
    (ap m.faults f.machine ∙ invariant.no_disk_fault)

pub returns-then-count-eq0-clause-takes : goal.returns-then-count-eq0-clause-takes
returns-then-count-eq0-clause-takes g c =
    let m = g.M.LineMachine.machine in
    let invariant = c.loop-source.invariant in
    let so = invariant.so_far in
    let r = c.in-Ok.ensures in
    let f = c.in_ok-flush.ensures in
    let left = g.S.Source.left c.args.source.now.inner.now in
    let now = g.S.Source.left c.read.new.self.inner.now in
    let none : c.in-Ok.count ≡ 0 = search rules in
    let gave : Gave left now so.0 = subst (Gave left now) (ap (λ k. so.0 ++ take k c.read.new.buf) none ∙ append-nil so.0) (gave_on _ _ _ so.0 (take c.in-Ok.count c.read.new.buf) so.1 r.bytes) in
    input_ended m g.S.Source.left g.S.Source.given g.S.Source.asked g.S.Source.faults g.K.Sink.held g.K.Sink.faults _ _ _ _ _ _ (
      so.0,
      gave,
      omega (arith, so.2, r.count, none),
      λ s stands.
          takes_end m line_limit s c.args.script.now c.requires.new c.flush.new.self _ _ so.0 (flushed_on m line_limit s c.args.script.now c.loop-source.script c.flush.new.self _ _ _ so.0 (Ok tt) (so.3 s stands).leaves f.leaves) f.empty f.short
          _ _ _ so.2 r.asked,
    )
    (subst m.usable (sym f.machine) invariant.ready)
    (omega (arith, invariant.lines, f.lines))
    (omega (arith, invariant.used, r.room))
    f.empty
    f.short
    (search rules)
    (r.below.exact ∙ invariant.no_read_fault)
    (f.write.exact (step_is_no_stop _) ∙ invariant.no_write_fault)
    (ap m.faults f.machine ∙ invariant.no_disk_fault)

pub returns-in_err-feed-clause-takes : goal.returns-in_err-feed-clause-takes
returns-in_err-feed-clause-takes g c =
    let m = g.M.LineMachine.machine in
    let invariant = c.loop-source.invariant in
    let so = invariant.so_far in
    let r = c.in-Ok.ensures in
    let f = c.in_ok-flush.ensures in
    let fed = c.in_err-feed.ensures in
    let piece = c.split_at.result.0.now in
    let e = c.in_err-feed.field-0.0 in
    input_stopped m g.S.Source.left g.S.Source.given g.S.Source.asked g.S.Source.faults g.K.Sink.held g.K.Sink.faults _ _ _ _ _ _ c.from_residual-in_err-feed.result e c.from_residual-in_err-feed.ensures.1 (
      so.0 ++ piece,
      gave_piece _ _ _ so.0 piece (take c.in-Ok.count c.read.new.buf) so.1 c.split_at.ensures.front r.bytes,
      omega (arith, so.2, r.count, c.split_at.ensures.front_len, length-append so.0 piece),
      λ s stands.
          takes_piece m line_limit s c.args.script.now c.requires.new c.flush.new.self _ _ so.0 (flushed_on m line_limit s c.args.script.now c.loop-source.script c.flush.new.self _ _ _ so.0 (Ok tt) (so.3 s stands).leaves f.leaves) f.empty f.short
          _ _ _ so.2 r.asked c.feed.new.self _ piece (Err e) fed.leaves,
    )
    fed.ready
    (omega (arith, invariant.lines, fed.lines, f.lines, c.split_at.ensures.front_len, r.count, r.room))
    (omega (arith, invariant.used, r.room))
    (r.below.exact ∙ invariant.no_read_fault)
    (counted_from (as_stop e ≡ Err WriteFault) (g.K.Sink.faults c.args.sink.now) (g.K.Sink.faults c.flush.new.sink) (g.K.Sink.faults c.feed.new.sink) (f.write.exact (step_is_no_stop _) ∙ invariant.no_write_fault) fed.write)
    (subst (λ n. DisksCountedWhere (as_stop e ≡ Err (Halted DiskFault)) n (m.faults c.feed.new.self.machine)) (ap m.faults f.machine ∙ invariant.no_disk_fault) fed.disk)
    fed.damaged

pub loop-source-preserved : goal.loop-source-preserved
loop-source-preserved g c =
    let m = g.M.LineMachine.machine in
    let so = c.loop-source.invariant.so_far in
    let f = c.in_ok-flush.ensures in
    let fed = c.in_ok-feed.ensures in
    let piece = c.split_at.result.0.now in
    let invariant = c.loop-source.invariant in
    record {
      so_far = (
        so.0 ++ piece,
        gave_piece _ _ _ so.0 piece (take c.in-Ok.count c.read.new.buf) so.1 c.split_at.ensures.front c.in-Ok.ensures.bytes,
        omega (arith, so.2, c.in-Ok.ensures.count, c.split_at.ensures.front_len, length-append so.0 piece),
        λ s stands.
            takes_piece m line_limit s c.args.script.now c.requires.new c.flush.new.self _ _ so.0 (flushed_on m line_limit s c.args.script.now c.loop-source.script c.flush.new.self _ _ _ so.0 (Ok tt) (so.3 s stands).leaves f.leaves) f.empty f.short
            _ _ _ so.2 c.in-Ok.ensures.asked c.feed.new.self _ piece (Ok tt) fed.leaves,
      );
      ready = fed.ready;
      same_reference = c.in-Ok.ensures.same_reference ∙ invariant.same_reference;
      used = omega (arith, invariant.used, c.in-Ok.ensures.room);
      lines = omega (arith, invariant.lines, fed.lines, f.lines, c.split_at.ensures.front_len, c.in-Ok.ensures.count, c.in-Ok.ensures.room);
      no_read_fault = c.in-Ok.ensures.below.exact ∙ invariant.no_read_fault;
      no_write_fault = fed.write.exact (step_is_no_stop _) ∙ f.write.exact (step_is_no_stop _) ∙ invariant.no_write_fault;
      no_disk_fault = fed.disk.exact (step_is_no_stop _) ∙ ap m.faults f.machine ∙ invariant.no_disk_fault;
    }
