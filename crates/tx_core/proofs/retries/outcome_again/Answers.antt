use Rattle.tx_core.proofs.PassedOn.{read_passed, taken_empty}
use Rattle.std.proofs.Common.{sym, refl}
use Rattle.tx_core.proofs.AskedAgain.{made_again, valid_again}
use Rattle.tx_core.proofs.retries.outcome_again.Goals as goal

pub returns-clause-value : goal.returns-clause-value
returns-clause-value g c =
    made_again g.C.TreeCall.is_valid g.C.TreeCall.meaning g.B.NodeRead.contents g.met.C.TreeCall.laws c.args.parts.now c.args.session c.in-Some.seat.now c.as_slice.result.now c.in-Some-call_of.call.now c.made-outcome.result
    (sym c.in-Some.ensures) c.as_slice.ensures.value c.in-Some-call_of.ensures c.made-outcome.ensures.reply c.made-outcome.ensures.changes

pub returns-clause-valid : goal.returns-clause-valid
returns-clause-valid g c =
    valid_again g.C.TreeCall.is_valid g.C.TreeCall.meaning g.B.NodeRead.contents c.args.parts.now c.args.session c.as_slice.result.now c.in-Some-call_of.call.now
    c.as_slice.ensures.value c.in-Some-call_of.ensures c.made-outcome.ensures.valid

pub made-outcome-requires : goal.made-outcome-requires
made-outcome-requires g c = record { empty = taken_empty g.B.NodeRead.contents c.args.parts.now c.args.session c.in-Some.seat.now c.take_passed-gaps.result (sym c.in-Some.ensures) c.take_passed-gaps.ensures.taken c.requires.passed }

pub returns-clause-passed : goal.returns-clause-passed
returns-clause-passed g c =
    read_passed g.B.NodeRead.contents c.args.parts.now (record c.args.parts.now { base = c.made-outcome.new.base; passed = c.keep_passed.new.passed }) c.args.session c.in-Some.seat.now c.take_passed-gaps.new.passed.items c.made-outcome.new.gaps (sym c.in-Some.ensures) refl refl
    (g.met.B.NodeRead.unchanged_contents _ _ c.made-outcome.ensures.unchanged) c.take_passed-gaps.ensures.fewer c.take_passed-gaps.ensures.out c.made-outcome.ensures.empty c.keep_passed.ensures c.requires.passed
