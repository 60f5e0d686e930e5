use Rattle.tx_core.proofs.PassedOn.{read_passed, taken_empty}
use Rattle.std.proofs.Common.{sym, refl}
use Rattle.tx_core.proofs.AskedAgain.{asked_again}
use Rattle.tx_core.proofs.retries.requests_again.Goals as goal

pub returns-clause-value : goal.returns-clause-value
returns-clause-value g c =
    asked_again g.C.TreeCall.is_valid g.C.TreeCall.meaning g.B.NodeRead.contents g.met.C.TreeCall.laws c.args.parts.now c.args.session c.in-Some.seat.now c.as_slice.result.now c.in-Some-call_of.call.now c.asked-wanted.result
    (sym c.in-Some.ensures) c.as_slice.ensures.value c.in-Some-call_of.ensures c.asked-wanted.ensures.value

pub asked-wanted-requires : goal.asked-wanted-requires
asked-wanted-requires g c = record { empty = taken_empty g.B.NodeRead.contents c.args.parts.now c.args.session c.in-Some.seat.now c.take_passed-gaps.result (sym c.in-Some.ensures) c.take_passed-gaps.ensures.taken c.requires.passed }

pub returns-clause-passed : goal.returns-clause-passed
returns-clause-passed g c =
    read_passed g.B.NodeRead.contents c.args.parts.now (record c.args.parts.now { base = c.asked-wanted.new.base; passed = c.keep_passed.new.passed }) c.args.session c.in-Some.seat.now c.take_passed-gaps.new.passed.items c.asked-wanted.new.gaps (sym c.in-Some.ensures) refl refl
    (g.met.B.NodeRead.unchanged_contents _ _ c.asked-wanted.ensures.unchanged) c.take_passed-gaps.ensures.fewer c.take_passed-gaps.ensures.out c.asked-wanted.ensures.empty c.keep_passed.ensures c.requires.passed
