use Rattle.tx_core.proofs.PassedOn.{read_passed, taken_empty}
use Rattle.std.proofs.Common.{refl, sym, ap, ◌∙◌, is_some, None}
use Rattle.std.proofs.lemmas.Option.{same_Some}
use Rattle.std.proofs.lemmas.Result.{IfOk-weaker}
use Rattle.call_contract.specs.States.{view}
use Rattle.tx_core.specs.inside.Sessions.{wait_of}
use Rattle.tx_core.proofs.Moves.{is_live}
use Rattle.tx_core.proofs.Known.{known_then}
use Rattle.tx_core.proofs.Reached.{sees, ready}
use Rattle.tx_core.proofs.attempts.requests_of.Goals as goal

pub returns-clause-value : goal.returns-clause-value
returns-clause-value g c =
    let v = g.C.TreeCall.is_valid in
    let m = g.C.TreeCall.meaning in
    let told = g.B.NodeRead.contents in
    let p = c.args.parts.now in
    let s = c.args.session in
    let seat = c.in-Some.seat.now in
    let there = sym c.in-Some.ensures in
    IfOk-weaker c.asked-wanted.result _ _ (λ wanted is st stands.
    let live = is_live v m told p st s seat stands there in
    record {
      live = live.0;
      found = live.1;
      ready = ready v m told p st s seat live.0 stands there live.1 (ap is_some (same_Some seat.waiting None (ap wait_of c.in-Some.ensures ∙ c.requires.ready)));
      are = is (view m live.0.calls st.tree) (sees v m told g.met.C.TreeCall.laws p st s seat live.0 stands there live.1);
    }) c.asked-wanted.ensures.value

pub returns-clause-known : goal.returns-clause-known
returns-clause-known g c =
    IfOk-weaker c.asked-wanted.result _ _ (λ wanted is.
    known_then g.C.TreeCall.is_valid g.C.TreeCall.meaning g.B.NodeRead.contents c.args.parts.now (record c.args.parts.now { base = c.asked-wanted.new.base; passed = c.keep_passed.new.passed }) c.args.session c.in-Some.seat.now c.args.call.now _
    refl (g.met.B.NodeRead.unchanged_contents _ _ c.asked-wanted.ensures.unchanged) (sym c.in-Some.ensures) c.asked-wanted.ensures.valid is) c.asked-wanted.ensures.known

pub asked-wanted-requires : goal.asked-wanted-requires
asked-wanted-requires g c = record { empty = taken_empty g.B.NodeRead.contents c.args.parts.now c.args.session c.in-Some.seat.now c.take_passed-gaps.result (sym c.in-Some.ensures) c.take_passed-gaps.ensures.taken c.requires.passed }

pub returns-clause-passed : goal.returns-clause-passed
returns-clause-passed g c =
    read_passed g.B.NodeRead.contents c.args.parts.now (record c.args.parts.now { base = c.asked-wanted.new.base; passed = c.keep_passed.new.passed }) c.args.session c.in-Some.seat.now c.take_passed-gaps.new.passed.items c.asked-wanted.new.gaps (sym c.in-Some.ensures) refl refl
    (g.met.B.NodeRead.unchanged_contents _ _ c.asked-wanted.ensures.unchanged) c.take_passed-gaps.ensures.fewer c.take_passed-gaps.ensures.out c.asked-wanted.ensures.empty c.keep_passed.ensures c.requires.passed
