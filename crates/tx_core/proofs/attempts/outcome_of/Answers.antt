use Rattle.tx_core.proofs.PassedOn.{read_passed, taken_empty}
use Rattle.std.proofs.Common.{Option, List, subst, sym, refl}
use Rattle.tree_model.specs.declared.change.Change.{Change}
use Rattle.tree_model.specs.declared.reply.Reply.{Reply}
use Rattle.call_contract.specs.States.{view}
use Rattle.tx_core.specs.inside.Goes.{IsMade}
use Rattle.tx_core.specs.inside.Known.{IsKnown, seen_by}
use Rattle.tx_core.proofs.Kept.{both_ok}
use Rattle.tx_core.proofs.Known.{known_made}
use Rattle.tx_core.proofs.Reached.{sees}
use Rattle.tx_core.proofs.attempts.outcome_of.Goals as goal

pub returns-clause-value : goal.returns-clause-value
returns-clause-value g c =
    let v = g.C.TreeCall.is_valid in
    let m = g.C.TreeCall.meaning in
    let told = g.B.NodeRead.contents in
    let p = c.args.parts.now in
    let s = c.args.session in
    let seat = c.in-Some-seat_at.seat.now in
    let there = sym c.in-Some-seat_at.ensures in
    both_ok c.made-outcome.result (λ made reply changes st stands. record {
      reply = λ t found. reply (view m t.calls st.tree) (sees v m told g.met.C.TreeCall.laws p st s seat t stands there found);
      changes = λ t found. changes (view m t.calls st.tree) (sees v m told g.met.C.TreeCall.laws p st s seat t stands there found);
    }) c.made-outcome.ensures.reply c.made-outcome.ensures.changes

pub returns-in-Some-clause-value : goal.returns-in-Some-clause-value
returns-in-Some-clause-value g c =
    let v = g.C.TreeCall.is_valid in
    let m = g.C.TreeCall.meaning in
    let told = g.B.NodeRead.contents in
    let p = c.args.parts.now in
    let s = c.args.session in
    let call = c.args.call.now in
    let known = subst (λ (o : Option Reply). IsKnown v m (seen_by told p s) call o) c.in-Some.is c.requires.known in
    λ st stands. subst (λ (changes : List Change). IsMade m st s call (record { reply = c.in-Some.reply; changes = changes })) (sym c.new-changes.ensures)
    (known_made v m told g.met.C.TreeCall.laws p s call c.in-Some.reply c.requires.seated known st stands)

pub made-outcome-requires : goal.made-outcome-requires
made-outcome-requires g c = record { empty = taken_empty g.B.NodeRead.contents c.args.parts.now c.args.session c.in-Some-seat_at.seat.now c.take_passed-gaps.result (sym c.in-Some-seat_at.ensures) c.take_passed-gaps.ensures.taken c.requires.passed }

pub returns-clause-passed : goal.returns-clause-passed
returns-clause-passed g c =
    read_passed g.B.NodeRead.contents c.args.parts.now (record c.args.parts.now { base = c.made-outcome.new.base; passed = c.keep_passed.new.passed }) c.args.session c.in-Some-seat_at.seat.now c.take_passed-gaps.new.passed.items c.made-outcome.new.gaps (sym c.in-Some-seat_at.ensures) refl refl
    (g.met.B.NodeRead.unchanged_contents _ _ c.made-outcome.ensures.unchanged) c.take_passed-gaps.ensures.fewer c.take_passed-gaps.ensures.out c.made-outcome.ensures.empty c.keep_passed.ensures c.requires.passed
