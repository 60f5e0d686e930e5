use Rattle.std.proofs.Common.{◌+◌, ℕ, List, Option, refl, sym, subst}
use Rattle.std.specs.Ordering.{nat_cmp}
use Rattle.std.specs.BTreeMap.{get, is_at}
use Rattle.std.specs.Map.{lookup}
use Rattle.call_contract.specs.States.{Live}
use Rattle.tx_core.specs.declared.parts.Place.{Place}
use Rattle.tx_core.specs.inside.Committing.{IsReady}
use Rattle.tx_core.specs.inside.Standing.{IsSeat, seat_in}
use Rattle.tx_core.proofs.Bodies.{body_changes, body_commits, body_reads}
use Rattle.tx_core.proofs.CommitsKept.{prepared_stands}
use Rattle.tx_core.proofs.commits.prepare.Goals as goal

pub invariant_of-result : goal.invariant_of-result
invariant_of-result g c = body_reads (seat_in (get nat_cmp c.args.parts.now.places c.args.session)) c.in_ok-body.body c.in_ok-body.ensures.body

pub returns-clause-commit : goal.returns-clause-commit
returns-clause-commit g c = body_commits (seat_in (get nat_cmp c.args.parts.now.places c.args.session)) c.in_ok-body.body (c.args.parts.now.number + 1) c.in_ok-body.ensures.body

pub returns-clause-changes : goal.returns-clause-changes
returns-clause-changes g c = λ st stands x found.
    let seat = seat_in (get nat_cmp c.args.parts.now.places c.args.session) in
    let m = g.C.TreeCall.meaning in
    body_changes g.C.TreeCall.is_valid m st.tree seat c.in_ok-body.body x c.in_ok-body.ensures.body
    (subst (λ (t : Option (Live _)). IsSeat g.C.TreeCall.is_valid m st.tree seat t) found (stands.seats c.args.session))

pub returns-clause-state : goal.returns-clause-state
returns-clause-state g c = λ st stands.
    prepared_stands c.args.parts.now _ refl c.body_at.ensures.same g.C.TreeCall.is_valid g.C.TreeCall.meaning g.B.NodeRead.contents st c.reserve_layer.ensures.changes stands

pub returns-clause-ready : goal.returns-clause-ready
returns-clause-ready g c = subst (λ (es : List (ℕ × Place)). IsReady (seat_in (lookup (is_at (nat_cmp c.args.session)) es))) (sym c.body_at.ensures.same) c.in_ok-body.ensures.ready
