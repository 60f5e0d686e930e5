use Rattle.std.proofs.Common.{◌≡◌, false, is_some, sym, subst, ap, ◌∙◌, Some}
use Rattle.std.specs.List.{list_any}
use Rattle.wait_graph.specs.Graphs.{waits, waits_for, with_request}
use Rattle.wait_cycles.specs.Cycles.{IsFirst}
use Rattle.wait_graph.specs.inside.Search.{AreOf}
use Rattle.wait_graph.specs.inside.Waiters.{AreOwners}
use Rattle.wait_graph.proofs.Closed.{closed_some, closed_none, idle_holders, none_waits, seek_at}
use Rattle.wait_graph.proofs.graph.WaitGraph.cycle_through.Goals as goal

pub returns-in-Some : goal.returns-in-Some
returns-in-Some c =
    let of = subst (λ g. AreOf (waits_for (waits g) c.args.table.now) c.in_ok-waiters.waiters) c.self.view_is c.in_ok-waiters.ensures.of in
    let owners = subst (λ g. AreOwners g c.args.owner c.in_ok-waiters.waiters) c.self.view_is c.in_ok-waiters.ensures.owners in
    let at = seek_at c.args.owner c.as_slice-2.result.now c.in_ok-holders.holders c.in_ok-waiters.waiters c.as_slice-2.ensures in
    subst (IsFirst (waits_for (with_request (waits c.args.self.now) c.args.owner (Some c.args.request.now)) c.args.table.now) c.args.owner)
    (sym c.in_ok-put_before-in-Some.ensures)
    (closed_some c.args.self.now c.args.owner c.args.request.now c.args.table.now c.in_ok-holders.holders c.in_ok-waiters.waiters c.as_slice-in-Some.result.now c.in_ok-holders.ensures of owners (sym at ∙ sym c.in_ok-rest.ensures ∙ c.in-Some.is ∙ ap Some (sym c.as_slice-in-Some.ensures)))

pub returns : goal.returns
returns c =
    let of = subst (λ g. AreOf (waits_for (waits g) c.args.table.now) c.in_ok-waiters.waiters) c.self.view_is c.in_ok-waiters.ensures.of in
    let owners = subst (λ g. AreOwners g c.args.owner c.in_ok-waiters.waiters) c.self.view_is c.in_ok-waiters.ensures.owners in
    let at = seek_at c.args.owner c.as_slice-2.result.now c.in_ok-holders.holders c.in_ok-waiters.waiters c.as_slice-2.ensures in
    closed_none c.args.self.now c.args.owner c.args.request.now c.args.table.now c.in_ok-holders.holders c.in_ok-waiters.waiters c.in_ok-holders.ensures of owners (sym at ∙ sym c.in_ok-rest.ensures ∙ c.in-None.is)

pub returns-then-not-any_waits : goal.returns-then-not-any_waits
returns-then-not-any_waits c =
    let g = c.args.self.now in
    let none = subst (λ hs. list_any (λ o. is_some (waits g o)) hs ≡ false) c.as_slice.ensures
    (subst (λ g. list_any (λ o. is_some (waits g o)) c.as_slice.result.now ≡ false) c.self.view_is (sym c.any_waits.ensures ∙ c.if-not-any_waits.true)) in
    none_waits g c.args.owner c.args.request.now c.args.table.now (idle_holders g c.args.owner c.args.request.now c.args.table.now c.in_ok-holders.holders c.in_ok-holders.ensures none)
