use Rattle.tx_core.specs.inside.Passed.{ArePassed}
use Rattle.std.proofs.Common.{◌∙◌, ap, sym, subst, IsSome}
use Rattle.std.specs.Ordering.{nat_cmp}
use Rattle.std.specs.BTreeMap as tree
use Rattle.tx_core.specs.declared.parts.Parts.{Parts}
use Rattle.tx_core.specs.inside.Goes.{Stays}
use Rattle.tx_core.specs.inside.Retrying.{waiting_call}
use Rattle.tx_core.specs.inside.Sessions.{wait_in}
use Rattle.std.proofs.lemmas.Result.{on_err_weaker, IfOk-weaker}
use Rattle.wait_graph.specs.Graphs.{IsClosedCycle}
use Rattle.tx_core.proofs.WaitedAgain.{closed_after_again, waits_after_again}
use Rattle.tx_core.proofs.Told.{queued_seated, queued_room, seated_on}
use Rattle.tx_core.proofs.ToldAgain.{on_err, waits_still}
use Rattle.tx_core.proofs.later_waits.wait_again.Goals as goal

pub end_again-requires-clause-closes : goal.end_again-requires-clause-closes
end_again-requires-clause-closes g c = λ st t call stands found. c.in_ok-closed.ensures.cycle st t call stands found ∙ c.in-Some.is

pub wait_on-requires-clause-alone : goal.wait_on-requires-clause-alone
wait_on-requires-clause-alone g c = λ st t call stands found. c.in_ok-closed.ensures.cycle st t call stands found ∙ c.in-None.is

pub wait_on-requires-clause-no_cycle : goal.wait_on-requires-clause-no_cycle
wait_on-requires-clause-no_cycle g c =
    let p = c.cycle_of.new.parts in
    subst (IsClosedCycle p.graph c.args.session c.args.request.now p.table) c.in-None.is c.in_ok-closed.ensures.graph

pub returns-in-Some-clause-ok : goal.returns-in-Some-clause-ok
returns-in-Some-clause-ok g c =
    IfOk-weaker c.end_again.result _ _
    (λ a is. closed_after_again g.C.TreeCall.is_valid g.C.TreeCall.meaning g.B.NodeRead.contents c.args.parts.now c.cycle_of.new.parts _ c.args.session c.args.request.now c.args.holders c.args.more a c.cycle_of.ensures.stays is)
    c.end_again.ensures.ok

pub returns-in-Some-clause-err : goal.returns-in-Some-clause-err
returns-in-Some-clause-err g c =
    on_err_weaker c.end_again.result
    (λ same. subst (λ (x : Parts _ _). Stays g.C.TreeCall.is_valid g.C.TreeCall.meaning g.B.NodeRead.contents c.args.parts.now x) (sym same) c.cycle_of.ensures.stays)
    c.end_again.ensures.err

pub returns-in-None-clause-ok : goal.returns-in-None-clause-ok
returns-in-None-clause-ok g c =
    IfOk-weaker c.wait_on.result _ _
    (λ a is. waits_after_again g.C.TreeCall.is_valid g.C.TreeCall.meaning g.B.NodeRead.contents c.args.parts.now c.cycle_of.new.parts _ c.args.session c.args.request.now c.args.holders c.args.more a c.cycle_of.ensures.stays
    (ap (λ (x : Parts _ _). x.prepared) c.cycle_of.ensures.same) (ap (λ (x : Parts _ _). x.places) c.cycle_of.ensures.same) c.cycle_of.ensures.queue is)
    c.wait_on.ensures.ok

pub returns-in-None-clause-err : goal.returns-in-None-clause-err
returns-in-None-clause-err g c =
    on_err_weaker c.wait_on.result
    (λ same. subst (λ (x : Parts _ _). Stays g.C.TreeCall.is_valid g.C.TreeCall.meaning g.B.NodeRead.contents c.args.parts.now x) (sym same) c.cycle_of.ensures.stays)
    c.wait_on.ensures.err

pub end_again-requires-clause-seated : goal.end_again-requires-clause-seated
end_again-requires-clause-seated g c = (queued_seated c.args.parts.now c.cycle_of.new.parts c.requires.seated c.cycle_of.ensures.same c.cycle_of.ensures.queue).seated

pub end_again-requires-clause-waits : goal.end_again-requires-clause-waits
end_again-requires-clause-waits g c = waits_still c.args.parts.now c.cycle_of.new.parts c.args.session (ap (λ (x : Parts _ _). wait_in (tree.get nat_cmp x.places c.args.session)) c.cycle_of.ensures.same) (ap (λ (x : Parts _ _). x.book.items) c.cycle_of.ensures.same) c.requires.waits

pub wait_on-requires-clause-seated : goal.wait_on-requires-clause-seated
wait_on-requires-clause-seated g c = (queued_seated c.args.parts.now c.cycle_of.new.parts c.requires.seated c.cycle_of.ensures.same c.cycle_of.ensures.queue).seated

pub wait_on-requires-clause-waits : goal.wait_on-requires-clause-waits
wait_on-requires-clause-waits g c = waits_still c.args.parts.now c.cycle_of.new.parts c.args.session (ap (λ (x : Parts _ _). wait_in (tree.get nat_cmp x.places c.args.session)) c.cycle_of.ensures.same) (ap (λ (x : Parts _ _). x.book.items) c.cycle_of.ensures.same) c.requires.waits

pub wait_on-requires-clause-room : goal.wait_on-requires-clause-room
wait_on-requires-clause-room g c = queued_room 1 c.args.parts.now c.cycle_of.new.parts c.cycle_of.ensures.same c.cycle_of.ensures.queue c.requires.room

pub returns-in-Some-clause-seated : goal.returns-in-Some-clause-seated
returns-in-Some-clause-seated g c = seated_on c.args.parts.now c.cycle_of.new.parts _ (queued_seated c.args.parts.now c.cycle_of.new.parts c.requires.seated c.cycle_of.ensures.same c.cycle_of.ensures.queue) c.end_again.ensures.seated

pub returns-in-Some-clause-base : goal.returns-in-Some-clause-base
returns-in-Some-clause-base g c = c.end_again.ensures.base ∙ ap (λ (x : Parts _ _). x.base) c.cycle_of.ensures.same

pub returns-in-Some-clause-still : goal.returns-in-Some-clause-still
returns-in-Some-clause-still g c = on_err_weaker c.end_again.result (λ same. subst (λ (x : Parts _ _). IsSome (waiting_call x c.args.session)) (sym same) (waits_still c.args.parts.now c.cycle_of.new.parts c.args.session (ap (λ (x : Parts _ _). wait_in (tree.get nat_cmp x.places c.args.session)) c.cycle_of.ensures.same) (ap (λ (x : Parts _ _). x.book.items) c.cycle_of.ensures.same) c.requires.waits)) c.end_again.ensures.err

pub returns-in-None-clause-seated : goal.returns-in-None-clause-seated
returns-in-None-clause-seated g c = seated_on c.args.parts.now c.cycle_of.new.parts _ (queued_seated c.args.parts.now c.cycle_of.new.parts c.requires.seated c.cycle_of.ensures.same c.cycle_of.ensures.queue) c.wait_on.ensures.seated

pub returns-in-None-clause-base : goal.returns-in-None-clause-base
returns-in-None-clause-base g c = c.wait_on.ensures.base ∙ ap (λ (x : Parts _ _). x.base) c.cycle_of.ensures.same

pub returns-in-None-clause-still : goal.returns-in-None-clause-still
returns-in-None-clause-still g c = on_err_weaker c.wait_on.result (λ same. subst (λ (x : Parts _ _). IsSome (waiting_call x c.args.session)) (sym same) (waits_still c.args.parts.now c.cycle_of.new.parts c.args.session (ap (λ (x : Parts _ _). wait_in (tree.get nat_cmp x.places c.args.session)) c.cycle_of.ensures.same) (ap (λ (x : Parts _ _). x.book.items) c.cycle_of.ensures.same) c.requires.waits)) c.wait_on.ensures.err

pub returns-in_err-closed-clause-seated : goal.returns-in_err-closed-clause-seated
returns-in_err-closed-clause-seated g c = queued_seated c.args.parts.now c.cycle_of.new.parts c.requires.seated c.cycle_of.ensures.same c.cycle_of.ensures.queue

pub returns-in_err-closed-clause-still : goal.returns-in_err-closed-clause-still
returns-in_err-closed-clause-still g c = on_err c.from_residual.result (waits_still c.args.parts.now c.cycle_of.new.parts c.args.session (ap (λ (x : Parts _ _). wait_in (tree.get nat_cmp x.places c.args.session)) c.cycle_of.ensures.same) (ap (λ (x : Parts _ _). x.book.items) c.cycle_of.ensures.same) c.requires.waits)

pub returns-in-Some-clause-passed : goal.returns-in-Some-clause-passed
returns-in-Some-clause-passed g c = λ old. c.end_again.ensures.passed (subst (λ (x : Parts _ _). ArePassed g.B.NodeRead.contents x) (sym c.cycle_of.ensures.same) old)

pub returns-in-None-clause-passed : goal.returns-in-None-clause-passed
returns-in-None-clause-passed g c = λ old. c.wait_on.ensures.passed (subst (λ (x : Parts _ _). ArePassed g.B.NodeRead.contents x) (sym c.cycle_of.ensures.same) old)

pub returns-in_err-closed-clause-passed : goal.returns-in_err-closed-clause-passed
returns-in_err-closed-clause-passed g c = λ old. subst (λ (x : Parts _ _). ArePassed g.B.NodeRead.contents x) (sym c.cycle_of.ensures.same) old
