use Rattle.tx_core.specs.inside.Passed.{ArePassed}
use Rattle.std.proofs.Common.{◌∙◌, ap, subst, sym}
use Rattle.std.specs.Ordering.{nat_cmp}
use Rattle.std.specs.BTreeMap as tree
use Rattle.tx_core.specs.declared.parts.Parts.{Parts}
use Rattle.tx_core.specs.inside.Sessions.{wait_in}
use Rattle.tx_core.proofs.Told.{queued_seated, queued_room, seated_on}
use Rattle.std.proofs.lemmas.Result.{on_err_weaker, IfOk-weaker}
use Rattle.wait_graph.specs.Graphs.{IsClosedCycle}
use Rattle.tx_core.proofs.Waited.{put_after, closed_after, stays_on}
use Rattle.tx_core.proofs.waits.wait.Goals as goal

pub end_by_cycle-requires-clause-closes : goal.end_by_cycle-requires-clause-closes
end_by_cycle-requires-clause-closes g c = λ st t stands found. c.in-Ok.ensures.cycle st t c.args.call stands found ∙ c.in-Some.is

pub wait_for-requires-clause-alone : goal.wait_for-requires-clause-alone
wait_for-requires-clause-alone g c = λ st t stands found. c.in-Ok.ensures.cycle st t c.args.call stands found ∙ c.in-None.is

pub wait_for-requires-clause-no_cycle : goal.wait_for-requires-clause-no_cycle
wait_for-requires-clause-no_cycle g c =
    let p = c.cycle_of.new.parts in
    subst (IsClosedCycle p.graph c.args.session c.args.request.now p.table) c.in-None.is c.in-Ok.ensures.graph

pub returns-in-Some-clause-ok : goal.returns-in-Some-clause-ok
returns-in-Some-clause-ok g c =
    IfOk-weaker c.end_by_cycle.result _ _
    (λ a is. closed_after g.C.TreeCall.is_valid g.C.TreeCall.meaning g.B.NodeRead.contents c.args.parts.now c.cycle_of.new.parts _ c.args.session c.args.call c.args.request.now c.args.holders a c.cycle_of.ensures.stays is)
    c.end_by_cycle.ensures.ok

pub returns-in-Some-clause-err : goal.returns-in-Some-clause-err
returns-in-Some-clause-err g c =
    on_err_weaker c.end_by_cycle.result
    (λ is. stays_on g.C.TreeCall.is_valid g.C.TreeCall.meaning g.B.NodeRead.contents c.args.parts.now c.cycle_of.new.parts _ c.cycle_of.ensures.stays is)
    c.end_by_cycle.ensures.err

pub returns-in-None-clause-ok : goal.returns-in-None-clause-ok
returns-in-None-clause-ok g c =
    IfOk-weaker c.wait_for.result _ _
    (λ a is. put_after g.C.TreeCall.is_valid g.C.TreeCall.meaning g.B.NodeRead.contents c.args.parts.now c.cycle_of.new.parts _ c.args.session c.args.call c.args.request.now c.args.holders a c.cycle_of.ensures.stays is)
    c.wait_for.ensures.ok

pub returns-in-None-clause-err : goal.returns-in-None-clause-err
returns-in-None-clause-err g c =
    on_err_weaker c.wait_for.result
    (λ is. stays_on g.C.TreeCall.is_valid g.C.TreeCall.meaning g.B.NodeRead.contents c.args.parts.now c.cycle_of.new.parts _ c.cycle_of.ensures.stays is)
    c.wait_for.ensures.err

pub end_by_cycle-requires-clause-seated : goal.end_by_cycle-requires-clause-seated
end_by_cycle-requires-clause-seated g c = (queued_seated c.args.parts.now c.cycle_of.new.parts c.requires.seated c.cycle_of.ensures.same c.in-Ok.ensures.queue).seated

pub end_by_cycle-requires-clause-ready : goal.end_by_cycle-requires-clause-ready
end_by_cycle-requires-clause-ready g c = ap (λ (x : Parts _ _). wait_in (tree.get nat_cmp x.places c.args.session)) c.cycle_of.ensures.same ∙ c.requires.ready

pub end_by_cycle-requires-clause-room : goal.end_by_cycle-requires-clause-room
end_by_cycle-requires-clause-room g c = queued_room 2 c.args.parts.now c.cycle_of.new.parts c.cycle_of.ensures.same c.in-Ok.ensures.queue c.requires.room

pub returns-in-Some-clause-seated : goal.returns-in-Some-clause-seated
returns-in-Some-clause-seated g c =
    seated_on c.args.parts.now c.cycle_of.new.parts _ (queued_seated c.args.parts.now c.cycle_of.new.parts c.requires.seated c.cycle_of.ensures.same c.in-Ok.ensures.queue) c.end_by_cycle.ensures.seated

pub returns-in-Some-clause-base : goal.returns-in-Some-clause-base
returns-in-Some-clause-base g c = c.end_by_cycle.ensures.base ∙ ap (λ (x : Parts _ _). x.base) c.cycle_of.ensures.same

pub wait_for-requires-clause-seated : goal.wait_for-requires-clause-seated
wait_for-requires-clause-seated g c = (queued_seated c.args.parts.now c.cycle_of.new.parts c.requires.seated c.cycle_of.ensures.same c.in-Ok.ensures.queue).seated

pub wait_for-requires-clause-ready : goal.wait_for-requires-clause-ready
wait_for-requires-clause-ready g c = ap (λ (x : Parts _ _). wait_in (tree.get nat_cmp x.places c.args.session)) c.cycle_of.ensures.same ∙ c.requires.ready

pub wait_for-requires-clause-book_room : goal.wait_for-requires-clause-book_room
wait_for-requires-clause-book_room g c = queued_room 2 c.args.parts.now c.cycle_of.new.parts c.cycle_of.ensures.same c.in-Ok.ensures.queue c.requires.room

pub returns-in-None-clause-seated : goal.returns-in-None-clause-seated
returns-in-None-clause-seated g c =
    seated_on c.args.parts.now c.cycle_of.new.parts _ (queued_seated c.args.parts.now c.cycle_of.new.parts c.requires.seated c.cycle_of.ensures.same c.in-Ok.ensures.queue) c.wait_for.ensures.seated

pub returns-in-None-clause-base : goal.returns-in-None-clause-base
returns-in-None-clause-base g c = c.wait_for.ensures.base ∙ ap (λ (x : Parts _ _). x.base) c.cycle_of.ensures.same

pub returns-in_default-clause-seated : goal.returns-in_default-clause-seated
returns-in_default-clause-seated g c = queued_seated c.args.parts.now c.cycle_of.new.parts c.requires.seated c.cycle_of.ensures.same c.cycle_of.ensures.queue

pub returns-in-Some-clause-passed : goal.returns-in-Some-clause-passed
returns-in-Some-clause-passed g c = λ old. c.end_by_cycle.ensures.passed (subst (λ (x : Parts _ _). ArePassed g.B.NodeRead.contents x) (sym c.cycle_of.ensures.same) old)

pub returns-in-None-clause-passed : goal.returns-in-None-clause-passed
returns-in-None-clause-passed g c = λ old. c.wait_for.ensures.passed (subst (λ (x : Parts _ _). ArePassed g.B.NodeRead.contents x) (sym c.cycle_of.ensures.same) old)

pub returns-in_default-clause-passed : goal.returns-in_default-clause-passed
returns-in_default-clause-passed g c = λ old. subst (λ (x : Parts _ _). ArePassed g.B.NodeRead.contents x) (sym c.cycle_of.ensures.same) old
