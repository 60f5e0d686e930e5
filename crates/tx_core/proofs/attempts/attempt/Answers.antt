use Rattle.tx_core.specs.inside.Passed.{ArePassed}
use Rattle.std.proofs.Common.{sym, ap, ◌∙◌, inl, subst}
use Rattle.std.proofs.lemmas.Result.{IfOk-weaker}
use Rattle.std.specs.Ordering.{nat_cmp}
use Rattle.std.specs.BTreeMap as tree
use Rattle.tx_core.specs.declared.parts.Parts.{Parts}
use Rattle.tx_core.specs.inside.Goes.{call_entry}
use Rattle.tx_core.specs.inside.Sessions.{wait_in}
use Rattle.tx_core.specs.inside.Standing.{seat_in}
use Rattle.tx_core.proofs.Kept.{goes_after, unanswered}
use Rattle.tx_core.proofs.KeptAgain.{roomy_stays}
use Rattle.tx_core.proofs.Told.{may_call, roomy_seated, seat_refused, seated_on}
use Rattle.tx_core.proofs.attempts.attempt.Goals as goal

pub returns-in-Some-clause-refused : goal.returns-in-Some-clause-refused
returns-in-Some-clause-refused g c = c.in-Some.ensures ∙ seat_refused c.args.parts.now c.args.session c.requires.seated

pub attempt_in_room-requires-clause-seated : goal.attempt_in_room-requires-clause-seated
attempt_in_room-requires-clause-seated g c = (roomy_seated c.args.parts.now c.make_room.new.parts c.requires.seated c.make_room.ensures.same c.make_room.ensures.book c.make_room.ensures.room).seated

pub attempt_in_room-requires-clause-ready : goal.attempt_in_room-requires-clause-ready
attempt_in_room-requires-clause-ready g c =
    ap (λ (x : Parts _ _). wait_in (tree.get nat_cmp x.places c.args.session)) c.make_room.ensures.same
    ∙ may_call (seat_in (tree.get nat_cmp c.args.parts.now.places c.args.session)) (sym c.in_default.ensures)

pub returns-in-Ok-clause-ok : goal.returns-in-Ok-clause-ok
returns-in-Ok-clause-ok g c =
    let v = g.C.TreeCall.is_valid in
    let m = g.C.TreeCall.meaning in
    let told = g.B.NodeRead.contents in
    let p = c.args.parts.now in
    let p1 = c.make_room.new.parts in
    let stays = roomy_stays v m told p p1 c.make_room.ensures.same c.make_room.ensures.book in
    IfOk-weaker c.attempt_in_room.result _ _ (λ a is. goes_after v m told p p1 (call_entry c.args.session c.args.call a) c.attempt_in_room.new.parts stays.book stays.state is) c.attempt_in_room.ensures.ok

pub returns-in-Ok-clause-err : goal.returns-in-Ok-clause-err
returns-in-Ok-clause-err g c =
    let v = g.C.TreeCall.is_valid in
    let m = g.C.TreeCall.meaning in
    let told = g.B.NodeRead.contents in
    let p = c.args.parts.now in
    let p1 = c.make_room.new.parts in
    let stays = roomy_stays v m told p p1 c.make_room.ensures.same c.make_room.ensures.book in
    unanswered v m told g.B.NodeRead.count p p1 c.args.session c.args.call c.attempt_in_room.new.parts stays c.attempt_in_room.result c.attempt_in_room.ensures.refused c.attempt_in_room.ensures.err

pub returns-in-Ok-clause-refused : goal.returns-in-Ok-clause-refused
returns-in-Ok-clause-refused g c = c.attempt_in_room.ensures.refused ∙ c.in_default.ensures ∙ seat_refused c.args.parts.now c.args.session c.requires.seated

pub returns-in-Ok-clause-seated : goal.returns-in-Ok-clause-seated
returns-in-Ok-clause-seated g c = seated_on c.args.parts.now c.make_room.new.parts _ (roomy_seated c.args.parts.now c.make_room.new.parts c.requires.seated c.make_room.ensures.same c.make_room.ensures.book c.make_room.ensures.room) c.attempt_in_room.ensures.seated

pub returns-in-Err-clause-err : goal.returns-in-Err-clause-err
returns-in-Err-clause-err g c = inl (roomy_stays g.C.TreeCall.is_valid g.C.TreeCall.meaning g.B.NodeRead.contents c.args.parts.now c.make_room.new.parts c.make_room.ensures.same c.make_room.ensures.book)

pub returns-in-Err-clause-refused : goal.returns-in-Err-clause-refused
returns-in-Err-clause-refused g c = c.in_default.ensures ∙ seat_refused c.args.parts.now c.args.session c.requires.seated

pub returns-in-Err-clause-seated : goal.returns-in-Err-clause-seated
returns-in-Err-clause-seated g c = roomy_seated c.args.parts.now c.make_room.new.parts c.requires.seated c.make_room.ensures.same c.make_room.ensures.book c.make_room.ensures.room

pub attempt_in_room-requires-clause-passed : goal.attempt_in_room-requires-clause-passed
attempt_in_room-requires-clause-passed g c = subst (λ (x : Parts _ _). ArePassed g.B.NodeRead.contents x) (sym c.make_room.ensures.same) c.requires.passed

pub returns-in-Err-clause-passed : goal.returns-in-Err-clause-passed
returns-in-Err-clause-passed g c = subst (λ (x : Parts _ _). ArePassed g.B.NodeRead.contents x) (sym c.make_room.ensures.same) c.requires.passed
