use Rattle.tx_core.specs.inside.Passed.{ArePassed}
use Rattle.std.proofs.Common.{sym, ap, ◌∙◌, subst, List, Option}
use Rattle.std.proofs.lemmas.Result.{IfErr-weaker, IfOk-weaker}
use Rattle.lock_resources.specs.declared.request.Request.{Request}
use Rattle.tx_core.specs.inside.Asking.{IsInside, granted_in}
use Rattle.tx_core.specs.inside.Goes.{Reaches, IsSettled, IsLeft}
use Rattle.std.specs.Ordering.{nat_cmp}
use Rattle.std.specs.BTreeMap as tree
use Rattle.tx_core.specs.declared.parts.Parts.{Parts}
use Rattle.tree_model.specs.Entries.{Entries}
use Rattle.tx_core.specs.inside.Known.{IsKnown, seen_by}
use Rattle.tx_core.specs.inside.Sessions.{wait_in, HasRoom}
use Rattle.tx_core.proofs.Told.{asked_seated, asked_room, based_seated, seated_on, cause_on}
use Rattle.outside_traits.specs.Faults.{HasCause}
use Rattle.node_seq.specs.declared.node_read.SeqError.TheVariants as seq_error
use Rattle.tx_core.specs.declared.errors.CallError.TheVariants.{DiskFault}
use Rattle.tx_core.proofs.Attempted.{settled_goes, left_goes, left_after, left_at_once}
use Rattle.tx_core.proofs.attempts.attempt_in_room.Goals as goal

pub returns-clause-ok : goal.returns-clause-ok
returns-clause-ok g c =
    let v = g.C.TreeCall.is_valid in
    let m = g.C.TreeCall.meaning in
    let told = g.B.NodeRead.contents in
    let p = c.args.parts.now in
    let p1 = c.requests_of.new.parts in
    let e1 = c.requests_of.ensures.same in
    let e2 = c.ask_in_turn-got.ensures.same in
    let p2 = c.ask_in_turn-got.new.parts in
    let got = c.ask_in_turn-got.result in
    let s = c.args.session in
    IfOk-weaker c.settle.result _ _ (λ a is. settled_goes v m told p p1 p2 c.settle.new.parts s c.args.call c.in-Ok.wanted.requests got a
    c.requests_of.ensures.valid
    c.in-Ok.ensures.value
    c.requests_of.ensures.stays.state
    (λ st t stands found. subst (λ (xs : List Request). Reaches v m told st t xs p2 got) c.as_slice.ensures (c.ask_in_turn-got.ensures.got st t stands found))
    (subst (λ (xs : List Request). IsInside xs got) c.as_slice.ensures c.ask_in_turn-got.ensures.inside)
    (ap (λ (x : Parts _ _). x.book.items) e2 ∙ ap (λ (x : Parts _ _). x.book.items) e1)
    (subst (λ (xs : List Request). IsSettled v m told p2 s c.args.call xs got a c.settle.new.parts) c.as_slice-2.ensures is)) c.settle.ensures.ok

pub returns-clause-err : goal.returns-clause-err
returns-clause-err g c =
    let v = g.C.TreeCall.is_valid in
    let m = g.C.TreeCall.meaning in
    let told = g.B.NodeRead.contents in
    let count = g.B.NodeRead.count in
    let p = c.args.parts.now in
    let p1 = c.requests_of.new.parts in
    let e1 = c.requests_of.ensures.same in
    let e2 = c.ask_in_turn-got.ensures.same in
    let p2 = c.ask_in_turn-got.new.parts in
    let got = c.ask_in_turn-got.result in
    let s = c.args.session in
    IfErr-weaker c.settle.result _ _ (λ e is. left_goes v m told count p p1 p2 c.settle.new.parts s c.args.call c.in-Ok.wanted.requests got e
    c.requests_of.ensures.valid
    c.in-Ok.ensures.value
    c.requests_of.ensures.stays.state
    (λ st t stands found. subst (λ (xs : List Request). Reaches v m told st t xs p2 got) c.as_slice.ensures (c.ask_in_turn-got.ensures.got st t stands found))
    (λ none. c.ask_in_turn-got.ensures.untouched (ap (λ (xs : List Request). granted_in xs got) c.as_slice.ensures ∙ none))
    (ap (λ (x : Parts _ _). x.book.items) e2 ∙ ap (λ (x : Parts _ _). x.book.items) e1)
    (ap (λ (x : Parts _ _). x.prepared) e2 ∙ ap (λ (x : Parts _ _). x.prepared) e1)
    (subst (λ (xs : List Request). IsLeft v m told count p2 s c.args.call (granted_in xs got) e c.settle.new.parts) c.as_slice-2.ensures is)) c.settle.ensures.err

pub settle-requires-clause-seated : goal.settle-requires-clause-seated
settle-requires-clause-seated g c =
    (asked_seated c.requests_of.new.parts c.ask_in_turn-got.new.parts (based_seated c.args.parts.now c.requests_of.new.parts c.requires.seated c.requests_of.ensures.same).seated c.ask_in_turn-got.ensures.same).seated

pub settle-requires-clause-ready : goal.settle-requires-clause-ready
settle-requires-clause-ready g c =
    ap (λ (x : Parts _ _). wait_in (tree.get nat_cmp x.places c.args.session)) c.ask_in_turn-got.ensures.same
    ∙ ap (λ (x : Parts _ _). wait_in (tree.get nat_cmp x.places c.args.session)) c.requests_of.ensures.same ∙ c.requires.ready

pub settle-requires-clause-room : goal.settle-requires-clause-room
settle-requires-clause-room g c = asked_room 2 c.requests_of.new.parts c.ask_in_turn-got.new.parts c.ask_in_turn-got.ensures.same (subst (λ (x : Parts _ _). HasRoom 2 x) (sym c.requests_of.ensures.same) c.requires.room)

pub settle-requires-clause-known : goal.settle-requires-clause-known
settle-requires-clause-known g c =
    subst (λ (x : Option Entries). IsKnown g.C.TreeCall.is_valid g.C.TreeCall.meaning x c.args.call c.in-Ok.wanted.reply)
    (sym (ap (λ (x : Parts _ _). seen_by g.B.NodeRead.contents x c.args.session) c.ask_in_turn-got.ensures.same)) c.in-Ok.ensures.known

pub returns-clause-seated : goal.returns-clause-seated
returns-clause-seated g c =
    let one = based_seated c.args.parts.now c.requests_of.new.parts c.requires.seated c.requests_of.ensures.same in
    seated_on c.args.parts.now c.requests_of.new.parts _ one (seated_on c.requests_of.new.parts c.ask_in_turn-got.new.parts _ (asked_seated c.requests_of.new.parts c.ask_in_turn-got.new.parts one.seated c.ask_in_turn-got.ensures.same) c.settle.ensures.seated)

pub returns-clause-unchanged : goal.returns-clause-unchanged
returns-clause-unchanged g c =
    let p1 = c.requests_of.new.parts in
    g.met.B.NodeRead.unchanged_onward c.args.parts.now.base p1.base c.settle.new.parts.base c.requests_of.ensures.unchanged
    (subst (λ b. g.B.NodeRead.unchanged b c.settle.new.parts.base) (ap (λ (x : Parts _ _). x.base) c.ask_in_turn-got.ensures.same) c.settle.ensures.unchanged)

pub returns-clause-cause : goal.returns-clause-cause
returns-clause-cause g c =
    let p1 = c.requests_of.new.parts in
    cause_on DiskFault seq_error.DiskFault (g.B.NodeRead.count c.args.parts.now.base) (g.B.NodeRead.count p1.base) (g.B.NodeRead.count c.settle.new.parts.base) c.in-Ok.wanted c.settle.result c.in-Ok.ensures.cause
    (subst (λ b. HasCause DiskFault (g.B.NodeRead.count b) (g.B.NodeRead.count c.settle.new.parts.base) c.settle.result) (ap (λ (x : Parts _ _). x.base) c.ask_in_turn-got.ensures.same) c.settle.ensures.cause)

pub returns-then-len-gt-MOST_REQUESTS-clause-seated : goal.returns-then-len-gt-MOST_REQUESTS-clause-seated
returns-then-len-gt-MOST_REQUESTS-clause-seated g c = based_seated c.args.parts.now c.requests_of.new.parts c.requires.seated c.requests_of.ensures.same

pub give_up-requires-clause-seated : goal.give_up-requires-clause-seated
give_up-requires-clause-seated g c = (based_seated c.args.parts.now c.requests_of.new.parts c.requires.seated c.requests_of.ensures.same).seated

pub give_up-requires-clause-ready : goal.give_up-requires-clause-ready
give_up-requires-clause-ready g c = ap (λ (x : Parts _ _). wait_in (tree.get nat_cmp x.places c.args.session)) c.requests_of.ensures.same ∙ c.requires.ready

pub give_up-requires-clause-room : goal.give_up-requires-clause-room
give_up-requires-clause-room g c = subst (λ (x : Parts _ _). HasRoom 2 x) (sym c.requests_of.ensures.same) c.requires.room

pub returns-in-Err-clause-seated : goal.returns-in-Err-clause-seated
returns-in-Err-clause-seated g c = seated_on c.args.parts.now c.requests_of.new.parts _ (based_seated c.args.parts.now c.requests_of.new.parts c.requires.seated c.requests_of.ensures.same) c.give_up.ensures.seated

pub returns-in-Err-clause-err : goal.returns-in-Err-clause-err
returns-in-Err-clause-err g c =
    let v = g.C.TreeCall.is_valid in
    let m = g.C.TreeCall.meaning in
    let told = g.B.NodeRead.contents in
    let count = g.B.NodeRead.count in
    let p = c.args.parts.now in
    let q = c.give_up.new.parts in
    left_at_once v m told count p q c.args.session c.args.call c.give_up.result c.requests_of.ensures.valid c.requires.ready
    (left_after v m told count p c.requests_of.new.parts q c.args.session c.args.call 0 c.give_up.result c.requests_of.ensures.stays c.give_up.ensures.left)

pub settle-requires-clause-passed : goal.settle-requires-clause-passed
settle-requires-clause-passed g c = subst (λ (x : Parts _ _). ArePassed g.B.NodeRead.contents x) (sym c.ask_in_turn-got.ensures.same) c.requests_of.ensures.passed

pub returns-in-Err-clause-passed : goal.returns-in-Err-clause-passed
returns-in-Err-clause-passed g c = c.give_up.ensures.passed c.requests_of.ensures.passed
