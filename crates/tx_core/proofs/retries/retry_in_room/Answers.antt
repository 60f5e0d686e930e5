use Rattle.tx_core.specs.inside.Passed.{ArePassed}
use Rattle.std.proofs.Common.{sym, ap, ◌∙◌, subst, List}
use Rattle.std.specs.Ordering.{nat_cmp}
use Rattle.std.specs.BTreeMap as tree
use Rattle.tx_core.specs.inside.Sessions.{HasRoom, wait_in}
use Rattle.std.proofs.lemmas.Result.{IfErr-weaker, IfOk-weaker}
use Rattle.lock_resources.specs.declared.request.Request.{Request}
use Rattle.tx_core.specs.declared.parts.Parts.{Parts}
use Rattle.tx_core.specs.Cores.{count_told}
use Rattle.tx_core.specs.inside.Asking.{IsInside, granted_in}
use Rattle.tx_core.specs.inside.Goes.{Reaches}
use Rattle.tx_core.specs.inside.Retrying.{AreAsked, IsSettledAgain, IsFailedAgain, waiting_call}
use Rattle.tx_core.proofs.Retried.{settled_again, left_again, failed_early, failed_after, asked_after}
use Rattle.tx_core.proofs.Told.{asked_room, asked_seated, based_seated, seated_on}
use Rattle.tx_core.proofs.ToldAgain.{waits_still}
use Rattle.tx_core.proofs.retries.retry_in_room.Goals as goal

pub returns-in-Err-clause-err : goal.returns-in-Err-clause-err
returns-in-Err-clause-err g c =
    let v = g.C.TreeCall.is_valid in
    let m = g.C.TreeCall.meaning in
    let told = g.B.NodeRead.contents in
    let q = c.fail_again.new.parts in
    let f = count_told c.fail_again.result (g.B.NodeRead.count q.base) in
    λ call waits. (
      0,
      failed_early v m told c.args.parts.now q c.args.session call f
          (failed_after v m told c.args.parts.now c.requests_again.new.parts q c.args.session 0 f c.requests_again.ensures.stays c.fail_again.ensures.failed),
    )

pub returns-then-len-gt-MOST_REQUESTS-clause-err : goal.returns-then-len-gt-MOST_REQUESTS-clause-err
returns-then-len-gt-MOST_REQUESTS-clause-err g c =
    let v = g.C.TreeCall.is_valid in
    let m = g.C.TreeCall.meaning in
    let told = g.B.NodeRead.contents in
    let q = c.fail_again-then-len-gt-MOST_REQUESTS.new.parts in
    let f = count_told c.fail_again-then-len-gt-MOST_REQUESTS.result (g.B.NodeRead.count q.base) in
    λ call waits. (
      0,
      failed_early v m told c.args.parts.now q c.args.session call f
          (failed_after v m told c.args.parts.now c.requests_again.new.parts q c.args.session 0 f c.requests_again.ensures.stays c.fail_again-then-len-gt-MOST_REQUESTS.ensures.failed),
    )

pub returns-clause-ok : goal.returns-clause-ok
returns-clause-ok g c =
    let v = g.C.TreeCall.is_valid in
    let m = g.C.TreeCall.meaning in
    let told = g.B.NodeRead.contents in
    let p = c.args.parts.now in
    let p1 = c.requests_again.new.parts in
    let p2 = c.ask_again-got.new.parts in
    let q = c.settle_again.new.parts in
    let got = c.ask_again-got.result.got in
    let more = c.ask_again-got.result.more in
    let s = c.args.session in
    IfOk-weaker c.settle_again.result _ _ (λ a is call waits. settled_again v m told p p2 q s call c.in-Ok.wanted.requests got more a
    (c.in-Ok.ensures.value call waits)
    (λ st t stands found. subst (λ (xs : List Request). Reaches v m told st t xs p2 got) c.as_slice.ensures (c.ask_again-got.ensures.got st t (c.requests_again.ensures.stays.state st stands) found))
    (asked_after v m told p p1 p2 s c.in-Ok.wanted.requests got more c.requests_again.ensures.stays (subst (λ (xs : List Request). AreAsked v m told p1 s xs got more p2) c.as_slice.ensures c.ask_again-got.ensures.asked))
    (subst (λ (xs : List Request). IsInside xs got) c.as_slice.ensures c.ask_again-got.ensures.inside)
    (ap (λ (x : Parts g.row.C.Denot g.row.B.Denot). x.book.items) c.ask_again-got.ensures.same ∙ ap (λ (x : Parts g.row.C.Denot g.row.B.Denot). x.book.items) c.requests_again.ensures.same)
    (ap (λ (x : Parts g.row.C.Denot g.row.B.Denot). x.prepared) c.ask_again-got.ensures.same ∙ ap (λ (x : Parts g.row.C.Denot g.row.B.Denot). x.prepared) c.requests_again.ensures.same)
    (ap (λ (x : Parts g.row.C.Denot g.row.B.Denot). x.places) c.ask_again-got.ensures.same ∙ ap (λ (x : Parts g.row.C.Denot g.row.B.Denot). x.places) c.requests_again.ensures.same)
    (ap (λ (x : Parts g.row.C.Denot g.row.B.Denot). x.waiting.items) c.ask_again-got.ensures.same ∙ ap (λ (x : Parts g.row.C.Denot g.row.B.Denot). x.waiting.items) c.requests_again.ensures.same)
    (subst (λ (xs : List Request). IsSettledAgain v m told p2 s call xs got more a q) c.as_slice-2.ensures
    (is call (ap (λ (x : Parts g.row.C.Denot g.row.B.Denot). waiting_call x s) c.ask_again-got.ensures.same ∙ ap (λ (x : Parts g.row.C.Denot g.row.B.Denot). waiting_call x s) c.requests_again.ensures.same ∙ waits))))
    c.settle_again.ensures.ok

pub returns-clause-err : goal.returns-clause-err
returns-clause-err g c =
    let v = g.C.TreeCall.is_valid in
    let m = g.C.TreeCall.meaning in
    let told = g.B.NodeRead.contents in
    let p = c.args.parts.now in
    let p2 = c.ask_again-got.new.parts in
    let q = c.settle_again.new.parts in
    let got = c.ask_again-got.result.got in
    let s = c.args.session in
    IfErr-weaker c.settle_again.result _ _ (λ e is call waits.
    let f = count_told e (g.B.NodeRead.count q.base) in (
      granted_in c.in-Ok.wanted.requests got,
      left_again v m told p p2 q s call c.in-Ok.wanted.requests got f
          (c.in-Ok.ensures.value call waits)
          (λ st t stands found. subst (λ (xs : List Request). Reaches v m told st t xs p2 got) c.as_slice.ensures (c.ask_again-got.ensures.got st t (c.requests_again.ensures.stays.state st stands) found))
          (ap (λ (x : Parts g.row.C.Denot g.row.B.Denot). x.book.items) c.ask_again-got.ensures.same ∙ ap (λ (x : Parts g.row.C.Denot g.row.B.Denot). x.book.items) c.requests_again.ensures.same)
          (subst (λ (xs : List Request). IsFailedAgain v m told p2 s (granted_in xs got) f q) c.as_slice-2.ensures is),
    ))
    c.settle_again.ensures.err

pub fail_again-requires-clause-seated : goal.fail_again-requires-clause-seated
fail_again-requires-clause-seated g c = (based_seated c.args.parts.now c.requests_again.new.parts c.requires.seated c.requests_again.ensures.same).seated

pub fail_again-requires-clause-waits : goal.fail_again-requires-clause-waits
fail_again-requires-clause-waits g c = waits_still c.args.parts.now c.requests_again.new.parts c.args.session (ap (λ (x : Parts _ _). wait_in (tree.get nat_cmp x.places c.args.session)) c.requests_again.ensures.same) (ap (λ (x : Parts _ _). x.book.items) c.requests_again.ensures.same) c.requires.waits

pub fail_again-requires-then-len-gt-MOST_REQUESTS-clause-seated : goal.fail_again-requires-then-len-gt-MOST_REQUESTS-clause-seated
fail_again-requires-then-len-gt-MOST_REQUESTS-clause-seated g c = (based_seated c.args.parts.now c.requests_again.new.parts c.requires.seated c.requests_again.ensures.same).seated

pub fail_again-requires-then-len-gt-MOST_REQUESTS-clause-waits : goal.fail_again-requires-then-len-gt-MOST_REQUESTS-clause-waits
fail_again-requires-then-len-gt-MOST_REQUESTS-clause-waits g c = waits_still c.args.parts.now c.requests_again.new.parts c.args.session (ap (λ (x : Parts _ _). wait_in (tree.get nat_cmp x.places c.args.session)) c.requests_again.ensures.same) (ap (λ (x : Parts _ _). x.book.items) c.requests_again.ensures.same) c.requires.waits

pub settle_again-requires-clause-seated : goal.settle_again-requires-clause-seated
settle_again-requires-clause-seated g c = (asked_seated c.requests_again.new.parts c.ask_again-got.new.parts (based_seated c.args.parts.now c.requests_again.new.parts c.requires.seated c.requests_again.ensures.same).seated c.ask_again-got.ensures.same).seated

pub settle_again-requires-clause-waits : goal.settle_again-requires-clause-waits
settle_again-requires-clause-waits g c = waits_still c.args.parts.now c.ask_again-got.new.parts c.args.session (ap (λ (x : Parts _ _). wait_in (tree.get nat_cmp x.places c.args.session)) c.ask_again-got.ensures.same ∙ ap (λ (x : Parts _ _). wait_in (tree.get nat_cmp x.places c.args.session)) c.requests_again.ensures.same) (ap (λ (x : Parts _ _). x.book.items) c.ask_again-got.ensures.same ∙ ap (λ (x : Parts _ _). x.book.items) c.requests_again.ensures.same) c.requires.waits

pub settle_again-requires-clause-room : goal.settle_again-requires-clause-room
settle_again-requires-clause-room g c = asked_room 1 c.requests_again.new.parts c.ask_again-got.new.parts c.ask_again-got.ensures.same (subst (λ (x : Parts _ _). HasRoom 1 x) (sym c.requests_again.ensures.same) c.requires.room)

pub returns-in-Err-clause-seated : goal.returns-in-Err-clause-seated
returns-in-Err-clause-seated g c = seated_on c.args.parts.now c.requests_again.new.parts _ (based_seated c.args.parts.now c.requests_again.new.parts c.requires.seated c.requests_again.ensures.same) c.fail_again.ensures.seated

pub returns-then-len-gt-MOST_REQUESTS-clause-seated : goal.returns-then-len-gt-MOST_REQUESTS-clause-seated
returns-then-len-gt-MOST_REQUESTS-clause-seated g c = seated_on c.args.parts.now c.requests_again.new.parts _ (based_seated c.args.parts.now c.requests_again.new.parts c.requires.seated c.requests_again.ensures.same) c.fail_again-then-len-gt-MOST_REQUESTS.ensures.seated

pub returns-clause-seated : goal.returns-clause-seated
returns-clause-seated g c =
    let one = based_seated c.args.parts.now c.requests_again.new.parts c.requires.seated c.requests_again.ensures.same in
    seated_on c.args.parts.now c.requests_again.new.parts _ one (seated_on c.requests_again.new.parts c.ask_again-got.new.parts _ (asked_seated c.requests_again.new.parts c.ask_again-got.new.parts one.seated c.ask_again-got.ensures.same) c.settle_again.ensures.seated)

pub settle_again-requires-clause-passed : goal.settle_again-requires-clause-passed
settle_again-requires-clause-passed g c = subst (λ (x : Parts _ _). ArePassed g.B.NodeRead.contents x) (sym c.ask_again-got.ensures.same) c.requests_again.ensures.passed

pub returns-in-Err-clause-passed : goal.returns-in-Err-clause-passed
returns-in-Err-clause-passed g c = c.fail_again.ensures.passed c.requests_again.ensures.passed
