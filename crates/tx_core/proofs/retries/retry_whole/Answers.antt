use Rattle.tx_core.specs.inside.Passed.{ArePassed}
use Rattle.std.proofs.Common.{ap, ◌∙◌, arith, subst, sym}
use Rattle.std.proofs.lemmas.Result.{IfErr-weaker, IfOk-weaker}
use Rattle.std.specs.Ordering.{nat_cmp}
use Rattle.std.specs.BTreeMap as tree
use Rattle.tx_core.specs.Cores.{count_told}
use Rattle.tx_core.specs.declared.parts.Parts.{Parts}
use Rattle.tx_core.specs.inside.Retrying.{failed_retry}
use Rattle.tx_core.specs.inside.Sessions.{wait_in}
use Rattle.tx_core.proofs.KeptAgain.{again_after_room, goes_after_room, roomy_stays}
use Rattle.tx_core.proofs.Retried.{failed_after, failed_early}
use Rattle.tx_core.proofs.Told.{less_room, roomy_seated, seated_on}
use Rattle.tx_core.proofs.ToldAgain.{calls_same, waits_still}
use Rattle.tx_core.proofs.retries.retry_whole.Goals as goal

pub retry_in_room-requires-clause-seated : goal.retry_in_room-requires-clause-seated
retry_in_room-requires-clause-seated g c = (roomy_seated c.args.parts.now c.make_room.new.parts c.requires.seated c.make_room.ensures.same c.make_room.ensures.book c.make_room.ensures.room).seated

pub retry_in_room-requires-clause-waits : goal.retry_in_room-requires-clause-waits
retry_in_room-requires-clause-waits g c = waits_still c.args.parts.now c.make_room.new.parts c.args.session (ap (λ (x : Parts _ _). wait_in (tree.get nat_cmp x.places c.args.session)) c.make_room.ensures.same) c.make_room.ensures.book c.requires.waits

pub fail_again-requires-clause-seated : goal.fail_again-requires-clause-seated
fail_again-requires-clause-seated g c = (roomy_seated c.args.parts.now c.make_room.new.parts c.requires.seated c.make_room.ensures.same c.make_room.ensures.book c.make_room.ensures.room).seated

pub fail_again-requires-clause-waits : goal.fail_again-requires-clause-waits
fail_again-requires-clause-waits g c = waits_still c.args.parts.now c.make_room.new.parts c.args.session (ap (λ (x : Parts _ _). wait_in (tree.get nat_cmp x.places c.args.session)) c.make_room.ensures.same) c.make_room.ensures.book c.requires.waits

pub retry_in_room-requires-clause-room : goal.retry_in_room-requires-clause-room
retry_in_room-requires-clause-room g c = less_room 2 1 c.make_room.new.parts (omega (arith)) c.in-Ok.ensures.more

pub returns-in-Ok-clause-ok : goal.returns-in-Ok-clause-ok
returns-in-Ok-clause-ok g c =
    let q = c.retry_in_room.new.parts in
    let s = c.args.session in
    IfOk-weaker c.retry_in_room.result _ _
    (λ a is call waits. again_after_room g.C.TreeCall.is_valid g.C.TreeCall.meaning g.B.NodeRead.contents c.args.parts.now c.make_room.new.parts s call a q (roomy_stays g.C.TreeCall.is_valid g.C.TreeCall.meaning g.B.NodeRead.contents c.args.parts.now c.make_room.new.parts c.make_room.ensures.same c.make_room.ensures.book) (ap (λ (x : Parts _ _). x.places) c.make_room.ensures.same) (ap (λ (x : Parts _ _). x.waiting.items) c.make_room.ensures.same) (is call (calls_same c.args.parts.now c.make_room.new.parts c.args.session (ap (λ (x : Parts _ _). wait_in (tree.get nat_cmp x.places c.args.session)) c.make_room.ensures.same) c.make_room.ensures.book ∙ waits)))
    c.retry_in_room.ensures.ok

pub returns-in-Ok-clause-err : goal.returns-in-Ok-clause-err
returns-in-Ok-clause-err g c =
    let q = c.retry_in_room.new.parts in
    let s = c.args.session in
    IfErr-weaker c.retry_in_room.result _ _
    (λ e is call waits.
    let failed = is call (calls_same c.args.parts.now c.make_room.new.parts c.args.session (ap (λ (x : Parts _ _). wait_in (tree.get nat_cmp x.places c.args.session)) c.make_room.ensures.same) c.make_room.ensures.book ∙ waits) in (
      failed.0,
      goes_after_room g.C.TreeCall.is_valid g.C.TreeCall.meaning g.B.NodeRead.contents c.args.parts.now c.make_room.new.parts s call (failed_retry s failed.0 (count_told e (g.B.NodeRead.count q.base))) q (roomy_stays g.C.TreeCall.is_valid g.C.TreeCall.meaning g.B.NodeRead.contents c.args.parts.now c.make_room.new.parts c.make_room.ensures.same c.make_room.ensures.book) failed.1,
    ))
    c.retry_in_room.ensures.err

pub returns-in-Ok-clause-seated : goal.returns-in-Ok-clause-seated
returns-in-Ok-clause-seated g c = seated_on c.args.parts.now c.make_room.new.parts _ (roomy_seated c.args.parts.now c.make_room.new.parts c.requires.seated c.make_room.ensures.same c.make_room.ensures.book c.make_room.ensures.room) c.retry_in_room.ensures.seated

pub returns-in-Err-clause-seated : goal.returns-in-Err-clause-seated
returns-in-Err-clause-seated g c = seated_on c.args.parts.now c.make_room.new.parts _ (roomy_seated c.args.parts.now c.make_room.new.parts c.requires.seated c.make_room.ensures.same c.make_room.ensures.book c.make_room.ensures.room) c.fail_again.ensures.seated

pub returns-in-Err-clause-err : goal.returns-in-Err-clause-err
returns-in-Err-clause-err g c =
    let q = c.fail_again.new.parts in
    let f = count_told c.fail_again.result (g.B.NodeRead.count q.base) in
    λ call waits. (
      0,
      failed_early g.C.TreeCall.is_valid g.C.TreeCall.meaning g.B.NodeRead.contents c.args.parts.now q c.args.session call f
          (failed_after g.C.TreeCall.is_valid g.C.TreeCall.meaning g.B.NodeRead.contents c.args.parts.now c.make_room.new.parts q c.args.session 0 f
          (roomy_stays g.C.TreeCall.is_valid g.C.TreeCall.meaning g.B.NodeRead.contents c.args.parts.now c.make_room.new.parts c.make_room.ensures.same c.make_room.ensures.book) c.fail_again.ensures.failed),
    )

pub retry_in_room-requires-clause-passed : goal.retry_in_room-requires-clause-passed
retry_in_room-requires-clause-passed g c = subst (λ (x : Parts _ _). ArePassed g.B.NodeRead.contents x) (sym c.make_room.ensures.same) c.requires.passed

pub returns-in-Err-clause-passed : goal.returns-in-Err-clause-passed
returns-in-Err-clause-passed g c = c.fail_again.ensures.passed (subst (λ (x : Parts _ _). ArePassed g.B.NodeRead.contents x) (sym c.make_room.ensures.same) c.requires.passed)
