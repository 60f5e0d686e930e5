use Rattle.std.proofs.Common.{◌≡◌, ℕ}
use Rattle.std.specs.Prelude.{None}
use Rattle.tree_model.specs.Tree.{Tree}
use Rattle.call_contract.specs.Books.{IsRun}
use Rattle.call_contract.specs.States.{start}
use Rattle.shared_store.specs.Lists.{book_of}
use Rattle.group_commit.specs.Marks.{failure_in, last_commit}
use Rattle.group_commit.specs.Members.{AreReached}
use Rattle.group_commit.specs.OwnLines.{own_printed}
use Rattle.session_driver.specs.Sessions.{Does}
use Rattle.group_commit.specs.StorePorts.{IsOpenedOver, IsSessionNumber}
use Rattle.group_commit.specs.inside.Handing.{IsAllHandedOut}
use Rattle.group_commit.proofs.Finish.{closes, end_all_out, end_does, end_does_some, end_opened, end_out}
use Rattle.group_commit.proofs.Told.{if_ok_to}
use Rattle.group_commit.proofs.run.run_over.Goals as goal

pub close-core-requires-clause-group : goal.close-core-requires-clause-group
close-core-requires-clause-group g c =
    c.work-main.ensures.back.group_is

pub close-core-requires-clause-numbers : goal.close-core-requires-clause-numbers
close-core-requires-clause-numbers g c =
    c.work-main.ensures.back.numbers

pub close-core-requires-clause-all : goal.close-core-requires-clause-all
close-core-requires-clause-all g c =
    closes c.args.group c.args.main c.work-main.result.0 c.work-main.ensures.back c.number-number.ensures.pass

pub returns-clause-opened : goal.returns-clause-opened
returns-clause-opened g c =
    let back = c.work-main.ensures.back in
    let v = c.work-main.result.0 in
    let end = c.close-core in
    end_opened c.args.group c.args.main v back g.B.NodeRead.unchanged end.result.0 end.ensures.opened

pub returns-clause-out : goal.returns-clause-out
returns-clause-out g c =
    let back = c.work-main.ensures.back in
    let v = c.work-main.result.0 in
    let end = c.close-core in
    end_out c.args.group c.args.main v back g.B.NodeRead.unchanged end.result.0 end.ensures.opened g.C.TreeCall.meaning g.B.NodeRead.contents g.J.Disk.is_known end.result.1 end.ensures.book end.ensures.journal

pub returns-clause-durable : goal.returns-clause-durable
returns-clause-durable g c =
    let back = c.work-main.ensures.back in
    let v = c.work-main.result.0 in
    let end = c.close-core in
    let R = IsAllHandedOut g.C.TreeCall.meaning g.B.NodeRead.contents g.J.Disk.is_known c.args.main.pass end.result.0 end.result.1 in
    if_ok_to (λ _. AreReached v.pass.seen (last_commit v.session.seen) × (failure_in v.pass.seen ≡ None)) (λ _. R) c.work-main.result.1 (λ _ h. end_all_out c.args.group c.args.main v back g.B.NodeRead.unchanged end.result.0 end.ensures.opened g.C.TreeCall.meaning g.B.NodeRead.contents g.J.Disk.is_known end.result.1 end.ensures.book end.ensures.journal h.0 h.1) c.work-main.ensures.durable

pub returns-clause-does : goal.returns-clause-does
returns-clause-does g c =
    let back = c.work-main.ensures.back in
    let v = c.work-main.result.0 in
    let end = c.close-core in
    let told = g.B.NodeRead.contents in
    let m = g.C.TreeCall.meaning in
    let made = g.C.LineCall.made in
    let lines = c.args.lines.now in
    if_ok_to
    (λ rs. (t : Tree) (n l : ℕ) → IsOpenedOver told c.args.main.session.seen t n l → IsRun m (start t n l) (book_of v.session.seen) → (k : ℕ) → IsSessionNumber k → Does m k (start t n l) (book_of v.session.seen) (own_printed made k lines rs))
    (λ rs. (t : Tree) (n l : ℕ) → IsOpenedOver told c.args.main.session.seen t n l → IsRun m (start t n l) end.result.0.book → (k : ℕ) → Does m k (start t n l) end.result.0.book (own_printed made k lines rs))
    c.work-main.result.1 (λ rs each t n l opened run. end_does c.args.group c.args.main v back g.B.NodeRead.unchanged end.result.0 end.ensures.opened g.C.TreeCall.meaning g.B.NodeRead.contents g.J.Disk.is_known end.result.1 end.ensures.book end.ensures.journal c.requires.first end.ensures.sessions g.C.LineCall.made c.args.lines.now c.requires.lines.sessions t n l run rs (each t n l opened)) c.work-main.ensures.does

pub returns-clause-stops : goal.returns-clause-stops
returns-clause-stops g c =
    let back = c.work-main.ensures.back in
    let v = c.work-main.result.0 in
    let end = c.close-core in
    λ t n l opened run. end_does_some c.args.group c.args.main v back g.B.NodeRead.unchanged end.result.0 end.ensures.opened g.C.TreeCall.meaning g.B.NodeRead.contents g.J.Disk.is_known end.result.1 end.ensures.book end.ensures.journal c.requires.first end.ensures.sessions g.C.LineCall.made c.args.lines.now c.requires.lines.sessions t n l run (c.work-main.ensures.stops t n l opened)
