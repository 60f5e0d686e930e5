use denote.Param.Send.{sendable}
use Rattle.std.proofs.Crossing.{crosses}
use Rattle.std.proofs.option.Option.TheSendSync as option
use Rattle.worker_run.proofs.port.PortFault.TheSendSync as fault
use Rattle.group_commit.proofs.Sent.{group_sync, member_send}
use Rattle.std.proofs.Common.{rules, ◌≡◌, ◌∙◌, ℕ, List, refl, sym, ap, subst, [], ◌∷◌, ◌++◌, length}
use Rattle.std.specs.Prelude.{IfOk}
use Rattle.std.specs.List.{AllByRecursion, AllZip}
use Rattle.tree_model.specs.Tree.{Tree}
use Rattle.call_contract.specs.Books.{IsRun}
use Rattle.call_contract.specs.States.{start}
use Rattle.command_lines.specs.declared.line_reply.LineReply.{LineReply}
use Rattle.shared_store.specs.Lists.{book_of}
use Rattle.shared_store.specs.Sessions.{SessionView}
use Rattle.worker_run.specs.Workers.{HasReplied}
use Rattle.worker_run.specs.declared.port.PortFault.TheVariants.{NoMemory}
use Rattle.group_commit.specs.OwnLines.{own_doings, own_printed}
use Rattle.session_driver.specs.Sessions.{Does, DoesSome}
use Rattle.group_commit.specs.StorePorts.{IsOpenedOver, IsSessionNumber, store_ports}
use Rattle.group_commit.specs.inside.Joining.{IsJoinedTo, IsServed, MayJoin, left_port}
use Rattle.group_commit.specs.inside.PortLaws.{pass_itself}
use Rattle.group_commit.proofs.Finish.{all_back_in, some_opening}
use Rattle.group_commit.proofs.Over.{WasSplit, back_joins, each_does, each_does_some, idle_all_came, idle_back, idle_joined, idle_joins, left_is_port, one_port, some_back, worked_back, worked_came}
use Rattle.group_commit.proofs.Splits.{split_of}
use Rattle.group_commit.proofs.Told.{if_ok_of, if_ok_to}
use Rattle.group_commit.proofs.run.work.Goals as goal
use Rattle.group_commit.proofs.run.work.Goals.{then-not-split-via-then-not-split, then-not-split-via-else-not-split+then-is_err}

pub join_ports-requires-clause-group : goal.join_ports-requires-clause-group
join_ports-requires-clause-group g c =
    split_of c.args.group.now c.args.main c.split_ports-split.new.main c.requires.first c.split_ports-split.ensures.main

pub join_ports-requires-clause-ports : goal.join_ports-requires-clause-ports
join_ports-requires-clause-ports g c =
    let told = g.B.NodeRead.contents in
    let m = g.C.TreeCall.meaning in
    let made = g.C.LineCall.made in
    let group = c.args.group.now in
    let first = c.args.main in
    let s = c.split_ports-split in
    let main = s.new.main in
    let ports = s.new.ports.items in
    let split : WasSplit told m made c.args.group.now c.args.main s.new.main s.new.ports.items = record { is_first = c.requires.first; same = s.ensures.main; own = s.ensures.own; fresh = s.ensures.fresh; given = s.ensures.given } in
    let same : c.then-not-split.ports.items ≡ s.new.ports.items = elim c.then-not-split.branch [
      | then-not-split-via-then-not-split w ↦ search rules
      | then-not-split-via-else-not-split+then-is_err w ↦ search rules
    ] in
    subst (AllByRecursion (MayJoin group)) (sym same) (idle_joins told m made group first main ports split)

pub returns-then-not-split-clause-back : goal.returns-then-not-split-clause-back
returns-then-not-split-clause-back g c =
    let told = g.B.NodeRead.contents in
    let m = g.C.TreeCall.meaning in
    let made = g.C.LineCall.made in
    let group = c.args.group.now in
    let first = c.args.main in
    let s = c.split_ports-split in
    let main = s.new.main in
    let ports = s.new.ports.items in
    let split : WasSplit told m made c.args.group.now c.args.main s.new.main s.new.ports.items = record { is_first = c.requires.first; same = s.ensures.main; own = s.ensures.own; fresh = s.ensures.fresh; given = s.ensures.given } in
    let same : c.then-not-split.ports.items ≡ s.new.ports.items = elim c.then-not-split.branch [
      | then-not-split-via-then-not-split w ↦ search rules
      | then-not-split-via-else-not-split+then-is_err w ↦ search rules
    ] in
    let new = ports ++ left_port main ∷ [] in
    let back = idle_back told m made group first main ports split in
    let z = c.join_ports.new.main in
    let joined = idle_joined told m made group first main ports split z c.join_ports.ensures.main (subst (AllByRecursion (IsJoinedTo z)) same c.join_ports.ensures.ports) in
    all_back_in told m made group first main ports split new back z joined z refl (pass_itself z.pass) c.join_ports.ensures.group c.number-own.ensures.opened

pub returns-then-not-split-clause-stops : goal.returns-then-not-split-clause-stops
returns-then-not-split-clause-stops g c =
    let told = g.B.NodeRead.contents in
    let m = g.C.TreeCall.meaning in
    let made = g.C.LineCall.made in
    let group = c.args.group.now in
    let first = c.args.main in
    let s = c.split_ports-split in
    let main = s.new.main in
    let ports = s.new.ports.items in
    let split : WasSplit told m made c.args.group.now c.args.main s.new.main s.new.ports.items = record { is_first = c.requires.first; same = s.ensures.main; own = s.ensures.own; fresh = s.ensures.fresh; given = s.ensures.given } in
    let same : c.then-not-split.ports.items ≡ s.new.ports.items = elim c.then-not-split.branch [
      | then-not-split-via-then-not-split w ↦ search rules
      | then-not-split-via-else-not-split+then-is_err w ↦ search rules
    ] in
    let new = ports ++ left_port main ∷ [] in
    let back = idle_back told m made group first main ports split in
    let z = c.join_ports.new.main in
    let joined = idle_joined told m made group first main ports split z c.join_ports.ensures.main (subst (AllByRecursion (IsJoinedTo z)) same c.join_ports.ensures.ports) in
    let lines = c.args.lines.now in
    λ t n l over run k is. each_does_some told m made group first main ports split lines new z joined t n l over run k is (idle_all_came told m made group first main ports split lines)

pub new-requires : goal.new-requires
new-requires g c =
    let told = g.B.NodeRead.contents in
    let m = g.C.TreeCall.meaning in
    let made = g.C.LineCall.made in
    let group = c.args.group.now in
    let first = c.args.main in
    let s = c.split_ports-split in
    let main = s.new.main in
    let ports = s.new.ports.items in
    let split : WasSplit told m made c.args.group.now c.args.main s.new.main s.new.ports.items = record { is_first = c.requires.first; same = s.ensures.main; own = s.ensures.own; fresh = s.ensures.fresh; given = s.ensures.given } in
    let under : s.new.main.session.under ≡ c.args.main.session.under = ap (λ (p : SessionView _ _). p.under) s.ensures.main.session in
    (left_is_port told m made group first main ports split, c.number-own.ensures.number ∙ sym under)

pub run_workers-ports-requires-send-T : goal.run_workers-ports-requires-send-T
run_workers-ports-requires-send-T g c κs within =
    let a = c.type_bounds.send-C in
    let b = c.type_bounds.send-B in
    let d = c.type_bounds.send-J in
    search (sendable, crosses, option.the_field_send, fault.the_field_send, member_send, group_sync) depth 40

pub run_workers-ports-requires-clause-one_port : goal.run_workers-ports-requires-clause-one_port
run_workers-ports-requires-clause-one_port g c κs within =
    let told = g.B.NodeRead.contents in
    let m = g.C.TreeCall.meaning in
    let made = g.C.LineCall.made in
    let group = c.args.group.now in
    let first = c.args.main in
    let s = c.split_ports-split in
    let main = s.new.main in
    let ports = s.new.ports.items in
    let split : WasSplit told m made c.args.group.now c.args.main s.new.main s.new.ports.items = record { is_first = c.requires.first; same = s.ensures.main; own = s.ensures.own; fresh = s.ensures.fresh; given = s.ensures.given } in
    let old : c.from_vec.result ≡ s.new.ports.items ++ left_port s.new.main ∷ [] = search rules in
    one_port told m made group first main ports split c.args.lines.now c.from_vec.result old (search rules) c.requires.lines.sessions

pub join_all-main-requires-clause-some : goal.join_all-main-requires-clause-some
join_all-main-requires-clause-some g c =
    let told = g.B.NodeRead.contents in
    let m = g.C.TreeCall.meaning in
    let made = g.C.LineCall.made in
    let group = c.args.group.now in
    let first = c.args.main in
    let s = c.split_ports-split in
    let main = s.new.main in
    let ports = s.new.ports.items in
    let split : WasSplit told m made c.args.group.now c.args.main s.new.main s.new.ports.items = record { is_first = c.requires.first; same = s.ensures.main; own = s.ensures.own; fresh = s.ensures.fresh; given = s.ensures.given } in
    let w = c.run_workers-ports in
    let old : c.from_vec.result ≡ s.new.ports.items ++ left_port s.new.main ∷ [] = search rules in
    some_back told m made group first main ports split c.args.lines.now c.from_vec.result w.result.ports old w.result.replies NoMemory w.ensures.ports

pub join_all-main-requires-clause-ports : goal.join_all-main-requires-clause-ports
join_all-main-requires-clause-ports g c =
    let told = g.B.NodeRead.contents in
    let m = g.C.TreeCall.meaning in
    let made = g.C.LineCall.made in
    let group = c.args.group.now in
    let first = c.args.main in
    let s = c.split_ports-split in
    let main = s.new.main in
    let ports = s.new.ports.items in
    let split : WasSplit told m made c.args.group.now c.args.main s.new.main s.new.ports.items = record { is_first = c.requires.first; same = s.ensures.main; own = s.ensures.own; fresh = s.ensures.fresh; given = s.ensures.given } in
    let w = c.run_workers-ports in
    let old : c.from_vec.result ≡ s.new.ports.items ++ left_port s.new.main ∷ [] = search rules in
    back_joins told m made group first main ports split c.args.lines.now c.from_vec.result w.result.ports old w.result.replies NoMemory w.ensures.ports

pub once_durable-replies-requires-clause-opened : goal.once_durable-replies-requires-clause-opened
once_durable-replies-requires-clause-opened g c =
    let told = g.B.NodeRead.contents in
    let m = g.C.TreeCall.meaning in
    let made = g.C.LineCall.made in
    let group = c.args.group.now in
    let first = c.args.main in
    let s = c.split_ports-split in
    let main = s.new.main in
    let ports = s.new.ports.items in
    let split : WasSplit told m made c.args.group.now c.args.main s.new.main s.new.ports.items = record { is_first = c.requires.first; same = s.ensures.main; own = s.ensures.own; fresh = s.ensures.fresh; given = s.ensures.given } in
    let w = c.run_workers-ports in
    let old : c.from_vec.result ≡ s.new.ports.items ++ left_port s.new.main ∷ [] = search rules in
    let new = w.result.ports in
    let back = worked_back told m made group first main ports split c.args.lines.now c.from_vec.result new old w.result.replies NoMemory w.ensures.ports in
    let z = c.join_all-main.result in
    let joined = c.join_all-main.ensures.ports in
    some_opening told m made group first main ports split new back z joined

pub returns-clause-back : goal.returns-clause-back
returns-clause-back g c =
    let told = g.B.NodeRead.contents in
    let m = g.C.TreeCall.meaning in
    let made = g.C.LineCall.made in
    let group = c.args.group.now in
    let first = c.args.main in
    let s = c.split_ports-split in
    let main = s.new.main in
    let ports = s.new.ports.items in
    let split : WasSplit told m made c.args.group.now c.args.main s.new.main s.new.ports.items = record { is_first = c.requires.first; same = s.ensures.main; own = s.ensures.own; fresh = s.ensures.fresh; given = s.ensures.given } in
    let w = c.run_workers-ports in
    let old : c.from_vec.result ≡ s.new.ports.items ++ left_port s.new.main ∷ [] = search rules in
    let new = w.result.ports in
    let back = worked_back told m made group first main ports split c.args.lines.now c.from_vec.result new old w.result.replies NoMemory w.ensures.ports in
    let z = c.join_all-main.result in
    let joined = c.join_all-main.ensures.ports in
    let v = c.once_durable-replies.new.main in
    let kept = c.once_durable-replies.ensures.main in
    all_back_in told m made group first main ports split new back z joined v kept.0 kept.1 c.join_all-main.ensures.group c.number-own.ensures.opened

pub returns-clause-durable : goal.returns-clause-durable
returns-clause-durable g c =
    c.once_durable-replies.ensures.durable

pub returns-clause-all : goal.returns-clause-all
returns-clause-all g c =
    let given = c.once_durable-replies in
    let w = c.run_workers-ports in
    if_ok_of (λ rs. length rs ≡ length c.args.lines.now) given.result w.result.replies given.ensures.replies w.ensures.all

pub returns-clause-does : goal.returns-clause-does
returns-clause-does g c =
    let told = g.B.NodeRead.contents in
    let m = g.C.TreeCall.meaning in
    let made = g.C.LineCall.made in
    let group = c.args.group.now in
    let first = c.args.main in
    let s = c.split_ports-split in
    let main = s.new.main in
    let ports = s.new.ports.items in
    let split : WasSplit told m made c.args.group.now c.args.main s.new.main s.new.ports.items = record { is_first = c.requires.first; same = s.ensures.main; own = s.ensures.own; fresh = s.ensures.fresh; given = s.ensures.given } in
    let w = c.run_workers-ports in
    let old : c.from_vec.result ≡ s.new.ports.items ++ left_port s.new.main ∷ [] = search rules in
    let new = w.result.ports in
    let back = worked_back told m made group first main ports split c.args.lines.now c.from_vec.result new old w.result.replies NoMemory w.ensures.ports in
    let z = c.join_all-main.result in
    let joined = c.join_all-main.ensures.ports in
    let v = c.once_durable-replies.new.main in
    let kept = c.once_durable-replies.ensures.main in
    let given = c.once_durable-replies in
    let lines = c.args.lines.now in
    let served : AllByRecursion (IsServed main.session) lines = search rules in
    let R : SessionView _ _ → List LineReply → Type 0 = λ p rs. (t : Tree) (n l : ℕ) → IsOpenedOver told first.session.seen t n l → IsRun m (start t n l) (book_of p.seen) → (k : ℕ) → IsSessionNumber k → Does m k (start t n l) (book_of p.seen) (own_printed made k lines rs) in
    let all = if_ok_to (λ rs. AllZip (HasReplied (store_ports told m made) lines rs) c.from_vec.result new) (R z.session) w.result.replies
    (λ rs zip t n l over run k is. each_does told m made group first main ports split lines new z joined t n l over run k is rs (subst (λ ps. AllZip (HasReplied (store_ports told m made) lines rs) ps new) old zip) served) w.ensures.replies in
    subst (λ p. IfOk given.result (R p)) (sym kept.0) (if_ok_of (R z.session) given.result w.result.replies given.ensures.replies all)

pub returns-clause-stops : goal.returns-clause-stops
returns-clause-stops g c =
    let told = g.B.NodeRead.contents in
    let m = g.C.TreeCall.meaning in
    let made = g.C.LineCall.made in
    let group = c.args.group.now in
    let first = c.args.main in
    let s = c.split_ports-split in
    let main = s.new.main in
    let ports = s.new.ports.items in
    let split : WasSplit told m made c.args.group.now c.args.main s.new.main s.new.ports.items = record { is_first = c.requires.first; same = s.ensures.main; own = s.ensures.own; fresh = s.ensures.fresh; given = s.ensures.given } in
    let w = c.run_workers-ports in
    let old : c.from_vec.result ≡ s.new.ports.items ++ left_port s.new.main ∷ [] = search rules in
    let new = w.result.ports in
    let back = worked_back told m made group first main ports split c.args.lines.now c.from_vec.result new old w.result.replies NoMemory w.ensures.ports in
    let z = c.join_all-main.result in
    let joined = c.join_all-main.ensures.ports in
    let v = c.once_durable-replies.new.main in
    let kept = c.once_durable-replies.ensures.main in
    let lines = c.args.lines.now in
    let came = worked_came told m made group first main ports split lines c.from_vec.result new old w.result.replies NoMemory w.ensures.ports in
    let R : SessionView _ _ → Type 0 = λ p. (t : Tree) (n l : ℕ) → IsOpenedOver told first.session.seen t n l → IsRun m (start t n l) (book_of p.seen) → (k : ℕ) → IsSessionNumber k → DoesSome m k (start t n l) (book_of p.seen) (own_doings made k lines) in
    subst R (sym kept.0) (λ t n l over run k is. each_does_some told m made group first main ports split lines new z joined t n l over run k is came)
