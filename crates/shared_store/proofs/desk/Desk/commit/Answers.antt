use Rattle.std.proofs.Common.{◌≡◌, Some, Ok, Err, sym, ap, subst, ◌∙◌}
use Rattle.std.specs.Prelude.{IfOk}
use Rattle.tree_model.specs.Tree.{Tree}
use Rattle.node_seq.specs.Trees.{StandsFor}
use Rattle.call_contract.specs.Sessions.{live_in}
use Rattle.tx_core.specs.Commits.{HasChangesOf, IsPrepared, pending_of}
use Rattle.tx_core.specs.Cores.{CoreView, next_number, state_from}
use Rattle.tx_core.specs.Refusals.{refused_call, shown_prepare_refusal}
use Rattle.shared_store.specs.Calls.{HasCommitted}
use Rattle.shared_store.specs.Lists.{list_of}
use Rattle.shared_store.specs.declared.errors.StoreError.TheVariants as store_error
use Rattle.shared_store.specs.inside.Desks.{AddsUnder, DeskView, list_in}
use Rattle.shared_store.proofs.Bodies.{bodies_more}
use Rattle.shared_store.proofs.Desks.{adds, commit_desk, commits_one, committed, uncommitted, unmade}
use Rattle.shared_store.proofs.desk.Desk.commit.Goals as goal

pub returns-in-Err-clause-told : goal.returns-in-Err-clause-told
returns-in-Err-clause-told g c =
    let d = c.self.inside in
    let w = c.prepare.new.self in
    let s = c.args.session in
    let m = g.C.TreeCall.meaning in
    let told = g.B.NodeRead.contents in
    subst (λ (z : DeskView _ _). HasCommitted told m (list_in z) s c.ended.result (list_of d.first.value w.book d.drains.items)) c.self.view_is
    (subst (λ r. HasCommitted told m (list_of d.first.value d.core.book d.drains.items) s r (list_of d.first.value w.book d.drains.items)) (sym c.ended.ensures)
    (uncommitted g.B.NodeRead.unchanged d.first.value d.core w d.drains c.self.invariant.0 s m told c.prepare.result c.in-Err.why c.in-Err.is c.prepare.ensures.err c.prepare.ensures.refused c.prepare.ensures.limit))

pub invariant_of-self-then-make_room : goal.invariant_of-self-then-make_room
invariant_of-self-then-make_room g c =
    let d = c.self.inside in
    let s = c.args.session in
    let ready = subst (λ r. IfOk r (λ _. c.prepare.new.self ≡ record d.core { prepared = Some s })) c.in-Ok.is c.prepare.ensures.ok in
    let made = commits_one s c.commit.result d.core c.prepare.new.self c.commit.new.self (pending_of c.in-Ok.prepared) ready c.commit.ensures.committed in
    let prepared = subst (λ r. IfOk r (λ p. IsPrepared d.core p)) c.in-Ok.is c.prepare.ensures.commit in
    let changes = subst (λ r. IfOk r (λ p. (t : Tree) → StandsFor (g.B.NodeRead.contents d.core.opening) t → HasChangesOf g.C.TreeCall.meaning (state_from g.C.TreeCall.meaning t d.core) s p)) c.in-Ok.is c.prepare.ensures.changes in
    let free = subst (λ r. shown_prepare_refusal r ≡ refused_call (live_in d.core.book s)) c.in-Ok.is c.prepare.ensures.refused in (
      commit_desk g.B.NodeRead.unchanged d.first.value d.core c.commit.new.self d.drains c.make_room.new.drains c.self.invariant.0 s c.requires made.0 made.1 made.2 c.make_room.ensures.same (c.make_room.ensures.room c.if-make_room.true),
      bodies_more g.C.TreeCall.meaning g.B.NodeRead.contents g.C.TreeCall.is_valid g.met.C.TreeCall.laws d.core c.commit.new.self s c.commit.result c.in-Ok.prepared made.3 made.0.opening made.4 free prepared.body changes c.is_legal.ensures.book c.self.invariant.1,
    )

pub returns-then-make_room-clause-told : goal.returns-then-make_room-clause-told
returns-then-make_room-clause-told g c =
    let d = c.self.inside in
    let s = c.args.session in
    let m = g.C.TreeCall.meaning in
    let told = g.B.NodeRead.contents in
    let ready = subst (λ r. IfOk r (λ _. c.prepare.new.self ≡ record d.core { prepared = Some s })) c.in-Ok.is c.prepare.ensures.ok in
    let free = subst (λ r. shown_prepare_refusal r ≡ refused_call (live_in d.core.book s)) c.in-Ok.is c.prepare.ensures.refused in
    let made = commits_one s c.commit.result d.core c.prepare.new.self c.commit.new.self (pending_of c.in-Ok.prepared) ready c.commit.ensures.committed in
    subst (λ (z : DeskView _ _). HasCommitted told m (list_in z) s (Ok c.commit.result) (list_of d.first.value c.commit.new.self.book c.make_room.new.drains.items)) c.self.view_is
    (subst (λ ds. HasCommitted told m (list_of d.first.value d.core.book d.drains.items) s (Ok c.commit.result) (list_of d.first.value c.commit.new.self.book ds)) (sym c.make_room.ensures.same)
    (committed g.B.NodeRead.unchanged d.first.value d.core c.commit.new.self d.drains c.self.invariant.0 s m told c.commit.result made.3 (c.commit.ensures.number ∙ ap (λ (v : CoreView _ _). next_number v) ready) free))

pub returns-then-make_room-clause-under : goal.returns-then-make_room-clause-under
returns-then-make_room-clause-under g c =
    let d = c.self.inside in
    let s = c.args.session in
    let ready = subst (λ r. IfOk r (λ _. c.prepare.new.self ≡ record d.core { prepared = Some s })) c.in-Ok.is c.prepare.ensures.ok in
    let made = commits_one s c.commit.result d.core c.prepare.new.self c.commit.new.self (pending_of c.in-Ok.prepared) ready c.commit.ensures.committed in
    subst (λ (z : DeskView _ _). AddsUnder s (list_in z) (list_of d.first.value c.commit.new.self.book c.make_room.new.drains.items)) c.self.view_is
    (subst (λ ds. AddsUnder s (list_of d.first.value d.core.book d.drains.items) (list_of d.first.value c.commit.new.self.book ds)) (sym c.make_room.ensures.same)
    (adds g.B.NodeRead.unchanged d.first.value d.core c.commit.new.self d.drains c.self.invariant.0 s c.requires made.0))

pub returns-else-make_room-clause-told : goal.returns-else-make_room-clause-told
returns-else-make_room-clause-told g c =
    let d = c.self.inside in
    let s = c.args.session in
    let m = g.C.TreeCall.meaning in
    let told = g.B.NodeRead.contents in
    let ready = subst (λ r. IfOk r (λ _. c.prepare.new.self ≡ record d.core { prepared = Some s })) c.in-Ok.is c.prepare.ensures.ok in
    let free = subst (λ r. shown_prepare_refusal r ≡ refused_call (live_in d.core.book s)) c.in-Ok.is c.prepare.ensures.refused in
    subst (λ (z : DeskView _ _). HasCommitted told m (list_in z) s (Err store_error.NoMemory) (list_of d.first.value c.prepare.new.self.book c.make_room.new.drains.items)) c.self.view_is
    (subst (λ ds. HasCommitted told m (list_of d.first.value d.core.book d.drains.items) s (Err store_error.NoMemory) (list_of d.first.value c.prepare.new.self.book ds)) (sym c.make_room.ensures.same)
    (unmade g.B.NodeRead.unchanged d.first.value d.core c.prepare.new.self d.drains c.self.invariant.0 s m told (ap (λ (v : CoreView _ _). v.book) ready) free))
