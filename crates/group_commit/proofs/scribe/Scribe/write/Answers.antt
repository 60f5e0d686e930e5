use Rattle.std.proofs.Common.{◌≡◌, ◌<◌, ◌+◌, ℕ, IsTrue, List, ap, sym, subst, ◌∙◌, refl}
use Rattle.std.specs.Prelude.{None, Option, Some, Ok, Err, OnErr, OnOk, length, true}
use Rattle.tree_model.specs.Tree.{Tree}
use Rattle.node_records.specs.declared.pending.Pending.{Pending}
use Rattle.shared_store.specs.Bodies.{HaveLastBodies}
use Rattle.shared_store.specs.Sessions.{SessionView}
use Rattle.shared_store.specs.Lists.{book_of, OpensFrom}
use Rattle.journal.specs.Batches.{AddsCommits, HasAddedAll, pairs_of}
use Rattle.shared_store.specs.declared.errors.StoreError.TheVariants.{DiskFault}
use Rattle.group_commit.specs.Marks.{last_commit}
use Rattle.group_commit.specs.Members.{IsMadeDurable}
use Rattle.group_commit.specs.Written.{LeavesWritten}
use Rattle.group_commit.specs.declared.mark.Failed.{Failed}
use Rattle.group_commit.specs.inside.Scribes.{began_after, IsScribe, marks_in, scribe_of, ScribeView}
use Rattle.group_commit.proofs.Lists.{some_in}
use Rattle.group_commit.proofs.Scribing.{call_leaves_written, follow, gathered_as, halted, made_already, made_err, made_ok, may_append, none_waited, takes, unchanged, with_parts, written}
use Rattle.group_commit.proofs.scribe.Scribe.write.Goals as goal

pub gather-commits-requires-clause-store : goal.gather-commits-requires-clause-store
gather-commits-requires-clause-store g c =
    (c.self.invariant.drainer.lock ∙ (ap (λ (x : ScribeView _ _). x.session.lock) c.self.view_is ∙ c.requires.store.0), c.requires.store.1)

pub gather-commits-requires-clause-number : goal.gather-commits-requires-clause-number
gather-commits-requires-clause-number g c =
    c.self.invariant.drainer.has

-- no commit waits
pub invariant_of-self : goal.invariant_of-self
invariant_of-self g c =
    let s = c.self.inside in
    let v : ScribeView _ _ = scribe_of s.journal s.drainer s.session.value s.opening.value s.written s.durable s.failure in
    let none : v.failure ≡ None = ap (λ (x : ScribeView _ _). x.failure) c.self.view_is ∙ c.requires.unfailed in
    let e = c.gather-commits.ensures in
    let d = c.gather-commits.new.drainer in
    let ps = c.gather-commits.result in
    let got = gathered_as s.drainer.seen d.seen ps ps refl e.grown e.follow e.all e.drained in
    subst (λ (f : Option Failed). IsScribe g.C.TreeCall.meaning g.B.NodeRead.contents g.J.Disk.is_known (with_parts v s.journal d s.written s.durable f)) (sym none)
    (none_waited g.C.TreeCall.meaning g.B.NodeRead.contents g.J.Disk.is_known v c.self.invariant none d ps e.drainer got e.bodies (c.is_empty.ensures.0 c.if-is_empty.true))

pub returns-then-is_empty-clause-answer : goal.returns-then-is_empty-clause-answer
returns-then-is_empty-clause-answer g c =
    let s = c.self.inside in
    let v : ScribeView _ _ = scribe_of s.journal s.drainer s.session.value s.opening.value s.written s.durable s.failure in
    let none : v.failure ≡ None = ap (λ (x : ScribeView _ _). x.failure) c.self.view_is ∙ c.requires.unfailed in
    let e = c.gather-commits.ensures in
    let d = c.gather-commits.new.drainer in
    let ps = c.gather-commits.result in
    let got = gathered_as s.drainer.seen d.seen ps ps refl e.grown e.follow e.all e.drained in
    subst (λ (x : ScribeView _ _). IsMadeDurable (marks_in x) c.args.session.now.under (last_commit c.args.session.now.seen) (Ok tt) (marks_in v)) c.self.view_is
    (made_already g.C.TreeCall.meaning g.B.NodeRead.contents g.J.Disk.is_known v c.self.invariant none d ps e.drainer got e.bodies c.args.session.now.under (last_commit c.args.session.now.seen) e.covers (c.is_empty.ensures.0 c.if-is_empty.true))

pub returns-then-is_empty-clause-moments : goal.returns-then-is_empty-clause-moments
returns-then-is_empty-clause-moments g c = λ is_known.
    let s = c.self.inside in
    let v : ScribeView _ _ = scribe_of s.journal s.drainer s.session.value s.opening.value s.written s.durable s.failure in
    let none : v.failure ≡ None = ap (λ (x : ScribeView _ _). x.failure) c.self.view_is ∙ c.requires.unfailed in
    let e = c.gather-commits.ensures in
    let d = c.gather-commits.new.drainer in
    let ps = c.gather-commits.result in
    let got = gathered_as s.drainer.seen d.seen ps ps refl e.grown e.follow e.all e.drained in
    let after = with_parts v s.journal d s.written s.durable None in
    subst (λ (x : ScribeView _ _). LeavesWritten x.opening (began_after x) x.written (last_commit d.seen) x.journal.history s.journal.history) c.self.view_is
    (unchanged g.C.TreeCall.meaning g.B.NodeRead.contents g.J.Disk.is_known after (none_waited g.C.TreeCall.meaning g.B.NodeRead.contents g.J.Disk.is_known v c.self.invariant none d ps e.drainer got e.bodies (c.is_empty.ensures.0 c.if-is_empty.true)) c.is_usable.ensures.settled is_known)

pub append_groups-appended-requires : goal.append_groups-appended-requires
append_groups-appended-requires g c =
    let s = c.self.inside in
    let v : ScribeView _ _ = scribe_of s.journal s.drainer s.session.value s.opening.value s.written s.durable s.failure in
    let none : v.failure ≡ None = ap (λ (x : ScribeView _ _). x.failure) c.self.view_is ∙ c.requires.unfailed in
    let e = c.gather-commits.ensures in
    let d = c.gather-commits.new.drainer in
    let ps = c.as_slice-pending.result.now in
    let got = gathered_as s.drainer.seen d.seen c.gather-commits.result ps c.as_slice-pending.ensures e.grown e.follow e.all e.drained in
    let lasts : (t : Tree) → OpensFrom g.B.NodeRead.contents d.seen t → HaveLastBodies g.C.TreeCall.meaning t (book_of d.seen) ps = λ t opens. subst (λ (l : List Pending). HaveLastBodies g.C.TreeCall.meaning t (book_of d.seen) l) (sym c.as_slice-pending.ensures) (e.bodies t opens) in
    record {
      may = record {
        usable = takes g.C.TreeCall.meaning g.B.NodeRead.contents g.J.Disk.is_known v c.self.invariant none d ps e.drainer got lasts;
        follow = may_append g.C.TreeCall.meaning g.B.NodeRead.contents g.J.Disk.is_known v c.self.invariant none d ps e.drainer got lasts;
        some = some_in c.as_slice-pending.result.now c.is_empty.result c.if-is_empty.false (λ empty. c.is_empty.ensures.1 (sym c.as_slice-pending.ensures ∙ empty));
      };
    }

pub last_number-self-inside-requires : goal.last_number-self-inside-requires
last_number-self-inside-requires g c =
    some_in c.as_slice-pending.result.now c.is_empty.result c.if-is_empty.false (λ empty. c.is_empty.ensures.1 (sym c.as_slice-pending.ensures ∙ empty))

pub invariant_of-self-in-Ok : goal.invariant_of-self-in-Ok
invariant_of-self-in-Ok g c =
    let s = c.self.inside in
    let v : ScribeView _ _ = scribe_of s.journal s.drainer s.session.value s.opening.value s.written s.durable s.failure in
    let none : v.failure ≡ None = ap (λ (x : ScribeView _ _). x.failure) c.self.view_is ∙ c.requires.unfailed in
    let e = c.gather-commits.ensures in
    let d = c.gather-commits.new.drainer in
    let ps = c.as_slice-pending.result.now in
    let got = gathered_as s.drainer.seen d.seen c.gather-commits.result ps c.as_slice-pending.ensures e.grown e.follow e.all e.drained in
    let lasts : (t : Tree) → OpensFrom g.B.NodeRead.contents d.seen t → HaveLastBodies g.C.TreeCall.meaning t (book_of d.seen) ps = λ t opens. subst (λ (l : List Pending). HaveLastBodies g.C.TreeCall.meaning t (book_of d.seen) l) (sym c.as_slice-pending.ensures) (e.bodies t opens) in
    let j = c.append_groups-appended.new.self in
    let added = subst (λ r. OnOk r (HasAddedAll (pairs_of ps) s.journal j)) c.in-Ok.is c.append_groups-appended.ensures.ok in
    let exact = subst (λ r. OnOk r (j.faults ≡ s.journal.faults)) c.in-Ok.is c.append_groups-appended.ensures.cause.exact in
    let adds : IsTrue g.J.Disk.is_known → AddsCommits s.journal.gate (pairs_of ps) s.journal.history j.history = λ is_known. subst (λ r. OnOk r (IsTrue g.J.Disk.is_known → AddsCommits s.journal.gate (pairs_of ps) s.journal.history j.history)) c.in-Ok.is c.append_groups-appended.ensures.durable is_known in
    let last = c.last_number-self-inside.ensures (began_after v + s.written) (follow g.C.TreeCall.meaning g.B.NodeRead.contents g.J.Disk.is_known v c.self.invariant none d ps e.drainer got lasts) in
    let new = written g.C.TreeCall.meaning g.B.NodeRead.contents g.J.Disk.is_known v c.self.invariant none d ps e.drainer got lasts j (λ is_known. c.append_groups-appended.ensures.any_moment is_known) (λ is_known. c.is_usable.ensures.settled is_known (takes g.C.TreeCall.meaning g.B.NodeRead.contents g.J.Disk.is_known v c.self.invariant none d ps e.drainer got lasts).unfailed) added.usable added.last exact adds (some_in ps c.is_empty.result c.if-is_empty.false (λ empty. c.is_empty.ensures.1 (sym c.as_slice-pending.ensures ∙ empty))) c.last_number-self-inside.result last in
    subst (λ (f : Option Failed). IsScribe g.C.TreeCall.meaning g.B.NodeRead.contents g.J.Disk.is_known (with_parts v j d (s.written + length ps) c.last_number-self-inside.result f)) (sym none) new

pub invariant_of-self-in-Err : goal.invariant_of-self-in-Err
invariant_of-self-in-Err g c =
    let s = c.self.inside in
    let v : ScribeView _ _ = scribe_of s.journal s.drainer s.session.value s.opening.value s.written s.durable s.failure in
    let none : v.failure ≡ None = ap (λ (x : ScribeView _ _). x.failure) c.self.view_is ∙ c.requires.unfailed in
    let e = c.gather-commits.ensures in
    let d = c.gather-commits.new.drainer in
    let ps = c.as_slice-pending.result.now in
    let got = gathered_as s.drainer.seen d.seen c.gather-commits.result ps c.as_slice-pending.ensures e.grown e.follow e.all e.drained in
    let lasts : (t : Tree) → OpensFrom g.B.NodeRead.contents d.seen t → HaveLastBodies g.C.TreeCall.meaning t (book_of d.seen) ps = λ t opens. subst (λ (l : List Pending). HaveLastBodies g.C.TreeCall.meaning t (book_of d.seen) l) (sym c.as_slice-pending.ensures) (e.bodies t opens) in
    let j = c.append_groups-appended.new.self in
    let rose = c.append_groups-appended.ensures.cause.failed c.in-Err.is in
    halted g.C.TreeCall.meaning g.B.NodeRead.contents g.J.Disk.is_known v c.self.invariant none d ps e.drainer got lasts j (λ is_known. c.append_groups-appended.ensures.any_moment is_known) (λ is_known. c.is_usable.ensures.settled is_known (takes g.C.TreeCall.meaning g.B.NodeRead.contents g.J.Disk.is_known v c.self.invariant none d ps e.drainer got lasts).unfailed) c.number-by.result c.faults-faults.result (subst (λ (k : ℕ). k < 65) (sym c.number-by.ensures.number) c.number-by.ensures.small) rose c.faults-faults.ensures.count c.faults-faults.ensures.reads_an_image
    (subst (λ r. OnErr r (j.failed ≡ true)) c.in-Err.is c.append_groups-appended.ensures.err)

pub returns-in-Ok-clause-answer : goal.returns-in-Ok-clause-answer
returns-in-Ok-clause-answer g c =
    let s = c.self.inside in
    let v : ScribeView _ _ = scribe_of s.journal s.drainer s.session.value s.opening.value s.written s.durable s.failure in
    let none : v.failure ≡ None = ap (λ (x : ScribeView _ _). x.failure) c.self.view_is ∙ c.requires.unfailed in
    let e = c.gather-commits.ensures in
    let d = c.gather-commits.new.drainer in
    let ps = c.as_slice-pending.result.now in
    let got = gathered_as s.drainer.seen d.seen c.gather-commits.result ps c.as_slice-pending.ensures e.grown e.follow e.all e.drained in
    let lasts : (t : Tree) → OpensFrom g.B.NodeRead.contents d.seen t → HaveLastBodies g.C.TreeCall.meaning t (book_of d.seen) ps = λ t opens. subst (λ (l : List Pending). HaveLastBodies g.C.TreeCall.meaning t (book_of d.seen) l) (sym c.as_slice-pending.ensures) (e.bodies t opens) in
    let j = c.append_groups-appended.new.self in
    let added = subst (λ r. OnOk r (HasAddedAll (pairs_of ps) s.journal j)) c.in-Ok.is c.append_groups-appended.ensures.ok in
    let exact = subst (λ r. OnOk r (j.faults ≡ s.journal.faults)) c.in-Ok.is c.append_groups-appended.ensures.cause.exact in
    let adds : IsTrue g.J.Disk.is_known → AddsCommits s.journal.gate (pairs_of ps) s.journal.history j.history = λ is_known. subst (λ r. OnOk r (IsTrue g.J.Disk.is_known → AddsCommits s.journal.gate (pairs_of ps) s.journal.history j.history)) c.in-Ok.is c.append_groups-appended.ensures.durable is_known in
    let last = c.last_number-self-inside.ensures (began_after v + s.written) (follow g.C.TreeCall.meaning g.B.NodeRead.contents g.J.Disk.is_known v c.self.invariant none d ps e.drainer got lasts) in
    let new = written g.C.TreeCall.meaning g.B.NodeRead.contents g.J.Disk.is_known v c.self.invariant none d ps e.drainer got lasts j (λ is_known. c.append_groups-appended.ensures.any_moment is_known) (λ is_known. c.is_usable.ensures.settled is_known (takes g.C.TreeCall.meaning g.B.NodeRead.contents g.J.Disk.is_known v c.self.invariant none d ps e.drainer got lasts).unfailed) added.usable added.last exact adds (some_in ps c.is_empty.result c.if-is_empty.false (λ empty. c.is_empty.ensures.1 (sym c.as_slice-pending.ensures ∙ empty))) c.last_number-self-inside.result last in
    subst (λ (x : ScribeView _ _). IsMadeDurable (marks_in x) c.args.session.now.under (last_commit c.args.session.now.seen) (Ok tt) (marks_in (with_parts v j d (s.written + length ps) c.last_number-self-inside.result s.failure))) c.self.view_is
    (subst (λ (f : Option Failed). IsMadeDurable (marks_in v) c.args.session.now.under (last_commit c.args.session.now.seen) (Ok tt) (marks_in (with_parts v j d (s.written + length ps) c.last_number-self-inside.result f))) (sym none)
    (made_ok g.C.TreeCall.meaning g.B.NodeRead.contents g.J.Disk.is_known v c.self.invariant none d ps e.drainer got lasts j c.args.session.now.under (last_commit c.args.session.now.seen) c.last_number-self-inside.result e.covers new))

pub returns-clause-answer : goal.returns-clause-answer
returns-clause-answer g c =
    let s = c.self.inside in
    let v : ScribeView _ _ = scribe_of s.journal s.drainer s.session.value s.opening.value s.written s.durable s.failure in
    let none : v.failure ≡ None = ap (λ (x : ScribeView _ _). x.failure) c.self.view_is ∙ c.requires.unfailed in
    let e = c.gather-commits.ensures in
    let d = c.gather-commits.new.drainer in
    let ps = c.as_slice-pending.result.now in
    let got = gathered_as s.drainer.seen d.seen c.gather-commits.result ps c.as_slice-pending.ensures e.grown e.follow e.all e.drained in
    let lasts : (t : Tree) → OpensFrom g.B.NodeRead.contents d.seen t → HaveLastBodies g.C.TreeCall.meaning t (book_of d.seen) ps = λ t opens. subst (λ (l : List Pending). HaveLastBodies g.C.TreeCall.meaning t (book_of d.seen) l) (sym c.as_slice-pending.ensures) (e.bodies t opens) in
    let j = c.append_groups-appended.new.self in
    let rose = c.append_groups-appended.ensures.cause.failed c.in-Err.is in
    let above = (halted g.C.TreeCall.meaning g.B.NodeRead.contents g.J.Disk.is_known v c.self.invariant none d ps e.drainer got lasts j (λ is_known. c.append_groups-appended.ensures.any_moment is_known) (λ is_known. c.is_usable.ensures.settled is_known (takes g.C.TreeCall.meaning g.B.NodeRead.contents g.J.Disk.is_known v c.self.invariant none d ps e.drainer got lasts).unfailed) c.number-by.result c.faults-faults.result (subst (λ (k : ℕ). k < 65) (sym c.number-by.ensures.number) c.number-by.ensures.small) rose c.faults-faults.ensures.count c.faults-faults.ensures.reads_an_image
    (subst (λ r. OnErr r (j.failed ≡ true)) c.in-Err.is c.append_groups-appended.ensures.err)).stands.above in
    subst (λ (x : ScribeView _ _). IsMadeDurable (marks_in x) c.args.session.now.under (last_commit c.args.session.now.seen) (Err DiskFault) (marks_in (with_parts v j d s.written s.durable (Some (record { by = c.number-by.result; faults = c.faults-faults.result }))))) c.self.view_is
    (subst (λ (u : ℕ). IsMadeDurable (marks_in v) u (last_commit c.args.session.now.seen) (Err DiskFault) (marks_in (with_parts v j d s.written s.durable (Some (record { by = c.number-by.result; faults = c.faults-faults.result })))))
    (c.number-by.ensures.number ∙ ap (λ (x : SessionView _ _). x.under) e.session) (made_err g.C.TreeCall.meaning g.B.NodeRead.contents g.J.Disk.is_known v c.self.invariant none d ps e.drainer got lasts j c.number-by.result (last_commit c.args.session.now.seen) c.faults-faults.result above))

pub returns-in-Ok-clause-moments : goal.returns-in-Ok-clause-moments
returns-in-Ok-clause-moments g c =
    let s = c.self.inside in
    let v : ScribeView _ _ = scribe_of s.journal s.drainer s.session.value s.opening.value s.written s.durable s.failure in
    let none : v.failure ≡ None = ap (λ (x : ScribeView _ _). x.failure) c.self.view_is ∙ c.requires.unfailed in
    let e = c.gather-commits.ensures in
    let d = c.gather-commits.new.drainer in
    let ps = c.as_slice-pending.result.now in
    let got = gathered_as s.drainer.seen d.seen c.gather-commits.result ps c.as_slice-pending.ensures e.grown e.follow e.all e.drained in
    let lasts : (t : Tree) → OpensFrom g.B.NodeRead.contents d.seen t → HaveLastBodies g.C.TreeCall.meaning t (book_of d.seen) ps = λ t opens. subst (λ (l : List Pending). HaveLastBodies g.C.TreeCall.meaning t (book_of d.seen) l) (sym c.as_slice-pending.ensures) (e.bodies t opens) in
    λ is_known. subst (λ (x : ScribeView _ _). LeavesWritten x.opening (began_after x) x.written (last_commit d.seen) x.journal.history c.append_groups-appended.new.self.history) c.self.view_is
    (call_leaves_written g.C.TreeCall.meaning g.B.NodeRead.contents g.J.Disk.is_known v c.self.invariant none d ps e.drainer got lasts c.append_groups-appended.new.self (λ is_known. c.append_groups-appended.ensures.any_moment is_known) (λ is_known. c.is_usable.ensures.settled is_known (takes g.C.TreeCall.meaning g.B.NodeRead.contents g.J.Disk.is_known v c.self.invariant none d ps e.drainer got lasts).unfailed) is_known)

pub returns-clause-moments : goal.returns-clause-moments
returns-clause-moments g c =
    let s = c.self.inside in
    let v : ScribeView _ _ = scribe_of s.journal s.drainer s.session.value s.opening.value s.written s.durable s.failure in
    let none : v.failure ≡ None = ap (λ (x : ScribeView _ _). x.failure) c.self.view_is ∙ c.requires.unfailed in
    let e = c.gather-commits.ensures in
    let d = c.gather-commits.new.drainer in
    let ps = c.as_slice-pending.result.now in
    let got = gathered_as s.drainer.seen d.seen c.gather-commits.result ps c.as_slice-pending.ensures e.grown e.follow e.all e.drained in
    let lasts : (t : Tree) → OpensFrom g.B.NodeRead.contents d.seen t → HaveLastBodies g.C.TreeCall.meaning t (book_of d.seen) ps = λ t opens. subst (λ (l : List Pending). HaveLastBodies g.C.TreeCall.meaning t (book_of d.seen) l) (sym c.as_slice-pending.ensures) (e.bodies t opens) in
    λ is_known. subst (λ (x : ScribeView _ _). LeavesWritten x.opening (began_after x) x.written (last_commit d.seen) x.journal.history c.append_groups-appended.new.self.history) c.self.view_is
    (call_leaves_written g.C.TreeCall.meaning g.B.NodeRead.contents g.J.Disk.is_known v c.self.invariant none d ps e.drainer got lasts c.append_groups-appended.new.self (λ is_known. c.append_groups-appended.ensures.any_moment is_known) (λ is_known. c.is_usable.ensures.settled is_known (takes g.C.TreeCall.meaning g.B.NodeRead.contents g.J.Disk.is_known v c.self.invariant none d ps e.drainer got lasts).unfailed) is_known)
