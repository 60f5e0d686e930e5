use Rattle.std.proofs.Common.{◌∙◌, ap, sym, subst, arith, length}
use Rattle.journal.specs.Views.{JournalView}
use Rattle.session_driver.specs.declared.doing.Doing.TheVariants.{Commit}
use Rattle.tx_core.specs.Commits.{prepared_view}
use Rattle.durable_sessions.specs.inside.Commits.{IsDue}
use Rattle.durable_sessions.proofs.AnswerLaws.{begun_nothing, on_err, commit_follows, commit_leaves, commit_leads_to, commit_takes, done_book, due_allowed, finished_over, grown_by_one}
use Rattle.durable_sessions.proofs.answering.commit.Goals as goal

pub append_group-requires : goal.append_group-requires
append_group-requires g c =
    let made = prepared_view c.prepared.inside.number c.prepared.inside.body in
    let due = subst (IsDue g.C.TreeCall.meaning g.B.NodeRead.contents c.args.core.now c.args.session) (sym c.prepared.view_is) c.requires.due in
    record {
      may = record {
        usable = record {
          unfailed = ap (λ (j : JournalView). j.failed) c.in_ok-make_room.ensures.ok ∙ c.requires.takes.usable.unfailed;
          unheld = ap (λ (j : JournalView). j.has_images) c.in_ok-make_room.ensures.ok ∙ c.requires.takes.usable.unheld;
        };
        commit = commit_follows g.C.TreeCall.is_valid g.C.TreeCall.meaning g.met.C.TreeCall.laws g.B.NodeRead.contents c.args.core.now c.args.session made c.args.journal.now c.make_room.new.self _ due c.requires.takes (ap (λ (j : JournalView). j.last) c.in_ok-make_room.ensures.ok) c.as_slice.ensures;
        room = omega (arith, ap length c.as_slice.ensures, c.len.ensures, c.in_ok-make_room.ensures.room);
      };
    }

pub returns-in_err-append_group-clause-any_moment : goal.returns-in_err-append_group-clause-any_moment
returns-in_err-append_group-clause-any_moment g c =
    let made = prepared_view c.prepared.inside.number c.prepared.inside.body in
    let due = subst (IsDue g.C.TreeCall.meaning g.B.NodeRead.contents c.args.core.now c.args.session) (sym c.prepared.view_is) c.requires.due in
    commit_leaves g.C.TreeCall.is_valid g.C.TreeCall.meaning g.met.C.TreeCall.laws g.B.NodeRead.contents g.J.Disk.is_known c.args.core.now c.args.session made c.args.journal.now.history c.make_room.new.self.history c.append_group.new.self.history _ due c.is_legal.ensures.book
    (λ known. c.is_usable.ensures.commits known c.requires.takes.usable.unfailed c.requires.takes.usable.unheld) (ap (λ (j : JournalView). j.history) c.in_ok-make_room.ensures.ok) c.as_slice.ensures c.in_err-append_group.ensures.any_moment

pub returns-in-Ok-clause-state : goal.returns-in-Ok-clause-state
returns-in-Ok-clause-state g c =
    let made = prepared_view c.prepared.inside.number c.prepared.inside.body in
    let due = subst (IsDue g.C.TreeCall.meaning g.B.NodeRead.contents c.args.core.now c.args.session) (sym c.prepared.view_is) c.requires.due in
    commit_leads_to g.C.TreeCall.is_valid g.C.TreeCall.meaning g.met.C.TreeCall.laws g.B.NodeRead.contents g.J.Disk.is_known c.args.core.now c.take_in.new.core c.args.session made c.args.journal.now.history c.make_room.new.self.history c.append_group.new.self.history _ _
    c.args.replies.now.items c.finish_commit.new.out.items due c.is_legal.ensures.book
    (λ known. c.is_usable.ensures.commits known c.requires.takes.usable.unfailed c.requires.takes.usable.unheld) (ap (λ (j : JournalView). j.history) c.in_ok-make_room.ensures.ok) c.as_slice.ensures c.in_ok-append_group.ensures.durable
    (finished_over g.C.TreeCall.is_valid g.C.TreeCall.meaning g.met.C.TreeCall.laws g.B.NodeRead.contents c.args.session c.args.core.now c.finish_commit.new.core c.take_in.new.core c.args.replies.now.items c.finish_commit.new.out.items c.take_in.ensures.same c.in-Ok.ensures.line)

pub returns-in-Ok-clause-takes : goal.returns-in-Ok-clause-takes
returns-in-Ok-clause-takes g c =
    let made = prepared_view c.prepared.inside.number c.prepared.inside.body in
    let due = subst (IsDue g.C.TreeCall.meaning g.B.NodeRead.contents c.args.core.now c.args.session) (sym c.prepared.view_is) c.requires.due in
    commit_takes g.C.TreeCall.meaning g.B.NodeRead.contents c.args.core.now c.finish_commit.new.core c.take_in.new.core c.args.session _ made c.make_room.new.self c.append_group.new.self _ _ c.finish_commit.new.out.items
    due c.in_ok-append_group.ensures.ok c.finish_commit.ensures.made c.take_in.ensures.same

pub returns-in-Ok-clause-any_moment : goal.returns-in-Ok-clause-any_moment
returns-in-Ok-clause-any_moment g c =
    let made = prepared_view c.prepared.inside.number c.prepared.inside.body in
    let due = subst (IsDue g.C.TreeCall.meaning g.B.NodeRead.contents c.args.core.now c.args.session) (sym c.prepared.view_is) c.requires.due in
    commit_leaves g.C.TreeCall.is_valid g.C.TreeCall.meaning g.met.C.TreeCall.laws g.B.NodeRead.contents g.J.Disk.is_known c.args.core.now c.args.session made c.args.journal.now.history c.make_room.new.self.history c.append_group.new.self.history _ due c.is_legal.ensures.book
    (λ known. c.is_usable.ensures.commits known c.requires.takes.usable.unfailed c.requires.takes.usable.unheld) (ap (λ (j : JournalView). j.history) c.in_ok-make_room.ensures.ok) c.as_slice.ensures c.in_ok-append_group.ensures.any_moment

pub returns-in-Err-clause-any_moment : goal.returns-in-Err-clause-any_moment
returns-in-Err-clause-any_moment g c =
    let made = prepared_view c.prepared.inside.number c.prepared.inside.body in
    let due = subst (IsDue g.C.TreeCall.meaning g.B.NodeRead.contents c.args.core.now c.args.session) (sym c.prepared.view_is) c.requires.due in
    commit_leaves g.C.TreeCall.is_valid g.C.TreeCall.meaning g.met.C.TreeCall.laws g.B.NodeRead.contents g.J.Disk.is_known c.args.core.now c.args.session made c.args.journal.now.history c.make_room.new.self.history c.append_group.new.self.history _ due c.is_legal.ensures.book
    (λ known. c.is_usable.ensures.commits known c.requires.takes.usable.unfailed c.requires.takes.usable.unheld) (ap (λ (j : JournalView). j.history) c.in_ok-make_room.ensures.ok) c.as_slice.ensures c.in_ok-append_group.ensures.any_moment

pub returns-in_err-make_room-clause-begun : goal.returns-in_err-make_room-clause-begun
returns-in_err-make_room-clause-begun g c = on_err c.from_residual.result _ (λ s stands. begun_nothing c.args.core.now c.args.replies.now.items _)

pub returns-in_err-append_group-clause-begun : goal.returns-in_err-append_group-clause-begun
returns-in_err-append_group-clause-begun g c = on_err c.from_residual-in_err-append_group.result _ (λ s stands. begun_nothing c.args.core.now c.args.replies.now.items _)

-- ---- what is left alone of the base

pub returns-in_err-make_room-clause-base : goal.returns-in_err-make_room-clause-base
returns-in_err-make_room-clause-base g c = g.met.B.SessionBase.unchanged_stays c.args.core.now.base c.args.core.now.base (g.met.B.NodeRead.unchanged_itself c.args.core.now.base)

pub returns-in_err-append_group-clause-base : goal.returns-in_err-append_group-clause-base
returns-in_err-append_group-clause-base g c = g.met.B.SessionBase.unchanged_stays c.args.core.now.base c.args.core.now.base (g.met.B.NodeRead.unchanged_itself c.args.core.now.base)

pub returns-in-Ok-clause-base : goal.returns-in-Ok-clause-base
returns-in-Ok-clause-base g c =
    g.met.B.SessionBase.stays_onward c.args.core.now.base c.finish_commit.new.core.base c.take_in.new.core.base
    (g.met.B.SessionBase.unchanged_stays c.args.core.now.base c.finish_commit.new.core.base c.finish_commit.ensures.unchanged) c.take_in.ensures.stays

pub returns-in-Err-clause-base : goal.returns-in-Err-clause-base
returns-in-Err-clause-base g c = g.met.B.SessionBase.unchanged_stays c.args.core.now.base c.finish_commit.new.core.base c.finish_commit.ensures.unchanged

pub returns-in-Ok-clause-grown : goal.returns-in-Ok-clause-grown
returns-in-Ok-clause-grown g c =
    grown_by_one c.args.core.now c.finish_commit.new.core c.take_in.new.core c.args.session _ _ c.finish_commit.new.out.items c.finish_commit.ensures.made c.take_in.ensures.same

pub returns-in-Ok-clause-book : goal.returns-in-Ok-clause-book
returns-in-Ok-clause-book g c = λ s stands.
    let m = g.C.TreeCall.meaning in
    let contents = g.B.NodeRead.contents in
    ap (λ v. v.book) c.take_in.ensures.same
    ∙ done_book m contents c.args.session Commit c.args.core.now c.finish_commit.new.core c.args.replies.now.items c.finish_commit.new.out.items
    (λ t opened. c.in-Ok.ensures.line t opened (due_allowed m contents c.args.core.now c.args.session c.args.prepared c.requires.due t opened)) s stands
