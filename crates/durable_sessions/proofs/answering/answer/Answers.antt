use Rattle.std.proofs.Common.{List, refl, ap, subst, ◌∙◌}
use Rattle.std.specs.Prelude.{Option, Some, IfSome, vec_capacity}
use Rattle.call_contract.specs.States.{State}
use Rattle.command_lines.specs.declared.line_reply.LineReply.{LineReply}
use Rattle.tx_core.specs.declared.commits.Prepared.{Prepared}
use Rattle.std.proofs.lemmas.Result.{on_err_weaker}
use Rattle.session_driver.specs.Driving.{HasBegun, IsReadyToCommit}
use Rattle.session_driver.specs.declared.doing.Doing.{Doing}
use Rattle.session_driver.specs.declared.doing.Doing.TheVariants.{Commit}
use Rattle.durable_sessions.specs.Asked.{asked_from, LeavesEither}
use Rattle.durable_sessions.proofs.AnswerLaws.{begun_over, by_commit, commit_does, commit_goes_on, done_does, grown_by_none, grown_takes, Driven, DoneAtOnce}
use Rattle.durable_sessions.proofs.StandingLaws.{is_due, same_book}
use Rattle.durable_sessions.proofs.answering.answer.Goals as goal

-- ---- a line that is done at once

pub returns-in-Ok-None-clause-does : goal.returns-in-Ok-None-clause-does
returns-in-Ok-None-clause-does g c =
    let driven : DoneAtOnce g.C.TreeCall.is_valid g.C.TreeCall.meaning g.met.C.TreeCall.laws g.B.NodeRead.contents c.args.session c.args.doing c.args.core.now c.drive.new.core c.args.replies.now.items c.drive.new.out.items
    = subst (Driven g.C.TreeCall.is_valid g.C.TreeCall.meaning g.met.C.TreeCall.laws g.B.NodeRead.contents c.args.session c.args.doing c.args.core.now c.drive.new.core c.args.replies.now.items c.drive.new.out.items) c.in-Ok-None.field-0-is c.in-Ok-None.ensures.line in
    done_does g.C.TreeCall.is_valid g.C.TreeCall.meaning g.met.C.TreeCall.laws g.B.NodeRead.contents g.J.Disk.is_known c.args.session c.args.doing c.args.core.now c.drive.new.core c.args.journal.now c.args.replies.now.items c.drive.new.out.items driven

pub returns-in-Ok-None-clause-goes_on : goal.returns-in-Ok-None-clause-goes_on
returns-in-Ok-None-clause-goes_on g c = record {
  takes = grown_takes c.args.core.now c.drive.new.core c.args.journal.now c.args.replies.now.items c.drive.new.out.items c.drive.ensures.later c.requires.takes;
  grown = grown_by_none c.args.core.now c.drive.new.core c.args.replies.now.items c.drive.new.out.items c.drive.ensures.later;
}

pub returns-in-Ok-None-clause-durable_first : goal.returns-in-Ok-None-clause-durable_first
returns-in-Ok-None-clause-durable_first g c = record { still = λ other. refl; unmade = λ failed. absurd (failed refl) }

pub returns-in-Err-clause-durable_first : goal.returns-in-Err-clause-durable_first
returns-in-Err-clause-durable_first g c = record { still = λ other. refl; unmade = λ failed. absurd (failed refl) }

-- ---- a commit

pub commit-requires-clause-prepared : goal.commit-requires-clause-prepared
commit-requires-clause-prepared g c =
    let old = c.args.core.now in
    let mid = c.drive.new.core in
    let prepared = c.in-Ok-Some.prepared in
    let ready : IsReadyToCommit old mid c.args.session c.args.doing c.args.replies.now.items c.drive.new.out.items (vec_capacity c.drive.new.out) prepared
    = subst (λ (p : Option Prepared). IfSome p (IsReadyToCommit old mid c.args.session c.args.doing c.args.replies.now.items c.drive.new.out.items (vec_capacity c.drive.new.out))) c.in-Ok-Some.field-0-is c.in-Ok-Some.ensures.ready in
    ap (λ v. v.prepared) ready.core

pub commit-requires-clause-due : goal.commit-requires-clause-due
commit-requires-clause-due g c =
    let old = c.args.core.now in
    let mid = c.drive.new.core in
    let prepared = c.in-Ok-Some.prepared in
    let driven : Driven g.C.TreeCall.is_valid g.C.TreeCall.meaning g.met.C.TreeCall.laws g.B.NodeRead.contents c.args.session c.args.doing old mid c.args.replies.now.items c.drive.new.out.items (Some prepared)
    = subst (Driven g.C.TreeCall.is_valid g.C.TreeCall.meaning g.met.C.TreeCall.laws g.B.NodeRead.contents c.args.session c.args.doing old mid c.args.replies.now.items c.drive.new.out.items) c.in-Ok-Some.field-0-is c.in-Ok-Some.ensures.line in
    let ready : IsReadyToCommit old mid c.args.session c.args.doing c.args.replies.now.items c.drive.new.out.items (vec_capacity c.drive.new.out) prepared
    = subst (λ (p : Option Prepared). IfSome p (IsReadyToCommit old mid c.args.session c.args.doing c.args.replies.now.items c.drive.new.out.items (vec_capacity c.drive.new.out))) c.in-Ok-Some.field-0-is c.in-Ok-Some.ensures.ready in
    is_due g.C.TreeCall.is_valid g.C.TreeCall.meaning g.met.C.TreeCall.laws g.B.NodeRead.contents c.args.session c.args.doing old mid c.args.replies.now.items c.drive.new.out.items prepared driven (same_book c.args.session old mid ready.core) ready.commit

pub commit-requires-clause-room : goal.commit-requires-clause-room
commit-requires-clause-room g c =
    let old = c.args.core.now in
    let mid = c.drive.new.core in
    let prepared = c.in-Ok-Some.prepared in
    let ready : IsReadyToCommit old mid c.args.session c.args.doing c.args.replies.now.items c.drive.new.out.items (vec_capacity c.drive.new.out) prepared
    = subst (λ (p : Option Prepared). IfSome p (IsReadyToCommit old mid c.args.session c.args.doing c.args.replies.now.items c.drive.new.out.items (vec_capacity c.drive.new.out))) c.in-Ok-Some.field-0-is c.in-Ok-Some.ensures.ready in
    ready.room

pub returns-in-Ok-Some-clause-does : goal.returns-in-Ok-Some-clause-does
returns-in-Ok-Some-clause-does g c =
    let old = c.args.core.now in
    let mid = c.drive.new.core in
    let prepared = c.in-Ok-Some.prepared in
    let driven : Driven g.C.TreeCall.is_valid g.C.TreeCall.meaning g.met.C.TreeCall.laws g.B.NodeRead.contents c.args.session c.args.doing old mid c.args.replies.now.items c.drive.new.out.items (Some prepared)
    = subst (Driven g.C.TreeCall.is_valid g.C.TreeCall.meaning g.met.C.TreeCall.laws g.B.NodeRead.contents c.args.session c.args.doing old mid c.args.replies.now.items c.drive.new.out.items) c.in-Ok-Some.field-0-is c.in-Ok-Some.ensures.line in
    let ready : IsReadyToCommit old mid c.args.session c.args.doing c.args.replies.now.items c.drive.new.out.items (vec_capacity c.drive.new.out) prepared
    = subst (λ (p : Option Prepared). IfSome p (IsReadyToCommit old mid c.args.session c.args.doing c.args.replies.now.items c.drive.new.out.items (vec_capacity c.drive.new.out))) c.in-Ok-Some.field-0-is c.in-Ok-Some.ensures.ready in
    commit_does g.C.TreeCall.is_valid g.C.TreeCall.meaning g.met.C.TreeCall.laws g.B.NodeRead.contents g.J.Disk.is_known c.args.session c.args.doing old mid c.commit.new.core c.args.journal.now c.commit.new.journal c.args.replies.now.items c.drive.new.out.items c.commit.new.replies.items
    (vec_capacity c.drive.new.out) prepared c.commit.result driven ready c.commit.ensures.state c.commit.ensures.replies c.commit.ensures.book

pub returns-in-Ok-Some-clause-goes_on : goal.returns-in-Ok-Some-clause-goes_on
returns-in-Ok-Some-clause-goes_on g c =
    let old = c.args.core.now in
    let mid = c.drive.new.core in
    let prepared = c.in-Ok-Some.prepared in
    let ready : IsReadyToCommit old mid c.args.session c.args.doing c.args.replies.now.items c.drive.new.out.items (vec_capacity c.drive.new.out) prepared
    = subst (λ (p : Option Prepared). IfSome p (IsReadyToCommit old mid c.args.session c.args.doing c.args.replies.now.items c.drive.new.out.items (vec_capacity c.drive.new.out))) c.in-Ok-Some.field-0-is c.in-Ok-Some.ensures.ready in
    commit_goes_on c.args.session old mid c.commit.new.core c.commit.new.journal c.commit.result ready.core c.commit.ensures.takes c.commit.ensures.grown

pub returns-in-Ok-Some-clause-any_moment : goal.returns-in-Ok-Some-clause-any_moment
returns-in-Ok-Some-clause-any_moment g c =
    let old = c.args.core.now in
    let mid = c.drive.new.core in
    let prepared = c.in-Ok-Some.prepared in
    let driven : Driven g.C.TreeCall.is_valid g.C.TreeCall.meaning g.met.C.TreeCall.laws g.B.NodeRead.contents c.args.session c.args.doing old mid c.args.replies.now.items c.drive.new.out.items (Some prepared)
    = subst (Driven g.C.TreeCall.is_valid g.C.TreeCall.meaning g.met.C.TreeCall.laws g.B.NodeRead.contents c.args.session c.args.doing old mid c.args.replies.now.items c.drive.new.out.items) c.in-Ok-Some.field-0-is c.in-Ok-Some.ensures.line in
    let ready : IsReadyToCommit old mid c.args.session c.args.doing c.args.replies.now.items c.drive.new.out.items (vec_capacity c.drive.new.out) prepared
    = subst (λ (p : Option Prepared). IfSome p (IsReadyToCommit old mid c.args.session c.args.doing c.args.replies.now.items c.drive.new.out.items (vec_capacity c.drive.new.out))) c.in-Ok-Some.field-0-is c.in-Ok-Some.ensures.ready in
    by_commit g.C.TreeCall.is_valid g.C.TreeCall.meaning g.met.C.TreeCall.laws g.B.NodeRead.contents (λ (d : Doing g.row.C.Denot) (s : State g.row.C.Denot). LeavesEither g.J.Disk.is_known c.args.journal.now.history c.commit.new.journal.history s (asked_from g.C.TreeCall.meaning s c.args.session d).state)
    c.args.session c.args.doing old mid c.args.replies.now.items c.drive.new.out.items prepared driven ready.core
    c.commit.ensures.any_moment

pub returns-in-Ok-Some-clause-durable_first : goal.returns-in-Ok-Some-clause-durable_first
returns-in-Ok-Some-clause-durable_first g c =
    let old = c.args.core.now in
    let mid = c.drive.new.core in
    let prepared = c.in-Ok-Some.prepared in
    let ready : IsReadyToCommit old mid c.args.session c.args.doing c.args.replies.now.items c.drive.new.out.items (vec_capacity c.drive.new.out) prepared
    = subst (λ (p : Option Prepared). IfSome p (IsReadyToCommit old mid c.args.session c.args.doing c.args.replies.now.items c.drive.new.out.items (vec_capacity c.drive.new.out))) c.in-Ok-Some.field-0-is c.in-Ok-Some.ensures.ready in
    record {
      still = λ other. absurd (other ready.asked);
      unmade = λ failed. ap (λ v. v.book) (c.commit.ensures.unmade failed) ∙ ap (λ v. v.book) ready.core;
    }

pub returns-in-Ok-Some-clause-begun : goal.returns-in-Ok-Some-clause-begun
returns-in-Ok-Some-clause-begun g c =
    let m = g.C.TreeCall.meaning in
    let old = c.args.core.now in
    let mid = c.drive.new.core in
    let new = c.commit.new.core in
    let now = c.commit.new.replies.items in
    let prepared = c.in-Ok-Some.prepared in
    let driven : Driven g.C.TreeCall.is_valid m g.met.C.TreeCall.laws g.B.NodeRead.contents c.args.session c.args.doing old mid c.args.replies.now.items c.drive.new.out.items (Some prepared)
    = subst (Driven g.C.TreeCall.is_valid m g.met.C.TreeCall.laws g.B.NodeRead.contents c.args.session c.args.doing old mid c.args.replies.now.items c.drive.new.out.items) c.in-Ok-Some.field-0-is c.in-Ok-Some.ensures.line in
    let ready : IsReadyToCommit old mid c.args.session c.args.doing c.args.replies.now.items c.drive.new.out.items (vec_capacity c.drive.new.out) prepared
    = subst (λ (p : Option Prepared). IfSome p (IsReadyToCommit old mid c.args.session c.args.doing c.args.replies.now.items c.drive.new.out.items (vec_capacity c.drive.new.out))) c.in-Ok-Some.field-0-is c.in-Ok-Some.ensures.ready in
    on_err_weaker c.commit.result
    (λ told. by_commit g.C.TreeCall.is_valid m g.met.C.TreeCall.laws g.B.NodeRead.contents (λ (d : Doing g.row.C.Denot) (s : State g.row.C.Denot). HasBegun old new c.args.replies.now.items now (asked_from m s c.args.session d))
    c.args.session c.args.doing old mid c.args.replies.now.items c.drive.new.out.items prepared driven ready.core
    (λ s stands. subst (λ (before : List LineReply). HasBegun old new before now (asked_from m s c.args.session Commit)) ready.unsaid
    (begun_over c.args.session old mid new c.drive.new.out.items now (asked_from m s c.args.session Commit) ready.core (told s stands))))
    c.commit.ensures.begun

-- ---- what is left alone of the base

pub returns-in-Ok-None-clause-base : goal.returns-in-Ok-None-clause-base
returns-in-Ok-None-clause-base g c = g.met.B.SessionBase.unchanged_stays c.args.core.now.base c.drive.new.core.base c.drive.ensures.unchanged

pub returns-in-Ok-Some-clause-base : goal.returns-in-Ok-Some-clause-base
returns-in-Ok-Some-clause-base g c =
    g.met.B.SessionBase.stays_onward c.args.core.now.base c.drive.new.core.base c.commit.new.core.base
    (g.met.B.SessionBase.unchanged_stays c.args.core.now.base c.drive.new.core.base c.drive.ensures.unchanged) c.commit.ensures.base

pub returns-in-Err-clause-base : goal.returns-in-Err-clause-base
returns-in-Err-clause-base g c = g.met.B.SessionBase.unchanged_stays c.args.core.now.base c.drive.new.core.base c.drive.ensures.unchanged
