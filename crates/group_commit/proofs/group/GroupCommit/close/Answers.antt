use Rattle.std.proofs.Common.{◌≡◌, ◌<◌, ℕ, true, ap, sym, subst, ◌∙◌}
use Rattle.std.specs.Prelude.{None}
use Rattle.call_contract.specs.Sessions.{live_in}
use Rattle.turn_lock.specs.Turns.{HasAll, has_number}
use Rattle.shared_store.specs.Lists.{book_of}
use Rattle.shared_store.specs.Sessions.{IsOpenedAs, SessionView}
use Rattle.group_commit.specs.Closings.{IsAsTold}
use Rattle.group_commit.specs.Members.{GroupView, MemberView}
use Rattle.group_commit.proofs.Belonging.{member}
use Rattle.group_commit.proofs.Closed.{closed_book, closed_journal, closed_opened}
use Rattle.group_commit.proofs.Committing.{opening_lock}
use Rattle.group_commit.proofs.Ending.{all_together, idle_on}
use Rattle.group_commit.proofs.group.GroupCommit.close.Goals as goal

pub close-requires-clause-lock : goal.close-requires-clause-lock
close-requires-clause-lock g c = ap (λ (v : MemberView _ _). v.pass.lock) c.member.view_is ∙ (c.requires.group.1 ∙ sym (ap (λ (v : GroupView). v.lock) c.self.view_is))

pub close-requires-clause-turn : goal.close-requires-clause-turn
close-requires-clause-turn g c = c.member.invariant.turn

pub close-requires-clause-all : goal.close-requires-clause-all
close-requires-clause-all g c = subst (λ (v : MemberView _ _). HasAll v.pass.has) (sym c.member.view_is) c.requires.all

pub join-requires-clause-store : goal.join-requires-clause-store
join-requires-clause-store g c =
    let m = c.member.inside in
    let s = c.close.result in
    let own = ap (λ (v : MemberView _ _). v.session.lock) c.member.view_is ∙ (c.requires.group.0 ∙ sym (ap (λ (v : GroupView). v.store) c.self.view_is)) in
    (own, ap (λ (v : SessionView _ _). v.lock) c.into_parts-journal.ensures.drainer ∙ (c.into_parts-journal.ensures.keeps.drainer.lock ∙ (opening_lock (member m.session m.pass) m.durable s c.member.invariant c.close.ensures ∙ own)))

pub join-requires-clause-ended : goal.join-requires-clause-ended
join-requires-clause-ended g c =
    let s = c.close.result in
    subst (λ (v : SessionView _ _). live_in (book_of v.seen) v.under ≡ None) (sym c.into_parts-journal.ensures.drainer) (idle_on s.session s.drainer c.into_parts-journal.ensures.keeps.drainer)

pub close-core-requires-clause-store : goal.close-core-requires-clause-store
close-core-requires-clause-store g c =
    ap (λ (v : SessionView _ _). v.lock) c.join.ensures.kept
    ∙ (ap (λ (v : MemberView _ _). v.session.lock) c.member.view_is ∙ (c.requires.group.0 ∙ sym (ap (λ (v : GroupView). v.store) c.self.view_is)))

pub close-core-requires-clause-all : goal.close-core-requires-clause-all
close-core-requires-clause-all g c =
    subst (λ (v : SessionView _ _). HasAll v.has) (sym c.join.ensures.kept)
    (all_together c.member.inside.session.has c.into_parts-journal.result.1.has
    (subst (λ (v : MemberView _ _). (n : ℕ) → 0 < n → n < 65 → has_number v.session.has n ≡ true) (sym c.member.view_is) c.requires.numbers)
    (ap (λ (v : SessionView _ _). v.has) c.into_parts-journal.ensures.drainer ∙ c.into_parts-journal.ensures.keeps.drainer.has))

pub returns-clause-book : goal.returns-clause-book
returns-clause-book g c =
    let m = c.member.inside in
    closed_book g.C.TreeCall.meaning g.B.NodeRead.contents g.J.Disk.is_known (member m.session m.pass) m.durable c.member.invariant c.close.result c.into_parts-journal.ensures.keeps c.close.ensures c.into_parts-journal.result.1 c.join.new.session c.into_parts-journal.ensures.drainer c.join.ensures.kept c.join.ensures.goes_on
    c.join.ensures.other_goes_on g.B.NodeRead.unchanged c.close-core.result c.close-core.ensures.book c.close-core.ensures.opened
    (subst (λ (v : MemberView _ _). (n : ℕ) → 0 < n → n < 65 → has_number v.session.has n ≡ true) (sym c.member.view_is) c.requires.numbers) c.close-core.ensures.sessions
    ∙ ap (λ (v : MemberView _ _). book_of v.session.seen) c.member.view_is

pub returns-clause-opened : goal.returns-clause-opened
returns-clause-opened g c =
    let m = c.member.inside in
    subst (λ (v : MemberView _ _). IsOpenedAs g.B.NodeRead.unchanged v.session.seen c.close-core.result) c.member.view_is
    (closed_opened g.C.TreeCall.meaning g.B.NodeRead.contents g.J.Disk.is_known (member m.session m.pass) m.durable c.member.invariant c.close.result c.into_parts-journal.ensures.keeps c.close.ensures c.into_parts-journal.result.1 c.join.new.session c.into_parts-journal.ensures.drainer c.join.ensures.kept c.join.ensures.goes_on
    c.join.ensures.other_goes_on g.B.NodeRead.unchanged c.close-core.result c.close-core.ensures.book c.close-core.ensures.opened)

pub returns-clause-sessions : goal.returns-clause-sessions
returns-clause-sessions g c = c.close-core.ensures.sessions

pub returns-clause-journal : goal.returns-clause-journal
returns-clause-journal g c =
    let m = c.member.inside in
    subst (λ (v : MemberView _ _). IsAsTold g.C.TreeCall.meaning g.B.NodeRead.contents g.J.Disk.is_known v.pass.seen c.close-core.result c.into_parts-journal.result.0) c.member.view_is
    (closed_journal g.C.TreeCall.meaning g.B.NodeRead.contents g.J.Disk.is_known (member m.session m.pass) m.durable c.member.invariant c.close.result c.into_parts-journal.ensures.keeps c.close.ensures c.into_parts-journal.result.1 c.join.new.session c.into_parts-journal.ensures.drainer c.join.ensures.kept c.join.ensures.goes_on
    c.join.ensures.other_goes_on g.B.NodeRead.unchanged c.close-core.result c.close-core.ensures.book c.close-core.ensures.opened g.C.TreeCall.is_valid c.is_legal.ensures.book
    (subst (λ (v : MemberView _ _). HasAll v.pass.has) (sym c.member.view_is) c.requires.all) c.into_parts-journal.result.0 c.into_parts-journal.ensures.journal c.is_usable.ensures.settled c.faults.ensures.reads_an_image)
