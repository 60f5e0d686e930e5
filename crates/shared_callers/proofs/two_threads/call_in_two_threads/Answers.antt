use Rattle.std.proofs.Common.{◌≡◌, ℕ, sym, ap, ap₂, subst, lit<, ◌∙◌, true, false}
use Rattle.std.specs.Prelude.{None, slice_set}
use Rattle.tree_model.specs.Tree.{Tree}
use Rattle.node_seq.specs.Trees.{StandsFor}
use Rattle.call_contract.specs.Books.{Book}
use Rattle.call_contract.specs.Sessions.{live_in}
use Rattle.turn_lock.specs.Turns.{HasAll, merged}
use Rattle.shared_store.specs.Lists.{book_of, OpensFrom}
use Rattle.shared_store.specs.Sessions.{SessionView}
use Rattle.shared_store.proofs.Waiting.{grown_on}
use Rattle.shared_store.proofs.Done.{book_append}
use Rattle.shared_callers.specs.Known.{BeginsWith, HasRead, IsKnown, KnowsBoth}
use Rattle.shared_callers.proofs.Knowing.{both_back, both_on, kept_answer, known_goes_on, opens_from, read_goes_on}
use Rattle.shared_callers.proofs.two_threads.call_in_two_threads.Goals as goal

pub join-requires-clause-ended : goal.join-requires-clause-ended
join-requires-clause-ended g c = subst (λ (v : SessionView _ _). live_in (book_of v.seen) v.under ≡ None) (sym c.meet.ensures.other) c.make_both-one.ensures.one.ended

pub join-requires-2-clause-ended : goal.join-requires-2-clause-ended
join-requires-2-clause-ended g c = subst (λ (v : SessionView _ _). live_in (book_of v.seen) v.under ≡ None) (sym c.meet-2.ensures.other) c.make_both-one.ensures.two.ended

pub close-core-requires-clause-all : goal.close-core-requires-clause-all
close-core-requires-clause-all g c =
    let has = λ (p : SessionView _ _). p.has in
    let cut = c.cut-two.ensures.kept.2 ∙ ap (λ h. slice_set h 2 false) (c.cut-one.ensures.kept.2 ∙ ap (λ h. slice_set h 1 false) (ap has c.in-Ok.ensures.ok)) in
    let met = ap has c.make_call.ensures.same ∙ ap has c.meet-2.ensures.seen ∙ ap has c.meet.ensures.seen ∙ cut in
    let one = ap has (c.meet.ensures.other ∙ c.make_both-one.ensures.one.same) ∙ c.cut-one.ensures.given.2 in
    let two = ap has (c.meet-2.ensures.other ∙ c.make_both-one.ensures.two.same) ∙ c.cut-two.ensures.given.2 in
    let joined = ap has c.join.ensures.kept ∙ ap₂ merged met one in
    subst HasAll (sym (ap has c.join-2.ensures.kept ∙ ap₂ merged joined two)) (both_back 1 2 (lit< tt) (lit< tt))

pub returns-clause-first : goal.returns-clause-first
returns-clause-first g c =
    let o = c.make_both-one.result.0.1 in
    let call = c.args.first in
    subst (λ b. o ≡ true → IsKnown 1 call b) (sym c.close-core.ensures.book)
    (known_goes_on 1 call o c.join.new.session.has c.join.new.session.seen c.join-2.new.session.seen c.join-2.ensures.goes_on
    (known_goes_on 1 call o c.meet.new.other.has c.meet.new.other.seen c.join.new.session.seen c.join.ensures.other_goes_on
    (subst (λ (v : SessionView _ _). o ≡ true → IsKnown 1 call (book_of v.seen)) (sym c.meet.ensures.other)
    (subst (λ (u : ℕ). o ≡ true → IsKnown u call (book_of c.make_both-one.result.0.0.seen)) c.cut-one.ensures.given.1 c.make_both-one.ensures.one.made))))

pub returns-clause-second : goal.returns-clause-second
returns-clause-second g c =
    let o = c.make_both-one.result.1.1 in
    let call = c.args.second in
    subst (λ b. o ≡ true → IsKnown 2 call b) (sym c.close-core.ensures.book)
    (known_goes_on 2 call o c.meet-2.new.other.has c.meet-2.new.other.seen c.join-2.new.session.seen c.join-2.ensures.other_goes_on
    (subst (λ (v : SessionView _ _). o ≡ true → IsKnown 2 call (book_of v.seen)) (sym c.meet-2.ensures.other)
    (subst (λ (u : ℕ). o ≡ true → IsKnown u call (book_of c.make_both-one.result.1.0.seen)) c.cut-two.ensures.given.1 c.make_both-one.ensures.two.made)))

pub returns-clause-read : goal.returns-clause-read
returns-clause-read g c =
    let told = g.B.NodeRead.contents in
    let m = g.C.TreeCall.meaning in
    let one = c.make_both-one.result.0.0 in
    let two = c.make_both-one.result.1.0 in
    let made_one = c.make_both-one.result.0.1 in
    let made_two = c.make_both-one.result.1.1 in
    let met = c.meet-2.new.self.seen in
    let seen = c.make_call.new.session.seen in
    let last = c.join-2.new.session.seen in
    let knows_one : made_one ≡ true → IsKnown 1 c.args.first (book_of met) =
    known_goes_on 1 c.args.first made_one c.meet.new.self.has c.meet.new.self.seen met c.meet-2.ensures.goes_on
    (known_goes_on 1 c.args.first made_one one.has one.seen c.meet.new.self.seen c.meet.ensures.other_goes_on
    (subst (λ (u : ℕ). made_one ≡ true → IsKnown u c.args.first (book_of one.seen)) c.cut-one.ensures.given.1 c.make_both-one.ensures.one.made)) in
    let knows_two : made_two ≡ true → IsKnown 2 c.args.second (book_of met) =
    known_goes_on 2 c.args.second made_two two.has two.seen met c.meet-2.ensures.other_goes_on
    (subst (λ (u : ℕ). made_two ≡ true → IsKnown u c.args.second (book_of two.seen)) c.cut-two.ensures.given.1 c.make_both-one.ensures.two.made) in
    let on : BeginsWith seen last = grown_on seen c.join.new.session.seen last (c.join.ensures.goes_on.0, c.join.ensures.goes_on.1) (c.join-2.ensures.goes_on.0, c.join-2.ensures.goes_on.1) in
    let book_on : BeginsWith (book_of seen) c.close-core.result.book = (book_of on.0, c.close-core.ensures.book ∙ (ap book_of on.1 ∙ book_append seen on.0)) in
    let under : c.meet-2.new.self.under ≡ 3 =
    ap (λ (v : SessionView _ _). v.under) c.meet-2.ensures.seen ∙ ap (λ (v : SessionView _ _). v.under) c.meet.ensures.seen ∙ (c.cut-two.ensures.kept.1 ∙ (c.cut-one.ensures.kept.1 ∙ ap (λ (v : SessionView _ _). v.under) c.in-Ok.ensures.ok)) in
    let later : Tree → Type 0 = StandsFor (told c.close-core.result.opening) in
    let knows : Book _ → Type 0 = KnowsBoth made_one c.args.first made_two c.args.second in
    kept_answer c.make_call.result c.ok-read.result (λ e. HasRead m (OpensFrom told seen) (BeginsWith (book_of met)) c.meet-2.new.self.under c.args.read e (book_of seen)) (λ e. HasRead m later knows 3 c.args.read e c.close-core.result.book) c.ok-read.ensures.value
    (λ e h. subst (λ (u : ℕ). HasRead m later knows u c.args.read e c.close-core.result.book) under
    (read_goes_on m (OpensFrom told seen) later (BeginsWith (book_of met)) knows c.meet-2.new.self.under c.args.read e (book_of seen) c.close-core.result.book book_on
    (opens_from told seen last c.close-core.result.opening c.number-number.ensures.opened on c.close-core.ensures.opened.opening)
    (λ b begins. both_on made_one c.args.first made_two c.args.second (book_of met) b begins (knows_one, knows_two)) h))
    c.make_call.ensures.read
