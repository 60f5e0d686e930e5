-- A group commit is closed: the session that drains was joined, and the store closed.
use Rattle.std.proofs.Common.{◌≡◌, ℕ, ◌+◌, ◌<◌, ◌≤◌, Bool, true, false, List, ◌++◌, Option, Some, IsTrue, sym, ap, ◌∙◌, subst, arith, lit<}
use Rattle.tree_model.specs.Entries.{Entries}
use Rattle.tree_model.specs.Tree.{Tree}
use Rattle.node_seq.specs.Trees.{StandsFor}
use Rattle.call_contract.specs.Books.{Book, IsBookFrom}
use Rattle.call_contract.specs.Calls.{CallMeaning}
use Rattle.std.specs.Prelude.{IfSome}
use Rattle.outside_traits.specs.CrashImages.{IsImage}
use Rattle.outside_traits.specs.Moments.{IsAllSynced}
use Rattle.call_contract.specs.Sessions.{commits_in}
use Rattle.journal.specs.Views.{JournalView}
use Rattle.turn_lock.specs.Turns.{GoesOn, HasAll, has_number, longer, merged}
use Rattle.turn_lock.proofs.Numbers.{there_alone}
use Rattle.shared_store.specs.Lists.{book_of, is_opened, number_of, opening_in, OpensFrom, SessionsFit}
use Rattle.shared_store.specs.Sessions.{IsOpenedAs, SessionView}
use Rattle.shared_store.proofs.Done.{book_append}
use Rattle.shared_store.specs.declared.desk.Entry.{Entry}
use Rattle.tx_core.specs.Cores.{CoreView}
use Rattle.group_commit.specs.Closings.{AreOthers, IsAsTold}
use Rattle.group_commit.specs.Marks.{last_commit, marked_by}
use Rattle.group_commit.specs.Members.{MemberView}
use Rattle.group_commit.specs.inside.Scribes.{GoesOnWithout, IsCounted, IsMember, IsScribe, marks_in, ScribeView}
use Rattle.group_commit.proofs.Bodied.{counted_book}
use Rattle.group_commit.proofs.Belonging.{opened_member, same_opening}
use Rattle.group_commit.proofs.Ending.{book_seen, opened_as_seen}
use Rattle.group_commit.proofs.Lists.{goes_on_without, last_grows, opened_on, opening_on, without_on}
use Rattle.group_commit.proofs.Telling.{as_told}

-- s stood behind the turn, d drained, and j is the member's session joined with it
module _ {C B : Type 0} (meaning : CallMeaning C) (contents : B → Option Entries) (known : Bool) (v : MemberView C B) (k : ℕ) (is : IsMember v k) (s : ScribeView C B) (keeps : IsScribe meaning contents known s) (goes : GoesOn marked_by v.pass.has v.pass.seen (marks_in s)) (d j : SessionView C B) (same_drainer : d ≡ s.drainer)
    (kept : j ≡ record { lock = v.session.lock; seen = longer v.session.seen d.seen; has = merged v.session.has d.has; under = v.session.under }) (goes_v : GoesOn number_of v.session.has v.session.seen j.seen) (goes_d : GoesOn number_of d.has d.seen j.seen)
    (unchanged : B → B → Type 0) (core : CoreView C B) (book : core.book ≡ book_of j.seen) (opened : IsOpenedAs unchanged j.seen core) where
  first_seen : is.opening.first.seen ≡ s.session.seen
  first_seen = sym (ap (λ (o : SessionView C B × JournalView). o.0.seen) (same_opening v k s v.pass.has is goes))

  seen_joined : j.seen ≡ longer v.session.seen s.drainer.seen
  seen_joined = ap (λ (x : SessionView C B). x.seen) kept ∙ ap (λ (x : SessionView C B). longer v.session.seen x.seen) same_drainer

  pub closed_book : ((n : ℕ) → 0 < n → n < 65 → has_number v.session.has n ≡ true) → SessionsFit core.book → core.book ≡ book_of v.session.seen
  closed_book own fit =
      book_seen v.session.has s.session.seen v.session.seen s.drainer.seen is.opening.more core.book own (is.opening.grown ∙ ap (λ (l : List (Entry C B)). l ++ is.opening.more) first_seen) keeps.drainer.grown
      (subst (GoesOn number_of v.session.has v.session.seen) seen_joined goes_v) (book ∙ ap book_of seen_joined) fit

  pub closed_opened : IsOpenedAs unchanged v.session.seen core
  closed_opened = opened_as_seen unchanged v.session.has v.session.seen j.seen core (opened_member v k is) goes_v opened

  opened_drainer : is_opened d.seen ≡ true
  opened_drainer = ap (λ (x : SessionView C B). is_opened x.seen) same_drainer ∙ (ap is_opened keeps.drainer.grown.1 ∙ opened_on s.session.seen keeps.drainer.grown.0 keeps.drainer.opened)

  -- the core has each commit that was handed out
  closed_most : last_commit s.drainer.seen ≤ core.number + commits_in core.book
  closed_most =
      let grows = last_grows d.seen goes_d.0 j.seen opened_drainer goes_d.1 in
      let drained : last_commit d.seen ≡ last_commit s.drainer.seen = ap (λ (x : SessionView C B). last_commit x.seen) same_drainer in
      let number = opened.number in
      let commits : commits_in core.book ≡ commits_in (book_of j.seen) = ap commits_in book in
      omega (arith, grows, drained, number, commits)

  -- where the core's book is legal on each tree that its opening stands for
  closed_counted : (is_valid : C → Type 0) → ((t : Tree) → StandsFor (contents core.opening) t → IsBookFrom is_valid meaning t core.number core.limit core.book) → (t : Tree) → OpensFrom contents s.session.seen t → IsCounted core.book
  closed_counted is_valid legal t opens =
      let same : opening_in s.session.seen ≡ Some core.opening =
      sym (opening_on s.session.seen keeps.drainer.grown.0 keeps.drainer.opened) ∙ (sym (ap opening_in keeps.drainer.grown.1) ∙ (sym (ap (λ (x : SessionView C B). opening_in x.seen) same_drainer)
      ∙ (sym (opening_on d.seen goes_d.0 opened_drainer) ∙ (sym (ap opening_in goes_d.1) ∙ opened.opening)))) in
      counted_book meaning is_valid t core.number core.limit core.book (legal t (subst (λ (o : Option B). IfSome o (λ (b : B). StandsFor (contents b) t)) same opens))

  later_book : core.book ≡ book_of s.drainer.seen ++ book_of goes_d.0
  later_book = book ∙ (ap book_of goes_d.1 ∙ (book_append d.seen goes_d.0 ∙ ap (λ (x : SessionView C B). book_of x.seen ++ book_of goes_d.0) same_drainer))

  -- nothing was noted under the number 0 since the group commit was made
  closed_apart : (added : Book C) × (core.book ≡ book_of s.session.seen ++ added) × AreOthers 0 added
  closed_apart =
      let own : has_number d.has 0 ≡ true = ap (λ (x : SessionView C B). has_number x.has 0) same_drainer ∙ (ap (λ (l : List Bool). has_number l 0) keeps.drainer.has ∙ there_alone 0 (lit< tt)) in
      let drained : GoesOnWithout s.session.seen d.seen = subst (λ (x : SessionView C B). GoesOnWithout s.session.seen x.seen) (sym same_drainer) keeps.drainer.grown in
      let joined = without_on s.session.seen d.seen j.seen drained (goes_on_without d.has own d.seen j.seen goes_d) in
      (book_of joined.0, book ∙ (ap book_of joined.1 ∙ book_append s.session.seen joined.0), joined.2)

  pub closed_journal : (is_valid : C → Type 0) → ((t : Tree) → StandsFor (contents core.opening) t → IsBookFrom is_valid meaning t core.number core.limit core.book) → HasAll v.pass.has → (w : JournalView) → w ≡ s.journal → (IsTrue known → w.failed ≡ false → IsAllSynced w.history) → (IsTrue known → IsImage w.history.now w.history.now.reads)
      → IsAsTold meaning contents known v.pass.seen core w
  closed_journal is_valid legal all w is_its synced reads =
      subst (λ (x : JournalView). IsAsTold meaning contents known v.pass.seen core x) (sym is_its)
      (as_told meaning contents known s keeps v.pass.seen v.pass.has all goes is.opening.first is.opening.journal is.opening.marks is.opening.seen core closed_most (book_of goes_d.0) later_book closed_apart (closed_counted is_valid legal)
      (subst (λ (x : JournalView). IsTrue known → x.failed ≡ false → IsAllSynced x.history) is_its synced)
      (subst (λ (x : JournalView). IsTrue known → IsImage x.history.now x.history.now.reads) is_its reads))
