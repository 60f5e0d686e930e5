-- What the journal that is handed out holds of the core's book.
use Rattle.std.proofs.Common.{◌≡◌, ◌∙◌, ℕ, ◌+◌, ◌-◌, ◌^◌, ◌<◌, ◌≤◌, min, Bool, true, false, arith, refl, sym, ap, subst, List, [], ◌∷◌, ◌++◌, Option, Some, None}
use Rattle.std.specs.Prelude.{IfSome, IsTrue, Ok, Result}
use Rattle.tree_model.specs.Entries.{Entries}
use Rattle.tree_model.specs.Tree.{Tree}
use Rattle.node_records.specs.Pending.{FollowOn}
use Rattle.node_seq.specs.Trees.{StandsFor}
use Rattle.outside_traits.specs.CrashImages.{IsImage}
use Rattle.outside_traits.specs.Faults.{FaultCounted}
use Rattle.outside_traits.specs.Moments.{IsAllSynced}
use Rattle.outside_traits.proofs.MomentLaws.{leaves_all, since_itself, started}
use Rattle.call_contract.specs.Books.{Book}
use Rattle.call_contract.specs.Calls.{CallMeaning}
use Rattle.call_contract.specs.Sessions.{commits_in}
use Rattle.journal.specs.Appends.{groups_in}
use Rattle.journal.specs.Batches.{pairs_of}
use Rattle.journal.specs.Groups.{is_next, only_commits}
use Rattle.journal.specs.Journals.{read}
use Rattle.journal.specs.Views.{JournalView, TakesGroups}
use Rattle.tx_core.specs.Cores.{CoreView}
use Rattle.shared_store.specs.Bodies.{bodies_of}
use Rattle.shared_store.specs.Lists.{OpensFrom, book_of, number_in}
use Rattle.shared_store.specs.Sessions.{IsOpenedAs, SessionView}
use Rattle.shared_store.specs.declared.desk.Entry.{Entry}
use Rattle.group_commit.specs.Closings.{AreOthers as HasNone, IsFailed}
use Rattle.group_commit.specs.Marks.{durable_in, failure_in, last_commit, opening_in}
use Rattle.group_commit.specs.Members.{GroupView, MemberView}
use Rattle.group_commit.specs.Written.{HaveBodies, HoldsFirst}
use Rattle.group_commit.proofs.Batches.{fewer, next_of, none_there}
use Rattle.group_commit.specs.Journals.{WroteAll, WroteFirst}
use Rattle.session_driver.specs.Sessions.{AreOthers}
use Rattle.group_commit.specs.inside.Handing.{IsAllHandedOut, IsHandedOut}
use Rattle.group_commit.specs.inside.Joining.{IsFirst}
use Rattle.group_commit.proofs.Splits.{not_same}
use Rattle.group_commit.proofs.Started.{some_same}

others_of : {C : Type 0} (s : ℕ) (book : Book C) → HasNone s book → AreOthers s book
others_of s [] a = tt
others_of s (n ∷ ns) a = (not_same n.session s a.0, others_of s ns a.1)

nothing_more : (a c : ℕ) → c ≡ 0 → a + c ≡ a
nothing_more a c e = omega (arith, e)

-- a count of 64 bits that has risen since, or stands at its last value, is no less
counted_below : (before f now : ℕ) → before < 2 ^ 64 → FaultCounted before f → f ≤ now → before ≤ now
counted_below before f now fits counted le = omega (arith, fits, counted, le)

module _ {C B : Type 0} (m : CallMeaning C) (told : B → Option Entries) (is_known : Bool) (group : GroupView) (first : MemberView C B) (is : IsFirst group first) (core : CoreView C B) (journal : JournalView)
    (out : IsHandedOut m told is_known first.pass core journal) where
  same_opening : ◌≡◌ {A = SessionView C B × JournalView} (is.session, is.journal) (out.as_told.session, out.as_told.first)
  same_opening =
      let mine : SessionView C B × JournalView = (is.session, is.journal) in
      let its : SessionView C B × JournalView = (out.as_told.session, out.as_told.first) in
      some_same its mine (sym out.as_told.opening ∙ (out.opening ∙ is.opening))

  session_is : out.as_told.session ≡ is.session
  session_is = sym (ap (λ (o : SessionView C B × JournalView). o.0) same_opening)

  journal_is : out.as_told.first ≡ is.journal
  journal_is = sym (ap (λ (o : SessionView C B × JournalView). o.1) same_opening)

  seen_is : out.as_told.session.seen ≡ first.session.seen
  seen_is = ap (λ (v : SessionView C B). v.seen) session_is ∙ is.seen

  empty_first : book_of out.as_told.session.seen ≡ []
  empty_first = ap book_of seen_is ∙ is.empty

  -- nothing was noted under the number 0
  pub idle_book : AreOthers 0 core.book
  idle_book = subst (AreOthers 0) (sym (out.as_told.idle.1 ∙ ap (λ (bk : Book C). bk ++ out.as_told.idle.0) empty_first)) (others_of 0 out.as_told.idle.0 out.as_told.idle.2)

  -- ---- commits

  module _ (unchanged : B → B → Type 0) (opened : IsOpenedAs unchanged first.session.seen core) (fits : is.journal.faults < 2 ^ 64) where
    last_first : last_commit out.as_told.session.seen ≡ core.number
    last_first = ap last_commit seen_is ∙ nothing_more (number_in first.session.seen) (commits_in (book_of first.session.seen)) (ap commits_in is.empty) ∙ opened.number

    opens : (t : Tree) → StandsFor (told core.opening) t → OpensFrom told out.as_told.session.seen t
    opens t stands = subst (λ (es : List (Entry C B)). OpensFrom told es t) (sym seen_is) (subst (λ (o : Option B). IfSome o (λ b. StandsFor (told b) t)) (sym opened.opening) stands)

    faults_rise : out.as_told.first.faults ≤ journal.faults
    faults_rise = go (failure_in out.marks) refl
      where
        small : out.as_told.first.faults < 2 ^ 64
        small = subst (λ (j : JournalView). j.faults < 2 ^ 64) (sym journal_is) fits

        go : (o : Option ℕ) → failure_in out.marks ≡ o → out.as_told.first.faults ≤ journal.faults
        go None e = let same = (out.as_told.unfailed e).faults in omega (arith, same)
        go (Some f) e =
            let h : IsFailed out.as_told.first f journal = subst (λ (o : Option ℕ). IfSome o (λ k. IsFailed out.as_told.first k journal)) e out.as_told.failed in
            counted_below out.as_told.first.faults f journal.faults small h.above h.below

    wrote_least : (least : ℕ) → least ≤ durable_in out.marks - last_commit out.as_told.session.seen → WroteFirst m told is_known is.journal least core journal
    wrote_least least le =
        let w = out.as_told.written in
        let pairs = pairs_of w.commits in
        let groups = groups_in out.as_told.first.history in
        let more = durable_in out.marks - last_commit out.as_told.session.seen in
        let last = last_first in
        let made = w.made in
        subst (λ (j : JournalView). WroteFirst m told is_known j least core journal) journal_is (record {
          written = record {
            commits = w.commits;
            numbers = subst (λ (k : ℕ). FollowOn k w.commits) last_first w.numbers;
            made = omega (arith, last, made);
            since = w.since;
            moments = w.moments;
            now = λ known image left. fewer groups pairs more least le image (w.now known image left);
            read = λ known. fewer groups pairs more least le journal.history.now.reads (w.read known);
          };
          bodies = λ t stands. subst (λ (bk : Book C). HaveBodies m t bk core.book w.commits) empty_first (out.as_told.bodies t (opens t stands));
          faults = faults_rise;
        })

    pub wrote_first : WroteFirst m told is_known is.journal 0 core journal
    wrote_first = wrote_least 0 (omega arith)

    pub wrote_all : failure_in out.marks ≡ None → core.number + commits_in core.book - last_commit out.as_told.session.seen ≤ durable_in out.marks - last_commit out.as_told.session.seen → WroteAll m told is_known is.journal core journal
    wrote_all none reached =
        let u = out.as_told.unfailed none in
        let last = last_first in record {
          wrote = wrote_least (commits_in core.book) (omega (arith, last, reached));
          takes = u.takes;
          next = next journal.last u.last;
          faults = u.faults ∙ ap (λ (j : JournalView). j.faults) journal_is;
        }
      where
        next : (o : Option ℕ) → IfSome o (λ k. (last_commit out.as_told.session.seen + (durable_in out.marks - last_commit out.as_told.session.seen) ≤ k) × (k ≤ core.number + commits_in core.book)) → IsTrue (is_next o (core.number + commits_in core.book + 1))
        next None h = refl
        next (Some k) h =
            let last = last_first in
            let low = h.0 in
            let high = h.1 in
            let same : k ≡ core.number + commits_in core.book = omega (arith, last, reached, low, high) in
            next_of (Some k) (core.number + commits_in core.book) (ap Some same)

module _ {C B : Type 0} (m : CallMeaning C) (told : B → Option Entries) (is_known : Bool) (group : GroupView) (first : MemberView C B) (is : IsFirst group first) (core : CoreView C B) (journal : JournalView)
    (all : IsAllHandedOut m told is_known first.pass core journal) (unchanged : B → B → Type 0) (opened : IsOpenedAs unchanged first.session.seen core) (fits : is.journal.faults < 2 ^ 64) where
  pub all_wrote : WroteAll m told is_known is.journal core journal
  all_wrote =
      let out = all.out in
      let reached = subst (λ (o : Option (SessionView C B × JournalView)). IfSome o (λ p. core.number + commits_in core.book - last_commit p.0.seen ≤ durable_in out.marks - last_commit p.0.seen)) out.as_told.opening all.reached in
      wrote_all m told is_known group first is core journal out unchanged opened fits all.unfailed reached

-- the group commit was made with this journal
module _ {C B : Type 0} (m : CallMeaning C) (told : B → Option Entries) (is_known : Bool) (group : GroupView) (first : MemberView C B) (is : IsFirst group first) (given : JournalView)
    (says : IfSome (opening_in first.pass.seen) (λ o. o.1 ≡ given)) (fits : given.faults < 2 ^ 64) (unchanged : B → B → Type 0) (core : CoreView C B) (journal : JournalView) (opened : IsOpenedAs unchanged first.session.seen core) where
  given_is : is.journal ≡ given
  given_is = subst (λ (o : Option (SessionView C B × JournalView)). IfSome o (λ p. p.1 ≡ given)) is.opening says

  fits_it : is.journal.faults < 2 ^ 64
  fits_it = subst (λ (j : JournalView). j.faults < 2 ^ 64) (sym given_is) fits

  pub given_first : IsHandedOut m told is_known first.pass core journal → WroteFirst m told is_known given 0 core journal
  given_first out = subst (λ (j : JournalView). WroteFirst m told is_known j 0 core journal) given_is (wrote_first m told is_known group first is core journal out unchanged opened fits_it)

  pub given_all : IsAllHandedOut m told is_known first.pass core journal → WroteAll m told is_known given core journal
  given_all all = subst (λ (j : JournalView). WroteAll m told is_known j core journal) given_is (all_wrote m told is_known group first is core journal all unchanged opened fits_it)

-- ---- where nothing was written

module _ {C B : Type 0} (m : CallMeaning C) (told : B → Option Entries) (is_known : Bool) (core : CoreView C B) (journal : JournalView) (takes : TakesGroups journal) (synced : IsTrue is_known → journal.failed ≡ false → IsAllSynced journal.history)
    (groups : IsTrue is_known → journal.failed ≡ false → read journal.history.now.reads ≡ Ok (groups_in journal.history)) (commits : IsTrue is_known → journal.failed ≡ false → journal.has_images ≡ false → (groups_in journal.history).images ≡ None)
    (reads : IsTrue is_known → IsImage journal.history.now journal.history.now.reads) where
  settled : IsTrue is_known → read journal.history.now.reads ≡ Ok (only_commits (groups_in journal.history).commits)
  settled known =
      let none = commits known takes.unfailed takes.unheld in
      groups known takes.unfailed ∙ (λ i. Ok (record { commits = (groups_in journal.history).commits; images = none i }))

  image_now : IsTrue is_known → (image : List ℕ) → IsImage journal.history.now image → HoldsFirst journal [] 0 image
  image_now known = none_there (groups_in journal.history) [] journal.history (synced known takes.unfailed) (settled known)

  pub wrote_nothing : WroteFirst m told is_known journal 0 core journal
  wrote_nothing = record {
    written = record {
      commits = [];
      numbers = tt;
      made = omega arith;
      since = λ known. since_itself journal.history;
      moments = λ known. leaves_all (HoldsFirst journal [] 0) journal.history journal.history (started (HoldsFirst journal [] 0) journal.history) (image_now known);
      now = image_now;
      read = λ known. image_now known journal.history.now.reads (reads known);
    };
    bodies = λ t stands. record { later = bodies_of m t core.book; parts = refl };
    faults = omega arith;
  }
