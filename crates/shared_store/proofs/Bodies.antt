-- What the commits that wait to be handed out have for bodies, kept through the calls of the core.
use Rattle.std.proofs.Common.{◌≡◌, ◌∙◌, ℕ, Bool, true, false, List, [], ◌∷◌, ◌++◌, length, map, append_assoc, refl, sym, ap, subst, arith}
use Rattle.std.specs.Prelude.{Option, Some, None, IfSome, if◌then◌else◌, filter}
use Rattle.std.proofs.lemmas.List.{append-nil, map-append}
use Rattle.node_records.specs.Changes.{changes_bytes}
use Rattle.node_records.specs.declared.pending.Pending.{Pending}
use Rattle.node_seq.specs.Trees.{StandsFor}
use Rattle.tree_model.specs.Entries.{Entries}
use Rattle.tree_model.specs.Tree.{Tree}
use Rattle.tree_model.specs.declared.change.Change.{Change}
use Rattle.call_contract.specs.Books.{Book, commit_of, commits, commits_after, entry, IsBookFrom, last, open_after}
use Rattle.call_contract.specs.CallChanges.{changes_of_calls}
use Rattle.call_contract.specs.Calls.{CallLaws, CallMeaning}
use Rattle.call_contract.specs.SerialRuns.{Committed, serial}
use Rattle.call_contract.specs.Sessions.{commits_in, is_commit, live_after, live_in, without_grants}
use Rattle.call_contract.specs.States.{Live, of_session, start, view}
use Rattle.call_contract.specs.declared.events.Event.{Event}
use Rattle.call_contract.specs.declared.events.Event.TheVariants as event
use Rattle.call_contract.specs.declared.events.EventAnswer.TheVariants as said
use Rattle.call_contract.specs.declared.events.Noted.{Noted}
use Rattle.call_contract.proofs.BookLaws.{serial_book}
use Rattle.call_contract.proofs.SerialRun.{told_found, told_option}
use Rattle.call_contract.proofs.SessionBooks.{live_told}
use Rattle.tx_core.specs.Commits.{HasChangesOf, pending_of}
use Rattle.tx_core.specs.Cores.{CoreView, drained, state_from}
use Rattle.tx_core.specs.Refusals.{refused_call}
use Rattle.tx_core.specs.declared.commits.Prepared.{Prepared}
use Rattle.shared_store.specs.Bodies.{bodies_of, changes_made, HasBodies, HaveBodiesOf, HaveLastBodies}
use Rattle.shared_store.specs.Lists.{book_of, opening_in, OpensFrom}
use Rattle.shared_store.specs.declared.desk.Entry.{Entry}

-- ---- the commits of one book behind another

module _ {C : Type 0} where
  pub commits_on : (ts : List (Live C)) (xs ys : Book C) → commits_after ts (xs ++ ys) ≡ commits_after ts xs ++ commits_after (live_after ts xs) ys
  commits_on ts [] ys = refl
  commits_on ts (n ∷ ns) ys =
      let c = commit_of (of_session n.session ts) n.event in
      ap (λ (z : List (Committed C)). c ++ z) (commits_on (open_after ts n) ns ys) ∙ sym (append_assoc c (commits_after (open_after ts n) ns) (commits_after (live_after (open_after ts n) ns) ys))

  -- an entry of another kind commits nothing
  no_commit : (o : Option (Live C)) (e : Event C) → is_commit e ≡ false → commit_of o e ≡ []
  no_commit None e is = refl
  no_commit (Some t) event.Begin is = refl
  no_commit (Some t) (event.Call c) is = refl
  no_commit (Some t) event.Retry is = refl
  no_commit (Some t) (event.Fail c k f) is = refl
  no_commit (Some t) event.Commit is = cc
  no_commit (Some t) event.Abort is = refl

  none_first : (b : Bool) (n : Noted C) (ns : List (Noted C)) → length (if b then n ∷ ns else ns) ≡ 0 → (b ≡ false) × (length ns ≡ 0)
  none_first true n ns e = absurd (omega (arith, e))
  none_first false n ns e = (refl, e)

  pub none_more : (ts : List (Live C)) (ns : Book C) → commits_in ns ≡ 0 → commits_after ts ns ≡ []
  none_more ts [] none = refl
  none_more ts (n ∷ ns) none =
      let parts = none_first (is_commit n.event) n (filter (λ k. is_commit k.event) ns) none in
      ap (λ (z : List (Committed C)). z ++ commits_after (open_after ts n) ns) (no_commit (of_session n.session ts) n.event parts.0) ∙ none_more (open_after ts n) ns parts.1

  pub same_commits : (xs ys : Book C) → commits_in ys ≡ 0 → commits (xs ++ ys) ≡ commits xs
  same_commits xs ys none = commits_on [] xs ys ∙ ap (λ (z : List (Committed C)). commits xs ++ z) (none_more (live_after [] xs) ys none) ∙ append-nil (commits xs)

-- ---- what waits

module _ {C B : Type 0} (m : CallMeaning C) (told : B → Option Entries) where
  abbrev Are : CoreView C B → List Pending → Type 0
  Are v ps = (t : Tree) → StandsFor (told v.opening) t → HaveLastBodies m t v.book ps

  pub as_listed : (v : CoreView C B) (ps : List Pending) → HaveBodiesOf m told v ps → Are v ps
  as_listed v [] h = λ t stands. record { earlier = bodies_of m t v.book; parts = append-nil (bodies_of m t v.book) }
  as_listed v (p ∷ ps) h = h

  pub from_listed : (v : CoreView C B) (ps : List Pending) → Are v ps → HaveBodiesOf m told v ps
  from_listed v [] h = tt
  from_listed v (p ∷ ps) h = h

  -- the book gained entries that commit nothing
  pub bodies_stay : (v w : CoreView C B) (added : Book C) → w.book ≡ v.book ++ added → commits_in added ≡ 0 → w.opening ≡ v.opening → w.undrained.waiting ≡ v.undrained.waiting → HasBodies m told v → HasBodies m told w
  bodies_stay v w added book none opening waiting h =
      subst (HaveBodiesOf m told w) (sym waiting) (from_listed w v.undrained.waiting (λ t stands. go t (as_listed v v.undrained.waiting h t (subst (λ o. StandsFor (told o) t) opening stands))))
    where
      go : (t : Tree) → HaveLastBodies m t v.book v.undrained.waiting → HaveLastBodies m t w.book v.undrained.waiting
      go t last = record {
        earlier = last.earlier;
        parts = last.parts ∙ sym (ap (λ (ds : List (Committed C)). map changes_bytes (changes_made m ds t)) (ap commits book ∙ same_commits v.book added none));
      }

  -- none waits once all were handed out
  pub none_left : (v w : CoreView C B) → w ≡ drained v → HasBodies m told w
  none_left v w is = subst (HaveBodiesOf m told w) (sym (ap (λ (x : CoreView C B). x.undrained.waiting) is)) tt

  -- what was handed out, told of a list with the same book
  pub handed_bodies : (first v : CoreView C B) (list : List (Entry C B)) (bodies : List Pending) → HasBodies m told v → bodies ≡ v.undrained.waiting → v.opening ≡ first.opening → opening_in list ≡ Some first.opening → book_of list ≡ v.book
      → (t : Tree) → OpensFrom told list t → HaveLastBodies m t (book_of list) bodies
  handed_bodies first v list bodies h is opening opened book t opens =
      let stands : StandsFor (told v.opening) t = subst (λ o. StandsFor (told o) t) (sym opening) (subst (λ o. IfSome o (λ b. StandsFor (told b) t)) opened opens) in
      subst (λ (z : Book C × List Pending). HaveLastBodies m t z.0 z.1) (λ i. (sym book i, sym is i)) (as_listed v v.undrained.waiting h t stands)

-- ---- one commit more

module _ {C : Type 0} (m : CallMeaning C) where
  pub made_on : (ds es : List (Committed C)) (t : Tree) → changes_made m (ds ++ es) t ≡ changes_made m ds t ++ changes_made m es (serial m ds t).tree
  made_on [] es t = refl
  made_on (d ∷ ds) es t = ap (λ (z : List (List Change)). changes_of_calls m d.calls t ∷ z) (made_on ds es (view m d.calls t))

  -- a session that may commit has a transaction
  may_commit : (o : Option (Live C)) → None ≡ refused_call o → (y : Live C) × (o ≡ Some y)
  may_commit None free = cc
  may_commit (Some y) free = (y, refl)

  same_live : (a b : Live C) → Some a ≡ Some b → a ≡ b
  same_live a b e = cc

  -- what it is in the state of the machine
  told_back : (o : Option (Live C)) (y : Live C) → told_option o ≡ Some y → (x : Live C) × (o ≡ Some x) × (y.calls ≡ x.calls)
  told_back None y e = cc
  told_back (Some x) y e = (x, refl, sym (ap (λ (z : Live C). z.calls) (same_live (without_grants x) y e)))

  -- a commit of these calls, by what the session has in the state
  abbrev committed_of : Live C → Committed C
  committed_of y = record { session = y.session; ordinal = y.ordinal; calls = y.calls }

  bodies_next : (is_valid : C → Type 0) → CallLaws C is_valid m → (t : Tree) (n limit : ℕ) (book : Book C) (s k : ℕ) → IsBookFrom is_valid m t n limit book → None ≡ refused_call (live_in book s)
      → (p : Prepared) → HasChangesOf m (last m (start t n limit) book) s p → p.body ≡ changes_bytes p.changes
      → bodies_of m t (book ++ entry s event.Commit (said.Number k) ∷ []) ≡ bodies_of m t book ++ p.body ∷ []
  bodies_next is_valid laws t n limit book s k is free p has body =
      let st = last m (start t n limit) book in
      let y = may_commit (live_in book s) free in
      let live : live_in book s ≡ told_option (of_session s st.live) = ap (of_session s) (live_told m (start t n limit) book is.legal.run) ∙ told_found s st.live in
      let x = told_back (of_session s st.live) y.0 (sym live ∙ y.1) in
      let d = committed_of y.0 in
      let one : commits (book ++ entry s event.Commit (said.Number k) ∷ []) ≡ commits book ++ d ∷ [] =
      commits_on [] book (entry s event.Commit (said.Number k) ∷ []) ∙ ap (λ (o : Option (Live C)). commits book ++ (commit_of o event.Commit ++ [])) y.1 in
      let changes : changes_of_calls m d.calls (serial m (commits book) t).tree ≡ p.changes =
      (λ i. changes_of_calls m (x.2 i) ((serial_book is_valid m laws t n limit book is).tree i)) ∙ sym (has x.0 x.1) in
      let made : changes_made m (commits book ++ d ∷ []) t ≡ changes_made m (commits book) t ++ p.changes ∷ [] =
      made_on (commits book) (d ∷ []) t ∙ ap (λ (c : List Change). changes_made m (commits book) t ++ c ∷ []) changes in
      ap (λ (ds : List (Committed C)). map changes_bytes (changes_made m ds t)) one ∙ ap (map changes_bytes) made ∙ map-append changes_bytes (changes_made m (commits book) t) (p.changes ∷ [])
      ∙ ap (λ (b : List ℕ). bodies_of m t book ++ b ∷ []) (sym body)

  module _ {B : Type 0} (told : B → Option Entries) (is_valid : C → Type 0) (laws : CallLaws C is_valid m) where
    -- a commit that was prepared waits behind the others
    pub bodies_more : (v w : CoreView C B) (s k : ℕ) (p : Prepared) → w.book ≡ v.book ++ entry s event.Commit (said.Number k) ∷ [] → w.opening ≡ v.opening → w.undrained.waiting ≡ v.undrained.waiting ++ pending_of p ∷ []
        → None ≡ refused_call (live_in v.book s) → p.body ≡ changes_bytes p.changes → ((t : Tree) → StandsFor (told v.opening) t → HasChangesOf m (state_from m t v) s p)
        → ((t : Tree) → StandsFor (told v.opening) t → IsBookFrom is_valid m t v.number v.limit v.book) → HasBodies m told v → HasBodies m told w
    bodies_more v w s k p book opening waiting free body has legal h =
        subst (HaveBodiesOf m told w) (sym waiting) (from_listed m told w (v.undrained.waiting ++ pending_of p ∷ []) (λ t stands. go t (subst (λ o. StandsFor (told o) t) opening stands)))
      where
        go : (t : Tree) → StandsFor (told v.opening) t → HaveLastBodies m t w.book (v.undrained.waiting ++ pending_of p ∷ [])
        go t stands =
            let last = as_listed m told v v.undrained.waiting h t stands in
            let bodies = map (λ (q : Pending). q.body) v.undrained.waiting in record {
              earlier = last.earlier;
              parts = ap (λ (z : List (List ℕ)). last.earlier ++ z) (map-append (λ (q : Pending). q.body) v.undrained.waiting (pending_of p ∷ []))
                  ∙ sym (append_assoc last.earlier bodies (p.body ∷ []))
                  ∙ ap (λ (z : List (List ℕ)). z ++ p.body ∷ []) last.parts
                  ∙ sym (ap (bodies_of m t) book ∙ bodies_next is_valid laws t v.number v.limit v.book s k (legal t stands) free p (has t stands) body);
            }
