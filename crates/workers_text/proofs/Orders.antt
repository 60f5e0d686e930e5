-- The order line, entry by entry.
use Rattle.std.proofs.Common.{◌≡◌, ◌≢◌, ◌∙◌, ◌<◌, ◌≤◌, ◌+◌, ℕ, zero, suc, true, false, cond, refl, sym, ap, subst, arith, List, [], ◌∷◌, ◌++◌, map, length, take, set, append_assoc, append-nil, get_or-set_same, get_or-set_other, ◌⊎◌, inl, inr}
use Rattle.std.specs.Prelude.{Option, Some, None, is_some}
use Rattle.std.specs.List.{slice_index_or}
use Rattle.std.proofs.lemmas.List.{map-append, take_more}
use mathlib.Core.Logic.{dite}
use native.Mathlib.Decide.{ℕ_discrete}
use Rattle.call_contract.specs.Books.{Book, called, called_again, commit_of, commits, commits_after, open_after, open_of}
use Rattle.call_contract.specs.SerialRuns.{Committed}
use Rattle.call_contract.specs.Sessions.{live_after}
use Rattle.call_contract.specs.States.{Live, Waiting, of_session, others, put}
use Rattle.call_contract.specs.declared.events.Answer.TheVariants as answer
use Rattle.call_contract.specs.declared.events.Event.{Event}
use Rattle.call_contract.specs.declared.events.Event.TheVariants.{Begin, Call, Retry, Fail, Commit, Abort}
use Rattle.call_contract.specs.declared.events.EventAnswer.{EventAnswer}
use Rattle.call_contract.specs.declared.events.EventAnswer.TheVariants as said
use Rattle.call_contract.specs.declared.events.Noted.{Noted}
use Rattle.call_contract.proofs.Appends.{live_append}
use Rattle.call_contract.proofs.Lists.{found_ended, found_named, found_others, found_put, found_put_other}
use Rattle.shared_store.specs.Lists.{SessionsFit}
use Rattle.workers_text.specs.declared.order.Begun.{Begun}
use Rattle.workers_text.specs.inside.Ordering.{OrderedSoFar, after_call, after_entry, begun_of, committed_by, listed, pair_of}

take_one_more : {X : Type 0} (xs : List X) (i : ℕ) (x : X) → i < length xs → x ≡ slice_index_or xs i x → take (i + 1) xs ≡ take i xs ++ x ∷ []
take_one_more xs i x lt at = take_more xs i x lt ∙ ap (λ y. take i xs ++ y ∷ []) (sym at)

module _ {C : Type 0} where
  -- ---- one session

  found_as : (s : ℕ) (t : Live C) (ts : List (Live C)) → t.session ≡ s → of_session s (put t ts) ≡ Some t
  found_as s t ts e = subst (λ (k : ℕ). of_session k (put t ts) ≡ Some t) e (found_put t ts)

  after_called : (s : ℕ) (t : Live C) (c : C) (given : EventAnswer) (ts : List (Live C)) → t.session ≡ s → of_session s ts ≡ Some t → (b : Begun) → b.ordinal ≡ t.ordinal → (begun_of (Some t) ≡ Some b)
      → begun_of (of_session s (called t c given ts)) ≡ after_call b given
  after_called s t c (said.Call (answer.Answered r)) ts e f b o is = ap begun_of (found_as s _ ts e) ∙ ap (λ (k : ℕ). Some (record { ordinal = k; waits = false })) (sym o)
  after_called s t c (said.Call (answer.Waits r a hs)) ts e f b o is = ap begun_of (found_as s _ ts e) ∙ ap (λ (k : ℕ). Some (record { ordinal = k; waits = true })) (sym o)
  after_called s t c (said.Call (answer.Deadlock cycle)) ts e f b o is = ap begun_of (ap (λ (k : ℕ). of_session s (others k ts)) e ∙ found_ended s ts)
  after_called s t c said.Nothing ts e f b o is = ap begun_of f ∙ is
  after_called s t c (said.Number k) ts e f b o is = ap begun_of f ∙ is

  same_session : (s : ℕ) (o : Option (Live C)) (e : Event C) (given : EventAnswer) (ts : List (Live C)) → of_session s ts ≡ o → begun_of (of_session s (open_of s o e given ts)) ≡ after_entry (begun_of o) e given
  same_session s None Begin given ts is = ap begun_of (found_as s _ ts refl)
  same_session s None (Call c) given ts is = ap begun_of is
  same_session s None Retry given ts is = ap begun_of is
  same_session s None (Fail c k f) given ts is = ap begun_of is
  same_session s None Commit given ts is = ap begun_of is
  same_session s None Abort given ts is = ap begun_of is
  same_session s (Some t) Begin given ts is = ap begun_of is
  same_session s (Some t) (Call c) given ts is = after_called s t c given ts (found_named s ts t is) is (record { ordinal = t.ordinal; waits = is_some t.waits }) refl refl
  same_session s (Some t) Retry given ts is = go t.waits refl
    where
      b : Begun
      b = record { ordinal = t.ordinal; waits = is_some t.waits }

      go : (w : Option (Waiting C)) → t.waits ≡ w → begun_of (of_session s (called_again t w given ts)) ≡ cond (is_some w) (after_call b given) (Some b)
      go None e = ap begun_of is
      go (Some w) e = after_called s t w.call given ts (found_named s ts t is) is b refl refl
  same_session s (Some t) (Fail c k f) given ts is = ap begun_of (found_as s _ ts (found_named s ts t is))
  same_session s (Some t) Commit given ts is = ap begun_of (found_ended s ts)
  same_session s (Some t) Abort given ts is = ap begun_of (found_ended s ts)

  -- ---- the others

  other_called : (s k : ℕ) (t : Live C) (c : C) (given : EventAnswer) (ts : List (Live C)) → t.session ≡ s → k ≢ s → of_session k (called t c given ts) ≡ of_session k ts
  other_called s k t c (said.Call (answer.Answered r)) ts e ne = found_put_other k _ ts (λ f. ne (f ∙ e))
  other_called s k t c (said.Call (answer.Waits r a hs)) ts e ne = found_put_other k _ ts (λ f. ne (f ∙ e))
  other_called s k t c (said.Call (answer.Deadlock cycle)) ts e ne = found_others t.session k ts (λ f. ne (f ∙ e))
  other_called s k t c said.Nothing ts e ne = refl
  other_called s k t c (said.Number n) ts e ne = refl

  other_again : (s k : ℕ) (t : Live C) (w : Option (Waiting C)) (given : EventAnswer) (ts : List (Live C)) → t.session ≡ s → k ≢ s → of_session k (called_again t w given ts) ≡ of_session k ts
  other_again s k t None given ts e ne = refl
  other_again s k t (Some w) given ts e ne = other_called s k t w.call given ts e ne

  other_session : (s k : ℕ) (o : Option (Live C)) (e : Event C) (given : EventAnswer) (ts : List (Live C)) → of_session s ts ≡ o → k ≢ s → of_session k (open_of s o e given ts) ≡ of_session k ts
  other_session s k None Begin given ts is ne = found_put_other k _ ts ne
  other_session s k None (Call c) given ts is ne = refl
  other_session s k None Retry given ts is ne = refl
  other_session s k None (Fail c n f) given ts is ne = refl
  other_session s k None Commit given ts is ne = refl
  other_session s k None Abort given ts is ne = refl
  other_session s k (Some t) Begin given ts is ne = refl
  other_session s k (Some t) (Call c) given ts is ne = other_called s k t c given ts (found_named s ts t is) ne
  other_session s k (Some t) Retry given ts is ne = other_again s k t t.waits given ts (found_named s ts t is) ne
  other_session s k (Some t) (Fail c n f) given ts is ne = found_put_other k _ ts (λ g. ne (g ∙ found_named s ts t is))
  other_session s k (Some t) Commit given ts is ne = found_others s k ts ne
  other_session s k (Some t) Abort given ts is ne = found_others s k ts ne

  -- ---- the next entry

  commits_append : (ts : List (Live C)) (xs ys : Book C) → commits_after ts (xs ++ ys) ≡ commits_after ts xs ++ commits_after (live_after ts xs) ys
  commits_append ts [] ys = refl
  commits_append ts (n ∷ ns) ys = ap (λ (cs : List (Committed C)). commit_of (of_session n.session ts) n.event ++ cs) (commits_append (open_after ts n) ns ys)
      ∙ sym (append_assoc (commit_of (of_session n.session ts) n.event) (commits_after (open_after ts n) ns) (commits_after (live_after (open_after ts n) ns) ys))

  -- what the next entry commits
  pub committed_next : (book : Book C) (i : ℕ) (n : Noted C) → i < length book → n ≡ slice_index_or book i n
      → map pair_of (commits (take (i + 1) book)) ≡ map pair_of (commits (take i book)) ++ map pair_of (commit_of (of_session n.session (live_after [] (take i book))) n.event)
  committed_next book i n lt at =
      let ts = live_after [] (take i book) in
      ap (λ (b : Book C). map pair_of (commits b)) (take_one_more book i n lt at)
      ∙ ap (map pair_of) (commits_append [] (take i book) (n ∷ []))
      ∙ ap (λ (cs : List (Committed C)). map pair_of (commits (take i book) ++ cs)) (append-nil (commit_of (of_session n.session ts) n.event))
      ∙ map-append pair_of (commits (take i book)) (commit_of (of_session n.session ts) n.event)

  begun_next : (book : Book C) (i : ℕ) (n : Noted C) (begun : List (Option Begun)) → length begun ≡ 65 → i < length book → n ≡ slice_index_or book i n → n.session < 65
      → ((s : ℕ) → s < 65 → slice_index_or begun s None ≡ begun_of (of_session s (live_after [] (take i book))))
      → (s : ℕ) → s < 65 → slice_index_or (set begun n.session (after_entry (slice_index_or begun n.session None) n.event n.answer)) s None ≡ begun_of (of_session s (live_after [] (take (i + 1) book)))
  begun_next book i n begun len lt at small was s less =
      go (dite (ℕ_discrete s n.session) (λ e. inl e) (λ ne. inr ne)) ∙ ap (λ (ts : List (Live C)). begun_of (of_session s ts)) (sym later)
    where
      ts : List (Live C)
      ts = live_after [] (take i book)

      later : live_after [] (take (i + 1) book) ≡ open_after ts n
      later = ap (live_after []) (take_one_more book i n lt at) ∙ live_append [] (take i book) (n ∷ [])

      now : Option Begun
      now = after_entry (slice_index_or begun n.session None) n.event n.answer

      go : (s ≡ n.session) ⊎ (s ≢ n.session) → slice_index_or (set begun n.session now) s None ≡ begun_of (of_session s (open_after ts n))
      go (inl e) = subst (λ (k : ℕ). slice_index_or (set begun n.session now) k None ≡ begun_of (of_session k (open_after ts n))) (sym e)
          (get_or-set_same begun n.session now None (subst (λ (k : ℕ). n.session < k) (sym len) small) ∙ ap (λ (o : Option Begun). after_entry o n.event n.answer) (was n.session small)
          ∙ sym (same_session n.session (of_session n.session ts) n.event n.answer ts refl))
      go (inr ne) = get_or-set_other begun n.session s now None ne ∙ was s less ∙ ap begun_of (sym (other_session n.session s (of_session n.session ts) n.event n.answer ts refl ne))

  -- what the entry commits
  pairs_of : (s : ℕ) (e : Event C) (o : Option (Live C)) → ((t : Live C) → o ≡ Some t → t.session ≡ s) → listed (committed_by s e (begun_of o)) ≡ map pair_of (commit_of o e)
  pairs_of s Begin None is = refl
  pairs_of s (Call c) None is = refl
  pairs_of s Retry None is = refl
  pairs_of s (Fail c k f) None is = refl
  pairs_of s Commit None is = refl
  pairs_of s Abort None is = refl
  pairs_of s Begin (Some t) is = refl
  pairs_of s (Call c) (Some t) is = refl
  pairs_of s Retry (Some t) is = refl
  pairs_of s (Fail c k f) (Some t) is = refl
  pairs_of s Commit (Some t) is = ap (λ (k : ℕ). (k, t.ordinal) ∷ []) (sym (is t refl))
  pairs_of s Abort (Some t) is = refl

  pub ordered_next : (book : Book C) (i : ℕ) (n : Noted C) (begun : List (Option Begun)) (order later : List (ℕ × ℕ)) → length begun ≡ 65 → i < length book → n ≡ slice_index_or book i n → n.session < 65
      → later ≡ order ++ listed (committed_by n.session n.event (slice_index_or begun n.session None)) → OrderedSoFar book i begun order
      → OrderedSoFar book (i + 1) (set begun n.session (after_entry (slice_index_or begun n.session None) n.event n.answer)) later
  ordered_next book i n begun order later len lt at small is far =
      let ts = live_after [] (take i book) in
      record {
        begun = begun_next book i n begun len lt at small far.begun;
        order = is ∙ ap (λ (xs : List (ℕ × ℕ)). xs ++ listed (committed_by n.session n.event (slice_index_or begun n.session None))) far.order
            ∙ ap (λ (xs : List (ℕ × ℕ)). map pair_of (commits (take i book)) ++ xs)
            (ap (λ (b : Option Begun). listed (committed_by n.session n.event b)) (far.begun n.session small) ∙ pairs_of n.session n.event (of_session n.session ts) (λ t e. found_named n.session ts t e))
            ∙ sym (committed_next book i n lt at);
      }

  -- ---- the whole book

  pub ordered_nothing : (book : Book C) (begun : List (Option Begun)) → ((s : ℕ) → s < 65 → slice_index_or begun s None ≡ None) → OrderedSoFar book 0 begun []
  ordered_nothing book begun empty = record { begun = empty; order = refl }

  pub fits_at : (book : Book C) (i : ℕ) (n : Noted C) → i < length book → n ≡ slice_index_or book i n → SessionsFit book → n.session < 65
  fits_at [] i n lt at f = absurd (omega arith)
  fits_at (x ∷ xs) zero n lt at f = subst (λ (y : Noted C). y.session < 65) (sym at) (let l = f.0 in omega arith)
  fits_at (x ∷ xs) (suc i) n lt at f = fits_at xs i n (omega arith) at f.1

  pub all_ordered : (book : Book C) (i : ℕ) (begun : List (Option Begun)) (order : List (ℕ × ℕ)) → length book ≤ i → OrderedSoFar book i begun order → order ≡ map pair_of (commits book)
  all_ordered book i begun order past far = far.order ∙ ap (λ (b : Book C). map pair_of (commits b)) (whole book i past)
    where
      whole : {X : Type 0} (xs : List X) (i : ℕ) → length xs ≤ i → take i xs ≡ xs
      whole [] zero l = refl
      whole [] (suc i) l = refl
      whole (x ∷ xs) zero l = absurd (omega arith)
      whole (x ∷ xs) (suc i) l = ap (λ zs. x ∷ zs) (whole xs i (omega arith))
