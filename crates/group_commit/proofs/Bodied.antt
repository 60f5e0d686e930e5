-- Which bodies of a book a batch has, and those of all commits that were written.
use Rattle.std.proofs.Common.{◌≡◌, ◌∙◌, ℕ, suc, ◌+◌, ◌≤◌, Bool, true, false, List, [], ◌∷◌, ◌++◌, length, map, Option, Some, None, append_assoc, length-append, refl, sym, ap, arith}
use Rattle.std.specs.Prelude.{if◌then◌else◌, filter}
use Rattle.std.proofs.lemmas.List.{length-map, map-append}
use Rattle.node_records.specs.Changes.{changes_bytes}
use Rattle.node_records.specs.declared.pending.Pending.{Pending}
use Rattle.tree_model.specs.Tree.{Tree}
use Rattle.call_contract.specs.Books.{Book, commit_of, commits, commits_after, IsAnswer, IsBookFrom, IsRun, next, open_after, open_of}
use Rattle.call_contract.specs.Calls.{CallMeaning}
use Rattle.call_contract.specs.SerialRuns.{Committed, serial}
use Rattle.call_contract.specs.Sessions.{commits_in, is_commit, live_after, without_grants}
use Rattle.call_contract.specs.States.{Live, of_session, start, State, view}
use Rattle.call_contract.specs.Steps.{step_of}
use Rattle.call_contract.specs.declared.events.Event.{Event}
use Rattle.call_contract.specs.declared.events.Event.TheVariants as event
use Rattle.call_contract.specs.declared.events.EventAnswer.{EventAnswer}
use Rattle.call_contract.specs.declared.events.Noted.{Noted}
use Rattle.call_contract.proofs.Appends.{commits_append}
use Rattle.call_contract.proofs.SerialRun.{open_matches, told_found, told_option}
use Rattle.shared_store.specs.Bodies.{bodies_of, changes_made, HaveLastBodies}
use Rattle.shared_store.proofs.Bodies.{commits_on, made_on}
use Rattle.group_commit.specs.inside.Scribes.{IsCounted}

-- ---- how many commits a book has

abbrev one_or_none : Bool → ℕ
one_or_none true = 1
one_or_none false = 0

module _ {C : Type 0} where
  count_first : (b : Bool) (n : Noted C) (ns : Book C) → length (if b then n ∷ ns else ns) ≡ one_or_none b + length ns
  count_first true n ns = let e : suc (length ns) ≡ 1 + length ns = omega arith in e
  count_first false n ns = let e : length ns ≡ 0 + length ns = omega arith in e

  commit_least : (o : Option (Live C)) (e : Event C) → length (commit_of o e) ≤ one_or_none (is_commit e)
  commit_least None e = omega arith
  commit_least (Some t) event.Begin = omega arith
  commit_least (Some t) (event.Call c) = omega arith
  commit_least (Some t) event.Retry = omega arith
  commit_least (Some t) (event.Fail c k f) = omega arith
  commit_least (Some t) event.Commit = omega arith
  commit_least (Some t) event.Abort = omega arith

  least : (ts : List (Live C)) (ns : Book C) → length (commits_after ts ns) ≤ commits_in ns
  least ts [] = omega arith
  least ts (n ∷ ns) =
      let all = length-append (commit_of (of_session n.session ts) n.event) (commits_after (open_after ts n) ns) in
      let one = commit_least (of_session n.session ts) n.event in
      let rest = least (open_after ts n) ns in
      let count = count_first (is_commit n.event) n (filter (λ (k : Noted C). is_commit k.event) ns) in
      omega (arith, all, one, rest, count)

  -- where each commit of a book ends a transaction, so it is of what the book begins with and of what follows
  pub counted_parts : (xs ys : Book C) → IsCounted (xs ++ ys) → IsCounted xs × (length (commits_after (live_after [] xs) ys) ≡ commits_in ys)
  counted_parts xs ys is =
      let both : length (commits (xs ++ ys)) ≡ length (commits xs ++ commits_after (live_after [] xs) ys) = ap length (commits_on [] xs ys) in
      let all = length-append (commits xs) (commits_after (live_after [] xs) ys) in
      let sum = commits_append xs ys in
      let one = least [] xs in
      let two = least (live_after [] xs) ys in
      (omega (arith, is, both, all, sum, one, two), omega (arith, is, both, all, sum, one, two))

  module _ (m : CallMeaning C) where
    commit_once : (st : State C) (s : ℕ) (o : Option (Live C)) (e : Event C) (a : EventAnswer) → IsAnswer a (step_of m st s o e) → length (commit_of (told_option o) e) ≡ one_or_none (is_commit e)
    commit_once st s None event.Begin a is = refl
    commit_once st s None (event.Call c) a is = refl
    commit_once st s None event.Retry a is = refl
    commit_once st s None (event.Fail c k f) a is = refl
    commit_once st s None event.Commit a is = absurd is
    commit_once st s None event.Abort a is = refl
    commit_once st s (Some t) event.Begin a is = refl
    commit_once st s (Some t) (event.Call c) a is = refl
    commit_once st s (Some t) event.Retry a is = refl
    commit_once st s (Some t) (event.Fail c k f) a is = refl
    commit_once st s (Some t) event.Commit a is = refl
    commit_once st s (Some t) event.Abort a is = refl

    counted : (st : State C) (b : Book C) → IsRun m st b → length (commits_after (map without_grants st.live) b) ≡ commits_in b
    counted st [] run = refl
    counted st (n ∷ ns) run =
        let told = map without_grants st.live in
        let o = of_session n.session st.live in
        let found : of_session n.session told ≡ told_option o = told_found n.session st.live in
        let opened : open_after told n ≡ map without_grants (next m st n).live =
        ap (λ (x : Option (Live C)). open_of n.session x n.event n.answer told) found ∙ open_matches m st n.session o n.event n.answer refl run.0 in
        let one : length (commit_of (of_session n.session told) n.event) ≡ one_or_none (is_commit n.event) = ap (λ (x : Option (Live C)). length (commit_of x n.event)) found ∙ commit_once st n.session o n.event n.answer run.0 in
        let rest : length (commits_after (open_after told n) ns) ≡ commits_in ns = ap (λ (ts : List (Live C)). length (commits_after ts ns)) opened ∙ counted (next m st n) ns run.1 in
        let all = length-append (commit_of (of_session n.session told) n.event) (commits_after (open_after told n) ns) in
        let count = count_first (is_commit n.event) n (filter (λ (k : Noted C). is_commit k.event) ns) in
        omega (arith, one, rest, all, count)

    -- so it is of every book that is legal
    pub counted_book : (is_valid : C → Type 0) (t : Tree) (number limit : ℕ) (book : Book C) → IsBookFrom is_valid m t number limit book → IsCounted book
    counted_book is_valid t number limit book is = counted (start t number limit) book is.legal.run

    -- ---- bodies

    made_length : (ds : List (Committed C)) (t : Tree) → length (changes_made m ds t) ≡ length ds
    made_length [] t = refl
    made_length (d ∷ ds) t = ap suc (made_length ds (view m d.calls t))

    -- those of the commits in what a book goes on with
    abbrev pub later_bodies : Tree → Book C → Book C → List (List ℕ)
    later_bodies t xs ys = map changes_bytes (changes_made m (commits_after (live_after [] xs) ys) (serial m (commits xs) t).tree)

    pub bodies_on : (t : Tree) (xs ys : Book C) → bodies_of m t (xs ++ ys) ≡ bodies_of m t xs ++ later_bodies t xs ys
    bodies_on t xs ys =
        let more = commits_after (live_after [] xs) ys in
        ap (λ (ds : List (Committed C)). map changes_bytes (changes_made m ds t)) (commits_on [] xs ys)
        ∙ (ap (map changes_bytes) (made_on m (commits xs) more t) ∙ map-append changes_bytes (changes_made m (commits xs) t) (changes_made m more (serial m (commits xs) t).tree))

    later_length : (t : Tree) (xs ys : Book C) → length (later_bodies t xs ys) ≡ length (commits_after (live_after [] xs) ys)
    later_length t xs ys =
        length-map (changes_made m (commits_after (live_after [] xs) ys) (serial m (commits xs) t).tree) changes_bytes ∙ made_length (commits_after (live_after [] xs) ys) (serial m (commits xs) t).tree

module _ {A : Type 0} where
  same_behind : (a c b d : List A) → length b ≡ length d → a ++ b ≡ c ++ d → b ≡ d
  same_behind [] [] b d l e = e
  same_behind [] (x ∷ c) b d l e = let n = ap length e in let k = length-append c d in absurd (omega (arith, n, k, l))
  same_behind (x ∷ a) [] b d l e = let n = ap length e in let k = length-append a b in absurd (omega (arith, n, k, l))
  same_behind (x ∷ a) (y ∷ c) b d l e = same_behind a c b d l (ap tail e)
    where
      tail : List A → List A
      tail [] = []
      tail (z ∷ zs) = zs

abbrev pub bodies : List Pending → List (List ℕ)
bodies ps = map (λ (p : Pending). p.body) ps

module _ {C : Type 0} (m : CallMeaning C) (t : Tree) where
  -- a batch has the bodies of what the book went on with
  batch : (xs ys : Book C) (ps : List Pending) → IsCounted (xs ++ ys) → length ps ≡ commits_in ys → HaveLastBodies m t (xs ++ ys) ps → bodies_of m t (xs ++ ys) ≡ bodies_of m t xs ++ bodies ps
  batch xs ys ps is count last =
      let long : length (bodies ps) ≡ length (later_bodies m t xs ys) = length-map ps (λ (p : Pending). p.body) ∙ (count ∙ (sym (counted_parts xs ys is).1 ∙ sym (later_length m t xs ys))) in
      let same : bodies ps ≡ later_bodies m t xs ys = same_behind last.earlier (bodies_of m t xs) (bodies ps) (later_bodies m t xs ys) long (last.parts ∙ bodies_on m t xs ys) in
      bodies_on m t xs ys ∙ ap (λ (z : List (List ℕ)). bodies_of m t xs ++ z) (sym same)

  -- .. and stands behind those that were written before
  pub batch_behind : (before xs ys : Book C) (commits ps : List Pending) → IsCounted (xs ++ ys) → length ps ≡ commits_in ys → HaveLastBodies m t (xs ++ ys) ps → (IsCounted xs → bodies_of m t xs ≡ bodies_of m t before ++ bodies commits)
      → bodies_of m t (xs ++ ys) ≡ bodies_of m t before ++ bodies (commits ++ ps)
  batch_behind before xs ys commits ps is count last first =
      batch xs ys ps is count last
      ∙ (ap (λ (z : List (List ℕ)). z ++ bodies ps) (first (counted_parts xs ys is).0)
      ∙ (append_assoc (bodies_of m t before) (bodies commits) (bodies ps) ∙ ap (λ (z : List (List ℕ)). bodies_of m t before ++ z) (sym (map-append (λ (p : Pending). p.body) commits ps))))
