-- What commits behind the groups of a journal stand for, all of a book's or some first of them.
use Rattle.std.proofs.Common.{◌≡◌, ℕ, zero, suc, ◌+◌, ◌≤◌, List, [], ◌∷◌, ◌++◌, length, map, take, Ok, refl, sym, ap, ◌∙◌, arith, length-append}
use Rattle.std.specs.Prelude.{None}
use Rattle.std.specs.List.{AllByRecursion}
use Rattle.std.proofs.lemmas.List.{length-map, take-map}
use Rattle.tree_model.specs.StoredTree.{broken_at}
use Rattle.tree_model.specs.Tree.{Tree, map_of}
use Rattle.tree_model.specs.ValidTrees.{IsValidTree}
use Rattle.tree_model.proofs.UnbrokenTrees.{unbroken}
use Rattle.node_records.specs.Changes.{changes_bytes}
use Rattle.node_records.specs.Pending.{FollowOn}
use Rattle.node_records.specs.declared.pending.Pending.{Pending}
use Rattle.journal.specs.Batches.{HasFirst, pairs_of, with_commits}
use Rattle.journal.specs.Groups.{commits_of}
use Rattle.journal.specs.Journals.{read}
use Rattle.journal.specs.declared.group.Groups.{Groups}
use Rattle.store_contents.specs.StoredTrees.{StandFor}
use Rattle.store_contents.proofs.CommitLaws.{many_more}
use Rattle.call_contract.specs.Books.{Book, commits, HasValidCalls}
use Rattle.call_contract.specs.CallChanges.{changes_of_calls}
use Rattle.call_contract.specs.Calls.{CallLaws, CallMeaning}
use Rattle.call_contract.specs.SerialRuns.{Committed, serial}
use Rattle.call_contract.specs.States.{view}
use Rattle.shared_store.specs.Bodies.{bodies_of, changes_made}
use Rattle.durable_sessions.specs.WrittenBooks.{StandAfter, StandAfterSome}
use Rattle.durable_sessions.proofs.BookBodies.{bodies_in, bodies_lead, first_or, goes_on, last_is, made_length, others_in, serial_valid}
use Rattle.durable_sessions.proofs.ValidCommits.{AreValidCommits, commits_valid}

-- ---- some first ones

module _ {A : Type 0} where
  all_first : (P : A → Type 0) (k : ℕ) (xs : List A) → AllByRecursion P xs → AllByRecursion P (take k xs)
  all_first P zero xs h = tt
  all_first P (suc k) [] h = tt
  all_first P (suc k) (x ∷ xs) h = (h.0, all_first P k xs h.1)

first_follow : (k n : ℕ) (ps : List Pending) → FollowOn n ps → FollowOn n (take k ps)
first_follow zero n ps follow = tt
first_follow (suc k) n [] follow = tt
first_follow (suc k) n (p ∷ ps) follow = (follow.0, follow.1, first_follow k (n + 1) ps follow.2)

-- the first commits have the bodies of the first transactions
first_bodies : {C : Type 0} (m : CallMeaning C) (k : ℕ) (ds : List (Committed C)) (t : Tree) (ps : List Pending) (later : List (List ℕ)) → k ≤ length ps → map changes_bytes (changes_made m ds t) ≡ bodies_in ps ++ later
    → bodies_in (take k ps) ≡ map changes_bytes (changes_made m (take k ds) t)
first_bodies m zero ds t ps later few same = refl
first_bodies m (suc k) ds t [] later few same = absurd (omega (arith, few))
first_bodies m (suc k) [] t (p ∷ ps) later few same = let n = ap length same in absurd (omega (arith, n))
first_bodies m (suc k) (d ∷ ds) t (p ∷ ps) later few same =
    let here : p.body ≡ changes_bytes (changes_of_calls m d.calls t) = sym (ap (first_or p.body) same) in
    let rest : bodies_in (take k ps) ≡ map changes_bytes (changes_made m (take k ds) (view m d.calls t)) = first_bodies m k ds (view m d.calls t) ps later (omega (arith, few)) (ap others_in same) in
    λ i. here i ∷ rest i

module _ {C : Type 0} (is_valid : C → Type 0) (m : CallMeaning C) (laws : CallLaws C is_valid m) where
  -- bytes with the commits of these transactions behind the groups stand for the tree after them
  pub stand_after : (t : Tree) (n : ℕ) (ds : List (Committed C)) (ps : List Pending) (before journal pages : List ℕ) (groups : Groups) → AreValidCommits is_valid ds → bodies_in ps ≡ map changes_bytes (changes_made m ds t) → FollowOn n ps
      → read before ≡ Ok groups → groups.images ≡ None → read journal ≡ Ok (with_commits groups (commits_of (pairs_of ps))) → StandFor before pages t n → StandAfter m t n ds journal pages
  stand_after t n ds ps before journal pages groups valid same follow old none new stood =
      let tree = (serial m ds t).tree in
      let leads = bodies_lead is_valid m laws ds t ps stood.is_valid_tree valid same in
      let formed : IsValidTree tree = serial_valid is_valid m laws ds t stood.is_valid_tree valid in
      let made = made_length is_valid m laws ds t in
      let long = length-map ps (λ (p : Pending). p.body) in
      let all = ap length same in
      let number : n + length ps ≡ n + length ds = omega (arith, made, long, all) in
      record {
        is_valid_tree = formed;
        opens = many_more before journal pages groups (commits_of (pairs_of ps)) (record { entries = map_of t; number = n }) old none new stood.opens (goes_on n ps follow) (ap broken_at leads ∙ unbroken tree formed)
            ∙ (λ i. Ok (record { entries = leads i; number = (last_is n ps follow ∙ number) i }));
      }

  -- with some first of a book's commits, for the tree after these
  pub first_stand : (t : Tree) (n least : ℕ) (book : Book C) (ps : List Pending) (later : List (List ℕ)) (groups : Groups) (before journal pages : List ℕ) → HasValidCalls is_valid book → bodies_of m t book ≡ bodies_in ps ++ later → FollowOn n ps
      → read before ≡ Ok groups → groups.images ≡ None → StandFor before pages t n → HasFirst groups (pairs_of ps) least journal → StandAfterSome m t n (commits book) least journal pages
  first_stand t n least book ps later groups before journal pages valid same follow old none stood first =
      let k = first.count in
      let ds = commits book in
      let pairs : length (pairs_of ps) ≡ length ps = length-map ps (λ (p : Pending). (p.number, p.body)) in
      let some = first.some in
      let few : k ≤ length ps = omega (arith, pairs, some) in
      let made = made_length is_valid m laws ds t in
      let all = ap length same in
      let sum = length-append (bodies_in ps) later in
      let long = length-map ps (λ (p : Pending). p.body) in
      record {
        count = k;
        enough = first.enough;
        within = omega (arith, few, made, all, sum, long);
        stands = stand_after t n (take k ds) (take k ps) before journal pages groups (all_first _ k ds (commits_valid is_valid book valid)) (first_bodies m k ds t ps later few same) (first_follow k n ps follow) old none
            (first.reads ∙ ap (λ (l : List (ℕ × List ℕ)). Ok (with_commits groups (commits_of l))) (take-map (λ (p : Pending). (p.number, p.body)) k ps)) stood;
      }
