-- The bodies of a book's commits, read again one after another, lead to the tree after them.
use Rattle.std.proofs.Common.{◌≡◌, ℕ, suc, ◌+◌, true, List, [], ◌∷◌, length, map, Option, Some, refl, ap, ◌∙◌, arith}
use Rattle.std.specs.Prelude.{unwrap_or}
use Rattle.std.proofs.lemmas.Bool.{eq-eqb}
use Rattle.tree_model.specs.declared.change.Change.{Change}
use Rattle.tree_model.specs.Entries.{changed}
use Rattle.tree_model.specs.Tree.{Tree, map_of}
use Rattle.tree_model.specs.ValidTrees.{IsValidTree}
use Rattle.node_records.specs.Changes.{changes_bytes}
use Rattle.node_records.specs.Pending.{FollowOn}
use Rattle.node_records.specs.declared.pending.Pending.{Pending}
use Rattle.journal.specs.Bodies.{changes_in}
use Rattle.journal.specs.Batches.{pairs_of}
use Rattle.journal.specs.Groups.{commits_of}
use Rattle.store_contents.specs.Contents.{after_commits, goes_on_from, last_of}
use Rattle.call_contract.specs.CallChanges.{changes_of_calls}
use Rattle.call_contract.specs.Calls.{CallLaws, CallMeaning}
use Rattle.call_contract.specs.SerialRuns.{Committed, serial}
use Rattle.call_contract.specs.States.{Answered, view}
use Rattle.call_contract.proofs.CallChanges.{calls_lead}
use Rattle.shared_store.specs.Bodies.{changes_made}
use Rattle.durable_sessions.proofs.ValidCommits.{AreValidCommits}
use Rattle.durable_sessions.proofs.WrittenChanges.{AreValidCalls, body_read}

abbrev pub bodies_in : List Pending → List (List ℕ)
bodies_in ps = map (λ (p : Pending). p.body) ps

abbrev pub first_or : List ℕ → List (List ℕ) → List ℕ
first_or other [] = other
first_or other (x ∷ xs) = x

abbrev pub others_in : List (List ℕ) → List (List ℕ)
others_in [] = []
others_in (x ∷ xs) = xs

module _ {C : Type 0} (is_valid : C → Type 0) (m : CallMeaning C) (laws : CallLaws C is_valid m) where
  view_valid : (cs : List (Answered C)) (t : Tree) → IsValidTree t → AreValidCalls is_valid m laws cs → IsValidTree (view m cs t)
  view_valid [] t is valid = is
  view_valid (a ∷ cs) t is valid = view_valid cs (m.after a.call t) (laws.keeps_valid a.call t valid.0 is) valid.1

  -- what is committed stays a valid tree
  pub serial_valid : (ds : List (Committed C)) (t : Tree) → IsValidTree t → AreValidCommits is_valid ds → IsValidTree (serial m ds t).tree
  serial_valid [] t is valid = is
  serial_valid (d ∷ ds) t is valid = serial_valid ds (view m d.calls t) (view_valid d.calls t is valid.0) valid.1

  -- one commit's body is read as changes that lead to the tree after it
  body_leads : (d : Committed C) (t : Tree) (body : List ℕ) → IsValidTree t → AreValidCalls is_valid m laws d.calls → body ≡ changes_bytes (changes_of_calls m d.calls t) → changed (unwrap_or (changes_in body) []) (map_of t) ≡ map_of (view m d.calls t)
  body_leads d t body is valid same =
      ap (λ (o : Option (List Change)). changed (unwrap_or o []) (map_of t)) (ap changes_in same ∙ body_read is_valid m laws d.calls t is valid) ∙ (calls_lead is_valid m laws d.calls t is valid).map

  pub bodies_lead : (ds : List (Committed C)) (t : Tree) (ps : List Pending) → IsValidTree t → AreValidCommits is_valid ds → bodies_in ps ≡ map changes_bytes (changes_made m ds t)
      → after_commits (commits_of (pairs_of ps)) (map_of t) ≡ map_of (serial m ds t).tree
  bodies_lead [] t [] is valid same = refl
  bodies_lead [] t (p ∷ ps) is valid same = let n = ap length same in absurd (omega (arith, n))
  bodies_lead (d ∷ ds) t [] is valid same = let n = ap length same in absurd (omega (arith, n))
  bodies_lead (d ∷ ds) t (p ∷ ps) is valid same =
      let here : p.body ≡ changes_bytes (changes_of_calls m d.calls t) = ap (first_or p.body) same in
      ap (after_commits (commits_of (pairs_of ps))) (body_leads d t p.body is valid.0 here)
      ∙ bodies_lead ds (view m d.calls t) ps (view_valid d.calls t is valid.0) valid.1 (ap others_in same)

  pub made_length : (ds : List (Committed C)) (t : Tree) → length (map changes_bytes (changes_made m ds t)) ≡ length ds
  made_length [] t = refl
  made_length (d ∷ ds) t = ap suc (made_length ds (view m d.calls t))

-- ---- numbers

pub goes_on : (n : ℕ) (ps : List Pending) → FollowOn n ps → goes_on_from (Some n) (commits_of (pairs_of ps)) ≡ true
goes_on n [] follow = refl
goes_on n (p ∷ ps) follow = eq-eqb p.number (n + 1) follow.0

pub last_is : (n : ℕ) (ps : List Pending) → FollowOn n ps → last_of (commits_of (pairs_of ps)) n ≡ n + length ps
last_is n [] follow = let e : n ≡ n + 0 = omega arith in e
last_is n (p ∷ ps) follow =
    let rest : last_of (commits_of (pairs_of ps)) (n + 1) ≡ n + 1 + length ps = last_is (n + 1) ps follow.2 in
    ap (last_of (commits_of (pairs_of ps))) follow.0 ∙ rest ∙ (let e : n + 1 + length ps ≡ n + suc (length ps) = omega arith in e)
