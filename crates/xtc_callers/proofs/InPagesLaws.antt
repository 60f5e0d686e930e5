-- What the pages hold where the last checkpoint of a command over two empty files was made behind its last commit.
use Rattle.std.proofs.Common.{◌≡◌, ◌&&◌, ◌%◌, Bool, true, IsTrue, nat_le, ℕ, zero, suc, ◌+◌, ◌≤◌, List, length, Option, Some, Ok, refl, ap, subst, ◌∙◌, arith, eq-eqb, le-leb}
use Rattle.std.specs.Prelude.{IfSome}
use Rattle.std.proofs.lemmas.List.{take_all}
use Rattle.tree_model.specs.Tree.{Tree, empty_tree, map_of}
use Rattle.call_contract.specs.Books.{Book, commits}
use Rattle.call_contract.specs.SerialRuns.{Committed, serial}
use Rattle.session_driver.specs.Asking.{BookCall}
use Rattle.command_words.specs.Commands.{Command, gen, run, workers}
use Rattle.store_calls.specs.StoreCalls.{store_meaning}
use Rattle.xtc.specs.Checkpoints.{AreMade, MadeBehind, fits, is_made, is_positive, is_tried, last_made, last_of_command, made_or, tree_after, tried_in}
use Rattle.xtc_callers.specs.InPages.{HoldAllOfWorkers, HoldAllThatFits, HoldAllWhereDue, tree_of_commits}

-- where one is tried behind this commit, and fits, it is the last one
last_here : (tried : ℕ → Bool) (t : Tree) (n : ℕ) (book : Book BookCall) (k : ℕ) → 1 ≤ k → tried k ≡ true → fits (tree_after t book k) (n + k) ≡ true
    → last_made tried t n book k ≡ Some k
last_here tried t n book zero positive due fit = absurd (omega (arith, positive))
last_here tried t n book (suc k) positive due fit =
    let both : (tried (suc k) && fits (tree_after t book (suc k)) (n + suc k)) ≡ true = ap (λ (b : Bool). b && fits (tree_after t book (suc k)) (n + suc k)) due ∙ fit in
    ap (λ (b : Bool). made_or b (suc k) (last_made tried t n book k)) both

-- workers try one behind the last commit, where there are as many
due_behind_all : (every all : ℕ) → every ≤ all → tried_in (Some workers) every all all ≡ true
due_behind_all every all enough = ap (λ (b : Bool). b && nat_le every all) (eq-eqb all all refl) ∙ le-leb every all enough

-- the others behind each so many
due_in_turn : (every k : ℕ) → 1 ≤ k → k % every ≡ 0 → is_tried every k ≡ true
due_in_turn every zero positive rest = absurd (omega (arith, positive))
due_in_turn every (suc k) positive rest = eq-eqb (suc k % every) 0 rest

some_number : (k : ℕ) → 1 ≤ k → IsTrue (is_positive k)
some_number zero positive = absurd (omega (arith, positive))
some_number (suc k) positive = refl

module _ (every : ℕ) (book : Book BookCall) (journal pages : List ℕ) where
  abbrev count : ℕ
  count = length (commits book)

  all_taken : tree_after empty_tree book count ≡ tree_of_commits book
  all_taken = ap (λ (cs : List (Committed BookCall)). (serial store_meaning cs empty_tree).tree) (take_all count (commits book) (omega arith))

  counted : 0 + count ≡ count
  counted = omega arith

  -- what a command has made that tries one behind the last commit
  held_behind : (command : Command) → tried_in (Some command) every count count ≡ true → 1 ≤ count → AreMade (Some command) every empty_tree 0 book journal pages → HoldAllThatFits book pages
  held_behind command due some made fitting =
      let fit : fits (tree_after empty_tree book count) (0 + count) ≡ true = (λ i. fits (all_taken i) (counted i)) ∙ ap is_made fitting in
      let last : last_of_command (Some command) every empty_tree 0 book ≡ Some count = last_here (tried_in (Some command) every count) empty_tree 0 book count some due fit in
      let behind = subst (λ (r : Option ℕ). IfSome r (MadeBehind empty_tree 0 book journal pages)) last made in
      behind.hold ∙ (λ i. Ok (map_of (all_taken i), counted i))

  abbrev Made : Command → Type 0
  Made command = IsTrue (is_positive every) → AreMade (Some command) every empty_tree 0 book journal pages

  pub held_by_workers : Made workers → HoldAllOfWorkers every book pages
  held_by_workers made positive enough = held_behind workers (due_behind_all every count enough) (omega (arith, positive, enough)) (made (some_number every positive))

  pub held_by_run : Made run → HoldAllWhereDue every book pages
  held_by_run made positive some rest = held_behind run (due_in_turn every count some rest) some (made (some_number every positive))

  pub held_by_gen : (seed lines : ℕ) → Made (gen seed lines) → HoldAllWhereDue every book pages
  held_by_gen seed lines made positive some rest = held_behind (gen seed lines) (due_in_turn every count some rest) some (made (some_number every positive))
