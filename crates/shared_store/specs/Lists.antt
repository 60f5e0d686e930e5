-- The list behind the turn: the opening, and then the book, with an entry wherever commits were handed out.
use Rattle.std.specs.Prelude.{ℕ, ◌-◌, ◌≤◌, Bool, true, false, List, [], ◌∷◌, ◌++◌, map, take, drop, Option, Some, None, IfSome}
use Rattle.tree_model.specs.Entries.{Entries}
use Rattle.tree_model.specs.Tree.{Tree}
use Rattle.node_seq.specs.Trees.{StandsFor}
use Rattle.call_contract.specs.Books.{Book, IsBookFrom, IsSerial, last}
use Rattle.call_contract.specs.Calls.{CallMeaning}
use Rattle.call_contract.specs.States.{State, start}
use Rattle.tx_core.specs.Cores.{CoreView}
use Rattle.shared_store.specs.declared.desk.Drain.{Drain}
use Rattle.shared_store.specs.declared.desk.Entry.{Entry}
use Rattle.shared_store.specs.declared.desk.Entry.TheVariants as kind

module _ {C B : Type 0} where
  -- whose entry it is: its session's; a drain has the number 0, and the opening none
  abbrev pub number_of : Entry C B → Option ℕ
  number_of (kind.Opening o n l b d) = None
  number_of (kind.Noted n) = Some n.session
  number_of (kind.Drained k) = Some 0

  abbrev pub noted : Book C → List (Entry C B)
  noted ns = map kind.Noted ns

  -- the book from one of its entries on, with the drains
  abbrev pub woven : ℕ → Book C → List Drain → List (Entry C B)
  woven from book [] = noted (drop from book)
  woven from book (d ∷ ds) = noted (take (d.at - from) (drop from book)) ++ kind.Drained d.number ∷ woven d.at book ds

  -- the list of a store that was made of this core, with a book and drains
  abbrev pub list_of : CoreView C B → Book C → List Drain → List (Entry C B)
  list_of first book ds = kind.Opening first.opening first.number first.limit first.base first.undrained.after ∷ woven 0 book ds

  -- ---- what a list tells

  -- the book
  abbrev pub book_of : List (Entry C B) → Book C
  book_of [] = []
  book_of (kind.Opening o n l b d ∷ es) = book_of es
  book_of (kind.Noted n ∷ es) = n ∷ book_of es
  book_of (kind.Drained k ∷ es) = book_of es

  -- what the core was opened over, the number of the commit before, and the limit
  abbrev pub opening_in : List (Entry C B) → Option B
  opening_in (kind.Opening o n l b d ∷ es) = Some o
  opening_in es = None

  abbrev pub number_in : List (Entry C B) → ℕ
  number_in (kind.Opening o n l b d ∷ es) = n
  number_in es = 0

  abbrev pub limit_in : List (Entry C B) → ℕ
  limit_in (kind.Opening o n l b d ∷ es) = l
  limit_in es = 0

  -- the core's base when the store was made
  abbrev pub base_in : List (Entry C B) → Option B
  base_in (kind.Opening o n l b d ∷ es) = Some b
  base_in es = None

  -- the number of the last commit that was handed out, where it was k before
  abbrev pub drained_from : ℕ → List (Entry C B) → ℕ
  drained_from k [] = k
  drained_from k (kind.Opening o n l b d ∷ es) = drained_from k es
  drained_from k (kind.Noted n ∷ es) = drained_from k es
  drained_from k (kind.Drained d ∷ es) = drained_from d es

  abbrev pub drained_in : List (Entry C B) → ℕ
  drained_in (kind.Opening o n l b d ∷ es) = drained_from d es
  drained_in es = drained_from 0 es

  -- the list tells of a core that was opened over the map of this tree
  abbrev pub OpensFrom : (B → Option Entries) → List (Entry C B) → Tree → Type 0
  OpensFrom told es t = IfSome (opening_in es) (λ o. StandsFor (told o) t)

  -- the state that its book comes to from there
  abbrev pub state_in : CallMeaning C → Tree → List (Entry C B) → State C
  state_in m t es = last m (start t (number_in es) (limit_in es)) (book_of es)

  -- what it tells is a legal book of valid calls, from each tree that its opening stands for
  abbrev pub HasLegalBook : (C → Type 0) → CallMeaning C → (B → Option Entries) → List (Entry C B) → Type 0
  HasLegalBook is_valid m told es = (t : Tree) → OpensFrom told es t → IsBookFrom is_valid m t (number_in es) (limit_in es) (book_of es)

  -- and a serial one
  abbrev pub HasSerialBook : CallMeaning C → (B → Option Entries) → List (Entry C B) → Type 0
  HasSerialBook m told es = (t : Tree) → OpensFrom told es t → IsSerial m t (number_in es) (limit_in es) (book_of es)

  -- it begins with an opening
  abbrev pub is_opened : List (Entry C B) → Bool
  is_opened (kind.Opening o n l b d ∷ es) = true
  is_opened es = false

-- each entry of the book is of a session up to 64
abbrev pub SessionsFit : {C : Type 0} → Book C → Type 0
SessionsFit [] = Unit {0}
SessionsFit (n ∷ ns) = (n.session ≤ 64) × SessionsFit ns
