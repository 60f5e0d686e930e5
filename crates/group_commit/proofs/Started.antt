-- A store over a core with an empty book: what its list tells at the start, and of the core at the end.
use Rattle.std.proofs.Common.{◌≡◌, ◌∙◌, ◌+◌, ℕ, true, refl, sym, ap, subst, arith, List, [], ◌∷◌, ◌++◌}
use Rattle.std.specs.Prelude.{Option, Some}
use Rattle.tree_model.specs.Entries.{Entries}
use Rattle.tree_model.specs.Tree.{Tree}
use Rattle.node_seq.specs.Trees.{StandsFor}
use Rattle.call_contract.specs.Books.{Book}
use Rattle.tx_core.specs.Cores.{CoreView}
use Rattle.shared_store.specs.Lists.{book_of, is_opened, list_of}
use Rattle.shared_store.specs.Sessions.{IsOpenedAs}
use Rattle.shared_store.specs.declared.desk.Entry.{Entry}
use Rattle.shared_store.specs.declared.desk.Entry.TheVariants as kind
use Rattle.group_commit.specs.Marks.{last_commit}
use Rattle.group_commit.specs.Cores.{IsFrom}
use Rattle.group_commit.specs.StorePorts.{IsOpenedOver}

pub some_same : {X : Type 0} (a b : X) → Some a ≡ Some b → b ≡ a
some_same a b e = cc

with_none : (n : ℕ) → n + 0 ≡ n
with_none n = omega arith

module _ {C B : Type 0} (first : CoreView C B) (empty : first.book ≡ []) where
  abbrev Begun : List (Entry C B)
  Begun = list_of first [] []

  begun : (seen : List (Entry C B)) → seen ≡ list_of first first.book [] → seen ≡ Begun
  begun seen is = is ∙ ap (λ (b : Book C). list_of first b []) empty

  module _ (seen : List (Entry C B)) (is : seen ≡ list_of first first.book []) where
    pub begun_book : book_of seen ≡ []
    begun_book = ap book_of (begun seen is)

    -- the last commit that it tells is the one before
    pub begun_last : last_commit seen ≡ first.number
    begun_last = ap last_commit (begun seen is) ∙ with_none first.number

    pub begun_over : (told : B → Option Entries) (t : Tree) → StandsFor (told first.opening) t → IsOpenedOver told seen t first.number first.limit
    begun_over told t stands = subst (λ (es : List (Entry C B)). IsOpenedOver told es t first.number first.limit) (sym (begun seen is)) (record { opened = refl; tree = stands; number = refl; limit = refl })

    module _ (unchanged : B → B → Type 0) (core : CoreView C B) (opened : IsOpenedAs unchanged seen core) where
      here : IsOpenedAs unchanged Begun core
      here = subst (λ (es : List (Entry C B)). IsOpenedAs unchanged es core) (begun seen is) opened

      pub from_opened : IsFrom unchanged first core
      from_opened = record {
        opening = some_same first.opening core.opening here.opening;
        number = sym here.number;
        limit = sym here.limit;
        base = here.base;
      }

module _ {C B : Type 0} (unchanged : B → B → Type 0) where
  -- what a list tells of the opening, its first part tells
  pub opened_before : (seen list added : List (Entry C B)) (core : CoreView C B) → is_opened seen ≡ true → list ≡ seen ++ added → IsOpenedAs unchanged list core → IsOpenedAs unchanged seen core
  opened_before [] list added core is e h = cc
  opened_before (kind.Noted n ∷ es) list added core is e h = cc
  opened_before (kind.Drained k ∷ es) list added core is e h = cc
  opened_before (kind.Opening o n l b d ∷ es) list added core is e h =
      let same = subst (λ (xs : List (Entry C B)). IsOpenedAs unchanged xs core) e h in
      record { opening = same.opening; number = same.number; limit = same.limit; base = same.base }
