-- Fragments: trees that stand nowhere yet, as JsonML writes them (docs/PROFILE.md, "Fragments").
use Rattle.std.specs.Prelude.{ℕ, suc, Bool, true, false, max, List, [], ◌∷◌, map, Option, None, Some, IsTrue}
use Rattle.tree_model.specs.declared.fragment.Fragment.{Fragment, fold-Fragment}
use Rattle.tree_model.specs.declared.fragment.Fragment.TheOpen.{Fragment-F}
use Rattle.tree_model.specs.Names.{Name, is_name}
use Rattle.tree_model.specs.Records.{is_data}
use Rattle.tree_model.specs.Tree.{Attributes}
use Rattle.tree_model.specs.ValidTrees.{NamesRise, ValuesFit}

-- fragments in a row: the first one, an element with its name, attributes and children, or a text, and those behind it
pub data Fragments : Type 0 where
  no_more : Fragments
  element : Name → Attributes → Fragments → Fragments → Fragments
  text : List ℕ → Fragments → Fragments

-- fragments one before another, each as it puts itself before a row
abbrev pub in_a_row : List (Fragments → Fragments) → Fragments
in_a_row [] = no_more
in_a_row (f ∷ fs) = f (in_a_row fs)

-- one fragment before a row, each of its children already seen so
abbrev pub put_before : Fragment-F (Fragments → Fragments) → Fragments → Fragments
put_before (Fragment-F.Element n ats ch) nx = element n ats (in_a_row ch) nx
put_before (Fragment-F.Text t) nx = text t nx

-- a fragment of a call, before a row of others
abbrev pub before_row : Fragment → Fragments → Fragments
before_row = fold-Fragment (Fragments → Fragments) put_before

-- a fragment of a call by itself
abbrev pub plain : Fragment → Fragments
plain f = before_row f no_more

-- fragments of a call in a row
abbrev pub plain_row : List Fragment → Fragments
plain_row fs = in_a_row (map before_row fs)

-- names are Names, those of each element's attributes rise by bytes, and texts and values are UTF-8 and not too long
abbrev pub IsValid : Fragments → Type 0
IsValid no_more = Unit {0}
IsValid (element n ats ch nx) = IsTrue (is_name n) × NamesRise [] ats × ValuesFit ats × IsValid ch × IsValid nx
IsValid (text t nx) = IsTrue (is_data t) × IsValid nx

-- the levels that fragments take
abbrev pub depth : Fragments → ℕ
depth no_more = 0
depth (element n ats ch nx) = max (suc (depth ch)) (depth nx)
depth (text t nx) = max 1 (depth nx)

-- the first fragment is a text
abbrev pub is_text_fragment : Fragments → Bool
is_text_fragment no_more = false
is_text_fragment (element n ats ch nx) = false
is_text_fragment (text t nx) = true

-- a fragment that may be missing
abbrev pub plain_or_none : Option Fragment → Fragments
plain_or_none None = no_more
plain_or_none (Some f) = plain f
