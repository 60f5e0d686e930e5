-- Changes of a map, key by key.
use Rattle.std.proofs.Common.{◌≡◌, Bool, true, false, cond, List, [], ◌∷◌, ◌++◌, map, Option, None, Some, is_eq, refl, sym, ap, subst, ◌∙◌, true≢false}
use Rattle.std.specs.List.{AllByRecursion}
use Rattle.tree_model.specs.declared.key.Key.{Key}
use Rattle.tree_model.specs.declared.record.Record.{Record}
use Rattle.tree_model.specs.declared.change.Change.{Change}
use Rattle.tree_model.specs.Keys.{key_cmp}
use Rattle.tree_model.specs.Entries.{Entries, Sorted, get, set, changed}
use Rattle.tree_model.specs.Tree.{Tree, map_of}
use Rattle.tree_model.specs.ValidTrees.{IsValidTree}
use Rattle.tree_model.proofs.Entries.{sorted_set, get_set, get_set_other}
use Rattle.tree_model.proofs.WholeTree.{map_sorted}
use Rattle.dewey_labels.specs.Labels.{Label}
use Rattle.dewey_labels.specs.Sides.{side, is_in}
use Rattle.tree_model.proofs.Split.{Labelled, SideIn}
use Rattle.std.proofs.Common.{append_assoc}
use Rattle.tree_cells.proofs.SameTrees.{key_is}
use Rattle.tree_model.specs.Changes.{drop_change}

-- what stands at a key after changes, o being what stood there
abbrev pub set_over : Key → List Change → Option Record → Option Record
set_over k [] o = o
set_over k (c ∷ cs) o = set_over k cs (cond (is_eq (key_cmp k c.key)) c.now o)

pub get_changed : (k : Key) (cs : List Change) (es : Entries) → Sorted es → get k (changed cs es) ≡ set_over k cs (get k es)
get_changed k [] es s = refl
get_changed k (c ∷ cs) es s = get_changed k cs (set c.key c.now es) (sorted_set c.key c.now es s) ∙ ap (set_over k cs) one
  where
    one : get k (set c.key c.now es) ≡ cond (is_eq (key_cmp k c.key)) c.now (get k es)
    one = elim (is_eq (key_cmp k c.key)) as (λ b. is_eq (key_cmp k c.key) ≡ b → get k (set c.key c.now es) ≡ cond b c.now (get k es)) [
      | true ↦ λ g. subst (λ z. get z (set c.key c.now es) ≡ c.now) (sym (key_is k c.key g)) (get_set c.key c.now es s)
      | false ↦ λ g. get_set_other k c.key c.now es g
    ] refl

-- a key that no change names
abbrev pub Unchanged : Key → List Change → Type 0
Unchanged k cs = AllByRecursion (λ c. is_eq (key_cmp k c.key) ≡ false) cs

pub set_over_none : (k : Key) (cs : List Change) (o : Option Record) → Unchanged k cs → set_over k cs o ≡ o
set_over_none k [] o h = refl
set_over_none k (c ∷ cs) o h = ap (λ b. set_over k cs (cond b c.now o)) h.0 ∙ set_over_none k cs o h.1

-- in the map of a tree
pub get_in_changed : (k : Key) (cs : List Change) (t t' : Tree) → IsValidTree t → map_of t' ≡ changed cs (map_of t) → get k (map_of t') ≡ set_over k cs (get k (map_of t))
get_in_changed k cs t t' w e = ap (get k) e ∙ get_changed k cs (map_of t) (map_sorted t w)

-- ---- puts

-- where something stands at a key, something does after puts
pub set_over_puts : (k : Key) (xs : Entries) (o : Option Record) → Rattle.std.proofs.Common.is_some o ≡ true → Rattle.std.proofs.Common.is_some (set_over k (map Rattle.tree_model.specs.Changes.put_change xs) o) ≡ true
set_over_puts k [] o h = h
set_over_puts k (x ∷ xs) o h = set_over_puts k xs (cond (is_eq (key_cmp k x.0)) (Some x.1) o) (elim (is_eq (key_cmp k x.0)) as (λ b. Rattle.std.proofs.Common.is_some (cond b (Some x.1) o) ≡ true) [ true ↦ refl | false ↦ h ])

-- no put is at a key outside the label that holds them
pub unchanged_outside : (l : Label) (k : Key) (xs : Entries) → is_in (side l k.label) ≡ false → AllByRecursion (Labelled (SideIn l)) xs → Unchanged k (map Rattle.tree_model.specs.Changes.put_change xs)
unchanged_outside l k [] o h = tt
unchanged_outside l k (x ∷ xs) o h = (
  elim (is_eq (key_cmp k x.0)) as (λ b. is_eq (key_cmp k x.0) ≡ b → b ≡ false) [
    | true ↦ λ g. absurd (true≢false (sym h.0 ∙ subst (λ z. is_in (side l z.label) ≡ false) (key_is k x.0 g) o))
    | false ↦ λ _. refl
  ] refl,
  unchanged_outside l k xs o h.1,
)

-- ---- deletes

-- what is gone stays so
pub set_over_drops : (k : Key) (xs : Entries) → set_over k (map drop_change xs) None ≡ None
set_over_drops k [] = refl
set_over_drops k (x ∷ xs) = elim (is_eq (key_cmp k x.0)) as (λ b. set_over k (map drop_change xs) (cond b None None) ≡ None) [ true ↦ set_over_drops k xs | false ↦ set_over_drops k xs ]

pub kept_outside : (l : Label) (k : Key) (xs : Entries) → is_in (side l k.label) ≡ false → AllByRecursion (Labelled (SideIn l)) xs → Unchanged k (map drop_change xs)
kept_outside l k [] o h = tt
kept_outside l k (x ∷ xs) o h = (
  elim (is_eq (key_cmp k x.0)) as (λ b. is_eq (key_cmp k x.0) ≡ b → b ≡ false) [
    | true ↦ λ g. absurd (true≢false (sym h.0 ∙ subst (λ z. is_in (side l z.label) ≡ false) (key_is k x.0 g) o))
    | false ↦ λ _. refl
  ] refl,
  kept_outside l k xs o h.1,
)
