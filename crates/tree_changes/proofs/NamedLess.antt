-- Lists by name with a name taken out, and attributes of which one is deleted.
use Rattle.std.specs.List.{AllByRecursion}
use Rattle.std.specs.Ordering.{ordering_then}
use Rattle.std.specs.Cmp.Lexicographic.{slice_cmp, nat_list_cmp_total}
use Rattle.std.proofs.Common.{◌≡◌, true, false, cond, if◌then◌else◌, List, [], ◌∷◌, ◌++◌, map, Some, is_some, Less, Equal, Greater, nat_cmp, is_eq, refl, sym}
use Rattle.std.proofs.Common.{ap, ◌∙◌, true≢false}
use Rattle.dewey_labels.specs.Labels.{Label}
use Rattle.tree_model.specs.Names.{Name, is_name}
use Rattle.tree_model.specs.Keys.{key_at}
use Rattle.tree_model.specs.Entries.{Entries, Above, del}
use Rattle.tree_model.specs.Orders.{by_order}
use Rattle.tree_model.specs.Tree.{Attributes, attr_entry, beside}
use Rattle.tree_model.specs.ValidTrees.{NamesRise}
use Rattle.tree_model.specs.Edits.{without_entry}
use Rattle.tree_model.proofs.EntryLimits.{list_itself}

-- ---- lists by name

-- a name that isn't there
pub without_absent : {A : Type 0} (n : Name) (xs : List (Name × A)) → is_some (beside n xs) ≡ false → without_entry n xs ≡ xs
without_absent n [] h = refl
without_absent n (x ∷ xs) h = elim (is_eq (slice_cmp nat_cmp n x.0)) as (λ b. is_some (cond b (Some x.1) (beside n xs)) ≡ false
    → (if b then xs else x ∷ without_entry n xs) ≡ x ∷ xs) [
      | true ↦ λ g. absurd (true≢false g)
      | false ↦ λ g. ap (λ v. x ∷ v) (without_absent n xs g)
    ] h

-- no entry has a name that is none
pub no_entry : {A : Type 0} (lo n : Name) (xs : List (Name × A)) → NamesRise lo xs → is_name n ≡ false → is_some (beside n xs) ≡ false
no_entry lo n [] w h = refl
no_entry lo n (x ∷ xs) w h = elim (slice_cmp nat_cmp n x.0) as (λ o. slice_cmp nat_cmp n x.0 ≡ o → is_some (cond (is_eq o) (Some x.1) (beside n xs)) ≡ false) [
  | Less ↦ λ _. no_entry x.0 n xs w.2 h
  | Equal ↦ λ e. absurd (true≢false (sym w.1 ∙ ap is_name (sym (Rattle.tree_model.proofs.Keys.list_tied n x.0 e)) ∙ h))
  | Greater ↦ λ _. no_entry x.0 n xs w.2 h
] refl

lower_names : {A : Type 0} (a b : Name) (xs : List (Name × A)) → slice_cmp nat_cmp a b ≡ Less → NamesRise b xs → NamesRise a xs
lower_names a b [] h w = tt
lower_names a b (x ∷ xs) h w = (nat_list_cmp_total.trans a b x.0 h w.0, w.1, w.2)

pub names-without : {A : Type 0} (lo n : Name) (xs : List (Name × A)) → NamesRise lo xs → NamesRise lo (without_entry n xs)
names-without lo n [] w = tt
names-without lo n (x ∷ xs) w = elim (is_eq (slice_cmp nat_cmp n x.0)) as (λ b. NamesRise lo (if b then xs else x ∷ without_entry n xs)) [
  | true ↦ lower_names lo x.0 xs w.0 w.2
  | false ↦ (w.0, w.1, names-without x.0 n xs w.2)
]

pub all-without : {A : Type 0} (P : Name × A → Type 0) (n : Name) (xs : List (Name × A)) → AllByRecursion P xs → AllByRecursion P (without_entry n xs)
all-without P n [] h = tt
all-without P n (x ∷ xs) h = elim (is_eq (slice_cmp nat_cmp n x.0)) as (λ b. AllByRecursion P (if b then xs else x ∷ without_entry n xs)) [
  | true ↦ h.1
  | false ↦
      (h.0, all-without P n xs h.1)
]

-- an attribute is deleted among those of its node
pub del_attribute : (l : Label) (lo n : Name) (ats : Attributes) (es : Entries) → NamesRise lo ats → AllByRecursion (Above (key_at l n)) es
    → del (key_at l n) (map (attr_entry l) ats ++ es) ≡ map (attr_entry l) (without_entry n ats) ++ es
del_attribute l lo n [] es w h = Rattle.tree_model.proofs.Entries.del_none (key_at l n) es h
del_attribute l lo n (a ∷ ats) es w h =
    let rest = map (attr_entry l) ats ++ es in
    let y = attr_entry l a in
    ap (λ o. by_order (ordering_then o (slice_cmp nat_cmp n a.0)) (y ∷ rest) rest (y ∷ del (key_at l n) rest)) (list_itself l)
    ∙ elim (slice_cmp nat_cmp n a.0) as (λ o. slice_cmp nat_cmp n a.0 ≡ o
    → by_order o (y ∷ rest) rest (y ∷ del (key_at l n) rest) ≡ map (attr_entry l) (if is_eq o then ats else a ∷ without_entry n ats) ++ es) [
      | Less ↦ λ e. ap (λ v. y ∷ (map (attr_entry l) v ++ es)) (sym (without_absent n ats (before a.0 ats w.2 e)))
      | Equal ↦ λ _. refl
      | Greater ↦ λ _. ap (λ z. y ∷ z) (del_attribute l a.0 n ats es w.2 h)
    ] refl
  where
    before : (b : Name) (xs : Attributes) → NamesRise b xs → slice_cmp nat_cmp n b ≡ Less → is_some (beside n xs) ≡ false
    before b [] w e = refl
    before b (x ∷ xs) w e =
        let less = nat_list_cmp_total.trans n b x.0 e w.0 in
        ap (λ o. is_some (cond (is_eq o) (Some x.1) (beside n xs))) less ∙ before x.0 xs w.2 less
