-- What the core of a store's sessions is laid over: its pages with what was committed since, or a copy of the map (docs/PROFILE.md, "The lock machine").
use Rattle.std.specs.Prelude.{◌≡◌, ◌≤◌, ℕ, Bool, true, false, IsTrue, Option, Some}
use Rattle.std.proofs.Common.{◌∙◌, ap, sym, refl, le_of_eq, le_refl, le_trans}
use Rattle.outside_traits.specs.Moments.{History}
use Rattle.tree_model.specs.Entries.{Entries}
use Rattle.overlays.specs.Layered.{Layered, Stack}
use Rattle.overlays.specs.Views.{contents_after}
use Rattle.paged_seq.specs.PagedFiles.{PagedView, map_same}
use Rattle.paged_seq.specs.PagedMaps.{map_of_file}
use Rattle.checkpoint.specs.declared.base.Base.{Base}
use Rattle.checkpoint.specs.declared.base.Base.TheVariants.{Paged, Copied}

-- pages of such a disk with the layers of commits over them
abbrev pub Held : Type 0 → Type 0
Held P = Stack (PagedView P)

-- the map, where it is known: a copy is
abbrev pub contents_of : {P : Type 0} → Bool → (P → History) → Base P → Option Entries
contents_of is_known history (Paged held) = contents_after held.layers.changes (map_of_file is_known (history held.base.disk).now.reads)
contents_of is_known history (Copied seq faults) = Some seq

-- the count of faults: that of the pages' disk, or the one that a copy keeps
abbrev pub count_of : {P : Type 0} → (P → ℕ) → Base P → ℕ
count_of faults (Paged held) = faults held.base.disk
count_of faults (Copied seq count) = count

-- the sessions read the pages
abbrev pub is_paged : {P : Type 0} → Base P → Bool
is_paged (Paged held) = true
is_paged (Copied seq faults) = false

-- ---- after reads

-- the same file and the same places in it, and no count fell
abbrev pub IsSameFile : {P : Type 0} → Bool → (P → History) → (P → ℕ) → PagedView P → PagedView P → Type 0
IsSameFile is_known history faults s t =
    (IsTrue is_known → history t.disk ≡ history s.disk) × (faults s.disk ≤ faults t.disk) × (t.index ≡ s.index) × (t.pool.most ≡ s.pool.most)

-- the same pages under the same layers
abbrev pub IsSameStack : {P : Type 0} → Bool → (P → History) → (P → ℕ) → Held P → Held P → Type 0
IsSameStack is_known history faults s t = IsSameFile is_known history faults s.base t.base × (s.layers ≡ t.layers)

-- the same base after reads: pages stay pages, and a copy stays what it is
abbrev pub IsUnchanged : {P : Type 0} → Bool → (P → History) → (P → ℕ) → Base P → Base P → Type 0
IsUnchanged is_known history faults (Paged s) (Paged t) = IsSameStack is_known history faults s t
IsUnchanged is_known history faults (Paged s) (Copied seq count) = ⊥
IsUnchanged is_known history faults (Copied seq count) (Paged t) = ⊥
IsUnchanged is_known history faults (Copied seq count) (Copied seq_now count_now) = (seq ≡ seq_now) × (count ≡ count_now)

module _ {P : Type 0} (is_known : Bool) (history : P → History) (faults : P → ℕ) where
  pub unchanged_itself : (x : Base P) → IsUnchanged is_known history faults x x
  unchanged_itself (Paged s) = (((λ known. refl), le_refl (faults s.base.disk), refl, refl), refl)
  unchanged_itself (Copied seq count) = (refl, refl)

  pub unchanged_onward : (x y z : Base P) → IsUnchanged is_known history faults x y → IsUnchanged is_known history faults y z → IsUnchanged is_known history faults x z
  unchanged_onward (Paged s) (Paged t) (Paged u) a b = (((λ known. b.0.0 known ∙ a.0.0 known), le_trans a.0.1 b.0.1, b.0.2 ∙ a.0.2, b.0.3 ∙ a.0.3), a.1 ∙ b.1)
  unchanged_onward (Paged s) (Paged t) (Copied seq count) a b = absurd b
  unchanged_onward (Paged s) (Copied seq count) z a b = absurd a
  unchanged_onward (Copied seq count) (Paged t) z a b = absurd a
  unchanged_onward (Copied seq count) (Copied seq_now count_now) (Paged u) a b = absurd b
  unchanged_onward (Copied seq count) (Copied seq_now count_now) (Copied seq_then count_then) a b = (a.0 ∙ b.0, a.1 ∙ b.1)

  pub unchanged_contents : (x y : Base P) → IsUnchanged is_known history faults x y → contents_of is_known history y ≡ contents_of is_known history x
  unchanged_contents (Paged s) (Paged t) a = λ i. contents_after (ap (λ (l : Layered). l.changes) (sym a.1) i) (map_same is_known (history s.base.disk) (history t.base.disk) a.0.0 i)
  unchanged_contents (Paged s) (Copied seq count) a = absurd a
  unchanged_contents (Copied seq count) (Paged t) a = absurd a
  unchanged_contents (Copied seq count) (Copied seq_now count_now) a = ap Some (sym a.0)

  pub unchanged_count : (x y : Base P) → IsUnchanged is_known history faults x y → count_of faults x ≤ count_of faults y
  unchanged_count (Paged s) (Paged t) a = a.0.1
  unchanged_count (Paged s) (Copied seq count) a = absurd a
  unchanged_count (Copied seq count) (Paged t) a = absurd a
  unchanged_count (Copied seq count) (Copied seq_now count_now) a = le_of_eq a.1
