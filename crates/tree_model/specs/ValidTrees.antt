-- Valid trees (docs/PROFILE.md, "The tree").
use Rattle.std.specs.Prelude.{◌≡◌, ℕ, suc, ◌≤◌, Bool, true, false, cond, ◌||◌, List, [], ◌∷◌, IsTrue, Option, Some, None}
use Rattle.std.specs.declared.cmp.Ordering.TheVariants.{Less}
use Rattle.std.specs.List.{AllByRecursion}
use Rattle.std.specs.Ordering.{nat_cmp, is_eq}
use Rattle.std.specs.Cmp.Lexicographic.{slice_cmp}
use Rattle.dewey_labels.specs.Labels.{Label, root, is_child, level, Within}
use Rattle.tree_model.specs.declared.record.Record.{Record}
use Rattle.tree_model.specs.declared.record.Record.TheVariants.{Document, Element, Text}
use Rattle.tree_model.specs.Limits.{deepest_level}
use Rattle.tree_model.specs.Names.{Name, is_name}
use Rattle.tree_model.specs.Records.{is_data, record_fits}
use Rattle.tree_model.specs.Tree.{Attributes, Forest, none, node, Catalogue, Tree, labels}

-- ---- keys

-- the names are Names and rise by bytes, all behind lo
abbrev pub NamesRise : {A : Type 0} → Name → List (Name × A) → Type 0
NamesRise lo [] = Unit {0}
NamesRise lo (a ∷ ats) = (slice_cmp nat_cmp lo a.0 ≡ Less) × IsTrue (is_name a.0) × NamesRise a.0 ats

-- each label is a child's of the node above, which is p for the first row, and keeps the limits on divisions;
-- siblings rise, the first row behind the label b; the names of each node's attributes rise
abbrev pub KeysRise : Label → Label → Forest → Type 0
KeysRise p b none = Unit {0}
KeysRise p b (node l r ats ch nx) =
    IsTrue (is_child p l) × (slice_cmp nat_cmp b l ≡ Less) × Within l × NamesRise [] ats × KeysRise l l ch × KeysRise p l nx

-- ---- kinds

-- a node with this record may stand below one with that record; below the root, where there is none
abbrev pub may_stand : Option Record → Record → Bool
may_stand None Document = true
may_stand (Some Document) (Element n) = true
may_stand (Some (Element m)) (Element n) = true
may_stand (Some (Element m)) (Text t) = true
may_stand p r = false

-- further siblings may stand behind a node: below a document it is the only one
abbrev pub may_follow : Option Record → Forest → Bool
may_follow (Some Document) (node l r ats ch nx) = false
may_follow p nx = true

-- a node with this record may have these attributes: an element any, others none
abbrev pub may_have : Record → Attributes → Bool
may_have (Element n) ats = true
may_have r [] = true
may_have r (a ∷ ats) = false

-- every node stands where its kind may, p being the record of the forest's parent
abbrev pub KindsAllowed : Option Record → Forest → Type 0
KindsAllowed p none = Unit {0}
KindsAllowed p (node l r ats ch nx) =
    IsTrue (may_stand p r) × IsTrue (may_follow p nx) × IsTrue (may_have r ats) × KindsAllowed (Some r) ch × KindsAllowed p nx

-- ---- limits

-- ---- limits

-- every value is one that may stand
abbrev pub ValuesFit : Attributes → Type 0
ValuesFit ats = AllByRecursion (λ a. IsTrue (is_data a.1)) ats

-- every node keeps the limits on levels, and has a Name, data and values that may stand
abbrev pub LimitsKept : Forest → Type 0
LimitsKept none = Unit {0}
LimitsKept (node l r ats ch nx) = (level l ≤ deepest_level) × IsTrue (record_fits r) × ValuesFit ats × LimitsKept ch × LimitsKept nx

-- ---- the catalogue

-- whether two labels are one
abbrev pub same_label : Label → Label → Bool
same_label l m = is_eq (slice_cmp nat_cmp l m)

-- in how many entries the label stands
abbrev pub entries_with : Label → Catalogue → ℕ
entries_with l [] = 0
entries_with l (c ∷ cat) = cond (same_label l c.1) (suc (entries_with l cat)) (entries_with l cat)

-- whether a label stands in a list
abbrev pub is_among : Label → List Label → Bool
is_among l [] = false
is_among l (m ∷ ls) = same_label l m || is_among l ls

-- names rise; each document's label stands in exactly one entry, and each entry's label is a document's
pub record IsCatalogueOf (documents : List Label) (cat : Catalogue) : Type 0 where
  pub names : NamesRise [] cat
  pub each_document : AllByRecursion (λ l. entries_with l cat ≡ 1) documents
  pub each_entry : AllByRecursion (λ c. IsTrue (is_among c.1 documents)) cat

-- ---- the tree

-- a valid tree
pub record IsValidTree (t : Tree) : Type 0 where
  pub keys : KeysRise root root t.documents
  pub kinds : KindsAllowed None t.documents
  pub limits : LimitsKept t.documents
  pub catalogue : IsCatalogueOf (labels t.documents) t.catalogue
