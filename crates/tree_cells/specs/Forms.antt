-- The form of a list of requests: each has its intentions before it (docs/PROFILE.md, "Resources and intentions").
use Rattle.std.specs.Prelude.{◌≡◌, Bool, true, false, ◌&&◌, if◌then◌else◌, List, [], ◌∷◌, ◌++◌, IsTrue}
use Rattle.std.specs.List.{AllByRecursion}
use Rattle.dewey_labels.specs.Labels.{Label, is_label}
use Rattle.lock_modes.specs.declared.ask.Ask.{Ask}
use Rattle.lock_resources.specs.declared.resource.Resource.{Resource}
use Rattle.lock_resources.specs.declared.resource.Resource.TheVariants.{Node, AttrRoot, Attr, Edge}
use Rattle.lock_resources.specs.declared.request.Request.{Request}
use Rattle.lock_resources.specs.Resources.{label_of, asks_node, fits}
use Rattle.lock_resources.specs.Intentions.{has_row, with_intentions}
use Rattle.tree_cells.specs.ModeParts.{is_exclusive, changes_child, changes_below}
use Rattle.tree_cells.specs.Places.{is_at, is_above, is_at_or_above, is_parent}
use Rattle.tree_cells.specs.Covers.{some_of}

-- ---- what a request needs before it

-- such a mode is held at a node, and at the attributes of one
abbrev pub at_node : Label → (Ask → Bool) → Resource → Ask → Bool
at_node l p (Node a) m = is_at a l && p m
at_node l p r m = false

abbrev pub at_attributes : Label → (Ask → Bool) → Resource → Ask → Bool
at_attributes l p (AttrRoot a) m = is_at a l && p m
at_attributes l p r m = false

-- an intention for what stands below: to change it, or any
abbrev pub is_intention : Bool → Ask → Bool
is_intention changes m = if changes then changes_below m else asks_node m

-- each node above the label is held with such a mode
abbrev pub HeldAbove : List Request → Label → (Ask → Bool) → Type 0
HeldAbove gs l p = (b : Label) → is_label b ≡ true → is_above b l ≡ true → some_of (at_node b p) gs ≡ true

-- and the node of the label itself
abbrev pub HeldDownTo : List Request → Label → (Ask → Bool) → Type 0
HeldDownTo gs l p = (b : Label) → is_label b ≡ true → is_at_or_above b l ≡ true → some_of (at_node b p) gs ≡ true

-- the nodes above a node; for SX its parent with a change of a child
pub record HasNodeIntentions (gs : List Request) (l : Label) (m : Ask) : Type 0 where
  pub above : HeldAbove gs l (is_intention (changes_below m))
  pub parent : is_exclusive m ≡ true → (b : Label) → is_label b ≡ true → is_parent b l ≡ true → some_of (at_node b changes_child) gs ≡ true

-- the nodes down to an attribute's; for SX all its attributes with a change of a child
pub record HasAttrIntentions (gs : List Request) (l : Label) (m : Ask) : Type 0 where
  pub above : HeldDownTo gs l (is_intention (is_exclusive m))
  pub attributes : is_exclusive m ≡ true → some_of (at_attributes l changes_child) gs ≡ true

-- the intentions that a request owes are held
abbrev pub HasIntentions : List Request → Resource → Ask → Type 0
HasIntentions gs (Node l) m = HasNodeIntentions gs l m
HasIntentions gs (AttrRoot l) m = HeldDownTo gs l asks_node
HasIntentions gs (Attr l n) m = HasAttrIntentions gs l m
HasIntentions gs (Edge l s) m = HeldDownTo gs l asks_node

-- ---- the form

-- a request behind those that stand before it: its label is one, its mode fits, its intentions are held
pub record IsFormed (before : List Request) (r : Resource) (a : Ask) : Type 0 where
  pub label : is_label (label_of r) ≡ true
  pub fits : IsTrue (fits r a)
  pub intentions : HasIntentions before r a

-- each request is formed behind those before it
abbrev pub FormedBehind : List Request → List Request → Type 0
FormedBehind before [] = Unit {0}
FormedBehind before (g ∷ gs) = IsFormed before g.resource g.ask × FormedBehind (before ++ g ∷ []) gs

-- a list in the form
abbrev pub HasForm : List Request → Type 0
HasForm gs = FormedBehind [] gs

-- ---- lists of the table's rows, which have it

-- a request that the table of resources has a row for, at a label
pub record IsRow (r : Request) : Type 0 where
  pub row : has_row r.resource r.ask ≡ true
  pub label : is_label (label_of r.resource) ≡ true

-- requests, each with its intentions before it
abbrev pub all_with_intentions : List Request → List Request
all_with_intentions [] = []
all_with_intentions (r ∷ rs) = with_intentions r.resource r.ask ++ all_with_intentions rs

-- a list of rows, each with its intentions before it
pub record AreRows (gs : List Request) : Type 0 where
  pub rows : List Request
  pub each : AllByRecursion IsRow rows
  pub whole : gs ≡ all_with_intentions rows
