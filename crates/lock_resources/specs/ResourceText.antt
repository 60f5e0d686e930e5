-- The texts of resources (docs/PROFILE.md, "Resources and intentions").
use Rattle.std.specs.Prelude.{ℕ, List, [], ◌∷◌, ◌++◌, codes}
use Rattle.dewey_labels.specs.LabelText.{label_text}
use Rattle.lock_resources.specs.declared.resource.Resource.{Resource}
use Rattle.lock_resources.specs.declared.resource.Resource.TheVariants.{Node, AttrRoot, Attr, Edge}
use Rattle.lock_resources.specs.declared.resource.Side.{Side}
use Rattle.lock_resources.specs.declared.resource.Side.TheVariants.{First, Last, Next, Prev}

-- the word for a side, and a space
abbrev pub side_word : Side → List ℕ
side_word First = codes "first "
side_word Last = codes "last "
side_word Next = codes "next "
side_word Prev = codes "prev "

-- a word for the kind of resource and the label's text; the attributes of a node are named by its divisions with 1 behind them
abbrev pub resource_text : Resource → List ℕ
resource_text (Node l) = codes "node " ++ label_text l
resource_text (AttrRoot l) = codes "attrs " ++ label_text (l ++ 1 ∷ [])
resource_text (Attr l name) = codes "attr " ++ (label_text l ++ (codes " " ++ name))
resource_text (Edge l side) = side_word side ++ label_text l
