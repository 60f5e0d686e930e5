-- The ancestors of a label from the root down (docs/PROFILE.md, "Labels").
use Rattle.std.specs.Prelude.{◌≡◌, ℕ, zero, suc, List, [], ◌∷◌, IsTrue}
use Rattle.dewey_labels.specs.Labels.{Label, root, level, cut, is_child}

-- what is left of a label where n of its last codes are cut off, then one less, down to one
abbrev pub cuts : ℕ → Label → List Label
cuts zero l = []
cuts (suc n) l = cut (suc n) l ∷ cuts n l

-- the labels of the proper ancestors, from the root down: all its codes are cut off, then all but one, down to the last
abbrev pub ancestors : Label → List Label
ancestors l = cuts (level l) l

-- each of the labels is that of a child of the one before it, the first one of a child of p
abbrev pub Descends : Label → List Label → Type 0
Descends p [] = Unit {0}
Descends p (l ∷ ls) = IsTrue (is_child p l) × Descends l ls

-- a way down: from the root, each label being that of a child of the one before it, so each is there once
abbrev pub IsWayDown : List Label → Type 0
IsWayDown [] = ⊥
IsWayDown (l ∷ ls) = (l ≡ root) × Descends l ls
