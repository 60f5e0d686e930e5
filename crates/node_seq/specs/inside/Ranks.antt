-- Numbers that rise along the order of labels and of valid keys: how many steps a walk over a map that isn't known may still take.
use Rattle.std.specs.Prelude.{ℕ, zero, suc, ◌+◌, ◌-◌, ◌*◌, ◌^◌, List, [], ◌∷◌}
use Rattle.dewey_labels.specs.Labels.{Label, greatest, most_divisions}
use Rattle.tree_model.specs.declared.key.Key.{Key}
use Rattle.tree_model.specs.Limits.{most_name_bytes}
use Rattle.tree_model.specs.Names.{Name}

-- the list as a number to the base b, with n digits, an absent digit below each that is there
abbrev pub rank : ℕ → ℕ → List ℕ → ℕ
rank b zero xs = 0
rank b (suc n) [] = 0
rank b (suc n) (x ∷ xs) = (x + 1) * b ^ n + rank b n xs

unfoldable pub label_bound : ℕ
label_bound = (greatest + 2) ^ most_divisions

unfoldable pub label_rank : Label → ℕ
label_rank l = rank (greatest + 2) most_divisions l

-- how far a label is from the end of all labels
unfoldable pub labels_left : Label → ℕ
labels_left l = label_bound - label_rank l

unfoldable pub name_bound : ℕ
name_bound = 258 ^ most_name_bytes

unfoldable pub name_rank : Name → ℕ
name_rank n = rank 258 most_name_bytes n

unfoldable pub key_rank : Key → ℕ
key_rank k = label_rank k.label * name_bound + name_rank k.name

unfoldable pub key_bound : ℕ
key_bound = label_bound * name_bound

-- how far a key is from the end of all keys, and from their beginning
unfoldable pub keys_left : Key → ℕ
keys_left k = key_bound - key_rank k

unfoldable pub keys_before : Key → ℕ
keys_before k = key_rank k + 1
