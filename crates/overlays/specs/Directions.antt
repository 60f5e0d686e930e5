-- The order of keys upwards and downwards.
use Rattle.std.specs.Prelude.{◌≡◌}
use Rattle.std.specs.declared.cmp.Ordering.{Ordering}
use Rattle.std.specs.declared.cmp.Ordering.TheVariants.{Less}
use Rattle.tree_model.specs.declared.key.Key.{Key}
use Rattle.tree_model.specs.Keys.{key_cmp}
use Rattle.overlays.specs.declared.direction.Direction.{Direction}
use Rattle.overlays.specs.declared.direction.Direction.TheVariants.{Up, Down}

-- the order of keys, or the same turned round
abbrev pub cmp_toward : Direction → Key → Key → Ordering
cmp_toward Up a b = key_cmp a b
cmp_toward Down a b = key_cmp b a

-- the second key lies ahead of the first
abbrev pub Ahead : Direction → Key → Key → Type 0
Ahead d a b = cmp_toward d a b ≡ Less
