-- Entries that are put or deleted, as changes.
use Rattle.std.proofs.Common.{◌≡◌, [], ◌∷◌, map, None, refl}
use Rattle.tree_model.proofs.Entries.{del_all}
use Rattle.tree_model.specs.Changes.{put_change, drop_change}
use Rattle.tree_model.specs.Entries.{Entries, put, set, changed, put_all}

-- such changes are puts
pub changed_puts : (xs es : Entries) → changed (map put_change xs) es ≡ put_all xs es
changed_puts [] es = refl
changed_puts (x ∷ xs) es = changed_puts xs (put x es)

-- and those of deleted entries are deletes
pub changed_drops : (xs es : Entries) → changed (map drop_change xs) es ≡ del_all xs es
changed_drops [] es = refl
changed_drops (x ∷ xs) es = changed_drops xs (set x.0 None es)
