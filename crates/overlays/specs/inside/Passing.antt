-- How a walk passes over what is gone.
use Rattle.std.specs.Prelude.{not, ◌≡◌, ◌⊎◌, ◌≤◌, ◌+◌, ℕ, Bool, true, false, ◌&&◌, cond, List, [], ◌∷◌, Option, Some, None, IfSome, option_map, unwrap_or}
use Rattle.std.specs.Ordering.{is_lt, is_le}
use Rattle.tree_model.specs.Keys.{key_cmp}
use Rattle.tree_model.specs.Changes.{now_at, seen}
use Rattle.tree_model.specs.Entries.{Entries, get}
use Rattle.tree_model.specs.declared.change.Change.{Change}
use Rattle.tree_model.specs.declared.key.Key.{Key}
use Rattle.tree_model.specs.declared.record.Record.{Record}
use Rattle.overlays.specs.declared.direction.Direction.{Direction}
use Rattle.overlays.specs.declared.direction.Direction.TheVariants.{Up, Down}
use Rattle.overlays.specs.declared.gaps.Stretch.{Stretch}
use Rattle.overlays.specs.Directions.{cmp_toward, Ahead}
use Rattle.overlays.specs.Stretches.{is_covered}
use Rattle.overlays.specs.Steps.{end_toward}
use Rattle.overlays.specs.inside.Nearest.{IsNearest, IsNearestChange, entry_beside, comes_before, key_before}

-- whether two stretches have a key in common
abbrev pub meets : Stretch → Stretch → Bool
meets a b = is_le (key_cmp a.first b.last) && is_le (key_cmp b.first a.last)

-- the end of a stretch that lies behind
abbrev pub start_toward : Direction → Stretch → Key
start_toward Up s = s.first
start_toward Down s = s.last

-- from the key to the other one there are only keys of the stretches, what lies ahead of this lies ahead of the key, and what lies before the key lies before it
pub record Skips (w : Direction) (k : Key) (ss : List Stretch) (r : Key) : Type 0 where
  pub covered : (j : Key) → Ahead w k j → is_lt (cmp_toward w r j) ≡ false → is_covered ss j ≡ true
  pub beyond : (j : Key) → Ahead w r j → Ahead w k j
  pub before : (j : Key) → Ahead w j k → Ahead w j r

-- the key of a change that leaves nothing there
abbrev pub gone_key : Change → Option Record → Option Key
gone_key c None = Some c.key
gone_key c (Some r) = None

-- the key that comes first where that is one of a deletion
abbrev pub first_gone : Direction → Option (Key × Record) → Option Change → Option Key
first_gone w o None = None
first_gone w o (Some c) = cond (comes_before w o c.key) None (gone_key c c.now)

-- the key that a walk comes to next, where that is one of a deletion
abbrev pub gone_beside : Direction → Key → Option Change → Entries → Option Key
gone_beside w k change es = first_gone w (entry_beside w k es) change

-- what a change puts
abbrev pub entry_put : Change → Option Record → Option (Key × Record)
entry_put c None = None
entry_put c (Some r) = Some (c.key, r)

-- what comes first where that is no deletion
abbrev pub first_seen : Direction → Option (Key × Record) → Option Change → Option (Key × Record)
first_seen w o None = o
first_seen w o (Some c) = cond (comes_before w o c.key) o (entry_put c c.now)

-- its key alone
abbrev pub key_put : Change → Option Record → Option Key
key_put c None = None
key_put c (Some r) = Some c.key

abbrev pub first_key_seen : Direction → Option Key → Option Change → Option Key
first_key_seen w o None = o
first_key_seen w o (Some c) = cond (key_before w o c.key) o (key_put c c.now)

-- the stretch goes from the first key passed, if there is one, to this one
abbrev pub Spans : Direction → Option Key → Key → Stretch → Type 0
Spans w None at s = ⊥
Spans w (Some near) at s = (start_toward w s ≡ near) × (end_toward w s ≡ at)

-- the stretches and one more, if there is one
abbrev pub with_piece : Option Stretch → List Stretch → List Stretch
with_piece None ss = ss
with_piece (Some s) ss = s ∷ ss

-- the key is the end, in this direction, of one of the stretches
abbrev pub IsEndOf : Direction → Key → List Stretch → Type 0
IsEndOf w r [] = ⊥
IsEndOf w r (s ∷ ss) = (end_toward w s ≡ r) ⊎ IsEndOf w r ss

-- the key of a change that is a deletion
abbrev pub key_gone : Option Change → Option Key
key_gone None = None
key_gone (Some c) = gone_key c c.now

-- whether a key lies at the first key passed, if there is one, or ahead of it
abbrev pub is_past : Direction → Option Key → Key → Bool
is_past w None j = false
is_past w (Some near) j = not (is_lt (cmp_toward w j near))

-- behind the key comes no deletion before what the map has there
abbrev pub IsSettled : Direction → Key → List Change → Entries → Type 0
IsSettled w k cs es = (c : Option Change) → IsNearestChange w k cs c → gone_beside w k c es ≡ None

-- of any changes of which this one is the nearest ahead, over a known map, where no deletion comes first
abbrev pub IfSettled : Direction → Key → Option Change → Option Entries → (List Change → Entries → Type 0) → Type 0
IfSettled w k change contents fact =
    (cs : List Change) (es : Entries) → IsNearestChange w k cs change → contents ≡ Some es → IsSettled w k cs es → fact cs es

-- a walk from the key over a map with changes has come to another one: it passed nothing that is seen, and no deletion comes next
pub record HasCome (w : Direction) (k : Key) (cs : List Change) (contents : Option Entries) (r : Key) : Type 0 where
  pub beyond : (j : Key) → Ahead w r j → Ahead w k j
  pub goes_on : (es : Entries) → contents ≡ Some es → (o : Option (Key × Record)) → IsNearest w r (λ j. seen (now_at j cs) (get j es)) o → IsNearest w k (λ j. seen (now_at j cs) (get j es)) o
  pub settled : (es : Entries) → contents ≡ Some es → IsSettled w r cs es

-- the deletions from a key to the one that a walk has come to lie in the new stretches, where they lay in none before
abbrev pub AllCovered : Direction → Key → Key → List Change → List Stretch → List Stretch → Type 0
AllCovered w k r cs ss new = (j : Key) → Ahead w k j → is_lt (cmp_toward w r j) ≡ false → now_at j cs ≡ Some None → is_covered ss j ≡ false → is_covered new j ≡ true

-- a walk to this place asked the map below five times at most, or the deletions on its way that lay in none of the stretches lie in the new ones
abbrev pub HasCovered : {B : Type 0} → (B → ℕ) → B → B → Direction → Key → Option Key → List Change → List Stretch → List Stretch → Type 0
HasCovered reads base after w k at cs ss new = (reads after ≤ reads base + 5) ⊎ AllCovered w k (unwrap_or at k) cs ss new

-- behind the key, and before what was found, is no deletion
abbrev pub NoneGone : Direction → Key → Option Key → List Change → Type 0
NoneGone w k found cs = (j : Key) → Ahead w k j → IfSome found (Ahead w j) → now_at j cs ≡ Some None → ⊥

-- what was found is what is seen ahead of the key, and before it is no deletion
pub record Sees (w : Direction) (k : Key) (cs : List Change) (es : Entries) (found : Option (Key × Record)) : Type 0 where
  pub nearest : IsNearest w k (λ j. seen (now_at j cs) (get j es)) found
  pub none_gone : NoneGone w k (option_map (λ e. e.0) found) cs

-- so it is of the key alone
pub record SeesKey (w : Direction) (k : Key) (cs : List Change) (es : Entries) (found : Option Key) : Type 0 where
  pub nearest : (o : Option (Key × Record)) → IsNearest w k (λ j. seen (now_at j cs) (get j es)) o → found ≡ option_map (λ e. e.0) o
  pub none_gone : NoneGone w k found cs
