-- The rule of the table, and what each step tells.
-- Word 0 says whether the turn is taken, word 1 how long the list was when it was last marked, and the slot has the value.
-- Words 2 and 3 count the threads that sleep on words 0 and 1, and word 4 those that look for the turn. The rule says nothing of them.
use Rattle.std.specs.Prelude.{◌≡◌, ◌≢◌, ℕ, ◌<◌, ◌≤◌, Bool, true, false, List, [], ◌∷◌, length, slice_index, slice_set, Option, Some, None}
use mathlib.Core.Option.{some}
use lib.ListN.{get_elem?}
use Rattle.atomic_table.specs.Table.{State, Me, Step, rest}
use Rattle.turn_lock.specs.declared.rule.Known.{Known}
use Rattle.turn_lock.specs.Turns.{has_number, HasSome, merged, no_numbers, only_number, longer, GoesOn}

module _ {E : Type 0} (number : E → Option ℕ) (list : List E) (owner : ℕ → ℕ) (holder taken : ℕ) where
  -- what is true of the pass j, which knows v
  pub record Knows (j : ℕ) (v : Known E) : Type 0 where
    pub goes_on : GoesOn number v.has v.seen list
    pub owns : (n : ℕ) → has_number v.has n ≡ true → (n < 65) × (owner n ≡ j)
    pub holds : v.turn ≡ true → (j ≡ holder) × (taken ≡ 1) × (v.seen ≡ list) × HasSome v.has
    pub went_on : GoesOn number v.had v.before v.seen

pub record Kept {V E : Type 0} (entries : V → List E) (number : E → Option ℕ) (s : State (Option V) (Known E)) : Type 0 where
  pub list : List E
  pub owner : ℕ → ℕ
  pub holder : ℕ
  pub five : length s.words ≡ 5
  pub counted : slice_index s.words 1 ≡ length list
  pub is_bit : slice_index s.words 0 ≤ 1
  pub home : slice_index s.words 0 ≡ 0 → (x : V) × (s.homes ≡ some (Some x) ∷ []) × (entries x ≡ list)
  pub out : slice_index s.words 0 ≡ 1 → (v : Known E) × (get_elem? s.views holder ≡ some v) × (v.turn ≡ true)
  pub each : (j : ℕ) (v : Known E) → get_elem? s.views j ≡ some v → Knows number list owner holder (slice_index s.words 0) j v
  pub all : (n : ℕ) → n < 65 → (v : Known E) × (get_elem? s.views (owner n) ≡ some v) × (has_number v.has n ≡ true)

module _ {E : Type 0} where
  -- no join is remembered
  abbrev pub known : List E → List Bool → Bool → ℕ → Known E
  known seen has turn picked = record { seen = seen; has = has; turn = turn; picked = picked; before = seen; had = has }

  -- the first pass, of a value with these entries
  abbrev pub founder : List Bool → List E → Known E
  founder has seen = known seen has false 0

  abbrev pub with_turn : List E → Known E → Known E
  with_turn list v = known list v.has true v.picked

  abbrev pub with_seen : List E → Known E → Known E
  with_seen list v = known list v.has v.turn v.picked

  abbrev pub without_turn : Known E → Known E
  without_turn v = known v.seen v.has false v.picked

  abbrev pub with_picked : ℕ → Known E → Known E
  with_picked n v = known v.seen v.has v.turn n

  abbrev pub left_over : Known E → Known E
  left_over v = known v.seen (slice_set v.has v.picked false) v.turn v.picked

  abbrev pub cut_off : Known E → Known E
  cut_off v = known v.seen (only_number v.picked) false 0

  abbrev pub echo : Known E → Known E
  echo v = known v.seen no_numbers false 0

  -- where both lists are as long the other's is taken
  abbrev pub joined : Known E → Known E → Known E
  joined v w = record { seen = longer w.seen v.seen; has = merged v.has w.has; turn = v.turn; picked = v.picked; before = v.seen; had = v.has }

  abbrev pub went_back : Known E → Known E
  went_back v = known v.before v.had v.turn v.picked

  -- the numbers of a pass are those that it is known to have, at least one, and it has the slot in hand exactly where it holds the turn
  abbrev pub IsPass : {V : Type 0} → List Bool → Me (Option V) (Known E) → Type 0
  IsPass numbers m = ((n : ℕ) → has_number numbers n ≡ has_number m.0.has n) × (length m.0.has ≡ 65) × HasSome m.0.has
      × (m.0.turn ≡ false → m.1 ≡ []) × (m.0.turn ≡ true → m.1 ≡ (0, None) ∷ [])

  abbrev pub spent : Known E
  spent = known [] no_numbers false 0

module _ {V E : Type 0} (entries : V → List E) (number : E → Option ℕ) where
  abbrev Sat : Type 0
  Sat = Me (Option V) (Known E)

  abbrev At : Type 0
  At = Step (Option V)

  -- it had the turn given, or it wasn't free and nothing changed
  abbrev pub took : At → Sat → ℕ → Sat → Type 0
  took st m found m' =
      (found ≡ 0 → (x : V) × (m' ≡ (with_turn (entries x) m.0, (0, Some x) ∷ m.1)) × (m.0.turn ≡ false) × GoesOn number m.0.has m.0.seen (entries x))
      × (found ≢ 0 → m' ≡ m)

  abbrev pub idles : At → Sat → ℕ → Sat → Type 0
  idles st m found m' = m' ≡ m

  -- the list is that of the value which the step announced
  abbrev pub marked : At → Sat → ℕ → Sat → Type 0
  marked st m found m' = (x : V) → st.said ≡ some (Some x) → m' ≡ (with_seen (entries x) m.0, m.1)

  abbrev pub freed : At → Sat → ℕ → Sat → Type 0
  freed st m found m' = m' ≡ (without_turn m.0, rest m.1)

  abbrev pub picks : At → Sat → ℕ → Sat → Type 0
  picks st m found m' = m' ≡ (with_picked st.first m.0, m.1)

  -- what was seen goes on from what had been seen before the last join
  abbrev pub recalled : At → Sat → ℕ → Sat → Type 0
  recalled st m found m' = (m' ≡ m) × GoesOn number m.0.had m.0.before m.0.seen

  -- the same, and the pass has seen again what it had
  abbrev pub returned : At → Sat → ℕ → Sat → Type 0
  returned st m found m' = (m' ≡ (went_back m.0, m.1)) × GoesOn number m.0.had m.0.before m.0.seen
