-- How far a label's text was read: the divisions that a point ended, and the number that was begun behind them.
use Rattle.std.specs.Prelude.{◌≡◌, ℕ, zero, suc, ◌+◌, ◌*◌, ◌≤◌, ◌<◌, Bool, true, cond, ◌&&◌, ◌||◌, List, [], ◌∷◌, ◌++◌, length, ◌==◌, nat_le, nat_lt, not, IsTrue}
use Rattle.std.specs.List.{AllByRecursion, list_all}
use Rattle.std.specs.Fmt.{decimal}
use Rattle.dewey_labels.specs.Labels.{greatest, most_divisions, is_odd}

-- divisions with a point behind each
abbrev pub ended_text : List ℕ → List ℕ
ended_text [] = []
ended_text (d ∷ ds) = decimal d ++ (46 ∷ ended_text ds)

-- the digits of a number that was begun; 0 was not, since no division begins with it
abbrev pub begun_text : ℕ → List ℕ
begun_text n = cond (n == 0) [] (decimal n)

abbrev pub text_so_far : List ℕ → ℕ → List ℕ
text_so_far ds n = ended_text ds ++ begun_text n

-- divisions that labels begin with
abbrev pub begin_label : List ℕ → Bool
begin_label [] = true
begin_label (d ∷ ds) = (d == 1) && list_all (nat_le 2) ds

-- the digits of n begin an odd division: it is one, or one more digit makes it one
abbrev pub begins_odd : ℕ → Bool
begins_odd n = is_odd n || nat_lt (n * 10) greatest

-- the digits of n begin a division behind so many divisions of a label
abbrev pub begins_division : ℕ → ℕ → Bool
begins_division zero n = n == 1
begins_division (suc k) n = nat_lt 0 n && (nat_le n greatest && (not (k + 2 == most_divisions) || begins_odd n))

-- a point may follow n, as a division behind so many divisions of a label
abbrev pub ends_division : ℕ → ℕ → Bool
ends_division zero n = n == 1
ends_division (suc k) n = nat_le 2 n && nat_lt (k + 2) most_divisions

-- a label's text may go on behind ds and n
pub record CanGoOn (ds : List ℕ) (n : ℕ) : Type 0 where
  pub ended : IsTrue (begin_label ds)
  pub small : AllByRecursion (λ d. d ≤ greatest) ds
  pub room : length ds < most_divisions
  pub number : (n ≡ 0 → ⊥) → IsTrue (begins_division (length ds) n)
