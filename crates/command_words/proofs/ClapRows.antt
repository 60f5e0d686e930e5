-- What the rows of `clap` tell of the options and plain words, after one more use.
use Rattle.std.proofs.Common.{◌≡◌, ◌∙◌, Bool, cond, true, false, refl, sym, ap, List, [], ◌∷◌, ◌++◌, Some, None, true≢false, ◌||◌, append-nil}
use Rattle.std.specs.Prelude.{option_and_then, option_map, unwrap_or, slice_get}
use Rattle.std.specs.List.{find, list_any}
use Rattle.std.specs.Str.{bytes_eq}
use Rattle.std.proofs.lemmas.Slice.Eq.{bytes_eq-Decides}
use Rattle.clap.specs.Walk.{Row, Text, all_of, at_row, first_of, has_row, more_values, reading_by, used}
use Rattle.clap.specs.declared.parser.matches.ValueSource.TheVariants.{CommandLine}
use Rattle.command_words.specs.Arguments.{Word, Parts, is_given, text_of, with_plain}
use Rattle.command_words.specs.Arguments.{plain_id}
use Rattle.command_words.proofs.ClapRules.{plain_rule, option_rule}

-- the rows tell what was read
pub record Tells (rows : List Row) (r : Parts) : Type 0 where
  pub plain : unwrap_or (all_of plain_id rows) [] ≡ r.plain
  pub text : (n : Word) → bytes_eq plain_id n ≡ false → first_of n rows ≡ text_of n r
  pub given : (n : Word) → bytes_eq plain_id n ≡ false → has_row n rows ≡ is_given n r

-- ---- searches

find_end : {X : Type 0} (p : X → Bool) (xs : List X) (y : X) → find p (xs ++ y ∷ []) ≡ cond (list_any p xs) (find p xs) (cond (p y) (Some y) None)
find_end p [] y = refl
find_end p (x ∷ xs) y = go (p x) refl (find_end p xs y)
  where
    go : (b : Bool) → p x ≡ b → find p (xs ++ y ∷ []) ≡ cond (list_any p xs) (find p xs) (cond (p y) (Some y) None) → find p ((x ∷ xs) ++ y ∷ []) ≡ cond (list_any p (x ∷ xs)) (find p (x ∷ xs)) (cond (p y) (Some y) None)
    go true e rest = rw e refl
    go false e rest = rw e rest

any_end : {X : Type 0} (p : X → Bool) (xs : List X) (y : X) → list_any p (xs ++ y ∷ []) ≡ cond (list_any p xs) true (p y)
any_end p [] y = go (p y)
  where
    go : (b : Bool) → (b || false) ≡ b
    go true = refl
    go false = refl
any_end p (x ∷ xs) y = go (p x) refl (any_end p xs y)
  where
    go : (b : Bool) → p x ≡ b → list_any p (xs ++ y ∷ []) ≡ cond (list_any p xs) true (p y) → list_any p ((x ∷ xs) ++ y ∷ []) ≡ cond (list_any p (x ∷ xs)) true (p y)
    go true e rest = rw e refl
    go false e rest = rw e rest

-- ---- an option that wasn't given

missing : (id : Text) (change : Row → List Row) (new rows : List Row) → has_row id rows ≡ false → at_row id change new rows ≡ rows ++ new
missing id change new [] none = refl
missing id change new (x ∷ xs) none = go (bytes_eq x.id id) refl none (missing id change new xs)
  where
    go : (b : Bool) → bytes_eq x.id id ≡ b → has_row id (x ∷ xs) ≡ false → (has_row id xs ≡ false → at_row id change new xs ≡ xs ++ new)
        → at_row id change new (x ∷ xs) ≡ (x ∷ xs) ++ new
    go true e k rest = absurd (true≢false (rw e at k))
    go false e k rest = rw e (ap (λ more. x ∷ more) (rest (rw e at k)))

abbrev option_row : Word → Word → Row
option_row n v = record { id = n; values = v ∷ []; count = None; source = Some CommandLine; reading = reading_by (option_rule n) }

added : (n v : Word) (rows : List Row) → has_row n rows ≡ false → used (option_rule n) (v ∷ []) rows ≡ rows ++ option_row n v ∷ []
added n v rows none =
    let gone : at_row n (λ _. []) [] rows ≡ rows ++ [] = missing n (λ _. []) [] rows none in
    ap (λ rs. at_row n (more_values CommandLine (v ∷ [])) (option_row n v ∷ []) rs) (gone ∙ append-nil rows)
    ∙ missing n (more_values CommandLine (v ∷ [])) (option_row n v ∷ []) rows none

plain_other : (n : Word) (rows : List Row) (y : Row) → bytes_eq y.id plain_id ≡ false → all_of plain_id (rows ++ y ∷ []) ≡ all_of plain_id rows
plain_other n [] y other = rw other refl
plain_other n (x ∷ xs) y other = go (bytes_eq x.id plain_id) refl (plain_other n xs y other)
  where
    go : (b : Bool) → bytes_eq x.id plain_id ≡ b → all_of plain_id (xs ++ y ∷ []) ≡ all_of plain_id xs
        → all_of plain_id ((x ∷ xs) ++ y ∷ []) ≡ all_of plain_id (x ∷ xs)
    go true e rest = rw e refl
    go false e rest = rw e rest

-- one more option
pub tells_option : (rows : List Row) (r : Parts) (n v : Word) → bytes_eq n plain_id ≡ false → bytes_eq plain_id n ≡ false → is_given n r ≡ false → Tells rows r
    → Tells (used (option_rule n) (v ∷ []) rows) (record r { given = r.given ++ (n, v) ∷ [] })
tells_option rows r n v other other_way new t =
    let none : has_row n rows ≡ false = t.given n other_way ∙ new in
    rw (added n v rows none) (record {
      plain = ap (λ o. unwrap_or o []) (plain_other n rows (option_row n v) other) ∙ t.plain;
      text = λ m apart.
          ap (option_and_then (λ (x : Row). slice_get x.values 0)) (find_end (λ (x : Row). bytes_eq x.id m) rows (option_row n v))
          ∙ text m (has_row m rows) (is_given m r) (bytes_eq n m) (t.given m apart) (t.text m apart)
          ∙ sym (ap (option_map (λ (g : Word × Word). g.1)) (find_end (λ (g : Word × Word). bytes_eq g.0 m) r.given (n, v)));
      given = λ m apart.
          any_end (λ (x : Row). bytes_eq x.id m) rows (option_row n v)
          ∙ ap (λ b. cond b true (bytes_eq n m)) (t.given m apart)
          ∙ sym (any_end (λ (g : Word × Word). bytes_eq g.0 m) r.given (n, v));
    })
  where
    text : (m : Word) (a b same : Bool) → a ≡ b → first_of m rows ≡ text_of m r
        → option_and_then (λ (x : Row). slice_get x.values 0) (cond a (find (λ (x : Row). bytes_eq x.id m) rows) (cond same (Some (option_row n v)) None))
        ≡ option_map (λ (g : Word × Word). g.1) (cond b (find (λ (g : Word × Word). bytes_eq g.0 m) r.given) (cond same (Some (n, v)) None))
    text m true true same e old = old
    text m false false true e old = refl
    text m false false false e old = refl
    text m true false same e old = absurd (true≢false e)
    text m false true same e old = absurd (true≢false (sym e))

-- ---- one more plain word

abbrev plain_row : Word → Row
plain_row v = record { id = plain_id; values = v ∷ []; count = None; source = Some CommandLine; reading = reading_by plain_rule }

abbrev with_more : Word → List Row → List Row
with_more v rows = at_row plain_id (more_values CommandLine (v ∷ [])) (plain_row v ∷ []) rows

-- a row of the plain words has no other id
apart_from : (x m : Text) → bytes_eq x plain_id ≡ true → bytes_eq plain_id m ≡ false → bytes_eq x m ≡ false
apart_from x m e apart = ap (λ y. bytes_eq y m) ((bytes_eq-Decides x plain_id).0 e) ∙ apart

more_text : (v : Word) (rows : List Row) (m : Word) → bytes_eq plain_id m ≡ false → first_of m (with_more v rows) ≡ first_of m rows
more_text v [] m apart = rw apart refl
more_text v (x ∷ xs) m apart = go (bytes_eq x.id plain_id) refl (more_text v xs m apart)
  where
    skip : (b : Bool) → bytes_eq x.id m ≡ b → bytes_eq x.id plain_id ≡ false → first_of m (with_more v xs) ≡ first_of m xs
        → first_of m (with_more v (x ∷ xs)) ≡ first_of m (x ∷ xs)
    skip true e h rest = rw (h, e) refl
    skip false e h rest = rw (h, e) rest

    go : (b : Bool) → bytes_eq x.id plain_id ≡ b → first_of m (with_more v xs) ≡ first_of m xs → first_of m (with_more v (x ∷ xs)) ≡ first_of m (x ∷ xs)
    go true e rest = rw (e, apart_from x.id m e apart) refl
    go false e rest = skip (bytes_eq x.id m) refl e rest

more_given : (v : Word) (rows : List Row) (m : Word) → bytes_eq plain_id m ≡ false → has_row m (with_more v rows) ≡ has_row m rows
more_given v [] m apart = rw apart refl
more_given v (x ∷ xs) m apart = go (bytes_eq x.id plain_id) refl (more_given v xs m apart)
  where
    go : (b : Bool) → bytes_eq x.id plain_id ≡ b → has_row m (with_more v xs) ≡ has_row m xs → has_row m (with_more v (x ∷ xs)) ≡ has_row m (x ∷ xs)
    go true e rest = rw (e, apart_from x.id m e apart) refl
    go false e rest = rw e (ap (λ b. bytes_eq x.id m || b) rest)

more_plain : (v : Word) (rows : List Row) → unwrap_or (all_of plain_id (with_more v rows)) [] ≡ unwrap_or (all_of plain_id rows) [] ++ v ∷ []
more_plain v [] = refl
more_plain v (x ∷ xs) = go (bytes_eq x.id plain_id) refl (more_plain v xs)
  where
    go : (b : Bool) → bytes_eq x.id plain_id ≡ b → unwrap_or (all_of plain_id (with_more v xs)) [] ≡ unwrap_or (all_of plain_id xs) [] ++ v ∷ []
        → unwrap_or (all_of plain_id (with_more v (x ∷ xs))) [] ≡ unwrap_or (all_of plain_id (x ∷ xs)) [] ++ v ∷ []
    go true e rest = rw e (rw e refl)
    go false e rest = rw e (rw e rest)

pub tells_plain : (rows : List Row) (r : Parts) (v : Word) → Tells rows r → Tells (used plain_rule (v ∷ []) rows) (with_plain (v ∷ []) r)
tells_plain rows r v t = record {
  plain = more_plain v rows ∙ ap (λ xs. xs ++ v ∷ []) t.plain;
  text = λ m apart. more_text v rows m apart ∙ t.text m apart;
  given = λ m apart. more_given v rows m apart ∙ t.given m apart;
}
