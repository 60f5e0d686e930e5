-- JsonML: the fragment that a JSON value is, or the first rule that it breaks (docs/PROFILE.md, "JsonML").
-- A value is seen as `serde_json` sees it: an object has each name once, in the order of the names' bytes.
use Rattle.std.specs.Prelude.{◌≡◌, ◌≢◌, ℕ, ◌+◌, ◌-◌, ◌==◌, if◌then◌else◌, true, false, List, [], ◌∷◌, ◌++◌, codes, Option, Some, None, Result, Ok, Err}
use Rattle.std.specs.Str.{is_utf8}
use Rattle.std.specs.Fmt.{decimal, signed_decimal}
use Rattle.serde_json.specs.Data.{Num, unsigned, negative, float, Data, null, boolean, number, string, array, object, Items, no_items, item, Members, no_members, member}
use Rattle.serde_json.specs.Read.{read}
use Rattle.tree_model.specs.Limits.{is_too_long}
use Rattle.tree_model.specs.Names.{Name, is_name}
use Rattle.tree_model.specs.Tree.{Attributes}
use Rattle.tree_model.specs.declared.fragment.Fragment.{Fragment}
use Rattle.tree_model.specs.declared.fragment.Fragment.TheVariants.{Element, Text}
use Rattle.jsonml_io.specs.Pointers.{step_to_member, step_to_item}
use Rattle.jsonml_io.specs.declared.fragment_error.FragmentError.{FragmentError}
use Rattle.jsonml_io.specs.declared.fragment_error.FragmentError.TheVariants.{NotJson, NotJsonMl, Fraction, BadName, TooDeep, TextLimit, NoMemory}

-- the deepest that arrays may nest
abbrev pub most_depth : ℕ
most_depth = 100

-- ---- what is read, or the refusal that comes first

-- what comes next, unless this is refused
infixl 10 ◌>>=◌
abbrev pub ◌>>=◌ : {A B : Type 0} → Result A FragmentError → (A → Result B FragmentError) → Result B FragmentError
(Ok x) >>= f = f x
(Err e) >>= f = Err e

-- a refusal as it is seen from one level above
abbrev pub seen_from_above : List ℕ → FragmentError → FragmentError
seen_from_above step NotJson = NotJson
seen_from_above step (NotJsonMl path) = NotJsonMl (step ++ path)
seen_from_above step (Fraction path) = Fraction (step ++ path)
seen_from_above step (BadName path) = BadName (step ++ path)
seen_from_above step (TooDeep path) = TooDeep (step ++ path)
seen_from_above step (TextLimit path) = TextLimit (step ++ path)
seen_from_above step NoMemory = NoMemory

abbrev pub refusal_name : FragmentError → List ℕ
refusal_name NotJson = codes "NotJson"
refusal_name (NotJsonMl path) = codes "NotJsonMl"
refusal_name (Fraction path) = codes "Fraction"
refusal_name (BadName path) = codes "BadName"
refusal_name (TooDeep path) = codes "TooDeep"
refusal_name (TextLimit path) = codes "TextLimit"
refusal_name NoMemory = codes "NoMemory"

-- the pointer to the place, which is empty at the top, and where there is none
abbrev pub refusal_path : FragmentError → List ℕ
refusal_path NotJson = []
refusal_path (NotJsonMl path) = path
refusal_path (Fraction path) = path
refusal_path (BadName path) = path
refusal_path (TooDeep path) = path
refusal_path (TextLimit path) = path
refusal_path NoMemory = []

-- what is read one level below
abbrev pub below : {A : Type 0} → List ℕ → Result A FragmentError → Result A FragmentError
below step (Ok x) = Ok x
below step (Err e) = Err (seen_from_above step e)

-- a call answered what is read, or the refusal, unless memory was wanting
abbrev pub Reads : {A : Type 0} → Result A FragmentError → Result A FragmentError → Type 0
Reads read (Ok x) = read ≡ Ok x
Reads read (Err e) = e ≢ NoMemory → read ≡ Err e

-- items and then those that are read
abbrev pub behind : {A : Type 0} → List A → Result (List A) FragmentError → Result (List A) FragmentError
behind front read = read >>= λ others. Ok (front ++ others)

-- ---- attributes

-- a text or an attribute's value within its limit
abbrev pub limited : List ℕ → Result (List ℕ) FragmentError
limited s = if is_too_long s then Err (TextLimit []) else Ok s

-- a whole number in decimal, others are refused
abbrev pub whole_number : Num → Result (List ℕ) FragmentError
whole_number (unsigned n) = Ok (decimal n)
whole_number (negative z) = Ok (signed_decimal z)
whole_number (float x) = Err (Fraction [])

-- the text of an attribute's value: `null` is the empty one
abbrev pub value_text : Data → Result (List ℕ) FragmentError
value_text null = Ok []
value_text (boolean true) = Ok (codes "true")
value_text (boolean false) = Ok (codes "false")
value_text (number n) = whole_number n
value_text (string s) = limited s
value_text (array items) = Err (NotJsonMl [])
value_text (object ms) = Err (NotJsonMl [])

-- an attribute's value, its name first
abbrev pub attribute : Name → Data → Result (List ℕ) FragmentError
attribute name value = if is_name name then value_text value else Err (BadName [])

-- the attributes by their names' bytes
abbrev pub attributes : Members → Result Attributes FragmentError
attributes no_members = Ok []
attributes (member name value ms) = do
  text ← below (step_to_member name) (attribute name value)
  others ← attributes ms
  Ok ((name, text) ∷ others)

-- ---- fragments

-- a text, where arrays may nest `left` levels deep
abbrev pub text_at : ℕ → List ℕ → Result Fragment FragmentError
text_at left s = do
  kept ← limited s
  if left == 0 then Err (TooDeep []) else Ok (Text kept)

-- The rules are tried in this order at each array: its depth, its name, its attributes, its children from the left.
abbrev mutual
  -- the fragment in some place, where arrays may nest `left` levels deep
  pub fragment_at : ℕ → Data → Result Fragment FragmentError
  fragment_at left (string s) = text_at left s
  fragment_at left (array items) = if left == 0 then Err (TooDeep []) else element (left - 1) items
  fragment_at left null = Err (NotJsonMl [])
  fragment_at left (boolean b) = Err (NotJsonMl [])
  fragment_at left (number n) = Err (NotJsonMl [])
  fragment_at left (object ms) = Err (NotJsonMl [])

  -- the element that an array's items are, its children having `left` levels
  pub element : ℕ → Items → Result Fragment FragmentError
  element left no_items = Err (NotJsonMl [])
  element left (item (string name) items) = if is_name name then content left name items else Err (BadName (step_to_item 0))
  element left (item value items) = Err (NotJsonMl (step_to_item 0))

  -- the element behind its name: an object holds the attributes, all else are children
  pub content : ℕ → Name → Items → Result Fragment FragmentError
  content left name no_items = Ok (Element name [] [])
  content left name (item (object ms) items) = do
    attrs ← below (step_to_item 1) (attributes ms)
    others ← children left 2 items
    Ok (Element name attrs others)
  content left name (item value items) = do
    first ← below (step_to_item 1) (fragment_at left value)
    others ← children left 2 items
    Ok (Element name [] (first ∷ others))

  -- the children from the item with this index on
  pub children : ℕ → ℕ → Items → Result (List Fragment) FragmentError
  children left index no_items = Ok []
  children left index (item value items) = do
    first ← below (step_to_item index) (fragment_at left value)
    others ← children left (index + 1) items
    Ok (first ∷ others)

-- the fragment that a value is
abbrev pub fragment_of : Data → Result Fragment FragmentError
fragment_of value = fragment_at most_depth value

-- ---- bytes

-- the JSON value that bytes are, if they are one (RFC 8259)
abbrev pub value_of : List ℕ → Option Data
value_of bytes = if is_utf8 bytes then read bytes else None

abbrev pub fragment_if : Option Data → Result Fragment FragmentError
fragment_if None = Err NotJson
fragment_if (Some value) = fragment_of value

-- the fragment that bytes are
unfoldable pub fragment_in : List ℕ → Result Fragment FragmentError
fragment_in bytes = fragment_if (value_of bytes)
