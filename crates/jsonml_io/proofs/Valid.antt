-- What is read is valid.
use Rattle.std.proofs.Common.{◌≡◌, ◌≤◌, ◌<◌, ℕ, zero, suc, true, false, true≢false, cond, Ok, Err, Less, codes, nat_cmp, string_cmp, List, [], ◌∷◌, ◌++◌, length, map, String, Global, string_bytes, IsTrue, nat_le, ◌&&◌, refl, sym, ap, subst, ◌∙◌, arith}
use Rattle.std.specs.Str.{IsUtf8, is_utf8, IsAscii, chars}
use Rattle.std.specs.List.{AllByRecursion}
use Rattle.std.specs.List.Sorted.{IsStrictlySortedBy}
use Rattle.std.specs.Map.{keys_of}
use Rattle.std.specs.Cmp.Lexicographic.{slice_cmp}
use Rattle.std.proofs.lemmas.Bool.Decides.{nat_tests}
use Rattle.std.proofs.lemmas.Str.{is_utf8-from_IsUtf8, IsUtf8-string_bytes, IsUtf8-nil, IsUtf8-from_ascii}
use Rattle.serde_json.specs.Data.{Data, Members, member}
use Rattle.serde_json.specs.View.{view, members_view}
use Rattle.serde_json.proofs.Views.{Entry}
use Rattle.tree_model.specs.declared.fragment.Fragment.{Fragment}
use Rattle.tree_model.specs.declared.fragment.Fragment.TheVariants.{Element, Text}
use Rattle.tree_model.specs.Fragments.{Fragments, no_more, before_row, in_a_row, plain, IsValid}
use Rattle.tree_model.specs.Limits.{most_text_bytes}
use Rattle.tree_model.specs.Names.{Name, is_name}
use Rattle.tree_model.specs.Records.{is_data}
use Rattle.tree_model.specs.Tree.{Attributes}
use Rattle.tree_model.specs.ValidTrees.{NamesRise, ValuesFit}
use Rattle.tree_model.proofs.Grafts.{and_true}
use Rattle.tree_model.proofs.PlainFragments.{before_row-Element, before_row-Text}
use Rattle.jsonml_io.specs.declared.fragment_error.FragmentError.TheVariants.{BadName}
use Rattle.jsonml_io.specs.Pointers.{step_to_member}
use Rattle.jsonml_io.specs.JsonMl.{◌>>=◌, below, value_text, attribute, attributes}
use Rattle.jsonml_io.specs.inside.Rows.{AreValid}
use Rattle.jsonml_io.proofs.Levels.{by_level}
use Rattle.jsonml_io.proofs.Outcomes.{bind_ok, ok_same}

-- a text that isn't too long
data_text : (t : List ℕ) → IsUtf8 t → length t ≤ most_text_bytes → IsTrue (is_data t)
data_text t u h =
    let few : nat_le (length t) most_text_bytes ≡ true = grind (arith, nat_tests) in
    ap (λ b. nat_le (length t) most_text_bytes && b) (is_utf8-from_IsUtf8 t u) ∙ and_true (nat_le (length t) most_text_bytes) ∙ few

pub data_string : (s : String Global) → length (string_bytes s) ≤ most_text_bytes → IsTrue (is_data (string_bytes s))
data_string s h = data_text (string_bytes s) (IsUtf8-string_bytes s) h

-- an element of valid parts
pub valid_element : (n : Name) (ats : Attributes) (ch : List Fragment) → IsTrue (is_name n) → NamesRise [] ats → ValuesFit ats → AreValid ch → IsValid (plain (Element n ats ch))
valid_element n ats ch name names values children = subst IsValid (sym (before_row-Element n ats ch no_more)) (name, names, values, children, tt)

pub valid_text : (t : List ℕ) → IsTrue (is_data t) → IsValid (plain (Text t))
valid_text t h = subst IsValid (sym (before_row-Text t no_more)) (h, tt)

-- a fragment before others
put_first : (f : Fragment) (nx : Fragments) → IsValid (plain f) → IsValid nx → IsValid (before_row f nx)
put_first f nx v w = by_level (λ g. IsValid (plain g) → IsValid (before_row g nx))
    (λ n ats ch _ v. let p = subst IsValid (before_row-Element n ats ch no_more) v in subst IsValid (sym (before_row-Element n ats ch nx)) (p.0, p.1, p.2, p.3, w))
    (λ t v. let p = subst IsValid (before_row-Text t no_more) v in subst IsValid (sym (before_row-Text t nx)) (p.0, w)) f v

pub taken_apart : (f : Fragment) (nx : Fragments) → IsValid (before_row f nx) → IsValid (plain f) × IsValid nx
taken_apart f nx = by_level (λ g. IsValid (before_row g nx) → IsValid (plain g) × IsValid nx)
    (λ n ats ch _ v. let p = subst IsValid (before_row-Element n ats ch nx) v in (valid_element n ats ch p.0 p.1 p.2 p.3, p.4))
    (λ t v. let p = subst IsValid (before_row-Text t nx) v in (valid_text t p.0, p.1)) f

-- one more fragment
pub valid_more : (fs : List Fragment) (f : Fragment) → AreValid fs → IsValid (plain f) → AreValid (fs ++ f ∷ [])
valid_more [] f v w = w
valid_more (g ∷ fs) f v w = let p = taken_apart g (in_a_row (map before_row fs)) v in put_first g (in_a_row (map before_row (fs ++ f ∷ []))) p.0 (valid_more fs f p.1 w)

-- ---- attributes

ascii_all : (bs : List ℕ) → AllByRecursion (λ b. b < 128) bs → IsAscii bs
ascii_all [] h i = omega arith
ascii_all (b ∷ bs) h zero = h.0
ascii_all (b ∷ bs) h (suc i) = ascii_all bs h.1 i

pub data_empty : IsTrue (is_data [])
data_empty = data_text [] IsUtf8-nil (omega arith)

pub data_true : IsTrue (is_data (codes "true"))
data_true = data_text (codes "true") (IsUtf8-from_ascii (codes "true") (ascii_all (codes "true") (omega arith, (omega arith, (omega arith, (omega arith, tt)))))) (omega arith)

pub data_false : IsTrue (is_data (codes "false"))
data_false = data_text (codes "false") (IsUtf8-from_ascii (codes "false") (ascii_all (codes "false") (omega arith, (omega arith, (omega arith, (omega arith, (omega arith, tt))))))) (omega arith)

-- one more value
pub values_more : (ats : Attributes) (name : Name) (v : List ℕ) → ValuesFit ats → IsTrue (is_data v) → ValuesFit (ats ++ (name, v) ∷ [])
values_more [] name v h x = (x, tt)
values_more (a ∷ ats) name v h x = (h.0, values_more ats name v h.1 x)

-- what is read of a member in front is the value and the others, and its name is a Name
record ReadsFirst (name : Name) (value : Data) (ms : Members) (ats : Attributes) : Type 0 where
  first : List ℕ
  others : Attributes
  name_is : is_name name ≡ true
  all : ats ≡ (name, first) ∷ others
  rest : attributes ms ≡ Ok others

named : (name : Name) (value : Data) (step t : List ℕ) → below step (attribute name value) ≡ Ok t → is_name name ≡ true
named name value step t = elim (is_name name) as (λ b. below step (cond b (value_text value) (Err (BadName []))) ≡ Ok t → b ≡ true) [
  | true ↦ λ _. refl
  | false ↦ λ e. cc
]

reads_first : (name : Name) (value : Data) (ms : Members) (ats : Attributes) → attributes (member name value ms) ≡ Ok ats → ReadsFirst name value ms ats
reads_first name value ms ats e =
    let first = bind_ok (below (step_to_member name) (attribute name value)) (λ t. attributes ms >>= λ others. Ok ((name, t) ∷ others)) ats e in
    let rest = bind_ok (attributes ms) (λ others. Ok ((name, first.0) ∷ others)) ats first.2 in
    record {
      first = first.0;
      others = rest.0;
      name_is = named name value (step_to_member name) first.0 first.1;
      all = sym (ok_same ((name, first.0) ∷ rest.0) ats rest.2);
      rest = rest.1;
    }

-- names rise behind lo, where the keys do
rise_behind : (lo : Name) (es : List Entry) (ats : Attributes) → AllByRecursion (λ k. slice_cmp nat_cmp lo (string_bytes k) ≡ Less) (keys_of es) → IsStrictlySortedBy string_cmp (keys_of es)
    → attributes (members_view es) ≡ Ok ats → NamesRise lo ats
unfolding IsStrictlySortedBy
rise_behind lo [] ats above sorted e = subst (NamesRise lo) (ok_same [] ats e) tt
rise_behind lo (x ∷ es) ats above sorted e =
    let r = reads_first (string_bytes x.0) (view x.1) (members_view es) ats e in
    subst (NamesRise lo) (sym r.all) (above.0, r.name_is, rise_behind (string_bytes x.0) es r.others sorted.0 sorted.1 r.rest)

-- no Name is empty
behind_nothing : (name : Name) → is_name name ≡ true → slice_cmp nat_cmp [] name ≡ Less
unfolding is_name is_utf8 chars
behind_nothing [] e = absurd (true≢false (sym e))
behind_nothing (b ∷ bs) e = refl

pub names_rise : (es : List Entry) (ats : Attributes) → IsStrictlySortedBy string_cmp (keys_of es) → attributes (members_view es) ≡ Ok ats → NamesRise [] ats
unfolding IsStrictlySortedBy
names_rise [] ats sorted e = subst (NamesRise []) (ok_same [] ats e) tt
names_rise (x ∷ es) ats sorted e =
    let r = reads_first (string_bytes x.0) (view x.1) (members_view es) ats e in
    subst (NamesRise []) (sym r.all) (behind_nothing (string_bytes x.0) r.name_is, r.name_is, rise_behind (string_bytes x.0) es r.others sorted.0 sorted.1 r.rest)
