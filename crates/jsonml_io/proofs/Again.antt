-- What is written of a valid fragment is read again as it.
use Rattle.std.proofs.Common.{◌≡◌, ◌≤◌, ℕ, ◌+◌, ◌-◌, ◌==◌, false, cond, nat_le, nat_lt, List, [], ◌∷◌, ◌++◌, length, map, Some, None, Ok, Err, Result, IsTrue, Less, Greater, nat_cmp, refl, sym, ap, ap₂, subst, ◌∙◌, arith, append_assoc, append-nil}
use Rattle.std.specs.List.{AllByRecursion}
use Rattle.std.specs.Str.{IsUtf8}
use Rattle.std.specs.Ordering.{ordering_reverse}
use Rattle.std.specs.Cmp.Lexicographic.{slice_cmp, nat_list_cmp_total}
use Rattle.std.proofs.lemmas.Bool.{and_parts}
use Rattle.std.proofs.lemmas.Bool.Decides.{nat_tests}
use Rattle.std.proofs.lemmas.Str.{is_utf8-from_IsUtf8}
use Rattle.serde_json.specs.Data.{Data, null, boolean, number, string, array, object, Items, no_items, item, Members, no_members, member, put}
use Rattle.serde_json.specs.Read.{read}
use Rattle.serde_json.specs.Find.{as_object}
use Rattle.serde_json.specs.View.{items_of}
use Rattle.tree_model.specs.declared.fragment.Fragment.{Fragment}
use Rattle.tree_model.specs.declared.fragment.Fragment.TheVariants.{Element, Text}
use Rattle.tree_model.specs.Fragments.{no_more, before_row, in_a_row, plain, depth, IsValid}
use Rattle.tree_model.specs.Limits.{most_text_bytes}
use Rattle.tree_model.specs.Names.{Name, is_name}
use Rattle.tree_model.specs.Records.{is_data}
use Rattle.tree_model.specs.Tree.{Attributes}
use Rattle.tree_model.specs.ValidTrees.{NamesRise, ValuesFit}
use Rattle.tree_model.proofs.PlainFragments.{before_row-Element, before_row-Text}
use Rattle.jsonml_io.specs.declared.fragment_error.FragmentError.{FragmentError}
use Rattle.jsonml_io.specs.declared.fragment_error.FragmentError.TheVariants.{BadName, TooDeep, TextLimit}
use Rattle.jsonml_io.specs.Pointers.{step_to_member, step_to_item}
use Rattle.jsonml_io.specs.JsonMl.{◌>>=◌, below, limited, attribute, attributes, text_at, fragment_at, element as element_at, content, children, fragment_if, fragment_in, most_depth}
use Rattle.jsonml_io.specs.Written.{with_members, opening, json_of}
use Rattle.jsonml_io.specs.inside.Rows.{AreValid}
use Rattle.jsonml_io.proofs.Levels.{by_level}
use Rattle.jsonml_io.proofs.Valid.{taken_apart}
use Rattle.jsonml_io.proofs.Values.{json_of-Element, json_of-Text, depth_before}

-- ---- attributes

limited_data : (t : List ℕ) → IsTrue (is_data t) → limited t ≡ Ok t
limited_data t h =
    let few : nat_lt most_text_bytes (length t) ≡ false = let p = (and_parts (nat_le (length t) most_text_bytes) _ h).0 in grind (arith, nat_tests) in
    ap (λ b. cond b (Err (TextLimit [])) (Ok t)) few

-- the members that attributes are, one by one
members_of : Attributes → Members
members_of [] = no_members
members_of (a ∷ ats) = member a.0 (string a.1) (members_of ats)

-- all these names lie before this one
AllBefore : Name → Attributes → Type 0
AllBefore x ats = AllByRecursion (λ a. slice_cmp nat_cmp x a.0 ≡ Greater) ats

put_last : (a : Name × List ℕ) (done : Attributes) → AllBefore a.0 done → put a.0 (string a.1) (members_of done) ≡ members_of (done ++ a ∷ [])
unfolding members_of AllBefore
put_last a [] h = refl
put_last a (d ∷ done) h = rw h.0 (ap (member d.0 (string d.1)) (put_last a done h.1))

before_more : (x : Name) (done : Attributes) (a : Name × List ℕ) → AllBefore x done → slice_cmp nat_cmp x a.0 ≡ Greater → AllBefore x (done ++ a ∷ [])
unfolding AllBefore
before_more x [] a h g = (g, tt)
before_more x (d ∷ done) a h g = (h.0, before_more x done a h.1 g)

-- every name behind lo is behind those that are done
gathered : (lo : Name) (done ats : Attributes) → ((x : Name) → slice_cmp nat_cmp lo x ≡ Less → AllBefore x done) → NamesRise lo ats → with_members (members_of done) ats ≡ members_of (done ++ ats)
gathered lo done [] behind h = ap members_of (sym (append-nil done))
gathered lo done (a ∷ ats) behind h =
    let next : (x : Name) → slice_cmp nat_cmp a.0 x ≡ Less → AllBefore x (done ++ a ∷ []) = λ x less.
    before_more x done a (behind x (nat_list_cmp_total.trans lo a.0 x h.0 less)) (nat_list_cmp_total.antisymm x a.0 ∙ ap ordering_reverse less) in
    ap (λ m. with_members m ats) (put_last a done (behind a.0 h.0)) ∙ gathered a.0 (done ++ a ∷ []) ats next h.2 ∙ ap members_of (append_assoc done (a ∷ []) ats)

attributes_of_members : (lo : Name) (ats : Attributes) → NamesRise lo ats → ValuesFit ats → attributes (members_of ats) ≡ Ok ats
unfolding members_of
attributes_of_members lo [] names values = refl
attributes_of_members lo (a ∷ ats) names values =
    let first : attribute a.0 (string a.1) ≡ Ok a.1 = ap (λ b. cond b (limited a.1) (Err (BadName []))) names.1 ∙ limited_data a.1 values.0 in
    ap₂ (λ r s. below (step_to_member a.0) r >>= λ t. s >>= λ others. Ok ((a.0, t) ∷ others)) first (attributes_of_members a.0 ats names.2 values.1)

attributes_again : (ats : Attributes) → NamesRise [] ats → ValuesFit ats → attributes (with_members no_members ats) ≡ Ok ats
unfolding members_of AllBefore
attributes_again ats names values = ap attributes (gathered [] [] ats (λ x less. tt) names) ∙ attributes_of_members [] ats names values

-- ---- children

-- with room for so many levels, the fragment's value is read again as it
Again : Fragment → Type 0
Again f = (left : ℕ) → IsValid (plain f) → depth (plain f) ≤ left → fragment_at left (json_of f) ≡ Ok f

joined : (n : Name) (step : List ℕ) (r : Result Fragment FragmentError) (s : Result (List Fragment) FragmentError) (f : Fragment) (fs : List Fragment) → r ≡ Ok f → s ≡ Ok fs
    → (below step r >>= λ x. s >>= λ xs. Ok (Element n [] (x ∷ xs))) ≡ Ok (Element n [] (f ∷ fs))
joined n step r s f fs e g = ap₂ (λ r s. below step r >>= λ x. s >>= λ xs. Ok (Element n [] (x ∷ xs))) e g

children_again : (left index : ℕ) (ch : List Fragment) → AllByRecursion Again ch → AreValid ch → depth (in_a_row (map before_row ch)) ≤ left → children left index (items_of (map json_of ch)) ≡ Ok ch
unfolding Again
children_again left index [] h valid shallow = refl
children_again left index (f ∷ ch) h valid shallow =
    let rest = in_a_row (map before_row ch) in
    let v = taken_apart f rest valid in
    let d = depth_before f rest in
    let first = h.0 left v.0 (omega arith) in
    ap₂ (λ r s. below (step_to_item index) r >>= λ x. s >>= λ xs. Ok (x ∷ xs)) first (children_again left (index + 1) ch h.1 v.1 (omega arith))

-- a child's value is no object
no_object : (f : Fragment) → as_object (json_of f) ≡ None
no_object = by_level (λ f. as_object (json_of f) ≡ None) (λ n ats ch _. ap as_object (json_of-Element n ats ch)) (λ t. ap as_object (json_of-Text t))

-- children without attributes before them
first_child : (n : Name) (left : ℕ) (d : Data) (items : Items) (f : Fragment) (fs : List Fragment) → as_object d ≡ None → fragment_at left d ≡ Ok f → children left 2 items ≡ Ok fs
    → content left n (item d items) ≡ Ok (Element n [] (f ∷ fs))
first_child n left null items f fs o e g = joined n (step_to_item 1) _ _ f fs e g
first_child n left (boolean b) items f fs o e g = joined n (step_to_item 1) _ _ f fs e g
first_child n left (number x) items f fs o e g = joined n (step_to_item 1) _ _ f fs e g
first_child n left (string s) items f fs o e g = joined n (step_to_item 1) _ _ f fs e g
first_child n left (array ds) items f fs o e g = joined n (step_to_item 1) _ _ f fs e g
first_child n left (object ms) items f fs o e g = cc

content_again : (n : Name) (left : ℕ) (ats : Attributes) (ch : List Fragment) → NamesRise [] ats → ValuesFit ats → AllByRecursion Again ch → AreValid ch → depth (in_a_row (map before_row ch)) ≤ left
    → IsTrue (is_name n) → element_at left (items_of (opening n ats ++ map json_of ch)) ≡ Ok (Element n ats ch)
unfolding Again
content_again n left [] [] names values h valid shallow name = ap (λ b. cond b (content left n no_items) (Err (BadName (step_to_item 0)))) name
content_again n left [] (f ∷ ch) names values h valid shallow name =
    let rest = in_a_row (map before_row ch) in
    let v = taken_apart f rest valid in
    let d = depth_before f rest in
    ap (λ b. cond b (content left n (items_of (map json_of (f ∷ ch)))) (Err (BadName (step_to_item 0)))) name
    ∙ first_child n left (json_of f) (items_of (map json_of ch)) f ch (no_object f) (h.0 left v.0 (omega arith)) (children_again left 2 ch h.1 v.1 (omega arith))
content_again n left (a ∷ ats) ch names values h valid shallow name =
    ap (λ b. cond b (content left n (item (object (with_members no_members (a ∷ ats))) (items_of (map json_of ch)))) (Err (BadName (step_to_item 0)))) name
    ∙ ap₂ (λ r s. below (step_to_item 1) r >>= λ attrs. s >>= λ xs. Ok (Element n attrs xs)) (attributes_again (a ∷ ats) names values) (children_again left 2 ch h valid shallow)

-- ---- whole fragments

within_levels : (left : ℕ) (items : Items) (f : Fragment) → 1 ≤ left → element_at (left - 1) items ≡ Ok f → fragment_at left (array items) ≡ Ok f
within_levels left items f some e = let no : left == 0 ≡ false = grind (arith, nat_tests) in ap (λ b. cond b (Err (TooDeep [])) (element_at (left - 1) items)) no ∙ e

text_fits : (left : ℕ) (t : List ℕ) → IsTrue (is_data t) → 1 ≤ left → text_at left t ≡ Ok (Text t)
text_fits left t h some =
    let no : left == 0 ≡ false = grind (arith, nat_tests) in
    ap (λ r. r >>= λ kept. cond (left == 0) (Err (TooDeep [])) (Ok (Text kept))) (limited_data t h) ∙ ap (λ b. cond b (Err (TooDeep [])) (Ok (Text t))) no

again : (f : Fragment) → Again f
unfolding Again
again = by_level Again
    (λ n ats ch h left valid shallow.
    let v = subst IsValid (before_row-Element n ats ch no_more) valid in
    let d = ap depth (before_row-Element n ats ch no_more) in
    ap (fragment_at left) (json_of-Element n ats ch) ∙ within_levels left _ (Element n ats ch) (omega arith) (content_again n (left - 1) ats ch v.1 v.2 h v.3 (omega arith) v.0))
    (λ t left valid shallow.
    let v = subst IsValid (before_row-Text t no_more) valid in
    let d = ap depth (before_row-Text t no_more) in
    ap (fragment_at left) (json_of-Text t) ∙ text_fits left t v.0 (omega arith))

pub text_again : (f : Fragment) (text : List ℕ) → IsUtf8 text → read text ≡ Some (json_of f) → IsValid (plain f) → depth (plain f) ≤ most_depth → fragment_in text ≡ Ok f
unfolding fragment_in Again
text_again f text u r valid shallow = ap (λ b. fragment_if (cond b (read text) None)) (is_utf8-from_IsUtf8 text u) ∙ ap fragment_if r ∙ again f most_depth valid shallow
