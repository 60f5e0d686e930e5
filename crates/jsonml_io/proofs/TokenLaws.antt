-- The tokens of attributes whose names rise, and what stands before an element's children.
use Rattle.std.proofs.Common.{◌≡◌, ◌↔◌, ℕ, Bool, false, IsTrue, List, [], ◌∷◌, ◌++◌, true, is_lt, Less, Greater, nat_cmp, refl, sym, ap, ◌∙◌, append_assoc, append-nil}
use Rattle.std.specs.List.{AllByRecursion}
use Rattle.std.specs.Ordering.{ordering_reverse}
use Rattle.std.specs.Cmp.Lexicographic.{slice_cmp, nat_list_cmp_total}
use Rattle.std.proofs.lemmas.Bool.{and_parts}
use Rattle.json.specs.Token.{Token, begin_array, begin_object, key, string}
use Rattle.json.specs.Tree.{members_tokens}
use Rattle.serde_json.specs.Data as values
use Rattle.serde_json.specs.Data.{Members, no_members, member, put}
use Rattle.serde_json.specs.Written.{members_outline}
use Rattle.tree_model.specs.Names.{Name}
use Rattle.tree_model.specs.Tree.{Attributes}
use Rattle.tree_model.proofs.Orders.{lt_is}
use Rattle.jsonml_io.specs.Written.{with_members}
use Rattle.jsonml_io.specs.inside.Tokens.{attribute_tokens, member_tokens, names_rise, rise_behind}

-- ---- attributes whose names rise

-- the members that attributes are, one by one
members_of : Attributes → Members
members_of [] = no_members
members_of (a ∷ ats) = member a.0 (values.string a.1) (members_of ats)

-- all these names lie before this one
AllBefore : Name → Attributes → Type 0
AllBefore x ats = AllByRecursion (λ a. slice_cmp nat_cmp x a.0 ≡ Greater) ats

put_last : (a : Name × List ℕ) (done : Attributes) → AllBefore a.0 done → put a.0 (values.string a.1) (members_of done) ≡ members_of (done ++ a ∷ [])
unfolding members_of AllBefore
put_last a [] h = refl
put_last a (d ∷ done) h = rw h.0 (ap (member d.0 (values.string d.1)) (put_last a done h.1))

before_more : (x : Name) (done : Attributes) (a : Name × List ℕ) → AllBefore x done → slice_cmp nat_cmp x a.0 ≡ Greater → AllBefore x (done ++ a ∷ [])
unfolding AllBefore
before_more x [] a h g = (g, tt)
before_more x (d ∷ done) a h g = (h.0, before_more x done a h.1 g)

behind_it : (x y : Name) → slice_cmp nat_cmp x y ≡ Less → slice_cmp nat_cmp y x ≡ Greater
behind_it x y less = nat_list_cmp_total.antisymm y x ∙ ap ordering_reverse less

-- every name behind lo is behind those that are done
gathered : (lo : Name) (done ats : Attributes) → ((x : Name) → slice_cmp nat_cmp lo x ≡ Less → AllBefore x done) → rise_behind lo ats ≡ true → with_members (members_of done) ats ≡ members_of (done ++ ats)
gathered lo done [] behind h = ap members_of (sym (append-nil done))
gathered lo done (a ∷ ats) behind h =
    let parts = and_parts (is_lt (slice_cmp nat_cmp lo a.0)) (rise_behind a.0 ats) h in
    let less : slice_cmp nat_cmp lo a.0 ≡ Less = lt_is (slice_cmp nat_cmp lo a.0) parts.0 in
    let next : (x : Name) → slice_cmp nat_cmp a.0 x ≡ Less → AllBefore x (done ++ a ∷ []) = λ x l. before_more x done a (behind x (nat_list_cmp_total.trans lo a.0 x less l)) (behind_it a.0 x l) in
    ap (λ m. with_members m ats) (put_last a done (behind a.0 less)) ∙ gathered a.0 (done ++ a ∷ []) ats next parts.1 ∙ ap members_of (append_assoc done (a ∷ []) ats)

one_by_one : (ats : Attributes) → members_tokens (members_outline (members_of ats)) ≡ member_tokens ats
unfolding members_of
one_by_one [] = refl
one_by_one (a ∷ ats) = ap (λ (ts : List Token). key a.0 ∷ string a.1 ∷ ts) (one_by_one ats)

-- attributes whose names rise are an object's members as they stand
pub as_they_stand : (a : Name × List ℕ) (ats : Attributes) → names_rise (a ∷ ats) ≡ true → attribute_tokens (a ∷ ats) ≡ begin_object ∷ member_tokens (a ∷ ats)
unfolding members_of AllBefore
as_they_stand a ats rise =
    ap (λ (m : Members). begin_object ∷ members_tokens (members_outline m)) (gathered a.0 (a ∷ []) ats (λ x l. (behind_it a.0 x l, tt)) rise)
    ∙ ap (λ (ts : List Token). begin_object ∷ ts) (one_by_one (a ∷ ats))

-- ---- tokens that are put one after another

-- what stands before an element's children, where it has attributes
pub opened : (old bracket named whole : List Token) (n m : List ℕ) (ats bts : Attributes) (none : Bool) → bracket ≡ old ++ begin_array ∷ [] → named ≡ bracket ++ string m ∷ [] → m ≡ n
    → whole ≡ named ++ begin_object ∷ member_tokens bts → bts ≡ ats → none ≡ false → IsTrue none ↔ (ats ≡ []) → names_rise ats ≡ true
    → whole ≡ old ++ begin_array ∷ string n ∷ attribute_tokens ats
opened old bracket named whole n m [] bts none e1 e2 em e3 eb filled is rise = let empty : none ≡ true = is.1 refl in cc
opened old bracket named whole n m (a ∷ ats) bts none e1 e2 em e3 eb filled is rise =
    let members : List Token = begin_object ∷ member_tokens (a ∷ ats) in
    e3 ∙ (λ i. e2 i ++ begin_object ∷ member_tokens (eb i))
    ∙ (λ i. (e1 i ++ string (em i) ∷ []) ++ members)
    ∙ append_assoc (old ++ begin_array ∷ []) (string n ∷ []) members
    ∙ append_assoc old (begin_array ∷ []) (string n ∷ members)
    ∙ ap (λ (ts : List Token). old ++ begin_array ∷ string n ∷ ts) (sym (as_they_stand a ats rise))
