-- A set that has the looks which were noted.
use Rattle.std.proofs.Common.{◌≡◌, ◌&&◌, ◌||◌, Bool, true, false, cond, if◌then◌else◌, List, [], ◌∷◌, ◌++◌, append_assoc, append-nil, length, map, take, Less, Equal, Greater, Ordering, nat_cmp, is_eq, Result, Ok, Err, true≢false, refl, sym, ap, ◌∙◌}
use Rattle.std.proofs.lemmas.List.{map-append}
use Rattle.std.proofs.Math.Seq.{take-append_seam}
use Rattle.std.specs.BTreeMap.{is_at}
use Rattle.std.specs.BTreeSet.{BTreeSet, contains}
use Rattle.std.specs.Cmp.Lexicographic.{slice_cmp}
use Rattle.std.specs.List.{list_any}
use Rattle.std.specs.Ordering.{ordering_then}
use Rattle.std.specs.Result.{OnOk, is_err}
use Rattle.lock_resources.specs.declared.request.Request.{Request}
use Rattle.lock_resources.specs.Intentions.{with_intentions}
use Rattle.path_model.specs.Programs.{Look, at_node, at_row, at_tree, at_attributes, at_attribute}
use Rattle.xpath_plans.specs.declared.noted_look.NotedLook.{NotedLook}
use Rattle.xpath_plans.specs.inside.NotedLooks.{look_of, noted_of, looks_of, noted_cmp, HasNoted}
use Rattle.xpath_plans.specs.LookRequests.{resource_of, mode_of, requests_of}
use Rattle.xpath_plans.specs.OnceNoted.{same_look, is_noted, once}

pub kept_so : (o : Look) → look_of (noted_of o) ≡ o
kept_so (at_node l) = refl
kept_so (at_row l) = refl
kept_so (at_tree l) = refl
kept_so (at_attributes l) = refl
kept_so (at_attribute l n) = refl

-- what holds where a call succeeded
pub on_ok : {A E P : Type 0} (r : Result A E) → is_err r ≡ false → OnOk r P → P
on_ok (Ok a) e h = h
on_ok (Err x) e h = absurd (true≢false e)

-- ---- the order

then_equal : (x : Ordering) → is_eq (ordering_then x Equal) ≡ is_eq x
then_equal Less = refl
then_equal Equal = refl
then_equal Greater = refl

then_both : (x y : Ordering) → is_eq (ordering_then x y) ≡ (is_eq x && is_eq y)
then_both Less y = refl
then_both Equal y = refl
then_both Greater y = refl

same_is : (o p : Look) → is_at (noted_cmp (noted_of o)) (noted_of p) ≡ same_look o p
same_is (at_node l) (at_node m) = then_equal (slice_cmp nat_cmp l m)
same_is (at_node l) (at_row m) = refl
same_is (at_node l) (at_tree m) = refl
same_is (at_node l) (at_attributes m) = refl
same_is (at_node l) (at_attribute m k) = refl
same_is (at_row l) (at_node m) = refl
same_is (at_row l) (at_row m) = then_equal (slice_cmp nat_cmp l m)
same_is (at_row l) (at_tree m) = refl
same_is (at_row l) (at_attributes m) = refl
same_is (at_row l) (at_attribute m k) = refl
same_is (at_tree l) (at_node m) = refl
same_is (at_tree l) (at_row m) = refl
same_is (at_tree l) (at_tree m) = then_equal (slice_cmp nat_cmp l m)
same_is (at_tree l) (at_attributes m) = refl
same_is (at_tree l) (at_attribute m k) = refl
same_is (at_attributes l) (at_node m) = refl
same_is (at_attributes l) (at_row m) = refl
same_is (at_attributes l) (at_tree m) = refl
same_is (at_attributes l) (at_attributes m) = then_equal (slice_cmp nat_cmp l m)
same_is (at_attributes l) (at_attribute m k) = refl
same_is (at_attribute l n) (at_node m) = refl
same_is (at_attribute l n) (at_row m) = refl
same_is (at_attribute l n) (at_tree m) = refl
same_is (at_attribute l n) (at_attributes m) = refl
same_is (at_attribute l n) (at_attribute m k) = then_both (slice_cmp nat_cmp l m) (slice_cmp nat_cmp n k)

-- ---- one look more

or_cond : (a b c : Bool) → (a || cond b true c) ≡ cond b true (a || c)
or_cond true true c = refl
or_cond true false c = refl
or_cond false b c = refl

noted_end : (q : Look) (os : List Look) (o : Look) → is_noted q (os ++ o ∷ []) ≡ cond (same_look o q) true (is_noted q os)
noted_end q [] o = by (same_look o q)
  where
    by : (b : Bool) → (b || false) ≡ cond b true false
    by true = refl
    by false = refl
noted_end q (p ∷ os) o = ap (λ b. same_look p q || b) (noted_end q os o) ∙ or_cond (same_look p q) (same_look o q) (is_noted q os)

looks_more : (ks : List NotedLook) (k : NotedLook) (o : Look) → k ≡ noted_of o → looks_of (ks ++ k ∷ []) ≡ looks_of ks ++ o ∷ []
looks_more ks k o e = map-append look_of ks (k ∷ []) ∙ ap (λ (p : Look). looks_of ks ++ p ∷ []) (ap look_of e ∙ kept_so o)

pub noted_more : (s n : BTreeSet NotedLook) (ks : List NotedLook) (k j : NotedLook) (o : Look) → k ≡ noted_of o → j ≡ noted_of o → HasNoted s (looks_of ks)
    → ((q : NotedLook) → contains noted_cmp n q ≡ cond (is_at (noted_cmp j) q) true (contains noted_cmp s q)) → HasNoted n (looks_of (ks ++ k ∷ []))
noted_more s n ks k j o e f has more q =
    more (noted_of q) ∙ (λ i. cond (is_at (noted_cmp (f i)) (noted_of q)) true (has q i)) ∙ ap (λ b. cond b true (is_noted q (looks_of ks))) (same_is o q)
    ∙ sym (noted_end q (looks_of ks) o) ∙ ap (is_noted q) (sym (looks_more ks k o e))

-- it was put back
pub noted_back : (s n : BTreeSet NotedLook) (ks : List NotedLook) (k : NotedLook) → HasNoted s (looks_of ks) → n.keys ≡ s.keys → HasNoted n (looks_of (take (length ks) (ks ++ k ∷ [])))
noted_back s n ks k has e q = ap (λ keys. list_any (is_at (noted_cmp (noted_of q))) keys) e ∙ has q ∙ ap (λ zs. is_noted q (looks_of zs)) (sym (take-append_seam ks (k ∷ [])))

-- ---- what a plan is then

pub nothing_new : (os : List Look) (o : Look) → is_noted o os ≡ true → os ≡ os ++ once os (o ∷ [])
nothing_new os o e = sym (append-nil os) ∙ ap (λ b. os ++ (if b then [] else o ∷ [])) (sym e)

pub one_new : (ks : List NotedLook) (k : NotedLook) (o : Look) → k ≡ noted_of o → is_noted o (looks_of ks) ≡ false → looks_of (ks ++ k ∷ []) ≡ looks_of ks ++ once (looks_of ks) (o ∷ [])
one_new ks k o e n = looks_more ks k o e ∙ ap (λ b. looks_of ks ++ (if b then [] else o ∷ [])) (sym n)

-- ---- what looks ask for

requests_joined : (os ps : List Look) → requests_of (os ++ ps) ≡ requests_of os ++ requests_of ps
requests_joined [] ps = refl
requests_joined (o ∷ os) ps =
    ap (λ (gs : List Request). with_intentions (resource_of o) (mode_of o) ++ gs) (requests_joined os ps)
    ∙ sym (append_assoc (with_intentions (resource_of o) (mode_of o)) (requests_of os) (requests_of ps))

pub requests_more : (ks : List NotedLook) (k : NotedLook) → requests_of (looks_of (ks ++ k ∷ [])) ≡ requests_of (looks_of ks) ++ with_intentions (resource_of (look_of k)) (mode_of (look_of k))
requests_more ks k =
    ap requests_of (map-append look_of ks (k ∷ [])) ∙ requests_joined (looks_of ks) (look_of k ∷ [])
    ∙ ap (λ (gs : List Request). requests_of (looks_of ks) ++ gs) (append-nil (with_intentions (resource_of (look_of k)) (mode_of (look_of k))))
