-- Joined texts keep what the texts of a valid tree keep: their keys, their kinds, and their limits where they fit.
use Rattle.std.specs.Cmp.Lexicographic.{slice_cmp}
use Rattle.std.specs.Str.{is_utf8}
use Rattle.std.proofs.Common.{◌≡◌, ℕ, ◌+◌, ◌≤◌, true, false, not, ◌&&◌, nat_lt, List, [], ◌∷◌, ◌++◌, length, length-append, Option, None, Some, Less, nat_cmp}
use Rattle.std.proofs.Common.{refl, sym, ap, ◌∙◌, arith, true≢false}
use Rattle.std.proofs.lemmas.Bool.Decides.{nat_tests}
use Rattle.dewey_labels.specs.Labels.{Label, is_child, level, Within}
use Rattle.dewey_labels.proofs.Codes.{first_of_both, second_of_both}
use Rattle.tree_model.specs.declared.record.Record.{Record}
use Rattle.tree_model.specs.declared.record.Record.TheVariants.{Document, Element, Text, Attr}
use Rattle.tree_model.specs.Limits.{deepest_level, most_text_bytes, is_too_long}
use Rattle.tree_model.specs.Records.{is_data}
use Rattle.tree_model.specs.Tree.{Forest, none, node}
use Rattle.tree_model.specs.ValidTrees.{KeysRise, KindsAllowed, LimitsKept, may_stand, may_follow}
use Rattle.tree_model.specs.Texts.{join_text, normal, texts_fit}
use Rattle.tree_model.proofs.Split.{lower}
use Rattle.tree_model.proofs.SplitTexts.{data_of_tests, utf8_append}
use Rattle.tree_changes.proofs.Cases.{not_true}

-- ---- joined texts keep their keys

join_keys : (p b l : Label) (d : List ℕ) (g : Forest) → is_child p l ≡ true → slice_cmp nat_cmp b l ≡ Less → Within l → KeysRise p l g
    → KeysRise p b (join_text l d g)
join_keys p b l [] none c lt i k = tt
join_keys p b l (x ∷ d) none c lt i k = (c, lt, i, tt, tt, tt)
join_keys p b l d (node m (Text e) ats ch nx) c lt i k = (c, lt, i, tt, tt, lower p l m nx k.1 k.5)
join_keys p b l [] (node m Document ats ch nx) c lt i k = lower p b l (node m Document ats ch nx) lt k
join_keys p b l (x ∷ d) (node m Document ats ch nx) c lt i k = (c, lt, i, tt, tt, k)
join_keys p b l [] (node m (Element n) ats ch nx) c lt i k = lower p b l (node m (Element n) ats ch nx) lt k
join_keys p b l (x ∷ d) (node m (Element n) ats ch nx) c lt i k = (c, lt, i, tt, tt, k)
join_keys p b l [] (node m (Attr v) ats ch nx) c lt i k = lower p b l (node m (Attr v) ats ch nx) lt k
join_keys p b l (x ∷ d) (node m (Attr v) ats ch nx) c lt i k = (c, lt, i, tt, tt, k)

pub normal_keys : (p b : Label) (f : Forest) → KeysRise p b f → KeysRise p b (normal f)
normal_keys p b none k = tt
normal_keys p b (node l Document ats ch nx) k = (k.0, k.1, k.2, k.3, normal_keys l l ch k.4, normal_keys p l nx k.5)
normal_keys p b (node l (Element n) ats ch nx) k = (k.0, k.1, k.2, k.3, normal_keys l l ch k.4, normal_keys p l nx k.5)
normal_keys p b (node l (Attr v) ats ch nx) k = (k.0, k.1, k.2, k.3, normal_keys l l ch k.4, normal_keys p l nx k.5)
normal_keys p b (node l (Text d) ats ch nx) k = join_keys p b l d (normal nx) k.0 k.1 k.2 (normal_keys p l nx k.5)

-- ---- and their kinds

join_kinds : (n : List ℕ) (l : Label) (d : List ℕ) (g : Forest) → KindsAllowed (Some (Element n)) g → KindsAllowed (Some (Element n)) (join_text l d g)
join_kinds n l [] none k = tt
join_kinds n l (x ∷ d) none k = (refl, refl, refl, tt, tt)
join_kinds n l d (node m (Text e) ats ch nx) k = (refl, refl, refl, tt, k.4)
join_kinds n l [] (node m Document ats ch nx) k = k
join_kinds n l (x ∷ d) (node m Document ats ch nx) k = (refl, refl, refl, tt, k)
join_kinds n l [] (node m (Element e) ats ch nx) k = k
join_kinds n l (x ∷ d) (node m (Element e) ats ch nx) k = (refl, refl, refl, tt, k)
join_kinds n l [] (node m (Attr v) ats ch nx) k = k
join_kinds n l (x ∷ d) (node m (Attr v) ats ch nx) k = (refl, refl, refl, tt, k)

text_kinds : (q : Option Record) (l : Label) (d : List ℕ) (g : Forest) → may_stand q (Text d) ≡ true → KindsAllowed q g → KindsAllowed q (join_text l d g)
text_kinds None l d g h k = cc
text_kinds (Some Document) l d g h k = cc
text_kinds (Some (Element n)) l d g h k = join_kinds n l d g k
text_kinds (Some (Text e)) l d g h k = cc
text_kinds (Some (Attr v)) l d g h k = cc

follow_normal : (q : Option Record) (f : Forest) → may_follow q f ≡ true → may_follow q (normal f) ≡ true
follow_normal None f h = refl
follow_normal (Some Document) none h = refl
follow_normal (Some Document) (node l r ats ch nx) h = absurd (true≢false (sym h))
follow_normal (Some (Element n)) f h = refl
follow_normal (Some (Text d)) f h = refl
follow_normal (Some (Attr v)) f h = refl

pub normal_kinds : (q : Option Record) (f : Forest) → KindsAllowed q f → KindsAllowed q (normal f)
normal_kinds q none k = tt
normal_kinds q (node l Document ats ch nx) k = (k.0, follow_normal q nx k.1, k.2, normal_kinds (Some Document) ch k.3, normal_kinds q nx k.4)
normal_kinds q (node l (Element n) ats ch nx) k = (k.0, follow_normal q nx k.1, k.2, normal_kinds (Some (Element n)) ch k.3, normal_kinds q nx k.4)
normal_kinds q (node l (Attr v) ats ch nx) k = (k.0, follow_normal q nx k.1, k.2, normal_kinds (Some (Attr v)) ch k.3, normal_kinds q nx k.4)
normal_kinds q (node l (Text d) ats ch nx) k = text_kinds q l d (normal nx) k.0 (normal_kinds q nx k.4)

-- ---- and the limits, where the joined texts fit

last_fits : (d e : List ℕ) → not (is_too_long (d ++ e)) ≡ true → not (is_too_long e) ≡ true
last_fits d e h = ap not (long (not_true (is_too_long (d ++ e)) h))
  where
    sum : length (d ++ e) ≡ length d + length e
    sum = length-append d e

    long : is_too_long (d ++ e) ≡ false → is_too_long e ≡ false
    long g = let z : nat_lt most_text_bytes (length d + length e) ≡ false = ap (nat_lt most_text_bytes) (sym sum)
        ∙ g in let r : nat_lt most_text_bytes (length e) ≡ false = grind (arith, nat_tests) in r

fit_behind : (l : Label) (d : List ℕ) (g : Forest) → texts_fit (join_text l d g) ≡ true → texts_fit g ≡ true
fit_behind l d none h = refl
fit_behind l d (node m (Text e) ats ch nx) h = λ i. last_fits d e (first_of_both (not (is_too_long (d ++ e))) (texts_fit nx) h) i && second_of_both
    (not (is_too_long (d ++ e))) (texts_fit nx) h i
fit_behind l [] (node m Document ats ch nx) h = h
fit_behind l (x ∷ d) (node m Document ats ch nx) h = second_of_both (not (is_too_long (x ∷ d))) (texts_fit (node m Document ats ch nx)) h
fit_behind l [] (node m (Element n) ats ch nx) h = h
fit_behind l (x ∷ d) (node m (Element n) ats ch nx) h = second_of_both (not (is_too_long (x ∷ d))) (texts_fit (node m (Element n) ats ch nx)) h
fit_behind l [] (node m (Attr v) ats ch nx) h = h
fit_behind l (x ∷ d) (node m (Attr v) ats ch nx) h = second_of_both (not (is_too_long (x ∷ d))) (texts_fit (node m (Attr v) ats ch nx)) h

fitting : (d : List ℕ) (f : Forest) → is_utf8 d ≡ true → (not (is_too_long d) && texts_fit f) ≡ true → is_data d ≡ true
fitting d f u h = data_of_tests d u (not_true (is_too_long d) (first_of_both (not (is_too_long d)) (texts_fit f) h))

join_limits : (l : Label) (d : List ℕ) (g : Forest) → level l ≤ deepest_level → is_utf8 d ≡ true → LimitsKept g → texts_fit (join_text l d g) ≡ true
    → LimitsKept (join_text l d g)
join_limits l [] none i u k h = tt
join_limits l (x ∷ d) none i u k h = (i, fitting (x ∷ d) none u h, tt, tt, tt)
join_limits l d (node m (Text e) ats ch nx) i u k h = (i, fitting (d ++ e) nx (utf8_append d e u (second_of_both _ (is_utf8 e) k.1)) h, tt, tt, k.4)
join_limits l [] (node m Document ats ch nx) i u k h = k
join_limits l (x ∷ d) (node m Document ats ch nx) i u k h = (i, fitting (x ∷ d) (node m Document ats ch nx) u h, tt, tt, k)
join_limits l [] (node m (Element n) ats ch nx) i u k h = k
join_limits l (x ∷ d) (node m (Element n) ats ch nx) i u k h = (i, fitting (x ∷ d) (node m (Element n) ats ch nx) u h, tt, tt, k)
join_limits l [] (node m (Attr v) ats ch nx) i u k h = k
join_limits l (x ∷ d) (node m (Attr v) ats ch nx) i u k h = (i, fitting (x ∷ d) (node m (Attr v) ats ch nx) u h, tt, tt, k)

pub normal_limits : (f : Forest) → LimitsKept f → texts_fit (normal f) ≡ true → LimitsKept (normal f)
normal_limits none k h = tt
normal_limits (node l Document ats ch nx) k h = (
  k.0,
  k.1,
  k.2,
  normal_limits ch k.3 (first_of_both (texts_fit (normal ch)) (texts_fit (normal nx)) h),
  normal_limits nx k.4 (second_of_both (texts_fit (normal ch)) (texts_fit (normal nx)) h),
)
normal_limits (node l (Element n) ats ch nx) k h = (
  k.0,
  k.1,
  k.2,
  normal_limits ch k.3 (first_of_both (texts_fit (normal ch)) (texts_fit (normal nx)) h),
  normal_limits nx k.4 (second_of_both (texts_fit (normal ch)) (texts_fit (normal nx)) h),
)
normal_limits (node l (Attr v) ats ch nx) k h = (
  k.0,
  k.1,
  k.2,
  normal_limits ch k.3 (first_of_both (texts_fit (normal ch)) (texts_fit (normal nx)) h),
  normal_limits nx k.4 (second_of_both (texts_fit (normal ch)) (texts_fit (normal nx)) h),
)
normal_limits (node l (Text d) ats ch nx) k h = join_limits l d (normal nx) k.0 (second_of_both _ (is_utf8 d) k.1)
    (normal_limits nx k.4 (fit_behind l d (normal nx) h)) h
