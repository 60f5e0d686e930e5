-- Laws of a reader of label texts: what it has read can go on, and what it refuses can't.
use Rattle.std.proofs.Common.{◌≡◌, ◌≢◌, ℕ, zero, suc, ◌+◌, ◌*◌, ◌%◌, ◌≤◌, ◌<◌, true, false, not, cond, ◌&&◌, ◌||◌, ◌==◌, nat_le, nat_lt, List, [], ◌∷◌, ◌++◌, ◌⊎◌, inl, inr, Option, Some, None, IsSome, IfSome, IfNone, Result, IfOk, length, refl, sym, ap, subst, ◌∙◌, arith, true≢false, append_assoc, append-nil, length-append, take, drop, get_or}
use Rattle.std.specs.List.{AllByRecursion, list_all}
use Rattle.std.specs.Option.{ok_or}
use Rattle.std.specs.Fmt.{decimal}
use Rattle.std.proofs.lemmas.Fmt.{decimal_digit, decimal_nonempty, decimal_injective, length-decimal-le}
use Rattle.std.proofs.lemmas.Bool.{and_parts, and_from, or_cases, or_left, or_right, cases_Bool, cond-true, cond-false, eqb-true, eqb-false, eq-eqb, ne_eqb, leb-true, le-leb, ltb-true, ltb-false, lt-ltb, cases_eq, cases_lt, both_ways, not-true}
use Rattle.std.proofs.lemmas.List.{take-append-drop, length-take-le}
use Rattle.std.proofs.Math.Seq.{take-suc}
use Rattle.dewey_labels.specs.Labels.{Label, greatest, most_divisions, is_odd, are_codes, is_label, IsLabel}
use Rattle.dewey_labels.specs.LabelText.{label_text, IsLabelText, BeginsLabelText, IsNoLabelText}
use Rattle.dewey_labels.specs.inside.LabelReader.{ended_text, begun_text, text_so_far, begin_label, begins_odd, begins_division, ends_division, CanGoOn}
use Rattle.dewey_labels.proofs.Decimals.{Digits, digits_on, decimal_digits, same_digits, begins_digits, begins_decimal, decimal_more}
use Rattle.dewey_labels.proofs.LabelTexts.{AllSmall, after, after_no_digit, label_text-cons, text_some, label_text-injective, goes_on, text_behind, IsTextByte, text_bytes}
use Rattle.dewey_labels.proofs.Labels.{ends_odd, label_ends_odd, low, are_codes-tail}
use Rattle.dewey_labels.specs.Lists.{is_empty}

-- a division of a label
pub record IsDivision (ds : List ℕ) (d : ℕ) (more : List ℕ) : Type 0 where
  pub small : d ≤ greatest
  pub first : is_empty ds ≡ true → d ≡ 1
  pub later : is_empty ds ≡ false → 2 ≤ d
  pub room : length ds + length more < most_divisions
  pub last : is_empty more ≡ true → is_odd d ≡ true

small_at : (ds : List ℕ) (d : ℕ) (more : List ℕ) → AllSmall (ds ++ d ∷ more) → d ≤ greatest
small_at [] d more s = s.0
small_at (x ∷ ds) d more s = small_at ds d more s.1

codes_low : (ds : List ℕ) (d : ℕ) (more : List ℕ) → are_codes (ds ++ d ∷ more) ≡ true → 2 ≤ d
codes_low [] d more h = elim (is_odd d) as (λ b. cond b (nat_le 3 d) (nat_le 2 d) ≡ true → 2 ≤ d) [ true ↦ λ g. omega (arith, leb-true 3 d g) | false ↦ λ g. leb-true 2 d g ] (low d more h)
codes_low (x ∷ []) d more h = codes_low [] d more (are_codes-tail x d more h)
codes_low (x ∷ y ∷ ds) d more h = codes_low (y ∷ ds) d more (are_codes-tail x y (ds ++ d ∷ more) h)

end_odd : (ds : List ℕ) (d : ℕ) → ends_odd (ds ++ d ∷ []) ≡ true → is_odd d ≡ true
end_odd [] d h = h
end_odd (x ∷ []) d h = h
end_odd (x ∷ y ∷ ds) d h = end_odd (y ∷ ds) d h

pub division_of : (ds : List ℕ) (d : ℕ) (more : List ℕ) → IsLabel (ds ++ d ∷ more) → IsDivision ds d more
division_of ds d more h = record {
  small = small_at ds d more h.1.1;
  first = first ds h.0;
  later = later ds h.0;
  room = omega (arith, h.1.0, length-append ds (d ∷ more));
  last = last more h.0;
}
  where
    first : (ds : List ℕ) → is_label (ds ++ d ∷ more) ≡ true → is_empty ds ≡ true → d ≡ 1
    first [] i e = eqb-true d 1 (and_parts _ _ i).0
    first (x ∷ ds) i e = absurd (true≢false (sym e))

    later : (ds : List ℕ) → is_label (ds ++ d ∷ more) ≡ true → is_empty ds ≡ false → 2 ≤ d
    later [] i e = absurd (true≢false e)
    later (x ∷ ds) i e = codes_low ds d more (and_parts _ _ i).1

    last : (more : List ℕ) → is_label (ds ++ d ∷ more) ≡ true → is_empty more ≡ true → is_odd d ≡ true
    last [] i e = end_odd ds d (label_ends_odd (ds ++ d ∷ []) i)
    last (x ∷ more) i e = absurd (true≢false (sym e))

-- the division of a label's text at which t stands behind ended divisions
pub record Next (ds t : List ℕ) : Type 0 where
  pub division : ℕ
  pub more : Label
  pub rest : List ℕ
  pub is : IsDivision ds division more
  pub text : t ++ rest ≡ decimal division ++ after more

pub next : (ds t : List ℕ) → AllSmall ds → is_empty t ≡ false → BeginsLabelText (ended_text ds ++ t) → Next ds t
next ds t s n b =
    let l = b.1.0 in
    let at = goes_on ds (t ++ b.0) l s b.1.1.1.1 (sym (append_assoc (ended_text ds) t b.0) ∙ b.1.2) in
    found at.behind (subst IsLabel at.is b.1.1) at.text
  where
    not_nothing : (t r : List ℕ) → is_empty t ≡ false → t ++ r ≡ [] → ⊥
    not_nothing [] r n e = true≢false n
    not_nothing (x ∷ t) r n e = cc

    found : (w : Label) → IsLabel (ds ++ w) → t ++ b.0 ≡ label_text w → Next ds t
    found [] i e = absurd (not_nothing t b.0 n e)
    found (d ∷ w) i e = record { division = d; more = w; rest = b.0; is = division_of ds d w i; text = e ∙ label_text-cons d w }

begun_more : (n : ℕ) → n ≢ 0 → begun_text n ≡ decimal n
begun_more n h = cond-false (n == 0) [] (decimal n) (ne_eqb n 0 h)

pub begun_digits : (n : ℕ) → n ≤ greatest → Digits (begun_text n)
begun_digits n s = elim (n == 0) as (λ b. Digits (cond b [] (decimal n))) [ true ↦ tt | false ↦ decimal_digits n (omega arith) ]

pub division_fits : (k n : ℕ) → begins_division k n ≡ true → (1 ≤ n) × (n ≤ greatest)
division_fits zero n h = let e : n ≡ 1 = eqb-true n 1 h in (omega arith, omega arith)
division_fits (suc k) n h =
    let p = and_parts (nat_lt 0 n) (nat_le n greatest && (not (k + 2 == most_divisions) || begins_odd n)) h in
    (ltb-true 0 n p.0, leb-true n greatest (and_parts (nat_le n greatest) (not (k + 2 == most_divisions) || begins_odd n) p.1).0)

pub number_fits : (ds : List ℕ) (n : ℕ) → CanGoOn ds n → n ≤ greatest
number_fits ds n g = elim (cases_eq n 0) [ inl e ↦ omega arith | inr h ↦ (division_fits (length ds) n (g.number h)).1 ]

-- digits read behind a number
number_is : (n c q : ℕ) → n ≤ greatest → c < 10 → q ≤ greatest → begun_text n ++ (48 + c) ∷ [] ≡ decimal q → q ≡ n * 10 + c
number_is n c q s t u h =
    elim (cases_eq n 0) [
      | inl e ↦
          let k : decimal c ≡ decimal q = decimal_digit c t ∙ subst (λ m. begun_text m ++ (48 + c) ∷ [] ≡ decimal q) e h in
          let i = decimal_injective c q (omega arith) (omega arith) k in
          omega arith
      | inr m ↦
          let k : decimal (n * 10 + c) ≡ decimal q = decimal_more n c (omega arith) t (omega arith) ∙ ap (λ w. w ++ (48 + c) ∷ []) (sym (begun_more n m)) ∙ h in
          sym (decimal_injective (n * 10 + c) q (omega arith) (omega arith) k)
    ]

-- a number whose digits begin a division of a label may begin one
begins_it : (ds : List ℕ) (d : ℕ) (more : List ℕ) (q : ℕ) → IsDivision ds d more → (q ≡ d) ⊎ ((1 ≤ q) × (q * 10 ≤ d)) → begins_division (length ds) q ≡ true
begins_it [] d more q at h =
    let one = at.first refl in
    elim h [ inl e ↦ eq-eqb q 1 (omega arith) | inr k ↦ absurd (omega (arith, k.0, k.1)) ]
begins_it (x ∷ ds) d more q at h =
    let two = at.later refl in
    let some : 1 ≤ q = elim h [ inl e ↦ omega arith | inr k ↦ k.0 ] in
    let fits : q ≤ greatest = elim h [ inl e ↦ omega (arith, at.small) | inr k ↦ omega (arith, at.small, k.1) ] in
    and_from _ _ (lt-ltb 0 q (omega arith)) (and_from _ _ (le-leb q greatest fits) (odd (cases_Bool (length ds + 2 == most_divisions)) h))
  where
    none : (w : List ℕ) → length w ≡ 0 → is_empty w ≡ true
    none [] e = refl
    none (y ∷ w) e = absurd (omega arith)

    odd : ((length ds + 2 == most_divisions) ≡ true) ⊎ ((length ds + 2 == most_divisions) ≡ false) → (q ≡ d) ⊎ ((1 ≤ q) × (q * 10 ≤ d)) → (not (length ds + 2 == most_divisions) || begins_odd q) ≡ true
    odd (inr f) h = or_left _ _ (ap not f)
    odd (inl f) (inl e) = or_right _ _ (or_left _ _ (ap is_odd e ∙ at.last (none more (omega (arith, at.room, eqb-true _ _ f)))))
    odd (inl f) (inr k) =
        let o = eqb-true _ _ (at.last (none more (omega (arith, at.room, eqb-true _ _ f)))) in
        or_right _ _ (or_right _ _ (lt-ltb (q * 10) greatest (omega (arith, at.small, k.1, o))))

-- a digit is refused where no label's text goes on with it
pub refused_digit : (ds : List ℕ) (n c : ℕ) → CanGoOn ds n → c < 10 → begins_division (length ds) (n * 10 + c) ≡ false → BeginsLabelText (text_so_far ds n ++ (48 + c) ∷ []) → ⊥
refused_digit ds n c g t f b =
    let fits = number_fits ds n g in
    let at = next ds (begun_text n ++ (48 + c) ∷ []) g.small (some (begun_text n)) (subst BeginsLabelText (append_assoc (ended_text ds) (begun_text n) ((48 + c) ∷ [])) b) in
    let digits = digits_on (begun_text n) ((48 + c) ∷ []) (begun_digits n fits) ((omega arith, omega arith), tt) in
    let small = at.is.small in
    let begun = begins_digits (begun_text n ++ (48 + c) ∷ []) (decimal at.division) at.rest (after at.more) digits (after_no_digit at.more) at.text in
    let r = begins_decimal at.division (omega arith) (begun_text n ++ (48 + c) ∷ []) begun.rest begun.is (some (begun_text n)) in
    let size : (r.number ≡ at.division) ⊎ ((1 ≤ r.number) × (r.number * 10 ≤ at.division)) = elim (r.size) [ inl k ↦ inl k.1 | inr k ↦ inr k ] in
    let q : r.number ≡ n * 10 + c = number_is n c r.number fits t (elim size [ inl k ↦ omega (arith, small, k) | inr k ↦ omega (arith, small, k.1) ]) r.is in
    both_ways (begins_division (length ds) (n * 10 + c)) f (subst (λ v. begins_division (length ds) v ≡ true) q (begins_it ds at.division at.more r.number at.is size))
  where
    some : (w : List ℕ) → is_empty (w ++ (48 + c) ∷ []) ≡ false
    some [] = refl
    some (x ∷ w) = refl

-- a point is refused where no label's text goes on with it
length_of_more : (more : Label) (v : List ℕ) → 46 ∷ v ≡ after more → 1 ≤ length more
length_of_more [] v e = absurd (cc)
length_of_more (x ∷ more) v e = omega arith

ends_it : (ds : List ℕ) (d : ℕ) (more : Label) → IsDivision ds d more → 1 ≤ length more → ends_division (length ds) d ≡ true
ends_it [] d more at m = eq-eqb d 1 (at.first refl)
ends_it (x ∷ ds) d more at m = and_from _ _ (le-leb 2 d (at.later refl)) (lt-ltb (length ds + 2) most_divisions (omega (arith, at.room)))

pub refused_point : (ds : List ℕ) (n : ℕ) → CanGoOn ds n → ends_division (length ds) n ≡ false → BeginsLabelText (text_so_far ds n ++ 46 ∷ []) → ⊥
refused_point ds n g f b =
    let fits = number_fits ds n g in
    let at = next ds (begun_text n ++ 46 ∷ []) g.small (some (begun_text n)) (subst BeginsLabelText (append_assoc (ended_text ds) (begun_text n) (46 ∷ [])) b) in
    let small = at.is.small in
    let r = same_digits (begun_text n) (decimal at.division) (46 ∷ at.rest) (after at.more) (begun_digits n fits) (decimal_digits at.division (omega arith)) (λ k. omega arith) (after_no_digit at.more) (sym (append_assoc (begun_text n) (46 ∷ []) at.rest) ∙ at.text) in
    both_ways (ends_division (length ds) n) f (subst (λ m. ends_division (length ds) m ≡ true) (sym (whole at.division small r.0)) (ends_it ds at.division at.more at.is (length_of_more at.more at.rest r.1)))
  where
    some : (w : List ℕ) → is_empty (w ++ 46 ∷ []) ≡ false
    some [] = refl
    some (x ∷ w) = refl

    whole : (d : ℕ) → d ≤ greatest → begun_text n ≡ decimal d → n ≡ d
    whole d s e =
        elim (cases_eq n 0) [
          | inl z ↦ absurd (omega (arith, ap length (sym e ∙ ap begun_text z), decimal_nonempty d (omega arith)))
          | inr m ↦ decimal_injective n d (omega (arith, number_fits ds n g)) (omega arith) (sym (begun_more n m) ∙ e)
        ]

-- what is neither a digit nor a point is refused
pub refused_other : (t : List ℕ) (b : ℕ) → (IsTextByte b → ⊥) → BeginsLabelText (t ++ b ∷ []) → ⊥
refused_other t b n h = n (byte_at t h.0 (subst (AllByRecursion IsTextByte) (sym h.1.2 ∙ append_assoc t (b ∷ []) h.0) (text_bytes h.1.0 h.1.1.1.1)))
  where
    byte_at : (t r : List ℕ) → AllByRecursion IsTextByte (t ++ b ∷ r) → IsTextByte b
    byte_at [] r a = a.0
    byte_at (x ∷ t) r a = byte_at t r a.1

-- what a digit makes of the text
pub taken_digit : (ds : List ℕ) (n c : ℕ) → CanGoOn ds n → c < 10 → begins_division (length ds) (n * 10 + c) ≡ true → text_so_far ds (n * 10 + c) ≡ text_so_far ds n ++ (48 + c) ∷ []
taken_digit ds n c g t h =
    let fits = division_fits (length ds) (n * 10 + c) h in
    ap (λ v. ended_text ds ++ v) (begun_more (n * 10 + c) (omega (arith, fits)) ∙ one_more) ∙ sym (append_assoc (ended_text ds) (begun_text n) ((48 + c) ∷ []))
  where
    one_more : decimal (n * 10 + c) ≡ begun_text n ++ (48 + c) ∷ []
    one_more =
        elim (cases_eq n 0) [
          | inl z ↦ subst (λ m. decimal (m * 10 + c) ≡ begun_text m ++ (48 + c) ∷ []) (sym z) (ap decimal (omega arith) ∙ decimal_digit c t)
          | inr m ↦ decimal_more n c (omega arith) t (omega (arith, (division_fits (length ds) (n * 10 + c) h).1)) ∙ ap (λ v. v ++ (48 + c) ∷ []) (sym (begun_more n m))
        ]

pub goes_on_by_digit : (ds : List ℕ) (n q : ℕ) → CanGoOn ds n → begins_division (length ds) q ≡ true → CanGoOn ds q
goes_on_by_digit ds n q g h = record { ended = g.ended; small = g.small; room = g.room; number = λ _. h }

-- what a point makes of the text
ended-push : (ds : List ℕ) (n : ℕ) → ended_text (ds ++ n ∷ []) ≡ ended_text ds ++ (decimal n ++ 46 ∷ [])
ended-push [] n = refl
ended-push (d ∷ ds) n = ap (λ v. decimal d ++ (46 ∷ v)) (ended-push ds n) ∙ sym (append_assoc (decimal d) (46 ∷ ended_text ds) (decimal n ++ 46 ∷ []))

pub taken_point : (ds : List ℕ) (n : ℕ) → n ≢ 0 → text_so_far (ds ++ n ∷ []) 0 ≡ text_so_far ds n ++ 46 ∷ []
taken_point ds n m =
    append-nil (ended_text (ds ++ n ∷ [])) ∙ ended-push ds n ∙ ap (λ v. ended_text ds ++ (v ++ 46 ∷ [])) (sym (begun_more n m)) ∙ sym (append_assoc (ended_text ds) (begun_text n) (46 ∷ []))

small_push : (ds : List ℕ) (n : ℕ) → AllSmall ds → n ≤ greatest → AllSmall (ds ++ n ∷ [])
small_push [] n s h = (h, tt)
small_push (d ∷ ds) n s h = (s.0, small_push ds n s.1 h)

pub goes_on_by_point : (ds : List ℕ) (n : ℕ) → CanGoOn ds n → ends_division (length ds) n ≡ true → CanGoOn (ds ++ n ∷ []) 0
goes_on_by_point ds n g h = record {
  ended = begun ds g.ended h;
  small = small_push ds n g.small (number_fits ds n g);
  room = omega (arith, room ds h, length-append ds (n ∷ []));
  number = λ z. absurd (z refl);
}
  where
    all_push : (ds : List ℕ) → list_all (nat_le 2) ds ≡ true → nat_le 2 n ≡ true → list_all (nat_le 2) (ds ++ n ∷ []) ≡ true
    all_push [] a m = and_from _ _ m refl
    all_push (x ∷ ds) a m = and_from _ _ (and_parts _ _ a).0 (all_push ds (and_parts _ _ a).1 m)

    begun : (ds : List ℕ) → begin_label ds ≡ true → ends_division (length ds) n ≡ true → begin_label (ds ++ n ∷ []) ≡ true
    begun [] b k = and_from _ _ k refl
    begun (x ∷ ds) b k = and_from _ _ (and_parts _ _ b).0 (all_push ds (and_parts _ _ b).1 (and_parts _ _ k).0)

    room : (ds : List ℕ) → ends_division (length ds) n ≡ true → length ds + 1 < most_divisions
    room [] k = omega arith
    room (x ∷ ds) k = omega (arith, ltb-true (length ds + 2) most_divisions (and_parts _ _ k).1)

pub ended_some : (ds : List ℕ) (n : ℕ) → ends_division (length ds) n ≡ true → n ≢ 0
ended_some [] n h z = omega (arith, eqb-true n 1 h)
ended_some (x ∷ ds) n h z = omega (arith, leb-true 2 n (and_parts (nat_le 2 n) (nat_lt (length ds + 2) most_divisions) h).0)

-- nothing was read
pub begins_with_nothing : CanGoOn [] 0
begins_with_nothing = record { ended = refl; small = tt; room = omega arith; number = λ z. absurd (z refl) }

-- how long the text of so many divisions may be
ended_length : (ds : List ℕ) → AllSmall ds → length (ended_text ds) ≤ 11 * length ds
ended_length [] s = omega arith
ended_length (d ∷ ds) s = omega (arith, length-append (decimal d) (46 ∷ ended_text ds), length-decimal-le 10 d (omega arith) (omega arith) (omega arith), ended_length ds s.1)

pub short : (ds : List ℕ) (n : ℕ) → CanGoOn ds n → length (text_so_far ds n) ≤ 2804
short ds n g = omega (arith, length-append (ended_text ds) (begun_text n), ended_length ds g.small, begun_length, g.room)
  where
    begun_length : length (begun_text n) ≤ 10
    begun_length = elim (n == 0) as (λ b. length (cond b [] (decimal n)) ≤ 10) [ true ↦ omega arith | false ↦ length-decimal-le 10 n (omega arith) (omega (arith, number_fits ds n g)) (omega (arith, number_fits ds n g)) ]

-- the end of the text: where a number was begun, it is the last division
pub whole_text : (ds : List ℕ) (n : ℕ) → n ≢ 0 → text_so_far ds n ≡ label_text (ds ++ n ∷ [])
whole_text ds n m = ap (λ v. ended_text ds ++ v) (begun_more n m) ∙ sym (text_behind ds n [])

pub not_whole : (ds : List ℕ) (n : ℕ) → CanGoOn ds n → n ≢ 0 → (IsLabel (ds ++ n ∷ []) → ⊥) → IsLabelText (text_so_far ds n) → ⊥
not_whole ds n g m h t =
    h (subst IsLabel (sym (label_text-injective (ds ++ n ∷ []) t.0 (small_push ds n g.small (number_fits ds n g)) t.1.1.1 (sym (whole_text ds n m) ∙ t.2))) t.1)

-- what is found of the divisions that were read
pub found_whole : (r : Option Label) (v t : Label) → (IsSome r → IsLabel v) → IfSome r (λ l. l ≡ v) → t ≡ label_text v → IfSome r (λ l. IsLabel l × (t ≡ label_text l))
found_whole None v t s e h = tt
found_whole (Some l) v t s e h = (subst IsLabel (sym e) (s refl), h ∙ ap label_text (sym e))

pub found_none : (r : Option Label) (v t : Label) → (IsLabel v → IsSome r) → ((IsLabel v → ⊥) → IsLabelText t → ⊥) → IfNone r (¬ (IsLabelText t))
found_none None v t s h = h (λ i. true≢false (sym (s i)))
found_none (Some l) v t s h = tt

-- where none was begun, the text is not whole
pub not_begun : (ds : List ℕ) → CanGoOn ds 0 → IsLabelText (text_so_far ds 0) → ⊥
not_begun ds g t =
    let at = goes_on ds [] t.0 g.small t.1.1.1 t.2 in
    nothing ds at.behind at.text (subst IsLabel at.is t.1) at.some
  where
    nothing : (ds w : List ℕ) → [] ≡ label_text w → IsLabel (ds ++ w) → (is_empty ds ≡ false → is_empty w ≡ false) → ⊥
    nothing [] [] e i s = true≢false (sym i.0)
    nothing (x ∷ ds) [] e i s = true≢false (s refl)
    nothing ds (d ∷ w) e i s = text_some d w (small_at ds d w i.1.1) (sym e)

odd_three : (d : ℕ) → 2 ≤ d → is_odd d ≡ true → 3 ≤ d
odd_three d h o = omega (arith, eqb-true (d % 2) 1 o)

-- behind divisions of a label, codes make it whole
codes_behind : (ds w : List ℕ) → list_all (nat_le 2) ds ≡ true → is_empty w ≡ false → are_codes w ≡ true → are_codes (ds ++ w) ≡ true
codes_behind [] w a e h = h
codes_behind (d ∷ ds) w a e h =
    let two = leb-true 2 d (and_parts _ _ a).0 in
    let rest : are_codes (ds ++ w) ≡ true = codes_behind ds w (and_parts _ _ a).1 e h in
    elim (cases_Bool (is_odd d)) [
      | inl o ↦ cond-true _ _ _ o ∙ and_from _ _ (le-leb 3 d (odd_three d two o)) rest
      | inr o ↦ cond-false _ _ _ o ∙ and_from _ _ (and_parts _ _ a).0 (and_from _ _ (ap not (some ds)) rest)
    ]
  where
    some : (ds : List ℕ) → is_empty (ds ++ w) ≡ false
    some [] = e
    some (x ∷ ds) = refl

label_behind : (ds w : List ℕ) → begin_label ds ≡ true → is_empty ds ≡ false → is_empty w ≡ false → are_codes w ≡ true → is_label (ds ++ w) ≡ true
label_behind [] w b d e h = absurd (true≢false d)
label_behind (x ∷ ds) w b d e h = and_from _ _ (and_parts _ _ b).0 (codes_behind ds w (and_parts _ _ b).1 e h)

all_on : (a b : List ℕ) → AllSmall a → AllSmall b → AllSmall (a ++ b)
all_on [] b s t = t
all_on (x ∷ a) b s t = (s.0, all_on a b s.1 t)

-- the text so far begins that of ds and codes
completed : (ds : List ℕ) (n e : ℕ) (w r : List ℕ) → IsLabel (ds ++ e ∷ w) → begun_text n ++ r ≡ label_text (e ∷ w) → BeginsLabelText (text_so_far ds n)
completed ds n e w r i h = (r, (ds ++ e ∷ w, i, append_assoc (ended_text ds) (begun_text n) r ∙ ap (λ v. ended_text ds ++ v) h ∙ sym (text_behind ds e w)))

with_codes : (ds : List ℕ) (n e : ℕ) (w r : List ℕ) → CanGoOn ds n → is_empty ds ≡ false → are_codes (e ∷ w) ≡ true → AllSmall (e ∷ w) → length ds + length w < most_divisions → begun_text n ++ r ≡ label_text (e ∷ w) → BeginsLabelText (text_so_far ds n)
with_codes ds n e w r g d c s m h =
    completed ds n e w r (label_behind ds (e ∷ w) g.ended d refl c, (omega (arith, length-append ds (e ∷ w)), all_on ds (e ∷ w) g.small s)) h

-- what a reader has read is a prefix of some label's text
pub can_go_on_begins : (ds : List ℕ) (n : ℕ) → CanGoOn ds n → BeginsLabelText (text_so_far ds n)
can_go_on_begins ds n g = elim (cases_eq n 0) [ inl z ↦ subst (λ m. CanGoOn ds m → BeginsLabelText (text_so_far ds m)) (sym z) (nothing ds) g | inr m ↦ begun ds g m ]
  where
    nothing : (ds : List ℕ) → CanGoOn ds 0 → BeginsLabelText (text_so_far ds 0)
    nothing [] g = (decimal 1, (1 ∷ [], (refl, (omega arith, (omega arith, tt))), refl))
    nothing (x ∷ ds) g = with_codes (x ∷ ds) 0 3 [] (decimal 3) g refl refl (omega arith, tt) (omega (arith, g.room)) refl

    large : (ds : List ℕ) → CanGoOn ds n → is_empty ds ≡ false → n ≢ 0 → greatest ≤ n * 10 → BeginsLabelText (text_so_far ds n)
    large ds g d m k =
        elim (cases_Bool (is_odd n)) [
          | inl o ↦ with_codes ds n n [] [] g d (cond-true _ _ _ o ∙ and_from _ _ (le-leb 3 n (omega arith)) refl) (number_fits ds n g, tt) (omega (arith, g.room)) (append-nil _ ∙ begun_more n m)
          | inr o ↦ with_codes ds n n (3 ∷ []) (46 ∷ decimal 3) g d (cond-false _ _ _ o ∙ and_from _ _ (le-leb 2 n (omega arith)) refl) (number_fits ds n g, (omega arith, tt)) (room ds g d o) (ap (λ v. v ++ (46 ∷ decimal 3)) (begun_more n m))
        ]
      where
        room : (ds : List ℕ) → CanGoOn ds n → is_empty ds ≡ false → is_odd n ≡ false → length ds + 1 < most_divisions
        room [] g d o = absurd (true≢false d)
        room (x ∷ ds) g d o =
            let q = and_parts (nat_le n greatest) (not (length ds + 2 == most_divisions) || begins_odd n) (and_parts (nat_lt 0 n) (nat_le n greatest && (not (length ds + 2 == most_divisions) || begins_odd n)) (g.number m)).1 in
            elim (or_cases (not (length ds + 2 == most_divisions)) (begins_odd n) q.1) [
              | inl v ↦ omega (arith, g.room, eqb-false (length ds + 2) most_divisions (not-true _ v))
              | inr v ↦ absurd (elim (or_cases (is_odd n) (nat_lt (n * 10) greatest) v) [ inl y ↦ both_ways _ o y | inr y ↦ omega (arith, k, ltb-true (n * 10) greatest y) ])
            ]

    begun : (ds : List ℕ) → CanGoOn ds n → n ≢ 0 → BeginsLabelText (text_so_far ds n)
    begun [] g m =
        let e : n ≡ 1 = eqb-true n 1 (g.number m) in
        completed [] n 1 [] [] (refl, (omega arith, (omega arith, tt))) (append-nil (begun_text n) ∙ begun_more n m ∙ ap decimal e)
    begun (x ∷ ds) g m =
        elim (cases_Bool (nat_lt (n * 10) greatest)) [
          | inl f ↦
              let k = ltb-true (n * 10) greatest f in
              with_codes (x ∷ ds) n (n * 10 + 1) [] (49 ∷ []) g refl (odd_code k) (omega arith, tt) (omega (arith, g.room)) (ap (λ v. v ++ 49 ∷ []) (begun_more n m) ∙ sym (decimal_more n 1 (omega arith) (omega arith) (omega arith)))
          | inr f ↦ large (x ∷ ds) g refl m (ltb-false (n * 10) greatest f)
        ]
      where
        odd_code : n * 10 < greatest → are_codes ((n * 10 + 1) ∷ []) ≡ true
        odd_code k =
            let o : is_odd (n * 10 + 1) ≡ true = eq-eqb _ _ (omega arith) in
            cond-true _ _ _ o ∙ and_from _ _ (le-leb 3 (n * 10 + 1) (omega arith)) refl

-- a shorter prefix is a prefix too
begins_shorter : (t : List ℕ) (m n : ℕ) → m ≤ n → BeginsLabelText (take n t) → BeginsLabelText (take m t)
begins_shorter t m n h b = (drop m (take n t) ++ b.0, (b.1.0, b.1.1, whole ∙ b.1.2))
  where
    shorter : (m n : ℕ) (t : List ℕ) → m ≤ n → take m (take n t) ≡ take m t
    shorter zero n t h = refl
    shorter (suc m) zero t h = absurd (omega arith)
    shorter (suc m) (suc n) [] h = refl
    shorter (suc m) (suc n) (x ∷ t) h = ap (λ v. x ∷ v) (shorter m n t (omega arith))

    whole : take m t ++ (drop m (take n t) ++ b.0) ≡ take n t ++ b.0
    whole = sym (append_assoc (take m t) (drop m (take n t)) b.0) ∙ ap (λ v. (v ++ drop m (take n t)) ++ b.0) (sym (shorter m n t h)) ∙ ap (λ v. v ++ b.0) (take-append-drop m (take n t))

-- where a byte is refused, the bytes before it are the longest prefix
pub refused_at : (t : List ℕ) (i p : ℕ) → i < length t → p ≡ length (take i t) → BeginsLabelText (take i t) → (BeginsLabelText (take i t ++ get_or t i 0 ∷ []) → ⊥) → IsNoLabelText t p
refused_at t i p m e b n = record {
  none = λ x. beyond (suc i) (omega arith) (drop (suc i) t, (x.0, x.1, take-append-drop (suc i) t ∙ x.2));
  within = omega (arith, place);
  begins = subst (λ k. BeginsLabelText (take k t)) (sym place) b;
  longest = λ k s c. elim (cases_lt i k) [ inl f ↦ absurd (beyond k f c) | inr f ↦ omega (arith, place, f) ];
}
  where
    place : p ≡ i
    place = e ∙ length-take-le i t (omega arith)

    beyond : (k : ℕ) → i < k → BeginsLabelText (take k t) → ⊥
    beyond k f c = n (subst BeginsLabelText (take-suc t i 0 m) (begins_shorter t (suc i) k f c))

-- what was written of a label is read as that label
pub read_again : {E : Type 0} (r : Result Label E) (o : Option Label) (e : E) (t u : List ℕ) → r ≡ ok_or o e → t ≡ u → IfSome o (λ l. IsLabel l × (t ≡ label_text l)) → IfOk r (λ read. (l : Label) → IsLabel l → u ≡ label_text l → read ≡ l)
read_again r o e t u f g h = subst (λ v. IfOk v (λ read. (l : Label) → IsLabel l → u ≡ label_text l → read ≡ l)) (sym f) (of_found o h)
  where
    of_found : (o : Option Label) → IfSome o (λ l. IsLabel l × (t ≡ label_text l)) → IfOk (ok_or o e) (λ read. (l : Label) → IsLabel l → u ≡ label_text l → read ≡ l)
    of_found None h = tt
    of_found (Some k) h = λ l i x. label_text-injective k l h.0.1.1 i.1.1 (sym h.1 ∙ g ∙ x)
