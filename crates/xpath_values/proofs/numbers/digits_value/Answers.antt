use Rattle.std.proofs.Common.{◌≡◌, ℕ, ◌^◌, ◌<◌, ◌≤◌, true, List, [], length, drop, pos, ℤ, ◌≤ℤ◌, Some, None, if◌then◌else◌, to_z, w64, sym, ap, subst, ◌∙◌, arith, rules, tests}
use Rattle.std.proofs.Math.Nat.{pow-le-pow_right}
use Rattle.std.proofs.lemmas.Int.{to_z_pos}
use Rattle.std.proofs.lemmas.List.{drop_all}
use Rattle.std.specs.List.{list_all}
use Rattle.path_model.specs.Numbers.{digits_value, is_digit, are_digits}
use Rattle.xpath_values.proofs.numbers.digits_value.Goals as goal

-- before the eighteenth digit there is room for one more
room : (i v : ℕ) → i ≤ 17 → v < 10 ^ i → v < 10 ^ 17
room i v few below = let most : 10 ^ i ≤ 10 ^ 17 = pow-le-pow_right (omega arith) few in omega arith

room_at_end : (i v : ℕ) → i ≤ 18 → v < 10 ^ i → v < 10 ^ 18
room_at_end i v few below = let most : 10 ^ i ≤ 10 ^ 18 = pow-le-pow_right (omega arith) few in omega arith

are_so : (ds : List ℕ) → 0 < length ds → length ds ≤ 18 → list_all is_digit ds ≡ true → are_digits ds ≡ true
are_so ds some few all = search (rules, tests)

-- at the end the value so far is the whole one
at_end : (ds : List ℕ) (i v : ℕ) → length ds ≤ i → 0 < length ds → length ds ≤ 18 → digits_value v (drop i ds) ≡ digits_value 0 ds → list_all is_digit (drop i ds) ≡ list_all is_digit ds
    → Some (pos v) ≡ (if are_digits ds then Some (pos (digits_value 0 ds)) else None)
at_end ds i v end some few whole digits =
    let none : drop i ds ≡ [] = drop_all i ds end in
    let v_is : v ≡ digits_value 0 ds = ap (digits_value v) (sym none) ∙ whole in
    let all : list_all is_digit ds ≡ true = sym digits ∙ ap (list_all is_digit) none in
    rw (are_so ds some few all) (ap (λ n. Some (pos n)) v_is)

pub overflow_mul-value : goal.overflow_mul-value
overflow_mul-value c =
    let small = room c.loop-digit.digit-index c.loop-digit.value (omega arith) c.loop-digit.invariant.below in
    omega arith

pub overflow_add-value : goal.overflow_add-value
overflow_add-value c =
    let small = room c.loop-digit.digit-index c.loop-digit.value (omega arith) c.loop-digit.invariant.below in
    let byte = c.type_inv.digits c.loop-digit.digit-index in
    omega arith

pub overflow_cast-result : goal.overflow_cast-result
overflow_cast-result c =
    let small = room_at_end c.loop-digit.digit-index c.loop-digit.value (omega arith) c.loop-digit.invariant.below in
    search rules

pub returns-clause-value : goal.returns-clause-value
returns-clause-value c =
    let small = room_at_end c.loop-digit.digit-index c.loop-digit.value (omega arith) c.loop-digit.invariant.below in
    let same : to_z w64 c.loop-digit.value ≡ pos c.loop-digit.value = to_z_pos w64 c.loop-digit.value (omega arith) in
    let some : 0 < length c.args.digits.now = grind arith in
    let held = c.loop-digit.invariant in
    ap Some same ∙ at_end c.args.digits.now c.loop-digit.digit-index c.loop-digit.value c.loop-digit-test.false some c.if-digits-gt-MOST_DIGITS.false held.whole held.digits

pub returns-clause-small : goal.returns-clause-small
returns-clause-small c =
    let small = room_at_end c.loop-digit.digit-index c.loop-digit.value (omega arith) c.loop-digit.invariant.below in
    let same : to_z w64 c.loop-digit.value ≡ pos c.loop-digit.value = to_z_pos w64 c.loop-digit.value (omega arith) in
    subst (λ (z : ℤ). pos 0 ≤ℤ z) (sym same) (search rules)
