-- Reads that follow one another, and the bytes that they take.
use Rattle.std.proofs.Common.{◌≡◌, ℕ, zero, suc, ◌+◌, Bool, true, false, ◌&&◌, List, [], ◌∷◌, ◌++◌, length, drop, Option, Some, None, refl, sym, ap, ◌∙◌, append_assoc, arith, length-append}
use Rattle.std.proofs.lemmas.List.{drop-drop}
use Rattle.node_records.specs.Reads.{◌>>=◌, Takes}
use Rattle.outside_traits.specs.Bytes.{IsBytes}

-- the values of two reads, the second behind the first
pub bind_some : {A B : Type 0} (r : Option A) (f : A → Option B) (y : B) → (r >>= f) ≡ Some y → (x : A) × (r ≡ Some x) × (f x ≡ Some y)
bind_some None f y e = cc
bind_some (Some x) f y e = (x, refl, e)

pub takes_then : (a b bytes : List ℕ) (n m : ℕ) → Takes a n bytes → Takes b m (drop n bytes) → Takes (a ++ b) (n + m) bytes
takes_then a b bytes n m p q = record {
  parts = p.parts ∙ ap (λ (t : List ℕ). a ++ t) (q.parts ∙ ap (λ (t : List ℕ). b ++ t) (drop-drop m n bytes)) ∙ sym (append_assoc a b (drop (n + m) bytes));
  count = omega (arith, p.count, q.count, length-append a b);
}

-- what stands at the start is no longer than the bytes
pub takes_within : (a bytes : List ℕ) (n : ℕ) → Takes a n bytes → length bytes ≡ n + length (drop n bytes)
takes_within a bytes n t = ap (λ (x : List ℕ). length x) t.parts ∙ length-append a (drop n bytes) ∙ ap (λ (k : ℕ). k + length (drop n bytes)) (sym t.count)

pub bytes_drop : (n : ℕ) (bytes : List ℕ) → IsBytes bytes → IsBytes (drop n bytes)
bytes_drop zero bytes h = h
bytes_drop (suc n) [] h = tt
bytes_drop (suc n) (b ∷ bs) h = bytes_drop n bs h.1

pub both : (a b : Bool) → (a && b) ≡ true → (a ≡ true) × (b ≡ true)
both true b h = (refl, h)
both false b h = cc
