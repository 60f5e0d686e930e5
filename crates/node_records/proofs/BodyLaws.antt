-- The bytes of changes one after another: what is written is read again, what is read was written so.
use Rattle.std.proofs.Common.{◌≡◌, ℕ, zero, suc, ◌≤◌, List, [], ◌∷◌, ◌++◌, length, drop, Option, Some, None, refl, ap, subst, ◌∙◌, arith, length-append}
use Rattle.std.proofs.lemmas.List.{drop_at}
use Rattle.std.proofs.lemmas.Option.{none-some, same_Some}
use Rattle.std.specs.List.{AllByRecursion}
use Rattle.tree_model.specs.declared.change.Change.{Change}
use Rattle.tree_model.specs.declared.key.Key.{Key}
use Rattle.tree_model.specs.declared.record.Record.{Record}
use Rattle.node_records.specs.Reads.{◌>>=◌}
use Rattle.outside_traits.specs.Bytes.{IsBytes}
use Rattle.node_records.specs.Changes.{bytes_of, change_bytes, change_in, IsWritableChange, changes_bytes, changes_from, changes_of}
use Rattle.node_records.proofs.ReadLaws.{bind_some, bytes_drop}
use Rattle.node_records.proofs.ChangeLaws.{change_again, change_written}

-- the change at the start is the first one
one_more : (n : ℕ) (bytes : List ℕ) (y : Change × ℕ) → change_in bytes ≡ Some y → changes_from (suc n) bytes ≡ (changes_from n (drop y.1 bytes) >>= λ cs. Some (y.0 ∷ cs))
one_more n [] y e = absurd (none-some y e)
one_more n (b ∷ bs) y e = ap (λ r. r >>= λ c. changes_from n (drop c.1 (b ∷ bs)) >>= λ cs. Some (c.0 ∷ cs)) e

-- a change takes a byte at least
some_bytes : (k : Key) (now : Option Record) → 1 ≤ length (bytes_of k now)
some_bytes k None = omega arith
some_bytes k (Some r) = omega arith

none_left : (n : ℕ) → changes_from n [] ≡ Some []
none_left zero = refl
none_left (suc n) = refl

from_again : (cs : List Change) (n : ℕ) → AllByRecursion IsWritableChange cs → length (changes_bytes cs) ≤ n → changes_from n (changes_bytes cs) ≡ Some cs
from_again [] n h fits = none_left n
from_again (c ∷ cs) zero h fits = absurd (omega (arith, fits, length-append (change_bytes c) (changes_bytes cs), some_bytes c.key c.now))
from_again (c ∷ cs) (suc n) h fits =
    let others = changes_bytes cs in
    let counts = length-append (change_bytes c) others in
    let some = some_bytes c.key c.now in
    one_more n (change_bytes c ++ others) (c, length (change_bytes c)) (change_again c others h.0)
    ∙ ap (λ (t : List ℕ). changes_from n t >>= λ x. Some (c ∷ x)) (drop_at (change_bytes c) others (length (change_bytes c)) refl)
    ∙ ap (λ r. r >>= λ x. Some (c ∷ x)) (from_again cs n h.1 (omega (arith, fits, counts, some)))

pub changes_again : (cs : List Change) → AllByRecursion IsWritableChange cs → changes_of (changes_bytes cs) ≡ Some cs
changes_again cs h = from_again cs (length (changes_bytes cs)) h (omega arith)

-- changes that all of the bytes are
abbrev pub AreChanges : List Change → List ℕ → Type 0
AreChanges cs bytes = (bytes ≡ changes_bytes cs) × AllByRecursion IsWritableChange cs

from_written : (n : ℕ) (bytes : List ℕ) (cs : List Change) → IsBytes bytes → changes_from n bytes ≡ Some cs → AreChanges cs bytes
from_written zero [] cs fits e = subst (λ (x : List Change). AreChanges x []) (same_Some [] cs e) (refl, tt)
from_written (suc n) [] cs fits e = subst (λ (x : List Change). AreChanges x []) (same_Some [] cs e) (refl, tt)
from_written zero (b ∷ bs) cs fits e = absurd (none-some cs e)
from_written (suc n) (b ∷ bs) cs fits e =
    let bytes = b ∷ bs in
    let p = bind_some (change_in bytes) (λ c. changes_from n (drop c.1 bytes) >>= λ x. Some (c.0 ∷ x)) cs e in
    let c = p.0 in
    let q = bind_some (changes_from n (drop c.1 bytes)) (λ x. Some (c.0 ∷ x)) cs p.2 in
    let here = change_written bytes c fits p.1 in
    let there = from_written n (drop c.1 bytes) q.0 (bytes_drop c.1 bytes fits) q.1 in
    let whole : AreChanges (c.0 ∷ q.0) bytes = (here.0.parts ∙ ap (λ (t : List ℕ). change_bytes c.0 ++ t) there.0, (here.1, there.1)) in
    subst (λ (x : List Change). AreChanges x bytes) (same_Some (c.0 ∷ q.0) cs q.2) whole

pub changes_written : (bytes : List ℕ) (cs : List Change) → IsBytes bytes → changes_of bytes ≡ Some cs → AreChanges cs bytes
changes_written bytes cs fits e = from_written (length bytes) bytes cs fits e
