-- The order of keys is a total strict order.
use Rattle.std.proofs.Common.{◌≡◌, ℕ, List, [], ◌∷◌, Less, Equal, Greater, nat_cmp, refl, sym, ap, ◌∙◌}
use Rattle.std.specs.Ordering.{ordering_then, ordering_reverse}
use Rattle.std.specs.Cmp.{IsTotalOrder, then_total, on_total, ranked, tied_itself}
use Rattle.std.specs.Cmp.Lexicographic.{slice_cmp, nat_list_cmp_total}
use Rattle.tree_model.specs.Keys.{key_cmp}
use Rattle.tree_model.specs.declared.key.Key.{Key}

pub key_total : IsTotalOrder key_cmp
key_total = then_total (on_total (λ k. k.label) nat_list_cmp_total) (on_total (λ k. k.name) nat_list_cmp_total)

-- no key lies below itself
pub key_itself : (k : Key) → key_cmp k k ≡ Equal
key_itself k = tied_itself key_total k

pub key_turned : (a b : Key) → key_cmp a b ≡ Less → key_cmp b a ≡ Greater
key_turned a b h = key_total.antisymm b a ∙ ap ordering_reverse h

pub key_turned_back : (a b : Key) → key_cmp a b ≡ Greater → key_cmp b a ≡ Less
key_turned_back a b h = key_total.antisymm b a ∙ ap ordering_reverse h

-- two lists that are neither way apart are one
pub list_tied : (xs ys : List ℕ) → slice_cmp nat_cmp xs ys ≡ Equal → xs ≡ ys
list_tied [] [] h = refl
list_tied [] (y ∷ ys) h = cc
list_tied (x ∷ xs) [] h = cc
list_tied (x ∷ xs) (y ∷ ys) h =
    elim (nat_cmp x y) as (λ o. nat_cmp x y ≡ o → ordering_then o (slice_cmp nat_cmp xs ys) ≡ Equal → x ∷ xs ≡ y ∷ ys) [
      | Less ↦ λ _ g. cc
      | Equal ↦ λ q g. let same : x ≡ y = ranked x y Equal (sym q) in λ i. same i ∷ list_tied xs ys g i
      | Greater ↦ λ _ g. cc
    ] refl h

-- two keys that are neither way apart are one
pub key_tied : (a b : Key) → key_cmp a b ≡ Equal → a ≡ b
key_tied a b h =
    elim (slice_cmp nat_cmp a.label b.label) as (λ o. slice_cmp nat_cmp a.label b.label ≡ o → ordering_then o (slice_cmp nat_cmp a.name b.name) ≡ Equal → a ≡ b) [
      | Less ↦ λ _ g. cc
      | Equal ↦ λ q g. let labels = list_tied a.label b.label q in let names = list_tied a.name b.name g in λ i. record { label = labels i; name = names i }
      | Greater ↦ λ _ g. cc
    ] refl h
