-- What reads cost that pass over entries which no valid tree may have.
use Rattle.std.proofs.Common.{◌≡◌, ◌≤◌, ℕ, ◌+◌, Bool, true, false, cond, [], ◌∷◌, ◌++◌, Option, Some, None, refl, sym, ap, subst, ◌∙◌, arith}
use Rattle.std.specs.Prelude.{reverse}
use Rattle.std.proofs.lemmas.List.{reverse-append}
use Rattle.tree_model.specs.declared.key.Key.{Key}
use Rattle.tree_model.specs.declared.record.Record.{Record}
use Rattle.tree_model.specs.Entries.{Entries, Sorted, first_above, last_below, entries_above, entries_below}
use Rattle.tree_model.proofs.Entries.{scan_on, scan_end}
use Rattle.node_seq.proofs.Walks.{short_on, short_end}
use Rattle.paged_seq.specs.PagedMaps.{is_valid_entry, chunks_of_entry, next_cost, prev_cost, passing_cost}

-- what it costs to go on behind the entry that was found
abbrev pub on_above : Entries → Option (Key × Record) → ℕ
on_above es None = 0
on_above es (Some e) = cond (is_valid_entry e) 0 (next_cost e.0 es)

abbrev pub on_below : Entries → Option (Key × Record) → ℕ
on_below es None = 0
on_below es (Some e) = cond (is_valid_entry e) 0 (prev_cost e.0 es)

above_cost : (k : Key) (es : Entries) (found : Option (Key × Record)) → Sorted es → found ≡ first_above k es → next_cost k es ≡ 3 + chunks_of_entry found + on_above es found
above_cost k es None sorted is = ap passing_cost (scan_end k es (sym is))
above_cost k es (Some e) sorted is = ap passing_cost (scan_on k e es sorted (sym is))

below_cost : (k : Key) (es : Entries) (found : Option (Key × Record)) → Sorted es → found ≡ last_below k es → prev_cost k es ≡ 3 + chunks_of_entry found + on_below es found
below_cost k es None sorted is = ap (λ (xs : Entries). passing_cost (reverse xs)) (short_end k es (sym is))
below_cost k es (Some e) sorted is =
    ap (λ (xs : Entries). passing_cost (reverse xs)) (short_on k e es sorted (sym is)) ∙ ap passing_cost (reverse-append (entries_below e.0 es) (e ∷ []))

-- the first read upwards
pub up_cost_first : (k : Key) (es : Entries) (n m : ℕ) (found : Option (Key × Record)) → Sorted es → found ≡ first_above k es → n ≤ m + 3 + chunks_of_entry found → n + on_above es found ≤ m + next_cost k es
up_cost_first k es n m found sorted is reads = let cost = above_cost k es found sorted is in omega (arith, reads, cost)

-- one more, behind an entry that no valid tree may have
pub up_cost : (es : Entries) (n m all : ℕ) (found next : Option (Key × Record)) (at : Key) (r : Record) → Sorted es → found ≡ Some (at, r) → is_valid_entry (at, r) ≡ false → next ≡ first_above at es
    → n + on_above es found ≤ all → m ≤ n + 3 + chunks_of_entry next → m + on_above es next ≤ all
up_cost es n m all found next at r sorted there invalid then left reads =
    let on : on_above es found ≡ next_cost at es = ap (on_above es) there ∙ ap (λ b. cond b 0 (next_cost at es)) invalid in
    let cost = above_cost at es next sorted then in
    omega (arith, on, cost, left, reads)

pub down_cost_first : (k : Key) (es : Entries) (n m : ℕ) (found : Option (Key × Record)) → Sorted es → found ≡ last_below k es → n ≤ m + 3 + chunks_of_entry found → n + on_below es found ≤ m + prev_cost k es
down_cost_first k es n m found sorted is reads = let cost = below_cost k es found sorted is in omega (arith, reads, cost)

pub down_cost : (es : Entries) (n m all : ℕ) (found next : Option (Key × Record)) (at : Key) (r : Record) → Sorted es → found ≡ Some (at, r) → is_valid_entry (at, r) ≡ false → next ≡ last_below at es
    → n + on_below es found ≤ all → m ≤ n + 3 + chunks_of_entry next → m + on_below es next ≤ all
down_cost es n m all found next at r sorted there invalid then left reads =
    let on : on_below es found ≡ prev_cost at es = ap (on_below es) there ∙ ap (λ b. cond b 0 (prev_cost at es)) invalid in
    let cost = below_cost at es next sorted then in
    omega (arith, on, cost, left, reads)

-- what was read is within the cost of all
pub within_cost : (n on all : ℕ) → n + on ≤ all → n ≤ all
within_cost n on all left = omega (arith, left)
