-- The reads of a walk over a subtree: one for each entry that it was to answer.
use Rattle.std.proofs.Common.{◌≡◌, ◌+◌, ◌≤◌, ℕ, suc, true, false, cond, if◌then◌else◌, List, [], ◌∷◌, ◌++◌, length, Some, sym, ap, subst, ◌∙◌, arith}
use Rattle.std.proofs.lemmas.List.{length-append}
use Rattle.dewey_labels.specs.Labels.{Label}
use Rattle.tree_model.specs.declared.key.Key.{Key}
use Rattle.tree_model.specs.declared.record.Record.{Record}
use Rattle.tree_model.specs.Entries.{Entries, get, entries_above}
use Rattle.tree_model.specs.Keys.{node_key}
use Rattle.tree_model.specs.NodeKinds.{is_element}
use Rattle.tree_model.specs.StoredTree.{is_element_record}
use Rattle.tree_model.specs.Tree.{Tree, map_of, at}
use Rattle.tree_model.specs.declared.dom_call.DomCall.TheVariants as call
use Rattle.tree_model.specs.ValidTrees.{IsValidTree}
use Rattle.node_seq.specs.WalkSteps.{from_entry}
use Rattle.dom_reads.specs.ReadCounts.{most_reads, subtree_reads}
use Rattle.dom_reads.specs.SubtreeWalks.{as_long, lies_in, subtree_of}
use Rattle.tree_model.proofs.WholeTree.{get_node}
use Rattle.dom_reads.proofs.ReplyLaws.{element_is}
use Rattle.dom_reads.proofs.SubtreeEntries.{met_below, subtree_found}

-- one more item
pub one_longer : {A : Type 0} (xs : List A) (x : A) → length (xs ++ (x ∷ [])) ≡ length xs + 1
one_longer xs x = length-append xs (x ∷ [])

-- what was met before an item is shorter than all
pub met_before : {A : Type 0} (met rest all : List A) (x : A) → met ++ (x ∷ rest) ≡ all → length met + 1 ≤ length all
met_before met rest all x h =
    let n = length-append met (x ∷ rest) in
    let e = ap length h in
    omega (arith, n, e)

-- a step: as many reads as entries are answered
pub reads_on : (first before after : ℕ) (all old new : Entries) (e : Key × Record) → before + length old ≤ first + length all → after ≤ before + 1 → old ≡ e ∷ new
    → after + length new ≤ first + length all
reads_on first before after all old new e h g s =
    let n : length old ≡ suc (length new) = ap length s in
    omega (arith, h, g, n)

-- however a step ends
pub reads_so_far : (first before after : ℕ) (all left : Entries) → before + length left ≤ first + length all → after ≤ before + length left → after ≤ first + length all
reads_so_far first before after all left h g = omega (arith, h, g)

-- a walk that stands before an entry of its subtree has one to answer
pub one_to_come : (l : Label) (e : Key × Record) (es : Entries) → lies_in l e ≡ true → 1 ≤ length (as_long (lies_in l) (from_entry (Some e) es))
one_to_come l e es h = subst (λ b. 1 ≤ length (cond b (e ∷ as_long (lies_in l) (entries_above e.0 es)) [])) (sym h) (omega arith)

-- the node is read, and the walk begun
pub reads_begun : (first read began : ℕ) (l : Label) (r : Record) (t : Tree) → IsValidTree t → Some r ≡ get (node_key l) (map_of t)
    → read ≤ first + 1 → began ≤ read + 1 → began ≤ first + subtree_reads l t
reads_begun first read began l r t w e a b =
    let all : suc (length (met_below l t)) ≡ length (subtree_of l t) = ap length (subtree_found l r t w e) in
    omega (arith, a, b, all)

-- the node is read, the walk begun and ended
pub reads_of_subtree : (first read began ended : ℕ) (l : Label) (r : Record) (left : Entries) (t : Tree) → IsValidTree t → Some r ≡ get (node_key l) (map_of t) → left ≡ met_below l t
    → read ≤ first + 1 → began ≤ read + 1 → ended ≤ began + length left → ended ≤ first + subtree_reads l t
reads_of_subtree first read began ended l r left t w e s a b d =
    let met : length left ≡ length (met_below l t) = ap length s in
    let all : suc (length (met_below l t)) ≡ length (subtree_of l t) = ap length (subtree_found l r t w e) in
    omega (arith, a, b, d, met, all)

-- the same of a list that has the node's entry and then all that the walk answers
pub reads_of_list : (first read began ended : ℕ) (own all : Entries) → length own ≡ 1 → read ≤ first + 1 → began ≤ read + 1 → ended + length own ≤ began + length all
    → ended ≤ first + (length all + 1)
reads_of_list first read began ended own all one a b d = omega (arith, one, a, b, d)

-- ---- the text of a node

-- of an element as of a subtree
pub reads_of_element : (l : Label) (t : Tree) (first after : ℕ) (r : Record) → IsValidTree t → Some r ≡ get (node_key l) (map_of t) → is_element_record (Some r) ≡ true
    → after ≤ first + subtree_reads l t → after ≤ first + most_reads (call.TextContent l) t
reads_of_element l t first after r w e h most =
    subst (λ b. after ≤ first + (if b then subtree_reads l t else 1)) (sym (element_is (at l t.documents) r (e ∙ get_node l t w) ∙ h)) most

-- of any other node one
pub reads_of_text : (l : Label) (t : Tree) (first after : ℕ) → after ≤ first + 1 → after ≤ first + most_reads (call.TextContent l) t
reads_of_text l t first after one =
    elim (is_element (at l t.documents)) as (λ b. after ≤ first + (if b then subtree_reads l t else 1)) [ true ↦ omega (arith, one) | false ↦ one ]
