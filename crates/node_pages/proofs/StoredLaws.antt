-- The entries of a valid tree's map lie above the root's own key, and each is one that a valid tree may have.
use Rattle.std.proofs.Common.{◌≡◌, ◌≤◌, ◌*◌, ℕ, zero, suc, true, ◌&&◌, nat_le, List, [], ◌∷◌, ◌++◌, length, map, Less, nat_cmp, IsTrue, refl, arith, length-append}
use Rattle.std.proofs.lemmas.Bool.{le-leb}
use Rattle.std.proofs.lemmas.Fmt.{length-decimal-le, IsAscii-decimal}
use Rattle.std.proofs.lemmas.Str.{is_utf8-from_IsUtf8, IsAscii-append, IsUtf8-from_ascii}
use Rattle.std.specs.Cmp.Lexicographic.{slice_cmp}
use Rattle.std.specs.Fmt.{decimal}
use Rattle.std.specs.List.{AllByRecursion}
use Rattle.std.specs.Str.{IsAscii}
use Rattle.dewey_labels.specs.Labels.{Label, IsLabel, Within, greatest, root}
use Rattle.dewey_labels.specs.LabelText.{label_text}
use Rattle.dewey_labels.proofs.LabelTexts.{AllSmall}
use Rattle.tree_model.specs.declared.key.Key.{Key}
use Rattle.tree_model.specs.declared.record.Record.{Record}
use Rattle.tree_model.specs.Entries.{Above}
use Rattle.tree_model.specs.Keys.{node_key}
use Rattle.tree_model.specs.Limits.{most_text_bytes}
use Rattle.tree_model.specs.Names.{Name}
use Rattle.tree_model.specs.Records.{is_data, record_fits}
use Rattle.tree_model.specs.Tree.{Attributes, Catalogue, Forest, none, node, Tree, attr_entry, own, entries_of, map_of}
use Rattle.tree_model.specs.ValidTrees.{NamesRise, ValuesFit, LimitsKept, IsValidTree}
use Rattle.tree_model.proofs.Lists.{all_append, all_by}
use Rattle.tree_model.proofs.UnbrokenTrees.{catalogue_labels}
use Rattle.tree_model.proofs.ValidKeys.{HasValidKey, keys_valid}
use Rattle.tree_model.proofs.WholeTree.{catalogue_entries, documents_above}
use Rattle.node_seq.specs.Reads.{IsValidEntry}
use Rattle.node_pages.specs.Cutting.{IsStored}

-- ---- a label's text may stand as a value

no_bytes : IsAscii []
no_bytes i = omega arith

behind_point : (bs : List ℕ) → IsAscii bs → IsAscii (46 ∷ bs)
behind_point bs h zero = omega arith
behind_point bs h (suc i) = h i

text_ascii : (l : Label) → AllSmall l → IsAscii (label_text l)
text_ascii [] s = no_bytes
text_ascii (d ∷ []) s = IsAscii-decimal d (omega (arith, s.0))
text_ascii (d ∷ e ∷ l) s = IsAscii-append (decimal d) (46 ∷ label_text (e ∷ l)) (IsAscii-decimal d (omega (arith, s.0))) (behind_point (label_text (e ∷ l)) (text_ascii (e ∷ l) s.1))

decimal_length : (d : ℕ) → d ≤ greatest → length (decimal d) ≤ 10
decimal_length d h = length-decimal-le 10 d (omega arith) (omega (arith, h)) (omega (arith, h))

text_length : (l : Label) → AllSmall l → length (label_text l) ≤ 11 * length l
text_length [] s = omega arith
text_length (d ∷ []) s = omega (arith, decimal_length d s.0)
text_length (d ∷ e ∷ l) s = omega (arith, length-append (decimal d) (46 ∷ label_text (e ∷ l)), decimal_length d s.0, text_length (e ∷ l) s.1)

text_is_data : (l : Label) → Within l → is_data (label_text l) ≡ true
text_is_data l w =
    let short : length (label_text l) ≤ most_text_bytes = omega (arith, text_length l w.1, w.0) in
    let fits : nat_le (length (label_text l)) most_text_bytes ≡ true = le-leb (length (label_text l)) most_text_bytes short in
    λ i. fits i && is_utf8-from_IsUtf8 (label_text l) (IsUtf8-from_ascii (label_text l) (text_ascii l w.1)) i

-- ---- records within the limits

abbrev HasShortRecord : Key × Record → Type 0
HasShortRecord e = IsTrue (record_fits e.1)

attributes_short : (l : Label) (ats : Attributes) → ValuesFit ats → AllByRecursion HasShortRecord (map (attr_entry l) ats)
attributes_short l [] v = tt
attributes_short l (a ∷ ats) v = (v.0, attributes_short l ats v.1)

forest_short : (f : Forest) → LimitsKept f → AllByRecursion HasShortRecord (entries_of f)
forest_short none v = tt
forest_short (node l r ats ch nx) v =
    all_append HasShortRecord (own l r ats ++ entries_of ch) (entries_of nx)
    (all_append HasShortRecord (own l r ats) (entries_of ch) (v.1, attributes_short l ats v.2) (forest_short ch v.3)) (forest_short nx v.4)

catalogue_short : (cat : Catalogue) → AllByRecursion (λ c. IsLabel c.1) cat → AllByRecursion HasShortRecord (catalogue_entries cat)
catalogue_short [] h = tt
catalogue_short (c ∷ cat) h = (text_is_data c.1 h.0.1, catalogue_short cat h.1)

-- ---- keys above the root's own

name_above : (lo n : Name) → slice_cmp nat_cmp lo n ≡ Less → slice_cmp nat_cmp [] n ≡ Less
name_above [] [] h = h
name_above (y ∷ ys) [] h = cc
name_above lo (x ∷ xs) h = refl

catalogue_above : (lo : Name) (cat : Catalogue) → NamesRise lo cat → AllByRecursion (Above (node_key root)) (catalogue_entries cat)
catalogue_above lo [] w = tt
catalogue_above lo (c ∷ cat) w = (name_above lo c.0 w.0, catalogue_above c.0 cat w.2)

-- ---- the map

pub tree_stored : (t : Tree) → IsValidTree t → AllByRecursion IsStored (map_of t)
tree_stored t w =
    let attributes = catalogue_entries t.catalogue in
    let documents = entries_of t.documents in
    let above : AllByRecursion (Above (node_key root)) (map_of t) = all_append (Above (node_key root)) attributes documents (catalogue_above [] t.catalogue w.catalogue.names) (documents_above [] t w) in
    let short : AllByRecursion HasShortRecord (map_of t) = all_append HasShortRecord attributes documents (catalogue_short t.catalogue (catalogue_labels t w)) (forest_short t.documents w.limits) in
    all_by (Above (node_key root)) IsValidEntry IsStored (λ e a v. (a, v)) (map_of t) above
    (all_by HasValidKey HasShortRecord IsValidEntry (λ e k r. (k, r)) (map_of t) (keys_valid t w) short)
