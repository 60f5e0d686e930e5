-- Each entry of a valid tree's map is one that a valid tree may have, and it can be written.
use Rattle.std.proofs.Common.{◌≡◌, ◌≤◌, ◌*◌, ℕ, zero, suc, true, ◌&&◌, nat_le, List, [], ◌∷◌, ◌++◌, length, map, IsTrue, arith, length-append}
use Rattle.std.specs.Prelude.{Some}
use Rattle.std.proofs.lemmas.Bool.{le-leb, leb-true}
use Rattle.std.proofs.lemmas.Fmt.{length-decimal-le, IsAscii-decimal}
use Rattle.std.proofs.lemmas.Str.{is_utf8-from_IsUtf8, IsAscii-append, IsUtf8-from_ascii}
use Rattle.std.specs.Fmt.{decimal}
use Rattle.std.specs.List.{AllByRecursion}
use Rattle.std.specs.Str.{IsAscii, chars, is_utf8}
use Rattle.dewey_labels.specs.Labels.{Label, IsLabel, Within, greatest}
use Rattle.dewey_labels.specs.LabelText.{label_text}
use Rattle.dewey_labels.proofs.LabelTexts.{AllSmall}
use Rattle.tree_model.specs.declared.key.Key.{Key}
use Rattle.tree_model.specs.declared.record.Record.{Record}
use Rattle.tree_model.specs.declared.record.Record.TheVariants.{Document, Element, Text, Attr}
use Rattle.tree_model.specs.Limits.{most_name_bytes, most_text_bytes}
use Rattle.tree_model.specs.Names.{is_name, are_name_chars}
use Rattle.tree_model.specs.Records.{is_data, record_fits}
use Rattle.tree_model.specs.Tree.{Attributes, Catalogue, Forest, none, node, Tree, attr_entry, own, entries_of, map_of}
use Rattle.tree_model.specs.ValidTrees.{ValuesFit, LimitsKept, IsValidTree}
use Rattle.tree_model.proofs.Lists.{all_append, all_by}
use Rattle.tree_model.proofs.UnbrokenTrees.{catalogue_labels}
use Rattle.tree_model.proofs.ValidKeys.{HasValidKey, keys_valid}
use Rattle.tree_model.proofs.WholeTree.{catalogue_entries}
use Rattle.node_records.specs.Changes.{Fits}
use Rattle.node_records.proofs.ReadLaws.{both}
use Rattle.node_seq.specs.Reads.{IsValidEntry}

-- ---- a label's text may stand as a value

no_bytes : IsAscii []
no_bytes i = omega arith

behind_point : (bs : List ℕ) → IsAscii bs → IsAscii (46 ∷ bs)
behind_point bs h zero = omega arith
behind_point bs h (suc i) = h i

text_ascii : (l : Label) → AllSmall l → IsAscii (label_text l)
text_ascii [] s = no_bytes
text_ascii (d ∷ []) s = IsAscii-decimal d (omega (arith, s.0))
text_ascii (d ∷ e ∷ l) s = IsAscii-append (decimal d) (46 ∷ label_text (e ∷ l)) (IsAscii-decimal d (omega (arith, s.0))) (behind_point (label_text (e ∷ l)) (text_ascii (e ∷ l) s.1))

decimal_length : (d : ℕ) → d ≤ greatest → length (decimal d) ≤ 10
decimal_length d h = length-decimal-le 10 d (omega arith) (omega (arith, h)) (omega (arith, h))

text_length : (l : Label) → AllSmall l → length (label_text l) ≤ 11 * length l
text_length [] s = omega arith
text_length (d ∷ []) s = omega (arith, decimal_length d s.0)
text_length (d ∷ e ∷ l) s = omega (arith, length-append (decimal d) (46 ∷ label_text (e ∷ l)), decimal_length d s.0, text_length (e ∷ l) s.1)

text_is_data : (l : Label) → Within l → is_data (label_text l) ≡ true
text_is_data l w =
    let short : length (label_text l) ≤ most_text_bytes = omega (arith, text_length l w.1, w.0) in
    let fits : nat_le (length (label_text l)) most_text_bytes ≡ true = le-leb (length (label_text l)) most_text_bytes short in
    λ i. fits i && is_utf8-from_IsUtf8 (label_text l) (IsUtf8-from_ascii (label_text l) (text_ascii l w.1)) i

-- ---- records within the limits

abbrev HasShortRecord : Key × Record → Type 0
HasShortRecord e = IsTrue (record_fits e.1)

attributes_short : (l : Label) (ats : Attributes) → ValuesFit ats → AllByRecursion HasShortRecord (map (attr_entry l) ats)
attributes_short l [] v = tt
attributes_short l (a ∷ ats) v = (v.0, attributes_short l ats v.1)

forest_short : (f : Forest) → LimitsKept f → AllByRecursion HasShortRecord (entries_of f)
forest_short none v = tt
forest_short (node l r ats ch nx) v =
    all_append HasShortRecord (own l r ats ++ entries_of ch) (entries_of nx)
    (all_append HasShortRecord (own l r ats) (entries_of ch) (v.1, attributes_short l ats v.2) (forest_short ch v.3)) (forest_short nx v.4)

catalogue_short : (cat : Catalogue) → AllByRecursion (λ c. IsLabel c.1) cat → AllByRecursion HasShortRecord (catalogue_entries cat)
catalogue_short [] h = tt
catalogue_short (c ∷ cat) h = (text_is_data c.1 h.0.1, catalogue_short cat h.1)

-- of every entry of the map
pub entries_valid : (t : Tree) → IsValidTree t → AllByRecursion IsValidEntry (map_of t)
entries_valid t w =
    let short : AllByRecursion HasShortRecord (map_of t) = all_append HasShortRecord (catalogue_entries t.catalogue) (entries_of t.documents) (catalogue_short t.catalogue (catalogue_labels t w)) (forest_short t.documents w.limits) in
    all_by HasValidKey HasShortRecord IsValidEntry (λ e k r. (k, r)) (map_of t) (keys_valid t w) short

-- ---- and can be written

-- a Name is UTF-8, and short
name_fits : (n : List ℕ) → is_name n ≡ true → (is_utf8 n ≡ true) × (length n ≤ 1_024)
unfolding is_name
name_fits n h =
    let p = both (nat_le (length n) most_name_bytes) (is_utf8 n && are_name_chars (chars n)) h in
    ((both (is_utf8 n) (are_name_chars (chars n)) p.1).0, leb-true (length n) most_name_bytes p.0)

data_fits : (d : List ℕ) → is_data d ≡ true → (is_utf8 d ≡ true) × (length d ≤ 1_048_576)
data_fits d h = let p = both (nat_le (length d) most_text_bytes) (is_utf8 d) h in (p.1, leb-true (length d) most_text_bytes p.0)

pub record_written : (r : Record) → record_fits r ≡ true → Fits (Some r)
record_written Document h = (tt, omega arith)
record_written (Element n) h = let p = name_fits n h in let short = p.1 in (p.0, omega (arith, short))
record_written (Text d) h = let p = data_fits d h in let short = p.1 in (p.0, omega (arith, short))
record_written (Attr v) h = let p = data_fits v h in let short = p.1 in (p.0, omega (arith, short))
