-- What `create` answers and changes, test by test; and the entries of a new document.
use Rattle.std.proofs.Common.{◌≡◌, ◌≤◌, ◌+◌, ◌*◌, ℕ, zero, suc, Bool, true, false, ◌&&◌, not, if◌then◌else◌, nat_le, nat_lt, List, [], ◌∷◌, ◌++◌, length, is_some, Less, nat_cmp, option_map, inr, Option, None, Some, IfSome, IsTrue, Result, Ok, Err, refl, sym, ap, ◌∙◌, arith, append-nil, append_assoc, length-append}
use Rattle.std.proofs.lemmas.Bool.Decides.{nat_tests}
use Rattle.std.proofs.lemmas.Fmt.{length-decimal-le, IsAscii-decimal}
use Rattle.std.proofs.lemmas.Str.{is_utf8-from_IsUtf8, IsAscii-append, IsUtf8-from_ascii}
use Rattle.std.specs.Cmp.Lexicographic.{slice_cmp}
use Rattle.std.specs.Fmt.{decimal}
use Rattle.std.specs.Str.{IsAscii}
use Rattle.dewey_labels.specs.Labels.{Label, IsLabel, Within, greatest, most_divisions, root, is_child, is_label, is_within, level}
use Rattle.dewey_labels.specs.LabelText.{label_text}
use Rattle.dewey_labels.specs.NewLabels.{first_division, new_label}
use Rattle.dewey_labels.specs.Sides.{under}
use Rattle.dewey_labels.proofs.Codes.{child_under, first_of_both, second_of_both, is_child_append}
use Rattle.dewey_labels.proofs.Labels.{child_label, level_of_child}
use Rattle.dewey_labels.proofs.LabelTexts.{AllSmall}
use Rattle.dewey_labels.proofs.Limits.{within_of_test}
use Rattle.dewey_labels.proofs.Sides.{under_before}
use Rattle.tree_model.specs.declared.fragment.Fragment.{Fragment}
use Rattle.tree_model.specs.declared.fragment.Fragment.TheOpen.{Fragment-F}
use Rattle.tree_model.specs.declared.record.Record.TheVariants.{Document}
use Rattle.tree_model.specs.declared.refusal.Refusal.TheVariants.{DocumentExists, Dom, LabelLimit, TooDeep}
use Rattle.tree_model.specs.declared.reply.Reply.{Reply}
use Rattle.tree_model.specs.declared.reply.Reply.TheVariants.{Place, Refused}
use Rattle.tree_model.specs.Changes.{differences}
use Rattle.tree_model.specs.Documents.{create, document_at, document_label, place_document, with_document}
use Rattle.tree_model.specs.Entries.{Above, Entries, Sorted}
use Rattle.tree_model.specs.Fragments.{Fragments, IsValid, no_more, depth, is_text_fragment, plain, put_before}
use Rattle.tree_model.specs.Graft.{all_within, graft, graft_below}
use Rattle.tree_model.specs.Keys.{IsValidKey, key_at, node_key}
use Rattle.tree_model.specs.Limits.{deepest_level, most_text_bytes}
use Rattle.tree_model.specs.Names.{Name, is_name}
use Rattle.tree_model.specs.Outcomes.{Outcome, hierarchy_request_err, invalid_character_err, is_refused, refused}
use Rattle.tree_model.specs.Places.{attributes_at, last_in}
use Rattle.tree_model.specs.Records.{is_data}
use Rattle.tree_model.specs.Tree.{none, Tree, beside, entries_of, map_of}
use Rattle.tree_model.specs.ValidTrees.{IsValidTree, KeysRise, LimitsKept}
use Rattle.tree_model.specs.GraftLimits.{fit_at}
use Rattle.tree_model.proofs.Creates.{create_refused}
use Rattle.tree_model.proofs.DocumentLimits.{single}
use Rattle.tree_model.proofs.Grafts.{and_true, fits-graft_below, keys-graft, limits-graft}
use Rattle.tree_model.proofs.Lists.{all_on}
use Rattle.tree_model.proofs.Seeks.{later_above}
use Rattle.tree_model.proofs.Sorted.{entries_sorted}
use Rattle.tree_model.proofs.Split.{Labelled, SideIs, all_under}
use Rattle.tree_model.proofs.WholeTree.{beside_root}
use Rattle.tree_model.proofs.PlainFragments.{by_put}
use Rattle.tree_changes.proofs.DocumentLaws.{create_differences}
use Rattle.node_seq.specs.ChangeLists.{IsChangeList}
use Rattle.dom_writes.specs.inside.NewDocuments.{SuitsOrRefused, changes, entries, is_deep, within_limits}
use Rattle.dom_writes.specs.inside.NewPlaces.{answer}
use Rattle.dom_writes.proofs.GraftChanges.{forest_valid, puts_are_changes}
use Rattle.dom_writes.proofs.GraftSteps.{child_is_label, child_within}
use Rattle.dom_writes.proofs.PlacedCalls.{none_changed}

-- ---- a label's text may stand as a value

no_bytes : IsAscii []
no_bytes i = omega arith

behind_point : (bs : List ℕ) → IsAscii bs → IsAscii (46 ∷ bs)
behind_point bs h zero = omega arith
behind_point bs h (suc i) = h i

text_ascii : (l : Label) → AllSmall l → IsAscii (label_text l)
text_ascii [] s = no_bytes
text_ascii (d ∷ []) s = IsAscii-decimal d (omega (arith, s.0))
text_ascii (d ∷ e ∷ l) s = IsAscii-append (decimal d) (46 ∷ label_text (e ∷ l)) (IsAscii-decimal d (omega (arith, s.0))) (behind_point (label_text (e ∷ l)) (text_ascii (e ∷ l) s.1))

decimal_length : (d : ℕ) → d ≤ greatest → length (decimal d) ≤ 10
decimal_length d h = length-decimal-le 10 d (omega arith) (omega (arith, h)) (omega (arith, h))

text_length : (l : Label) → AllSmall l → length (label_text l) ≤ 11 * length l
text_length [] s = omega arith
text_length (d ∷ []) s = omega (arith, decimal_length d s.0)
text_length (d ∷ e ∷ l) s = omega (arith, length-append (decimal d) (46 ∷ label_text (e ∷ l)), decimal_length d s.0, text_length (e ∷ l) s.1)

text_is_data : (l : Label) → Within l → is_data (label_text l) ≡ true
text_is_data l w =
    let short : length (label_text l) ≤ most_text_bytes = omega (arith, text_length l w.1, w.0) in
    let fits : nat_le (length (label_text l)) most_text_bytes ≡ true = grind (arith, nat_tests) in
    λ i. fits i && is_utf8-from_IsUtf8 (label_text l) (IsUtf8-from_ascii (label_text l) (text_ascii l w.1)) i

-- ---- the document's tree

-- the element's tree keeps them, and its label is one
pub tree_within : (l : Label) (f : Fragments) → all_within (document_at l f) ≡ true → all_within (graft (l ++ (first_division ∷ [])) f none) ≡ true
tree_within l f h = first_of_both (all_within (graft (l ++ (first_division ∷ [])) f none)) true (second_of_both (is_within l) _ h)

pub element_label : (l : Label) (f : Fragment) → IsLabel l → all_within (document_at l (plain f)) ≡ true → IsLabel (l ++ (first_division ∷ []))
element_label l f label h = child_is_label l first_division label refl (child_within l first_division f no_more (ap all_within (sym (single l first_division f)) ∙ tree_within l (plain f) h)).label

-- its entries behind others
pub document_behind : (es : Entries) (l : Label) (f : Fragments) → (es ++ ((node_key l, Document) ∷ [])) ++ entries_of (graft (l ++ (first_division ∷ [])) f none) ≡ es ++ entries_of (document_at l f)
document_behind es l f =
    append_assoc es ((node_key l, Document) ∷ []) (entries_of (graft (l ++ (first_division ∷ [])) f none))
    ∙ ap (λ v. es ++ v) (sym (append-nil (((node_key l, Document) ∷ []) ++ entries_of (graft (l ++ (first_division ∷ [])) f none))))

-- ---- the changes

-- at a place that suits the document they may be laid over any map
pub changes_rise : (n : Name) (f : Fragments) (o : Result Label Reply) → IsValid f → SuitsOrRefused n f o → IsChangeList (changes n f o)
changes_rise n f (Err reply) valid s = record { rise = tt; puts = tt }
changes_rise n f (Ok l) valid s = puts_are_changes (entries n l f) sorted ((catalogue_key, text_is_data l within), forest_valid root root (document_at l f) refl keys limits)
  where
    e : Label
    e = l ++ (first_division ∷ [])

    within : Within l
    within = within_of_test l (first_of_both (is_within l) _ s.within)

    labelled : is_label l ≡ true
    labelled = child_label root l refl s.child

    below : is_child l e ≡ true
    below = is_child_append l (first_division ∷ []) refl

    behind_root : slice_cmp nat_cmp root l ≡ Less
    behind_root = under_before root l (child_under root l s.child)

    keys : KeysRise root root (document_at l f)
    keys = (s.child, behind_root, within, tt, keys-graft l l e f none below (under_before l e (child_under l e below)) (tree_within l f s.within) valid tt tt, tt)

    limits : LimitsKept (document_at l f)
    limits =
        let is_level : level l ≡ 1 = level_of_child root l refl s.child in
        let shallow : nat_lt deepest_level (1 + depth f) ≡ false = s.shallow in
        let fits : 1 + depth f ≤ deepest_level = grind (arith, nat_tests) in
        (omega arith, refl, tt, limits-graft l e f none (level_of_child l e labelled below) (child_label l e labelled below) (omega arith) valid tt, tt)

    root_label : IsLabel root
    root_label = (refl, (omega arith, (omega arith, tt)))

    catalogue_key : IsValidKey (key_at root n)
    catalogue_key = record { label = root_label; level = omega arith; name = inr s.name }

    sorted : Sorted (entries n l f)
    sorted = (
      all_on (Labelled (SideIs root under)) (Above (key_at root n)) (λ x h. later_above root n x (under_before root x.0.label h)) (entries_of (document_at l f)) (all_under root root (document_at l f) keys),
      entries_sorted root root (document_at l f) keys,
    )

pub create_changes : (n : Name) (f : Fragments) (t : Tree) (o : Result Label Reply) → IsValidTree t → IsValid f → SuitsOrRefused n f o → answer o ≡ (create n f t).0
    → changes n f o ≡ differences (map_of t) (map_of (create n f t).1)
create_changes n f t (Ok l) w valid s e = sym (create_differences n f t w valid l (sym e))
create_changes n f t (Err reply) w valid s e = none_changed t (create n f t).1 w (create_refused n f t (ap is_refused (sym e) ∙ s))

-- ---- the tests

pub within_suits : (n : Name) (f : Fragments) (o : Option Label) → is_name n ≡ true → IfSome o (λ l. IsTrue (is_child root l)) → is_deep f ≡ false → SuitsOrRefused n f (within_limits f o)
within_suits n f None name c s = refl
within_suits n f (Some l) name c s = by (all_within (document_at l f)) refl
  where
    by : (b : Bool) → all_within (document_at l f) ≡ b → SuitsOrRefused n f (if b then Ok l else Err (Refused LabelLimit))
    by true w = record { name = name; child = c; shallow = s; within = w }
    by false w = refl

within_reply : (n : Name) (f : Fragments) (t : Tree) (o : Option Label) → answer (within_limits f o) ≡ (place_document n f t o).0
within_reply n f t None = refl
within_reply n f t (Some l) = by (all_within (document_at l f))
  where
    by : (b : Bool) → answer (if b then Ok l else Err (Refused LabelLimit)) ≡ (if b then (Place (Some l), with_document n l f t) else refused LabelLimit t).0
    by true = refl
    by false = refl

-- a document with the name, as it was read
there_is : (n : Name) (t : Tree) (o : Option (List ℕ)) → o ≡ beside n (attributes_at root t) → is_some o ≡ is_some (beside n t.catalogue)
there_is n t o e = ap is_some (e ∙ beside_root n t.catalogue) ∙ by (beside n t.catalogue)
  where
    by : (k : Option Label) → is_some (option_map label_text k) ≡ is_some k
    by None = refl
    by (Some l) = refl

module _ (n : Name) (f : Fragments) (t : Tree) where
  abbrev tested : Bool → Bool → Bool → Bool → Outcome
  tested name text there deep =
      if not name then refused (Dom invalid_character_err) t
      else if text then refused (Dom hierarchy_request_err) t
      else if there then refused DocumentExists t
      else if deep then refused TooDeep t
      else place_document n f t (document_label t)

  create_is : (name text there deep : Bool) → is_name n ≡ name → is_text_fragment f ≡ text → is_some (beside n t.catalogue) ≡ there → is_deep f ≡ deep
      → (tested name text there deep).0 ≡ (create n f t).0
  create_is name text there deep a b d k = λ i. (tested (sym a i) (sym b i) (sym d i) (sym k i)).0

  pub create_no_name : is_name n ≡ false → Refused (Dom invalid_character_err) ≡ (create n f t).0
  create_no_name a = create_is false (is_text_fragment f) (is_some (beside n t.catalogue)) (is_deep f) a refl refl refl

  pub create_text : is_name n ≡ true → is_text_fragment f ≡ true → Refused (Dom hierarchy_request_err) ≡ (create n f t).0
  create_text a b = create_is true true (is_some (beside n t.catalogue)) (is_deep f) a b refl refl

  module _ (o : Option (List ℕ)) (r : Label) (a : is_name n ≡ true) (b : is_text_fragment f ≡ false) (e : r ≡ root) (read : o ≡ beside n (attributes_at r t)) where
    was_there : is_some o ≡ is_some (beside n t.catalogue)
    was_there = there_is n t o (read ∙ ap (λ l. beside n (attributes_at l t)) e)

    pub create_exists : is_some o ≡ true → Refused DocumentExists ≡ (create n f t).0
    create_exists d = create_is true false true (is_deep f) a b (sym was_there ∙ d) refl

    pub create_deep : is_some o ≡ false → is_deep f ≡ true → Refused TooDeep ≡ (create n f t).0
    create_deep d k = create_is true false false true a b (sym was_there ∙ d) k

    pub create_placed : (last new : Option Label) → is_some o ≡ false → is_deep f ≡ false → last ≡ last_in r t → new ≡ new_label r last None → answer (within_limits f new) ≡ (create n f t).0
    create_placed last new d k l m =
        ap (λ v. answer (within_limits f v)) (m ∙ (λ i. new_label (e i) (l i) None) ∙ ap (λ v. new_label root (last_in v t) None) e)
        ∙ within_reply n f t (document_label t)
        ∙ create_is true false false false a b (sym was_there ∙ d) k
