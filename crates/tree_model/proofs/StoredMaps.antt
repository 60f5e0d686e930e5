-- A sorted map that breaks no rule is that of a valid tree: its documents' tree and its catalogue.
use Rattle.std.proofs.Common.{◌≡◌, ℕ, Bool, true, false, cond, ◌&&◌, ◌||◌, [], ◌∷◌, ◌++◌, length, Option, Some, None, Less, nat_cmp, is_eq, IsTrue, refl, sym, ap, subst, ◌∙◌, true≢false}
use Rattle.std.specs.Ordering.{ordering_then}
use Rattle.std.specs.Cmp.Lexicographic.{slice_cmp}
use Rattle.std.specs.List.{AllByRecursion}
use Rattle.dewey_labels.specs.Labels.{Label, root, IsLabel}
use Rattle.dewey_labels.specs.LabelText.{label_text}
use Rattle.dewey_labels.specs.Sides.{above, left, same, under, right, side}
use Rattle.dewey_labels.proofs.Sides.{same_is}
use Rattle.dewey_labels.proofs.Codes.{first_of_both, second_of_both}
use Rattle.dewey_labels.proofs.LabelOf.{label_of_is}
use Rattle.tree_model.specs.declared.key.Key.{Key}
use Rattle.tree_model.specs.declared.record.Record.{Record}
use Rattle.tree_model.specs.declared.record.Record.TheVariants.{Document, Element, Text, Attr}
use Rattle.tree_model.specs.Names.{Name, is_name}
use Rattle.tree_model.specs.Keys.{key_at, node_key}
use Rattle.tree_model.specs.Entries.{Entries, Above, Sorted, get}
use Rattle.std.specs.Option.{option_or}
use Rattle.tree_model.specs.Tree.{Forest, none, node, entries_of, Catalogue, attr_entry, root_attribute, choose, at, labels, record_of}
use Rattle.tree_model.specs.ValidTrees.{NamesRise, KindsAllowed, may_stand, same_label, is_among}
use Rattle.tree_model.specs.Places.{is_root}
use Rattle.tree_model.specs.StoredTree.{label_in, with_label, catalogue_in, misfit_at, is_document_record, has_document, names_document, catalogue_fits, broken_at, IsStoredTree}
use Rattle.tree_model.proofs.EntryLimits.{list_itself}
use Rattle.tree_model.proofs.NamedLists.{name_starts}
use Rattle.tree_model.proofs.ForwardReads.{get_law}
use Rattle.tree_model.proofs.WholeTree.{catalogue_entries, get_past_root}
use Rattle.tree_model.proofs.UnbrokenTrees.{sorted_prefix, none_misfits}
use Rattle.tree_model.proofs.StoredTrees.{AtRoot, Divided, divided}

-- ---- the root's entries are those of a catalogue

-- a root's entry that passes the test
record IsEntry (all : Entries) (e : Key × Record) : Type 0 where
  label : Label
  found : label_in e.1 ≡ Some label
  is : e ≡ attr_entry root (root_attribute (e.0.name, label))
  named : is_name e.0.name ≡ true
  document : is_document_record (get (node_key label) all) ≡ true

value_is : (r : Record) (l : Label) → label_in r ≡ Some l → r ≡ Attr (label_text l)
value_is Document l h = cc
value_is (Element n) l h = cc
value_is (Text t) l h = cc
value_is (Attr v) l h = ap Attr (label_of_is v l h).1

is_entry : (all : Entries) (e : Key × Record) → e.0.label ≡ root → names_document all e ≡ true → IsEntry all e
is_entry all e at_root h = by (label_in e.1) refl (second_of_both (is_name e.0.name) _ h)
  where
    by : (o : Option Label) → label_in e.1 ≡ o → has_document all o ≡ true → IsEntry all e
    by None q g = absurd (true≢false (sym g))
    by (Some l) q g = record {
      label = l;
      found = q;
      is = λ i. (record { label = at_root i; name = e.0.name }, value_is e.1 l q i);
      named = first_of_both (is_name e.0.name) _ h;
      document = g;
    }

entries_pass : (all roots docs : Entries) → AtRoot roots → catalogue_fits all (roots ++ docs) ≡ true → AllByRecursion (IsEntry all) roots
entries_pass all [] docs a h = tt
entries_pass all (e ∷ roots) docs a h =
    let both : (names_document all e && catalogue_fits all (roots ++ docs)) ≡ true = sym (ap (λ l. cond (is_root l) (names_document all e && catalogue_fits all (roots ++ docs)) (catalogue_fits all (roots ++ docs))) a.0) ∙ h in
    (is_entry all e a.0 (first_of_both (names_document all e) _ both), entries_pass all roots docs a.1 (second_of_both (names_document all e) _ both))

module _ (all : Entries) where
  -- such an entry gives the catalogue one with its name and label
  one_more : (e : Key × Record) (roots : Entries) → e.0.label ≡ root → (x : IsEntry all e) → catalogue_in (e ∷ roots) ≡ (e.0.name, x.label) ∷ catalogue_in roots
  one_more e roots a x = λ i. cond (is_root (a i)) (with_label e.0.name (x.found i) (catalogue_in roots)) (catalogue_in roots)

  entries_again : (roots : Entries) → AtRoot roots → AllByRecursion (IsEntry all) roots → catalogue_entries (catalogue_in roots) ≡ roots
  entries_again [] a h = refl
  entries_again (e ∷ roots) a h = ap catalogue_entries (one_more e roots a.0 h.0) ∙ (λ i. sym h.0.is i ∷ entries_again roots a.1 h.1 i)

  -- the names rise, since the keys do
  names_rise : (lo : Name) (roots : Entries) → AtRoot roots → AllByRecursion (IsEntry all) roots → AllByRecursion (Above (key_at root lo)) roots → Sorted roots → NamesRise lo (catalogue_in roots)
  names_rise lo [] a h up s = tt
  names_rise lo (e ∷ roots) a h up s =
      let rises : slice_cmp nat_cmp lo e.0.name ≡ Less = sym (ap (λ o. ordering_then o (slice_cmp nat_cmp lo e.0.name)) (list_itself root)) ∙ subst (λ l. ordering_then (slice_cmp nat_cmp root l) (slice_cmp nat_cmp lo e.0.name) ≡ Less) a.0 up.0 in
      subst (NamesRise lo) (sym (one_more e roots a.0 h.0)) (rises, h.0.named, names_rise e.0.name roots a.1 h.1 (subst (λ l. AllByRecursion (Above (key_at l e.0.name)) roots) a.0 s.0) s.1)

  -- each of them has a label at which all entries have a document
  labels_pass : (P : Name × Label → Type 0) → ((n : Name) (l : Label) → is_document_record (get (node_key l) all) ≡ true → P (n, l)) → (roots : Entries) → AtRoot roots → AllByRecursion (IsEntry all) roots → AllByRecursion P (catalogue_in roots)
  labels_pass P f [] a h = tt
  labels_pass P f (e ∷ roots) a h = subst (AllByRecursion P) (sym (one_more e roots a.0 h.0)) (f e.0.name h.0.label h.0.document, labels_pass P f roots a.1 h.1)

-- ---- a document stands in the first row

no_document_below : (q : Record) (m : Label) (f : Forest) → KindsAllowed (Some q) f → is_document_record (record_of (at m f)) ≡ true → ⊥
no_document_below q m none k h = cc
no_document_below q m (node l r ats ch nx) k h = elim (side l m) as (λ s. is_document_record (record_of (choose s none (node l r ats ch nx) (at m ch) (at m nx))) ≡ true → ⊥) [
  | above ↦ λ g. cc
  | left ↦ λ g. cc
  | same ↦ λ g. not_below q r k.0 g
  | under ↦ λ g. no_document_below r m ch k.3 g
  | right ↦ λ g. no_document_below q m nx k.4 g
] h
  where
    not_document : (q : Record) → may_stand (Some q) Document ≡ true → ⊥
    not_document Document g = cc
    not_document (Element n) g = cc
    not_document (Text t) g = cc
    not_document (Attr v) g = cc

    not_below : (q r : Record) → may_stand (Some q) r ≡ true → is_document_record (Some r) ≡ true → ⊥
    not_below q Document e g = not_document q e
    not_below q (Element n) e g = cc
    not_below q (Text t) e g = cc
    not_below q (Attr v) e g = cc

document_among : (m : Label) (f : Forest) → KindsAllowed None f → is_document_record (record_of (at m f)) ≡ true → is_among m (labels f) ≡ true
document_among m none k h = cc
document_among m (node l r ats ch nx) k h = elim (side l m) as (λ s. side l m ≡ s → is_document_record (record_of (choose s none (node l r ats ch nx) (at m ch) (at m nx))) ≡ true → (same_label m l || is_among m (labels nx)) ≡ true) [
  | above ↦ λ _ g. cc
  | left ↦ λ _ g. cc
  | same ↦ λ e _. ap (λ k. same_label k l || is_among m (labels nx)) (same_is l m e) ∙ ap (λ o. is_eq o || is_among m (labels nx)) (list_itself l)
  | under ↦ λ _ g. absurd (no_document_below r m ch k.3 g)
  | right ↦ λ _ g. or_second (same_label m l) (document_among m nx k.4 g)
] refl h
  where
    or_second : (b : Bool) {c : Bool} → c ≡ true → (b || c) ≡ true
    or_second true h = refl
    or_second false h = h

-- ---- the whole map

both_none : (o p : Option ℕ) → option_or o p ≡ None → (o ≡ None) × (p ≡ None)
both_none None p h = (refl, h)
both_none (Some n) p h = cc

passes : (b : Bool) (n : ℕ) → cond b None (Some n) ≡ None → b ≡ true
passes true n h = refl
passes false n h = cc

-- a map that breaks no rule is that of a tree
pub stored_tree : (es : Entries) → Sorted es → AllByRecursion (λ e. IsLabel e.0.label) es → broken_at es ≡ None → IsStoredTree es
stored_tree es s i h =
    let none_broken = both_none (misfit_at [] es) (cond (catalogue_fits es es) None (Some (length es))) h in
    let d : Divided es = divided [] es tt (none_misfits [] es none_broken.0) s i in
    let roots = d.roots in
    let f : Forest = d.tree.forest in
    let cat : Catalogue = catalogue_in roots in
    let sorted : Sorted (roots ++ d.docs) = subst Sorted d.is s in
    let pass : AllByRecursion (IsEntry es) roots = entries_pass es roots d.docs d.at_root (subst (λ v. catalogue_fits es v ≡ true) d.is (passes (catalogue_fits es es) (length es) none_broken.1)) in
    let again : catalogue_entries cat ≡ roots = entries_again es roots d.at_root pass in
    let names : NamesRise [] cat = names_rise es [] roots d.at_root pass (first_names es roots d.at_root pass) (sorted_prefix roots d.docs sorted) in
    let whole : catalogue_entries cat ++ entries_of f ≡ es = (λ i. again i ++ d.tree.entries i) ∙ sym d.is in
    let found : (l : Label) → get (node_key l) es ≡ record_of (at l f) = λ l. ap (get (node_key l)) (sym whole) ∙ get_past_root l [] cat (entries_of f) names ∙ get_law root root l f d.tree.keys in
    record {
      tree = record { catalogue = cat; documents = f };
      is_valid_tree = record {
        keys = d.tree.keys;
        kinds = d.tree.kinds;
        limits = d.tree.limits;
        catalogue = record {
          names = names;
          each_document = d.tree.named;
          each_entry = labels_pass es (λ c. IsTrue (is_among c.1 (labels f))) (λ n l g. document_among l f d.tree.kinds (sym (ap is_document_record (found l)) ∙ g)) roots d.at_root pass;
        };
      };
      map = whole;
    }
  where
    first_names : (all roots : Entries) → AtRoot roots → AllByRecursion (IsEntry all) roots → AllByRecursion (Above (key_at root [])) roots
    first_names all [] a h = tt
    first_names all (e ∷ roots) a h = (subst (λ l. ordering_then (slice_cmp nat_cmp root l) (slice_cmp nat_cmp [] e.0.name) ≡ Less) (sym a.0) (name_starts e.0.name h.0.named), first_names all roots a.1 h.1)
