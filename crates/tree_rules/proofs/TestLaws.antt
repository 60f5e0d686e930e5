-- The test of one entry more, by what a tester keeps of those before it.
use Rattle.std.proofs.Common.{◌≡◌, ℕ, ◌+◌, ◌==◌, Bool, true, false, not, cond, ◌&&◌, List, [], ◌∷◌, ◌++◌, length, Option, Some, None, unwrap_or, nat_cmp, refl, sym, ap, subst, ◌∙◌, length-append, true≢false}
use Rattle.std.specs.BTreeMap.{BTreeMap, get as get_in}
use Rattle.std.specs.Cmp.Lexicographic.{slice_cmp}
use Rattle.std.specs.List.{AllByRecursion}
use Rattle.std.specs.Option.{option_or}
use Rattle.std.specs.Prelude.{MatchOption, option_map}
use Rattle.dewey_labels.specs.Labels.{IsLabel, Label, parent}
use Rattle.dewey_labels.specs.Lists.{is_empty}
use Rattle.dewey_labels.specs.Sides.{is_in, side, under}
use Rattle.dewey_labels.proofs.Codes.{child_under}
use Rattle.dewey_labels.proofs.Labels.{child_of_parent}
use Rattle.dewey_labels.proofs.Sides.{ancestor_under}
use Rattle.tree_model.specs.declared.key.Key.{Key}
use Rattle.tree_model.specs.declared.record.Record.{Record}
use Rattle.tree_model.specs.declared.record.Record.TheVariants.{Attr, Document, Element, Text}
use Rattle.tree_model.specs.Entries.{Entries, Sorted, get}
use Rattle.tree_model.specs.Keys.{node_key}
use Rattle.tree_model.specs.Names.{is_name}
use Rattle.tree_model.specs.Places.{is_root}
use Rattle.tree_model.specs.StoredTree.{IsStoredTree, attribute_fits, broken_at, catalogue_fits, catalogue_in, entry_fits, has_under, is_document_record, is_element_record, is_value, label_in, may_join, may_stand_at, misfit_at, node_fits}
use Rattle.tree_model.specs.ValidTrees.{entries_with, may_stand, same_label}
use Rattle.tree_model.proofs.Entries.{last_of}
use Rattle.tree_model.proofs.Lists.{all_append}
use Rattle.tree_model.proofs.StoredCatalogues.{NotRoot, same_label_is}
use Rattle.tree_model.proofs.StoredMaps.{stored_tree}
use Rattle.tree_model.proofs.StoredReads.{has_under_by_last, lies_under}
use Rattle.tree_rules.specs.declared.path.Step.{Step}
use Rattle.tree_rules.specs.declared.tester.Tester.{Tester}
use Rattle.tree_rules.specs.Testing.{HasTaken, IsNext, IsPath, Keeps}
use Rattle.tree_rules.specs.inside.Named.{HasNamed, gives_label}
use Rattle.tree_rules.specs.inside.Paths.{HasGone, holds_nodes, is_above, may_enter, room_at, room_of}
use Rattle.tree_rules.proofs.CatalogueLaws.{fits_whole, labels_more, labels_other, named_once, names_attribute, names_node, names_root, whole_empties, whole_gives}
use Rattle.tree_rules.proofs.TakenLaws.{get_attribute, get_node, in_itself, last_more, misfit_more, misfit_stays, path_attribute, path_node, sorted_first}

-- ---- rooms

room_joins : (o : Option Record) (r : Record) (taken : Bool) → may_enter (option_map room_of o) r taken ≡ may_join o r taken
room_joins None Document taken = refl
room_joins None (Element n) taken = refl
room_joins None (Text d) taken = refl
room_joins None (Attr v) taken = refl
room_joins (Some Document) Document taken = refl
room_joins (Some Document) (Element n) taken = refl
room_joins (Some Document) (Text d) taken = refl
room_joins (Some Document) (Attr v) taken = refl
room_joins (Some (Element m)) Document taken = refl
room_joins (Some (Element m)) (Element n) taken = refl
room_joins (Some (Element m)) (Text d) taken = refl
room_joins (Some (Element m)) (Attr v) taken = refl
room_joins (Some (Text m)) Document taken = refl
room_joins (Some (Text m)) (Element n) taken = refl
room_joins (Some (Text m)) (Text d) taken = refl
room_joins (Some (Text m)) (Attr v) taken = refl
room_joins (Some (Attr m)) Document taken = refl
room_joins (Some (Attr m)) (Element n) taken = refl
room_joins (Some (Attr m)) (Text d) taken = refl
room_joins (Some (Attr m)) (Attr v) taken = refl

room_holds : (o : Option Record) → holds_nodes (option_map room_of o) ≡ is_element_record o
room_holds None = refl
room_holds (Some Document) = refl
room_holds (Some (Element n)) = refl
room_holds (Some (Text d)) = refl
room_holds (Some (Attr v)) = refl

document_stands : (r : Record) → is_document_record (Some r) ≡ may_stand None r
document_stands Document = refl
document_stands (Element n) = refl
document_stands (Text d) = refl
document_stands (Attr v) = refl

-- ---- whether it fits

-- of the next entry
module _ (t : Tester) (es : Entries) (x : Key × Record) (next : IsNext t es x) where
  pub attribute_by : attribute_fits x.0 x.1 es ≡ (is_name x.0.name && (is_value x.1 && holds_nodes (room_at x.0.label t.path.items)))
  attribute_by = ap (λ (b : Bool). is_name x.0.name && (is_value x.1 && b))
      (sym (room_holds (get (node_key x.0.label) es)) ∙ ap holds_nodes (sym (next.keeps.path.has x.0.label x next.sorted (in_itself x.0.label))))

  pub fits_root : is_root x.0.label ≡ true → entry_fits es x ≡ not (is_empty x.0.name)
  fits_root h = ap (λ (b : Bool). cond b (not (is_empty x.0.name)) (cond (is_empty x.0.name) (node_fits x.0.label x.1 es) (attribute_fits x.0 x.1 es))) h

  pub fits_attribute : is_root x.0.label ≡ false → is_empty x.0.name ≡ false → entry_fits es x ≡ attribute_fits x.0 x.1 es
  fits_attribute h named =
      ap (λ (b : Bool). cond b (not (is_empty x.0.name)) (cond (is_empty x.0.name) (node_fits x.0.label x.1 es) (attribute_fits x.0 x.1 es))) h
      ∙ ap (λ (b : Bool). cond b (node_fits x.0.label x.1 es) (attribute_fits x.0 x.1 es)) named

no_name : (n : List ℕ) → is_empty n ≡ true → n ≡ []
no_name [] h = refl
no_name (c ∷ n) h = cc

-- a key without a name is that of a node
pub key_is : (k : Key) → is_empty k.name ≡ true → k ≡ node_key k.label
key_is k h = λ i. record { label = k.label; name = no_name k.name h i }

pub fits_node : (es : Entries) (k : Key) (r : Record) → is_root k.label ≡ false → is_empty k.name ≡ true → entry_fits es (k, r) ≡ node_fits k.label r es
fits_node es k r h empty =
    ap (λ (b : Bool). cond b (not (is_empty k.name)) (cond (is_empty k.name) (node_fits k.label r es) (attribute_fits k r es))) h
    ∙ ap (λ (b : Bool). cond b (node_fits k.label r es) (attribute_fits k r es)) empty

pub next_node : (t : Tester) (es : Entries) (k : Key) (r : Record) → is_empty k.name ≡ true → IsNext t es (k, r) → IsNext t es (node_key k.label, r)
next_node t es k r empty next = subst (λ (key : Key). IsNext t es (key, r)) (key_is k empty) next

-- of a node that comes next
module _ (t : Tester) (es : Entries) (l : Label) (r : Record) (next : IsNext t es (node_key l, r)) (inner : NotRoot l) where
  pub stands_first : is_root (parent l) ≡ true → may_stand_at l r es ≡ (is_document_record (Some r) && unwrap_or (get_in (slice_cmp nat_cmp) t.named l) false)
  stands_first h =
      ap (λ (b : Bool). cond b (may_stand None r && (entries_with l (catalogue_in es) == 1)) (may_join (get (node_key (parent l)) es) r (has_under (parent l) es))) h
      ∙ (λ i. sym (document_stands r) i && sym (named_once t.named es l r next.sorted next.keeps.names) i)

  below : side (parent l) l ≡ under
  below = child_under (parent l) l (child_of_parent l next.label.0 (λ e. true≢false (ap is_root (sym e) ∙ inner)))

  taken_by : is_above (parent l) t.last ≡ has_under (parent l) es
  taken_by = ap (is_above (parent l)) next.keeps.last ∙ by_last (last_of es) ∙ sym (has_under_by_last (parent l) es (node_key l, r) [] next.sorted below)
    where
      by_last : (o : Option (Key × Record)) → is_above (parent l) (option_map (λ e. e.0.label) o) ≡ lies_under (parent l) o
      by_last None = refl
      by_last (Some e) = ancestor_under (parent l) e.0.label

  pub stands_below : is_root (parent l) ≡ false → may_stand_at l r es ≡ may_enter (room_at (parent l) t.path.items) r (is_above (parent l) t.last)
  stands_below h =
      ap (λ (b : Bool). cond b (may_stand None r && (entries_with l (catalogue_in es) == 1)) (may_join (get (node_key (parent l)) es) r (has_under (parent l) es))) h
      ∙ sym (room_joins (get (node_key (parent l)) es) r (has_under (parent l) es))
      ∙ (λ i. may_enter (sym (next.keeps.path.has (parent l) (node_key l, r) next.sorted (ap is_in below)) i) r (sym taken_by i))

-- ---- what is kept of it

fits_on : (es : Entries) (x : Key × Record) → misfit_at [] es ≡ None → entry_fits es x ≡ true → misfit_at [] (es ++ x ∷ []) ≡ None
fits_on es x h fits = misfit_more [] es x h ∙ ap (λ (b : Bool). cond b None (Some (length es))) fits

last_label : (es : Entries) (x : Key × Record) → Some x.0.label ≡ option_map (λ e. e.0.label) (last_of (es ++ x ∷ []))
last_label es x = ap (option_map (λ e. e.0.label)) (sym (last_more es x))

labels_on : (es : Entries) (x : Key × Record) → AllByRecursion (λ e. IsLabel e.0.label) es → IsLabel x.0.label → AllByRecursion (λ e. IsLabel e.0.label) (es ++ x ∷ [])
labels_on es x h l = all_append (λ e. IsLabel e.0.label) es (x ∷ []) h (l, tt)

inner_attribute : (es : Entries) (x : Key × Record) → is_empty x.0.name ≡ false → ((l : Label) (r : Record) → get (node_key l) es ≡ Some r → is_root l ≡ false) → (l : Label) (r : Record) → get (node_key l) (es ++ x ∷ []) ≡ Some r → is_root l ≡ false
inner_attribute es x named inner l r h = inner l r (sym (get_attribute l x es named) ∙ h)

-- an entry of the root
pub keeps_root : (t new : Tester) (es : Entries) (x : Key × Record) → IsNext t es x → is_root x.0.label ≡ true → entry_fits es x ≡ true
    → new.last ≡ Some x.0.label → new.path.items ≡ t.path.items → HasNamed (label_in x.1) t.named new.named → new.all_name ≡ (t.all_name && gives_label x) → Keeps new (es ++ x ∷ [])
keeps_root t new es x next root fits last path named all_name =
    let keeps = next.keeps in
    let has_name : is_empty x.0.name ≡ false = not_true (is_empty x.0.name) (sym (fits_root t es x next root) ∙ fits) in
    record {
      unbroken = fits_on es x keeps.unbroken fits;
      labels = labels_on es x keeps.labels next.label;
      inner = inner_attribute es x has_name keeps.inner;
      last = last ∙ last_label es x;
      path = subst (λ (ss : List Step). IsPath ss (es ++ x ∷ [])) (sym path) (path_attribute t.path.items es x keeps.path has_name);
      names = names_root t.named new.named es x next.sorted keeps.labels root has_name keeps.inner keeps.names named;
      all_name = all_name ∙ ap (λ (b : Bool). b && gives_label x) keeps.all_name ∙ sym (labels_more es x root);
    }
  where
    not_true : (b : Bool) → not b ≡ true → b ≡ false
    not_true true h = cc
    not_true false h = refl

-- another attribute
pub keeps_attribute : (t new : Tester) (es : Entries) (x : Key × Record) → IsNext t es x → is_root x.0.label ≡ false → is_empty x.0.name ≡ false → entry_fits es x ≡ true
    → new.last ≡ Some x.0.label → new.path.items ≡ t.path.items → new.named ≡ t.named → new.all_name ≡ t.all_name → Keeps new (es ++ x ∷ [])
keeps_attribute t new es x next inner has_name fits last path named all_name =
    let keeps = next.keeps in
    record {
      unbroken = fits_on es x keeps.unbroken fits;
      labels = labels_on es x keeps.labels next.label;
      inner = inner_attribute es x has_name keeps.inner;
      last = last ∙ last_label es x;
      path = subst (λ (ss : List Step). IsPath ss (es ++ x ∷ [])) (sym path) (path_attribute t.path.items es x keeps.path has_name);
      names = λ l. ap (λ (m : BTreeMap Label Bool). get_in (slice_cmp nat_cmp) m l) named ∙ keeps.names l ∙ names_attribute es x l inner has_name;
      all_name = all_name ∙ keeps.all_name ∙ sym (labels_other es x inner);
    }

-- a node
at_label : (t new : Tester) (es : Entries) (l : Label) (r : Record) → IsNext t es (node_key l, r) → is_root l ≡ false → entry_fits es (node_key l, r) ≡ true
    → new.last ≡ Some l → HasGone l (room_of r) t.path.items new.path.items
    → ((m : Label) → get_in (slice_cmp nat_cmp) new.named m ≡ cond (is_document_record (Some r) && same_label l m) None (get_in (slice_cmp nat_cmp) t.named m))
    → new.all_name ≡ t.all_name → Keeps new (es ++ (node_key l, r) ∷ [])
at_label t new es l r next inner fits last gone named all_name =
    let keeps = next.keeps in
    record {
      unbroken = fits_on es (node_key l, r) keeps.unbroken fits;
      labels = labels_on es (node_key l, r) keeps.labels next.label;
      inner = λ m q h. inner_of m q (same_label m l) refl (sym (get_node m l r es next.sorted) ∙ h);
      last = last ∙ last_label es (node_key l, r);
      path = path_node t.path.items new.path.items es l r keeps.path gone next.sorted;
      names = names_node t.named new.named es l r next.sorted inner keeps.names named;
      all_name = all_name ∙ keeps.all_name ∙ sym (labels_other es (node_key l, r) inner);
    }
  where
    inner_of : (m : Label) (q : Record) (b : Bool) → same_label m l ≡ b → cond b (Some r) (get (node_key m) es) ≡ Some q → is_root m ≡ false
    inner_of m q true same h = ap is_root (same_label_is m l same) ∙ inner
    inner_of m q false same h = next.keeps.inner m q h

pub keeps_node : (t new : Tester) (es : Entries) (k : Key) (r : Record) → IsNext t es (k, r) → is_root k.label ≡ false → is_empty k.name ≡ true → entry_fits es (k, r) ≡ true
    → new.last ≡ Some k.label → HasGone k.label (room_of r) t.path.items new.path.items
    → ((m : Label) → get_in (slice_cmp nat_cmp) new.named m ≡ cond (is_document_record (Some r) && same_label k.label m) None (get_in (slice_cmp nat_cmp) t.named m))
    → new.all_name ≡ t.all_name → Keeps new (es ++ (k, r) ∷ [])
keeps_node t new es k r next inner empty fits last gone named all_name =
    let is : k ≡ node_key k.label = key_is k empty in
    subst (λ (key : Key). Keeps new (es ++ (key, r) ∷ [])) (sym is)
    (at_label t new es k.label r (next_node t es k r empty next) inner (ap (λ (key : Key). entry_fits es (key, r)) (sym is) ∙ fits) last gone named all_name)

-- ---- one entry more

same_keeps : (t new : Tester) (es : Entries) → new.last ≡ t.last → new.path ≡ t.path → new.named ≡ t.named → new.all_name ≡ t.all_name → Keeps t es → Keeps new es
same_keeps t new es last path named all_name keeps = record {
  unbroken = keeps.unbroken;
  labels = keeps.labels;
  inner = keeps.inner;
  last = last ∙ keeps.last;
  path = subst (λ p. IsPath p.items es) (sym path) keeps.path;
  names = λ l. ap (λ (m : BTreeMap Label Bool). get_in (slice_cmp nat_cmp) m l) named ∙ keeps.names l;
  all_name = all_name ∙ keeps.all_name;
}

abbrev StateOf : Option ℕ → Tester → Entries → Type 0
StateOf broken t es = MatchOption broken (Keeps t es) (λ at. misfit_at [] es ≡ Some at)

counted : (n m : ℕ) (es : Entries) (x : Key × Record) → n ≡ length es → m ≡ n + 1 → m ≡ length (es ++ x ∷ [])
counted n m es x is more = more ∙ ap (λ (k : ℕ). k + 1) is ∙ sym (length-append es (x ∷ []))

-- it fits
pub taken_more : (t mid : Tester) (es : Entries) (x : Key × Record) → HasTaken t es → t.broken ≡ None → mid.taken ≡ t.taken → mid.broken ≡ t.broken
    → (Sorted (es ++ x ∷ []) → Keeps t es → Keeps mid (es ++ x ∷ [])) → HasTaken (record mid { taken = mid.taken + 1 }) (es ++ x ∷ [])
taken_more t mid es x has unbroken count same keeps = record {
  count = counted t.taken (mid.taken + 1) es x has.count (ap (λ (n : ℕ). n + 1) count);
  state = λ s.
      let new : Tester = record mid { taken = mid.taken + 1 } in
      let before : Keeps t es = subst (λ (o : Option ℕ). StateOf o t es) unbroken (has.state (sorted_first es (x ∷ []) s)) in
      subst (λ (o : Option ℕ). StateOf o new (es ++ x ∷ [])) (sym (same ∙ unbroken)) (same_keeps mid new (es ++ x ∷ []) refl refl refl refl (keeps s before));
}

-- it doesn't
pub taken_misfit : (t : Tester) (es : Entries) (x : Key × Record) → HasTaken t es → t.broken ≡ None → (IsNext t es x → entry_fits es x ≡ false) → IsLabel x.0.label
    → HasTaken (record t { broken = Some t.taken; taken = t.taken + 1 }) (es ++ x ∷ [])
taken_misfit t es x has unbroken misfit label = record {
  count = counted t.taken (t.taken + 1) es x has.count refl;
  state = λ s.
      let keeps : Keeps t es = subst (λ (o : Option ℕ). StateOf o t es) unbroken (has.state (sorted_first es (x ∷ []) s)) in
      let fits : entry_fits es x ≡ false = misfit (record { keeps = keeps; sorted = s; label = label }) in
      misfit_more [] es x keeps.unbroken ∙ ap (λ (b : Bool). cond b None (Some (length es))) fits ∙ ap (λ (n : ℕ). Some n) (sym has.count);
}

-- an earlier one didn't
pub taken_behind : (t : Tester) (es : Entries) (x : Key × Record) (at : ℕ) → HasTaken t es → t.broken ≡ Some at → HasTaken (record t { taken = t.taken + 1 }) (es ++ x ∷ [])
taken_behind t es x at has broken = record {
  count = counted t.taken (t.taken + 1) es x has.count refl;
  state = λ s.
      let new : Tester = record t { taken = t.taken + 1 } in
      let before : misfit_at [] es ≡ Some at = subst (λ (o : Option ℕ). StateOf o t es) broken (has.state (sorted_first es (x ∷ []) s)) in
      subst (λ (o : Option ℕ). StateOf o new (es ++ x ∷ [])) (sym broken) (misfit_stays [] es (x ∷ []) at before);
}

-- ---- all of them

abbrev told : Option ℕ → Bool → ℕ → Option ℕ
told misfit fits n = option_or misfit (cond fits None (Some n))

-- one broke a rule
pub ends_broken : (t : Tester) (es : Entries) (at : ℕ) → HasTaken t es → t.broken ≡ Some at → Sorted es → Some at ≡ broken_at es
ends_broken t es at has broken s =
    let misfit : misfit_at [] es ≡ Some at = subst (λ (o : Option ℕ). StateOf o t es) broken (has.state s) in
    sym (ap (λ (o : Option ℕ). told o (catalogue_fits es es) (length es)) misfit)

-- none did
module _ (t : Tester) (es : Entries) (has : HasTaken t es) (unbroken : t.broken ≡ None) (s : Sorted es) where
  keeps : Keeps t es
  keeps = subst (λ (o : Option ℕ). StateOf o t es) unbroken (has.state s)

  by_catalogue : (b : Bool) → catalogue_fits es es ≡ b → broken_at es ≡ cond b None (Some (length es))
  by_catalogue b h = (λ i. told (keeps.unbroken i) (h i) (length es))

  pub ends_whole : t.all_name ≡ true → length t.named.entries ≡ 0 → None ≡ broken_at es
  ends_whole gives empty = sym (by_catalogue true (fits_whole t.named es keeps.names (sym keeps.all_name ∙ gives) empty))

  pub ends_nameless : t.all_name ≡ false → Some t.taken ≡ broken_at es
  ends_nameless h = ap (λ (n : ℕ). Some n) has.count ∙ sym (by_catalogue false (not_whole (catalogue_fits es es) (λ q. true≢false (sym (whole_gives es q) ∙ sym keeps.all_name ∙ h)) refl))
    where
      not_whole : (b : Bool) → (catalogue_fits es es ≡ true → ⊥) → catalogue_fits es es ≡ b → catalogue_fits es es ≡ false
      not_whole true never q = absurd (never q)
      not_whole false never q = q

  pub ends_undocumented : (length t.named.entries ≡ 0 → ⊥) → Some t.taken ≡ broken_at es
  ends_undocumented h = ap (λ (n : ℕ). Some n) has.count ∙ sym (by_catalogue false (not_whole (catalogue_fits es es) (λ q. h (whole_empties t.named es keeps.names q)) refl))
    where
      not_whole : (b : Bool) → (catalogue_fits es es ≡ true → ⊥) → catalogue_fits es es ≡ b → catalogue_fits es es ≡ false
      not_whole true never q = absurd (never q)
      not_whole false never q = q

  pub ends_as_tree : broken_at es ≡ None → IsStoredTree es
  ends_as_tree h = stored_tree es s keeps.labels h
