-- The reply and the changes of `normalize`, by the kind of the node that was found.
use Rattle.std.proofs.Common.{◌≡◌, ◌↔◌, ℕ, Bool, true, false, not, if◌then◌else◌, ◌&&◌, nat_le, nat_lt, length, List, [], ◌∷◌, ◌++◌, map, IsTrue, Some, None, inl, refl, sym, ap, subst, ◌∙◌, true≢false, arith}
use Rattle.std.proofs.lemmas.Bool.Decides.{nat_tests}
use Rattle.std.specs.List.{AllByRecursion}
use Rattle.std.specs.Str.{is_utf8}
use Rattle.dewey_labels.specs.Labels.{Label, is_label}
use Rattle.dewey_labels.proofs.Codes.{first_of_both}
use Rattle.dewey_labels.proofs.Labels.{child_label}
use Rattle.tree_model.specs.declared.dom_call.DomCall.TheVariants as call
use Rattle.tree_model.specs.declared.record.Record.{Record}
use Rattle.tree_model.specs.declared.record.Record.TheVariants.{Attr, Document, Element, Text}
use Rattle.tree_model.specs.declared.refusal.Refusal.TheVariants.{Dom, TextLimit}
use Rattle.tree_model.specs.declared.reply.Reply.TheVariants.{Nothing, Refused}
use Rattle.tree_model.specs.Changes.{differences}
use Rattle.tree_model.specs.Limits.{is_too_long, most_text_bytes}
use Rattle.tree_model.specs.NodeKinds.{is_text_node, is_text_record}
use Rattle.tree_model.specs.Outcomes.{Outcome, is_refused, not_found_err, refused, see_in}
use Rattle.tree_model.specs.Records.{is_data}
use Rattle.tree_model.specs.Texts.{normal, normalize, normalize_in, texts_fit}
use Rattle.tree_model.specs.Tree.{Attributes, Forest, none, node, Tree, attr_entry, own, at, below, entries_of, found, map_of, record_of}
use Rattle.tree_model.specs.ValidTrees.{IsValidTree, KeysRise, LimitsKept}
use Rattle.tree_model.proofs.EditedTrees.{found_label as is_label_found}
use Rattle.tree_model.proofs.Found.{some_is}
use Rattle.tree_model.proofs.FoundRecords.{at_kinds, at_limits}
use Rattle.tree_model.proofs.Lists.{all_append, all_before, all_behind}
use Rattle.tree_model.proofs.Refusals.{dom_refused}
use Rattle.tree_model.proofs.WholeTree.{map_sorted}
use Rattle.tree_changes.proofs.ChangeLists.{no_differences}
use Rattle.tree_changes.proofs.ContentLaws.{normalize_differences, normalize_of_text}
use Rattle.tree_changes.proofs.NormalTexts.{normal_keys, normal_limits}
use Rattle.dom_writes.specs.inside.NormalTexts.{joined, IsValidText}
use Rattle.dom_writes.proofs.EntriesBelow.{keys_below}
use Rattle.dom_writes.proofs.NormalForests.{entries_joined}

-- ---- texts that a tree may have

-- in a row that keeps the limits all are
valid_texts : (p b : Label) (g : Forest) → is_label p ≡ true → KeysRise p b g → LimitsKept g → AllByRecursion IsValidText (entries_of g)
valid_texts p b none h w v = tt
valid_texts p b (node l r ats ch nx) h w v =
    let labelled = child_label p l h w.0 in
    all_append IsValidText (own l r ats ++ entries_of ch) (entries_of nx)
    (all_append IsValidText (own l r ats) (entries_of ch) (λ _. (record { label = (labelled, w.2); level = v.0; name = inl refl }, v.1), attributes ats) (valid_texts l l ch labelled w.4 v.3))
    (valid_texts p l nx h w.5 v.4)
  where
    attributes : (ats : Attributes) → AllByRecursion IsValidText (map (attr_entry l) ats)
    attributes [] = tt
    attributes (a ∷ ats) = (λ no. absurd (true≢false (sym no)), attributes ats)

short : (d : List ℕ) → is_data d ≡ true → not (is_too_long d) ≡ true
short d h = let fits : nat_le (length d) most_text_bytes ≡ true = first_of_both (nat_le (length d) most_text_bytes) (is_utf8 d) h in
    ap not (let z : nat_lt most_text_bytes (length d) ≡ false = grind (arith, nat_tests) in z)

valid_behind : (l : Label) (r : Record) (ats : Attributes) (ch nx : Forest) → AllByRecursion IsValidText (entries_of (node l r ats ch nx)) → AllByRecursion IsValidText (entries_of nx)
valid_behind l r ats ch nx v = all_behind IsValidText (own l r ats ++ entries_of ch) (entries_of nx) v

valid_inside : (l : Label) (r : Record) (ats : Attributes) (ch nx : Forest) → AllByRecursion IsValidText (entries_of (node l r ats ch nx)) → AllByRecursion IsValidText (entries_of ch)
valid_inside l r ats ch nx v = all_behind IsValidText (own l r ats) (entries_of ch) (all_before IsValidText (own l r ats ++ entries_of ch) (entries_of nx) v)

-- and where all are, each is short enough
short_texts : (g : Forest) → AllByRecursion IsValidText (entries_of g) → texts_fit g ≡ true
short_texts none v = refl
short_texts (node l (Text d) ats ch nx) v = λ i. short d ((v.0 refl).1) i && short_texts nx (valid_behind l (Text d) ats ch nx v) i
short_texts (node l Document ats ch nx) v = λ i. short_texts ch (valid_inside l Document ats ch nx v) i && short_texts nx (valid_behind l Document ats ch nx v) i
short_texts (node l (Element n) ats ch nx) v = λ i. short_texts ch (valid_inside l (Element n) ats ch nx v) i && short_texts nx (valid_behind l (Element n) ats ch nx v) i
short_texts (node l (Attr w) ats ch nx) v = λ i. short_texts ch (valid_inside l (Attr w) ats ch nx v) i && short_texts nx (valid_behind l (Attr w) ats ch nx v) i

-- ---- the row below a found node

module _ (l : Label) (t : Tree) (w : IsValidTree t) where
  -- its entries joined
  pub joined_below : joined (entries_of (below (at l t.documents))) ≡ entries_of (normal (below (at l t.documents)))
  joined_below = by (at l t.documents) refl
    where
      by : (g : Forest) → at l t.documents ≡ g → joined (entries_of (below g)) ≡ entries_of (normal (below g))
      by none e = refl
      by (node m r ats ch nx) e =
          let kinds = subst (Rattle.tree_model.specs.ValidTrees.KindsAllowed (Rattle.tree_model.proofs.Edits.over l None t.documents)) e (at_kinds None l t.documents w.kinds) in
          entries_joined l l (Some r) ch (is_label_found l t.documents w.keys (ap found e)) (keys_below l m r ats ch nx t w e) kinds.3

  -- whether they fit is what the definition tests
  pub fit_is : (fit : Bool) → IsTrue fit ↔ AllByRecursion IsValidText (joined (entries_of (below (at l t.documents))))
      → fit ≡ texts_fit (normal (below (at l t.documents)))
  fit_is fit both = by_cases fit (texts_fit (normal (below (at l t.documents))))
      (λ h. short_texts (normal (below (at l t.documents))) (subst (AllByRecursion IsValidText) joined_below (both.0 h)))
      (λ h. both.1 (subst (AllByRecursion IsValidText) (sym joined_below) (all_valid h)))
    where
      by_cases : (a b : Bool) → (a ≡ true → b ≡ true) → (b ≡ true → a ≡ true) → a ≡ b
      by_cases true b f g = sym (f refl)
      by_cases false true f g = g refl
      by_cases false false f g = refl

      by : (g : Forest) → at l t.documents ≡ g → texts_fit (normal (below g)) ≡ true → AllByRecursion IsValidText (entries_of (normal (below g)))
      by none e h = tt
      by (node m r ats ch nx) e h =
          let limits : LimitsKept (node m r ats ch nx) = subst LimitsKept e (at_limits l t.documents w.limits) in
          valid_texts l l (normal ch) (is_label_found l t.documents w.keys (ap found e)) (normal_keys l l ch (keys_below l m r ats ch nx t w e)) (normal_limits ch limits.3 h)

      all_valid : texts_fit (normal (below (at l t.documents))) ≡ true → AllByRecursion IsValidText (entries_of (normal (below (at l t.documents))))
      all_valid h = by (at l t.documents) refl h

  -- ---- the reply

  pub missing_reply : None ≡ record_of (at l t.documents) → Refused (Dom not_found_err) ≡ (normalize l t).0
  missing_reply h = by (at l t.documents) h
    where
      by : (g : Forest) → None ≡ record_of g → Refused (Dom not_found_err) ≡ (see_in t (normalize_in l t) g).0
      by none q = refl
      by (node m s ats ch nx) q = cc

  text_found : (r : Record) → Some r ≡ record_of (at l t.documents) → is_text_node (at l t.documents) ≡ is_text_record (Some r)
  text_found r h = by (at l t.documents) h
    where
      kind : (m : Label) (s : Record) (ats : Attributes) (ch nx : Forest) → is_text_node (node m s ats ch nx) ≡ is_text_record (Some s)
      kind m Document ats ch nx = refl
      kind m (Element n) ats ch nx = refl
      kind m (Text d) ats ch nx = refl
      kind m (Attr v) ats ch nx = refl

      by : (g : Forest) → Some r ≡ record_of g → is_text_node g ≡ is_text_record (Some r)
      by none q = cc
      by (node m s ats ch nx) q = kind m s ats ch nx ∙ ap (λ v. is_text_record (Some v)) (sym (some_is r s q))

  reply_found : (r : Record) → Some r ≡ record_of (at l t.documents)
      → (normalize l t).0 ≡ (if is_text_record (Some r) then Nothing else if texts_fit (normal (below (at l t.documents))) then Nothing else Refused TextLimit)
  reply_found r h = by (at l t.documents) h (text_found r h)
    where
      tests : (a b : Bool) (u v o : Outcome) → (if a then u else if b then v else o).0 ≡ (if a then u.0 else if b then v.0 else o.0)
      tests true b u v o = refl
      tests false true u v o = refl
      tests false false u v o = refl

      by : (g : Forest) → Some r ≡ record_of g → is_text_node g ≡ is_text_record (Some r)
          → (see_in t (normalize_in l t) g).0 ≡ (if is_text_record (Some r) then Nothing else if texts_fit (normal (below g)) then Nothing else Refused TextLimit)
      by none q k = cc
      by (node m s ats ch nx) q k = tests (is_text_node (node m s ats ch nx)) (texts_fit (normal ch)) (Nothing, t) _ (refused TextLimit t)
          ∙ ap (λ b. if b then Nothing else if texts_fit (normal ch) then Nothing else Refused TextLimit) k

  pub text_reply : (r : Record) → Some r ≡ record_of (at l t.documents) → is_text_record (Some r) ≡ true → Nothing ≡ (normalize l t).0
  text_reply r h k = sym (reply_found r h ∙ ap (λ b. if b then Nothing else if texts_fit (normal (below (at l t.documents))) then Nothing else Refused TextLimit) k)

  pub other_reply : (r : Record) (fit : Bool) → Some r ≡ record_of (at l t.documents) → is_text_record (Some r) ≡ false → fit ≡ texts_fit (normal (below (at l t.documents)))
      → (if fit then Nothing else Refused TextLimit) ≡ (normalize l t).0
  other_reply r fit h k f = sym (reply_found r h ∙ (λ i. if k i then Nothing else if sym f i then Nothing else Refused TextLimit))

  -- ---- the changes

  none_changed : (normalize l t).1 ≡ t → [] ≡ differences (map_of t) (map_of (normalize l t).1)
  none_changed e = sym (no_differences (map_of t) (map_sorted t w)) ∙ ap (λ v. differences (map_of t) (map_of v)) (sym e)

  pub refused_changes : is_refused (normalize l t).0 ≡ true → [] ≡ differences (map_of t) (map_of (normalize l t).1)
  refused_changes h = none_changed ((dom_refused (call.Normalize l) t).same h)

  pub text_changes : (r : Record) → Some r ≡ record_of (at l t.documents) → is_text_record (Some r) ≡ true → [] ≡ differences (map_of t) (map_of (normalize l t).1)
  text_changes r h k = none_changed (normalize_of_text l t (text_found r h ∙ k))

  pub other_changes : (r : Record) (fit : Bool) → Some r ≡ record_of (at l t.documents) → is_text_record (Some r) ≡ false → fit ≡ texts_fit (normal (below (at l t.documents)))
      → (if fit then differences (entries_of (below (at l t.documents))) (joined (entries_of (below (at l t.documents)))) else []) ≡ differences (map_of t) (map_of (normalize l t).1)
  other_changes r true h k f =
      ap (differences (entries_of (below (at l t.documents)))) joined_below
      ∙ sym (normalize_differences l t w (text_found r h ∙ k) (ap is_refused (sym (other_reply r true h k f))))
  other_changes r false h k f = refused_changes (ap is_refused (sym (other_reply r false h k f)))
