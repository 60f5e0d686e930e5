-- A fragment placed before a node or in its stead, and a node taken out: the tree stays valid.
use Rattle.std.specs.Cmp.Lexicographic.{slice_cmp}
use Rattle.std.proofs.Common.{◌≡◌, ◌≤◌, ◌+◌, true, false, ◌&&◌, nat_lt, ◌++◌, Option, None, Some, is_some, unwrap_or, Less, nat_cmp, refl, sym, ap, subst, ◌∙◌}
use Rattle.std.proofs.Common.{append-nil, arith, true≢false, ⊎_elim}
use Rattle.std.proofs.lemmas.Bool.Decides.{nat_tests}
use Rattle.dewey_labels.specs.Labels.{Label, root, is_child, is_label, level}
use Rattle.dewey_labels.specs.NewLabels.{first_division}
use Rattle.dewey_labels.proofs.Labels.{child_label, level_of_child, parent_of_child}
use Rattle.tree_model.specs.declared.record.Record.{Record}
use Rattle.tree_model.specs.declared.record.Record.TheVariants.{Document, Element, Text, Attr}
use Rattle.tree_model.specs.Limits.{deepest_level}
use Rattle.tree_model.specs.Names.{Name}
use Rattle.tree_model.specs.Tree.{Forest, none, node, own, entries_of, Tree, at, found, behind, next_of, prev_of, record_of}
use Rattle.tree_model.specs.inside.FoundNodes.{up, low}
use Rattle.tree_model.specs.ValidTrees.{KeysRise, KindsAllowed, LimitsKept, IsValidTree, may_stand}
use Rattle.tree_model.specs.Fragments.{Fragments, no_more, element, text, IsValid, depth, is_text_fragment}
use Rattle.tree_model.specs.Graft.{graft, graft_below, all_within}
use Rattle.tree_model.specs.NodeKinds.{is_document, is_text_node}
use Rattle.tree_model.specs.Edits.{edited}
use Rattle.tree_model.specs.Places.{is_root}
use Rattle.tree_model.specs.Placing.{is_too_deep, in_place}
use Rattle.tree_model.proofs.Appends.{kinds_below_document}
use Rattle.tree_model.proofs.Edits.{over, raise}
use Rattle.tree_model.proofs.EditedTrees.{labels-edit_below, edited_keeps, found_label}
use Rattle.tree_model.proofs.Found.{some_is, at_label, up_parent}
use Rattle.tree_model.proofs.FoundParents.{low_is, over_is}
use Rattle.tree_model.proofs.Grafts.{keys-graft, kinds-graft_below, limits-graft}
use Rattle.tree_model.proofs.PlaceLaws.{not_root, found_or_not}
use Rattle.tree_model.proofs.Split.{lower}
use Rattle.tree_changes.proofs.Gaps.{StandsBelow, InGap}

-- ---- a fragment before a row

-- below an element, it may stand before any row that may
pub kinds_before : (n : Name) (l : Label) (f : Fragments) (g : Forest) → KindsAllowed (Some (Element n)) g → KindsAllowed (Some (Element n)) (graft l f g)
kinds_before n l no_more g k = k
kinds_before n l (element m ats ch nx) g k = (refl, refl, refl, kinds-graft_below m l first_division ch, k)
kinds_before n l (text d nx) g k = (refl, refl, refl, tt, k)

-- its entries come before those of the row
pub entries_before : (l : Label) (f : Fragments) (g : Forest) → entries_of (graft l f g) ≡ entries_of (graft l f none) ++ entries_of g
entries_before l no_more g = refl
entries_before l (element n ats ch nx) g = ap (λ v. v ++ entries_of g)
    (sym (append-nil (own l (Element n) ats ++ entries_of (graft_below l first_division ch))))
entries_before l (text d nx) g = refl

-- ---- the trees behind a node

pub keys_behind : (p b : Label) (g : Forest) → KeysRise p b g → KeysRise p b (behind g)
keys_behind p b none k = tt
keys_behind p b (node m r ats ch nx) k = lower p b m nx k.1 k.5

pub kinds_behind : (q : Option Record) (g : Forest) → KindsAllowed q g → KindsAllowed q (behind g)
kinds_behind q none k = tt
kinds_behind q (node m r ats ch nx) k = k.4

pub limits_behind : (g : Forest) → LimitsKept g → LimitsKept (behind g)
limits_behind none k = tt
limits_behind (node m r ats ch nx) k = k.4

-- they come behind what comes before the first of them
raised_behind : (p b a : Label) (g : Forest) → KeysRise p b g → ((m : Label) → next_of g ≡ Some m → slice_cmp nat_cmp a m ≡ Less) → KeysRise p a (behind g)
raised_behind p b a none k h = tt
raised_behind p b a (node m r ats ch nx) k h = raise p a m nx k.5 h

-- ---- a node below a found node

module _ (p l : Label) (t : Tree) (w : IsValidTree t) (s : StandsBelow p l t) (y : found (at p t.documents) ≡ true) where
  -- no document stands there
  pub no_document_at : is_child root l ≡ false
  no_document_at = ⊎_elim (λ e. absurd
      (true≢false (sym (ap is_root (sym s.up_is ∙ up_parent l t.documents w.keys s.there ∙ parent_of_child root l refl e)) ∙ not_root p t w y))) (λ e. e)
      (found_or_not (is_child root l))

  -- its parent's record stands over it
  pub over_parent : over l None t.documents ≡ record_of (at p t.documents)
  over_parent = ⊎_elim
      (λ h. absurd (true≢false (sym (ap is_root (sym s.up_is ∙ h.0)) ∙ not_root p t w y)))
      (λ h. h.1 ∙ ap (λ z. record_of (at z t.documents)) s.up_is)
      (over_is None root root l t.documents w.keys s.there)

  parent_label : is_label p ≡ true
  parent_label = found_label p t.documents w.keys y

  -- it may be taken out
  pub removed_keeps : IsValidTree (edited l behind t)
  removed_keeps = edited_keeps l behind t w (record {
    documents = labels-edit_below l root root behind t.documents w.keys no_document_at;
    keys = keys_behind (up l root t.documents) (low l root t.documents) (at l t.documents);
    kinds = kinds_behind (over l None t.documents) (at l t.documents);
    limits = limits_behind (at l t.documents);
  })

  -- ---- a fragment whose labels keep the limits

  module _ (new : Label) (f : Fragments) (r : Option Label) (gap : InGap p new (prev_of None l t.documents) r) (valid : IsValid f)
      (within : all_within (graft new f none) ≡ true) (shallow : is_too_deep p f ≡ false) where
    low_before : slice_cmp nat_cmp (low l root t.documents) new ≡ Less
    low_before = subst (λ z. slice_cmp nat_cmp z new ≡ Less)
        (sym (low_is None root root l t.documents refl s.there ∙ ap (unwrap_or (prev_of None l t.documents)) s.up_is)) gap.behind_low

    -- the keys before a row
    keys_placed : (g : Forest) → KeysRise (up l root t.documents) (low l root t.documents) g → KeysRise (up l root t.documents) new g
        → KeysRise (up l root t.documents) (low l root t.documents) (graft new f g)
    keys_placed g k raised = keys-graft (up l root t.documents) (low l root t.documents) new f g
        (subst (λ z. is_child z new ≡ true) (sym s.up_is) gap.child) low_before within valid k raised

    limits_placed : (g : Forest) → LimitsKept g → LimitsKept (graft new f g)
    limits_placed g k = limits-graft p new f g (level_of_child p new parent_label gap.child) (child_label p new parent_label gap.child) fits valid k
      where
        fits : level p + depth f ≤ deepest_level
        fits = let e : nat_lt deepest_level (level p + depth f) ≡ false = shallow in grind (arith, nat_tests)

    -- before the node, below an element
    pub inserted_keeps : slice_cmp nat_cmp new l ≡ Less → is_text_node (at p t.documents) ≡ false → is_document (at p t.documents) ≡ false
        → IsValidTree (edited l (graft new f) t)
    inserted_keeps before no_text no_document = edited_keeps l (graft new f) t w (record {
      documents = labels-edit_below l root root (graft new f) t.documents w.keys no_document_at;
      keys = λ k. keys_placed (at l t.documents) k
          (raise (up l root t.documents) new (low l root t.documents) (at l t.documents) k
          (λ m h. subst (λ z. slice_cmp nat_cmp new z ≡ Less) (some_is l m (sym (at_label l t.documents s.there) ∙ h)) before));
      kinds = below_element (over l None t.documents) over_parent (at l t.documents) s.there;
      limits = limits_placed (at l t.documents);
    })
      where
        no_record : (g : Forest) → found g ≡ true → is_text_node g ≡ false → is_document g ≡ false → (q : Option Record) → q ≡ record_of g → (k : Forest)
            → found k ≡ true → KindsAllowed q k → (n : Name) × (q ≡ Some (Element n))
        no_record none z a b q e k there h = absurd (true≢false (sym z))
        no_record (node m Document ats ch nx) z a b q e k there h = absurd (true≢false b)
        no_record (node m (Text d) ats ch nx) z a b q e k there h = absurd (true≢false a)
        no_record (node m (Element n) ats ch nx) z a b q e k there h = (n, e)
        no_record (node m (Attr v) ats ch nx) z a b q e none there h = absurd (true≢false (sym there))
        no_record (node m (Attr v) ats ch nx) z a b q e (node j x ats' ch' nx') there h = let g : may_stand (Some (Attr v)) x ≡ true =
            subst (λ o. may_stand o x ≡ true) e h.0 in absurd (true≢false (sym g))

        below_element : (q : Option Record) → q ≡ record_of (at p t.documents) → (g : Forest) → found g ≡ true → KindsAllowed q g
            → KindsAllowed q (graft new f g)
        below_element q e g there k = let is = no_record (at p t.documents) y no_text no_document q e g there k in
            subst (λ o. KindsAllowed o (graft new f g)) (sym is.1) (kinds_before is.0 new f g (subst (λ o. KindsAllowed o g) is.1 k))

    -- in its stead
    pub replaced_keeps : ((m : Label) → next_of (at l t.documents) ≡ Some m → slice_cmp nat_cmp new m ≡ Less)
        → (is_document (at p t.documents) && is_text_fragment f) ≡ false → IsValidTree (edited l (in_place f new) t)
    replaced_keeps before kind = edited_keeps l (in_place f new) t w (record {
      documents = labels-edit_below l root root (in_place f new) t.documents w.keys no_document_at;
      keys = λ k. keys_placed (behind (at l t.documents)) (keys_behind (up l root t.documents) (low l root t.documents) (at l t.documents) k)
          (raised_behind (up l root t.documents) (low l root t.documents) new (at l t.documents) k before);
      kinds = stead (over l None t.documents) over_parent (at l t.documents) s.there;
      limits = λ k. limits_placed (behind (at l t.documents)) (limits_behind (at l t.documents) k);
    })
      where
        no_text : (g : Forest) → record_of g ≡ Some Document → (is_document g && is_text_fragment f) ≡ false → is_text_fragment f ≡ false
        no_text none e h = cc
        no_text (node m Document ats ch nx) e h = h
        no_text (node m (Element n) ats ch nx) e h = cc
        no_text (node m (Text d) ats ch nx) e h = cc
        no_text (node m (Attr v) ats ch nx) e h = cc

        some_over : (g : Forest) → found g ≡ true → None ≡ record_of g → ⊥
        some_over none z e = true≢false (sym z)
        some_over (node m r ats ch nx) z e = true≢false (ap is_some (sym e))

        stead : (q : Option Record) → q ≡ record_of (at p t.documents) → (g : Forest) → found g ≡ true → KindsAllowed q g
            → KindsAllowed q (graft new f (behind g))
        stead q e none there k = absurd (true≢false (sym there))
        stead None e (node m r ats ch nx) there k = absurd (some_over (at p t.documents) y e)
        stead (Some Document) e (node m r ats ch none) there k = kinds_below_document new f (no_text (at p t.documents) (sym e) kind)
        stead (Some Document) e (node m r ats ch (node m' r' ats' ch' nx')) there k = absurd (true≢false (sym k.1))
        stead (Some (Element n)) e (node m r ats ch nx) there k = kinds_before n new f nx k.4
        stead (Some (Text d)) e (node m r ats ch nx) there k = absurd (true≢false (sym k.0))
        stead (Some (Attr v)) e (node m r ats ch nx) there k = absurd (true≢false (sym k.0))
