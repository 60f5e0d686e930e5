-- The calls on a whole tree as the reads of its map meet them.
use Rattle.std.proofs.Common.{◌≡◌, ℕ, ◌+◌, Bool, true, false, cond, not, if◌then◌else◌, nat_lt, Less, nat_cmp, List, [], ◌∷◌, ◌++◌, map, Option, Some, None, is_some, option_map, refl, sym, ap, subst, ◌∙◌}
use Rattle.std.specs.Cmp.Lexicographic.{slice_cmp}
use Rattle.std.specs.List.{AllByRecursion}
use Rattle.dewey_labels.specs.Labels.{Label, root, parent, Within}
use Rattle.dewey_labels.specs.LabelText.{label_text}
use Rattle.dewey_labels.specs.Sides.{under}
use Rattle.tree_model.specs.declared.record.Record.{Record}
use Rattle.tree_model.specs.declared.reply.Reply.TheVariants.{Place, Refused}
use Rattle.tree_model.specs.declared.refusal.Refusal.TheVariants.{Dom, DocumentExists, TooDeep}
use Rattle.tree_model.specs.Names.{Name, is_name}
use Rattle.tree_model.specs.Limits.{deepest_level}
use Rattle.tree_model.specs.Fragments.{Fragments, depth, is_text_fragment}
use Rattle.dewey_labels.specs.NewLabels.{new_label}
use Rattle.tree_model.specs.Keys.{key_at, node_key}
use Rattle.tree_model.specs.Entries.{Below, get, first_above, last_below}
use Rattle.std.specs.Option.{option_or}
use Rattle.tree_model.specs.inside.Seeks.{behind_attributes, behind_tree, if_under, if_child}
use Rattle.tree_model.specs.Tree.{Attributes, Forest, none, node, entries_of, root_attributes, Tree, map_of, at, found, attributes_of, first_of, next_of, last_child_of, last_label, beside}
use Rattle.tree_model.specs.inside.FoundNodes.{up}
use Rattle.tree_model.specs.ValidTrees.{IsValidTree}
use Rattle.tree_model.specs.Outcomes.{Outcome, refused, see, invalid_character_err, hierarchy_request_err, not_found_err}
use Rattle.tree_model.specs.Documents.{place_document, create}
use Rattle.tree_model.specs.Navigation.{first}
use Rattle.tree_model.proofs.Lists.{all_append, all_on, all_by}
use Rattle.tree_model.proofs.Entries.{last_of, last_below_last}
use Rattle.tree_model.proofs.Split.{Labelled, SideIs, SideIn, under_in, all_under}
use Rattle.tree_model.proofs.Found.{up_parent}
use Rattle.tree_model.proofs.EntryLimits.{Fits, all_fit, attrs_fit}
use Rattle.tree_model.proofs.Seeks.{in_below_tree}
use Rattle.tree_model.proofs.ForwardReads.{first_child_law, next_law}
use Rattle.tree_model.proofs.BackwardReads.{or_none, last_append, last_found, last_child_law}
use Rattle.tree_model.proofs.Stretches.{attr_record, attr_law}
use Rattle.tree_model.proofs.WholeTree.{catalogue_entries, at_root, names_of_root, lies_in_tree, there_in_tree, get_document, no_child_of_root}
use Rattle.tree_model.proofs.NamedLists.{name_starts}

-- ---- navigation

-- a law of each found node that speaks of `at` alone
of_found : (P : Forest → Type 0) (l : Label) (t : Tree) → ((m : Label) (r : Record) (ats : Attributes) (ch nx : Forest) → at l t.documents ≡ node m r ats ch nx → P (node m r ats ch nx)) → found (at l t.documents) ≡ true → P (at l t.documents)
of_found P l t f y = elim (at l t.documents) as (λ g. at l t.documents ≡ g → found g ≡ true → P g) [
  | none ↦ λ _ q. cc
  | node m r ats ch nx ↦ λ e _. f m r ats ch nx e
] refl y

-- the first child is what lies behind the attributes, if that lies under the node
pub first_in_tree : (l : Label) (t : Tree) → IsValidTree t → found (at l t.documents) ≡ true → if_under l (first_above (behind_attributes l) (map_of t)) ≡ first_of (at l t.documents)
first_in_tree l t w y = of_found (λ g. if_under l (first_above (behind_attributes l) (map_of t)) ≡ first_of g) l t (λ m r ats ch nx e. first_child_law (up l root t.documents) l r ats ch nx (map_of t) (lies_in_tree l m r ats ch nx t w e)) y

-- the right neighbour is what lies behind the tree, if that lies under the parent
pub next_in_tree : (l : Label) (t : Tree) → IsValidTree t → found (at l t.documents) ≡ true → if_under (parent l) (first_above (behind_tree l) (map_of t)) ≡ next_of (at l t.documents)
next_in_tree l t w y = subst (λ p. if_under p (first_above (behind_tree l) (map_of t)) ≡ next_of (at l t.documents)) (up_parent l t.documents w.keys y)
    (of_found (λ g. if_under (up l root t.documents) (first_above (behind_tree l) (map_of t)) ≡ next_of g) l t (λ m r ats ch nx e. next_law (up l root t.documents) l r ats ch nx (map_of t) (lies_in_tree l m r ats ch nx t w e)) y)

-- the last child is the child on the way to what lies before the end of the tree
pub last_in_tree : (l : Label) (t : Tree) → IsValidTree t → found (at l t.documents) ≡ true → if_child l (last_below (behind_tree l) (map_of t)) ≡ last_child_of (at l t.documents)
last_in_tree l t w y = of_found (λ g. if_child l (last_below (behind_tree l) (map_of t)) ≡ last_child_of g) l t (λ m r ats ch nx e. last_child_law (up l root t.documents) l r ats ch nx (map_of t) (lies_in_tree l m r ats ch nx t w e)) y

-- an attribute
pub attribute_in_tree : (l : Label) (d : ℕ) (n : Name) (t : Tree) → IsValidTree t → found (at l t.documents) ≡ true → get (key_at l (d ∷ n)) (map_of t) ≡ attr_record (beside (d ∷ n) (attributes_of (at l t.documents)))
attribute_in_tree l d n t w y = of_found (λ g. get (key_at l (d ∷ n)) (map_of t) ≡ attr_record (beside (d ∷ n) (attributes_of g))) l t (λ m r ats ch nx e. attr_law (up l root t.documents) l r ats ch nx (map_of t) (lies_in_tree l m r ats ch nx t w e) d n) y

-- the last document is the root's child on the way to what lies last of all
pub last_document_in_tree : (t : Tree) → IsValidTree t → if_child root (last_below (behind_tree root) (map_of t)) ≡ last_label t.documents
last_document_in_tree t w =
    let k = behind_tree root in
    let cat = catalogue_entries t.catalogue in
    let docs = entries_of t.documents in
    let in_root : AllByRecursion (Labelled (SideIn root)) (map_of t) = all_append (Labelled (SideIn root)) cat docs (at_root (SideIn root) refl t.catalogue) (all_on (Labelled (SideIs root under)) (Labelled (SideIn root)) (λ e h. under_in root e.0.label h) docs (all_under root root t.documents w.keys)) in
    let fit : AllByRecursion Fits (map_of t) = all_append Fits cat docs (attrs_fit [] root (root_attributes t.catalogue) root_within (names_of_root [] t.catalogue w.catalogue.names)) (all_fit root root t.documents w.keys) in
    let low : AllByRecursion (Below k) (map_of t) = all_by (Labelled (SideIn root)) Fits (Below k) (λ e i f. in_below_tree root e i f) (map_of t) in_root fit in
    ap (if_child root) (last_below_last k (map_of t) low ∙ last_append cat docs)
    ∙ last_found root root t.documents (last_of cat) w.keys
    ∙ ap (option_or (last_label t.documents)) (no_child_of_root t.catalogue) ∙ sym (or_none (last_label t.documents))
  where
    root_within : Within root
    root_within = (omega Rattle.std.proofs.Common.arith, (omega Rattle.std.proofs.Common.arith, tt))

-- ---- `first`

see_is : (answer : Forest → Rattle.tree_model.specs.declared.reply.Reply.Reply) (g : Forest) → see answer g ≡ cond (found g) (answer g) (Refused (Dom not_found_err))
see_is answer none = refl
see_is answer (node l r ats ch nx) = refl

-- whether the node is there, and what lies behind its attributes
pub first_meets : (l : Label) (t : Tree) (there : Bool) (child : Option Label) → IsValidTree t
    → there ≡ is_some (get (node_key l) (map_of t))
    → (there ≡ true → child ≡ if_under l (first_above (behind_attributes l) (map_of t)))
    → cond there (Place child) (Refused (Dom not_found_err)) ≡ first l t
first_meets l t there child w is_there is_child =
    let there_is : there ≡ found (at l t.documents) = is_there ∙ there_in_tree l t w in
    elim there as (λ b. there ≡ b → cond b (Place child) (Refused (Dom not_found_err)) ≡ first l t) [
      | true ↦ λ q. ap Place (is_child q ∙ first_in_tree l t w (sym there_is ∙ q)) ∙ sym (see_is (λ g. Place (first_of g)) (at l t.documents) ∙ ap (λ b. cond b (Place (first_of (at l t.documents))) (Refused (Dom not_found_err))) (sym there_is ∙ q))
      | false ↦ λ q. sym (see_is (λ g. Place (first_of g)) (at l t.documents) ∙ ap (λ b. cond b (Place (first_of (at l t.documents))) (Refused (Dom not_found_err))) (sym there_is ∙ q))
    ] refl

-- ---- `create`

-- the catalogue has a name where its key is there
pub there_document : (n : Name) (t : Tree) → IsValidTree t → is_name n ≡ true → is_some (get (key_at root n) (map_of t)) ≡ is_some (beside n t.catalogue)
there_document [] t w h = absurd (no_less (name_starts [] h))
  where
    no_less : slice_cmp {A = ℕ} nat_cmp [] [] ≡ Less → ⊥
    no_less e = cc
there_document (d ∷ n) t w h = ap is_some (get_document d n t w) ∙ same_is_some (beside (d ∷ n) t.catalogue)
  where
    same_is_some : (o : Option Label) → is_some (attr_record (option_map label_text o)) ≡ is_some o
    same_is_some None = refl
    same_is_some (Some l) = refl

-- what is left to test behind the name
abbrev pub with_name : Name → Fragments → Tree → Bool → Option Label → Outcome
with_name n f t there last =
    if is_text_fragment f then refused (Dom hierarchy_request_err) t
    else if there then refused DocumentExists t
    else if nat_lt deepest_level (1 + depth f) then refused TooDeep t
    else place_document n f t (new_label root last None)

-- the name's test, whether the catalogue has it, and the last document's label
pub create_meets : (n : Name) (f : Fragments) (t : Tree) (name there : Bool) (last : Option Label) → IsValidTree t
    → name ≡ is_name n
    → (name ≡ true → there ≡ is_some (get (key_at root n) (map_of t)))
    → last ≡ if_child root (last_below (behind_tree root) (map_of t))
    → (if not name then refused (Dom invalid_character_err) t else with_name n f t there last) ≡ create n f t
create_meets n f t name there last w is_named is_there is_last =
    elim name as (λ b. name ≡ b → (if not b then refused (Dom invalid_character_err) t else with_name n f t there last) ≡ create n f t) [
      | false ↦ λ q. ap (λ b. if not b then refused (Dom invalid_character_err) t else with_name n f t (is_some (beside n t.catalogue)) (last_label t.documents)) (sym q ∙ is_named)
      | true ↦ λ q. (λ i. with_name n f t ((is_there q ∙ there_document n t w (sym is_named ∙ q)) i) ((is_last ∙ last_document_in_tree t w) i))
          ∙ ap (λ b. if not b then refused (Dom invalid_character_err) t else with_name n f t (is_some (beside n t.catalogue)) (last_label t.documents)) (sym q ∙ is_named)
    ] refl
