-- Calls that change one node in its place keep the laws.
use Rattle.std.proofs.Common.{◌≡◌, ℕ, Bool, true, false, not, if◌then◌else◌, List, [], ◌∷◌, ◌++◌, Option, Some, is_some, is_eq, refl, sym, ap, subst, ◌∙◌}
use Rattle.std.proofs.Common.{true≢false}
use Rattle.dewey_labels.specs.Labels.{Label}
use Rattle.lock_modes.specs.declared.mode.Mode.TheVariants.{SX}
use Rattle.lock_resources.specs.declared.resource.Resource.TheVariants.{Node, Attr}
use Rattle.lock_resources.specs.declared.request.Request.{Request}
use Rattle.lock_resources.specs.Intentions.{with_intentions}
use Rattle.tree_model.specs.declared.record.Record.{Record}
use Rattle.tree_model.specs.declared.record.Record.TheVariants.{Document, Element, Text, Attr as AttrRecord}
use Rattle.tree_model.specs.declared.change.Change.{Change}
use Rattle.tree_model.specs.declared.reply.Reply.TheVariants.{Refused, Nothing}
use Rattle.tree_model.specs.declared.refusal.Refusal.TheVariants.{Dom, TextLimit}
use Rattle.tree_model.specs.Names.{Name, is_name}
use Rattle.tree_model.specs.Keys.{key_cmp, key_at, node_key}
use Rattle.tree_model.specs.Entries.{get, put, changed}
use Rattle.tree_model.specs.Tree.{Forest, none, node, Tree, map_of, at, found, attributes_of}
use Rattle.tree_model.specs.ValidTrees.{IsValidTree}
use Rattle.tree_model.specs.Outcomes.{refused, see_in, invalid_character_err}
use Rattle.tree_model.specs.NodeKinds.{is_element, is_text_node}
use Rattle.tree_model.specs.Edits.{edited, with_record, with_attributes, with_entry}
use Rattle.tree_model.specs.Limits.{is_too_long}
use Rattle.tree_model.specs.Texts.{in_text, set_data_in, set_data}
use Rattle.tree_model.specs.Attributes.{in_element, set_attr_in, set_attr}
use Rattle.tree_model.proofs.WholeTree.{there_in_tree}
use Rattle.tree_changes.specs.ValidCalls.{IsValidCall}
use Rattle.tree_changes.proofs.EditedMaps.{with_label}
use Rattle.tree_changes.proofs.InPlace.{record_puts, attribute_puts}
use Rattle.tree_changes.proofs.DataLaws.{set_data_keeps}
use Rattle.tree_changes.proofs.AttributeLaws.{set_attr_keeps}
use Rattle.tree_cells.specs.Cells.{Cell, node_cell, attr_cell, edge_cell}
use Rattle.tree_cells.specs.Covers.{writes}
use Rattle.tree_cells.proofs.KeyChanges.{get_in_changed}
use Rattle.tree_cells.proofs.SameTrees.{key_is}
use Rattle.lock_plans.specs.DomPlans.{run}
use Rattle.dom_laws.proofs.Same.{same_asks, same_answers, Same}
use Rattle.tree_cells.proofs.Seen.{in_self}
use Rattle.dom_laws.proofs.StepLaws.{not_false, seen_at, same_see, same_element, same_text}
use Rattle.dom_laws.proofs.Changes.{HasKey, same_in_place, taken, taken_attribute}
use Rattle.lock_modes.specs.declared.ask.Ask.TheVariants as ask
use Rattle.tree_model.specs.declared.dom_call.DomCall.TheVariants as call

-- ---- no node comes or goes

-- after a record is put at a node that is there
pub node_put : (l m : Label) (r : Record) (t t' : Tree) → IsValidTree t → IsValidTree t' → found (at l t.documents) ≡ true
    → map_of t' ≡ changed (record { key = node_key l; now = Some r } ∷ []) (map_of t) → found (at m t'.documents) ≡ found (at m t.documents)
node_put l m r t t' w v y e =
    sym (there_in_tree m t' v) ∙ ap is_some (get_in_changed (node_key m) (record { key = node_key l; now = Some r } ∷ []) t t' w e)
    ∙ by (is_eq (key_cmp (node_key m) (node_key l))) refl
  where
    by : (b : Bool) → is_eq (key_cmp (node_key m) (node_key l)) ≡ b
        → is_some (Rattle.std.proofs.Common.cond b (Some r) (get (node_key m) (map_of t))) ≡ found (at m t.documents)
    by true h = sym (ap (λ k. found (at k t.documents)) (ap (λ k. k.label) (key_is (node_key m) (node_key l) h)) ∙ y)
    by false h = there_in_tree m t w

-- no Name is empty
less_itself : Rattle.std.specs.Cmp.Lexicographic.slice_cmp {A = ℕ} Rattle.std.proofs.Common.nat_cmp [] [] ≡ Rattle.std.proofs.Common.Less → ⊥
less_itself e = cc

pub no_name : (n : Name) → is_name n ≡ true → [] ≡ n → ⊥
no_name n h g = less_itself (subst (λ z. Rattle.std.specs.Cmp.Lexicographic.slice_cmp Rattle.std.proofs.Common.nat_cmp [] z ≡ Rattle.std.proofs.Common.Less)
    (sym g) (Rattle.tree_model.proofs.NamedLists.name_starts n h))

-- after an attribute is put
pub attribute_put : (l m : Label) (n : Name) (o : Option Record) (t t' : Tree) → IsValidTree t → IsValidTree t' → is_name n ≡ true
    → map_of t' ≡ changed (record { key = key_at l n; now = o } ∷ []) (map_of t) → found (at m t'.documents) ≡ found (at m t.documents)
attribute_put l m n o t t' w v h e =
    sym (there_in_tree m t' v) ∙ ap is_some (get_in_changed (node_key m) (record { key = key_at l n; now = o } ∷ []) t t' w e)
    ∙ by (is_eq (key_cmp (node_key m) (key_at l n))) refl
  where
    by : (b : Bool) → is_eq (key_cmp (node_key m) (key_at l n)) ≡ b
        → is_some (Rattle.std.proofs.Common.cond b o (get (node_key m) (map_of t))) ≡ found (at m t.documents)
    by true g = absurd (no_name n h (ap (λ k. k.name) (key_is (node_key m) (key_at l n) g)))
    by false g = there_in_tree m t w

-- a node that was taken is covered for writing
pub node_covered : (acc : List Request) (l : Label) (x : Cell) → HasKey x (node_key l) → writes (acc ++ with_intentions (Node l) (ask.Node SX)) x ≡ true
node_covered acc l (node_cell m) h = taken acc l (node_cell m)
    (subst (λ z. Rattle.dewey_labels.specs.Sides.is_in (Rattle.dewey_labels.specs.Sides.side l z) ≡ true) (ap (λ k. k.label) h) (in_self l))
node_covered acc l (attr_cell m n) h = taken acc l (attr_cell m n)
    (subst (λ z. Rattle.dewey_labels.specs.Sides.is_in (Rattle.dewey_labels.specs.Sides.side l z) ≡ true) (ap (λ k. k.label) h) (in_self l))
node_covered acc l (edge_cell m s) h = absurd h

-- ---- `set_data`

-- a text that was found
set_data_is : (l : Label) (d : List ℕ) (t : Tree) (f : Forest) → found f ≡ true → is_text_node f ≡ true → is_too_long d ≡ false
    → see_in t (in_text t (set_data_in l d t)) f ≡ (Nothing, edited l (with_record (Text d)) t)
set_data_is l d t none y k s = absurd (true≢false (sym y))
set_data_is l d t (node m Document ats ch nx) y k s = absurd (true≢false (sym k))
set_data_is l d t (node m (Element n) ats ch nx) y k s = absurd (true≢false (sym k))
set_data_is l d t (node m (AttrRecord v) ats ch nx) y k s = absurd (true≢false (sym k))
set_data_is l d t (node m (Text old) ats ch nx) y k s = ap (λ b. if b then refused TextLimit t else (Nothing, edited l (with_record (Text d)) t)) s

pub set_data_same : (l : Label) (d : List ℕ) → IsValidCall (call.SetData l d) → (t u : Tree) → IsValidTree t → IsValidTree u
    → Same [] t u (run (call.SetData l d) t) (run (call.SetData l d) u)
set_data_same l d valid t u w v =
    same_see [] l t u w v _ _ valid.labels.0.0 (λ e y z.
    same_text _ l t u w v _ _ e (λ kt ku.
    same_answers _ t u (is_too_long d) (is_too_long d) (Refused TextLimit) _ _ refl (λ s _.
    same_asks _ t u (Node l) (ask.Node SX) _ _ refl valid.labels.0.0 (λ agree.
    let it = set_data_is l d t (at l t.documents) y kt s in
    let iu = set_data_is l d u (at l u.documents) z ku s in
    let cs : List Change = record { key = node_key l; now = Some (Text d) } ∷ [] in
    let wt = set_data_keeps l d t w valid.text in
    let wu = set_data_keeps l d u v valid.text in
    let mt : map_of (set_data l d t).1 ≡ changed cs (map_of t) = ap (λ o. map_of o.1) it ∙ record_puts l (Text d) t w y in
    let mu : map_of (set_data l d u).1 ≡ changed cs (map_of u) = ap (λ o. map_of o.1) iu ∙ record_puts l (Text d) u v z in
    same_in_place _ t u w v agree (set_data l d t) (set_data l d u) cs mt mu (node_covered (seen_at [] l) l, tt)
    (ap (λ o. o.0) it ∙ sym (ap (λ o. o.0) iu)) wt wu
    (λ m. node_put l m (Text d) t (set_data l d t).1 w wt y mt) (λ m. node_put l m (Text d) u (set_data l d u).1 v wu z mu)))))

-- ---- `set_attr`

-- an element that was found
set_attr_is : (l : Label) (n : Name) (v : List ℕ) (t : Tree) (f : Forest) → found f ≡ true → is_element f ≡ true → is_name n ≡ true → is_too_long v ≡ false
    → see_in t (in_element t (set_attr_in l n v t)) f ≡ (Nothing, edited l (with_attributes (with_entry n v (attributes_of f))) t)
set_attr_is l n v t none y k h s = absurd (true≢false (sym y))
set_attr_is l n v t (node m Document ats ch nx) y k h s = absurd (true≢false (sym k))
set_attr_is l n v t (node m (Text d) ats ch nx) y k h s = absurd (true≢false (sym k))
set_attr_is l n v t (node m (AttrRecord d) ats ch nx) y k h s = absurd (true≢false (sym k))
set_attr_is l n v t (node m (Element g) ats ch nx) y k h s = λ i. if not (h i) then refused
    (Dom invalid_character_err) t else if s i then refused TextLimit t else (Nothing, edited l (with_attributes (with_entry n v ats)) t)

-- the map after it
set_attr_puts : (l : Label) (n : Name) (v : List ℕ) (t : Tree) → IsValidTree t → found (at l t.documents) ≡ true → is_element (at l t.documents) ≡ true
    → is_name n ≡ true → is_too_long v ≡ false → map_of (set_attr l n v t).1 ≡ put (key_at l n, AttrRecord v) (map_of t)
set_attr_puts l n v t w y k h s =
    ap (λ o. map_of o.1) (set_attr_is l n v t (at l t.documents) y k h s)
    ∙ with_label (λ g. map_of (edited l (with_attributes (with_entry n v (attributes_of g))) t) ≡ put (key_at l n, AttrRecord v) (map_of t)) l t y
    (λ r ats ch nx e. attribute_puts l n v t w h r ats ch nx e)

pub set_attr_same : (l : Label) (n : Name) (v : List ℕ) → IsValidCall (call.SetAttr l n v) → (t u : Tree) → IsValidTree t → IsValidTree u
    → Same [] t u (run (call.SetAttr l n v) t) (run (call.SetAttr l n v) u)
set_attr_same l n x valid t u w v =
    same_see [] l t u w v _ _ valid.labels.0.0 (λ e y z.
    same_element _ l t u w v _ _ e (λ kt ku.
    same_answers _ t u (not (is_name n)) (not (is_name n)) (Refused (Dom invalid_character_err)) _ _ refl (λ not_named _.
    same_answers _ t u (is_too_long x) (is_too_long x) (Refused TextLimit) _ _ refl (λ s _.
    same_asks _ t u (Attr l n) (ask.Node SX) _ _ refl valid.labels.0.0 (λ agree.
    let h : is_name n ≡ true = not_false (is_name n) not_named in
    let cs : List Change = record { key = key_at l n; now = Some (AttrRecord x) } ∷ [] in
    let wt = set_attr_keeps l n x t w valid.text in
    let wu = set_attr_keeps l n x u v valid.text in
    let mt : map_of (set_attr l n x t).1 ≡ changed cs (map_of t) = set_attr_puts l n x t w y kt h s in
    let mu : map_of (set_attr l n x u).1 ≡ changed cs (map_of u) = set_attr_puts l n x u v z ku h s in
    same_in_place _ t u w v agree (set_attr l n x t) (set_attr l n x u) cs mt mu (covered h (seen_at [] l), tt)
    (ap (λ o. o.0) (set_attr_is l n x t (at l t.documents) y kt h s) ∙ sym (ap (λ o. o.0) (set_attr_is l n x u (at l u.documents) z ku h s))) wt wu
    (λ m. attribute_put l m n (Some (AttrRecord x)) t (set_attr l n x t).1 w wt h mt)
    (λ m. attribute_put l m n (Some (AttrRecord x)) u (set_attr l n x u).1 v wu h mu))))))
  where
    covered : is_name n ≡ true → (acc : List Request) (y : Cell) → HasKey y (key_at l n) → writes (acc ++ with_intentions (Attr l n) (ask.Node SX)) y ≡ true
    covered h acc (node_cell m) e = absurd (no_name n h (sym (ap (λ k. k.name) e)))
    covered h acc (attr_cell m k) e = subst (λ z. writes (acc ++ with_intentions (Attr l n) (ask.Node SX)) (attr_cell z k) ≡ true) (ap (λ k. k.label) e)
        (subst (λ z. writes (acc ++ with_intentions (Attr l n) (ask.Node SX)) (attr_cell l z) ≡ true) (ap (λ k. k.name) e) (taken_attribute acc l n))
    covered h acc (edge_cell m s) e = absurd e
