-- `remove_attr` on two trees that agree on what it asks for: it goes the same way on both.
use Rattle.std.proofs.Common.{◌≡◌, true, not, if◌then◌else◌, List, [], ◌∷◌, ◌++◌, None, is_some, refl, sym, ap, subst, ◌∙◌, true≢false}
use Rattle.dewey_labels.specs.Labels.{Label}
use Rattle.lock_modes.specs.declared.mode.Mode.TheVariants.{NR, SX}
use Rattle.lock_resources.specs.declared.resource.Resource.TheVariants.{Attr}
use Rattle.lock_resources.specs.declared.request.Request.{Request}
use Rattle.lock_resources.specs.Intentions.{with_intentions}
use Rattle.tree_model.specs.declared.record.Record.TheVariants.{Document, Element, Text, Attr as AttrRecord}
use Rattle.tree_model.specs.declared.change.Change.{Change}
use Rattle.tree_model.specs.declared.reply.Reply.TheVariants.{Nothing}
use Rattle.tree_model.specs.Names.{Name, is_name}
use Rattle.tree_model.specs.Keys.{key_at}
use Rattle.tree_model.specs.Entries.{del, changed}
use Rattle.tree_model.specs.Tree.{Forest, none, node, Tree, map_of, at, found, attributes_of, beside}
use Rattle.tree_model.specs.ValidTrees.{IsValidTree}
use Rattle.tree_model.specs.Outcomes.{see_in}
use Rattle.tree_model.specs.NodeKinds.{is_element}
use Rattle.tree_model.specs.Edits.{edited, with_attributes, without_entry}
use Rattle.tree_model.specs.Attributes.{in_element, remove_attr_in, remove_attr}
use Rattle.tree_changes.specs.ValidCalls.{IsValidCall}
use Rattle.tree_changes.proofs.EditedMaps.{with_label}
use Rattle.tree_changes.proofs.AttributeLaws.{remove_attr_keeps}
use Rattle.tree_changes.proofs.InPlace.{attribute_drops}
use Rattle.tree_cells.specs.Cells.{Cell, node_cell, attr_cell, edge_cell}
use Rattle.tree_cells.specs.Covers.{writes}
use Rattle.tree_cells.proofs.SameTrees.{attribute_same}
use Rattle.lock_plans.specs.DomPlans.{run}
use Rattle.dom_laws.proofs.Same.{same_asks, same_answers, Same}
use Rattle.tree_cells.proofs.Seen.{attribute_seen}
use Rattle.dom_laws.proofs.StepLaws.{not_false, seen_at, same_see, same_element}
use Rattle.dom_laws.proofs.Changes.{HasKey, same_in_place, taken_attribute}
use Rattle.dom_laws.proofs.WriteLaws.{no_name, attribute_put}
use Rattle.lock_modes.specs.declared.ask.Ask.TheVariants as ask
use Rattle.tree_model.specs.declared.dom_call.DomCall.TheVariants as call

-- ---- the call

module _ (l : Label) (n : Name) (t : Tree) where
  gone_is : (f : Forest) → found f ≡ true → is_element f ≡ true → is_name n ≡ true
      → see_in t (in_element t (remove_attr_in l n t)) f ≡ (Nothing, edited l (with_attributes (without_entry n (attributes_of f))) t)
  gone_is none y k h = absurd (true≢false (sym y))
  gone_is (node m Document ats ch nx) y k h = absurd (true≢false (sym k))
  gone_is (node m (Text d) ats ch nx) y k h = absurd (true≢false (sym k))
  gone_is (node m (AttrRecord d) ats ch nx) y k h = absurd (true≢false (sym k))
  gone_is (node m (Element g) ats ch nx) y k h = ap (λ b. if not b then (Nothing, t) else (Nothing, edited l (with_attributes (without_entry n ats)) t)) h

  gone_drops : IsValidTree t → found (at l t.documents) ≡ true → is_element (at l t.documents) ≡ true → is_name n ≡ true
      → map_of (remove_attr l n t).1 ≡ del (key_at l n) (map_of t)
  gone_drops w y k h =
      ap (λ o. map_of o.1) (gone_is (at l t.documents) y k h)
      ∙ with_label (λ g. map_of (edited l (with_attributes (without_entry n (attributes_of g))) t) ≡ del (key_at l n) (map_of t)) l t y
      (λ r ats ch nx e. attribute_drops l n t w h r ats ch nx e)

pub remove_attr_same : (l : Label) (n : Name) → IsValidCall (call.RemoveAttr l n) → (t u : Tree) → IsValidTree t → IsValidTree u
    → Same [] t u (run (call.RemoveAttr l n) t) (run (call.RemoveAttr l n) u)
remove_attr_same l n valid t u w v =
    same_see [] l t u w v _ _ valid.labels.0.0 (λ e y z.
    same_element (seen_at [] l) l t u w v _ _ e (λ kt ku.
    same_answers (seen_at [] l) t u (not (is_name n)) (not (is_name n)) Nothing _ _ refl (λ not_named _.
    same_asks (seen_at [] l) t u (Attr l n) (ask.Node NR) _ _ refl valid.labels.0.0 (λ agree.
    let acc = seen_at [] l ++ with_intentions (Attr l n) (ask.Node NR) in
    let value = attribute_same l n t u w v y z (attribute_seen (seen_at [] l) l n (ask.Node NR) t u refl agree) in
    same_answers acc t u (not (is_some (beside n (attributes_of (at l t.documents))))) (not (is_some (beside n (attributes_of (at l u.documents))))) Nothing _ _
    (ap (λ o. not (is_some o)) value) (λ _ _.
    same_asks acc t u (Attr l n) (ask.Node SX) _ _ refl valid.labels.0.0 (λ agree.
    let h : is_name n ≡ true = not_false (is_name n) not_named in
    let cs : List Change = record { key = key_at l n; now = None } ∷ [] in
    let wt = remove_attr_keeps l n t w in
    let wu = remove_attr_keeps l n u v in
    let mt : map_of (remove_attr l n t).1 ≡ changed cs (map_of t) = gone_drops l n t w y kt h in
    let mu : map_of (remove_attr l n u).1 ≡ changed cs (map_of u) = gone_drops l n u v z ku h in
    same_in_place _ t u w v agree (remove_attr l n t) (remove_attr l n u) cs mt mu (covered h acc, tt)
    (ap (λ o. o.0) (gone_is l n t (at l t.documents) y kt h) ∙ sym (ap (λ o. o.0) (gone_is l n u (at l u.documents) z ku h))) wt wu
    (λ m. attribute_put l m n None t (remove_attr l n t).1 w wt h mt) (λ m. attribute_put l m n None u (remove_attr l n u).1 v wu h mu)))))))
  where
    covered : is_name n ≡ true → (acc : List Request) (y : Cell) → HasKey y (key_at l n) → writes (acc ++ with_intentions (Attr l n) (ask.Node SX)) y ≡ true
    covered h acc (node_cell m) e = absurd (no_name n h (sym (ap (λ k. k.name) e)))
    covered h acc (attr_cell m k) e = subst (λ z. writes (acc ++ with_intentions (Attr l n) (ask.Node SX)) (attr_cell z k) ≡ true) (ap (λ k. k.label) e)
        (subst (λ z. writes (acc ++ with_intentions (Attr l n) (ask.Node SX)) (attr_cell l z) ≡ true) (ap (λ k. k.name) e) (taken_attribute acc l n))
    covered h acc (edge_cell m s) e = absurd e
