-- `rename` on two trees that agree on what it asks for: it goes the same way on both.
use Rattle.std.proofs.Common.{◌≡◌, true, not, if◌then◌else◌, List, [], ◌∷◌, Some, refl, sym, ap, ◌∙◌, true≢false}
use Rattle.dewey_labels.specs.Labels.{Label}
use Rattle.lock_modes.specs.declared.mode.Mode.TheVariants.{SX}
use Rattle.lock_resources.specs.declared.resource.Resource.TheVariants.{Node}
use Rattle.tree_model.specs.declared.record.Record.TheVariants.{Document, Element, Text, Attr as AttrRecord}
use Rattle.tree_model.specs.declared.change.Change.{Change}
use Rattle.tree_model.specs.declared.reply.Reply.TheVariants.{Refused, Nothing}
use Rattle.tree_model.specs.declared.refusal.Refusal.TheVariants.{Dom}
use Rattle.tree_model.specs.Names.{Name, is_name}
use Rattle.tree_model.specs.Keys.{node_key}
use Rattle.tree_model.specs.Entries.{changed}
use Rattle.tree_model.specs.Tree.{Forest, none, node, Tree, map_of, at, found}
use Rattle.tree_model.specs.ValidTrees.{IsValidTree}
use Rattle.tree_model.specs.Outcomes.{refused, see_in, invalid_character_err}
use Rattle.tree_model.specs.NodeKinds.{is_element}
use Rattle.tree_model.specs.Edits.{edited, with_record}
use Rattle.tree_model.specs.Attributes.{in_element, rename_in, rename}
use Rattle.tree_changes.specs.ValidCalls.{IsValidCall}
use Rattle.tree_changes.proofs.InPlace.{record_puts}
use Rattle.tree_changes.proofs.AttributeLaws.{rename_keeps}
use Rattle.lock_plans.specs.DomPlans.{run}
use Rattle.dom_laws.proofs.Same.{same_asks, same_answers, Same}
use Rattle.dom_laws.proofs.StepLaws.{not_false, seen_at, same_see, same_element}
use Rattle.dom_laws.proofs.Changes.{same_in_place}
use Rattle.dom_laws.proofs.WriteLaws.{node_put, node_covered}
use Rattle.lock_modes.specs.declared.ask.Ask.TheVariants as ask
use Rattle.tree_model.specs.declared.dom_call.DomCall.TheVariants as call

-- ---- the call

module _ (l : Label) (n : Name) (t : Tree) where
  rename_is : (f : Forest) → found f ≡ true → is_element f ≡ true → is_name n ≡ true
      → see_in t (in_element t (rename_in l n t)) f ≡ (Nothing, edited l (with_record (Element n)) t)
  rename_is none y k h = absurd (true≢false (sym y))
  rename_is (node m Document ats ch nx) y k h = absurd (true≢false (sym k))
  rename_is (node m (Text d) ats ch nx) y k h = absurd (true≢false (sym k))
  rename_is (node m (AttrRecord d) ats ch nx) y k h = absurd (true≢false (sym k))
  rename_is (node m (Element g) ats ch nx) y k h =
      ap (λ b. if not b then refused (Dom invalid_character_err) t else (Nothing, edited l (with_record (Element n)) t)) h

pub rename_same : (l : Label) (n : Name) → IsValidCall (call.Rename l n) → (t u : Tree) → IsValidTree t → IsValidTree u
    → Same [] t u (run (call.Rename l n) t) (run (call.Rename l n) u)
rename_same l n valid t u w v =
    same_see [] l t u w v _ _ valid.labels.0.0 (λ e y z.
    same_element (seen_at [] l) l t u w v _ _ e (λ kt ku.
    same_answers (seen_at [] l) t u (not (is_name n)) (not (is_name n)) (Refused (Dom invalid_character_err)) _ _ refl (λ not_named _.
    same_asks (seen_at [] l) t u (Node l) (ask.Node SX) _ _ refl valid.labels.0.0 (λ agree.
    let h = not_false (is_name n) not_named in
    let it = rename_is l n t (at l t.documents) y kt h in
    let iu = rename_is l n u (at l u.documents) z ku h in
    let cs : List Change = record { key = node_key l; now = Some (Element n) } ∷ [] in
    let wt = rename_keeps l n t w in
    let wu = rename_keeps l n u v in
    let mt : map_of (rename l n t).1 ≡ changed cs (map_of t) = ap (λ o. map_of o.1) it ∙ record_puts l (Element n) t w y in
    let mu : map_of (rename l n u).1 ≡ changed cs (map_of u) = ap (λ o. map_of o.1) iu ∙ record_puts l (Element n) u v z in
    same_in_place _ t u w v agree (rename l n t) (rename l n u) cs mt mu (node_covered (seen_at [] l) l, tt) (ap (λ o. o.0) it ∙ sym (ap (λ o. o.0) iu)) wt wu
    (λ m. node_put l m (Element n) t (rename l n t).1 w wt y mt) (λ m. node_put l m (Element n) u (rename l n u).1 v wu z mu)))))
