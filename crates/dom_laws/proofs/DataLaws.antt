-- The calls that change the data of a text keep the laws.
use Rattle.std.proofs.Common.{◌≡◌, ℕ, Bool, true, false, if◌then◌else◌, List, [], ◌∷◌, ◌++◌, Some, refl, sym, ap, ◌∙◌, true≢false}
use Rattle.dewey_labels.specs.Labels.{Label, is_label}
use Rattle.lock_modes.specs.declared.mode.Mode.TheVariants.{SX}
use Rattle.lock_resources.specs.declared.resource.Resource.TheVariants.{Node}
use Rattle.tree_model.specs.declared.record.Record.TheVariants.{Document, Element, Text, Attr as AttrRecord}
use Rattle.tree_model.specs.declared.change.Change.{Change}
use Rattle.tree_model.specs.declared.reply.Reply.TheVariants.{Refused, Nothing}
use Rattle.tree_model.specs.declared.refusal.Refusal.TheVariants.{Dom, TextLimit}
use Rattle.tree_model.specs.Keys.{node_key}
use Rattle.tree_model.specs.Entries.{changed}
use Rattle.tree_model.specs.Tree.{Forest, none, node, Tree, map_of, at, found}
use Rattle.tree_model.specs.ValidTrees.{IsValidTree}
use Rattle.tree_model.specs.Outcomes.{Outcome, refused, see_in, index_size_err}
use Rattle.tree_model.specs.NodeKinds.{is_text_node}
use Rattle.tree_model.specs.Texts.{is_past, in_text, with_data}
use Rattle.tree_model.specs.Edits.{edited, with_record}
use Rattle.tree_model.specs.Limits.{is_too_long}
use Rattle.tree_changes.specs.ValidCalls.{IsValidCall}
use Rattle.tree_changes.proofs.InPlace.{record_puts}
use Rattle.tree_changes.proofs.DataLaws.{append_data_keeps, replace_data_keeps, replaced}
use Rattle.lock_plans.specs.Plans.{ends, in_turn}
use Rattle.lock_plans.specs.DomPlans.{data_of, data_steps, run}
use Rattle.dom_laws.proofs.Same.{Same, same_asks, same_answers}
use Rattle.dom_laws.proofs.RecordKinds.{data_same}
use Rattle.dom_laws.proofs.StepLaws.{seen_at, same_see, same_text}
use Rattle.dom_laws.proofs.Changes.{same_in_place}
use Rattle.dom_laws.proofs.WriteLaws.{node_put, node_covered}
use Rattle.lock_modes.specs.declared.ask.Ask.TheVariants as ask
use Rattle.tree_model.specs.declared.dom_call.DomCall.TheVariants as call

-- a call that is refused where `past` holds of the data, and else makes new data of them
module _ (l : Label) (past : List ℕ → Bool) (make : List ℕ → List ℕ) (i : is_label l ≡ true) where
  abbrev change : Tree → List ℕ → Outcome
  change t old = if past old then refused (Dom index_size_err) t else with_data l t (make old)

  abbrev out : Tree → Forest → Outcome
  out t g = see_in t (in_text t (change t)) g

  out_is : (t : Tree) (g : Forest) → found g ≡ true → is_text_node g ≡ true → past (data_of g) ≡ false → is_too_long (make (data_of g)) ≡ false
      → out t g ≡ (Nothing, edited l (with_record (Text (make (data_of g)))) t)
  out_is t none y k a b = absurd (true≢false (sym y))
  out_is t (node m Document ats ch nx) y k a b = absurd (true≢false (sym k))
  out_is t (node m (Element n) ats ch nx) y k a b = absurd (true≢false (sym k))
  out_is t (node m (AttrRecord v) ats ch nx) y k a b = absurd (true≢false (sym k))
  out_is t (node m (Text old) ats ch nx) y k a b = λ j. if a j then refused
      (Dom index_size_err) t else if b j then refused TextLimit t else (Nothing, edited l (with_record (Text (make old))) t)

  pub data_runs : ((t : Tree) → IsValidTree t → IsValidTree (out t (at l t.documents)).1) → (t u : Tree) → IsValidTree t → IsValidTree u
      → Same [] t u (in_turn (data_steps l past make t) (ends (out t (at l t.documents))))
      (in_turn (data_steps l past make u) (ends (out u (at l u.documents))))
  data_runs keeps t u w v =
      same_see [] l t u w v _ _ i (λ e y z.
      same_text (seen_at [] l) l t u w v _ _ e (λ kt ku.
      let data_is : data_of (at l t.documents) ≡ data_of (at l u.documents) = data_same (at l t.documents) (at l u.documents) e in
      same_answers (seen_at [] l) t u (past (data_of (at l t.documents))) (past (data_of (at l u.documents))) (Refused (Dom index_size_err)) _ _
      (ap past data_is) (λ at_ au.
      same_answers (seen_at [] l) t u (is_too_long (make (data_of (at l t.documents)))) (is_too_long (make (data_of (at l u.documents))))
      (Refused TextLimit) _ _ (ap (λ d. is_too_long (make d)) data_is) (λ bt bu.
      same_asks (seen_at [] l) t u (Node l) (ask.Node SX) _ _ refl i (λ agree.
      let d = make (data_of (at l t.documents)) in
      let it = out_is t (at l t.documents) y kt at_ bt in
      let iu : out u (at l u.documents) ≡ (Nothing, edited l (with_record (Text d)) u) = out_is u (at l u.documents) z ku au bu
      ∙ ap (λ x. (Nothing, edited l (with_record (Text (make x))) u)) (sym data_is) in
      let cs : List Change = record { key = node_key l; now = Some (Text d) } ∷ [] in
      let wt = keeps t w in
      let wu = keeps u v in
      let mt : map_of (out t (at l t.documents)).1 ≡ changed cs (map_of t) = ap (λ o. map_of o.1) it ∙ record_puts l (Text d) t w y in
      let mu : map_of (out u (at l u.documents)).1 ≡ changed cs (map_of u) = ap (λ o. map_of o.1) iu ∙ record_puts l (Text d) u v z in
      same_in_place _ t u w v agree (out t (at l t.documents)) (out u (at l u.documents)) cs mt mu (node_covered (seen_at [] l) l, tt)
      (ap (λ o. o.0) it ∙ sym (ap (λ o. o.0) iu)) wt wu
      (λ m. node_put l m (Text d) t (out t (at l t.documents)).1 w wt y mt) (λ m. node_put l m (Text d) u (out u (at l u.documents)).1 v wu z mu))))))

pub append_data_same : (l : Label) (d : List ℕ) → IsValidCall (call.AppendData l d) → (t u : Tree) → IsValidTree t → IsValidTree u
    → Same [] t u (run (call.AppendData l d) t) (run (call.AppendData l d) u)
append_data_same l d valid = data_runs l (λ old. false) (λ old. old ++ d) valid.labels.0.0 (λ t w. append_data_keeps l d t w valid.text)

-- `insert_data`, `delete_data` and `replace_data` are one
pub insert_data_same : (l : Label) (offset : ℕ) (d : List ℕ) → IsValidCall (call.InsertData l offset d) → (t u : Tree) → IsValidTree t → IsValidTree u
    → Same [] t u (run (call.InsertData l offset d) t) (run (call.InsertData l offset d) u)
insert_data_same l offset d valid = data_runs l (is_past offset) (replaced offset 0 d) valid.labels.0.0 (λ t w. replace_data_keeps l offset 0 d t w valid.text)

pub delete_data_same : (l : Label) (offset count : ℕ) → IsValidCall (call.DeleteData l offset count) → (t u : Tree) → IsValidTree t → IsValidTree u
    → Same [] t u (run (call.DeleteData l offset count) t) (run (call.DeleteData l offset count) u)
delete_data_same l offset count valid = data_runs l (is_past offset) (replaced offset count []) valid.labels.0.0
    (λ t w. replace_data_keeps l offset count [] t w valid.text)

pub replace_data_same : (l : Label) (offset count : ℕ) (d : List ℕ) → IsValidCall (call.ReplaceData l offset count d) → (t u : Tree) → IsValidTree t
    → IsValidTree u → Same [] t u (run (call.ReplaceData l offset count d) t) (run (call.ReplaceData l offset count d) u)
replace_data_same l offset count d valid = data_runs l (is_past offset) (replaced offset count d) valid.labels.0.0
    (λ t w. replace_data_keeps l offset count d t w valid.text)
