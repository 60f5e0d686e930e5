-- The steps of calls on two trees.
use Rattle.std.proofs.Common.{◌≡◌, Bool, true, false, not, if◌then◌else◌, List, [], ◌++◌, Option, None, Some, refl, sym, ap, subst, true≢false, append-nil}
use Rattle.dewey_labels.specs.Labels.{Label, is_label}
use Rattle.lock_modes.specs.declared.mode.Mode.TheVariants.{NR}
use Rattle.lock_resources.specs.declared.resource.Resource.TheVariants.{Node}
use Rattle.lock_resources.specs.declared.request.Request.{Request}
use Rattle.lock_resources.specs.Intentions.{with_intentions}
use Rattle.tree_model.specs.declared.record.Record.{Record}
use Rattle.tree_model.specs.declared.reply.Reply.{Reply}
use Rattle.tree_model.specs.declared.reply.Reply.TheVariants.{Refused}
use Rattle.tree_model.specs.declared.refusal.Refusal.TheVariants.{Dom}
use Rattle.tree_model.specs.Tree.{Attributes, Forest, none, node, Tree, at, found, record_of}
use Rattle.tree_model.specs.ValidTrees.{IsValidTree}
use Rattle.tree_model.specs.Outcomes.{Outcome, see, see_in, not_found_err, not_supported_err}
use Rattle.tree_model.specs.NodeKinds.{is_element, is_text_node}
use Rattle.lock_plans.specs.Plans.{Run, read_found}
use Rattle.dom_laws.proofs.Same.{Same, same_asks, same_answers}
use Rattle.tree_cells.proofs.Seen.{node_seen, by_key, same_found}
use Rattle.dom_laws.proofs.RecordKinds.{element_same_kind, text_same_kind}
use Rattle.lock_modes.specs.declared.ask.Ask.TheVariants as ask
use Rattle.lock_plans.specs.Plans as plans

pub not_false : (b : Bool) → not b ≡ false → b ≡ true
not_false true e = refl
not_false false e = absurd (true≢false e)

-- a reply that goes on from a found node
pub see_same : (answer other : Forest → Reply) (f g : Forest) → found f ≡ true → found g ≡ true → answer f ≡ other g → see answer f ≡ see other g
see_same answer other none g y z e = absurd (true≢false (sym y))
see_same answer other (node l r ats ch nx) none y z e = absurd (true≢false (sym z))
see_same answer other (node l r ats ch nx) (node m q ats' ch' nx') y z e = e

-- what was asked for once a node was seen
abbrev pub seen_at : List Request → Label → List Request
seen_at acc l = acc ++ with_intentions (Node l) (ask.Node NR)

module _ (acc : List Request) (l : Label) (t u : Tree) (w : IsValidTree t) (v : IsValidTree u) where
  -- a node that must be there
  pub same_see : (P Q : Run) → is_label l ≡ true
      → (record_of (at l t.documents) ≡ record_of (at l u.documents) → found (at l t.documents) ≡ true → found (at l u.documents) ≡ true
      → Same (seen_at acc l) t u P Q)
      → Same acc t u (plans.see l t P) (plans.see l u Q)
  same_see P Q i rest =
      same_asks acc t u (Node l) (ask.Node NR) _ _ refl i (λ agree.
      let e = by_key l t u w v (node_seen acc l (ask.Node NR) t u refl agree) in
      same_answers (seen_at acc l) t u (not (found (at l t.documents))) (not (found (at l u.documents))) (Refused (Dom not_found_err)) P Q
      (ap not (same_found (at l t.documents) (at l u.documents) e))
      (λ y z. rest e (not_false (found (at l t.documents)) y) (not_false (found (at l u.documents)) z)))

  -- a node that must be an element
  pub same_element : (P Q : Run) → record_of (at l t.documents) ≡ record_of (at l u.documents)
      → (is_element (at l t.documents) ≡ true → is_element (at l u.documents) ≡ true → Same acc t u P Q)
      → Same acc t u (plans.element l t P) (plans.element l u Q)
  same_element P Q e rest = same_answers acc t u (not (is_element (at l t.documents))) (not (is_element (at l u.documents)))
      (Refused (Dom not_supported_err)) P Q (ap not (element_same_kind (at l t.documents) (at l u.documents) e))
      (λ y z. rest (not_false (is_element (at l t.documents)) y) (not_false (is_element (at l u.documents)) z))

  -- a node that must be a text
  pub same_text : (P Q : Run) → record_of (at l t.documents) ≡ record_of (at l u.documents)
      → (is_text_node (at l t.documents) ≡ true → is_text_node (at l u.documents) ≡ true → Same acc t u P Q)
      → Same acc t u (plans.a_text l t P) (plans.a_text l u Q)
  same_text P Q e rest = same_answers acc t u (not (is_text_node (at l t.documents))) (not (is_text_node (at l u.documents)))
      (Refused (Dom not_supported_err)) P Q (ap not (text_same_kind (at l t.documents) (at l u.documents) e))
      (λ y z. rest (not_false (is_text_node (at l t.documents)) y) (not_false (is_text_node (at l u.documents)) z))

-- the node at an edge, which both trees have there
pub same_read_found : (acc : List Request) (t u : Tree) (o p : Option Label) (P Q : Run) → o ≡ p → ((m : Label) → o ≡ Some m → is_label m ≡ true)
    → ((b : List Request) → Same (acc ++ b) t u P Q) → Same acc t u (read_found o P) (read_found p Q)
same_read_found acc t u o p P Q e i rest = subst (λ z. Same acc t u (read_found o P) (read_found z Q)) e (by o i)
  where
    by : (o : Option Label) → ((m : Label) → o ≡ Some m → is_label m ≡ true) → Same acc t u (read_found o P) (read_found o Q)
    by None i = subst (λ (gs : List Request). Same gs t u P Q) (append-nil acc) (rest [])
    by (Some m) i = same_asks acc t u (Node m) (ask.Node NR) P Q refl (i m refl) (λ agree. rest (with_intentions (Node m) (ask.Node NR)))

-- ---- outcomes

pub found_outcome : (o : Option Label) (rest : Run) → (read_found o rest).outcome ≡ rest.outcome
found_outcome None rest = refl
found_outcome (Some m) rest = refl

-- a reading call ends as it does on each node that may be found
pub outcome_by : (t : Tree) (answer : Forest → Reply) (rest : Forest → Outcome)
    → ((m : Label) (r : Record) (ats : Attributes) (ch nx : Forest) → rest (node m r ats ch nx) ≡ (answer (node m r ats ch nx), t)) → (f : Forest)
    → (if not (found f) then (Refused (Dom not_found_err), t) else rest f) ≡ (see answer f, t)
outcome_by t answer rest h none = refl
outcome_by t answer rest h (node m r ats ch nx) = h m r ats ch nx

-- so does a changing call
pub change_by : (t : Tree) (change rest : Forest → Outcome)
    → ((m : Label) (r : Record) (ats : Attributes) (ch nx : Forest) → rest (node m r ats ch nx) ≡ change (node m r ats ch nx)) → (f : Forest)
    → (if not (found f) then (Refused (Dom not_found_err), t) else rest f) ≡ see_in t change f
change_by t change rest h none = refl
change_by t change rest h (node m r ats ch nx) = h m r ats ch nx
