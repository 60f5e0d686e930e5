-- What the steps at edges, children and new labels add to a plan.
use Rattle.std.specs.Prelude.{◌≡◌, ℕ, Bool, true, false, if◌then◌else◌, List, [], ◌∷◌, ◌++◌, Option, Some, None, Result}
use Rattle.dewey_labels.specs.Labels.{Label, parent, root}
use Rattle.dewey_labels.specs.NewLabels.{new_label}
use Rattle.lock_modes.specs.declared.ask.Ask.TheVariants as ask
use Rattle.lock_modes.specs.declared.mode.Mode.TheVariants.{NR, SX}
use Rattle.lock_modes.specs.declared.edge_mode.EdgeMode.TheVariants.{EX}
use Rattle.lock_resources.specs.declared.resource.Side.TheVariants.{First, Last, Next, Prev}
use Rattle.lock_resources.specs.declared.resource.Resource.TheVariants.{Node, Edge}
use Rattle.lock_resources.specs.declared.request.Request.{Request}
use Rattle.lock_resources.specs.Intentions.{with_intentions}
use Rattle.tree_model.specs.declared.dom_call.DomCall.{DomCall}
use Rattle.tree_model.specs.declared.dom_call.DomCall.TheVariants as call
use Rattle.tree_model.specs.declared.record.Record.{Record}
use Rattle.tree_model.specs.declared.record.Record.TheVariants.{Text}
use Rattle.tree_model.specs.declared.refusal.Refusal.TheVariants.{TooDeep}
use Rattle.tree_model.specs.Documents.{document_at, document_label}
use Rattle.tree_model.specs.Entries.{Entries}
use Rattle.tree_model.specs.Fragments.{Fragments}
use Rattle.tree_model.specs.Outcomes.{Outcome}
use Rattle.tree_model.specs.Placing.{is_too_deep}
use Rattle.tree_model.specs.Tree.{Tree, none, node, at, last_child_of, last_label, next_of, prev_of}
use Rattle.tree_model.specs.ValidTrees.{same_label}
use Rattle.node_seq.specs.Trees.{OnTree}
use Rattle.dom_reads.specs.FoundNodes.{HasNodeAt}
use Rattle.lock_plans.specs.Plans.{Step, before, end_of, ends, grafted, in_turn, place, refuses, take_edge, take_out, take_right, take_tree}

-- whether a call leads on from a node, to the one that stands first or last below it or beside it
abbrev pub leads_on : DomCall → Bool
leads_on (call.First l) = true
leads_on (call.Last l) = true
leads_on (call.Next l) = true
leads_on (call.Prev l) = true
leads_on c = false

-- the node that was found is read, if one was
abbrev pub reads_found : Option Label → List Request
reads_found None = []
reads_found (Some l) = with_intentions (Node l) (ask.Node NR)

-- the edge to the right of a gap's left neighbour, or the parent's to its first child
abbrev pub takes_left : Label → Option Label → List Request
takes_left p None = with_intentions (Edge p First) (ask.Edge EX)
takes_left p (Some l) = with_intentions (Edge l Next) (ask.Edge EX)

-- the edge to the left of a gap's right neighbour, or the parent's to its last child
abbrev pub takes_right : Label → Option Label → List Request
takes_right p None = with_intentions (Edge p Last) (ask.Edge EX)
takes_right p (Some r) = with_intentions (Edge r Prev) (ask.Edge EX)

-- a child and its gap
abbrev pub takes_out : Label → Label → Option Label → Option Label → List Request
takes_out p n left right = with_intentions (Node n) (ask.Node SX) ++ (takes_left p left ++ takes_right p right)

-- the data of a found text
abbrev pub text_data : Option Record → Option (List ℕ)
text_data (Some (Text d)) = Some d
text_data found = None

-- a child is seen, if its label says that it is one
abbrev pub sees_child : Label → Label → List Request
sees_child p c = if same_label (parent c) p then with_intentions (Node c) (ask.Node NR) else []

-- the requests of the last steps of a call with an outcome
abbrev pub asked_by : List Step → Outcome → List Request
asked_by steps end = (in_turn steps (ends end)).requests

-- whichever outcome the call ends with, the requests of its last steps stand behind those from before
abbrev pub EndsPlan : List Request → List Step → List Request → Type 0
EndsPlan plan steps whole = (end : Outcome) → whole ≡ plan ++ asked_by steps end

-- the same of steps on whichever tree the known map stands for, if it has the node
abbrev pub EndsPlanAt : {E : Type 0} → Option Entries → Result (List Request) E → Label → List Request → (Tree → List Step) → Type 0
EndsPlanAt contents result l plan steps = OnTree contents result (λ t whole. HasNodeAt l t → EndsPlan plan (steps t) whole)

-- the last steps of `split_text`
abbrev pub split_end : Label → Tree → List Step
split_end l t =
    take_tree l ∷
    take_edge l Next ∷
    take_right (parent l) (next_of (at l t.documents)) ∷
    place (λ new. node new (Text []) [] none none) (new_label (parent l) (Some l) (next_of (at l t.documents))) t ∷ []

-- the last steps of `append`
abbrev pub append_end : Label → Fragments → Tree → List Step
append_end p f t =
    refuses (is_too_deep p f) TooDeep t ∷
    end_of p (last_child_of (at p t.documents)) ∷
    place (grafted f) (new_label p (last_child_of (at p t.documents)) None) t ∷ []

-- the last steps of `insert`
abbrev pub insert_end : Label → Label → Fragments → Tree → List Step
insert_end p c f t =
    refuses (is_too_deep p f) TooDeep t ∷
    before p c (prev_of None c t.documents) ∷
    place (grafted f) (new_label p (prev_of None c t.documents) (Some c)) t ∷ []

-- the last steps of `replace`
abbrev pub replace_end : Label → Label → Fragments → Tree → List Step
replace_end p old f t =
    refuses (is_too_deep p f) TooDeep t ∷
    take_out p old (prev_of None old t.documents) (next_of (at old t.documents)) ∷
    place (grafted f) (new_label p (prev_of None old t.documents) (next_of (at old t.documents))) t ∷ []

-- the last steps of `remove`
abbrev pub remove_end : Label → Label → Tree → List Step
remove_end p old t = take_out p old (prev_of None old t.documents) (next_of (at old t.documents)) ∷ []

-- the last steps of `create`
abbrev pub create_end : Fragments → Tree → List Step
create_end f t =
    end_of root (last_label t.documents) ∷
    place (λ new. document_at new f) (document_label t) t ∷ []
