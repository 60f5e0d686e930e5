-- Books of two sessions on small stores, worked by hand: an append that waits for a reader of the edge, one that waits for a reader of the list,
-- the deadlock of two appends, and a node that comes back.
use Rattle.std.specs.Prelude.{◌≡◌, ℕ, List, [], ◌∷◌, ◌++◌, Option, Some, None, codes}
use Rattle.dewey_labels.specs.Labels.{Label}
use Rattle.dewey_labels.specs.NewLabels.{new_label}
use Rattle.lock_modes.specs.declared.ask.Ask.{Ask}
use Rattle.lock_modes.specs.declared.ask.Ask.TheVariants as ask
use Rattle.lock_modes.specs.declared.mode.Mode.{Mode}
use Rattle.lock_modes.specs.declared.mode.Mode.TheVariants.{IR, NR, LR, CX, SX}
use Rattle.lock_modes.specs.declared.edge_mode.EdgeMode.{EdgeMode}
use Rattle.lock_modes.specs.declared.edge_mode.EdgeMode.TheVariants.{ER, EX}
use Rattle.lock_resources.specs.declared.resource.Side.{Side}
use Rattle.lock_resources.specs.declared.resource.Side.TheVariants.{First, Last, Next, Prev}
use Rattle.lock_resources.specs.declared.resource.Resource.{Resource}
use Rattle.lock_resources.specs.declared.resource.Resource.TheVariants.{Node, Edge}
use Rattle.lock_resources.specs.declared.request.Request.{Request}
use Rattle.lock_resources.specs.Intentions.{with_intentions}
use Rattle.tree_model.specs.declared.dom_call.DomCall.{DomCall}
use Rattle.tree_model.specs.declared.dom_call.DomCall.TheVariants as call
use Rattle.tree_model.specs.declared.fragment.Fragment.TheVariants as fragment
use Rattle.tree_model.specs.declared.record.Record.TheVariants as record_of
use Rattle.tree_model.specs.declared.reply.Reply.{Reply}
use Rattle.tree_model.specs.declared.reply.Reply.TheVariants.{Place, Places, Refused, Tree as Whole}
use Rattle.tree_model.specs.declared.refusal.Refusal.TheVariants.{Dom}
use Rattle.tree_model.specs.Names.{Name}
use Rattle.tree_model.specs.Fragments.{Fragments, no_more, element}
use Rattle.tree_model.specs.Outcomes.{Outcome}
use Rattle.tree_model.specs.Navigation as reads
use Rattle.tree_model.specs.Placing as writes
use Rattle.tree_model.specs.Tree.{Forest, none, node, Tree, at, first_of, last_child_of, next_of, prev_of}
use Rattle.lock_plans.specs.DomPlans.{requests}
use Rattle.call_contract.specs.declared.events.Event.TheVariants.{Begin, Call, Retry, Commit, Abort}
use Rattle.call_contract.specs.declared.events.Answer.TheVariants as answer
use Rattle.call_contract.specs.declared.events.EventAnswer.{EventAnswer}
use Rattle.call_contract.specs.declared.events.EventAnswer.TheVariants as said
use Rattle.call_contract.specs.Calls.{CallMeaning}
use Rattle.call_contract.specs.Books.{Book, entry, IsLegal}

-- ---- what some calls ask for

abbrev pub at_node : Label → Mode → List Request
at_node l m = with_intentions (Node l) (ask.Node m)

abbrev pub at_edge : Label → Side → EdgeMode → List Request
at_edge l s m = with_intentions (Edge l s) (ask.Edge m)

-- the node at an edge, if there is one
abbrev pub found_there : Option Label → List Request
found_there None = []
found_there (Some l) = at_node l NR

-- the edges at the end of a row of children
abbrev pub end_of : Label → Option Label → List Request
end_of p None = at_edge p Last EX ++ at_edge p First EX
end_of p (Some l) = at_edge p Last EX ++ at_edge l Next EX

-- the edges beside a child, to its left and to its right
abbrev pub left_of : Label → Option Label → List Request
left_of p None = at_edge p First EX
left_of p (Some l) = at_edge l Next EX

abbrev pub right_of : Label → Option Label → List Request
right_of p None = at_edge p Last EX
right_of p (Some l) = at_edge l Prev EX

-- the new node
abbrev pub taken : Option Label → List Request
taken None = []
taken (Some l) = at_node l SX

-- ---- five calls of the tree

pub data Row : Type 0 where
  node_of : Label → Row
  first : Label → Row
  children : Label → Row
  -- an element with this name, and nothing in it, behind the children
  append : Label → Name → Row
  remove : Label → Label → Row

-- the fragment of such an element
abbrev pub named : Name → Fragments
named n = element n [] no_more no_more

-- what each asks for, at nodes that are there
abbrev pub asked : Row → Tree → List Request
asked (node_of l) t = at_node l NR
asked (first l) t = at_node l NR ++ (at_edge l First ER ++ found_there (first_of (at l t.documents)))
asked (children l) t = at_node l NR ++ at_node l LR
asked (append p n) t = at_node p NR ++ (end_of p (last_child_of (at p t.documents)) ++ taken (new_label p (last_child_of (at p t.documents)) None))
asked (remove p old) t = at_node p NR ++ (at_node old NR ++ (at_node old SX ++ (left_of p (prev_of None old t.documents) ++ right_of p (next_of (at old t.documents)))))

-- what each does
abbrev pub done : Row → Tree → Outcome
done (node_of l) t = (reads.node_of l t, t)
done (first l) t = (reads.first l t, t)
done (children l) t = (reads.children l t, t)
done (append p n) t = writes.append p (named n) t
done (remove p old) t = writes.remove p old t

-- the program's call that a row stands for
abbrev pub as_call : Row → DomCall
as_call (node_of l) = call.Node l
as_call (first l) = call.First l
as_call (children l) = call.Children l
as_call (append p n) = call.Append p (fragment.Element n [] [])
as_call (remove p old) = call.Remove p old

-- on a tree a row asks what that call asks
abbrev pub AsksAlike : Row → Tree → Type 0
AsksAlike c t = asked c t ≡ requests (as_call c) t

abbrev pub row_meaning : CallMeaning Row
row_meaning = record { requests = asked; reply = λ c t. (done c t).0; after = λ c t. (done c t).1 }

-- ---- stores of one document, whose element has the document's name and these children

abbrev pub d : Label
d = 1 ∷ 1001 ∷ []

abbrev pub e : Label
e = 1 ∷ 1001 ∷ 1001 ∷ []

-- a child of the element, by its code
abbrev pub child : ℕ → Label
child c = 1 ∷ 1001 ∷ 1001 ∷ c ∷ []

abbrev pub store : Name → Forest → Tree
store n below = record { catalogue = (n, d) ∷ []; documents = node d record_of.Document [] (node e (record_of.Element n) [] below none) none }

-- one child of the element, an element with nothing in it
abbrev pub one_child : Name → Forest
one_child n = node (child 1001) (record_of.Element n) [] none none

-- <a/>
abbrev pub empty_store : Tree
empty_store = store (codes "a") none

-- <a><b/></a>
abbrev pub store_of_one : Tree
store_of_one = store (codes "a") (one_child (codes "b"))

-- <a><b><c/></b></a>
abbrev pub store_of_two : Tree
store_of_two = store (codes "a") (node (child 1001) (record_of.Element (codes "b")) [] (node (1 ∷ 1001 ∷ 1001 ∷ 1001 ∷ 1001 ∷ []) (record_of.Element (codes "c")) [] none none) none)

-- a legal book from a store, opened with number 1
abbrev pub IsBookOf : Tree → Book Row → Type 0
IsBookOf t b = IsLegal row_meaning t 1 4_294_967_295 b

-- ---- answers

abbrev pub answered : Reply → EventAnswer
answered r = said.Call (answer.Answered r)

abbrev pub waits : Resource → Ask → List ℕ → EventAnswer
waits r a holders = said.Call (answer.Waits r a holders)

abbrev pub deadlock : List ℕ → EventAnswer
deadlock cycle = said.Call (answer.Deadlock cycle)

abbrev pub not_found : Reply
not_found = Refused (Dom 8)

-- the begins of two sessions
abbrev pub both_begin : Book Row → Book Row
both_begin rest = entry 1 Begin (said.Number 1) ∷ entry 2 Begin (said.Number 1) ∷ rest

-- ---- the books

-- the first child is read, so an append where none stands waits for the edge
abbrev pub edge_book : Book Row
edge_book = both_begin (
    entry 1 (Call (first e)) (answered (Place None))
    ∷ entry 2 (Call (append e (codes "b"))) (waits (Edge e First) (ask.Edge EX) (1 ∷ []))
    ∷ entry 1 (Call (first e)) (answered (Place None))
    ∷ entry 1 Commit (said.Number 2)
    ∷ entry 2 Retry (answered (Place (Some (child 1001))))
    ∷ [])

-- the list of children is read, so an append waits for its node
abbrev pub list_book : Book Row
list_book = both_begin (
    entry 1 (Call (children e)) (answered (Places (child 1001 ∷ [])))
    ∷ entry 2 (Call (append e (codes "c"))) (waits (Node e) (ask.Node CX) (1 ∷ []))
    ∷ entry 1 Commit (said.Number 2)
    ∷ entry 2 Retry (answered (Place (Some (child 1003))))
    ∷ [])

-- both read the list and append: the second one's waiting would close a cycle
abbrev pub deadlock_book : Book Row
deadlock_book = both_begin (
    entry 1 (Call (children e)) (answered (Places (child 1001 ∷ [])))
    ∷ entry 2 (Call (children e)) (answered (Places (child 1001 ∷ [])))
    ∷ entry 1 (Call (append e (codes "c"))) (waits (Node e) (ask.Node CX) (2 ∷ []))
    ∷ entry 2 (Call (append e (codes "d"))) (deadlock (2 ∷ 1 ∷ []))
    ∷ entry 1 Retry (answered (Place (Some (child 1003))))
    ∷ [])

-- a label below the first child, where no node stands
abbrev pub missing : Label
missing = 1 ∷ 1001 ∷ 1001 ∷ 1001 ∷ 1003 ∷ []

-- a removed node comes back where its remover aborts
abbrev pub comes_back_book : Book Row
comes_back_book = both_begin (
    entry 2 (Call (node_of missing)) (answered not_found)
    ∷ entry 2 Commit (said.Number 2)
    ∷ entry 2 Begin (said.Number 2)
    ∷ entry 1 (Call (remove e (child 1001))) (answered (Whole (Some (fragment.Element (codes "b") [] (fragment.Element (codes "c") [] [] ∷ [])))))
    ∷ entry 2 (Call (node_of missing)) (waits (Node (child 1001)) (ask.Node IR) (1 ∷ []))
    ∷ entry 1 Abort said.Nothing
    ∷ entry 2 Retry (answered not_found)
    ∷ [])
