-- Calls, joins and books that are wrong: each is shown to break a law, or not to be legal.
use Rattle.std.specs.Prelude.{◌≡◌, true, false, List, [], ◌∷◌, ◌++◌, None, Some, codes}
use Rattle.lock_modes.specs.declared.ask.Ask.TheVariants as ask
use Rattle.lock_modes.specs.declared.mode.Mode.TheVariants.{NR, LR, CX, SX}
use Rattle.lock_modes.specs.declared.edge_mode.EdgeMode.TheVariants.{EX}
use Rattle.lock_resources.specs.declared.resource.Side.TheVariants.{First, Last, Next}
use Rattle.lock_resources.specs.declared.resource.Resource.TheVariants.{Node, Edge}
use Rattle.lock_resources.specs.declared.request.Request.{Request}
use Rattle.tree_model.specs.declared.reply.Reply.TheVariants.{Place, Places}
use Rattle.tree_model.specs.Tree.{Tree}
use Rattle.tree_cells.specs.Cells.{Cell}
use Rattle.tree_model.specs.ValidTrees.{IsValidTree}
use Rattle.tree_cells.specs.Covers.{Agree, reads, writes}
use Rattle.tree_cells.specs.Clashes.{bar_each_other}
use Rattle.call_contract.specs.declared.events.Event.TheVariants.{Call, Fail, Commit}
use Rattle.call_contract.specs.declared.events.EventAnswer.TheVariants as said
use Rattle.call_contract.specs.Calls.{CallMeaning}
use Rattle.call_contract.specs.Books.{Book, entry}
use Rattle.call_rows.specs.Rows.{Row, first, children, append, asked, done, at_node, at_edge, child, e, answered, waits, deadlock, both_begin}

-- ---- calls

-- the reply and the tree of a row's call, with other requests
abbrev pub asks_instead : (Row → Tree → List Request) → CallMeaning Row
asks_instead requests = record { requests = requests; reply = λ c t. (done c t).0; after = λ c t. (done c t).1 }

-- the first law of one call: trees that agree on what it asks for reading give the same reply
abbrev pub FirstLaw : CallMeaning Row → Row → Type 0
FirstLaw m c = (t u : Tree) → IsValidTree t → IsValidTree u → Agree (m.requests c t) t u → m.reply c t ≡ m.reply c u

-- `first` asks for the node alone, and not for its edge; all others as they do
abbrev pub without_edge : Row → Tree → List Request
without_edge (first l) t = at_node l NR
without_edge c t = asked c t

-- `children` answers without a request; all others as they do
abbrev pub without_request : Row → Tree → List Request
without_request (children l) t = []
without_request c t = asked c t

-- ---- a join

-- who reads the level of an element and takes a child of it
abbrev pub reads_level_and_takes : List Request
reads_level_and_takes = at_node e LR ++ at_node (child 1001) SX

-- what would be held if LR joined with CX were kept as CX
abbrev pub kept_as_cx : List Request
kept_as_cx = at_node (child 1001) SX

-- who appends behind another child
abbrev pub appends : List Request
appends = at_edge e Last EX ++ (at_edge (child 1003) Next EX ++ at_node (child 1005) SX)

-- the last child is read by the one and written by the other; what the one holds bars it, and what the wrong join leaves doesn't
pub record JoinIsNeeded (x : Cell) : Type 0 where
  pub read : reads reads_level_and_takes x ≡ true
  pub written : writes appends x ≡ true
  pub barred : bar_each_other reads_level_and_takes appends ≡ true
  pub lost : bar_each_other kept_as_cx appends ≡ false

-- ---- books

-- the append is answered though the first child was read
abbrev pub answered_in_conflict : Book Row
answered_in_conflict = both_begin (
    entry 1 (Call (first e)) (answered (Place None))
    ∷ entry 2 (Call (append e (codes "b"))) (answered (Place (Some (child 1001))))
    ∷ [])

-- a call waits that nobody bars
abbrev pub waits_for_nobody : Book Row
waits_for_nobody = both_begin (entry 1 (Call (first e)) (waits (Node e) (ask.Node LR) []) ∷ [])

-- who waits is told nobody
abbrev pub holders_left_out : Book Row
holders_left_out = both_begin (
    entry 1 (Call (first e)) (answered (Place None))
    ∷ entry 2 (Call (append e (codes "b"))) (waits (Edge e First) (ask.Edge EX) [])
    ∷ [])

-- any conflict is answered as a deadlock
abbrev pub deadlock_without_cycle : Book Row
deadlock_without_cycle = both_begin (
    entry 1 (Call (first e)) (answered (Place None))
    ∷ entry 2 (Call (append e (codes "b"))) (deadlock (2 ∷ 1 ∷ []))
    ∷ [])

-- a cycle that doesn't begin with its caller
abbrev pub cycle_of_another : Book Row
cycle_of_another = both_begin (
    entry 1 (Call (children e)) (answered (Places (child 1001 ∷ [])))
    ∷ entry 2 (Call (children e)) (answered (Places (child 1001 ∷ [])))
    ∷ entry 1 (Call (append e (codes "c"))) (waits (Node e) (ask.Node CX) (2 ∷ []))
    ∷ entry 2 (Call (append e (codes "d"))) (deadlock (1 ∷ 2 ∷ []))
    ∷ [])

-- the first commit has the second number
abbrev pub commit_out_of_order : Book Row
commit_out_of_order = both_begin (entry 2 Commit (said.Number 3) ∷ entry 1 Commit (said.Number 2) ∷ [])

-- who waits commits
abbrev pub commit_of_a_waiting_one : Book Row
commit_of_a_waiting_one = both_begin (
    entry 1 (Call (first e)) (answered (Place None))
    ∷ entry 2 (Call (append e (codes "b"))) (waits (Edge e First) (ask.Edge EX) (1 ∷ []))
    ∷ entry 2 Commit (said.Number 2)
    ∷ [])

-- the same count of faults comes twice
abbrev pub fault_told_twice : Book Row
fault_told_twice = both_begin (
    entry 1 (Fail (Some (first e)) 0 (Some 5)) said.Nothing
    ∷ entry 2 (Fail (Some (first e)) 0 (Some 5)) said.Nothing
    ∷ [])
