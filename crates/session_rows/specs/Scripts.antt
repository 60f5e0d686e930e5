-- Scripts of two sessions on small stores, worked by hand, whose books stand in call_rows: their lines, and the lines that are written.
use Rattle.std.specs.Prelude.{ℕ, Bool, true, false, List, [], ◌∷◌, Option, Some, None, codes}
use Rattle.lock_modes.specs.declared.ask.Ask.TheVariants as ask
use Rattle.lock_modes.specs.declared.mode.Mode.TheVariants.{IR, CX}
use Rattle.lock_modes.specs.declared.edge_mode.EdgeMode.TheVariants.{EX}
use Rattle.lock_resources.specs.declared.resource.Side.TheVariants.{First}
use Rattle.lock_resources.specs.declared.resource.Resource.TheVariants.{Node, Edge}
use Rattle.tree_model.specs.declared.fragment.Fragment.TheVariants as fragment
use Rattle.tree_model.specs.declared.reply.Reply.{Reply}
use Rattle.tree_model.specs.declared.reply.Reply.TheVariants as reply
use Rattle.call_rows.specs.Rows.{Row, node_of, first, children, append, remove, e, child, missing, not_found}
use Rattle.command_lines.specs.declared.line_reply.LineAnswer.{LineAnswer}
use Rattle.command_lines.specs.declared.line_reply.LineAnswer.TheVariants.{Session, Wait, Deadlock}
use Rattle.command_lines.specs.declared.line_reply.LineAnswer.TheVariants as line_answer
use Rattle.command_lines.specs.declared.line_reply.LineReply.{LineReply}
use Rattle.command_lines.specs.declared.line_reply.LineReply.TheVariants.{Said}
use Rattle.command_lines.specs.declared.line_reply.SessionRefusal.TheVariants.{IsWaiting, InTransaction, NoTransaction}
use Rattle.session_driver.specs.Lines.{Asked}
use Rattle.session_driver.specs.declared.doing.Doing.{Doing}
use Rattle.session_driver.specs.declared.doing.Doing.TheVariants.{Begin, Commit, Abort, Call}

-- a line of a session
abbrev pub line : ℕ → Doing Row → Asked Row
line s doing = record { session = s; doing = doing }

-- a session's reply, and that of a call that had waited
abbrev pub says : ℕ → Reply → LineReply
says s r = Said s false (line_answer.Reply r)

abbrev pub wakes : ℕ → Reply → LineReply
wakes s r = Said s true (line_answer.Reply r)

-- ---- the first child is read, so an append where none stands waits for the edge; while it waits its session is refused
abbrev pub edge_lines : List (Asked Row)
edge_lines =
    line 1 Begin ∷ line 2 Begin ∷ line 2 Begin ∷ line 1 (Call (first e)) ∷ line 2 (Call (append e (codes "b"))) ∷ line 2 Commit ∷ line 2 Begin
    ∷ line 1 (Call (first e)) ∷ line 1 Commit ∷ line 1 Commit ∷ []

abbrev pub edge_replies : List LineReply
edge_replies =
    says 1 (reply.Number 1) ∷ says 2 (reply.Number 1) ∷ Said 2 false (Session InTransaction) ∷ says 1 (reply.Place None)
    ∷ Said 2 false (Wait (Edge e First) (ask.Edge EX) (1 ∷ [])) ∷ Said 2 false (Session IsWaiting) ∷ Said 2 false (Session IsWaiting)
    ∷ says 1 (reply.Place None) ∷ says 1 (reply.Number 2) ∷ wakes 2 (reply.Place (Some (child 1001))) ∷ Said 1 false (Session NoTransaction) ∷ []

-- ---- both read the list and append: the second one's waiting would close a cycle, and its end wakes the first
abbrev pub deadlock_lines : List (Asked Row)
deadlock_lines =
    line 1 Begin ∷ line 2 Begin ∷ line 1 (Call (children e)) ∷ line 2 (Call (children e)) ∷ line 1 (Call (append e (codes "c")))
    ∷ line 2 (Call (append e (codes "d"))) ∷ []

abbrev pub deadlock_replies : List LineReply
deadlock_replies =
    says 1 (reply.Number 1) ∷ says 2 (reply.Number 1) ∷ says 1 (reply.Places (child 1001 ∷ [])) ∷ says 2 (reply.Places (child 1001 ∷ []))
    ∷ Said 1 false (Wait (Node e) (ask.Node CX) (2 ∷ [])) ∷ Said 2 false (Deadlock (2 ∷ 1 ∷ [])) ∷ wakes 1 (reply.Place (Some (child 1003))) ∷ []

-- ---- a removed node comes back where its remover aborts
abbrev pub comes_back_lines : List (Asked Row)
comes_back_lines =
    line 1 Begin ∷ line 2 Begin ∷ line 2 (Call (node_of missing)) ∷ line 2 Commit ∷ line 2 Begin ∷ line 1 (Call (remove e (child 1001)))
    ∷ line 2 (Call (node_of missing)) ∷ line 1 Abort ∷ []

abbrev pub comes_back_replies : List LineReply
comes_back_replies =
    says 1 (reply.Number 1) ∷ says 2 (reply.Number 1) ∷ says 2 not_found ∷ says 2 (reply.Number 2) ∷ says 2 (reply.Number 2)
    ∷ says 1 (reply.Tree (Some (fragment.Element (codes "b") [] (fragment.Element (codes "c") [] [] ∷ []))))
    ∷ Said 2 false (Wait (Node (child 1001)) (ask.Node IR) (1 ∷ [])) ∷ says 1 reply.Nothing ∷ wakes 2 not_found ∷ []
