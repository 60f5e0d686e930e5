-- What a call gives: a reply and the tree after it, with DOM's codes for refusals (DOM Level 3 Core, DOMException).
use Rattle.std.specs.Prelude.{ℕ, Bool, true, false}
use Rattle.tree_model.specs.declared.reply.Reply.{Reply}
use Rattle.tree_model.specs.declared.reply.Reply.TheVariants.{Refused}
use Rattle.tree_model.specs.declared.refusal.Refusal.{Refusal}
use Rattle.tree_model.specs.declared.refusal.Refusal.TheVariants.{Dom}
use Rattle.tree_model.specs.Tree.{Forest, none, node, Tree}

-- an offset past the end
abbrev pub index_size_err : ℕ
index_size_err = 1

-- a node where its kind may not stand
abbrev pub hierarchy_request_err : ℕ
hierarchy_request_err = 3

-- a name that is no Name
abbrev pub invalid_character_err : ℕ
invalid_character_err = 5

-- no such node, child or document
abbrev pub not_found_err : ℕ
not_found_err = 8

-- a call that the kind of node has not
abbrev pub not_supported_err : ℕ
not_supported_err = 9

-- a reply, and the tree after the call
abbrev pub Outcome : Type 0
Outcome = Reply × Tree

-- a refused call leaves the tree
abbrev pub refused : Refusal → Tree → Outcome
refused why t = (Refused why, t)

-- whether a reply is a refusal
abbrev pub is_refused : Reply → Bool
is_refused (Refused why) = true
is_refused reply = false

-- what is answered of the node that was looked for: `NOT_FOUND_ERR` where there is none
abbrev pub see : (Forest → Reply) → Forest → Reply
see answer none = Refused (Dom not_found_err)
see answer (node l r ats ch nx) = answer (node l r ats ch nx)

-- what is done to the node that was looked for in a tree
abbrev pub see_in : Tree → (Forest → Outcome) → Forest → Outcome
see_in t change none = refused (Dom not_found_err) t
see_in t change (node l r ats ch nx) = change (node l r ats ch nx)
