-- Two workers on an empty store, worked by hand: each begins, reads the documents and commits, and the second commits first.
use Rattle.std.specs.Prelude.{ℕ, false, List, [], ◌∷◌}
use Rattle.lock_plans.specs.DomPlans.{requests}
use Rattle.tree_model.specs.DomCalls.{dom}
use Rattle.tree_model.specs.declared.dom_call.DomCall.{DomCall}
use Rattle.tree_model.specs.declared.dom_call.DomCall.TheVariants.{Docs}
use Rattle.tree_model.specs.declared.reply.Reply.{Reply}
use Rattle.tree_model.specs.declared.reply.Reply.TheVariants.{Names, Number}
use Rattle.call_contract.specs.Books.{Book, entry}
use Rattle.call_contract.specs.Calls.{CallMeaning}
use Rattle.call_contract.specs.declared.events.Answer.TheVariants as answer
use Rattle.call_contract.specs.declared.events.Event.TheVariants as event
use Rattle.call_contract.specs.declared.events.EventAnswer.{EventAnswer}
use Rattle.call_contract.specs.declared.events.EventAnswer.TheVariants as said
use Rattle.command_lines.specs.declared.line_reply.LineAnswer.TheVariants as line_answer
use Rattle.command_lines.specs.declared.line_reply.LineReply.{LineReply}
use Rattle.command_lines.specs.declared.line_reply.LineReply.TheVariants.{Order, Said}
use Rattle.session_driver.specs.declared.doing.Doing.{Doing}
use Rattle.session_driver.specs.declared.doing.Doing.TheVariants.{Begin, Call, Commit}
use Rattle.workers_text.specs.WorkersText.{Line}
use Rattle.workers_text.specs.WorkersText.Line.{asked}

-- the calls on the tree, with what they ask for
abbrev pub docs_meaning : CallMeaning DomCall
docs_meaning = record { requests = requests; reply = λ c t. (dom c t).0; after = λ c t. (dom c t).1 }

abbrev pub line : ℕ → Doing DomCall → Line DomCall
line s doing = asked (record { session = s; doing = doing })

abbrev pub lines : List (Line DomCall)
lines = line 1 Begin ∷ line 1 (Call Docs) ∷ line 1 Commit ∷ line 2 Begin ∷ line 2 (Call Docs) ∷ line 2 Commit ∷ []

abbrev pub says : ℕ → Reply → LineReply
says s r = Said s false (line_answer.Reply r)

abbrev pub replies : List LineReply
replies = says 1 (Number 1) ∷ says 1 (Names []) ∷ says 1 (Number 2) ∷ says 2 (Number 1) ∷ says 2 (Names []) ∷ says 2 (Number 1) ∷ []

abbrev pub order : LineReply
order = Order ((2, 1) ∷ (1, 1) ∷ [])

-- the book that shows it
abbrev pub no_documents : EventAnswer
no_documents = said.Call (answer.Answered (Names []))

abbrev pub book : Book DomCall
book =
    entry 1 event.Begin (said.Number 1) ∷ entry 2 event.Begin (said.Number 1) ∷ entry 1 (event.Call Docs) no_documents ∷ entry 2 (event.Call Docs) no_documents
    ∷ entry 2 event.Commit (said.Number 1) ∷ entry 1 event.Commit (said.Number 2) ∷ []
