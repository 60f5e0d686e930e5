use denote.Param.Send.{sendable}
use Rattle.xtc.proofs.CallSent.{op_send}
use Rattle.std.specs.Prelude.{IfErr, IfOk, flat_map}
use Rattle.std.proofs.Common.{◌≡◌, ℕ, List, [], ◌∷◌, ◌++◌, length, ap, ◌∙◌, subst}
use Rattle.call_contract.specs.States.{start}
use Rattle.command_lines.specs.Replies.{reply_text}
use Rattle.command_lines.specs.declared.line_reply.LineReply.{LineReply}
use Rattle.node_seq.specs.Trees.{StandsFor}
use Rattle.store_calls.specs.StoreCalls.{store_meaning}
use Rattle.tree_model.specs.Tree.{Tree}
use Rattle.workers_text.specs.Entries.{commands_in, in_places}
use Rattle.group_commit.specs.OwnLines.{own_doings, own_printed}
use Rattle.group_commit.specs.Journals.{WroteAll}
use Rattle.session_driver.specs.Sessions.{Does, DoesSome}
use Rattle.workers_text.specs.WorkersText.{asked_of, order_of}
use Rattle.workers_text.specs.Shown.{IsShownBy, lines_in}
use Rattle.xtc.proofs.RepliesShown.{if_err_so, leads_on_both, rests, shown, stops_in}
use Rattle.xtc.proofs.answering.answer_script.Goals as goal

pub text_of-text-requires-clause-all : goal.text_of-text-requires-clause-all
text_of-text-requires-clause-all g c =
    subst (λ cs. IfOk c.run_lines-core.result.replies (λ rs. length rs ≡ length cs)) c.commands.ensures.commands c.run_lines-core.ensures.all

pub returns-clause-written : goal.returns-clause-written
returns-clause-written g c =
    let run = c.run_lines-core in
    record {
      wrote = run.ensures.written.wrote;
      durable = rests c.text_of-text.result run.result.replies
          (λ text given. text.items ≡ flat_map reply_text (in_places c.args.script.now.entries given ++ order_of run.result.core.book ∷ []))
          (WroteAll store_meaning g.B.NodeRead.contents g.J.Disk.is_known c.args.journal run.result.core run.result.journal)
          c.text_of-text.ensures run.ensures.written.durable;
    }

pub returns-clause-stops : goal.returns-clause-stops
returns-clause-stops g c =
    let run = c.run_lines-core in
    let core = c.args.core in
    let book = run.result.core.book in
    let es = c.args.script.now.entries in
    let stands : Tree → Type 0 = λ t. StandsFor (g.B.NodeRead.contents core.opening) t in
    let same : c.commands.result.now ≡ commands_in es = c.commands.ensures.commands in
    let all = subst (λ cs. IfOk run.result.replies (λ rs. length rs ≡ length cs)) same run.ensures.all in
    let does = subst (λ cs. IfOk run.result.replies (λ rs. (t : Tree) → stands t → (s : ℕ) → Does store_meaning s (start t core.number core.limit) book (own_printed (λ call. call) s cs rs))) same run.ensures.does in
    let stops = subst (λ cs. IfErr run.result.replies (λ _. (t : Tree) → stands t → (s : ℕ) → DoesSome store_meaning s (start t core.number core.limit) book (own_doings (λ call. call) s cs))) same run.ensures.stops in
    if_err_so ((t : Tree) → stands t → (s : ℕ) → DoesSome store_meaning s (start t core.number core.limit) book (asked_of s (lines_in es))) c.text_of-text.result
    (stops_in store_meaning (λ t. start t core.number core.limit) stands book es run.result.replies all does stops)

pub returns-clause-text : goal.returns-clause-text
returns-clause-text g c =
    let run = c.run_lines-core in
    let core = c.args.core in
    let book = run.result.core.book in
    let es = c.args.script.now.entries in
    let told = g.B.NodeRead.contents in
    let same : c.commands.result.now ≡ commands_in es = c.commands.ensures.commands in
    leads_on_both c.text_of-text.result run.result.replies
    (λ text given. text.items ≡ flat_map reply_text (in_places es given ++ order_of book ∷ []))
    (λ given. length given ≡ length c.commands.result.now)
    (λ given. (t : Tree) → StandsFor (told core.opening) t → (s : ℕ) → Does store_meaning s (start t core.number core.limit) book (own_printed (λ call. call) s c.commands.result.now given))
    (λ text. (lines : List LineReply) × (text.items ≡ flat_map reply_text lines) × ((t : Tree) → StandsFor (told core.opening) t → IsShownBy store_meaning t core.number core.limit book (lines_in es) lines))
    c.text_of-text.ensures run.ensures.all run.ensures.does
    (λ text given is all does. (
      in_places es given ++ order_of book ∷ [],
      is,
      λ t stands.
          shown store_meaning t core.number core.limit book es (run.ensures.book.legal t stands).legal given (all ∙ ap length same)
          (λ s. subst (λ cs. Does store_meaning s (start t core.number core.limit) book (own_printed (λ call. call) s cs given)) same (does t stands s)),
    ))

pub run_lines-core-requires-send-C : goal.run_lines-core-requires-send-C
run_lines-core-requires-send-C g c κs within = search (sendable, op_send)
