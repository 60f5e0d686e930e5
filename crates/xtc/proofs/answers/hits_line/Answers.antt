use Rattle.std.proofs.Common.{◌≡◌, sym, subst, ◌∙◌}
use Rattle.std.specs.Prelude.{Option, IfOk, List}
use Rattle.std.proofs.lemmas.List.{at_drop_all}
use Rattle.tree_model.specs.declared.reply.Hit.{Hit}
use Rattle.xtc.specs.Documents.{hits_in, hits_line}
use Rattle.xtc.proofs.answers.hits_line.Goals as goal

pub returns : goal.returns
returns c =
    subst (λ (found : Option (List Hit)). IfOk c.line_of-2.result (λ text. text.items ≡ hits_line found))
    (sym (c.loop-reply.invariant ∙ at_drop_all hits_in c.args.replies.now c.loop-reply.reply-index c.loop-reply-test.false)) c.line_of-2.ensures
