use Rattle.std.proofs.Common.{◌≡◌, sym, subst, ◌∙◌}
use Rattle.std.specs.Prelude.{Option, IfOk}
use Rattle.std.proofs.lemmas.List.{at_drop_all}
use Rattle.tree_model.specs.declared.fragment.Fragment.{Fragment}
use Rattle.xtc.specs.Documents.{tree_in, tree_line}
use Rattle.xtc.proofs.answers.tree_line.Goals as goal

pub returns : goal.returns
returns c =
    subst (λ (found : Option Fragment). IfOk c.line_of.result (λ text. text.items ≡ tree_line found))
    (sym (c.loop-reply.invariant ∙ at_drop_all tree_in c.args.replies.now c.loop-reply.reply-index c.loop-reply-test.false)) c.line_of.ensures
