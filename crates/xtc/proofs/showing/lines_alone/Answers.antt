use Rattle.std.proofs.Common.{◌∙◌, ap, sym}
use Rattle.xtc.specs.Documents.{label_in}
use Rattle.xtc.proofs.LoneLines.{lone_with, lone_without, moved}
use Rattle.xtc.proofs.showing.lines_alone.Goals as goal

pub returns-in-None-clause-lines : goal.returns-in-None-clause-lines
returns-in-None-clause-lines g c = λ t stands n apart.
    lone_without t n c.args.name.now c.args.question.now c.in_ok-doc.doc c.in_ok-found.found c.in_ok-lines.lines.items apart c.in_ok-doc.ensures.call c.reply_of.ensures.valid (c.in_ok-found.ensures.reply t stands)
    c.in_ok-lines.ensures (sym c.in-None.is ∙ c.in_ok-at.ensures ∙ ap label_in c.as_slice.ensures.value)

pub returns-in-Some-clause-lines : goal.returns-in-Some-clause-lines
returns-in-Some-clause-lines g c =
    moved (g.S.NodeRead.contents c.args.seq.now) (g.S.NodeRead.contents c.reply_of.new.seq) c.with_answer.result _ _ (g.met.S.NodeRead.unchanged_contents _ _ c.reply_of.ensures.unchanged)
    (λ t now stands adds n apart. lone_with t n c.args.name.now c.args.question.now c.in_ok-doc.doc c.in_ok-found.found c.in_ok-lines.lines.items apart c.in_ok-doc.ensures.call c.reply_of.ensures.valid
    (c.in_ok-found.ensures.reply t stands) c.in_ok-lines.ensures c.in-Some.at now.items (sym c.in-Some.is ∙ c.in_ok-at.ensures ∙ ap label_in c.as_slice.ensures.value) adds) c.with_answer.ensures.lines
