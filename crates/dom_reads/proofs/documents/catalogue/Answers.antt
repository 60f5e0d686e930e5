use Rattle.std.proofs.Common.{Some, None, sym, ◌∙◌, append-nil}
use Rattle.dom_reads.proofs.ReplyLaws.{catalogue_more}
use Rattle.dom_reads.proofs.documents.catalogue.Goals as goal

pub loop-name-preserved : goal.loop-name-preserved
loop-name-preserved c =
    sym (append-nil c.loop-name.names) ∙ catalogue_more c.loop-name.yielded (c.in-Some.name, c.in-Some.value) None c.loop-name.names c.loop-name.invariant (sym c.in_default.is ∙ c.in_ok-label.ensures)

pub loop-name-preserved-in-Some-branch-2 : goal.loop-name-preserved-in-Some-branch-2
loop-name-preserved-in-Some-branch-2 c =
    c.in_ok-push.ensures.ok ∙ catalogue_more c.loop-name.yielded (c.in-Some.name, c.in-Some.value) (Some c.in-Some-2.label) c.loop-name.names c.loop-name.invariant (sym c.in-Some-2.is ∙ c.in_ok-label.ensures)
