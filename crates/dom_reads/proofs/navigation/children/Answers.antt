use Rattle.std.proofs.Common.{not, ap, ◌∙◌, arith}
use Rattle.tree_model.specs.Tree.{at}
use Rattle.dom_reads.proofs.ReplyLaws.{later, is_there}
use Rattle.dom_reads.proofs.navigation.children.Goals as goal

pub returns-in_err-child_labels-clause-reads_of_tree : goal.returns-in_err-child_labels-clause-reads_of_tree
returns-in_err-child_labels-clause-reads_of_tree g c t stands =
    let l = c.args.at.now in
    let now = later _ _ t (g.met.S.NodeRead.unchanged_contents _ _ c.record_at.ensures.unchanged) stands in
    let there = is_there (at l t.documents) c.in_ok-record_at.field-0 (c.in_ok-record_at.ensures.found t stands) (c.is_none.ensures ∙ ap not c.if-is_none.false) in
    let rest = c.in_err-child_labels.ensures.reads_of_tree t now there in
    let read = c.in_ok-record_at.ensures.reads in
    omega (arith, rest, read)

pub returns-clause-reads_of_tree : goal.returns-clause-reads_of_tree
returns-clause-reads_of_tree g c t stands =
    let l = c.args.at.now in
    let now = later _ _ t (g.met.S.NodeRead.unchanged_contents _ _ c.record_at.ensures.unchanged) stands in
    let there = is_there (at l t.documents) c.in_ok-record_at.field-0 (c.in_ok-record_at.ensures.found t stands) (c.is_none.ensures ∙ ap not c.if-is_none.false) in
    let rest = c.in_ok-child_labels.ensures.reads_of_tree t now there in
    let read = c.in_ok-record_at.ensures.reads in
    omega (arith, rest, read)
