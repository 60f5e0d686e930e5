use Rattle.std.proofs.Common.{◌≡◌, not, refl, sym, ap, ◌∙◌, true≢false, arith}
use Rattle.tree_model.specs.Tree.{at, last_child_of, last_label}
use Rattle.tree_model.proofs.PlaceLaws.{not_root}
use Rattle.dom_reads.proofs.ReplyLaws.{later, is_there, one_at_least, two_reads}
use Rattle.dom_reads.specs.ReadCounts.{child_reads}
use Rattle.dom_reads.proofs.StepLaws.{row_of}
use Rattle.dom_reads.proofs.below.last_below.Goals as goal

pub returns-clause-child : goal.returns-clause-child
returns-clause-child g c = λ t stands.
    let l = c.args.at.now in
    let now = later _ _ t (g.met.S.NodeRead.unchanged_contents _ _ c.last_child.ensures.unchanged) stands in
    let there = is_there (at l t.documents) c.in_ok-record_at.field-0 (c.in_ok-record_at.ensures.found t now) (c.is_none.ensures ∙ ap not c.if-is_none.false) in
    c.in_ok-child.ensures.found t stands ∙ ap last_label (row_of l t (not_root l t stands.valid there))

pub returns-clause-child_read : goal.returns-clause-child_read
returns-clause-child_read g c some ne = absurd (true≢false (sym (c.shows_node.ensures.shown some ne) ∙ c.if-shows_node.false))

pub returns-in_err-child-clause-reads_of_tree : goal.returns-in_err-child-clause-reads_of_tree
returns-in_err-child-clause-reads_of_tree g c t stands =
    let one = one_at_least (last_child_of (at c.args.at.now t.documents)) in
    let child = c.in_err-child.ensures.reads in
    omega (arith, one, child)

pub returns-then-shows_node-clause-reads_of_tree : goal.returns-then-shows_node-clause-reads_of_tree
returns-then-shows_node-clause-reads_of_tree g c t stands =
    let one = one_at_least (last_child_of (at c.args.at.now t.documents)) in
    let child = c.in_ok-child.ensures.reads in
    omega (arith, one, child)

pub returns-in_err-record_at-clause-reads_of_tree : goal.returns-in_err-record_at-clause-reads_of_tree
returns-in_err-record_at-clause-reads_of_tree g c t stands =
    let l = c.args.at.now in
    let two : child_reads (last_child_of (at l t.documents)) ≡ 2 = two_reads l t c.in_ok-child.child c.shows_node.result last_child_of stands.valid refl
    (λ y. c.in_ok-child.ensures.found t stands ∙ ap last_label (row_of l t (not_root l t stands.valid y))) c.shows_node.ensures.shown c.if-shows_node.false in
    let child = c.in_ok-child.ensures.reads in
    let read = c.in_err-record_at.ensures.reads in
    omega (arith, two, child, read)

pub returns-then-is_none-clause-reads_of_tree : goal.returns-then-is_none-clause-reads_of_tree
returns-then-is_none-clause-reads_of_tree g c t stands =
    let l = c.args.at.now in
    let two : child_reads (last_child_of (at l t.documents)) ≡ 2 = two_reads l t c.in_ok-child.child c.shows_node.result last_child_of stands.valid refl
    (λ y. c.in_ok-child.ensures.found t stands ∙ ap last_label (row_of l t (not_root l t stands.valid y))) c.shows_node.ensures.shown c.if-shows_node.false in
    let child = c.in_ok-child.ensures.reads in
    let read = c.in_ok-record_at.ensures.reads in
    omega (arith, two, child, read)

pub returns-clause-reads_of_tree : goal.returns-clause-reads_of_tree
returns-clause-reads_of_tree g c t stands =
    let l = c.args.at.now in
    let two : child_reads (last_child_of (at l t.documents)) ≡ 2 = two_reads l t c.in_ok-child.child c.shows_node.result last_child_of stands.valid refl
    (λ y. c.in_ok-child.ensures.found t stands ∙ ap last_label (row_of l t (not_root l t stands.valid y))) c.shows_node.ensures.shown c.if-shows_node.false in
    let child = c.in_ok-child.ensures.reads in
    let read = c.in_ok-record_at.ensures.reads in
    omega (arith, two, child, read)
