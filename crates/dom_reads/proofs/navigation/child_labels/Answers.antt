use Rattle.std.proofs.Common.{◌<◌, IfSome, Some, sym, subst, ◌∙◌, ◌≡◌, ◌+◌, ◌++◌, [], ◌∷◌, List, length, ap, arith}
use Rattle.dewey_labels.specs.Labels.{IsLabel}
use Rattle.tree_model.specs.Tree.{at, children_of}
use Rattle.dom_reads.proofs.ChildLists.{IsChildWalk, walk_begins, walk_goes_on, walk_ends, steps_behind, steps_fall, within_if}
use Rattle.dom_reads.proofs.ReplyLaws.{later}
use Rattle.dom_reads.proofs.WalkReads.{met_before, one_longer}
use Rattle.dom_reads.proofs.navigation.child_labels.Goals as goal

pub loop-next-init : goal.loop-next-init
loop-next-init g c = record {
  same = c.in_ok-next.ensures.unchanged;
  counted = c.in_ok-next.ensures.cause.exact;
  read =
      let none : length c.new-labels.result ≡ 0 = ap length c.new-labels.ensures in
      let step = c.in_ok-next.ensures.reads in
      omega (arith, none, step);
  label = c.in_ok-next.ensures.label;
  walked = λ t stands y.
      subst (λ ls. IsChildWalk c.args.at.now t ls c.in_ok-next.next) (sym c.new-labels.ensures) (walk_begins c.args.at.now t c.in_ok-next.next stands.valid y (c.in_ok-next.ensures.found t stands));
}

pub loop-next-smaller : goal.loop-next-smaller
loop-next-smaller g c =
    let child = c.in-Some.child in
    let label : IsLabel child = subst (λ o. IfSome o IsLabel) c.in-Some.is c.loop-next.invariant.label in
    subst (λ o. steps_behind c.in_ok-next-2.next < steps_behind o) (sym c.in-Some.is)
    (steps_fall child c.in_ok-next-2.next label.1 (within_if c.in_ok-next-2.next c.in_ok-next-2.ensures.label) c.in_ok-next-2.ensures.behind)

pub loop-next-preserved : goal.loop-next-preserved
loop-next-preserved g c =
    let law = g.met.S.NodeRead in
    let inv = c.loop-next.invariant in
    let child = c.in-Some.child in
    let next = c.in_ok-next-2.next in
    record {
      same = law.unchanged_onward _ _ _ inv.same c.in_ok-next-2.ensures.unchanged;
      counted = c.in_ok-next-2.ensures.cause.exact ∙ inv.counted;
      read =
          let longer : length c.push.new.self ≡ length c.loop-next.labels + 1 = ap length c.in_ok-push.ensures.ok ∙ one_longer c.loop-next.labels child in
          let so_far = inv.read in
          let step = c.in_ok-next-2.ensures.reads in
          omega (arith, longer, so_far, step);
      label = c.in_ok-next-2.ensures.label;
      walked = λ t stands y.
          let was : IsChildWalk c.args.at.now t c.loop-next.labels (Some child) = subst (IsChildWalk c.args.at.now t c.loop-next.labels) c.in-Some.is (inv.walked t stands y) in
          let found = c.in_ok-next-2.ensures.found t (later _ _ t (law.unchanged_contents _ _ inv.same) stands) was.there in
          subst (λ ls. IsChildWalk c.args.at.now t ls next) (sym c.in_ok-push.ensures.ok) (walk_goes_on c.args.at.now child t c.loop-next.labels next stands.valid was found);
    }

pub returns-clause-labels : goal.returns-clause-labels
returns-clause-labels g c = λ t stands y.
    walk_ends c.args.at.now t c.loop-next.labels (subst (IsChildWalk c.args.at.now t c.loop-next.labels) c.in_default.is (c.loop-next.invariant.walked t stands y))

pub returns-clause-reads : goal.returns-clause-reads
returns-clause-reads g c = c.loop-next.invariant.read

pub returns-in_err-next-2-clause-reads_of_tree : goal.returns-in_err-next-2-clause-reads_of_tree
returns-in_err-next-2-clause-reads_of_tree g c t stands y =
    let l = c.args.at.now in
    let child = c.in-Some.child in
    let was : IsChildWalk l t c.loop-next.labels (Some child) = subst (IsChildWalk l t c.loop-next.labels) c.in-Some.is (c.loop-next.invariant.walked t stands y) in
    let more = met_before c.loop-next.labels _ (children_of (at l t.documents)) child was.whole in
    let so_far = c.loop-next.invariant.read in
    let step = c.in_err-next-2.ensures.reads in
    omega (arith, more, so_far, step)

pub returns-in_err-push-clause-reads_of_tree : goal.returns-in_err-push-clause-reads_of_tree
returns-in_err-push-clause-reads_of_tree g c t stands y =
    let l = c.args.at.now in
    let child = c.in-Some.child in
    let was : IsChildWalk l t c.loop-next.labels (Some child) = subst (IsChildWalk l t c.loop-next.labels) c.in-Some.is (c.loop-next.invariant.walked t stands y) in
    let more = met_before c.loop-next.labels _ (children_of (at l t.documents)) child was.whole in
    let so_far = c.loop-next.invariant.read in
    let step = c.in_ok-next-2.ensures.reads in
    omega (arith, more, so_far, step)

pub returns-clause-reads_of_tree : goal.returns-clause-reads_of_tree
returns-clause-reads_of_tree g c t stands y =
    let l = c.args.at.now in
    let all : length c.loop-next.labels ≡ length (children_of (at l t.documents)) = ap length
    (walk_ends l t c.loop-next.labels (subst (IsChildWalk l t c.loop-next.labels) c.in_default.is (c.loop-next.invariant.walked t stands y))) in
    let read = c.loop-next.invariant.read in
    omega (arith, all, read)
