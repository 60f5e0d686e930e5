use Rattle.std.proofs.Common.{◌+◌, List, Some, None, arith, sym, ap, subst, ◌∙◌}
use Rattle.journal.specs.Groups.{group_at}
use Rattle.journal.specs.inside.Settled.{HasRead}
use Rattle.journal.specs.declared.group.Group.{Group}
use Rattle.journal.proofs.DecodeLaws.{header_read, group_read, found_fits}
use Rattle.journal.proofs.decoding.read_commits.Goals as goal

pub loop-found-init : goal.loop-found-init
loop-found-init c = subst (λ (gs : List Group). HasRead c.args.bytes.now 8 None gs) (sym c.new.ensures) (header_read c.args.bytes.now c.requires.header c.requires.long)

pub returns-in_default-clause-ends : goal.returns-in_default-clause-ends
returns-in_default-clause-ends c _ = ap (group_at c.loop-found.found.last) (sym c.split_at.ensures.back) ∙ sym c.in_ok-group.ensures ∙ c.in_default.is

pub overflow_add-found-in-loop-found : goal.overflow_add-found-in-loop-found
overflow_add-found-in-loop-found c =
    let is = ap (group_at c.loop-found.found.last) (sym c.split_at.ensures.back) ∙ sym c.in_ok-group.ensures ∙ c.in-Some.is in
    omega (arith, found_fits c.args.bytes.now c.loop-found.found.gate c.loop-found.found.last c.loop-found.found.groups c.loop-found.invariant c.loop-found-test.true (c.in-Some.group, c.in-Some.size) is, c.well_formed)

pub overflow_add-found-in-loop-found-2 : goal.overflow_add-found-in-loop-found-2
overflow_add-found-in-loop-found-2 c =
    let is = ap (group_at c.loop-found.found.last) (sym c.split_at.ensures.back) ∙ sym c.in_ok-group.ensures ∙ c.in-Some.is in
    let f = found_fits c.args.bytes.now c.loop-found.found.gate c.loop-found.found.last c.loop-found.found.groups c.loop-found.invariant c.loop-found-test.true (c.in-Some.group, c.in-Some.size) is in
    omega (arith, f, c.well_formed)

pub loop-found-preserved : goal.loop-found-preserved
loop-found-preserved c =
    let is = ap (group_at c.loop-found.found.last) (sym c.split_at.ensures.back) ∙ sym c.in_ok-group.ensures ∙ c.in-Some.is in
    subst (λ (gs : List Group). HasRead c.args.bytes.now (c.loop-found.found.gate + (1 + c.in-Some.size)) (Some c.in-Some.group.number) gs) (sym c.in_ok-push.ensures.ok)
    (group_read c.args.bytes.now c.loop-found.found.gate c.loop-found.found.last c.loop-found.found.groups c.loop-found.invariant c.loop-found-test.true (c.in-Some.group, c.in-Some.size) is)
