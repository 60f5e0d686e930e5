use Rattle.std.proofs.Common.{◌≡◌, ◌<◌, ◌==◌, true, false, length, true≢false, sym, ap, subst, ◌∙◌, ◌++◌}
use Rattle.std.specs.List.{AllByRecursion}
use Rattle.tree_model.specs.Changes.{differences}
use Rattle.tree_model.specs.Entries.{Entries, Sorted}
use Rattle.dom_writes.specs.inside.NormalTexts.{IsRun, IsValidText, first_run, joined_run}
use Rattle.dom_writes.proofs.NormalChanges.{IsJoining, fails, goes, run_sorted}
use Rattle.dom_writes.proofs.NormalRuns.{behind_shorter, run_is_one}
use Rattle.dom_writes.proofs.normal_texts.join_runs.Goals as goal

pub join_run-requires-clause-one : goal.join_run-requires-clause-one
join_run-requires-clause-one c = subst IsRun (sym c.split_run.ensures.run) (run_is_one c.loop-rest.rest.now)

pub join_run-requires-clause-sorted : goal.join_run-requires-clause-sorted
join_run-requires-clause-sorted c = subst Sorted (sym c.split_run.ensures.run) (run_sorted c.loop-rest.rest.now c.loop-rest.invariant.sorted)

pub returns-then-not-branch-clause-fit : goal.returns-then-not-branch-clause-fit
returns-then-not-branch-clause-fit c = (
  λ no. absurd (true≢false (sym no)),
  λ v.
      let valid = subst (λ (r : Entries). AllByRecursion IsValidText (joined_run r)) (sym c.split_run.ensures.run) (fails c.args.entries.now c.loop-rest.rest.now c.loop-rest.changes c.loop-rest.invariant v) in
      sym c.if-not-branch.true ∙ c.in_ok-join_run.ensures.valid.1 valid,
)

pub loop-rest-smaller : goal.loop-rest-smaller
loop-rest-smaller c =
    let rest : Entries = c.loop-rest.rest.now in
    let behind : Entries = c.split_run.result.1.now in
    let some : (length rest == 0) ≡ false = sym c.is_empty.ensures ∙ c.loop-rest-test.true in
    let smaller : length behind < length rest = subst (λ (v : Entries). length v < length rest) (sym c.split_run.ensures.behind) (behind_shorter rest some) in
    smaller

pub loop-rest-preserved : goal.loop-rest-preserved
loop-rest-preserved c =
    let all : Entries = c.args.entries.now in
    let rest : Entries = c.loop-rest.rest.now in
    let out = c.loop-rest.changes in
    let new = c.join_run.new.changes in
    let fit : c.in_ok-join_run.field-0 ≡ true = c.if-not-branch.false in
    let is : new ≡ out ++ differences (first_run rest) (joined_run (first_run rest)) =
    c.in_ok-join_run.ensures.changes fit ∙ ap (λ (r : Entries). out ++ differences r (joined_run r)) c.split_run.ensures.run in
    let valid = subst (λ (r : Entries). AllByRecursion IsValidText (joined_run r)) c.split_run.ensures.run (c.in_ok-join_run.ensures.valid.0 fit) in
    subst (λ (v : Entries). IsJoining all v new) (sym c.split_run.ensures.behind) (goes all rest out new c.loop-rest.invariant is valid)
