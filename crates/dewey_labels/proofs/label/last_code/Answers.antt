use Rattle.std.proofs.Common.{◌≡◌, ◌-◌, false, true, get_or, arith}
use Rattle.std.proofs.lemmas.Bool.{ne_eqb, eq-eqb, MatchBool-at_true, MatchBool-at_false}
use Rattle.dewey_labels.specs.Labels.{is_odd, parent}
use Rattle.dewey_labels.proofs.Labels.{parent_is_taken, walk_back, label_length, is_label-parent}
use Rattle.dewey_labels.proofs.label.last_code.Goals as goal

pub loop-start-init : goal.loop-start-init
loop-start-init c =
    let short = (parent_is_taken c.args.divisions.now c.requires.label c.requires.below_root).0 in
    (omega arith, omega arith)

pub loop-start-preserved : goal.loop-start-preserved
loop-start-preserved c =
    let l = c.args.divisions.now in
    let long = label_length (parent l) (is_label-parent l c.requires.label) in
    let back = walk_back l (c.loop-start.start - 1) c.requires.label c.requires.below_root (omega arith) (omega arith) in
    let even : is_odd (get_or l (c.loop-start.start - 1) 0) ≡ false = ne_eqb _ _ (omega arith) in
    (MatchBool-at_false _ _ even back, omega arith)

pub returns-clause-begins : goal.returns-clause-begins
returns-clause-begins c =
    let l = c.args.divisions.now in
    let long = label_length (parent l) (is_label-parent l c.requires.label) in
    let back = walk_back l (c.loop-start.start - 1) c.requires.label c.requires.below_root (omega arith) (omega arith) in
    let odd : is_odd (get_or l (c.loop-start.start - 1) 0) ≡ true = eq-eqb _ _ (omega arith) in
    omega (arith, MatchBool-at_true _ _ odd back)
