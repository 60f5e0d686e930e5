use Rattle.std.proofs.Common.{◌≡◌, ◌++◌, ◌-◌, ◌+◌, ◌≤◌, ◌∷◌, [], List, reverse, sym, ap, subst, ◌∙◌, append_assoc, append-nil, arith}
use Rattle.dewey_labels.specs.Labels.{Label, level, parent}
use Rattle.dewey_labels.specs.Ancestors.{cuts}
use Rattle.xpath_axes.proofs.LabelWays.{ups_more, cut_more, ups_all, ends_at}
use Rattle.xpath_axes.proofs.labels.labels_up.Goals as goal

pub loop-level-init : goal.loop-level-init
loop-level-init c = record { met = sym (append-nil c.args.before); next = c.in_ok-next.ensures; small = omega arith }

pub loop-level-preserved : goal.loop-level-preserved
loop-level-preserved c =
    let l = c.args.at.now in
    let i = c.loop-level._level in
    let inv = c.loop-level.invariant in
    let back : i ≡ i + 1 - 1 = omega arith in
    record {
      met = c.in_ok-push.ensures.ok ∙ ap (λ (ls : List Label). ls ++ c.loop-level.next ∷ []) inv.met
          ∙ append_assoc c.args.before (reverse (cuts (i - 1) l)) (c.loop-level.next ∷ [])
          ∙ ap (λ n. c.args.before ++ (reverse (cuts (i - 1) l) ++ n ∷ [])) inv.next
          ∙ ap (λ (ls : List Label). c.args.before ++ ls) (sym (ups_more i l c.loop-level.auto._level))
          ∙ ap (λ n. c.args.before ++ reverse (cuts n l)) back;
      next = c.in_ok-above.ensures ∙ ap parent inv.next ∙ sym (cut_more i l);
      small = omega arith;
    }

pub returns : goal.returns
returns c =
    let l = c.args.at.now in
    let inv = c.loop-level.invariant in
    let small = inv.small in
    let levels = c.level-level-end.ensures in
    let low = c.loop-level.auto._level in
    let high = c.loop-level.auto._level-end in
    let past = c.loop-level-test.false in
    let e : c.loop-level._level - 1 ≡ level l - 1 = ends_at c.loop-level._level (level l) (subst (λ n. c.loop-level._level ≤ 1 + n) levels small) low (subst (λ n. 1 ≤ n → c.loop-level._level ≤ n) levels high) (subst (λ n. n ≤ c.loop-level._level) levels past) in
    inv.met ∙ ap (λ n. c.args.before ++ reverse (cuts n l)) e ∙ ap (λ (ls : List Label). c.args.before ++ ls) (ups_all l)
