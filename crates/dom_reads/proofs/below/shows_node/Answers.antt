use Rattle.std.proofs.Common.{◌≡◌, ℕ, zero, suc, true, nat_lt, refl, sym, ap, ◌∙◌, arith}
use Rattle.std.proofs.lemmas.Bool.Decides.{nat_tests}
use Rattle.dewey_labels.specs.Labels.{Label, level, cut}
use Rattle.dewey_labels.proofs.Ancestors.{cut_all}
use Rattle.dom_reads.proofs.below.shows_node.Goals as goal

positive : (n : ℕ) → (n ≡ 0 → ⊥) → nat_lt 0 n ≡ true
positive zero h = absurd (h refl)
positive (suc n) h = grind (arith, nat_tests)

pub returns-then-is_some-clause-shown : goal.returns-then-is_some-clause-shown
returns-then-is_some-clause-shown c some not_root =
    let l : Label = c.args.at.now in
    ap (nat_lt 0) c.level.ensures ∙ positive (level l) (λ e. not_root (ap (λ n. cut n l) (sym e) ∙ cut_all l c.divisions-divisions.ensures.label.0))
