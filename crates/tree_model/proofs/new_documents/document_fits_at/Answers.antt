use Rattle.std.proofs.Common.{◌≡◌, ◌<◌, ◌≤◌, ℕ, ◌+◌, ◌&&◌, true, false, nat_lt, length, option_map, Option, Bor, sym, ap, ◌∙◌, arith}
use Rattle.std.proofs.lemmas.Bool.Decides.{nat_tests}
use Rattle.dewey_labels.specs.Labels.{most_divisions}
use Rattle.dewey_labels.proofs.Limits.{test_of_within}
use Rattle.tree_model.specs.declared.fragment.Fragment.{Fragment}
use Rattle.tree_model.specs.Documents.{document_at}
use Rattle.tree_model.specs.Fragments.{plain, plain_or_none}
use Rattle.tree_model.specs.Graft.{all_within}
use Rattle.tree_model.specs.GraftLimits.{fit_at}
use Rattle.tree_model.proofs.DocumentLimits.{document_within, empty_within}
use Rattle.tree_model.proofs.new_documents.document_fits_at.Goals as goal

is_less : (n : ℕ) → n < most_divisions → nat_lt n most_divisions ≡ true
is_less n h = grind (arith, nat_tests)

is_not_less : (n : ℕ) → most_divisions ≤ n → nat_lt n most_divisions ≡ false
is_not_less n h = grind (arith, nat_tests)

pub returns-then-divisions-lt-MOST_DIVISIONS : goal.returns-then-divisions-lt-MOST_DIVISIONS
returns-then-divisions-lt-MOST_DIVISIONS c =
    let l = c.args.at.now in
    let f = c.in-Some.fragment.now in
    let few : nat_lt (length l) most_divisions ≡ true = ap (λ v. nat_lt (length v) most_divisions) (sym c.divisions-divisions.ensures.divisions) ∙ is_less (length c.divisions-divisions.result.now) c.if-divisions-lt-MOST_DIVISIONS.true in
    c.fits_behind.ensures
    ∙ ap (λ v. fit_at (length v + 1) (plain f)) c.divisions-divisions.ensures.divisions
    ∙ ap (λ b. b && fit_at (length l + 1) (plain f)) (sym few)
    ∙ document_within l f (test_of_within l c.divisions-divisions.ensures.label.1)
    ∙ ap (λ (o : Option (Bor Fragment)). all_within (document_at l (plain_or_none (option_map (λ x. x.now) o)))) (sym c.in-Some.is)

pub returns-else-divisions-lt-MOST_DIVISIONS : goal.returns-else-divisions-lt-MOST_DIVISIONS
returns-else-divisions-lt-MOST_DIVISIONS c =
    let l = c.args.at.now in
    let f = c.in-Some.fragment.now in
    let few : nat_lt (length l) most_divisions ≡ false = ap (λ v. nat_lt (length v) most_divisions) (sym c.divisions-divisions.ensures.divisions) ∙ is_not_less (length c.divisions-divisions.result.now) c.if-divisions-lt-MOST_DIVISIONS.false in
    is_not_less (length c.divisions-divisions.result.now) c.if-divisions-lt-MOST_DIVISIONS.false
    ∙ ap (λ b. b && fit_at (length l + 1) (plain f)) (sym few)
    ∙ document_within l f (test_of_within l c.divisions-divisions.ensures.label.1)
    ∙ ap (λ (o : Option (Bor Fragment)). all_within (document_at l (plain_or_none (option_map (λ x. x.now) o)))) (sym c.in-Some.is)

pub returns-in-None : goal.returns-in-None
returns-in-None c =
    let l = c.args.at.now in
    empty_within l (test_of_within l c.divisions-divisions.ensures.label.1)
    ∙ ap (λ (o : Option (Bor Fragment)). all_within (document_at l (plain_or_none (option_map (λ x. x.now) o)))) (sym c.in-None.is)
