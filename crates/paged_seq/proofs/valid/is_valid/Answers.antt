use Rattle.std.proofs.Common.{◌≡◌, ◌&&◌, true, sym, ap, ◌∙◌}
use Rattle.tree_model.specs.Records.{record_fits}
use Rattle.paged_seq.proofs.ValidLaws.{key_test, same_test, test_valid, valid_test}
use Rattle.paged_seq.proofs.valid.is_valid.Goals as goal

pub returns-then-is_valid-clause-test : goal.returns-then-is_valid-clause-test
returns-then-is_valid-clause-test c =
    let k = c.args.key.now in
    let is : key_test k ≡ true = valid_test k (c.is_valid.ensures.0 c.if-is_valid.true) in
    c.fits.ensures.fits ∙ ap (λ b. b && record_fits c.args.found.now) (sym is)

pub returns-else-is_valid-clause-test : goal.returns-else-is_valid-clause-test
returns-else-is_valid-clause-test c =
    let k = c.args.key.now in
    let same : c.is_valid.result ≡ key_test k = same_test c.is_valid.result (key_test k) (λ t. valid_test k (c.is_valid.ensures.0 t)) (λ t. c.is_valid.ensures.1 (test_valid k t)) in
    c.if-is_valid.false ∙ sym (ap (λ b. b && record_fits c.args.found.now) (sym same ∙ c.if-is_valid.false))
