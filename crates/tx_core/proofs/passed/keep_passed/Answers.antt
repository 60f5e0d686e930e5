use Rattle.std.proofs.Common.{◌==◌, is_ok}
use Rattle.tx_core.specs.inside.Passed.{stretches_of}
use Rattle.tx_core.proofs.PassedOn.{kept_if, less_than_more}
use Rattle.tx_core.proofs.passed.keep_passed.Goals as goal

pub returns-then-is_empty : goal.returns-then-is_empty
returns-then-is_empty c = λ o. less_than_more (c.args.session == o) c.args.gaps (stretches_of c.args.passed.now.items o)

pub returns : goal.returns
returns c = kept_if (is_ok c.push-kept.result) c.push-kept.new.self.items c.args.passed.now.items (record { session = c.args.session; gaps = c.args.gaps }) c.push-kept.ensures.items
