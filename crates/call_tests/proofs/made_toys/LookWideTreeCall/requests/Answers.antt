use Rattle.std.proofs.Common.{List, ◌++◌, sym, ap, ◌∙◌}
use Rattle.lock_resources.specs.declared.request.Request.{Request}
use Rattle.call_rows.proofs.WiderLaws.{wide_request}
use Rattle.call_tests.proofs.made_toys.LookWideTreeCall.requests.Goals as goal

pub returns-clause-value : goal.returns-clause-value
returns-clause-value g c = λ t stands. c.in_ok-ask_node.ensures.ok ∙ ap (λ (gs : List Request). c.args.out.now ++ gs) (sym (wide_request c.args.self.now.look.at))
