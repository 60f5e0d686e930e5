use Rattle.std.proofs.Common.{◌∙◌, sym}
use Rattle.store_calls.proofs.Reading.{dom_changes_nothing, find_changes_nothing, of_every_answer}
use Rattle.store_calls.proofs.store_op.StoreOpTreeCall.apply.Goals as goal

pub returns-in-Dom-clause-changes : goal.returns-in-Dom-clause-changes
returns-in-Dom-clause-changes g c =
    of_every_answer c.dom_read.result _ (λ x t stands. c.requires ∙ sym (dom_changes_nothing c.args.self.now c.in-Dom.call t (sym c.in-Dom.is ∙ c.call.ensures.call) stands.valid (sym c.is_reading.ensures ∙ c.if-is_reading.true)))

pub returns-in-Find-clause-changes : goal.returns-in-Find-clause-changes
returns-in-Find-clause-changes g c =
    of_every_answer c.evaluate.result _ (λ x t stands. c.requires ∙ sym (find_changes_nothing c.args.self.now c.in-Find.at c.in-Find.path t (sym c.in-Find.is ∙ c.call.ensures.call) stands.valid))
