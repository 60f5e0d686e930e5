use Rattle.std.proofs.Common.{sym, ap, ◌∙◌}
use Rattle.tree_model.specs.Tree.{map_of}
use Rattle.tree_model.specs.Entries.{get}
use Rattle.call_rows.proofs.LookLaws.{answer_of, looked}
use Rattle.call_tests.proofs.Changes.{nothing_changed}
use Rattle.call_tests.proofs.toys.LookTreeCall.apply.Goals as goal

pub returns-in-Some-clause-reply : goal.returns-in-Some-clause-reply
returns-in-Some-clause-reply g c = λ t stands.
    c.in_ok-describe-in-Some.ensures ∙ ap answer_of (sym c.in-Some.is ∙ c.in_ok-found.ensures.value (map_of t) stands.map ∙ ap (λ k. get k (map_of t)) c.in_ok-key.ensures) ∙ sym (looked c.args.self.now.at t stands.valid)

pub returns-in-Some-clause-changes : goal.returns-in-Some-clause-changes
returns-in-Some-clause-changes g c = λ t stands. c.requires ∙ nothing_changed t stands.valid

pub returns-clause-reply : goal.returns-clause-reply
returns-clause-reply g c = λ t stands.
    ap answer_of (sym c.in-None.is ∙ c.in_ok-found.ensures.value (map_of t) stands.map ∙ ap (λ k. get k (map_of t)) c.in_ok-key.ensures) ∙ sym (looked c.args.self.now.at t stands.valid)

pub returns-clause-changes : goal.returns-clause-changes
returns-clause-changes g c = λ t stands. c.requires ∙ nothing_changed t stands.valid
