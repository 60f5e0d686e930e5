use Rattle.std.proofs.Common.{sym, ap, ◌∙◌}
use Rattle.tree_model.specs.Tree.{map_of}
use Rattle.tree_model.specs.Entries.{get}
use Rattle.call_rows.specs.Toys.{cleared_reply, cleared_changes}
use Rattle.call_rows.proofs.ClearLaws.{reply_is}
use Rattle.call_tests.proofs.Changes.{changes_are}
use Rattle.call_tests.proofs.toys.ClearTreeCall.apply.Goals as goal

pub returns-clause-reply : goal.returns-clause-reply
returns-clause-reply g c = λ t stands.
    c.in_ok-clear_record.ensures.reply
    ∙ ap cleared_reply (sym (ap (λ k. get k (map_of t)) (sym c.in_ok-key.ensures) ∙ c.in_ok-found.ensures.value t stands))
    ∙ sym (reply_is c.args.self.now.at t stands.valid)

pub returns-clause-changes : goal.returns-clause-changes
returns-clause-changes g c = λ t stands.
    c.in_ok-clear_record.ensures.changes ∙ ap (λ k. cleared_changes k c.in_ok-found.found) c.in_ok-key.ensures
    ∙ changes_are c.args.self.now.at t stands.valid c.in_ok-found.found (ap (λ k. get k (map_of t)) (sym c.in_ok-key.ensures) ∙ c.in_ok-found.ensures.value t stands)
