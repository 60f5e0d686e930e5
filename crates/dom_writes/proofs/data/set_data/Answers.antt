use Rattle.std.proofs.Common.{◌≡◌, Some, sym, ap, ◌∙◌}
use Rattle.tree_model.specs.declared.record.Record.TheVariants.{Text}
use Rattle.tree_model.specs.Texts.{set_data_in}
use Rattle.tree_model.specs.Tree.{at, record_of}
use Rattle.dom_writes.proofs.DataOutcomes.{text_nowhere, no_text_there, reply_to, changes_to, set_data_reply, set_data_changes}
use Rattle.dom_writes.proofs.data.set_data.Goals as goal

pub returns-in_default-clause-changes : goal.returns-in_default-clause-changes
returns-in_default-clause-changes g c = λ t stands.
    c.requires.empty ∙ text_nowhere c.args.at.now t stands.valid (set_data_in c.args.at.now c.args.data.now t) (sym c.in_default.is ∙ c.in_ok-found.ensures.found t stands)

pub returns-in_default-found-clause-changes : goal.returns-in_default-found-clause-changes
returns-in_default-found-clause-changes g c = λ t stands.
    c.requires.empty ∙ no_text_there c.args.at.now t stands.valid (set_data_in c.args.at.now c.args.data.now t) c.in-Some.found (sym c.in-Some.is ∙ c.in_ok-found.ensures.found t stands) c.in_default-found.not-Text

pub returns-clause-reply : goal.returns-clause-reply
returns-clause-reply g c = λ t stands.
    let l = c.args.at.now in
    let old = c.in-Text.before in
    let e : Some (Text old) ≡ record_of (at l t.documents) = ap Some (sym c.in-Text.is) ∙ sym c.in-Some.is ∙ c.in_ok-found.ensures.found t stands in
    c.in_ok-change_data.ensures.reply ∙ ap reply_to c.in_ok-now.ensures ∙ set_data_reply l t old e c.args.data.now

pub returns-clause-changes : goal.returns-clause-changes
returns-clause-changes g c = λ t stands.
    let l = c.args.at.now in
    let old = c.in-Text.before in
    let e : Some (Text old) ≡ record_of (at l t.documents) = ap Some (sym c.in-Text.is) ∙ sym c.in-Some.is ∙ c.in_ok-found.ensures.found t stands in
    c.in_ok-change_data.ensures.changes ∙ ap (changes_to l old) c.in_ok-now.ensures ∙ set_data_changes l t old e c.args.data.now stands.valid
