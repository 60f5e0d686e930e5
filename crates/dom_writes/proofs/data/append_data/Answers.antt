use Rattle.std.proofs.Common.{◌≡◌, [], ◌++◌, Some, sym, ap, ◌∙◌, append-nil}
use Rattle.tree_model.specs.declared.record.Record.TheVariants.{Text}
use Rattle.tree_model.specs.Texts.{append_data_in}
use Rattle.tree_model.specs.Tree.{at, record_of}
use Rattle.dom_writes.proofs.DataOutcomes.{text_nowhere, no_text_there, reply_to, changes_to, append_data_reply, append_data_changes}
use Rattle.dom_writes.proofs.data.append_data.Given as given
use Rattle.dom_writes.proofs.data.append_data.Goals as goal

pub returns-in_default-clause-changes : goal.returns-in_default-clause-changes
returns-in_default-clause-changes g c = λ t stands.
    c.requires.empty ∙ text_nowhere c.args.at.now t stands.valid (append_data_in c.args.at.now c.args.data.now t) (sym c.in_default.is ∙ c.in_ok-found.ensures.found t stands)

pub returns-in_default-found-clause-changes : goal.returns-in_default-found-clause-changes
returns-in_default-found-clause-changes g c = λ t stands.
    c.requires.empty ∙ no_text_there c.args.at.now t stands.valid (append_data_in c.args.at.now c.args.data.now t) c.in-Some.found (sym c.in-Some.is ∙ c.in_ok-found.ensures.found t stands) c.in_default-found.not-Text

-- the text that is put
now_is : (g : given.Over) (c : goal.In_ok-change_data g) → c.in_ok-now.now ≡ c.in-Text.before ++ c.args.data.now
now_is g c = c.in_ok-now.ensures ∙ (λ i. c.as_str.ensures.bytes i ++ (c.as_str-2.ensures.bytes i ++ [])) ∙ ap (λ d. c.in-Text.before ++ d) (append-nil c.args.data.now)

pub returns-clause-reply : goal.returns-clause-reply
returns-clause-reply g c = λ t stands.
    let l = c.args.at.now in
    let old = c.in-Text.before in
    let e : Some (Text old) ≡ record_of (at l t.documents) = ap Some (sym c.in-Text.is) ∙ sym c.in-Some.is ∙ c.in_ok-found.ensures.found t stands in
    c.in_ok-change_data.ensures.reply ∙ ap reply_to (now_is g c) ∙ append_data_reply l t old e c.args.data.now

pub returns-clause-changes : goal.returns-clause-changes
returns-clause-changes g c = λ t stands.
    let l = c.args.at.now in
    let old = c.in-Text.before in
    let e : Some (Text old) ≡ record_of (at l t.documents) = ap Some (sym c.in-Text.is) ∙ sym c.in-Some.is ∙ c.in_ok-found.ensures.found t stands in
    c.in_ok-change_data.ensures.changes ∙ ap (changes_to l old) (now_is g c) ∙ append_data_changes l t old e c.args.data.now stands.valid
