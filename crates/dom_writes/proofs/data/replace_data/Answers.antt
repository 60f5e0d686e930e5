use Rattle.std.proofs.Common.{◌≡◌, ◌+◌, false, ◌++◌, Some, sym, ap, ◌∙◌}
use Rattle.std.proofs.lemmas.Str.{IsUtf8-from_is_utf8}
use Rattle.tree_model.specs.declared.record.Record.TheVariants.{Text}
use Rattle.tree_model.specs.Texts.{is_past, data_before, data_from, replace_data_in}
use Rattle.tree_model.specs.Tree.{at, record_of}
use Rattle.dom_writes.proofs.DataOutcomes.{text_nowhere, no_text_there, reply_to, changes_to, replace_data_past, replace_data_reply, replace_data_changes}
use Rattle.dom_writes.proofs.TextParts.{cut_again}
use Rattle.dom_writes.proofs.data.replace_data.Given as given
use Rattle.dom_writes.proofs.data.replace_data.Goals as goal

pub returns-in_default-clause-changes : goal.returns-in_default-clause-changes
returns-in_default-clause-changes g c = λ t stands.
    c.requires.empty ∙ text_nowhere c.args.at.now t stands.valid (replace_data_in c.args.at.now c.args.offset c.args.count c.args.data.now t) (sym c.in_default.is ∙ c.in_ok-found.ensures.found t stands)

pub returns-in_default-found-clause-changes : goal.returns-in_default-found-clause-changes
returns-in_default-found-clause-changes g c = λ t stands.
    c.requires.empty ∙ no_text_there c.args.at.now t stands.valid (replace_data_in c.args.at.now c.args.offset c.args.count c.args.data.now t)
    c.in-Some.found (sym c.in-Some.is ∙ c.in_ok-found.ensures.found t stands) c.in_default-found.not-Text

pub returns-in_default-cut-clause-changes : goal.returns-in_default-cut-clause-changes
returns-in_default-cut-clause-changes g c = λ t stands.
    let l = c.args.at.now in
    let old = c.in-Text.before in
    let e : Some (Text old) ≡ record_of (at l t.documents) = ap Some (sym c.in-Text.is) ∙ sym c.in-Some.is ∙ c.in_ok-found.ensures.found t stands in
    c.requires.empty ∙ replace_data_past l t old e c.args.offset c.args.count c.args.data.now stands.valid (sym (ap (is_past c.args.offset) c.as_str.ensures.bytes) ∙ c.in_default-cut.ensures)

-- the offset lies within the text
within : (g : given.Over) (c : goal.In_ok-change_data g) → is_past c.args.offset c.in-Text.before ≡ false
within g c = sym (ap (is_past c.args.offset) c.as_str.ensures.bytes) ∙ c.in-Some-cut.ensures.0

-- the text that is put
now_is : (g : given.Over) (c : goal.In_ok-change_data g)
    → c.in_ok-now.now ≡ data_before c.args.offset c.in-Text.before ++ (c.args.data.now ++ data_from (c.args.offset + c.args.count) c.in-Text.before)
now_is g c =
    let old = c.in-Text.before in
    let bytes = c.as_str.ensures.bytes in
    let start = c.in-Some-cut.ensures.1 ∙ ap (data_before c.args.offset) bytes in
    let rest = c.behind.ensures ∙ ap (data_from c.args.count) (c.in-Some-cut.ensures.2 ∙ ap (data_from c.args.offset) bytes) ∙ cut_again c.args.offset c.args.count old (IsUtf8-from_is_utf8 old c.as_str.ensures.utf8) in
    c.in_ok-now.ensures ∙ (λ i. start i ++ (c.as_str-2.ensures.bytes i ++ rest i))

pub returns-clause-reply : goal.returns-clause-reply
returns-clause-reply g c = λ t stands.
    let l = c.args.at.now in
    let old = c.in-Text.before in
    let e : Some (Text old) ≡ record_of (at l t.documents) = ap Some (sym c.in-Text.is) ∙ sym c.in-Some.is ∙ c.in_ok-found.ensures.found t stands in
    c.in_ok-change_data.ensures.reply ∙ ap reply_to (now_is g c) ∙ replace_data_reply l t old e c.args.offset c.args.count c.args.data.now (within g c)

pub returns-clause-changes : goal.returns-clause-changes
returns-clause-changes g c = λ t stands.
    let l = c.args.at.now in
    let old = c.in-Text.before in
    let e : Some (Text old) ≡ record_of (at l t.documents) = ap Some (sym c.in-Text.is) ∙ sym c.in-Some.is ∙ c.in_ok-found.ensures.found t stands in
    c.in_ok-change_data.ensures.changes ∙ ap (changes_to l old) (now_is g c) ∙ replace_data_changes l t old e c.args.offset c.args.count c.args.data.now stands.valid (within g c)
