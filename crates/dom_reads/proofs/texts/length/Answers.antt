use Rattle.std.proofs.Common.{◌≡◌, ◌-◌, ◌^◌, Some, length, sym, ap, ◌∙◌}
use Rattle.std.specs.Str.{chars}
use Rattle.tree_model.specs.Tree.{at, record_of}
use Rattle.tree_model.specs.declared.record.Record.TheVariants.{Text}
use Rattle.tree_model.specs.declared.reply.Reply.TheVariants as reply
use Rattle.dom_reads.specs.inside.Counts.{at_most}
use Rattle.dom_reads.proofs.ReplyLaws.{few_characters, text_reply}
use Rattle.dom_reads.proofs.texts.length.Goals as goal

pub returns-in-Some-Text-clause-reply : goal.returns-in-Some-Text-clause-reply
returns-in-Some-Text-clause-reply g c = λ t stands.
    let l = c.args.at.now in
    let d = c.in-Some-Text.data in
    let e : Some (Text d) ≡ record_of (at l t.documents) = ap Some (sym c.in-Some-Text.field-0-is) ∙ sym c.in-Some-Text.is ∙ c.in_ok-data.ensures.found t stands in
    ap reply.Number (c.characters.ensures ∙ ap (λ bs. at_most (2 ^ 32 - 1) (length (chars bs))) c.as_str.ensures.bytes ∙ few_characters l t d stands.valid e)
    ∙ text_reply (λ bs. reply.Number (length (chars bs))) (at l t.documents) d e
