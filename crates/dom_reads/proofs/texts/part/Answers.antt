use Rattle.std.proofs.Common.{if◌then◌else◌, encode_utf8_all, take, drop, sym, ap, ◌∙◌}
use Rattle.std.specs.Str.{chars}
use Rattle.tree_model.specs.Outcomes.{index_size_err}
use Rattle.tree_model.specs.declared.refusal.Refusal.TheVariants.{Dom}
use Rattle.tree_model.specs.declared.reply.Reply.TheVariants.{Chars, Refused}
use Rattle.dom_reads.proofs.CharacterCuts.{part_is}
use Rattle.dom_reads.proofs.texts.part.Goals as goal

pub returns-in_ok-of-in-Some : goal.returns-in_ok-of-in-Some
returns-in_ok-of-in-Some c =
    let d = c.args.text.now in
    let answer = Chars (encode_utf8_all (take c.args.count (drop c.args.offset (chars d)))) in
    ap Chars (c.in_ok-of-in-Some.ensures ∙ c.first_characters-part.ensures ∙ part_is c.args.offset c.args.count d c.in-Some.rest.now c.utf8.text c.in-Some.ensures.2)
    ∙ ap (λ b. if b then Refused (Dom index_size_err) else answer) (sym c.in-Some.ensures.0)

pub returns-in-None : goal.returns-in-None
returns-in-None c =
    let answer = Chars (encode_utf8_all (take c.args.count (drop c.args.offset (chars c.args.text.now)))) in
    c.index_size.ensures ∙ ap (λ b. if b then Refused (Dom index_size_err) else answer) (sym c.in-None.ensures)
