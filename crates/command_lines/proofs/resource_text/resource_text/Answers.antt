use Rattle.std.proofs.Common.{rules}
use Rattle.lock_resources.proofs.Texts.{text_and_one}
use Rattle.command_lines.proofs.resource_text.resource_text.Goals as goal

pub returns-in-AttrRoot : goal.returns-in-AttrRoot
returns-in-AttrRoot c =
    let e = text_and_one c.in-AttrRoot.label c.joined-in-AttrRoot.ensures.label.0 in
    let g = c.joined-in-AttrRoot.ensures.text in
    search (rules, e)
