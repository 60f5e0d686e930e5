use Rattle.std.proofs.Common.{◌∙◌, ap, sym, Some, List, ℕ}
use Rattle.node_records.proofs.TextLaws.{text_is, text_is_not}
use Rattle.node_records.proofs.texts.read_text.Goals as goal

pub returns-in_ok-of-in-Ok : goal.returns-in_ok-of-in-Ok
returns-in_ok-of-in-Ok c =
    let same = c.in_ok-of-in-Ok.ensures ∙ c.in-Ok.ensures.cases.0 in
    ap (λ (t : List ℕ). Some t) same ∙ sym (text_is c.args.bytes.now c.in-Ok.ensures.cases.1)

pub returns-in-Err : goal.returns-in-Err
returns-in-Err c = sym (text_is_not c.args.bytes.now c.in-Err.ensures.cases.0)
