use Rattle.std.proofs.Common.{◌++◌, codes, ap, ap₂, ◌∙◌, append_assoc}
use Rattle.std.proofs.lemmas.Result.{on_ok_weaker}
use Rattle.std.specs.Prelude.{decimal}
use Rattle.command_lines.specs.inside.SaidText.{end}
use Rattle.command_lines.proofs.writing.write_key_first.Goals as goal

pub returns-clause-ok : goal.returns-clause-ok
returns-clause-ok c =
    let value = c.args.value.items in
    let key = codes ",\"s\":" in
    let digits = decimal c.args.session in
    let behind = end c.args.woke in
    let first = c.in_ok-extend_from_slice.ensures.items in
    let second = c.in_ok-extend_from_slice-2.ensures.items ∙ ap₂ (λ s t. s ++ t) first (c.as_bytes.ensures.value ∙ c.format.ensures.text) in
    let third = c.in_ok-extend_from_slice-3.ensures.items ∙ ap₂ (λ s t. s ++ t) second (c.as_bytes-2.ensures.value ∙ c.end.ensures) in
    let text = third ∙ append_assoc (value ++ key) digits behind ∙ append_assoc value key (digits ++ behind) in
    let pieces = ap₂ (λ s t. s ++ t) c.as_bytes-3.ensures.value (c.deref.ensures.value ∙ text) in
    on_ok_weaker c.extend_by_both.result (λ e. e ∙ ap (λ s. c.args.out.now ++ s) pieces) c.extend_by_both.ensures.ok
