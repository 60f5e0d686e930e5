use Rattle.std.proofs.Common.{Bool, ◌&&◌, nat_le, length, sym, ap, ◌∙◌}
use Rattle.tree_model.specs.Limits.{most_text_bytes}
use Rattle.tree_model.proofs.Grafts.{and_true}
use Rattle.tree_model.proofs.record.is_data.Goals as goal

pub returns : goal.returns
returns c =
    let text = c.as_str.result.now in
    let d = c.args.text.now in
    let few : Bool = nat_le (length d) most_text_bytes in
    ap (λ t. nat_le (length t) most_text_bytes) c.as_str.ensures.bytes ∙ sym (ap (λ b. few && b) c.as_str.ensures.utf8 ∙ and_true few)
