use Rattle.std.proofs.Common.{◌++◌, ◌==◌, length, refl, sym, ap, ◌∙◌, append-nil}
use Rattle.tree_model.specs.declared.key.Key.{Key}
use Rattle.tree_model.specs.declared.record.Record.{Record}
use Rattle.dom_writes.proofs.NormalChanges.{not_text, other_alone, other_valid, text_alone}
use Rattle.dom_writes.proofs.normal_texts.keep.Goals as goal

pub returns-in_default : goal.returns-in_default
returns-in_default c =
    let e : Key × Record = (c.args.key.now, c.args.record.now) in
    let t = not_text c.args.record.now c.in_default.not-Text in
    record {
      valid = (λ _. other_valid e t, λ _. refl);
      changes = λ _. sym (append-nil c.args.changes.now) ∙ ap (λ v. c.args.changes.now ++ v) (sym (other_alone e t));
    }

pub returns-clause-changes : goal.returns-clause-changes
returns-clause-changes c = λ _.
    sym (append-nil c.args.changes.now)
    ∙ ap (λ v. c.args.changes.now ++ v) (sym (text_alone c.args.key.now c.args.record.now c.in-Text.data c.in-Text.is
    (ap (λ v. length v == 0) (sym c.as_str.ensures.bytes) ∙ sym c.is_empty.ensures ∙ c.if-is_empty.false)))
