use Rattle.std.proofs.Common.{◌≡◌, ◌∙◌, Bool, true, false, refl, sym}
use Rattle.std.proofs.lemmas.Result.{IfOk-weaker}
use Rattle.node_records.specs.Entries.{flag_of, is_chunk}
use Rattle.node_records.proofs.entries.write_entry.Goals as goal

flag : (last : Bool) → mir.Val.bool_byte last ≡ flag_of last
flag true = refl
flag false = refl

pub returns-else-is_err-clause-writable : goal.returns-else-is_err-clause-writable
returns-else-is_err-clause-writable c =
    IfOk-weaker c.put_entry-put.result _ _ (λ _ typed. record {
      key = record { label = typed.label; utf8 = typed.utf8; no_zero = c.if-not-has_one_end.ensures refl };
      chunk = typed.chunk;
      bytes = (λ i. is_chunk (sym (flag c.args.entry.now.last) i) (sym c.len-length.ensures i)) ∙ sym c.if-not-is_chunk.ensures;
    }) c.put_entry-put.ensures.typed
