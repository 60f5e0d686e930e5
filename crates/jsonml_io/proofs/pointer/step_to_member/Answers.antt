use Rattle.std.proofs.Common.{◌++◌, string_bytes, sym, ap, ◌∙◌}
use Rattle.std.specs.Str.Iter.{chars_rest}
use Rattle.jsonml_io.specs.Pointers.{escaped}
use Rattle.jsonml_io.proofs.Escapes.{escape_more}
use Rattle.jsonml_io.proofs.pointer.step_to_member.Goals as goal

pub loop-c-preserved : goal.loop-c-preserved
loop-c-preserved c =
    let left = chars_rest c.next.new.self in
    let met = ap (λ s. string_bytes c.loop-c.step ++ escaped s) (sym c.in-Some.ensures.steps.0) ∙ c.loop-c.invariant in
    ap (λ s. s ++ escaped left) c.in_ok-push.ensures.bytes ∙ escape_more (string_bytes c.loop-c.step) c.in-Some.c left _ c.if-c-eq126.false c.if-c-eq47.false met
