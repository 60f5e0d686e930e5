use Rattle.std.proofs.Common.{◌≡◌, List, [], sym, ap, ◌∙◌, arith}
use Rattle.std.proofs.lemmas.List.{nil_from_length}
use Rattle.outside_kinds.specs.MemoryDisks.{start}
use Rattle.outside_kinds.specs.declared.noted_call.NotedCall.{NotedCall}
use Rattle.outside_kinds.proofs.StopLaws.{written, reads_after}
use Rattle.outside_kinds.proofs.stop_images.bytes_after.Goals as goal

pub returns : goal.returns
returns c =
    let none : c.loop-rest.rest.now ≡ [] = nil_from_length c.loop-rest.rest.now (omega (arith, c.in_default.len_below)) in
    ap (λ (l : List NotedCall). written l c.loop-rest.file.items) (sym none) ∙ c.loop-rest.invariant.to_do ∙ sym (reads_after c.args.calls.now (start c.args.first.now))
