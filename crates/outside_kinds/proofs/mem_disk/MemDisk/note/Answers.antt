use Rattle.std.proofs.Common.{List, ap, sym, ◌∙◌}
use Rattle.outside_kinds.specs.MemoryDisks.{after_calls, start}
use Rattle.outside_kinds.specs.declared.noted_call.NotedCall.{NotedCall}
use Rattle.outside_kinds.proofs.Replay.{reads_kept}
use Rattle.outside_kinds.proofs.mem_disk.MemDisk.note.Goals as goal

pub invariant_of-self-2 : goal.invariant_of-self-2
invariant_of-self-2 c =
    c.self.invariant
    ∙ sym (reads_kept c.args.call c.calls-number.result c.self.inside.noted.items (start c.self.inside.first.items) c.requires)
    ∙ ap (λ (l : List NotedCall). (after_calls l (start c.self.inside.first.items)).now.reads) (sym c.in_ok-push.ensures.items)
