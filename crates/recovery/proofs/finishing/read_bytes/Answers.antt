use Rattle.std.proofs.Common.{◌≡◌, true, Ok, refl, sym, ap, subst, ◌∙◌}
use Rattle.outside_kinds.specs.MemoryDisks.{DiskInMemory, history_of}
use Rattle.outside_traits.specs.Faults.{FaultCounted}
use Rattle.outside_traits.specs.Moments.{History}
use Rattle.journal.specs.Refusals.{HasReason}
use Rattle.node_pages.specs.PageFiles.{contents_of_file}
use Rattle.paged_seq.specs.PagedFiles.{BreaksPages}
use Rattle.paged_seq.specs.PagedMaps.{file_entries}
use Rattle.recovery.proofs.TestLaws.{in_memory}
use Rattle.recovery.proofs.finishing.read_bytes.Goals as goal

pub returns-in-Ok-clause-bytes : goal.returns-in-Ok-clause-bytes
returns-in-Ok-clause-bytes c = ap (λ (h : History). h.now.reads) (c.in-Ok.ensures.same refl) ∙ ap (λ (d : DiskInMemory). (history_of d).now.reads) c.new-disk.ensures

pub returns-in-Ok-clause-held : goal.returns-in-Ok-clause-held
returns-in-Ok-clause-held c =
    subst (λ (d : DiskInMemory). contents_of_file (history_of d).now.reads ≡ Ok (file_entries (history_of d).now.reads, c.in-Ok.seq.index.base)) c.new-disk.ensures (c.in-Ok.ensures.held refl)

pub returns-in-Err-clause-damage : goal.returns-in-Err-clause-damage
returns-in-Err-clause-damage c =
    subst (HasReason (BreaksPages true c.args.bytes) ⊥) (sym c.memory_alone.ensures)
    (in_memory (BreaksPages true c.args.bytes) (FaultCounted c.new-disk.result.count.faults c.in-Err.refused.disk.count.faults) c.in-Err.refused.fault
    (subst (λ (d : DiskInMemory). HasReason (BreaksPages true (history_of d).now.reads) (FaultCounted c.new-disk.result.count.faults c.in-Err.refused.disk.count.faults) c.in-Err.refused.fault)
    c.new-disk.ensures c.in-Err.ensures.reason))
