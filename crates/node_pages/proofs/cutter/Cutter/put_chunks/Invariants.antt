use Rattle.std.proofs.Common.{◌≡◌, ◌+◌, ◌*◌, ◌-◌, length}
use Rattle.node_records.specs.Records.{record_bytes}
use Rattle.node_pages.specs.Chunks.{chunks_from, chunks_of}
use Rattle.node_pages.specs.Cutting.{IsSizedCut, with_entries}
use Rattle.node_pages.proofs.cutter.Cutter.put_chunks.Given as goal

abbrev pub invariant-loop-rest : goal.invariant-loop-rest
invariant-loop-rest l = record {
  sized : IsSizedCut l.self;
  count : 1_024 * l.chunk + length l.rest ≡ length (record_bytes l.value);
  cut : with_entries l.self (chunks_from (length (record_bytes l.value) - l.chunk) l.key l.chunk l.rest) ≡ with_entries l.fn.self (chunks_of (l.key, l.value));
}

abbrev pub decreases-loop-rest : goal.decreases-loop-rest
decreases-loop-rest l = length l.rest
