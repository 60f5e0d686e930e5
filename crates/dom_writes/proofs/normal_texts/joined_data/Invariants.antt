use Rattle.std.proofs.Common.{◌≡◌, ◌++◌, take, string_bytes}
use Rattle.dom_reads.specs.inside.Gathered.{texts_in}
use Rattle.dom_writes.proofs.normal_texts.joined_data.Given as goal

abbrev pub invariant-loop-record : goal.invariant-loop-record
invariant-loop-record l = string_bytes l.joined ≡ l.first ++ texts_in (take l.record-index l.others)
