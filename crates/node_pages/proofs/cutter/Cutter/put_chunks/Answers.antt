use Rattle.std.proofs.Common.{◌≡◌, ℕ, ◌+◌, ◌-◌, true, false, List, length, take, refl, ap, ◌∙◌, arith}
use Rattle.std.proofs.lemmas.Result.{on_ok_weaker}
use Rattle.node_records.specs.Entries.{entry_at}
use Rattle.node_records.specs.Records.{record_bytes}
use Rattle.node_records.specs.declared.entries.Entry.{Entry}
use Rattle.node_pages.specs.Chunks.{chunks_from, chunks_of}
use Rattle.node_pages.specs.Cutting.{with_entries, with_entry}
use Rattle.node_pages.proofs.ChunkLaws.{record_short, short_at}
use Rattle.node_pages.proofs.CutSteps.{step_chunk, end_chunk}
use Rattle.node_pages.proofs.cutter.Cutter.put_chunks.Goals as goal

pub put-requires-clause-short : goal.put-requires-clause-short
put-requires-clause-short c =
    let few = c.split_at.ensures.front_len in
    short_at c.in_ok-entry.entry c.args.key c.in_ok-copy.field-0 c.loop-rest.chunk false c.split_at.result.0.now c.in_ok-entry.ensures c.in_ok-copy.ensures c.requires.key (omega (arith, few))

pub put-requires-2-clause-short : goal.put-requires-2-clause-short
put-requires-2-clause-short c =
    let few = c.loop-rest-test.false in
    short_at c.in_ok-entry_of.field-0 c.args.key c.args.key c.loop-rest.chunk true c.loop-rest.rest.now c.in_ok-entry_of.ensures refl c.requires.key (omega (arith, few))

pub overflow_add-chunk : goal.overflow_add-chunk
overflow_add-chunk c =
    let short = record_short c.args.value.now c.requires.fits in
    let sum = c.loop-rest.invariant.count in
    let many = c.loop-rest-test.true in
    omega (arith, short, sum, many)

pub loop-rest-preserved : goal.loop-rest-preserved
loop-rest-preserved c =
    let inv = c.loop-rest.invariant in
    let rest = c.loop-rest.rest.now in
    let all = length (record_bytes c.args.value.now) in
    let many = c.loop-rest-test.true in
    let sum = inv.count in
    let left = c.split_at.ensures.back_len in
    let entry : c.in_ok-entry.entry ≡ entry_at c.args.key c.loop-rest.chunk false (take 1_024 rest) =
    c.in_ok-entry.ensures ∙ (λ i. entry_at (c.in_ok-copy.ensures i) c.loop-rest.chunk false (c.split_at.ensures.front i)) in
    record {
      sized = c.in_ok-put.ensures.sized;
      count = omega (arith, many, sum, left);
      cut = ap (λ (b : List ℕ). with_entries c.put.new.self (chunks_from (all - (c.loop-rest.chunk + 1)) c.args.key (c.loop-rest.chunk + 1) b)) c.split_at.ensures.back
          ∙ step_chunk c.loop-rest.self c.put.new.self (with_entries c.args.self.now (chunks_of (c.args.key, c.args.value.now))) all c.args.key c.loop-rest.chunk rest many sum
          (c.in_ok-put.ensures.ok ∙ ap (λ (e : Entry). with_entry c.loop-rest.self e) entry) inv.cut;
    }

pub returns-clause-ok : goal.returns-clause-ok
returns-clause-ok c = on_ok_weaker c.put-2.result (λ is.
    end_chunk c.loop-rest.self c.put-2.new.self (with_entries c.args.self.now (chunks_of (c.args.key, c.args.value.now))) (length (record_bytes c.args.value.now) - c.loop-rest.chunk) c.args.key c.loop-rest.chunk c.loop-rest.rest.now
    c.loop-rest-test.false (is ∙ ap (λ (e : Entry). with_entry c.loop-rest.self e) c.in_ok-entry_of.ensures) c.loop-rest.invariant.cut) c.put-2.ensures.ok
