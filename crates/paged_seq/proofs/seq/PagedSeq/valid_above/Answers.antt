use Rattle.std.proofs.Common.{◌≡◌, ◌+◌, length, sym, ap, ◌∙◌, arith}
use Rattle.outside_traits.specs.Moments.{History}
use Rattle.tree_model.specs.Entries.{first_above}
use Rattle.paged_seq.specs.PagedMaps.{file_entries, next_cost, valid_entries}
use Rattle.paged_seq.proofs.CostLaws.{on_above, up_cost, up_cost_first, within_cost}
use Rattle.paged_seq.proofs.ValidLaws.{above_valid, next_valid, up_end, up_first, up_found, up_left, up_passed, up_side}
use Rattle.paged_seq.proofs.seq.PagedSeq.valid_above.Goals as goal

pub loop-init : goal.loop-init
loop-init g c = record {
  same = c.entry_above.ensures.same;
  faults = c.in_ok-found.ensures.cause.exact;
  index = c.entry_above.ensures.index;
  most = c.entry_above.ensures.most;
  side = c.in_ok-found.ensures.above;
  value = λ known.
      let es = file_entries (g.P.Disk.history c.args.self.now.disk).now.reads in
      above_valid c.args.key.now es (c.most_entries-most.ensures.sorted known) ∙ ap (next_valid es) (sym (c.in_ok-found.ensures.value known));
  left = λ known.
      let es = file_entries (g.P.Disk.history c.args.self.now.disk).now.reads in
      let first = up_first es c.args.key.now c.in_ok-found.found (c.most_entries-most.ensures.sorted known) (c.in_ok-found.ensures.value known) in
      omega (arith, first);
  pages = λ known.
      up_cost_first c.args.key.now (file_entries (g.P.Disk.history c.args.self.now.disk).now.reads) c.entry_above.new.self.pool.reads c.args.self.now.pool.reads c.in_ok-found.found
      (c.most_entries-most.ensures.sorted known) (c.in_ok-found.ensures.value known) (c.in_ok-found.ensures.reads known);
}

pub loop-preserved : goal.loop-preserved
loop-preserved g c =
    let inv = c.loop.invariant in
    let passed = c.in-Err.ensures.passed in
    record {
      same = λ known. c.entry_above-in-Err.ensures.same known ∙ inv.same known;
      faults = c.in_ok-found-in-Err.ensures.cause.exact ∙ inv.faults;
      index = c.entry_above-in-Err.ensures.index ∙ inv.index;
      most = c.entry_above-in-Err.ensures.most ∙ inv.most;
      side = up_side c.args.key.now c.in-Err.at passed.0 c.loop.found c.in_ok-found-in-Err.found inv.side passed.1 c.in_ok-found-in-Err.ensures.above;
      value = λ known.
          let es = file_entries (g.P.Disk.history c.args.self.now.disk).now.reads in
          let next : c.in_ok-found-in-Err.found ≡ first_above c.in-Err.at es = c.in_ok-found-in-Err.ensures.value known ∙ ap (λ (h : History). first_above c.in-Err.at (file_entries h.now.reads)) (inv.same known) in
          up_passed es (first_above c.args.key.now (valid_entries es)) c.loop.found c.in_ok-found-in-Err.found c.in-Err.at passed.0 (c.most_entries-most.ensures.sorted known) (inv.value known) passed.1 passed.2 next;
      left = λ known.
          let es = file_entries (g.P.Disk.history c.args.self.now.disk).now.reads in
          let next : c.in_ok-found-in-Err.found ≡ first_above c.in-Err.at es = c.in_ok-found-in-Err.ensures.value known ∙ ap (λ (h : History). first_above c.in-Err.at (file_entries h.now.reads)) (inv.same known) in
          up_left es c.loop.counter (length es) c.loop.found c.in_ok-found-in-Err.found c.in-Err.at passed.0 (c.most_entries-most.ensures.sorted known) (inv.left known) passed.1 next;
      pages = λ known.
          let es = file_entries (g.P.Disk.history c.args.self.now.disk).now.reads in
          let next : c.in_ok-found-in-Err.found ≡ first_above c.in-Err.at es = c.in_ok-found-in-Err.ensures.value known ∙ ap (λ (h : History). first_above c.in-Err.at (file_entries h.now.reads)) (inv.same known) in
          up_cost es c.loop.self.pool.reads c.entry_above-in-Err.new.self.pool.reads (c.args.self.now.pool.reads + next_cost c.args.key.now es) c.loop.found c.in_ok-found-in-Err.found c.in-Err.at passed.0
          (c.most_entries-most.ensures.sorted known) passed.1 passed.2 next (inv.pages known) (c.in_ok-found-in-Err.ensures.reads known);
    }

pub returns-in-Ok-clause-value : goal.returns-in-Ok-clause-value
returns-in-Ok-clause-value g c known =
    let es = file_entries (g.P.Disk.history c.args.self.now.disk).now.reads in
    up_found es (first_above c.args.key.now (valid_entries es)) c.loop.found c.in-Ok.entry (c.loop.invariant.value known) c.in-Ok.ensures.ok.0 c.in-Ok.ensures.ok.2

pub returns-clause-value : goal.returns-clause-value
returns-clause-value g c known =
    let es = file_entries (g.P.Disk.history c.args.self.now.disk).now.reads in
    let most = c.most_entries-most.ensures.most known in
    let end = c.loop-test.false in
    up_end es c.loop.counter (first_above c.args.key.now (valid_entries es)) c.loop.found (c.loop.invariant.value known) (c.loop.invariant.left known) (omega (arith, most, end))

pub returns-in-Ok-clause-pages : goal.returns-in-Ok-clause-pages
returns-in-Ok-clause-pages g c known =
    let es = file_entries (g.P.Disk.history c.args.self.now.disk).now.reads in
    within_cost c.loop.self.pool.reads (on_above es c.loop.found) (c.args.self.now.pool.reads + next_cost c.args.key.now es) (c.loop.invariant.pages known)

pub returns-clause-pages : goal.returns-clause-pages
returns-clause-pages g c known =
    let es = file_entries (g.P.Disk.history c.args.self.now.disk).now.reads in
    within_cost c.loop.self.pool.reads (on_above es c.loop.found) (c.args.self.now.pool.reads + next_cost c.args.key.now es) (c.loop.invariant.pages known)
