use Rattle.std.proofs.Common.{◌∙◌, ap}
use Rattle.outside_traits.specs.Moments.{History}
use Rattle.tree_model.specs.Entries.{first_above}
use Rattle.paged_seq.specs.PagedMaps.{file_entries}
use Rattle.recovery.proofs.WalkLaws.{walk_begins, walk_ends, walk_on}
use Rattle.recovery.proofs.walking.broken_at.Goals as goal

pub loop-init : goal.loop-init
loop-init g c = record {
  same = c.first_entry.ensures.same;
  faults = c.in_ok-found.ensures.cause.exact;
  most = c.first_entry.ensures.most;
  walking = walk_begins g.P.Disk.is_known (g.P.Disk.history c.args.seq.now.disk).now.reads c.args.changes.now c.in_ok-found.found c.new-tester.result c.requires.rising c.new-tester.ensures c.in_ok-found.ensures.first;
}

pub loop-preserved : goal.loop-preserved
loop-preserved g c =
    let inv = c.loop.invariant in
    let file = (g.P.Disk.history c.args.seq.now.disk).now.reads in
    record {
      same = λ known. c.entry_above.ensures.same known ∙ inv.same known;
      faults = c.in_ok-found-in-Some.ensures.cause.exact ∙ inv.faults;
      most = c.entry_above.ensures.most ∙ inv.most;
      walking = walk_on g.P.Disk.is_known file c.args.changes.now c.loop.left.now c.in_ok-left-in-Some.left.now c.in-Some.entry c.loop.found c.in_ok-found-in-Some.found c.loop.tester c.take_record.new.tester c.in-Some.is inv.walking
          c.in_ok-left-in-Some.ensures.taken c.in_ok-left-in-Some.ensures.rising c.in_ok-found-in-Some.ensures.above c.requires.sorted
          (λ known. c.in_ok-found-in-Some.ensures.value known ∙ ap (λ (h : History). first_above c.in-Some.entry.0 (file_entries h.now.reads)) (inv.same known));
    }

pub returns-in-None-clause-tested : goal.returns-in-None-clause-tested
returns-in-None-clause-tested g c =
    walk_ends g.P.Disk.is_known (g.P.Disk.history c.args.seq.now.disk).now.reads c.args.changes.now c.loop.left.now c.in_ok-_none-in-None._none.now c.loop.found c.loop.tester c.put_before.new.tester c.broken_at.result c.in-None.is c.loop.invariant.walking
    c.in_ok-_none-in-None.ensures.put c.in_ok-_none-in-None.ensures.none c.broken_at.ensures.place c.broken_at.ensures.tree
