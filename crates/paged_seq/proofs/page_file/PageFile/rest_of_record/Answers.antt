use Rattle.std.proofs.Common.{ℕ, ◌≡◌, ◌+◌, ◌++◌, List, Option, length, option_and_then, sym, ap, subst, ◌∙◌, arith, length-append}
use Rattle.outside_traits.specs.Moments.{History}
use Rattle.node_records.specs.Records.{record_of}
use Rattle.node_records.specs.declared.entries.Entry.{Entry}
use Rattle.node_pages.specs.Chunks.{whole_record}
use Rattle.node_pages.specs.PageFiles.{file_page}
use Rattle.paged_seq.specs.Places.{HasRead, IsBehind, IsPlace, rest_at}
use Rattle.paged_seq.proofs.PlaceLaws.{full_next, none_whole, read_none, whole_on}
use Rattle.paged_seq.proofs.page_file.PageFile.rest_of_record.Goals as goal

pub returns-then-not-branch-clause-record : goal.returns-then-not-branch-clause-record
returns-then-not-branch-clause-record g c known =
    let count = length c.args.starts.now in
    let inv = c.loop-last.invariant in
    let rest = rest_at (file_page (g.P.Disk.history c.args.self.now.disk).now.reads) count c.loop-last.place in
    let read : HasRead rest c.in_ok-step.field-0 c.step.new.place.before (rest_at (file_page (g.P.Disk.history c.args.self.now.disk).now.reads) count c.step.new.place) =
    subst (λ (h : History). HasRead (rest_at (file_page h.now.reads) count c.loop-last.place) c.in_ok-step.field-0 c.step.new.place.before (rest_at (file_page h.now.reads) count c.step.new.place)) (inv.same known)
    (c.in_ok-step.ensures.read known) in
    let none = none_whole c.loop-last.last c.loop-last.bytes rest c.loop-last-test.true (read_none rest c.in_ok-step.field-0 c.step.new.place.before (rest_at (file_page (g.P.Disk.history c.args.self.now.disk).now.reads) count c.step.new.place) c.if-not-branch.true read) in
    sym (inv.whole known ∙ ap (λ (o : Option (List ℕ)). option_and_then record_of o) none)

pub loop-last-preserved : goal.loop-last-preserved
loop-last-preserved g c =
    let count = length c.args.starts.now in
    let inv = c.loop-last.invariant in
    let next : Entry = c.in-Some-before.next in
    let old = c.loop-last.self.pool.reads in
    let new = c.step.new.self.pool.reads in
    let begun = c.args.self.now.pool.reads in
    let more = inv.more c.loop-last-test.true in
    let one = c.step.ensures.reads in
    let long : length (c.loop-last.bytes ++ next.bytes) ≡ length c.loop-last.bytes + length next.bytes = length-append c.loop-last.bytes next.bytes in
    let now : c.extend_from_slice.new.self ≡ c.loop-last.bytes ++ next.bytes =
    c.in_ok-extend_from_slice.ensures.ok ∙ ap (λ (l : List ℕ). c.loop-last.bytes ++ l) c.as_slice-in-loop-last.ensures in
    let count_now : length c.extend_from_slice.new.self ≡ length c.loop-last.bytes + length next.bytes = ap (λ (l : List ℕ). length l) now ∙ long in
    let full = full_next c.step.new.place.before next (c.in_ok-step.ensures.full c.if-not-branch.false) c.in-Some-before.is in
    record {
      within = c.in_ok-step.ensures.within;
      same = λ known. c.step.ensures.same known ∙ inv.same known;
      most = c.step.ensures.most ∙ inv.most;
      faults = c.in_ok-step.ensures.cause.exact ∙ inv.faults;
      place = λ known. subst (λ (h : History). IsPlace (file_page h.now.reads) count c.step.new.place) (inv.same known) (c.in_ok-step.ensures.place known);
      behind = λ known b.
          subst (λ (h : History). IsBehind (file_page h.now.reads) count c.loop-last.place → IsBehind (file_page h.now.reads) count c.step.new.place) (inv.same known)
          (c.in_ok-step.ensures.behind c.if-not-branch.false known) (inv.behind known b);
      whole = λ known.
          let page = file_page (g.P.Disk.history c.args.self.now.disk).now.reads in
          let read : HasRead (rest_at page count c.loop-last.place) c.in_ok-step.field-0 c.step.new.place.before (rest_at page count c.step.new.place) =
          subst (λ (h : History). HasRead (rest_at (file_page h.now.reads) count c.loop-last.place) c.in_ok-step.field-0 c.step.new.place.before (rest_at (file_page h.now.reads) count c.step.new.place))
          (inv.same known) (c.in_ok-step.ensures.read known) in
          inv.whole known ∙ ap (λ (o : Option (List ℕ)). option_and_then record_of o)
          (whole_on c.loop-last.last c.loop-last.bytes (rest_at page count c.loop-last.place) (rest_at page count c.step.new.place) c.in_ok-step.field-0 c.step.new.place.before next c.loop-last-test.true c.if-not-branch.false read c.in-Some-before.is)
          ∙ ap (λ (l : List ℕ). option_and_then record_of (whole_record next.last l (rest_at page count c.step.new.place))) (sym now);
      reads = omega (arith, more, one, count_now);
      more = λ ends. let whole = full ends in omega (arith, more, one, count_now, whole);
    }
