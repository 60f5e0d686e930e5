use Rattle.std.proofs.Common.{◌≡◌, ◌<◌, ◌+◌, ℕ, length, sym, ap, subst, ◌∙◌, arith}
use Rattle.outside_traits.specs.Moments.{History}
use Rattle.page_store.specs.Pages.{page_of}
use Rattle.node_pages.specs.EntryForm.{entry_read}
use Rattle.node_pages.specs.PageFiles.{file_page}
use Rattle.node_pages.specs.PagesIn.{items_or_none}
use Rattle.node_pages.specs.Reading.{page_in}
use Rattle.paged_seq.specs.PagedMaps.{records_of}
use Rattle.paged_seq.proofs.PlaceLaws.{data_whole}
use Rattle.paged_seq.proofs.RecordLaws.{page_taken}
use Rattle.paged_seq.proofs.records.read_records.Goals as goal

pub page_entries-requires : goal.page_entries-requires
page_entries-requires g c =
    let n = c.loop-page.page in
    let less = c.loop-page-test.true in
    record {
      within = λ known.
          subst (λ (h : History). length (page_of (n + 1) h.now.reads) ≡ 8_192) (sym (c.loop-page.invariant.same known))
          (data_whole (file_page (g.P.Disk.history c.args.file.now.disk).now.reads) c.args.starts.now (n + 1) (c.requires.index known) (omega arith) (omega (arith, less)));
    }

pub loop-page-preserved : goal.loop-page-preserved
loop-page-preserved g c =
    let n = c.loop-page.page in
    let count = length c.args.starts.now in
    let less = c.loop-page-test.true in
    let inv = c.loop-page.invariant in
    let so_far = inv.reads in
    let one = c.page_entries.ensures.reads in
    record {
      same = λ known. c.page_entries.ensures.same known ∙ inv.same known;
      faults = c.in_ok-entries.ensures.cause.exact ∙ inv.faults;
      most = c.page_entries.ensures.most ∙ inv.most;
      reads = omega (arith, so_far, one);
      read = λ known.
          let page = file_page (g.P.Disk.history c.args.file.now.disk).now.reads in
          let is : c.in_ok-entries.entries ≡ items_or_none (page_in entry_read (page (n + 1))) =
          c.in_ok-entries.ensures.entries known ∙ ap (λ (h : History). items_or_none (page_in entry_read (file_page h.now.reads (n + 1)))) (inv.same known) in
          page_taken page count n c.loop-page.records c.take_entries.new.records c.loop-page.part c.take_entries.new.part c.in_ok-entries.entries (records_of page count) less is
          c.in_ok-take_entries.ensures (inv.read known);
    }
