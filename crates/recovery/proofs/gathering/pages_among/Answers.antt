use Rattle.std.proofs.Common.{◌≡◌, ℕ, ◌-◌, List, ◌++◌, drop, length, Some, suc, sym, ap, subst, ◌∙◌, arith}
use Rattle.outside_traits.specs.Moments.{History}
use Rattle.node_pages.specs.PageZero.{count_of, header_in}
use Rattle.store_contents.specs.Contents.{page_among}
use Rattle.recovery.specs.inside.Finishing.{ArePages, StandFrom, if_whole, left_behind, page_here}
use Rattle.recovery.specs.inside.Fronts.{front}
use Rattle.recovery.proofs.GatherLaws.{all_from_zero, left_on, zero_first, zero_same}
use Rattle.recovery.proofs.gathering.pages_among.Goals as goal

pub take_page-requires : goal.take_page-requires
take_page-requires g c = record {
  count = λ known. c.in-Ok.ensures.value known ∙ ap (λ (h : History). length h.now.reads) (sym (c.len.ensures.same known));
  few = omega arith;
  frame = omega (arith, ap (λ (b : List ℕ). length b) c.as_mut_slice-buffer.ensures.value, c.in-Ok-vec.ensures.len, c.in-Ok-vec.frame.ok.0);
}

pub returns-in-None-clause-found : goal.returns-in-None-clause-found
returns-in-None-clause-found g c known are =
    let file = (g.P.Disk.history c.args.pages.now).now.reads in
    let images = c.args.images.now in
    let bytes = c.take_page.new.row.bytes in
    let pushed : bytes ≡ if_whole (page_here 0 images file) =
    c.in-Ok-take_page.ensures.bytes known are ∙ (λ i. c.new.ensures i ++ if_whole (page_here 0 images (c.len.ensures.same known i).now.reads)) in
    sym (zero_same file images are bytes pushed) ∙ ap header_in (sym c.as_slice.ensures) ∙ sym c.read_header-zero.ensures ∙ c.in-None.is

pub returns-in-Ok-take_pages-clause-found : goal.returns-in-Ok-take_pages-clause-found
returns-in-Ok-take_pages-clause-found g c known are =
    let file = (g.P.Disk.history c.args.pages.now).now.reads in
    let images = c.args.images.now in
    let h = c.in-Some.header in
    let bytes = c.take_page.new.row.bytes in
    let pushed : bytes ≡ if_whole (page_here 0 images file) =
    c.in-Ok-take_page.ensures.bytes known are ∙ (λ i. c.new.ensures i ++ if_whole (page_here 0 images (c.len.ensures.same known i).now.reads)) in
    let said : header_in bytes ≡ Some h = ap header_in (sym c.as_slice.ensures) ∙ sym c.read_header-zero.ensures ∙ c.in-Some.is in
    let left : drop c.take_page.new.row.next images ≡ left_behind 0 images = c.in-Ok-take_page.ensures.left in
    let on = left_on 0 images (record { pages = are; from = all_from_zero images }) in
    let counted : count_of h ≡ suc (count_of h - 1) = omega arith in (
      sym (zero_same file images are bytes pushed) ∙ said,
      zero_first file images are bytes pushed h (count_of h - 1) c.take_pages.new.row.bytes said counted
          (c.in-Ok-take_pages.ensures.bytes known (subst ArePages (sym left) on.pages) (subst (StandFrom 1) (sym left) on.from)
          ∙ (λ i. bytes ++ front (page_among (left i) ((c.take_page.ensures.same known ∙ c.len.ensures.same known) i).now.reads) 1 (c.counted-end.ensures.count i - 1))),
    )

pub take_pages-requires : goal.take_pages-requires
take_pages-requires g c = record {
  count = λ known. c.in-Ok.ensures.value known ∙ ap (λ (h : History). length h.now.reads) (sym (c.take_page.ensures.same known ∙ c.len.ensures.same known));
  few = c.counted-end.ensures.few;
  frame = c.take_page.auto.frame ∙ omega (arith, ap (λ (b : List ℕ). length b) c.as_mut_slice-buffer.ensures.value, c.in-Ok-vec.ensures.len, c.in-Ok-vec.frame.ok.0);
}

pub returns-in-None-clause-cause : goal.returns-in-None-clause-cause
returns-in-None-clause-cause g c =
    let same = c.in-Ok-take_page.ensures.cause.exact ∙ c.in-Ok.ensures.cause.exact in
    record { later = omega (arith, same); failed = λ e. cc; exact = same }

pub returns-in-Ok-take_pages-clause-cause : goal.returns-in-Ok-take_pages-clause-cause
returns-in-Ok-take_pages-clause-cause g c =
    let same = c.in-Ok-take_pages.ensures.cause.exact ∙ c.in-Ok-take_page.ensures.cause.exact ∙ c.in-Ok.ensures.cause.exact in
    record { later = omega (arith, same); failed = λ e. cc; exact = same }
