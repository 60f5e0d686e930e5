use Rattle.std.proofs.Common.{◌≡◌, ℕ, ◌+◌, List, ◌++◌, length, sym, ap, subst, ◌∙◌, arith, refl, length-append}
use Rattle.std.proofs.lemmas.List.{length-take, length-drop, take_all}
use Rattle.outside_traits.specs.Moments.{History}
use Rattle.checkpoint.specs.NewPages.{has_page, image_unless, new_pages}
use Rattle.checkpoint.specs.inside.Gathered.{AreGathered, AreWhole}
use Rattle.checkpoint.proofs.NewPagesLaws.{gathered_on, gathered_wider, none_gathered, pages_more, whole_at}
use Rattle.checkpoint.proofs.new_pages.new_pages.Goals as goal

pub loop-page-init : goal.loop-page-init
loop-page-init g c = record {
  number = refl;
  frame = omega (arith, c.in-Ok-vec.ensures.len, c.in-Ok-vec.frame.ok.0);
  same = c.len.ensures.same;
  faults = c.in-Ok.ensures.cause.exact;
  pages = λ known. c.new-images.ensures;
  gathered = subst (AreGathered 0) (sym c.new-images.ensures) none_gathered;
}

pub has_page-requires : goal.has_page-requires
has_page-requires g c =
    let inv = c.loop-page.invariant in
    let cut = c.as_slice-page-items.result.now in
    let whole : AreWhole cut = subst AreWhole (sym c.as_slice-page-items.ensures) c.requires.whole in
    record {
      count = λ known. c.in-Ok.ensures.value known ∙ ap (λ (h : History). length h.now.reads) (sym (inv.same known));
      whole = ap (λ (b : List ℕ). length b) c.as_slice.ensures ∙ whole_at cut c.loop-page.page-index c.page-item.result whole c.loop-page-test.true c.page-item.is;
      frame = ap (λ (b : List ℕ). length b) c.deref_mut.ensures.value ∙ inv.frame;
    }

pub overflow_add-number : goal.overflow_add-number
overflow_add-number g c =
    let inv = c.loop-page.invariant in
    omega (arith, inv.number, c.loop-page-test.true, ap (λ (l : List (List ℕ)). length l) c.as_slice-page-items.ensures, c.requires.few)

pub loop-page-preserved : goal.loop-page-preserved
loop-page-preserved g c =
    let inv = c.loop-page.invariant in
    let cut = c.as_slice-page-items.result.now in
    let i = c.loop-page.page-index in
    let page = c.page-item.result in
    let has = c.in-Ok-has_page.has in
    let file = (g.P.Disk.history c.args.disk.now).now.reads in
    let whole : AreWhole cut = subst AreWhole (sym c.as_slice-page-items.ensures) c.requires.whole in
    let pushed : c.take_page.new.images ≡ c.loop-page.images ++ image_unless has i page =
    c.in-Ok-take_page.ensures ∙ (λ j. c.loop-page.images ++ image_unless has (inv.number j) (c.as_slice-in-loop-page.ensures j)) in
    record {
      number = ap (λ (n : ℕ). n + 1) inv.number;
      frame = omega (arith, inv.frame, c.loop-page.frame.ok.0, c.has_page.auto.frame, c.deref_mut.ensures.len, length-take {A = ℕ}, length-append {A = ℕ}, length-drop {A = ℕ});
      same = λ known. c.has_page.ensures.same known ∙ inv.same known;
      faults = c.in-Ok-has_page.ensures.cause.exact ∙ inv.faults;
      pages = λ known.
          pages_more cut i page file has c.loop-page.images c.take_page.new.images c.loop-page-test.true c.page-item.is
          (c.in-Ok-has_page.ensures.answer known ∙ (λ j. has_page (inv.number j) (c.as_slice.ensures j) (inv.same known j).now.reads))
          (inv.pages known) pushed;
      gathered = gathered_on i c.loop-page.images c.take_page.new.images page has inv.gathered (whole_at cut i page whole c.loop-page-test.true c.page-item.is) pushed;
    }

pub returns-clause-pages : goal.returns-clause-pages
returns-clause-pages g c known =
    let cut = c.as_slice-page-items.result.now in
    c.loop-page.invariant.pages known
    ∙ ap (λ (l : List (List ℕ)). new_pages 0 l (g.P.Disk.history c.args.disk.now).now.reads) (take_all c.loop-page.page-index cut (omega (arith, c.loop-page-test.false)) ∙ c.as_slice-page-items.ensures)

pub returns-clause-gathered : goal.returns-clause-gathered
returns-clause-gathered g c =
    gathered_wider c.loop-page.page-index 32_768 c.loop-page.images
    (omega (arith, c.loop-page.auto.page-index-end, ap (λ (l : List (List ℕ)). length l) c.as_slice-page-items.ensures, c.requires.few)) c.loop-page.invariant.gathered

pub returns-clause-cause : goal.returns-clause-cause
returns-clause-cause g c = record { later = omega (arith, c.loop-page.invariant.faults); failed = λ e. cc; exact = c.loop-page.invariant.faults }
