use Rattle.std.proofs.Common.{◌≡◌, ℕ, ◌+◌, ◌-◌, ◌==◌, true, false, List, Err, ◌++◌, length, drop, refl, sym, ap, subst, ◌∙◌, arith}
use Rattle.std.proofs.lemmas.List.{append-nil}
use Rattle.outside_traits.specs.Faults.{FaultCounted}
use Rattle.outside_traits.specs.Moments.{History}
use Rattle.store_contents.specs.Contents.{page_among}
use Rattle.recovery.specs.inside.Finishing.{AreLeft, if_whole, page_here}
use Rattle.recovery.specs.inside.Fronts.{front}
use Rattle.recovery.proofs.GatherLaws.{error_of, last_page, left_on, whole_page}
use Rattle.recovery.proofs.gathering.take_pages.Goals as goal

pub loop-page-init : goal.loop-page-init
loop-page-init g c = record {
  same = λ known. refl;
  faults = refl;
  frame = c.requires.frame;
  left = λ are from. record { pages = are; from = from };
  taken = λ known are from. refl;
}

pub take_page-requires : goal.take_page-requires
take_page-requires g c =
    let inv = c.loop-page.invariant in
    record {
      count = λ known. c.requires.count known ∙ ap (λ (h : History). length h.now.reads) (sym (inv.same known));
      few = omega (arith, c.loop-page-test.true, c.requires.few);
      frame = inv.frame;
    }

pub loop-page-preserved : goal.loop-page-preserved
loop-page-preserved g c =
    let inv = c.loop-page.invariant in
    let rest = drop c.loop-page.row.next c.args.images.now in
    let n = c.loop-page.page in
    let file = (g.P.Disk.history c.args.pages.now).now.reads in
    record {
      same = λ known. c.take_page.ensures.same known ∙ inv.same known;
      faults = c.in-Ok.ensures.cause.exact ∙ inv.faults;
      frame = c.take_page.auto.frame ∙ inv.frame;
      left = λ are from. subst (AreLeft (n + 1)) (sym c.in-Ok.ensures.left) (left_on n rest (inv.left are from));
      taken = λ known are from.
          let left = inv.left are from in
          let has : (length (page_here n rest file) == 8_192) ≡ true =
          ap (λ (h : History). length (page_here n rest h.now.reads) == 8_192) (sym (inv.same known)) ∙ sym (c.in-Ok.ensures.has known left.pages) ∙ c.if-is_last.false in
          ap (λ (l : List (ℕ × List ℕ)). c.take_page.new.row.bytes ++ front (page_among l file) (n + 1) (c.args.end - (n + 1))) c.in-Ok.ensures.left
          ∙ whole_page file rest n (c.args.end - n) (c.args.end - (n + 1)) (omega (arith, c.loop-page-test.true)) left c.loop-page.row.bytes c.take_page.new.row.bytes _
          (c.in-Ok.ensures.bytes known left.pages ∙ ap (λ (h : History). c.loop-page.row.bytes ++ if_whole (page_here n rest h.now.reads)) (inv.same known)) (inv.taken known are from) has;
    }

pub returns-then-is_last-clause-bytes : goal.returns-then-is_last-clause-bytes
returns-then-is_last-clause-bytes g c known are from =
    let inv = c.loop-page.invariant in
    let rest = drop c.loop-page.row.next c.args.images.now in
    let n = c.loop-page.page in
    let file = (g.P.Disk.history c.args.pages.now).now.reads in
    let left = inv.left are from in
    let has : (length (page_here n rest file) == 8_192) ≡ false =
    ap (λ (h : History). length (page_here n rest h.now.reads) == 8_192) (sym (inv.same known)) ∙ sym (c.in-Ok.ensures.has known left.pages) ∙ c.if-is_last.true in
    last_page file rest n (c.args.end - n) (c.args.end - (n + 1)) (omega (arith, c.loop-page-test.true)) left c.loop-page.row.bytes c.take_page.new.row.bytes _
    (c.in-Ok.ensures.bytes known left.pages ∙ ap (λ (h : History). c.loop-page.row.bytes ++ if_whole (page_here n rest h.now.reads)) (inv.same known)) (inv.taken known are from) has

pub returns-then-is_last-clause-cause : goal.returns-then-is_last-clause-cause
returns-then-is_last-clause-cause g c = record {
  later = omega (arith, c.in-Ok.ensures.cause.exact, c.loop-page.invariant.faults);
  failed = λ e. cc;
  exact = c.in-Ok.ensures.cause.exact ∙ c.loop-page.invariant.faults;
}

pub returns-in-Err-clause-cause : goal.returns-in-Err-clause-cause
returns-in-Err-clause-cause g c = record {
  later = omega (arith, c.take_page.ensures.cause.later, c.loop-page.invariant.faults);
  failed = λ e. subst (λ (n : ℕ). FaultCounted n (g.P.Disk.faults c.take_page.new.pages)) c.loop-page.invariant.faults (c.take_page.ensures.cause.failed (c.in-Err.is ∙ (λ i. Err (error_of e i))));
  exact = tt;
}

pub returns-clause-bytes : goal.returns-clause-bytes
returns-clause-bytes g c known are from =
    let inv = c.loop-page.invariant in
    let file = (g.P.Disk.history c.args.pages.now).now.reads in
    let none : 0 ≡ c.args.end - c.loop-page.page = omega (arith, c.loop-page-test.false) in
    sym (append-nil c.loop-page.row.bytes)
    ∙ ap (λ (k : ℕ). c.loop-page.row.bytes ++ front (page_among (drop c.loop-page.row.next c.args.images.now) file) c.loop-page.page k) none
    ∙ inv.taken known are from

pub returns-clause-cause : goal.returns-clause-cause
returns-clause-cause g c = record { later = omega (arith, c.loop-page.invariant.faults); failed = λ e. cc; exact = c.loop-page.invariant.faults }
