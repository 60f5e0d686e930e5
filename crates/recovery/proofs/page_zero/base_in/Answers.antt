use Rattle.std.proofs.Common.{ℕ, List, length, ◌∙◌, sym, ap, subst, arith}
use Rattle.outside_traits.specs.Moments.{History}
use Rattle.page_store.specs.Pages.{ArePagesOf, PoolView, page_of}
use Rattle.node_pages.specs.PageZero.{header_in}
use Rattle.store_contents.specs.Contents.{base_told}
use Rattle.recovery.proofs.BaseLaws.{empty_base, page_base, short_base}
use Rattle.recovery.proofs.page_zero.base_in.Goals as goal

pub returns-then-count-eq0-clause-base : goal.returns-then-count-eq0-clause-base
returns-then-count-eq0-clause-base g c known = sym (empty_base (g.P.Disk.history c.args.pages.now).now.reads c.in_ok-count.count (c.in_ok-count.ensures.value known) c.if-count-eq0.true)

pub returns-then-count-clause-base : goal.returns-then-count-clause-base
returns-then-count-clause-base g c known = sym (short_base (g.P.Disk.history c.args.pages.now).now.reads c.in_ok-count.count (c.in_ok-count.ensures.value known) c.if-count-eq0.false c.if-count.true)

pub read_page-requires : goal.read_page-requires
read_page-requires g c = record {
  within = λ known.
      let is = c.in_ok-count.ensures.value known in
      let same = ap (λ (t : History). length t.now.reads) (c.len.ensures.same known) in
      let more = c.if-count.false in
      omega (arith, is, same, more);
  pages = λ known. subst (ArePagesOf (g.P.Disk.history c.len.new.self).now.reads) (sym (ap (λ (p : PoolView). p.kept) c.in_ok-pool.ensures)) tt;
}

pub returns-in-Ok-clause-base : goal.returns-in-Ok-clause-base
returns-in-Ok-clause-base g c known =
    c.base_told.ensures ∙ ap (λ (bytes : List ℕ). base_told (header_in bytes)) (c.in-Ok.ensures.value known ∙ ap (λ (t : History). page_of 0 t.now.reads) (c.len.ensures.same known))
    ∙ sym (page_base (g.P.Disk.history c.args.pages.now).now.reads c.in_ok-count.count (c.in_ok-count.ensures.value known) c.if-count-eq0.false)
