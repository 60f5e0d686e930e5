use Rattle.std.proofs.Common.{ℕ, ◌*◌, take, drop, sym, ap, ◌∙◌, arith}
use Rattle.recovery.proofs.GatherLaws.{long_page, none_pushed, one_pushed, short_page}
use Rattle.recovery.proofs.gathering.push_page.Goals as goal

pub returns-then-count-at-clause-has : goal.returns-then-count-at-clause-has
returns-then-count-at-clause-has g c known = sym (short_page c.args.page (g.P.Disk.history c.args.pages.now).now.reads (omega (arith, c.if-count-at.true, c.requires.count known)))

pub returns-then-count-at-clause-bytes : goal.returns-then-count-at-clause-bytes
returns-then-count-at-clause-bytes g c known =
    none_pushed c.args.bytes.now _ (short_page c.args.page (g.P.Disk.history c.args.pages.now).now.reads (omega (arith, c.if-count-at.true, c.requires.count known)))

pub returns-clause-has : goal.returns-clause-has
returns-clause-has g c known = sym (long_page c.args.page (g.P.Disk.history c.args.pages.now).now.reads (omega (arith, c.if-count-at.false, c.requires.count known)))

pub returns-clause-bytes : goal.returns-clause-bytes
returns-clause-bytes g c known =
    let file = (g.P.Disk.history c.args.pages.now).now.reads in
    one_pushed c.args.bytes.now c.extend_from_slice.new.self c.read_at.new.buf _ c.in-Ok-extend_from_slice.ensures.ok
    (c.in-Ok.ensures.value known ∙ ap (λ (n : ℕ). take n (drop (8_192 * c.args.page) file)) c.requires.frame)
    (long_page c.args.page file (omega (arith, c.if-count-at.false, c.requires.count known)))
