use Rattle.std.proofs.Common.{◌*◌, ℕ, List, take, drop, ap, ◌∙◌}
use Rattle.std.specs.Cmp.Lexicographic.{pointwise}
use Rattle.std.specs.Prelude.{nat_eq}
use Rattle.checkpoint.proofs.new_pages.has_page.Goals as goal

pub returns-clause-answer : goal.returns-clause-answer
returns-clause-answer g c known =
    let file = (g.P.Disk.history c.args.disk.now).now.reads in
    c.eq.ensures
    ∙ ap (λ (b : List ℕ). pointwise nat_eq c.args.page.now b) (c.in_ok-read_at.ensures.value known ∙ ap (λ (n : ℕ). take n (drop (8_192 * c.args.number) file)) c.requires.frame)
