use Rattle.std.proofs.Common.{◌≡◌, ℕ, ◌==◌, true, List, ◌++◌, drop, length, sym, ap, ◌∙◌}
use Rattle.std.proofs.lemmas.Bool.{eq-eqb}
use Rattle.recovery.specs.inside.Finishing.{begins_with, if_whole}
use Rattle.recovery.proofs.GatherLaws.{here_next, here_other, left_next, left_other, next_within, on_ok_always, on_ok_then, one_pushed, whole_next}
use Rattle.recovery.proofs.PagedSteps.{ok_then}
use Rattle.recovery.proofs.gathering.take_page.Goals as goal

pub bounds-images-at : goal.bounds-images-at
bounds-images-at g c = next_within c.args.page c.args.row.now.next c.args.images.now (sym c.is_next-begins.ensures ∙ c.if-begins.true)

pub returns-then-begins-clause-has : goal.returns-then-begins-clause-has
returns-then-begins-clause-has g c known are =
    let begins : begins_with c.args.page (drop c.args.row.now.next c.args.images.now) ≡ true = sym c.is_next-begins.ensures ∙ c.if-begins.true in
    let within = next_within c.args.page c.args.row.now.next c.args.images.now begins in
    let item = c.index-images-at.result in
    sym (eq-eqb _ 8_192 (ap (λ (l : List ℕ). length l) (here_next c.args.page c.args.row.now.next c.args.images.now item within c.index-images-at.is begins (g.P.Disk.history c.args.pages.now).now.reads)
    ∙ whole_next c.args.page c.args.row.now.next c.args.images.now item within c.index-images-at.is begins are))

pub returns-then-begins-clause-bytes : goal.returns-then-begins-clause-bytes
returns-then-begins-clause-bytes g c known are =
    let begins : begins_with c.args.page (drop c.args.row.now.next c.args.images.now) ≡ true = sym c.is_next-begins.ensures ∙ c.if-begins.true in
    let within = next_within c.args.page c.args.row.now.next c.args.images.now begins in
    let item = c.index-images-at.result in
    let file = (g.P.Disk.history c.args.pages.now).now.reads in
    let here = here_next c.args.page c.args.row.now.next c.args.images.now item within c.index-images-at.is begins file in
    one_pushed c.args.row.now.bytes c.extend_from_slice.new.self item.1 _ (c.in-Ok.ensures.ok ∙ ap (λ (l : List ℕ). c.args.row.now.bytes ++ l) (c.as_slice.ensures ∙ ap (λ (x : ℕ × List ℕ). x.1) (sym c.index-images-at.is))) (sym here)
    (eq-eqb _ 8_192 (ap (λ (l : List ℕ). length l) here ∙ whole_next c.args.page c.args.row.now.next c.args.images.now item within c.index-images-at.is begins are))

pub returns-then-begins-clause-left : goal.returns-then-begins-clause-left
returns-then-begins-clause-left g c =
    let begins : begins_with c.args.page (drop c.args.row.now.next c.args.images.now) ≡ true = sym c.is_next-begins.ensures ∙ c.if-begins.true in
    left_next c.args.page c.args.row.now.next c.args.images.now c.index-images-at.result (next_within c.args.page c.args.row.now.next c.args.images.now begins) c.index-images-at.is begins

pub returns-clause-has : goal.returns-clause-has
returns-clause-has g c = ok_then c.push_page.result _ _ (λ has is known are. is known
    ∙ ap (λ (l : List ℕ). length l == 8_192) (sym (here_other c.args.page (drop c.args.row.now.next c.args.images.now) (g.P.Disk.history c.args.pages.now).now.reads (sym c.is_next-begins.ensures ∙ c.if-begins.false)))) c.push_page.ensures.has

pub returns-clause-bytes : goal.returns-clause-bytes
returns-clause-bytes g c = on_ok_then c.push_page.result _ _ (λ is known are. is known
    ∙ ap (λ (l : List ℕ). c.args.row.now.bytes ++ if_whole l) (sym (here_other c.args.page (drop c.args.row.now.next c.args.images.now) (g.P.Disk.history c.args.pages.now).now.reads (sym c.is_next-begins.ensures ∙ c.if-begins.false)))) c.push_page.ensures.bytes

pub returns-clause-left : goal.returns-clause-left
returns-clause-left g c = on_ok_always c.push_page.result _ (sym (left_other c.args.page (drop c.args.row.now.next c.args.images.now) (sym c.is_next-begins.ensures ∙ c.if-begins.false)))
