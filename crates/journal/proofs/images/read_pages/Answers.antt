use Rattle.std.proofs.Common.{◌∙◌, ◌-◌, ℕ, List, arith, ap, sym}
use Rattle.journal.specs.PageImages.{images_of}
use Rattle.journal.proofs.ImageLaws.{with_pages, with_none, image_more, no_image, last_image, bytes_left}
use Rattle.journal.proofs.images.read_pages.Goals as goal

pub loop-left-init : goal.loop-left-init
loop-left-init c = ap (λ (l : List (ℕ × List ℕ)). with_pages l (images_of c.args.count c.args.bytes.now)) c.new-pages.ensures ∙ with_none (images_of c.args.count c.args.bytes.now)

pub returns-then-rest-lt-IMAGE : goal.returns-then-rest-lt-IMAGE
returns-then-rest-lt-IMAGE c = sym (no_image c.loop-left.pages c.loop-left.left c.loop-left.rest.now (omega (arith, c.loop-left-test.true)) (omega (arith, c.if-rest-lt-IMAGE.true))) ∙ c.loop-left.invariant

pub loop-left-preserved : goal.loop-left-preserved
loop-left-preserved c =
    ap (λ (l : List (ℕ × List ℕ)). with_pages l (images_of (c.loop-left.left - 1) c.split_at.result.1.now)) c.in_ok-push.ensures.ok
    ∙ image_more c.loop-left.pages c.loop-left.left (c.loop-left.left - 1) c.loop-left.rest.now c.split_at.result.0.now c.split_at.result.1.now c.in_ok-read_page.field-0 _
    (omega (arith, c.loop-left-test.true)) (omega (arith, c.if-rest-lt-IMAGE.false)) c.split_at.ensures.front c.split_at.ensures.back c.in_ok-read_page.ensures.number c.in_ok-read_page.ensures.bytes c.loop-left.invariant

pub returns-in-empty : goal.returns-in-empty
returns-in-empty c = sym (last_image c.loop-left.pages c.loop-left.left c.loop-left.rest.now (omega (arith, c.loop-left-test.false)) (omega (arith, c.in-empty.len_below))) ∙ c.loop-left.invariant

pub returns-in_default : goal.returns-in_default
returns-in_default c = sym (bytes_left c.loop-left.pages c.loop-left.left c.loop-left.rest.now (omega (arith, c.loop-left-test.false)) (omega (arith, c.in_default.len_at_least))) ∙ c.loop-left.invariant
