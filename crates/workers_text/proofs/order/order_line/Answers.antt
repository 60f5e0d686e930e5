use Rattle.std.proofs.Common.{rules, ◌≡◌, ◌∙◌, ◌<◌, ◌+◌, ℕ, ◌++◌, length, set, slice_index_or, sym, ap, subst, append-nil, length-set}
use Rattle.std.specs.Prelude.{Option, None}
use Rattle.workers_text.specs.declared.order.Begun.{Begun}
use Rattle.workers_text.specs.inside.Ordering.{OrderedSoFar, after_entry, committed_by, listed}
use Rattle.workers_text.proofs.Orders.{fits_at, ordered_next}
use Rattle.workers_text.proofs.order.order_line.Goals as goal
use Rattle.workers_text.proofs.order.order_line.Goals.{in-Some+in_ok-push, in_default}

pub bounds-live-place : goal.bounds-live-place
bounds-live-place g c =
    let lt : c.loop-noted.noted-index < length c.args.book.now = search rules in
    let at : c.noted-item.result ≡ slice_index_or c.args.book.now c.loop-noted.noted-index c.noted-item.result = search rules in
    fits_at c.args.book.now c.loop-noted.noted-index c.noted-item.result lt at c.requires

pub bounds-live-place-in-loop-noted : goal.bounds-live-place-in-loop-noted
bounds-live-place-in-loop-noted g c =
    let lt : c.loop-noted.noted-index < length c.args.book.now = search rules in
    let at : c.noted-item.result ≡ slice_index_or c.args.book.now c.loop-noted.noted-index c.noted-item.result = search rules in
    fits_at c.args.book.now c.loop-noted.noted-index c.noted-item.result lt at c.requires

pub loop-noted-preserved : goal.loop-noted-preserved
loop-noted-preserved g c =
    let book = c.args.book.now in
    let i = c.loop-noted.noted-index in
    let n = c.noted-item.result in
    let live = c.loop-noted.live in
    let order = c.loop-noted.order in
    let far = c.loop-noted.invariant in
    let lt : c.loop-noted.noted-index < length c.args.book.now = search rules in
    let at : c.noted-item.result ≡ slice_index_or c.args.book.now c.loop-noted.noted-index c.noted-item.result = search rules in
    let after : c.after_entry.result ≡ after_entry (slice_index_or c.loop-noted.live c.noted-item.result.session None) n.event n.answer = search rules in
    let made : c.committed.result ≡ committed_by n.session n.event (slice_index_or c.loop-noted.live c.noted-item.result.session None) = search rules in
    let later : c.match-committed.order ≡ c.loop-noted.order ++ listed c.committed.result = elim c.match-committed.branch [
      | in-Some+in_ok-push w ↦ w.order-is ∙ w.in_ok-push.ensures.ok ∙ ap (λ (o : Option (ℕ × ℕ)). c.loop-noted.order ++ listed o) (sym w.in-Some.is)
      | in_default w ↦ let empty : c.committed.result ≡ None = search rules in w.order-is ∙ sym (append-nil c.loop-noted.order) ∙ ap (λ (o : Option (ℕ × ℕ)). c.loop-noted.order ++ listed o) (sym empty)
    ] in
    let next = ordered_next book i n live order c.match-committed.order far.1 lt at (fits_at book i n lt at c.requires) (later ∙ ap (λ (o : Option (ℕ × ℕ)). c.loop-noted.order ++ listed o) made) far.0 in (
      subst (λ (r : Option Begun). OrderedSoFar book (i + 1) (set live n.session r) c.match-committed.order) (sym after) next,
      length-set live n.session c.after_entry.result ∙ far.1,
    )
