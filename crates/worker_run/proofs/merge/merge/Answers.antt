use Rattle.std.proofs.Common.{rules, ◌≡◌, ◌∙◌, ◌+◌, ◌-◌, ◌≤◌, ◌<◌, ℕ, List, [], length, vec_capacity, sym, ap, subst, refl, arith, length-append, ◌∷◌}
use Rattle.command_lines.specs.declared.line_reply.LineReply.{LineReply}
use Rattle.worker_run.specs.inside.Merging.{AllMerging, AreMerged, Gave, Lacks, seats}
use Rattle.worker_run.proofs.MergeLaws.{has_reply, merging_begins, merging_ends, merging_on, one_seat_at, same_seats}
use Rattle.worker_run.proofs.merge.merge.Goals as goal

-- src/merge.rt:38:5
pub loop-left-init : goal.loop-left-init
loop-left-init g c =
    let first = seats g.T.SessionPort.ports c.args.workers.now in
    let none : length c.args.out.now.items ≡ 0 = ap length c.requires.empty in (
      subst (λ out. AllMerging c.args.lines.now (length c.args.lines.now) out first first) (sym c.requires.empty) (merging_begins c.args.lines.now first c.requires.full),
      omega arith,
      c.requires.room,
      refl,
    )

-- src/merge.rt:38:5
pub loop-left-preserved : goal.loop-left-preserved
loop-left-preserved g c =
    let lines = c.args.lines.now in
    let first = seats g.T.SessionPort.ports c.args.workers.now in
    let before = seats g.T.SessionPort.ports c.loop-left.workers in
    let after = seats g.T.SessionPort.ports c.take_last.new.workers in
    let n : ℕ = c.loop-left.left - 1 in
    let some : 0 < c.loop-left.left = search rules in
    let counted : length c.loop-left.out.items + c.loop-left.left ≡ length lines = c.loop-left.invariant.1 in
    let lt : n < length lines = omega arith in
    let left_is : c.loop-left.left ≡ n + 1 = omega arith in
    let gave : Gave c.index-lines-left.result.session c.in-Some.reply before after = subst (λ x. Gave x.session c.in-Some.reply before after) (sym c.index-lines-left.is) c.in-Some.ensures.taken in
    let here : AllMerging lines (n + 1) c.loop-left.out.items first before = subst (λ k. AllMerging lines k c.loop-left.out.items first before) left_is c.loop-left.invariant.0 in
    let one = same_seats lines (n + 1) c.index-lines-left.result.session c.loop-left.out.items first before here ∙ one_seat_at lines first n c.index-lines-left.result lt c.index-lines-left.is c.requires.one_seat in
    let on = merging_on lines n c.loop-left.out.items c.in-Some.reply c.index-lines-left.result lt c.index-lines-left.is first before after one gave here in
    let more : length c.keep.new.items.items ≡ length c.loop-left.out.items + 1 = ap length c.keep.ensures.items ∙ length-append c.loop-left.out.items (c.in-Some.reply ∷ []) in
    let fits : length lines ≤ vec_capacity c.loop-left.out = c.loop-left.invariant.2 in
    let grows : vec_capacity c.loop-left.out ≤ vec_capacity c.keep.new.items = c.keep.ensures.room in (
      subst (λ (out : List LineReply). AllMerging lines n out first after) (sym c.keep.ensures.items) on,
      omega arith,
      omega arith,
      c.in-Some.ensures.ports ∙ c.loop-left.invariant.3,
    )

-- src/merge.rt:42:21
pub unreachable-requires : goal.unreachable-requires
unreachable-requires g c =
    let lines = c.args.lines.now in
    let first = seats g.T.SessionPort.ports c.args.workers.now in
    let before = seats g.T.SessionPort.ports c.loop-left.workers in
    let n : ℕ = c.loop-left.left - 1 in
    let some : 0 < c.loop-left.left = c.loop-left-test.true in
    let counted : length c.loop-left.out.items + c.loop-left.left ≡ length lines = c.loop-left.invariant.1 in
    let lt : n < length lines = omega arith in
    let left_is : c.loop-left.left ≡ n + 1 = omega arith in
    let lacks : Lacks c.index-lines-left.result.session before = subst (λ x. Lacks x.session before) (sym c.index-lines-left.is) c.in-None.ensures.taken in
    let here : AllMerging lines (n + 1) c.loop-left.out.items first before = subst (λ k. AllMerging lines k c.loop-left.out.items first before) left_is c.loop-left.invariant.0 in
    has_reply lines n c.loop-left.out.items c.index-lines-left.result lt c.index-lines-left.is first before
    (same_seats lines (n + 1) c.index-lines-left.result.session c.loop-left.out.items first before here ∙ one_seat_at lines first n c.index-lines-left.result lt c.index-lines-left.is c.requires.one_seat)
    here lacks

-- src/merge.rt:27:1
pub returns-clause-merged : goal.returns-clause-merged
returns-clause-merged g c =
    let first = seats g.T.SessionPort.ports c.args.workers.now in
    let none : c.loop-left.left ≡ 0 = search rules in
    subst (λ (out : List LineReply). AreMerged c.args.lines.now out first) (sym c.reverse.ensures.items)
    (merging_ends c.args.lines.now c.loop-left.left c.loop-left.out.items first (seats g.T.SessionPort.ports c.loop-left.workers) none c.loop-left.invariant.0)
