use Rattle.std.proofs.Common.{rules, arith, refl, sym, ap, ◌∙◌, subst, ◌≡◌, ◌≤◌, ◌++◌, take, length, length-append, append-nil}
use Rattle.std.specs.Prelude.{Err}
use Rattle.std.proofs.lemmas.List.{length-take-le}
use Rattle.outside_traits.specs.Bytes.{Gave}
use Rattle.outside_traits.proofs.Laws.{gave_none, gave_on}
use Rattle.script_runs.specs.Whole.{piece as most_piece}
use Rattle.workers_text.specs.inside.Inputs.{IsTaken}
use Rattle.workers_text.proofs.Taking.{not_long, taken_up}
use Rattle.workers_text.proofs.input.read_pieces.Goals as goal

pub loop-count-init : goal.loop-count-init
loop-count-init g c =
    let new = c.new-input.ensures in
    let left = g.S.Source.left c.args.source.now in
    record {
      gave = subst (Gave left left) (sym new.bytes) (gave_none left);
      given = omega (arith, ap length new.bytes);
      most = new.most;
      short = new.short;
      within = new.within;
      room = c.requires.some;
      size = c.requires.size;
      no_fault = refl;
    }

pub returns-in-Err-clause-read : goal.returns-in-Err-clause-read
returns-in-Err-clause-read g c =
    let invariant = c.loop-count.invariant in
    let input = c.loop-count.input in
    let r = c.in-Err.ensures in (
      input.bytes,
      subst (λ left. Gave (g.S.Source.left c.args.source.now) left input.bytes) (sym r.err.0) invariant.gave,
      omega (arith, invariant.given, r.err.1),
      omega (arith, invariant.within.whole, invariant.most),
      not_long input c.args.limits.most c.args.limits.short invariant.most invariant.short invariant.within,
    )

pub returns-then-count-eq0-clause-read : goal.returns-then-count-eq0-clause-read
returns-then-count-eq0-clause-read g c =
    let invariant = c.loop-count.invariant in
    let input = c.loop-count.input in
    let read = c.in-Ok.ensures in
    let left = g.S.Source.left c.args.source.now in
    let now = g.S.Source.left c.read.new.self in
    let none : c.in-Ok.count ≡ 0 = search rules in (
      input.bytes,
      subst (Gave left now) (ap (λ k. input.bytes ++ take k c.read.new.buf) none ∙ append-nil input.bytes) (gave_on _ _ _ input.bytes (take c.in-Ok.count c.read.new.buf) invariant.gave read.bytes),
      omega (arith, invariant.given, read.count, none),
      omega (arith, invariant.within.whole, invariant.most),
      (c.into_bytes.ensures, not_long input c.args.limits.most c.args.limits.short invariant.most invariant.short invariant.within),
    )

pub returns-in_err-take_piece-clause-read : goal.returns-in_err-take_piece-clause-read
returns-in_err-take_piece-clause-read g c =
    let invariant = c.loop-count.invariant in
    let input = c.loop-count.input in
    let read = c.in-Ok.ensures in
    let bytes = input.bytes in
    let piece = c.split_at.result.0.now in
    let buf = c.read.new.buf in
    let front : piece ≡ take c.in-Ok.count buf = c.split_at.ensures.front in
    let count : length piece ≡ c.in-Ok.count = ap length front ∙ length-take-le c.in-Ok.count buf (omega (arith, read.bound, c.read.auto.buf)) in
    let most : c.in-Ok.count ≤ most_piece = omega (arith, read.bound, invariant.size) in
    let e = c.in_err-take_piece.field-0.0 in
    let stop : c.from_residual.result ≡ Err e = search rules in (
      bytes ++ piece,
      gave_on _ _ _ bytes piece invariant.gave (subst (Gave _ _) (sym front) read.bytes),
      omega (arith, invariant.given, read.count, count, length-append bytes piece),
      omega (arith, most, count, length-append bytes piece, invariant.within.whole, invariant.most),
      subst (λ r. IsTaken c.args.limits.most c.args.limits.short (bytes ++ piece) r (λ bytes. bytes.items)) (sym stop)
          (taken_up input c.args.limits.most c.args.limits.short (bytes ++ piece) e (λ bytes. bytes.items) invariant.most invariant.short c.in_err-take_piece.ensures.sound c.in_err-take_piece.ensures.long),
    )

pub loop-count-preserved : goal.loop-count-preserved
loop-count-preserved g c =
    let invariant = c.loop-count.invariant in
    let input = c.loop-count.input in
    let read = c.in-Ok.ensures in
    let came = c.in_ok-take_piece.ensures.ok in
    let bytes = input.bytes in
    let piece = c.split_at.result.0.now in
    let buf = c.read.new.buf in
    let front : piece ≡ take c.in-Ok.count buf = c.split_at.ensures.front in
    let count : length piece ≡ c.in-Ok.count = ap length front ∙ length-take-le c.in-Ok.count buf (omega (arith, read.bound, c.read.auto.buf)) in
    record {
      gave = subst (Gave _ _) (sym came.bytes) (gave_on _ _ _ bytes piece invariant.gave (subst (Gave _ _) (sym front) read.bytes));
      given = omega (arith, invariant.given, read.count, count, length-append bytes piece, ap length came.bytes);
      most = came.most ∙ invariant.most;
      short = came.short ∙ invariant.short;
      within = came.within;
      room = search rules;
      size = search rules;
      no_fault = search rules;
    }
