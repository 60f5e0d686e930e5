use Rattle.std.proofs.Common.{rules, arith, ◌≡◌, ◌+◌, ℕ, suc, List, [], ◌∷◌, ◌++◌, take, drop, ap, sym, ◌∙◌, refl, subst, append_assoc, Ok, Err}
use Rattle.std.proofs.lemmas.List.{drop-drop}
use Rattle.script_runs.specs.inside.Feeding.{LeavesFrom, IsInLine, EndsAt}
use Rattle.script_runs.specs.Lines.{line_limit}
use Rattle.script_runs.proofs.LogLaws.{leaves_none, leaves_on, leaves_more}
use Rattle.script_runs.proofs.feeding.Script.feed.Goals as goal

-- the line and its end come off the start of what is left
off_prefix : (piece done rest line next after : List ℕ) → piece ≡ done ++ rest → rest ≡ line ++ 10 ∷ after → next ≡ after → piece ≡ (done ++ (line ++ 10 ∷ [])) ++ next
off_prefix piece done rest line next after p q e =
    p ∙ ap (λ t. done ++ t) (q ∙ ap (λ t. line ++ 10 ∷ t) (sym e)) ∙ ap (λ t. done ++ t) (sym (append_assoc line (10 ∷ []) next)) ∙ sym (append_assoc done (line ++ 10 ∷ []) next)

line_ends : (rest line : List ℕ) (place : ℕ) → EndsAt rest place → line ≡ take place rest → rest ≡ line ++ 10 ∷ drop (suc place) rest
line_ends rest line place ends prefix = ends.cut ∙ ap (λ t. t ++ 10 ∷ drop (suc place) rest) (sym prefix)

-- what comes behind the line and its end
after_line_end : (rest after next : List ℕ) (place : ℕ) → after ≡ drop place rest → next ≡ drop 1 after → next ≡ drop (suc place) rest
after_line_end rest after next place back more =
    let one : place + 1 ≡ suc place = omega arith in
    more ∙ ap (drop 1) back ∙ drop-drop 1 place rest ∙ ap (λ k. drop k rest) one

pub take_line-requires-clause-in_line : goal.take_line-requires-clause-in_line
take_line-requires-clause-in_line g c = subst IsInLine (sym c.split_at.ensures.front) c.in-Some.ensures.in_line

pub extend-requires : goal.extend-requires
extend-requires g c = record { in_line = c.in_default.ensures }

pub loop-place-init : goal.loop-place-init
loop-place-init g c =
    let m = g.M.LineMachine.machine in
    let h = g.K.Sink.held c.args.sink.now in
    record {
      so_far = ([], refl, λ s stands. leaves_none m line_limit s c.args.self.now h stands);
      ready = c.requires.ready;
      room = omega arith;
      no_write_fault = refl;
      no_disk_fault = refl;
    }

pub returns-in_err-take_line-clause-leaves : goal.returns-in_err-take_line-clause-leaves
returns-in_err-take_line-clause-leaves g c = λ s stands.
    let m = g.M.LineMachine.machine in
    let so = c.loop-place.invariant.so_far in
    let place = c.in-Some.place in
    let rest = c.loop-place.rest.now in
    let line = c.split_at.result.0.now in
    let line_is : rest ≡ line ++ 10 ∷ drop (suc place) rest = line_ends rest line place c.in-Some.ensures c.split_at.ensures.front in
    let h = g.K.Sink.held c.args.sink.now in
    let j = g.K.Sink.held c.take_line.new.sink in
    let e = c.in_err-take_line.field-0.0 in
    let stop : c.from_residual.result ≡ Err e = search rules in
    let stopped = leaves_on m line_limit s c.args.self.now c.loop-place.self c.take_line.new.self h _ j so.0 (line ++ 10 ∷ []) (Err e) (so.2 s stands) c.in_err-take_line.ensures.leaves in
    subst (LeavesFrom m line_limit s c.args.self.now c.take_line.new.self h j c.args.piece.now) (sym stop)
    (subst (λ x. LeavesFrom m line_limit s c.args.self.now c.take_line.new.self h j x (Err e)) (sym (off_prefix _ so.0 rest line (drop (suc place) rest) _ so.1 line_is refl))
    (leaves_more m line_limit s c.args.self.now c.take_line.new.self h j (so.0 ++ (line ++ 10 ∷ [])) (drop (suc place) rest) e stopped))

pub loop-place-preserved : goal.loop-place-preserved
loop-place-preserved g c =
    let m = g.M.LineMachine.machine in
    let so = c.loop-place.invariant.so_far in
    let place = c.in-Some.place in
    let rest = c.loop-place.rest.now in
    let line = c.split_at.result.0.now in
    let next = c.split_at-in-Some.result.1.now in
    let line_is : rest ≡ line ++ 10 ∷ drop (suc place) rest = line_ends rest line place c.in-Some.ensures c.split_at.ensures.front in
    let next_is : next ≡ drop (suc place) rest = after_line_end rest c.split_at.result.1.now next place c.split_at.ensures.back c.split_at-in-Some.ensures.back in
    record {
      so_far = (
        so.0 ++ (line ++ 10 ∷ []),
        off_prefix _ so.0 rest line next (drop (suc place) rest) so.1 line_is next_is,
        λ s stands. leaves_on m line_limit s c.args.self.now c.loop-place.self c.take_line.new.self _ _ _ so.0 (line ++ 10 ∷ []) (Ok tt) (so.2 s stands) c.in_ok-take_line.ensures.leaves,
      );
      ready = c.in_ok-take_line.ensures.ready;
      room = omega (arith, c.loop-place.invariant.room, c.in_ok-take_line.ensures.lines, c.split_at.ensures.back_len, c.split_at-in-Some.ensures.back_len);
      no_write_fault = c.in_ok-take_line.ensures.write.exact (λ e. cc) ∙ c.loop-place.invariant.no_write_fault;
      no_disk_fault = c.in_ok-take_line.ensures.disk.exact (λ e. cc) ∙ c.loop-place.invariant.no_disk_fault;
    }

pub returns-clause-leaves : goal.returns-clause-leaves
returns-clause-leaves g c = λ s stands.
    let m = g.M.LineMachine.machine in
    let so = c.loop-place.invariant.so_far in
    let i = g.K.Sink.held c.loop-place.sink in
    subst (λ x. LeavesFrom m line_limit s c.args.self.now c.extend.new.self (g.K.Sink.held c.args.sink.now) i x c.extend.result) (sym so.1)
    (leaves_on m line_limit s c.args.self.now c.loop-place.self c.extend.new.self _ i i so.0 c.loop-place.rest.now c.extend.result (so.2 s stands) (c.extend.ensures.leaves i))
