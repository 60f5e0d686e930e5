use Rattle.std.proofs.Common.{rules, arith, refl, sym, ap, ◌∙◌, subst, ◌≡◌, ◌≤◌, ◌<◌, ◌+◌, [], ◌∷◌, ◌++◌, length}
use Rattle.std.specs.Prelude.{Some}
use Rattle.script_runs.specs.Lines.{unended}
use Rattle.workers_text.specs.Limits.{KeepsLimits, too_long_in}
use Rattle.workers_text.specs.inside.Inputs.{CameOn, IsCounted, Taken, column_after, lines_after}
use Rattle.workers_text.proofs.TooLong.{column_fits, counted, line_passes, lines_fit, whole_passes}
use Rattle.workers_text.proofs.input.Input.take.Goals as goal

pub column_after-column-requires : goal.column_after-column-requires
column_after-column-requires c =
    let i = c.self.inside in
    let k = c.self.invariant in
    let h = column_fits i.limits.most i.limits.short i.bytes.items i.lines i.column k in
    omega (arith, h, k.short)

pub overflow_add-result : goal.overflow_add-result
overflow_add-result c =
    let i = c.self.inside in
    let k = c.self.invariant in
    let h = lines_fit i.limits.most i.limits.short i.bytes.items i.lines i.column k in
    omega (arith, h, k.most)

pub returns-then-self-column-clause-long : goal.returns-then-self-column-clause-long
returns-then-self-column-clause-long c =
    let i = c.self.inside in
    let k = c.self.invariant in
    let b = c.args.byte in
    let past : i.limits.short < column_after (length (unended [] i.bytes.items)) b = subst (λ l. i.limits.short < column_after l b) k.column (subst (λ r. i.limits.short < r) c.column_after-column.ensures c.if-self-column.true) in
    subst (λ (v : Taken). too_long_in v.most v.short (v.bytes ++ b ∷ []) ≡ Some (i.lines + 1)) c.self.view_is
    (line_passes i.limits.most i.limits.short i.bytes.items b k.within past ∙ ap (λ n. Some (n + 1)) (sym k.lines))

pub returns-then-self-len-clause-long : goal.returns-then-self-len-clause-long
returns-then-self-len-clause-long c =
    let i = c.self.inside in
    let k = c.self.invariant in
    let b = c.args.byte in
    let within : column_after (length (unended [] i.bytes.items)) b ≤ i.limits.short = subst (λ l. column_after l b ≤ i.limits.short) k.column (subst (λ r. r ≤ i.limits.short) c.column_after-column.ensures c.if-self-column.false) in
    let full : i.limits.most ≤ length i.bytes.items = omega arith in
    subst (λ (v : Taken). too_long_in v.most v.short (v.bytes ++ b ∷ []) ≡ Some 0) c.self.view_is (whole_passes i.limits.most i.limits.short i.bytes.items b k.within within full)

pub lines_after-self-inside-requires : goal.lines_after-self-inside-requires
lines_after-self-inside-requires c =
    let i = c.self.inside in
    let k = c.self.invariant in
    let h = lines_fit i.limits.most i.limits.short i.bytes.items i.lines i.column k in
    omega (arith, h, k.most)

pub invariant_of-self-2 : goal.invariant_of-self-2
invariant_of-self-2 c =
    let i = c.self.inside in
    let k = c.self.invariant in
    let b = c.args.byte in
    let most = i.limits.most in
    let short = i.limits.short in
    let new : c.push.new.self.items ≡ i.bytes.items ++ b ∷ [] = search rules in
    let within : column_after i.column b ≤ short = subst (λ r. r ≤ short) c.column_after-column.ensures c.if-self-column.false in
    let room : length i.bytes.items < most = omega arith in
    let more : IsCounted most short (i.bytes.items ++ b ∷ []) (lines_after i.lines b) (column_after i.column b) = counted most short i.bytes.items b k.within i.lines i.column k within room in
    let there : IsCounted most short c.push.new.self.items (lines_after i.lines b) (column_after i.column b) = subst (λ t. IsCounted most short t (lines_after i.lines b) (column_after i.column b)) (sym new) more in
    let column : IsCounted most short c.push.new.self.items (lines_after i.lines b) c.column_after-column.result = subst (λ n. IsCounted most short c.push.new.self.items (lines_after i.lines b) n) (sym c.column_after-column.ensures) there in
    subst (λ n. IsCounted most short c.push.new.self.items n c.column_after-column.result) (sym c.lines_after-self-inside.ensures) column

pub returns-clause-ok : goal.returns-clause-ok
returns-clause-ok c =
    let i = c.self.inside in
    let k = c.self.invariant in
    let b = c.args.byte in
    let new : c.push.new.self.items ≡ i.bytes.items ++ b ∷ [] = search rules in
    let within : column_after i.column b ≤ i.limits.short = subst (λ r. r ≤ i.limits.short) c.column_after-column.ensures c.if-self-column.false in
    let room : length i.bytes.items < i.limits.most = omega arith in
    let more = counted i.limits.most i.limits.short i.bytes.items b k.within i.lines i.column k within room in
    subst (λ (v : Taken). CameOn v (record { most = i.limits.most; short = i.limits.short; bytes = c.push.new.self.items }) (b ∷ [])) c.self.view_is
    (record { most = refl; short = refl; bytes = new; within = subst (KeepsLimits i.limits.most i.limits.short) (sym new) more.within })
