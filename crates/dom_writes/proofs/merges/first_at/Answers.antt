use Rattle.std.proofs.Common.{◌-◌, Some, is_eq, length, slice_index_or, take, drop, sym, ap, ◌∙◌}
use Rattle.tree_model.specs.declared.key.Key.{Key}
use Rattle.tree_model.specs.declared.record.Record.{Record}
use Rattle.tree_model.specs.Entries.{Entries}
use Rattle.dom_writes.proofs.MergeLaws.{above_here, above_missing, here, missing_here, same_first, with_first}
use Rattle.dom_writes.proofs.merges.first_at.Goals as goal

pub returns-then-is_eq-clause-at : goal.returns-then-is_eq-clause-at
returns-then-is_eq-clause-at c =
    let k = c.args.key.now in
    let es : Entries = c.args.entries.now in
    let e : Key × Record = slice_index_or es 0 c.index-entries-0.result in
    let some = c.in-len1-up.len_at_least in
    ap (λ (x : Key × Record). Some x.1) (same_first es c.index-entries-0-2.result c.index-entries-0.result some)
    ∙ here k e es (take (length es - 1) (drop 1 es)) (with_first es c.index-entries-0.result some) (sym (c.is_eq.ensures ∙ ap is_eq c.cmp.ensures) ∙ c.if-is_eq.true)

pub returns-then-is_eq-clause-above : goal.returns-then-is_eq-clause-above
returns-then-is_eq-clause-above c =
    let k = c.args.key.now in
    let es : Entries = c.args.entries.now in
    let e : Key × Record = slice_index_or es 0 c.index-entries-0.result in
    above_here k e es (take (length es - 1) (drop 1 es)) (with_first es c.index-entries-0.result c.in-len1-up.len_at_least) c.requires.sorted
    (sym (c.is_eq.ensures ∙ ap is_eq c.cmp.ensures) ∙ c.if-is_eq.true)

pub returns-else-is_eq-clause-at : goal.returns-else-is_eq-clause-at
returns-else-is_eq-clause-at c =
    let k = c.args.key.now in
    let es : Entries = c.args.entries.now in
    let e : Key × Record = slice_index_or es 0 c.index-entries-0.result in
    missing_here k e es (take (length es - 1) (drop 1 es)) (with_first es c.index-entries-0.result c.in-len1-up.len_at_least) c.requires.sorted c.requires.none_below
    (sym (c.is_eq.ensures ∙ ap is_eq c.cmp.ensures) ∙ c.if-is_eq.false)

pub returns-else-is_eq-clause-above : goal.returns-else-is_eq-clause-above
returns-else-is_eq-clause-above c =
    let k = c.args.key.now in
    let es : Entries = c.args.entries.now in
    let e : Key × Record = slice_index_or es 0 c.index-entries-0.result in
    above_missing k e es (take (length es - 1) (drop 1 es)) (with_first es c.index-entries-0.result c.in-len1-up.len_at_least) c.requires.sorted c.requires.none_below
    (sym (c.is_eq.ensures ∙ ap is_eq c.cmp.ensures) ∙ c.if-is_eq.false)
