use Rattle.std.proofs.Common.{◌≡◌, ◌-◌, is_lt, Less, length, sym, ap, subst, ◌∙◌, arith}
use Rattle.tree_model.specs.declared.change.Change.{Change}
use Rattle.tree_model.specs.Keys.{key_cmp}
use Rattle.tree_model.proofs.Orders.{lt_is}
use Rattle.overlays.proofs.PlaceLaws.{belongs_before, belongs_behind}
use Rattle.overlays.proofs.run.outside.Goals as goal

pub returns-then-is_lt : goal.returns-then-is_lt
returns-then-is_lt c =
    let cs = c.args.changes.now in
    let k = c.args.key.now in
    let enough = c.in-len2-up.len_at_least in
    let less : key_cmp c.last-item.result.key k ≡ Less = lt_is (key_cmp c.last-item.result.key k) (ap is_lt (sym c.cmp.ensures) ∙ sym c.is_lt.ensures ∙ c.if-is_lt.true) in
    belongs_behind k cs (length cs - 1) c.last-item.result (omega (arith, enough)) c.requires (subst (λ (d : Change). key_cmp d.key k ≡ Less) c.last-item.is less)

pub returns-then-is_lt-2 : goal.returns-then-is_lt-2
returns-then-is_lt-2 c =
    let cs = c.args.changes.now in
    let k = c.args.key.now in
    let enough = c.in-len2-up.len_at_least in
    let less : key_cmp k c.first-item.result.key ≡ Less = lt_is (key_cmp k c.first-item.result.key) (ap is_lt (sym c.cmp-else-is_lt.ensures) ∙ sym c.is_lt-else-is_lt.ensures ∙ c.if-is_lt-2.true) in
    belongs_before k cs c.first-item.result (omega (arith, enough)) c.requires (subst (λ (d : Change). key_cmp k d.key ≡ Less) c.first-item.is less)
