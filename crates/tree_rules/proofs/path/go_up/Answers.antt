use Rattle.std.proofs.Common.{◌≡◌, ℕ, ◌-◌, true, length, take, ◌∙◌, sym, ap}
use Rattle.tree_rules.specs.inside.Paths.{ends_beside, room_at}
use Rattle.tree_rules.proofs.PathLaws.{cut_above, cut_fewer}
use Rattle.tree_rules.proofs.path.go_up.Goals as goal

pub loop-path-preserved : goal.loop-path-preserved
loop-path-preserved c =
    let label = c.args.label.now in
    let items = c.loop-path.path.items in
    let inv = c.loop-path.invariant in
    let ends : ends_beside label items ≡ true = ap (ends_beside label) (sym c.deref.ensures.value) ∙ sym c.ends_beside.ensures ∙ c.loop-path-test.true in
    let long : c.len.result ≡ length items = c.len.ensures ∙ sym c.deref.ensures.len ∙ ap length c.deref.ensures.value in
    let is : c.truncate.new.self.items ≡ take (length items - 1) items = c.truncate.ensures.items ∙ ap (λ (n : ℕ). take (n - 1) items) long in
    record {
      above = λ p a. ap (room_at p) is ∙ cut_above label p items ends a ∙ inv.above p a;
      fewer = λ p r h. inv.fewer p r (cut_fewer p r items (sym (ap (room_at p) is) ∙ h));
    }
