use Rattle.std.proofs.Common.{subst}
use Rattle.tree_rules.specs.declared.path.Room.{Room}
use Rattle.tree_rules.specs.inside.Paths.{HasGone}
use Rattle.tree_rules.proofs.PathLaws.{has_gone}
use Rattle.tree_rules.proofs.path.go_to.Goals as goal

pub returns : goal.returns
returns c =
    subst (λ (room : Room). HasGone c.args.label.now room c.args.path.now.items c.push.new.self.items) c.room_of.ensures
    (has_gone c.args.label.now (record { label = c.in_ok-copy.field-0; room = c.room_of.result }) c.args.path.now.items c.go_up.new.path.items c.push.new.self.items
    c.in_ok-copy.ensures c.in_ok-push.ensures.items c.go_up.ensures.above c.go_up.ensures.fewer)
