use Rattle.std.proofs.Common.{ap}
use Rattle.recovery.proofs.NetLaws.{layer_is}
use Rattle.recovery.proofs.netting.layer_of.Goals as goal

pub returns : goal.returns
returns c = layer_is c.args.changes c.new-own.result c.add.new.self c.new-layers.result.changes c.push_layer.new.self.changes c.requires.list c.new-own.ensures c.in_ok-add.ensures.changes (ap (λ l. l.changes) c.new-layers.ensures) c.push_layer.ensures.changes
