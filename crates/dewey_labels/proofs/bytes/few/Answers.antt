use Rattle.std.proofs.Common.{ap, length, ◌∙◌}
use Rattle.std.proofs.lemmas.List.{take_at}
use Rattle.dewey_labels.proofs.bytes.few.Goals as goal

pub invariant_of-result : goal.invariant_of-result
invariant_of-result c = c.requires

pub returns : goal.returns
returns c =
    take_at c.copy_from_slice.new.self _ (length c.args.bytes.now) (ap length c.copy_from_slice.ensures.after) ∙ c.copy_from_slice.ensures.after
