use Rattle.outside_traits.proofs.MomentLaws.{image-prefix}
use Rattle.outside_traits.proofs.crash_laws.image_of_a_prefix.Goals as goal

pub returns : goal.returns
returns c = record { law = image-prefix }
