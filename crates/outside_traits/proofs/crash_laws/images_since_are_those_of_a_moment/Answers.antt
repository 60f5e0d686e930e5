use Rattle.outside_traits.proofs.MomentLaws.{was_image, image_since}
use Rattle.outside_traits.proofs.crash_laws.images_since_are_those_of_a_moment.Goals as goal

pub returns : goal.returns
returns c = record { law = λ old new image. (was_image old new image, image_since old new image) }
