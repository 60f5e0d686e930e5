use Rattle.outside_traits.proofs.ImageLaws.{image-put_at_or_past, image-shorter}
use Rattle.outside_traits.proofs.crash_laws.any_bytes_and_any_length_of_what_is_open.Goals as goal

pub returns : goal.returns
returns c = record { bytes = image-put_at_or_past; length = image-shorter }
