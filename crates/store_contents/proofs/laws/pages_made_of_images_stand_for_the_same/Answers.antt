use Rattle.store_contents.proofs.HiddenLaws.{stand_alone}
use Rattle.store_contents.proofs.laws.pages_made_of_images_stand_for_the_same.Goals as goal

pub returns : goal.returns
returns c = λ journal cleared file made groups images contents reads some opens keeps are none. stand_alone journal file groups images contents reads some opens cleared made none keeps are
