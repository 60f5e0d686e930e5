use Rattle.store_contents.proofs.HiddenLaws.{hidden}
use Rattle.store_contents.proofs.laws.images_hide_what_stands_in_their_places.Goals as goal

pub returns : goal.returns
returns c = λ journal file pages groups images contents reads some opens keeps. hidden journal file groups images contents reads some opens pages keeps
