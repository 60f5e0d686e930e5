use Rattle.store_contents.proofs.ImagesLaws.{holds_images, images_held}
use Rattle.store_contents.proofs.laws.files_with_images_hold_their_pages.Goals as goal

pub returns-clause-held : goal.returns-clause-held
returns-clause-held c = holds_images

pub returns-clause-stood_for : goal.returns-clause-stood_for
returns-clause-stood_for c = images_held
