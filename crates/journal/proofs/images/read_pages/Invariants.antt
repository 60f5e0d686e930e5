use Rattle.std.proofs.Common.{◌≡◌}
use Rattle.journal.specs.PageImages.{images_of}
use Rattle.journal.proofs.ImageLaws.{with_pages}
use Rattle.journal.proofs.images.read_pages.Given as goal

abbrev pub invariant-loop-left : goal.invariant-loop-left
invariant-loop-left l = with_pages l.pages (images_of l.left l.rest) ≡ images_of l.fn.count l.bytes

abbrev pub decreases-loop-left : goal.decreases-loop-left
decreases-loop-left l = l.left
