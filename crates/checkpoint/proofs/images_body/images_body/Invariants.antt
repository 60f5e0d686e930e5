use Rattle.std.proofs.Common.{◌≡◌, ◌++◌, drop}
use Rattle.journal.specs.PageImages.{images_body, images_bytes}
use Rattle.checkpoint.proofs.images_body.images_body.Given as goal

-- what is written, and the images left, are the whole body
abbrev pub invariant-loop-number : goal.invariant-loop-number
invariant-loop-number l = l.body ++ images_bytes (drop l.number-index l.images) ≡ images_body l.images
