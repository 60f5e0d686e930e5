use Rattle.std.proofs.Common.{◌≡◌, length}
use Rattle.journal.specs.PageImages.{numbers_rise}
use Rattle.journal.proofs.images.numbers_rise.Given as goal

abbrev pub invariant-loop-rest : goal.invariant-loop-rest
invariant-loop-rest l = numbers_rise l.rest ≡ numbers_rise l.pages

abbrev pub decreases-loop-rest : goal.decreases-loop-rest
decreases-loop-rest l = length l.rest
