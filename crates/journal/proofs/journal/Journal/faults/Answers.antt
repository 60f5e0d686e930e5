use Rattle.std.proofs.Common.{subst}
use Rattle.outside_traits.specs.CrashImages.{IsImage}
use Rattle.journal.specs.Views.{JournalView}
use Rattle.journal.proofs.journal.Journal.faults.Goals as goal

pub returns-clause-reads_an_image : goal.returns-clause-reads_an_image
returns-clause-reads_an_image g c is_known = subst (λ (v : JournalView). IsImage v.history.now v.history.now.reads) c.self.view_is (c.faults.ensures.reads_an_image is_known)
