use Rattle.recovery.proofs.SyncSteps.{journal_fails, pages_fail, both}
use Rattle.recovery.proofs.syncing.sync_both.Goals as goal

pub returns-in_err-sync-clause-any_moment : goal.returns-in_err-sync-clause-any_moment
returns-in_err-sync-clause-any_moment g c of_journal of_pages = journal_fails _ _ _ (c.in_err-sync.ensures.err of_journal)

pub returns-in_err-sync-2-clause-any_moment : goal.returns-in_err-sync-2-clause-any_moment
returns-in_err-sync-2-clause-any_moment g c of_journal of_pages =
    pages_fail _ _ _ (c.faults.ensures.reads_an_image of_journal) (c.in_ok-sync.ensures.ok of_journal) _ (c.in_err-sync-2.ensures.err of_pages)

pub returns-clause-any_moment : goal.returns-clause-any_moment
returns-clause-any_moment g c of_journal of_pages =
    both _ _ _ (c.faults.ensures.reads_an_image of_journal) (c.in_ok-sync.ensures.ok of_journal) _
    (c.faults-2.ensures.reads_an_image of_pages) (c.in_ok-sync-2.ensures.ok of_pages)
