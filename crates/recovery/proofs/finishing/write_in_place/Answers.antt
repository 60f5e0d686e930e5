use Rattle.page_store.specs.Images.{written_over}
use Rattle.recovery.proofs.FinishLaws.{after_pages, after_reset, alone_opens, synced_again}
use Rattle.recovery.proofs.finishing.write_in_place.Goals as goal

pub returns-in_err-install-clause-phases : goal.returns-in_err-install-clause-phases
returns-in_err-install-clause-phases g c known of_pages contents un =
    after_pages c.args.journal.now.history (g.P.Disk.history c.args.pages.now) c.args.images.now contents un
    (c.is_usable-usable.ensures.settled known c.requires.usable) (g.P.Disk.history c.install.new.pages) (c.install.ensures.any_moment of_pages)

pub returns-in_err-reset-clause-phases : goal.returns-in_err-reset-clause-phases
returns-in_err-reset-clause-phases g c known of_pages contents un =
    let p1 = g.P.Disk.history c.install.new.pages in
    after_reset c.args.journal.now.history (g.P.Disk.history c.args.pages.now) c.args.images.now contents un
    (c.is_usable-usable.ensures.settled known c.requires.usable) p1 (c.install.ensures.any_moment of_pages)
    (synced_again p1 (written_over c.args.images.now (g.P.Disk.history c.args.pages.now).now.reads) (c.in_ok-install.ensures.written of_pages))
    (c.in_ok-install.ensures.pages of_pages) (c.in_ok-install.ensures.others of_pages) c.reset.new.self.history (c.reset.ensures.any_moment known)

pub returns-clause-phases : goal.returns-clause-phases
returns-clause-phases g c known of_pages contents un =
    let p1 = g.P.Disk.history c.install.new.pages in
    after_reset c.args.journal.now.history (g.P.Disk.history c.args.pages.now) c.args.images.now contents un
    (c.is_usable-usable.ensures.settled known c.requires.usable) p1 (c.install.ensures.any_moment of_pages)
    (synced_again p1 (written_over c.args.images.now (g.P.Disk.history c.args.pages.now).now.reads) (c.in_ok-install.ensures.written of_pages))
    (c.in_ok-install.ensures.pages of_pages) (c.in_ok-install.ensures.others of_pages) c.reset.new.self.history (c.reset.ensures.any_moment known)

pub returns-clause-stands : goal.returns-clause-stands
returns-clause-stands g c known of_pages contents un =
    alone_opens c.args.journal.now.history (g.P.Disk.history c.args.pages.now) c.args.images.now contents un c.reset.new.self.history.now.reads (g.P.Disk.history c.install.new.pages)
    (c.in_ok-reset.ensures.durable known).groups (c.in_ok-install.ensures.pages of_pages) (c.in_ok-install.ensures.others of_pages)

pub returns-clause-cleared : goal.returns-clause-cleared
returns-clause-cleared g c = λ known. (c.in_ok-reset.ensures.durable known).groups
