use Rattle.std.proofs.Common.{◌∙◌}
use Rattle.page_store.specs.Images.{written_over}
use Rattle.checkpoint.specs.inside.Phases.{HasWritten}
use Rattle.checkpoint.proofs.PhaseLaws.{after_first, after_second, after_third, synced_again}
use Rattle.checkpoint.proofs.phases.write_images.Goals as goal

pub returns-in_err-append_images-clause-phases : goal.returns-in_err-append_images-clause-phases
returns-in_err-append_images-clause-phases g c known of_pages contents stood holds =
    after_first c.args.number c.args.body.now c.args.images.now c.requires.body contents c.args.journal.now.history (g.P.Disk.history c.args.pages.now)
    (c.is_usable-usable.ensures.groups known c.requires.usable.unfailed) (c.requires.synced of_pages) stood holds
    c.append_images.new.self.history (c.append_images.ensures.any_moment known)

pub returns-in_err-install-clause-phases : goal.returns-in_err-install-clause-phases
returns-in_err-install-clause-phases g c known of_pages contents stood holds =
    after_second c.args.number c.args.body.now c.args.images.now c.requires.body contents c.args.journal.now.history (g.P.Disk.history c.args.pages.now)
    (c.is_usable-usable.ensures.groups known c.requires.usable.unfailed) (c.requires.synced of_pages) stood holds
    c.append_images.new.self.history (c.append_images.ensures.any_moment known) (c.in_ok-append_images.ensures.durable known).durable
    (g.P.Disk.history c.install.new.pages) (c.install.ensures.any_moment of_pages)

pub returns-in_err-reset-clause-phases : goal.returns-in_err-reset-clause-phases
returns-in_err-reset-clause-phases g c known of_pages contents stood holds =
    let p0 = g.P.Disk.history c.args.pages.now in
    let p1 = g.P.Disk.history c.install.new.pages in
    let written : HasWritten c.args.images.now p0 p1 = record {
      pages = c.in_ok-install.ensures.pages of_pages;
      others = c.in_ok-install.ensures.others of_pages;
      synced = synced_again p1 (written_over c.args.images.now p0.now.reads) (c.in_ok-install.ensures.written of_pages);
    } in
    after_third c.args.number c.args.body.now c.args.images.now c.requires.body contents c.args.journal.now.history p0
    (c.is_usable-usable.ensures.groups known c.requires.usable.unfailed) (c.requires.synced of_pages) stood holds
    c.append_images.new.self.history (c.append_images.ensures.any_moment known) (c.in_ok-append_images.ensures.durable known).durable
    p1 (c.install.ensures.any_moment of_pages) written (c.in_ok-append_images.ensures.durable known).groups
    c.reset.new.self.history (c.reset.ensures.any_moment known)

pub returns-clause-phases : goal.returns-clause-phases
returns-clause-phases g c known of_pages contents stood holds =
    let p0 = g.P.Disk.history c.args.pages.now in
    let p1 = g.P.Disk.history c.install.new.pages in
    let written : HasWritten c.args.images.now p0 p1 = record {
      pages = c.in_ok-install.ensures.pages of_pages;
      others = c.in_ok-install.ensures.others of_pages;
      synced = synced_again p1 (written_over c.args.images.now p0.now.reads) (c.in_ok-install.ensures.written of_pages);
    } in
    after_third c.args.number c.args.body.now c.args.images.now c.requires.body contents c.args.journal.now.history p0
    (c.is_usable-usable.ensures.groups known c.requires.usable.unfailed) (c.requires.synced of_pages) stood holds
    c.append_images.new.self.history (c.append_images.ensures.any_moment known) (c.in_ok-append_images.ensures.durable known).durable
    p1 (c.install.ensures.any_moment of_pages) written (c.in_ok-append_images.ensures.durable known).groups
    c.reset.new.self.history (c.reset.ensures.any_moment known)

pub returns-clause-written : goal.returns-clause-written
returns-clause-written g c of_pages = record {
  pages = c.in_ok-install.ensures.pages of_pages;
  others = c.in_ok-install.ensures.others of_pages;
  synced = synced_again (g.P.Disk.history c.install.new.pages) (written_over c.args.images.now (g.P.Disk.history c.args.pages.now).now.reads) (c.in_ok-install.ensures.written of_pages);
}

pub returns-clause-cleared : goal.returns-clause-cleared
returns-clause-cleared g c = record {
  usable = c.in_ok-reset.ensures.ok.usable;
  last = c.in_ok-reset.ensures.ok.last ∙ c.in_ok-append_images.ensures.ok.last;
  gate = c.in_ok-reset.ensures.ok.gate;
  none = λ known. (c.in_ok-reset.ensures.durable known).groups;
  synced = λ known. (c.in_ok-reset.ensures.durable known).synced;
}
