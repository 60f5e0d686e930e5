use Rattle.std.proofs.Common.{◌≡◌, ◌∙◌, ℕ, None, inr, take, length, sym, ap, subst}
use Rattle.outside_traits.specs.DiskPairs.{pair_of}
use Rattle.outside_traits.specs.Faults.{FaultCounted}
use Rattle.outside_traits.specs.Moments.{History, IsAllSynced}
use Rattle.page_store.specs.Images.{AreImages, Rising}
use Rattle.recovery.specs.inside.Finishing.{ArePages, ready_front}
use Rattle.recovery.specs.Causes.{OneRose}
use Rattle.recovery.proofs.FinishLaws.{finished, front_unfinished, put_moments, still, untouched_at}
use Rattle.recovery.proofs.ImagePages.{read_pages}
use Rattle.recovery.proofs.PagedSteps.{reason_leads}
use Rattle.recovery.proofs.ReadyLaws.{ready_images, ready_rising}
use Rattle.recovery.proofs.finishing.put_in.Goals as goal

pub returns-in-Err-clause-any_moment : goal.returns-in-Err-clause-any_moment
returns-in-Err-clause-any_moment g c tj tp = still c.args.journal.now.history (g.P.Disk.history c.args.pages.now) (g.P.Disk.history c.tested.new.pages) (c.tested.ensures.same tp)

pub returns-in-Err-clause-reason : goal.returns-in-Err-clause-reason
returns-in-Err-clause-reason g c = reason_leads _ _ _ _ c.in-Err.fault
    (λ place is tj tp.
    let held = c.requires.holds tj in
    untouched_at c.args.journal.now.history (g.P.Disk.history c.args.pages.now) (g.P.Disk.history c.tested.new.pages) c.args.images.now place held (c.tested.ensures.same tp)
    (is tp (read_pages c.args.journal.now.history.now.reads held.groups held.reads c.args.images.now held.has)))
    (λ rose. inr rose) c.in-Err.ensures.reason

-- ---- how long the file is couldn't be read

pub returns-in-Err-len-clause-any_moment : goal.returns-in-Err-len-clause-any_moment
returns-in-Err-len-clause-any_moment g c tj tp =
    still c.args.journal.now.history (g.P.Disk.history c.args.pages.now) (g.P.Disk.history c.len.new.self) (c.len.ensures.same tp ∙ c.tested.ensures.same tp)

pub returns-in-Err-len-clause-reason : goal.returns-in-Err-len-clause-reason
returns-in-Err-len-clause-reason g c = inr (subst (λ (n : ℕ). FaultCounted n (g.P.Disk.faults c.len.new.self)) c.in-Ok.ensures.exact (c.len.ensures.cause.failed c.in-Err-len.is))

-- ---- the images are written

pub write_in_place-requires : goal.write_in_place-requires
write_in_place-requires g c =
    let pages = c.args.images.now.pages in
    let count = c.in-Ok.count in
    let size = c.in-Ok-len.size in
    let is : c.front_of-written.result.now ≡ take (ready_front count size None pages) pages =
    c.front_of-written.ensures ∙ (λ i. take ((c.ready_front-ready.ensures.ready ∙ ap (ready_front count size None) c.as_slice-all.ensures) i) (c.as_slice-all.ensures i)) in
    record {
      usable = c.requires.usable;
      synced = λ tp. subst IsAllSynced (sym (c.len.ensures.same tp ∙ c.tested.ensures.same tp)) (c.requires.synced tp);
      within = λ tp.
          let long : length (g.P.Disk.history c.len.new.self).now.reads ≡ size = ap (λ (h : History). length h.now.reads) (c.len.ensures.same tp) ∙ sym (c.in-Ok-len.ensures.value tp) in
          subst (λ (n : ℕ). AreImages n c.front_of-written.result.now) (sym long) (subst (AreImages size) (sym is) (ready_images count size None pages));
      rising = subst Rising (sym is) (ready_rising count size None pages);
    }

pub returns-in-Ok-write_in_place-clause-any_moment : goal.returns-in-Ok-write_in_place-clause-any_moment
returns-in-Ok-write_in_place-clause-any_moment g c tj tp =
    let pages = c.args.images.now.pages in
    let count = c.in-Ok.count in
    let size = c.in-Ok-len.size in
    let held = c.requires.holds tj in
    let are : ArePages pages = read_pages c.args.journal.now.history.now.reads held.groups held.reads c.args.images.now held.has in
    put_moments c.args.journal.now.history (g.P.Disk.history c.args.pages.now) (g.P.Disk.history c.len.new.self) c.args.images.now c.front_of-written.result.now count size held (c.in-Ok.ensures.sound tp are)
    (c.len.ensures.same tp ∙ c.tested.ensures.same tp) (c.in-Ok-len.ensures.value tp ∙ ap (λ (h : History). length h.now.reads) (c.tested.ensures.same tp))
    (c.front_of-written.ensures ∙ (λ i. take ((c.ready_front-ready.ensures.ready ∙ ap (ready_front count size None) c.as_slice-all.ensures) i) (c.as_slice-all.ensures i)))
    (pair_of c.write_in_place.new.journal.history (g.P.Disk.history c.write_in_place.new.pages)) (c.faults.ensures.reads_an_image tj) (c.faults-2.ensures.reads_an_image tp) (c.write_in_place.ensures.phases tj tp)

pub returns-in-Ok-write_in_place-clause-finished : goal.returns-in-Ok-write_in_place-clause-finished
returns-in-Ok-write_in_place-clause-finished g c tj tp =
    let pages = c.args.images.now.pages in
    let count = c.in-Ok.count in
    let size = c.in-Ok-len.size in
    let held = c.requires.holds tj in
    let are : ArePages pages = read_pages c.args.journal.now.history.now.reads held.groups held.reads c.args.images.now held.has in
    let sound = c.in-Ok.ensures.sound tp are in
    let un = front_unfinished c.args.journal.now.history (g.P.Disk.history c.args.pages.now) (g.P.Disk.history c.len.new.self) c.args.images.now c.front_of-written.result.now count size held sound
    (c.len.ensures.same tp ∙ c.tested.ensures.same tp) (c.in-Ok-len.ensures.value tp ∙ ap (λ (h : History). length h.now.reads) (c.tested.ensures.same tp))
    (c.front_of-written.ensures ∙ (λ i. take ((c.ready_front-ready.ensures.ready ∙ ap (ready_front count size None) c.as_slice-all.ensures) i) (c.as_slice-all.ensures i)))
    (pair_of c.write_in_place.new.journal.history (g.P.Disk.history c.write_in_place.new.pages)) in
    finished c.args.journal.now.history (g.P.Disk.history c.args.pages.now) (g.P.Disk.history c.write_in_place.new.pages) c.write_in_place.new.journal.history c.args.images.now sound.contents held sound.is
    (c.in-Ok-write_in_place.ensures.stands tj tp sound.contents un) (c.in-Ok-write_in_place.ensures.cleared tj)

pub returns-in-Ok-write_in_place-clause-exact : goal.returns-in-Ok-write_in_place-clause-exact
returns-in-Ok-write_in_place-clause-exact g c = (c.in-Ok-write_in_place.ensures.exact.0, c.in-Ok-write_in_place.ensures.exact.1 ∙ c.in-Ok-len.ensures.cause.exact ∙ c.in-Ok.ensures.exact)

pub returns-in-Err-write_in_place-clause-any_moment : goal.returns-in-Err-write_in_place-clause-any_moment
returns-in-Err-write_in_place-clause-any_moment g c tj tp =
    let pages = c.args.images.now.pages in
    let count = c.in-Ok.count in
    let size = c.in-Ok-len.size in
    let held = c.requires.holds tj in
    let are : ArePages pages = read_pages c.args.journal.now.history.now.reads held.groups held.reads c.args.images.now held.has in
    put_moments c.args.journal.now.history (g.P.Disk.history c.args.pages.now) (g.P.Disk.history c.len.new.self) c.args.images.now c.front_of-written.result.now count size held (c.in-Ok.ensures.sound tp are)
    (c.len.ensures.same tp ∙ c.tested.ensures.same tp) (c.in-Ok-len.ensures.value tp ∙ ap (λ (h : History). length h.now.reads) (c.tested.ensures.same tp))
    (c.front_of-written.ensures ∙ (λ i. take ((c.ready_front-ready.ensures.ready ∙ ap (ready_front count size None) c.as_slice-all.ensures) i) (c.as_slice-all.ensures i)))
    (pair_of c.write_in_place.new.journal.history (g.P.Disk.history c.write_in_place.new.pages)) (c.faults.ensures.reads_an_image tj) (c.faults-2.ensures.reads_an_image tp) (c.write_in_place.ensures.phases tj tp)

pub returns-in-Err-write_in_place-clause-reason : goal.returns-in-Err-write_in_place-clause-reason
returns-in-Err-write_in_place-clause-reason g c =
    subst (λ (n : ℕ). OneRose c.args.journal.now.faults c.write_in_place.new.journal.faults n (g.P.Disk.faults c.write_in_place.new.pages)) (c.in-Ok-len.ensures.cause.exact ∙ c.in-Ok.ensures.exact)
    (c.write_in_place.ensures.fault c.in-Err-write_in_place.is)
