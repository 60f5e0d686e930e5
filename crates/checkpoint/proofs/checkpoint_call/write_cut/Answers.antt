use Rattle.std.proofs.Common.{◌≡◌, ◌≤◌, ℕ, List, length, take, Option, Some, refl, sym, ap, subst, ◌∙◌, arith}
use Rattle.std.proofs.lemmas.List.{length-take}
use Rattle.std.specs.Prelude.{is_some}
use Rattle.outside_traits.specs.DiskPairs.{pair_of}
use Rattle.outside_traits.specs.Moments.{History, IsAllSynced}
use Rattle.page_store.specs.Images.{AreImages, Rising}
use Rattle.journal.specs.Groups.{is_last}
use Rattle.journal.specs.PageImages.{images_body, images_in}
use Rattle.journal.specs.Views.{JournalView}
use Rattle.checkpoint.specs.Checkpoints.{OpenAs}
use Rattle.checkpoint.specs.NewPages.{new_pages}
use Rattle.checkpoint.specs.inside.Gathered.{AreWhole}
use Rattle.checkpoint.specs.inside.Phases.{HasWritten, stored}
use Rattle.checkpoint.proofs.RefusedLaws.{all_written_cause, memory_refused, read_refused}
use Rattle.checkpoint.proofs.WriteLaws.{can_be_installed, is_short, phases_written, read_again, tree_written, untouched}
use Rattle.checkpoint.proofs.checkpoint_call.write_cut.Goals as goal

-- ---- what is called

pub new_pages-requires : goal.new_pages-requires
new_pages-requires g c =
    let n = c.whole_front-front.result in
    let taken : c.truncate.new.self ≡ take n c.args.cut = c.truncate.ensures in
    record {
      few = omega (arith, c.whole_front-front.ensures.few, ap (λ (l : List (List ℕ)). length l) taken, length-take {A = List ℕ} n c.args.cut);
      whole = subst AreWhole (sym (taken ∙ ap (take n) (sym c.as_slice.ensures))) c.whole_front-front.ensures.whole;
    }

pub images_body-requires : goal.images_body-requires
images_body-requires g c = omega (arith, c.in_ok-gathered.ensures.gathered.few, ap (λ (l : List (ℕ × List ℕ)). length l) c.as_slice-images.ensures)

pub write_images-requires : goal.write_images-requires
write_images-requires g c =
    let images = c.in_ok-gathered.gathered in
    let made = c.in_ok-make_room.ensures.ok in
    let p0 = g.P.Disk.history c.args.pages.now in
    let p1 = g.P.Disk.history c.new_pages.new.disk in
    let of_images : c.as_slice-images.result.now ≡ images = c.as_slice-images.ensures in
    let of_body : c.as_slice-bytes.result.now ≡ images_body images = c.as_slice-bytes.ensures ∙ c.in_ok-body.ensures ∙ ap images_body of_images in
    let again : images_in c.as_slice-bytes.result.now ≡ Some images = read_again images c.as_slice-bytes.result.now c.in_ok-gathered.ensures.gathered of_body in
    record {
      usable = record {
        unfailed = ap (λ (j : JournalView). j.failed) made ∙ c.requires.usable.unfailed;
        unheld = ap (λ (j : JournalView). j.has_images) made ∙ c.requires.usable.unheld;
      };
      images = record {
        same = ap (λ (j : JournalView). is_last j.last c.args.number) made ∙ c.requires.last;
        is_body = ap (λ (o : Option (List (ℕ × List ℕ))). is_some o) again;
        short = is_short images c.as_slice-bytes.result.now c.in_ok-gathered.ensures.gathered of_body;
      };
      body = again ∙ ap (λ (l : List (ℕ × List ℕ)). Some l) (sym of_images);
      room = omega (arith, c.in_ok-make_room.ensures.room, c.len.ensures, ap (λ (l : List ℕ). length l) c.as_slice-bytes.ensures);
      rising = subst Rising (sym of_images) c.in_ok-gathered.ensures.gathered.rising;
      synced = λ tp. subst IsAllSynced (sym (c.new_pages.ensures.same tp)) (c.requires.synced tp);
      within = λ tp.
          let n = c.whole_front-front.result in
          let taken : c.truncate.new.self ≡ take n c.args.cut = c.truncate.ensures in
          let whole : AreWhole c.truncate.new.self = subst AreWhole (sym (taken ∙ ap (take n) (sym c.as_slice.ensures))) c.whole_front-front.ensures.whole in
          subst (λ (h : History). AreImages (length h.now.reads) c.as_slice-images.result.now) (sym (c.new_pages.ensures.same tp))
          (can_be_installed c.truncate.new.self p0.now.reads c.as_slice-images.result.now whole (of_images ∙ c.in_ok-gathered.ensures.pages tp));
    }

-- ---- the pages' disk failed in a read, or memory was wanting

pub returns-in_err-gathered-clause-phases : goal.returns-in_err-gathered-clause-phases
returns-in_err-gathered-clause-phases g c tj tp t is stood =
    untouched (OpenAs (stored t c.args.number)) c.args.journal.now.history (g.P.Disk.history c.args.pages.now) c.args.journal.now.history (g.P.Disk.history c.new_pages.new.disk) refl (c.new_pages.ensures.same tp)

pub returns-in_err-gathered-clause-unwritten : goal.returns-in_err-gathered-clause-unwritten
returns-in_err-gathered-clause-unwritten g c = λ e. record { same_journal = refl; same_pages = c.new_pages.ensures.same }

pub returns-in_err-gathered-clause-cause : goal.returns-in_err-gathered-clause-cause
returns-in_err-gathered-clause-cause g c = read_refused c.new_pages.result c.from_residual.result c.in_err-gathered.field-0.0 c.args.journal.now.faults (g.P.Disk.faults c.args.pages.now) (g.P.Disk.faults c.new_pages.new.disk) c.from_residual.ensures.1 c.in_err-gathered.was c.new_pages.ensures.cause

pub returns-in_err-body-clause-phases : goal.returns-in_err-body-clause-phases
returns-in_err-body-clause-phases g c tj tp t is stood =
    untouched (OpenAs (stored t c.args.number)) c.args.journal.now.history (g.P.Disk.history c.args.pages.now) c.args.journal.now.history (g.P.Disk.history c.new_pages.new.disk) refl (c.new_pages.ensures.same tp)

pub returns-in_err-body-clause-unwritten : goal.returns-in_err-body-clause-unwritten
returns-in_err-body-clause-unwritten g c = λ e. record { same_journal = refl; same_pages = c.new_pages.ensures.same }

pub returns-in_err-body-clause-cause : goal.returns-in_err-body-clause-cause
returns-in_err-body-clause-cause g c = memory_refused c.from_residual-in_err-body.result c.args.journal.now.faults c.args.journal.now.faults (g.P.Disk.faults c.args.pages.now) (g.P.Disk.faults c.new_pages.new.disk) c.from_residual-in_err-body.ensures.1 refl c.in_ok-gathered.ensures.cause.exact

pub returns-in_err-make_room-clause-phases : goal.returns-in_err-make_room-clause-phases
returns-in_err-make_room-clause-phases g c tj tp t is stood =
    untouched (OpenAs (stored t c.args.number)) c.args.journal.now.history (g.P.Disk.history c.args.pages.now) c.make_room.new.self.history (g.P.Disk.history c.new_pages.new.disk)
    (ap (λ (j : JournalView). j.history) c.in_err-make_room.ensures.err) (c.new_pages.ensures.same tp)

pub returns-in_err-make_room-clause-unwritten : goal.returns-in_err-make_room-clause-unwritten
returns-in_err-make_room-clause-unwritten g c = λ e. record {
  same_journal = c.in_err-make_room.ensures.err ∙ (λ i. record c.args.journal.now { room = (sym c.in_err-make_room.ensures.err i).room });
  same_pages = c.new_pages.ensures.same;
}

pub returns-in_err-make_room-clause-cause : goal.returns-in_err-make_room-clause-cause
returns-in_err-make_room-clause-cause g c =
    memory_refused c.from_residual-in_err-make_room.result c.args.journal.now.faults c.make_room.new.self.faults (g.P.Disk.faults c.args.pages.now) (g.P.Disk.faults c.new_pages.new.disk) c.from_residual-in_err-make_room.ensures.1 (ap (λ (j : JournalView). j.faults) c.in_err-make_room.ensures.err) c.in_ok-gathered.ensures.cause.exact

-- ---- all was written

pub returns-in-Ok-clause-cleared : goal.returns-in-Ok-clause-cleared
returns-in-Ok-clause-cleared g c = c.in-Ok.ensures.cleared

pub returns-in-Ok-clause-synced : goal.returns-in-Ok-clause-synced
returns-in-Ok-clause-synced g c = λ tp. (c.in-Ok.ensures.written tp).synced

pub returns-in-Ok-clause-pages : goal.returns-in-Ok-clause-pages
returns-in-Ok-clause-pages g c tp t is =
    let n = c.whole_front-front.result in
    let file = (g.P.Disk.history c.args.pages.now).now.reads in
    let of_images : c.as_slice-images.result.now ≡ c.in_ok-gathered.gathered = c.as_slice-images.ensures in
    let gathered : c.in_ok-gathered.gathered ≡ new_pages 0 (take n c.args.cut) file = c.in_ok-gathered.ensures.pages tp ∙ ap (λ (l : List (List ℕ)). new_pages 0 l file) c.truncate.ensures in
    let all = λ (whole : AreWhole c.args.cut) (few : length c.args.cut ≤ 32_768).
    c.whole_front-front.ensures.all (subst AreWhole (sym c.as_slice.ensures) whole) (omega (arith, few, ap (λ (l : List (List ℕ)). length l) c.as_slice.ensures)) ∙ ap (λ (l : List (List ℕ)). length l) c.as_slice.ensures in
    tree_written t c.args.number c.ranges.number.fits c.args.cut is n all file c.in_ok-gathered.gathered gathered (g.P.Disk.history c.new_pages.new.disk) (g.P.Disk.history c.write_images.new.pages)
    (ap (λ (h : History). h.now.reads) (c.new_pages.ensures.same tp))
    (subst (λ (l : List (ℕ × List ℕ)). HasWritten l (g.P.Disk.history c.new_pages.new.disk) (g.P.Disk.history c.write_images.new.pages)) of_images (c.in-Ok.ensures.written tp))

pub returns-in-Ok-clause-phases : goal.returns-in-Ok-clause-phases
returns-in-Ok-clause-phases g c tj tp t is stood =
    let n = c.whole_front-front.result in
    let j = c.args.journal.now.history in
    let p = g.P.Disk.history c.args.pages.now in
    let gathered : c.in_ok-gathered.gathered ≡ new_pages 0 (take n c.args.cut) p.now.reads = c.in_ok-gathered.ensures.pages tp ∙ ap (λ (l : List (List ℕ)). new_pages 0 l p.now.reads) c.truncate.ensures in
    let all = λ (whole : AreWhole c.args.cut) (few : length c.args.cut ≤ 32_768).
    c.whole_front-front.ensures.all (subst AreWhole (sym c.as_slice.ensures) whole) (omega (arith, few, ap (λ (l : List (List ℕ)). length l) c.as_slice.ensures)) ∙ ap (λ (l : List (List ℕ)). length l) c.as_slice.ensures in
    phases_written t c.args.number c.ranges.number.fits c.args.cut is n all j p c.make_room.new.self.history (g.P.Disk.history c.new_pages.new.disk)
    (pair_of c.write_images.new.journal.history (g.P.Disk.history c.write_images.new.pages)) c.in_ok-gathered.gathered c.as_slice-images.result.now
    (ap (λ (v : JournalView). v.history) c.in_ok-make_room.ensures.ok) (c.new_pages.ensures.same tp) gathered c.as_slice-images.ensures stood
    (c.write_images.ensures.phases tj tp)

pub returns-in-Ok-clause-unwritten : goal.returns-in-Ok-clause-unwritten
returns-in-Ok-clause-unwritten g c = λ e. cc

pub returns-in-Ok-clause-cause : goal.returns-in-Ok-clause-cause
returns-in-Ok-clause-cause g c = all_written_cause c.args.journal.now.faults c.write_images.new.journal.faults (g.P.Disk.faults c.args.pages.now) (g.P.Disk.faults c.write_images.new.pages) (c.in-Ok.ensures.cause.exact.0 ∙ ap (λ (v : JournalView). v.faults) c.in_ok-make_room.ensures.ok) (c.in-Ok.ensures.cause.exact.1 ∙ c.in_ok-gathered.ensures.cause.exact)

-- ---- a disk failed while it was written

pub returns-clause-phases : goal.returns-clause-phases
returns-clause-phases g c tj tp t is stood =
    let n = c.whole_front-front.result in
    let j = c.args.journal.now.history in
    let p = g.P.Disk.history c.args.pages.now in
    let gathered : c.in_ok-gathered.gathered ≡ new_pages 0 (take n c.args.cut) p.now.reads = c.in_ok-gathered.ensures.pages tp ∙ ap (λ (l : List (List ℕ)). new_pages 0 l p.now.reads) c.truncate.ensures in
    let all = λ (whole : AreWhole c.args.cut) (few : length c.args.cut ≤ 32_768).
    c.whole_front-front.ensures.all (subst AreWhole (sym c.as_slice.ensures) whole) (omega (arith, few, ap (λ (l : List (List ℕ)). length l) c.as_slice.ensures)) ∙ ap (λ (l : List (List ℕ)). length l) c.as_slice.ensures in
    phases_written t c.args.number c.ranges.number.fits c.args.cut is n all j p c.make_room.new.self.history (g.P.Disk.history c.new_pages.new.disk)
    (pair_of c.write_images.new.journal.history (g.P.Disk.history c.write_images.new.pages)) c.in_ok-gathered.gathered c.as_slice-images.result.now
    (ap (λ (v : JournalView). v.history) c.in_ok-make_room.ensures.ok) (c.new_pages.ensures.same tp) gathered c.as_slice-images.ensures stood
    (c.write_images.ensures.phases tj tp)
