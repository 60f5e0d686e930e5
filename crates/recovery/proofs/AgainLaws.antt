-- A store that is opened once more behind a checkpoint that was finished: what holds from the start of both.
use Rattle.std.proofs.Common.{◌≡◌, inl, ⊎_elim, ℕ, Bool, true, false, List, [], Option, None, Result, Ok, Err, IsTrue, sym, ◌∙◌, ap, subst}
use Rattle.std.specs.Prelude.{OnErr, is_some}
use Rattle.outside_traits.specs.DiskPairs.{Pair, pair_of}
use Rattle.outside_traits.specs.Disks.{DiskState, Synced, all_synced}
use Rattle.outside_traits.specs.Moments.{History, IsAllSynced}
use Rattle.tree_model.specs.Entries.{Entries}
use Rattle.node_records.specs.declared.open_error.OpenError.{OpenError}
use Rattle.node_records.specs.declared.open_error.OpenError.TheVariants.{Damaged, DiskFault, NoMemory}
use Rattle.node_records.specs.declared.open_error.Place.{Place}
use Rattle.node_records.specs.declared.open_error.File.TheVariants.{Journal, Pages}
use Rattle.journal.specs.Groups.{only_commits}
use Rattle.journal.specs.Journals.{is_fresh, read}
use Rattle.journal.specs.Refusals.{HasReason, UnlessFault}
use Rattle.journal.specs.declared.group.Groups.{Groups}
use Rattle.journal.specs.declared.group.Images.{Images}
use Rattle.journal.proofs.FreshSteps.{fresh_reads}
use Rattle.store_contents.specs.Contents.{Contents, base_of, contents_of_files, first_broken, place_in}
use Rattle.store_contents.proofs.ContentsLaws.{by_damage}
use Rattle.recovery.specs.Causes.{RiseOnlyAtFault}
use Rattle.recovery.specs.Openings.{AreOpened, AreReady, HasImages, KeepsFiles, KeepsJournal, OpensPages, RefusesPages, UnlessImages}
use Rattle.recovery.specs.inside.Finishing.{IsFinished, IsUntouchedAt}
use Rattle.recovery.specs.inside.Over.{IsRefused, IsRefusedAt}
use Rattle.recovery.proofs.AnswerLaws.{unless_then}

-- ---- words in few parts

groups_same : (journal : List ℕ) (a b : Groups) → read journal ≡ Ok a → read journal ≡ Ok b → a ≡ b
groups_same journal a b x y = let both : ◌≡◌ {A = Result Groups ℕ} (Ok a) (Ok b) = sym x ∙ y in cc

no_images : (journal : List ℕ) → read journal ≡ Ok (only_commits []) → HasImages journal → ⊥
no_images journal none has =
    let is : true ≡ false = sym has.has ∙ ap (λ (gs : Groups). is_some gs.images) (groups_same journal has.groups (only_commits []) has.reads none) in
    cc

contents_clash : (journal pages : List ℕ) (contents : Contents) (place : Place) → contents_of_files journal pages ≡ Ok contents → contents_of_files journal pages ≡ Err place → ⊥
contents_clash journal pages contents place x y = let both : ◌≡◌ {A = Result Contents Place} (Ok contents) (Err place) = sym x ∙ y in cc

-- files that stand for something and have no images aren't refused
not_refused : (journal pages : List ℕ) (contents : Contents) (place : Place) → contents_of_files journal pages ≡ Ok contents → (HasImages journal → ⊥) → IsRefusedAt journal pages place → ⊥
not_refused journal pages contents place stands none refused = ⊎_elim (λ broken. contents_clash journal pages contents place stands broken) (λ images. none images.0) refused

-- ---- behind a checkpoint that was finished

module _ (old f new : Pair) (fin : IsFinished old f) where
  pub opens_finished : (es : Entries) (n : ℕ) → OpensPages f new es n → OpensPages old new es n
  opens_finished es n opens = record { stood = fin.stood ∙ sym fin.stands ∙ opens.stood; stands = opens.stands; alone = opens.alone }

  pub never_refused : (place : Place) → IsRefused f new place → RefusesPages old new place
  never_refused place refused = absurd (not_refused f.journal.now.reads f.pages.now.reads fin.contents place fin.stands (no_images f.journal.now.reads fin.cleared) refused.refused)

-- images were open where a store was refused and a checkpoint was finished
pub had_images : (old f : Pair) (place : Place) → IsFinished old f → IsRefusedAt old.journal.now.reads old.pages.now.reads place → (HasImages old.journal.now.reads → ⊥) → ⊥
had_images old f place fin refused none = not_refused old.journal.now.reads old.pages.now.reads fin.contents place fin.stood none refused

-- ---- where it wasn't

pub untouched_refuses : (old new : Pair) (place : Place) → IsAllSynced old.journal → IsAllSynced old.pages → IsUntouchedAt old new place → RefusesPages old new place
untouched_refuses old new place journal_rests pages_rest is = record {
  broken = is.broken;
  journal = ap (λ (pair : Pair). pair.journal.now) is.same ∙ journal_rests;
  pages = ap (λ (pair : Pair). pair.pages.now) is.same ∙ pages_rest;
}

pub untouched_keeps : (jk pk : Bool) (old new : Pair) → (new.journal ≡ old.journal) × (new.pages ≡ old.pages) → IsAllSynced old.pages → KeepsFiles jk pk old new
untouched_keeps jk pk old new same pages_rest = record {
  journal = λ tj. inl (ap (λ (t : History). t.now.reads) same.0);
  pages = λ tp. ap (λ (t : History). t.now) same.1 ∙ pages_rest;
}

-- a fresh journal has no images
pub fresh_refused : (journal pages : List ℕ) (place : Place) → is_fresh journal ≡ true → IsRefusedAt journal pages place → contents_of_files journal pages ≡ Err place
fresh_refused journal pages place fresh refused = ⊎_elim (λ broken. broken) (λ images. absurd (no_images journal (fresh_reads journal fresh) images.0)) refused

-- ---- from before a sync

module _ (old mid new : Pair) (journal_rests : Synced old.journal.now mid.journal.now) (pages_rest : Synced old.pages.now mid.pages.now) where
  pub refuses_from : (place : Place) → RefusesPages mid new place → RefusesPages old new place
  refuses_from place refuses = record {
    broken = subst (λ (s : DiskState). contents_of_files s.reads old.pages.now.reads ≡ Err place) journal_rests
        (subst (λ (s : DiskState). contents_of_files mid.journal.now.reads s.reads ≡ Err place) pages_rest refuses.broken);
    journal = refuses.journal ∙ ap (λ (s : DiskState). all_synced s.reads) journal_rests;
    pages = refuses.pages ∙ ap (λ (s : DiskState). all_synced s.reads) pages_rest;
  }

  pub keeps_from : (jk pk : Bool) → KeepsFiles jk pk mid new → KeepsFiles jk pk old new
  keeps_from jk pk keeps = record {
    journal = λ tj. subst (λ (s : DiskState). KeepsJournal s.reads new.journal.now.reads) journal_rests (keeps.journal tj);
    pages = λ tp. keeps.pages tp ∙ ap (λ (s : DiskState). all_synced s.reads) pages_rest;
  }

  pub refused_at_after : (place : Place) → IsRefusedAt old.journal.now.reads old.pages.now.reads place → IsRefusedAt mid.journal.now.reads mid.pages.now.reads place
  refused_at_after place refused =
      subst (λ (s : DiskState). IsRefusedAt s.reads mid.pages.now.reads place) (sym journal_rests)
      (subst (λ (s : DiskState). IsRefusedAt old.journal.now.reads s.reads place) (sym pages_rest) refused)

  pub none_from : (HasImages old.journal.now.reads → ⊥) → HasImages mid.journal.now.reads → ⊥
  none_from none has = none (subst (λ (s : DiskState). HasImages s.reads) journal_rests has)

-- both disks were synced, where both are known
abbrev pub RestsBoth : Bool → Bool → Pair → Pair → Type 0
RestsBoth jk pk old mid = IsTrue jk → IsTrue pk → Synced old.journal.now mid.journal.now × Synced old.pages.now mid.pages.now

pub kept_from : (jk pk : Bool) (old mid new : Pair) (fault : OpenError) → RestsBoth jk pk old mid → UnlessFault fault (UnlessImages jk pk mid.journal.now.reads (KeepsFiles jk pk mid new))
    → UnlessFault fault (UnlessImages jk pk old.journal.now.reads (KeepsFiles jk pk old new))
kept_from jk pk old mid new fault rests kept = unless_then _ _ fault (λ keeps tj tp none.
    let both = rests tj tp in keeps_from old mid new both.0 both.1 jk pk (keeps tj tp (none_from old mid new both.0 both.1 none))) kept

-- the journal has the bytes that it had, or nine where it was fresh
pub ready_from : (jk pk : Bool) (old mid new : Pair) → RestsBoth jk pk old mid → ((rests : Synced old.journal.now mid.journal.now × Synced old.pages.now mid.pages.now) → AreOpened jk pk mid new → AreOpened jk pk old new)
    → AreReady jk pk mid new → AreReady jk pk old new
ready_from jk pk old mid new rests opened ready = record {
  journal = ready.journal;
  pages = ready.pages;
  same = λ tj tp none. let both = rests tj tp in opened both (ready.same tj tp (none_from old mid new both.0 both.1 none));
}

-- ---- a store that was refused

-- elsewhere than at the first page
pub refuses_other : (jk pk : Bool) (old r : Pair) (cause : Type 0) (fault : OpenError) → (fault ≡ Damaged (place_in Pages 0) → ⊥) → HasReason (λ place. IsTrue jk → IsTrue pk → IsRefused old r place) cause fault
    → HasReason (λ place. IsTrue jk → IsTrue pk → RefusesPages old r place) cause fault
refuses_other jk pk old r cause (Damaged place) other is = λ tj tp.
    let refused = is tj tp in
    record {
      broken = ⊎_elim (λ broken. broken) (λ images. absurd (other (ap Damaged images.1))) refused.refused;
      journal = refused.journal;
      pages = refused.pages;
    }
refuses_other jk pk old r cause DiskFault other rose = rose
refuses_other jk pk old r cause NoMemory other free = tt

pub kept_unless : (jk pk : Bool) (journal : List ℕ) (P : Type 0) (fault : OpenError) → UnlessFault fault P → UnlessFault fault (UnlessImages jk pk journal P)
kept_unless jk pk journal P fault kept = unless_then P (UnlessImages jk pk journal P) fault (λ p tj tp none. p) kept

-- at this place
pub refused_there : (P : Place → Type 0) (cause : Type 0) (fault : OpenError) (place : Place) → fault ≡ Damaged place → HasReason P cause fault → P place
refused_there P cause fault place is reason = subst (HasReason P cause) is reason

pub uncounted_there : (fault : OpenError) (place : Place) (j k a b : ℕ) → fault ≡ Damaged place → RiseOnlyAtFault fault j k a b → (k ≡ j) × (b ≡ a)
uncounted_there fault place j k a b is rise = subst (λ (f : OpenError). UnlessFault f ((k ≡ j) × (b ≡ a))) is rise.uncounted

-- ---- the groups of a journal

pub on_err : {T E : Type 0} (P : Type 0) (r : Result T E) → P → OnErr r P
on_err P (Ok x) p = tt
on_err P (Err e) p = p

pub refused_alone : (journal pages : List ℕ) (groups : Groups) (place : Place) → read journal ≡ Ok groups → groups.images ≡ None → IsRefusedAt journal pages place → contents_of_files journal pages ≡ Err place
refused_alone journal pages groups place reads none refused = ⊎_elim
    (λ broken. broken)
    (λ images.
    let has = images.0 in
    let is : true ≡ false = sym has.has ∙ ap (λ (gs : Groups). is_some gs.images) (groups_same journal has.groups groups has.reads reads) ∙ ap (λ (o : Option Images). is_some o) none in
    cc)
    refused

-- a journal that breaks a rule is refused by its own place
pub journal_clash : (journal pages : List ℕ) (at : ℕ) → read journal ≡ Err at → IsRefusedAt journal pages (place_in Pages 0) → ⊥
journal_clash journal pages at broken refused = ⊎_elim
    (λ first.
    let both : ◌≡◌ {A = Result Contents Place} (Err (place_in Journal (first_broken (base_of pages) journal at))) (Err (place_in Pages 0)) = sym (by_damage pages journal at broken) ∙ first in
    let file : Journal ≡ Pages = ap (λ (p : Place). p.file) (same_place (place_in Journal (first_broken (base_of pages) journal at)) (place_in Pages 0) both) in
    cc)
    (λ images. let both : ◌≡◌ {A = Result Groups ℕ} (Ok images.0.groups) (Err at) = sym images.0.reads ∙ broken in cc)
    refused
  where
    same_place : (a b : Place) → ◌≡◌ {A = Result Contents Place} (Err a) (Err b) → a ≡ b
    same_place a b e = cc

-- the same disks under other names
pub moved : (Q : Pair → Pair → Type 0) (j0 j1 p0 r r_now q : History) → j1 ≡ j0 → r_now ≡ r → Q (pair_of j1 p0) (pair_of r q) → Q (pair_of j0 p0) (pair_of r_now q)
moved Q j0 j1 p0 r r_now q first last x =
    subst (λ (h : History). Q (pair_of j0 p0) (pair_of h q)) (sym last) (subst (λ (h : History). Q (pair_of h p0) (pair_of r q)) first x)
