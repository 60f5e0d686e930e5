-- What a crash leaves while the journal is opened over pages, and what holds of files from before their sync.
use Rattle.std.proofs.Common.{◌≡◌, ◌⊎◌, inl, inr, ℕ, ◌≤◌, le_trans, Bool, true, List, [], Result, Ok, Err, IsTrue, refl, sym, ◌∙◌, ap, subst}
use Rattle.std.specs.Prelude.{IfOk, IfErr, MatchResult}
use Rattle.outside_traits.specs.CrashImages.{IsImage}
use Rattle.outside_traits.specs.DiskPairs.{Pair, pair_of}
use Rattle.outside_traits.specs.Disks.{DiskState, Synced, all_synced}
use Rattle.outside_traits.specs.Faults.{FaultCounted}
use Rattle.outside_traits.specs.Moments.{History, IsAllSynced}
use Rattle.outside_traits.proofs.ImageLaws.{image-all_synced}
use Rattle.outside_traits.proofs.MomentLaws.{started, weaker}
use Rattle.outside_traits.proofs.PairLaws.{journal_phase, none, pairs_joined, pairs_now, pairs_weaker}
use Rattle.node_records.specs.declared.open_error.OpenError.{OpenError}
use Rattle.node_records.specs.declared.open_error.OpenError.TheVariants.{Damaged, DiskFault, NoMemory}
use Rattle.node_records.specs.declared.open_error.Place.{Place}
use Rattle.journal.specs.Groups.{only_commits}
use Rattle.journal.specs.Journals.{is_fresh, read}
use Rattle.journal.specs.Openings.{LeavesSameGroups}
use Rattle.journal.specs.Refusals.{BreaksJournal, HasReason, UnlessFault}
use Rattle.journal.proofs.FreshSteps.{fresh_reads}
use Rattle.paged_seq.specs.PagedFiles.{HasReason as HasPagedReason}
use Rattle.tree_model.specs.Entries.{Entries}
use Rattle.store_contents.specs.Contents.{LeavesSameContents, contents_beside, contents_of_files}
use Rattle.store_contents.specs.StoredTrees.{StoodFor, LeaveWhatStood}
use Rattle.store_contents.proofs.ContentsLaws.{same_beside}
use Rattle.recovery.specs.Causes.{OneRose, RiseOnlyAtFault}
use Rattle.recovery.specs.Openings.{AreOpened, journal_made, KeepsFiles, KeepsJournal, LeavesPagesUnopened, OpensPages}
use Rattle.recovery.specs.inside.Over.{IsRefused, IsRefusedAt}
use Rattle.recovery.specs.inside.Syncs.{CouldLeave, LeaveNoOther}
use Rattle.recovery.proofs.AnswerLaws.{rose_later, rose_sooner, unless_of}

-- ---- answers

pub ok_then : {T E : Type 0} (r : Result T E) (P Q : T → Type 0) → ((x : T) → P x → Q x) → IfOk r P → IfOk r Q
ok_then (Ok x) P Q leads h = leads x h
ok_then (Err e) P Q leads h = h

pub ok_both : {T E : Type 0} (r : Result T E) (P Q R : T → Type 0) → ((x : T) → P x → Q x → R x) → IfOk r P → IfOk r Q → IfOk r R
ok_both (Ok x) P Q R leads p q = leads x p q
ok_both (Err e) P Q R leads p q = p

pub err_then : {T E : Type 0} (r : Result T E) (P Q : E → Type 0) → ((x : E) → P x → Q x) → IfErr r P → IfErr r Q
err_then (Ok x) P Q leads h = h
err_then (Err e) P Q leads h = leads e h

pub match_then : {T E : Type 0} (r : Result T E) (P Q : T → Type 0) (R S : E → Type 0) → ((x : T) → P x → Q x) → ((x : E) → R x → S x) → MatchResult r P R → MatchResult r Q S
match_then (Ok x) P Q R S ok err h = ok x h
match_then (Err e) P Q R S ok err h = err e h

-- ---- reasons

pub reason_leads : (P Q : Place → Type 0) (cause more : Type 0) (fault : OpenError) → ((place : Place) → P place → Q place) → (cause → more) → HasReason P cause fault → HasReason Q more fault
reason_leads P Q cause more (Damaged place) leads rose h = leads place h
reason_leads P Q cause more DiskFault leads rose h = rose h
reason_leads P Q cause more NoMemory leads rose h = tt

-- damage at a place
pub reason_at : (P : Place → Type 0) (cause : Type 0) (fault : OpenError) (place : Place) → fault ≡ Damaged place → P place → HasReason P cause fault
reason_at P cause fault place is h = subst (HasReason P cause) (sym is) h

-- the reason that pages have is one
pub reason_of_pages : (P : Place → Type 0) (cause : Type 0) (fault : OpenError) → HasPagedReason P cause fault → HasReason P cause fault
reason_of_pages P cause (Damaged place) h = h
reason_of_pages P cause DiskFault h = h
reason_of_pages P cause NoMemory h = tt

-- an error that is told where the count may have risen
abbrev pub Told : OpenError → OpenError → ℕ → ℕ → Type 0
Told fault result before now = ((now ≡ before) × (result ≡ fault)) ⊎ (FaultCounted before now × (result ≡ DiskFault))

pub told_reason : (P : Place → Type 0) (fault result : OpenError) (before now a b : ℕ) → before ≡ a → now ≡ b → Told fault result before now → HasReason P (FaultCounted a b) fault → HasReason P (FaultCounted a b) result
told_reason P fault result before now a b first last (inl same) h = subst (HasReason P (FaultCounted a b)) (sym same.1) h
told_reason P fault result before now a b first last (inr rose) h =
    subst (HasReason P (FaultCounted a b)) (sym rose.1) (subst (λ (n : ℕ). FaultCounted n b) first (subst (λ (n : ℕ). FaultCounted before n) last rose.0))

pub told_uncounted : (fault result : OpenError) (before now a b : ℕ) → before ≡ a → now ≡ b → Told fault result before now → UnlessFault result (b ≡ a)
told_uncounted fault result before now a b first last (inl same) = unless_of (b ≡ a) result (sym last ∙ same.0 ∙ first)
told_uncounted fault result before now a b first last (inr rose) = subst (λ (f : OpenError). UnlessFault f (b ≡ a)) (sym rose.1) tt

-- a fresh journal breaks no rule
pub fresh_reason : (is_known : Bool) (t : History) (P : Place → Type 0) (cause : Type 0) (fault : OpenError) → (IsTrue is_known → is_fresh t.now.reads ≡ true)
    → HasReason (BreaksJournal is_known (read t.now.reads)) cause fault → HasReason (λ place. IsTrue is_known → P place) cause fault
fresh_reason is_known t P cause (Damaged place) fresh h = λ known. cc (sym (fresh_reads t.now.reads (fresh known)) ∙ h.1 known)
fresh_reason is_known t P cause DiskFault fresh h = h
fresh_reason is_known t P cause NoMemory fresh h = tt

-- what holds unless a fault is answered holds at damage
pub unless_damage : (P : Type 0) (fault : OpenError) → UnlessFault fault P → HasReason (λ _. P) (Unit {0}) fault
unless_damage P (Damaged place) h = h
unless_damage P DiskFault h = tt
unless_damage P NoMemory h = tt

pub damage_is : (P : Type 0) (fault : OpenError) → P → HasReason (λ _. P) (Unit {0}) fault
damage_is P (Damaged place) h = h
damage_is P DiskFault h = tt
damage_is P NoMemory h = tt

-- ---- a crash while the journal is opened

pub same_moments : (pages : List ℕ) (t u : History) → u ≡ t → LeavesSameContents pages t u
same_moments pages t u same = subst (λ (v : History). LeavesSameContents pages t v) (sym same) (started _ t)

pub fresh_moments : (pages : List ℕ) (t u : History) → is_fresh t.now.reads ≡ true → LeavesSameGroups t u → LeavesSameContents pages t u
fresh_moments pages t u fresh run =
    let none : read t.now.reads ≡ Ok (only_commits []) = fresh_reads t.now.reads fresh in
    weaker _ (λ image. contents_beside pages image ≡ contents_beside pages t.now.reads) t u (λ image alike. same_beside pages image t.now.reads (only_commits []) (alike ∙ none) none) run

-- beside synced pages
pub over_pages_moments : (j p j2 p2 : History) → IsImage j.now j.now.reads → IsAllSynced p → p2 ≡ p → LeavesSameContents p.now.reads j j2 → LeaveWhatStood (pair_of j p) (pair_of j2 p2)
over_pages_moments j p j2 p2 reads rests still run = subst (λ (t : History). LeaveWhatStood (pair_of j p) (pair_of j2 t)) (sym still) (journal_phase _ (pair_of j p) (pair_of j2 p) (record {
  leaves = weaker _ _ j j2 (λ image same pages of_pages.
      let these : pages ≡ p.now.reads = image-all_synced p.now.reads pages (subst (λ (s : DiskState). IsImage s pages) rests of_pages) in
      record {
        journal_then = j.now.reads;
        pages_then = pages;
        of_journal = reads;
        of_pages = of_pages;
        same = ap (λ (ps : List ℕ). contents_beside ps image) these ∙ same ∙ ap (λ (ps : List ℕ). contents_beside ps j.now.reads) (sym these);
      }) run;
  still = refl;
}))

-- where neither disk was written
pub nothing_moves : (old new : Pair) → new ≡ old → LeaveWhatStood old new
nothing_moves old new same = subst (λ (pair : Pair). LeaveWhatStood old pair) (sym same) (none (StoodFor old) old)

-- what could be left stood for itself
pub stood_itself : (old new : Pair) → LeaveNoOther old new → LeaveWhatStood old new
stood_itself old new run = pairs_weaker (CouldLeave old) (StoodFor old) (λ journal pages could. record {
  journal_then = journal;
  pages_then = pages;
  of_journal = could.of_journal;
  of_pages = could.of_pages;
  same = refl;
}) old new run

-- what a crash leaves at any moment it leaves now
pub pages_unopened : (old new : Pair) → LeaveWhatStood old new → LeavesPagesUnopened old new
pages_unopened old new run = record {
  any_moment = run;
  left = pairs_now (StoodFor old) old new run (λ journal pages of_journal of_pages. record { journal_then = journal; pages_then = pages; of_journal = of_journal; of_pages = of_pages; same = refl });
}

-- ---- files from before their sync

-- what a sync leaves could have been left before it
image_before : (t u : History) → IsImage t.now t.now.reads → u.now ≡ all_synced t.now.reads → (image : List ℕ) → IsImage u.now image → IsImage t.now image
image_before t u reads rests image is = subst (IsImage t.now) (sym (image-all_synced t.now.reads image (subst (λ (s : DiskState). IsImage s image) rests is))) reads

module _ (old mid new : Pair) where
  pub moments_before : IsImage old.journal.now old.journal.now.reads → IsImage old.pages.now old.pages.now.reads → Synced old.journal.now mid.journal.now → Synced old.pages.now mid.pages.now
      → LeaveNoOther old mid → LeaveWhatStood mid new → LeaveWhatStood old new
  moments_before journal_reads pages_read journal_rests pages_rest before run =
      pairs_joined (StoodFor old) old mid new (stood_itself old mid before) (pairs_weaker (StoodFor mid) (StoodFor old) (λ journal pages stood. record {
        journal_then = stood.journal_then;
        pages_then = stood.pages_then;
        of_journal = image_before old.journal mid.journal journal_reads journal_rests stood.journal_then stood.of_journal;
        of_pages = image_before old.pages mid.pages pages_read pages_rest stood.pages_then stood.of_pages;
        same = stood.same;
      }) mid new run)

  pub opens_before : (es : Entries) (n : ℕ) → Synced old.journal.now mid.journal.now → Synced old.pages.now mid.pages.now → OpensPages mid new es n → OpensPages old new es n
  opens_before es n journal_rests pages_rest opens = record {
    stood = (λ i. contents_of_files (sym journal_rests i).reads (sym pages_rest i).reads) ∙ opens.stood;
    stands = opens.stands;
    alone = opens.alone;
  }

  pub opened_before : (jk pk : Bool) → (IsTrue jk → Synced old.journal.now mid.journal.now) → (IsTrue pk → Synced old.pages.now mid.pages.now) → AreOpened jk pk mid new → AreOpened jk pk old new
  opened_before jk pk journal_rests pages_rest opened = record {
    journal = λ tj. record { synced = (opened.journal tj).synced; bytes = (opened.journal tj).bytes ∙ ap (λ (s : DiskState). journal_made s.reads) (journal_rests tj) };
    pages = λ tp. opened.pages tp ∙ ap (λ (s : DiskState). all_synced s.reads) (pages_rest tp);
  }

  pub refused_at_before : (place : Place) → Synced old.journal.now mid.journal.now → Synced old.pages.now mid.pages.now
      → IsRefusedAt mid.journal.now.reads mid.pages.now.reads place → IsRefusedAt old.journal.now.reads old.pages.now.reads place
  refused_at_before place journal_rests pages_rest refused =
      subst (λ (s : DiskState). IsRefusedAt s.reads old.pages.now.reads place) journal_rests
      (subst (λ (s : DiskState). IsRefusedAt mid.journal.now.reads s.reads place) pages_rest refused)

  pub refuses_before : (place : Place) → Synced old.journal.now mid.journal.now → Synced old.pages.now mid.pages.now → IsRefused mid new place → IsRefused old new place
  refuses_before place journal_rests pages_rest refuses = record {
    refused = refused_at_before place journal_rests pages_rest refuses.refused;
    journal = refuses.journal ∙ ap (λ (s : DiskState). all_synced s.reads) journal_rests;
    pages = refuses.pages ∙ ap (λ (s : DiskState). all_synced s.reads) pages_rest;
  }

  pub keeps_before : (jk pk : Bool) → (IsTrue jk → Synced old.journal.now mid.journal.now) → (IsTrue pk → Synced old.pages.now mid.pages.now) → KeepsFiles jk pk mid new → KeepsFiles jk pk old new
  keeps_before jk pk journal_rests pages_rest keeps = record {
    journal = λ tj. subst (λ (s : DiskState). KeepsJournal s.reads new.journal.now.reads) (journal_rests tj) (keeps.journal tj);
    pages = λ tp. keeps.pages tp ∙ ap (λ (s : DiskState). all_synced s.reads) (pages_rest tp);
  }

-- a disk that was synced is all synced
pub rests_now : (t u : History) → u.now ≡ all_synced t.now.reads → IsAllSynced u
rests_now t u rests = rests ∙ sym (ap (λ (s : DiskState). all_synced s.reads) rests)

-- after a sync and nothing else
pub synced_only : (t u v : History) → v ≡ u → u.now ≡ all_synced t.now.reads → v.now ≡ all_synced t.now.reads
synced_only t u v same rests = ap (λ (h : History). h.now) same ∙ rests

-- ---- counts

-- a fault of the pages, or one behind it, is one of the two disks'
pub pages_rose : (P : Place → Type 0) (found : OpenError) (j k a b d : ℕ) → HasReason P (FaultCounted a b) found → a ≤ b → b ≤ d → (found ≡ DiskFault) ⊎ OneRose j k b d → OneRose j k a d
pages_rose P found j k a b d h before later (inl is) = inr (rose_sooner a b d later (subst (HasReason P (FaultCounted a b)) is h))
pages_rose P found j k a b d h before later (inr (inl rose)) = inl rose
pages_rose P found j k a b d h before later (inr (inr rose)) = inr (rose_later a b d before rose)

-- the counts of two runs, the first of which answered this error
pub counts_joined : (found fault : OpenError) (j k a b d : ℕ) → UnlessFault found (b ≡ a) → a ≤ b → (found ≡ DiskFault → fault ≡ DiskFault) → RiseOnlyAtFault fault j k b d → RiseOnlyAtFault fault j k a d
counts_joined found fault j k a b d first before passes counts = record {
  uncounted = joined found fault first passes counts.uncounted;
  later = (counts.later.0, le_trans before counts.later.1);
}
  where
    both : (f : OpenError) → b ≡ a → UnlessFault f ((k ≡ j) × (d ≡ b)) → UnlessFault f ((k ≡ j) × (d ≡ a))
    both (Damaged place) same h = (h.0, h.1 ∙ same)
    both DiskFault same h = tt
    both NoMemory same h = (h.0, h.1 ∙ same)

    joined : (g f : OpenError) → UnlessFault g (b ≡ a) → (g ≡ DiskFault → f ≡ DiskFault) → UnlessFault f ((k ≡ j) × (d ≡ b)) → UnlessFault f ((k ≡ j) × (d ≡ a))
    joined (Damaged place) f same goes h = both f same h
    joined NoMemory f same goes h = both f same h
    joined DiskFault f same goes h = subst (λ (e : OpenError). UnlessFault e ((k ≡ j) × (d ≡ a))) (sym (goes refl)) tt
