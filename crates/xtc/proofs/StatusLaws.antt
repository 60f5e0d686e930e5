-- What a run of the program leaves, by the status that it ends with.
use Rattle.std.proofs.Common.{◌≡◌, ◌∙◌, Bool, true, false, not, ◌&&◌, true≢false, IsTrue, refl, sym, inl, inr, List, ℕ, [], ap, subst}
use Rattle.std.specs.Prelude.{◌⊎◌, Option, None, Some}
use Rattle.outside_traits.specs.DiskPairs.{Pair, PairsHave}
use Rattle.tree_model.specs.declared.change.Change.{Change}
use Rattle.tree_model.specs.Entries.{Entries, changed}
use Rattle.overlays.specs.Views.{contents_after}
use Rattle.paged_seq.specs.PagedMaps.{file_entries, map_of_file, valid_entries}
use Rattle.store_contents.specs.StoredTrees.{StoodFor}
use Rattle.recovery.specs.Openings.{AreOpened}
use Rattle.command_words.specs.declared.words_error.WordsError.{WordsError}
use Rattle.command_words.specs.declared.words_error.WordsError.TheVariants as words
use Rattle.node_records.specs.declared.open_error.OpenError.{OpenError}
use Rattle.node_records.specs.declared.open_error.OpenError.TheVariants as error
use Rattle.node_records.specs.declared.open_error.Place.{Place}
use Rattle.journal.specs.Refusals.{HasReason, UnlessFault}
use Rattle.script_runs.specs.declared.halt.Halt.TheVariants as halt
use Rattle.script_runs.specs.declared.running.End.{End}
use Rattle.script_runs.specs.declared.running.End.TheVariants as end
use Rattle.xtc.specs.declared.status.Status.{Status}
use Rattle.xtc.specs.declared.status.Status.TheVariants.{Done, Usage, LineTooLong, Damaged, ReadFault, WriteFault, DiskFault, NoMemory, NotJsonMl, DocumentRefused}
use Rattle.xtc.specs.Checkpoints.{is_positive, may_lose, tries}
use Rattle.xtc.specs.Statuses.{status_of, status_of_end, status_of_words}
use Rattle.command_words.specs.Commands.{Command, run, workers, put, get, query, gen}
use Rattle.xtc.specs.TopCall.{Outcome, Leaves, UnopenedStoreLeaves, OpenedStoreLeaves, IsSilent, IsUnread, IsOfOpened, OfDocument, OfWorkers}

-- ---- words that gave no command

abbrev pub is_of_words : Status → Bool
is_of_words Usage = true
is_of_words NoMemory = true
is_of_words status = false

pub words_usage : (error : WordsError) → status_of_words error ≡ Usage → error ≡ words.Usage
words_usage words.Usage is = refl
words_usage words.NoMemory is = cc

-- nothing was touched
untouched_leaves : (o : Outcome) → o.read ≡ [] → o.now ≡ o.before → o.new ≡ o.old → UnopenedStoreLeaves o
untouched_leaves o unread silent same = record {
  read = unread;
  silent = silent;
  any_moment = record { ends = []; phases = same };
  left = subst (PairsHave (StoodFor o.old)) (sym same)
      (λ journal pages of_journal of_pages. record { journal_then = journal; pages_then = pages; of_journal = of_journal; of_pages = of_pages; same = refl });
}

pub refused_leaves : (limit : ℕ) (command : Option Command) (every : ℕ) (o : Outcome) (error : WordsError) → o.read ≡ [] → o.now ≡ o.before → o.new ≡ o.old → Leaves limit command every (status_of_words error) o
refused_leaves limit command every o words.Usage unread silent same = (unread, silent, same)
refused_leaves limit command every o words.NoMemory unread silent same = inl (untouched_leaves o unread silent same)

-- it is so in any command
pub of_workers : (command : Option Command) (P : Type 0) → P → OfWorkers command P
of_workers None P p = tt
of_workers (Some run) P p = tt
of_workers (Some workers) P p = p
of_workers (Some (put name)) P p = tt
of_workers (Some (get name)) P p = tt
of_workers (Some (query name path)) P p = tt
of_workers (Some (gen seed count)) P p = tt

-- and in one that isn't done line by line
pub of_document : (command : Option Command) (P : Type 0) → P → OfDocument command P
of_document None P p = tt
of_document (Some run) P p = tt
of_document (Some workers) P p = p
of_document (Some (put name)) P p = p
of_document (Some (get name)) P p = p
of_document (Some (query name path)) P p = p
of_document (Some (gen seed count)) P p = p

-- where nothing was written
pub silent_damaged : (command : Option Command) (lost : Bool) (place : Place) (P : Type 0) → P → IsSilent command lost (Damaged place) P
silent_damaged command true place P p = of_document command P p
silent_damaged command false place P p = p

pub refused_silent : (command : Option Command) (lost : Bool) (error : WordsError) (P : Type 0) → P → IsSilent command lost (status_of_words error) P
refused_silent command lost words.Usage P p = p
refused_silent command lost words.NoMemory P p = of_workers command P p

-- the two statuses that words may have, which are no others
pub refused_as : (status : Status) (error : WordsError) → status ≡ status_of_words error → (status ≡ Usage) ⊎ (status ≡ NoMemory)
refused_as status words.Usage is = inl is
refused_as status words.NoMemory is = inr is

pub refused_not : (error : WordsError) (status : Status) → is_of_words status ≡ false → status_of_words error ≡ status → ⊥
refused_not error status other is = true≢false (sym (of_words error) ∙ ap is_of_words is ∙ other)
  where
    of_words : (error : WordsError) → is_of_words (status_of_words error) ≡ true
    of_words words.Usage = refl
    of_words words.NoMemory = refl

-- ---- a store that wasn't opened

pub unopened_leaves : (limit : ℕ) (command : Option Command) (every : ℕ) (o : Outcome) (fault : OpenError) → UnopenedStoreLeaves o → Leaves limit command every (status_of fault) o
unopened_leaves limit command every o (error.Damaged place) h = h
unopened_leaves limit command every o error.DiskFault h = inl h
unopened_leaves limit command every o error.NoMemory h = inl h

-- then nothing was written
pub unopened_silent : (command : Option Command) (lost : Bool) (fault : OpenError) (P : Type 0) → P → IsSilent command lost (status_of fault) P
unopened_silent command lost (error.Damaged place) P p = silent_damaged command lost place P p
unopened_silent command lost error.DiskFault P p = of_workers command P p
unopened_silent command lost error.NoMemory P p = of_workers command P p

-- it is no end
pub unopened_not_done : (fault : OpenError) → status_of fault ≡ Done → ⊥
unopened_not_done (error.Damaged place) is = cc
unopened_not_done error.DiskFault is = cc
unopened_not_done error.NoMemory is = cc

-- and nothing was read
pub nothing_read : (lost : Bool) (status : Status) (P : Type 0) → P → IsUnread lost status P
nothing_read lost Done P p = tt
nothing_read lost Usage P p = p
nothing_read lost (LineTooLong line) P p = tt
nothing_read true (Damaged place) P p = tt
nothing_read false (Damaged place) P p = p
nothing_read lost ReadFault P p = tt
nothing_read lost WriteFault P p = tt
nothing_read lost DiskFault P p = tt
nothing_read lost NoMemory P p = tt
nothing_read lost (NotJsonMl why) P p = tt
nothing_read lost (DocumentRefused why) P p = tt

-- ---- a script that ran

-- it ends as damage only where a file may be lost
abbrev pub LosesOnly : Bool → End → Type 0
LosesOnly lost e = (place : Place) → e ≡ end.Halted (halt.Damaged place) → IsTrue lost

-- a machine that makes checkpoints finds damage where nothing is known of the pages
pub loses_by : (every : ℕ) (pages_known makes : Bool) (e : End) → is_positive every ≡ makes → ((place : Place) → e ≡ end.Halted (halt.Damaged place) → IsTrue makes × (IsTrue pages_known → ⊥)) → LosesOnly (may_lose (Some run) every pages_known) e
loses_by every pages_known makes e policy damaged place it =
    let is = damaged place it in
    go (is_positive every) pages_known (policy ∙ is.0) is.1
  where
    go : (a b : Bool) → IsTrue a → (IsTrue b → ⊥) → IsTrue (a && not b)
    go true true some never = absurd (never refl)
    go true false some never = refl
    go false b some never = absurd cc

-- its status asks for no silence
pub script_not_silent : (lost : Bool) (e : End) (P : Type 0) → LosesOnly lost e → IsSilent (Some run) lost (status_of_end e) P
script_not_silent lost end.Done P loses = tt
script_not_silent lost (end.LineTooLong n) P loses = tt
script_not_silent lost end.ReadFault P loses = tt
script_not_silent lost end.WriteFault P loses = tt
script_not_silent lost (end.Halted halt.DiskFault) P loses = tt
script_not_silent lost (end.Halted halt.NoMemory) P loses = tt
script_not_silent true (end.Halted (halt.Damaged place)) P loses = tt
script_not_silent false (end.Halted (halt.Damaged place)) P loses = absurd (let is : IsTrue false = loses place refl in cc)

pub script_opened : (lost : Bool) (e : End) → LosesOnly lost e → IsOfOpened lost (status_of_end e)
script_opened lost end.Done loses = tt
script_opened lost (end.LineTooLong n) loses = tt
script_opened lost end.ReadFault loses = tt
script_opened lost end.WriteFault loses = tt
script_opened lost (end.Halted halt.DiskFault) loses = tt
script_opened lost (end.Halted halt.NoMemory) loses = tt
script_opened lost (end.Halted (halt.Damaged place)) loses = loses place refl

-- ---- the files at the opening

-- what holds of files on known disks
pub as_known : (journal_known pages_known : Bool) → IsTrue journal_known → IsTrue pages_known → (old new : Pair) → AreOpened journal_known pages_known old new → AreOpened true true old new
as_known journal_known pages_known kj kp old new opened = record { journal = λ _. opened.journal kj; pages = λ _. opened.pages kp }

-- ---- a command that ran over a store that was opened

pub opened_leaves : (limit : ℕ) (command : Option Command) (every : ℕ) (status : Status) (o : Outcome) → IsOfOpened false status → OpenedStoreLeaves limit command every status o → Leaves limit command every status o
opened_leaves limit command every Done o is h = h
opened_leaves limit command every (LineTooLong line) o is h = h
opened_leaves limit command every ReadFault o is h = h
opened_leaves limit command every WriteFault o is h = h
opened_leaves limit command every (NotJsonMl why) o is h = h
opened_leaves limit command every (DocumentRefused why) o is h = h
opened_leaves limit command every DiskFault o is h = inr h
opened_leaves limit command every NoMemory o is h = inr h
opened_leaves limit command every Usage o is h = absurd is
opened_leaves limit command every (Damaged place) o is h = absurd cc

-- it reads, or may
pub opened_unread : (lost : Bool) (status : Status) (P : Type 0) → IsOfOpened lost status → IsUnread lost status P
opened_unread lost Done P is = tt
opened_unread lost (LineTooLong line) P is = tt
opened_unread lost ReadFault P is = tt
opened_unread lost WriteFault P is = tt
opened_unread lost (NotJsonMl why) P is = tt
opened_unread lost (DocumentRefused why) P is = tt
opened_unread lost DiskFault P is = tt
opened_unread lost NoMemory P is = tt
opened_unread lost Usage P is = absurd is
opened_unread true (Damaged place) P is = tt
opened_unread false (Damaged place) P is = absurd cc

-- nothing is lost where the pages are known
pub none_lost : (command : Option Command) (every : ℕ) (pages_known : Bool) → IsTrue pages_known → may_lose command every pages_known ≡ false
none_lost command every true known = and_false (tries command every)
  where
    and_false : (b : Bool) → (b && false) ≡ false
    and_false true = refl
    and_false false = refl
none_lost command every false known = absurd cc

-- and doesn't end as damage, where the pages are known
pub opened_not_damaged : (lost : Bool) (status : Status) (place : Place) → IsOfOpened lost status → lost ≡ false → status ≡ Damaged place → ⊥
opened_not_damaged lost status place is none e = let no : IsOfOpened false (Damaged place) = subst (λ (x : Bool × Status). IsOfOpened x.0 x.1) (λ i. (none i, e i)) is in cc

-- where the page file is known, the map that is seen over it is known
pub known_map : (is_known : Bool) → IsTrue is_known → (changes : List Change) (file : List ℕ) → (es : Entries) × (contents_after changes (map_of_file is_known file) ≡ Some es)
known_map true known changes file = (changed changes (valid_entries (file_entries file)), refl)
known_map false known changes file = absurd cc

-- ---- the counts of faults

-- where damage is the status, this holds of its place
pub damaged_of : (D : Place → Type 0) (cause : Type 0) (fault : OpenError) (place : Place) → HasReason D cause fault → status_of fault ≡ Damaged place → D place
damaged_of D cause (error.Damaged at) place h e = subst D (ap place_of e) h
  where
    place_of : Status → Place
    place_of (Damaged found) = found
    place_of status = at
damaged_of D cause error.DiskFault place h e = cc
damaged_of D cause error.NoMemory place h e = cc

-- only a fault of a disk has this status; then it has its cause
pub cause_of : (D : Place → Type 0) (cause : Type 0) (fault : OpenError) → HasReason D cause fault → status_of fault ≡ DiskFault → cause
cause_of D cause (error.Damaged place) h e = cc
cause_of D cause error.DiskFault h e = h
cause_of D cause error.NoMemory h e = cc

-- at any other status this holds of a store that wasn't opened
pub no_fault : (fault : OpenError) (P : Type 0) → (status_of fault ≡ DiskFault → ⊥) → UnlessFault fault P → P
no_fault (error.Damaged place) P apart h = h
no_fault error.DiskFault P apart h = absurd (apart refl)
no_fault error.NoMemory P apart h = h
