-- What a run over a store that was opened leaves has each promise among its fields.
use Rattle.std.proofs.Common.{◌≡◌, ◌∙◌, Bool, true, false, IsTrue, refl, ap, subst}
use Rattle.std.specs.Prelude.{ℕ, Option, Some, None}
use Rattle.outside_traits.specs.DiskPairs.{Pair, PairsHave, PairsLeave}
use Rattle.outside_traits.specs.Disks.{DiskState}
use Rattle.outside_traits.specs.Moments.{History}
use Rattle.call_contract.specs.Books.{Book, IsBookFrom, IsSerial}
use Rattle.session_driver.specs.Asking.{BookCall}
use Rattle.command_words.specs.Commands.{Command, run, workers, put, get, query, gen}
use Rattle.recovery.specs.Openings.{AreOpened, HasImages}
use Rattle.session_driver.specs.Waiters.{AllStopped}
use Rattle.store_calls.specs.StoreCalls.{store_meaning, IsValidStoreCall}
use Rattle.xtc.specs.Commands.{may_commit}
use Rattle.xtc.specs.Promises.{IsOutput, KeepBytes, OfAnswered, OfBook, OfLastState, OfPrefix}
use Rattle.xtc.specs.TopCall.{AbortsLeaveAllElse, IsSoundBook, OpenedStoreLeaves, Outcome, ShowTrueCycles}
use Rattle.xtc.specs.declared.status.Status.{Status}

module _ (limit : ℕ) where
  pub output : (c : Option Command) (every : ℕ) (status : Status) (o : Outcome) (left : OpenedStoreLeaves limit c every status o) → IsOutput limit c every status o left
  output (Some run) every status o left = record { wrote = left.ran.wrote; exact = left.ran.exact; prompt = left.ran.prompt }
  output (Some workers) every status o left = left.ran.output
  output (Some (put name)) every status o left = left.ran.wrote
  output (Some (get name)) every status o left = left.ran.wrote
  output (Some (query name path)) every status o left = left.ran.wrote
  output (Some (gen seed count)) every status o left = left.ran.wrote
  output None every status o left = tt

  -- ---- its book

  sound : (c : Option Command) (every : ℕ) (status : Status) (o : Outcome) (left : OpenedStoreLeaves limit c every status o)
      → OfBook limit c every status o left (IsSoundBook left.tree left.number limit)
  sound (Some run) every status o left = left.ran.sound.book
  sound (Some workers) every status o left = left.ran.sound
  sound (Some (put name)) every status o left = left.ran.sound.book
  sound (Some (get name)) every status o left = left.ran.sound.book
  sound (Some (query name path)) every status o left = left.ran.sound.book
  sound (Some (gen seed count)) every status o left = left.ran.sound.book
  sound None every status o left = tt

  -- what holds of every sound book
  of_sound : (Q : Book BookCall → Type 0) (c : Option Command) (every : ℕ) (status : Status) (o : Outcome) (left : OpenedStoreLeaves limit c every status o)
      → ((book : Book BookCall) → IsSoundBook left.tree left.number limit book → Q book)
      → OfBook limit c every status o left (IsSoundBook left.tree left.number limit) → OfBook limit c every status o left Q
  of_sound Q (Some run) every status o left law is = law _ is
  of_sound Q (Some workers) every status o left law is = law _ is
  of_sound Q (Some (put name)) every status o left law is = law _ is
  of_sound Q (Some (get name)) every status o left law is = law _ is
  of_sound Q (Some (query name path)) every status o left law is = law _ is
  of_sound Q (Some (gen seed count)) every status o left law is = law _ is
  of_sound Q None every status o left law is = tt

  pub legal : (c : Option Command) (every : ℕ) (status : Status) (o : Outcome) (left : OpenedStoreLeaves limit c every status o)
      → OfBook limit c every status o left (IsBookFrom IsValidStoreCall store_meaning left.tree left.number limit)
  legal c every status o left = of_sound (IsBookFrom IsValidStoreCall store_meaning left.tree left.number limit) c every status o left (λ book s. s.legal) (sound c every status o left)

  pub serial : (c : Option Command) (every : ℕ) (status : Status) (o : Outcome) (left : OpenedStoreLeaves limit c every status o)
      → OfBook limit c every status o left (IsSerial store_meaning left.tree left.number limit)
  serial c every status o left = of_sound (IsSerial store_meaning left.tree left.number limit) c every status o left (λ book s. s.serial) (sound c every status o left)

  pub aborts : (c : Option Command) (every : ℕ) (status : Status) (o : Outcome) (left : OpenedStoreLeaves limit c every status o)
      → OfBook limit c every status o left (AbortsLeaveAllElse left.tree left.number limit)
  aborts c every status o left = of_sound (AbortsLeaveAllElse left.tree left.number limit) c every status o left (λ book s. s.aborts) (sound c every status o left)

  pub cycles : (c : Option Command) (every : ℕ) (status : Status) (o : Outcome) (left : OpenedStoreLeaves limit c every status o)
      → OfBook limit c every status o left (ShowTrueCycles left.tree left.number limit)
  cycles c every status o left = of_sound (ShowTrueCycles left.tree left.number limit) c every status o left (λ book s. s.deadlocks) (sound c every status o left)

  -- ---- its sessions

  pub waits : (c : Option Command) (every : ℕ) (status : Status) (o : Outcome) (left : OpenedStoreLeaves limit c every status o)
      → OfLastState limit c every status o left (AllStopped store_meaning)
  waits (Some run) every status o left = left.ran.sound.no_vain_wait
  waits (Some workers) every status o left = tt
  waits (Some (put name)) every status o left = left.ran.sound.no_vain_wait
  waits (Some (get name)) every status o left = left.ran.sound.no_vain_wait
  waits (Some (query name path)) every status o left = left.ran.sound.no_vain_wait
  waits (Some (gen seed count)) every status o left = left.ran.sound.no_vain_wait
  waits None every status o left = tt

  -- ---- its files

  pub files : (c : Option Command) (every : ℕ) (status : Status) (o : Outcome) (left : OpenedStoreLeaves limit c every status o)
      → OfAnswered limit c every status o left (λ Held. Held o.new.journal.now.reads o.new.pages.now.reads)
  files (Some run) every status o left = left.ran.reads
  files (Some workers) every status o left = left.ran.reads
  files (Some (put name)) every status o left = left.ran.reads
  files (Some (get name)) every status o left = left.ran.reads
  files (Some (query name path)) every status o left = left.ran.reads
  files (Some (gen seed count)) every status o left = left.ran.reads
  files None every status o left = tt

  pub crash : (c : Option Command) (every : ℕ) (status : Status) (o : Outcome) (left : OpenedStoreLeaves limit c every status o)
      → OfAnswered limit c every status o left (λ Held. PairsHave Held o.new)
  crash (Some run) every status o left = left.ran.left
  crash (Some workers) every status o left = left.ran.left
  crash (Some (put name)) every status o left = left.ran.left
  crash (Some (get name)) every status o left = left.ran.left
  crash (Some (query name path)) every status o left = left.ran.left
  crash (Some (gen seed count)) every status o left = left.ran.left
  crash None every status o left = tt

  pub moments : (c : Option Command) (every : ℕ) (status : Status) (o : Outcome) (left : OpenedStoreLeaves limit c every status o)
      → OfPrefix limit c every status o left (λ Held. PairsLeave Held left.opening o.new)
  moments (Some run) every status o left = left.ran.any_moment
  moments (Some workers) every status o left = left.ran.any_moment
  moments (Some (put name)) every status o left = left.ran.any_moment
  moments (Some (get name)) every status o left = left.ran.any_moment
  moments (Some (query name path)) every status o left = left.ran.any_moment
  moments (Some (gen seed count)) every status o left = left.ran.any_moment
  moments None every status o left = tt

  -- ---- commands that only read

  keeps : (o : Outcome) (opening : Pair) → AreOpened true true o.old opening → o.new.journal ≡ opening.journal → o.new.pages ≡ opening.pages → KeepBytes o
  keeps o opening opened journal pages = record {
    journal = ap (λ (h : History). h.now.reads) journal ∙ (opened.journal refl).bytes;
    pages = ap (λ (h : History). h.now.reads) pages ∙ ap (λ (d : DiskState). d.reads) (opened.pages refl);
  }

  pub reading : (c : Command) (every : ℕ) (status : Status) (o : Outcome) → OpenedStoreLeaves limit (Some c) every status o
      → may_commit (Some c) ≡ false → (HasImages o.old.journal.now.reads → ⊥) → KeepBytes o
  reading run every status o left none shut = absurd (let no : IsTrue false = subst IsTrue none refl in cc)
  reading workers every status o left none shut = absurd (let no : IsTrue false = subst IsTrue none refl in cc)
  reading (put name) every status o left none shut = absurd (let no : IsTrue false = subst IsTrue none refl in cc)
  reading (gen seed count) every status o left none shut = absurd (let no : IsTrue false = subst IsTrue none refl in cc)
  reading (get name) every status o left none shut = keeps o left.opening (left.begins refl refl shut) (left.ran.unwritten refl) (left.pages refl)
  reading (query name path) every status o left none shut = keeps o left.opening (left.begins refl refl shut) (left.ran.unwritten refl) (left.pages refl)
