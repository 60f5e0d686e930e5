-- What the run of a script over a store that was opened leaves.
use Rattle.std.proofs.Common.{◌≡◌, ℕ, zero, suc, ◌+◌, ◌≤◌, List, [], ◌∷◌, Bool, false, not, ◌&&◌, IsTrue, length, take, refl, sym, ap, ◌∙◌, subst, arith}
use Rattle.std.specs.Prelude.{Option, Some, IfSome, Ok}
use Rattle.outside_traits.specs.CrashImages.{IsImage}
use Rattle.outside_traits.specs.DiskPairs.{Pair, pair_of}
use Rattle.outside_traits.specs.Moments.{History}
use Rattle.tree_model.specs.Tree.{Tree, map_of}
use Rattle.node_records.specs.declared.open_error.Place.{Place}
use Rattle.node_seq.specs.Trees.{StandsFor}
use Rattle.journal.specs.Appends.{groups_in}
use Rattle.journal.specs.Journals.{read}
use Rattle.journal.specs.Views.{JournalView}
use Rattle.store_contents.specs.Contents.{contents_of_files}
use Rattle.checkpoint.specs.Bases.{contents_of}
use Rattle.checkpoint.specs.Renewals.{pages_of as base_pages}
use Rattle.checkpoint.specs.declared.base.Base.{Base}
use Rattle.checkpoint.specs.declared.base.Base.TheVariants.{Paged}
use Rattle.script_runs.specs.Lines.{line_limit}
use Rattle.script_runs.specs.Machine.{IsSettled, Machine}
use Rattle.script_runs.specs.Runs.{Ran}
use Rattle.script_runs.specs.Texts.{state_after}
use Rattle.script_runs.specs.declared.halt.Halt.TheVariants as halt
use Rattle.script_runs.specs.declared.running.End.{End}
use Rattle.script_runs.specs.declared.running.End.TheVariants as end
use Rattle.script_runs.proofs.RunLaws.{run_nothing}
use Rattle.call_contract.specs.Books.{Book, commits}
use Rattle.call_contract.specs.SerialRuns.{serial}
use Rattle.call_contract.specs.Sessions.{commits_in}
use Rattle.call_contract.specs.States.{start}
use Rattle.session_driver.specs.Asking.{BookCall}
use Rattle.command_words.specs.Commands.{run}
use Rattle.session_driver.specs.Progress.{Progress}
use Rattle.store_calls.specs.StoreCalls.{store_meaning}
use Rattle.xtc.specs.Book.{script_of}
use Rattle.xtc.specs.Checkpoints.{AreMade, HoldFirst, is_positive, is_tried, last_made}
use Rattle.xtc.specs.Statuses.{status_of_end}
use Rattle.xtc.specs.StoreMachine.{Booked, HasAnswered, HasRested, Held, IsBooked, KeptStore, begun_at, file_in, file_of, pages_of, store_machine, told, with_done}
use Rattle.xtc.specs.TopCall.{IsOfOpened, Outcome, ScriptRan}
use Rattle.xtc.specs.declared.status.Status.{Status}
use Rattle.xtc.specs.declared.status.Status.TheVariants.{Done, NoMemory}
use Rattle.xtc.specs.inside.CommandRuns.{RanWith, StandSettled}
use Rattle.xtc.specs.inside.Renewing.{ReadsGroups}
use Rattle.xtc.proofs.CheckpointLaws.{committed_counted}
use Rattle.xtc.proofs.MadeLaws.{are_made}
use Rattle.xtc.proofs.OpeningLaws.{first, first_stands, opened_settled}
use Rattle.xtc.proofs.ScriptBooks.{state_is}
use Rattle.xtc.proofs.ScriptLaws.{script_ran}
use Rattle.xtc.proofs.StoreMachineLaws.{both_known, first_known, same_known, second_known}

-- what the pages are asked at a store's end
record Options : Type 0 where
  every : ℕ
  number : ℕ
  book : Book BookCall
  count : ℕ
  pages : History

-- as many as there are, or more, are all
take_whole : {A : Type 0} (k : ℕ) (xs : List A) → length xs ≤ k → take k xs ≡ xs
take_whole zero [] le = refl
take_whole zero (x ∷ xs) le = absurd (omega (arith, le))
take_whole (suc k) [] le = refl
take_whole (suc k) (x ∷ xs) le = ap (λ ys. x ∷ ys) (take_whole k xs (omega (arith, le)))

-- an end that isn't damage
undamaged_end : (e : End) → ((place : Place) → e ≡ end.Halted (halt.Damaged place) → ⊥) → IsOfOpened false (status_of_end e)
undamaged_end end.Done sound = tt
undamaged_end (end.LineTooLong line) sound = tt
undamaged_end end.ReadFault sound = tt
undamaged_end end.WriteFault sound = tt
undamaged_end (end.Halted halt.DiskFault) sound = tt
undamaged_end (end.Halted halt.NoMemory) sound = tt
undamaged_end (end.Halted (halt.Damaged place)) sound = absurd (sound place refl)

module _ {P : Type 0} (journal_known pages_known makes : Bool) (history : P → History) (faults : P → ℕ) (base : Held P) (n limit every : ℕ) (journal : JournalView) where
  abbrev machine : Machine (KeptStore P)
  machine = store_machine journal_known pages_known makes history faults

  abbrev opened : KeptStore P
  opened = first journal_known pages_known makes history faults base n limit every journal

  -- with the files that it leaves, of each of which what a read gives is among what a crash may leave
  pub record AreLeft (m : KeptStore P) (new : Pair) : Type 0 where
    pub files : new ≡ pair_of m.journal.history (file_in history m)
    pub journal_image : IsImage new.journal.now new.journal.now.reads
    pub pages_image : IsImage new.pages.now new.pages.now.reads

  module _ (t : Tree) (is : StandsFor (told pages_known history base) t) (known : IsTrue (journal_known && pages_known)) (files : StandSettled (pair_of journal.history (pages_of history base)) t n) where
    abbrev opening : Pair
    opening = pair_of journal.history (pages_of history base)

    abbrev begun : Booked P
    begun = begun_at (start t n limit) (Paged base) n every

    -- what is known of a store whose script came to its end
    pub record HasEnded (m : KeptStore P) (lines : List (List ℕ)) : Type 0 where
      pub rested : HasRested pages_known history m
      pub booked : IsBooked pages_known history m (state_after machine begun lines)
      pub groups : ReadsGroups journal_known m.journal

    -- then the pages hold what the last checkpoint has made of them
    made_at_end : (o : Outcome) (sr : ScriptRan t n limit Done opening o) (m : KeptStore P) → AreLeft m o.new → HasEnded m sr.lines → IsTrue (is_positive every)
        → AreMade (Some run) every t n sr.script.book o.new.journal.now.reads o.new.pages.now.reads
    made_at_end o sr m left ended some =
        let lines : List (List ℕ) = sr.lines in
        let before : HasAnswered pages_known history m = ended.rested.answered in
        let whole : take (sr.done + sr.further) lines ≡ lines = take_whole (sr.done + sr.further) lines (omega (arith, sr.exact.0)) in
        let script_is : sr.script ≡ script_of (start t n limit) lines = sr.is ∙ ap (script_of (start t n limit)) whole in
        let at_end : state_after machine begun lines ≡ with_done begun (script_of (start t n limit) lines) = state_is journal_known pages_known makes history faults begun lines in
        let book_is : m.core.book ≡ sr.script.book = ended.booked.book ∙ ap (λ (b : Booked P). b.book) at_end ∙ ap (λ (p : Progress BookCall). p.book) (sym script_is) in
        let opening_is : m.core.opening ≡ Paged base = ended.booked.opening ∙ ap (λ (b : Booked P). b.opening) at_end in
        let number_is : m.core.number ≡ n = ended.booked.number ∙ ap (λ (b : Booked P). b.number) at_end in
        let every_is : m.checkpoints.every ≡ every = ended.booked.every ∙ ap (λ (b : Booked P). b.every) at_end in
        let stands : StandsFor (contents_of pages_known history m.core.opening) t = subst (λ (x : Base P). StandsFor (contents_of pages_known history x) t) (sym opening_is) is in
        let count : length (commits m.core.book) ≡ commits_in m.core.book = committed_counted t m.core.number m.core.limit m.core.book (before.legal t stands) in
        let seen_is : m.checkpoints.seen ≡ length (commits sr.script.book) = ended.rested.all ∙ sym count ∙ ap (λ (b : Book BookCall). length (commits b)) book_is in
        let pages_is : base_pages history m.core.base ≡ o.new.pages = ap (λ (p : Option P). file_of history m.core.base p) (sym before.inside) ∙ ap (λ (p : Pair). p.pages) (sym left.files) in
        let held : IfSome (last_made (is_tried m.checkpoints.every) t m.core.number m.core.book m.checkpoints.seen) (λ k. HoldFirst t m.core.number m.core.book k (base_pages history m.core.base).now.reads)
        = before.made (second_known journal_known pages_known known) (subst (λ (x : ℕ). IsTrue (is_positive x)) (sym every_is) some) t stands in
        let held_now : IfSome (last_made (is_tried every) t n sr.script.book (length (commits sr.script.book))) (λ k. HoldFirst t n sr.script.book k o.new.pages.now.reads)
        = subst (λ (x : Options). IfSome (last_made (is_tried x.every) t x.number x.book x.count) (λ k. HoldFirst t x.number x.book k x.pages.now.reads))
        (λ i. record { every = every_is i; number = number_is i; book = book_is i; count = seen_is i; pages = pages_is i }) held in
        let all : take sr.reads.count (take (sr.done + sr.further) lines) ≡ lines = take_whole sr.reads.count (take (sr.done + sr.further) lines) (omega (arith, sr.reads.enough, sr.exact.0, ap length whole)) ∙ whole in
        let reads_book : (script_of (start t n limit) (take sr.reads.count (take (sr.done + sr.further) lines))).book ≡ sr.script.book
        = ap (λ (ls : List (List ℕ)). (script_of (start t n limit) ls).book) all ∙ ap (λ (p : Progress BookCall). p.book) (sym script_is) in
        let opens : contents_of_files o.new.journal.now.reads o.new.pages.now.reads ≡ Ok (record { entries = map_of (serial store_meaning (commits sr.script.book) t).tree; number = n + length (commits sr.script.book) })
        = sr.reads.opens.opens ∙ ap (λ (b : Book BookCall). Ok (record { entries = map_of (serial store_meaning (commits b) t).tree; number = n + length (commits b) })) reads_book in
        let groups = ended.groups (first_known journal_known pages_known known) before.may.usable.unfailed before.may.usable.unheld in
        let journal_is : m.journal.history ≡ o.new.journal = ap (λ (p : Pair). p.journal) (sym left.files) in
        are_made run every t n sr.script.book o.new.journal.now.reads o.new.pages.now.reads (groups_in m.journal.history)
        (subst (λ (h : History). read h.now.reads ≡ Ok (groups_in m.journal.history)) journal_is groups.0) groups.1
        (map_of (serial store_meaning (commits sr.script.book) t).tree) opens held_now

    made_of : (e : End) (read : List ℕ) (asked : ℕ) (rest before now : Option (List ℕ)) (k m : KeptStore P) (o : Outcome) (d : Ran machine line_limit begun e read asked rest before now k m) → AreLeft m o.new → (e ≡ end.Done → machine.usable m) → ReadsGroups journal_known m.journal
        → (sr : ScriptRan t n limit (status_of_end e) opening o) → sr.lines ≡ d.lines → status_of_end e ≡ Done → IsTrue (is_positive every) → AreMade (Some run) every t n sr.script.book o.new.journal.now.reads o.new.pages.now.reads
    made_of end.Done read asked rest before now k m o d left usable groups sr lines is some =
        made_at_end o sr m left (record { rested = (usable refl).0; booked = subst (λ (ls : List (List ℕ)). IsBooked pages_known history m (state_after machine begun ls)) (sym lines) d.stands; groups = groups }) some
    made_of (end.LineTooLong line) read asked rest before now k m o d left usable groups sr lines is some = absurd cc
    made_of end.ReadFault read asked rest before now k m o d left usable groups sr lines is some = absurd cc
    made_of end.WriteFault read asked rest before now k m o d left usable groups sr lines is some = absurd cc
    made_of (end.Halted halt.DiskFault) read asked rest before now k m o d left usable groups sr lines is some = absurd cc
    made_of (end.Halted halt.NoMemory) read asked rest before now k m o d left usable groups sr lines is some = absurd cc
    made_of (end.Halted (halt.Damaged place)) read asked rest before now k m o d left usable groups sr lines is some = absurd cc

    -- the script ran
    pub store_ran : (e : End) (read : List ℕ) (asked : ℕ) (rest before now : Option (List ℕ)) (k m : KeptStore P) (old new : Pair) → k ≡ opened → AreLeft m new
        → ((b : Booked P) → IsBooked pages_known history k b → Ran machine line_limit b e read asked rest before now k m)
        → ((place : Place) → e ≡ end.Halted (halt.Damaged place) → machine.damages) → is_positive every ≡ makes
        → (e ≡ end.Done → machine.usable m)
        → ReadsGroups journal_known m.journal → (status : Status) → status ≡ status_of_end e
        → RanWith t n limit run every status opening (record { read = read; asked = asked; left = rest; before = before; now = now; old = old; new = new })
    store_ran e read asked rest before now k m old new same left ran damaged policy usable groups status named =
        let settled : IsSettled machine k begun = subst (λ (x : KeptStore P). IsSettled machine x begun) (sym same) (opened_settled journal_known pages_known makes history faults base n limit every journal t is known files) in
        let stands : IsBooked pages_known history k begun = subst (λ (x : KeptStore P). IsBooked pages_known history x begun) (sym same) (first_stands journal_known pages_known makes history faults base n limit every journal t is) in
        let done = ran begun stands in
        let of_pages : IsTrue pages_known = second_known journal_known pages_known known in
        let o : Outcome = record { read = read; asked = asked; left = rest; before = before; now = now; old = old; new = new } in
        let files_of_k : pair_of k.journal.history (file_in history k) ≡ opening = λ i. pair_of (same i).journal.history (file_in history (same i)) in
        let sr = script_ran journal_known pages_known makes history faults t n limit is.valid (Paged base) every e read asked rest before now k m opening old new files_of_k settled left.files left.journal_image left.pages_image done in
        subst (λ (x : Status). RanWith t n limit run every x opening o) (sym named) (record {
          ran = sr.0;
          undamaged = undamaged_end e (λ place it. (damaged place it).1 of_pages);
          pages = λ none. ap (λ p. p.pages) left.files ∙ same_known (pages_known && not makes) (file_in history m) (file_in history k) (both_known pages_known (not makes) of_pages (none_made none)) done.fixed ∙ ap (λ p. p.pages) files_of_k;
          made = made_of e read asked rest before now k m o done left usable groups sr.0 sr.1;
        })
      where
        none_made : is_positive every ≡ false → IsTrue (not makes)
        none_made none = subst (λ (b : Bool). IsTrue (not b)) (sym none ∙ policy) refl

    -- nothing of it was done, since there was no memory
    pub nothing_ran : (asked : ℕ) (rest held : Option (List ℕ)) (old new : Pair) → AreLeft opened new → is_positive every ≡ makes → ReadsGroups journal_known journal
        → RanWith t n limit run every NoMemory opening (record { read = []; asked = asked; left = rest; before = held; now = held; old = old; new = new })
    nothing_ran asked rest held old new left policy groups =
        store_ran (end.Halted halt.NoMemory) [] asked rest held held opened opened old new refl left
        (λ s stands. run_nothing machine line_limit s asked rest held opened) (λ place it. absurd cc) policy (λ it. absurd cc) groups NoMemory refl
