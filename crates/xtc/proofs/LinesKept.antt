-- What running lines of the generator's script keeps of a store: that the next line may be asked, its pages, and its counts of faults.
use Rattle.std.proofs.Common.{◌≡◌, ℕ, ◌%◌, ◌==◌, Bool, true, false, not, ◌&&◌, IsTrue, nat_lt, [], inr, refl, sym, ap, subst, ◌∙◌, arith}
use Rattle.std.specs.Prelude.{Option, None, Result, Ok, Err, IfErr, IfSome}
use Rattle.std.specs.Result.{IsErrAnd}
use Rattle.outside_traits.specs.Moments.{History, IsAllSynced}
use Rattle.tree_model.specs.Entries.{Entries}
use Rattle.tree_model.specs.Tree.{Tree}
use Rattle.node_records.specs.declared.open_error.OpenError.{OpenError}
use Rattle.node_records.specs.declared.open_error.OpenError.TheVariants as error
use Rattle.node_records.specs.declared.open_error.Place.{Place}
use Rattle.node_seq.specs.Trees.{StandsFor}
use Rattle.journal.specs.Views.{JournalView}
use Rattle.checkpoint.specs.Bases.{IsUnchanged, contents_of, count_of, is_paged, unchanged_contents}
use Rattle.checkpoint.specs.Renewals.{pages_of as base_pages}
use Rattle.checkpoint.specs.declared.base.Base.{Base}
use Rattle.call_contract.specs.Sessions.{commits_in}
use Rattle.call_contract.specs.States.{start}
use Rattle.session_driver.specs.Asking.{BookCall}
use Rattle.script_runs.specs.Counts.{Counts, DisksCountedWhere}
use Rattle.tx_core.specs.Cores.{CoreView, opened_over, over, with_committed}
use Rattle.durable_sessions.specs.Asked.{GrowsByOne, TakesNext, counts_of}
use Rattle.durable_sessions.specs.declared.in_turn.Stop.{Stop}
use Rattle.durable_sessions.specs.declared.in_turn.Stop.TheVariants as stop
use Rattle.xtc.specs.Checkpoints.{HoldFirst, is_positive, is_tried, last_made}
use Rattle.xtc.specs.Statuses.{status_of, status_of_stop}
use Rattle.xtc.specs.StoreMachine.{HasPages, HasRested, KeptStore, Stands, faults_of, file_in, file_of}
use Rattle.xtc.specs.TopCall.{tx_limit}
use Rattle.xtc.specs.declared.checkpoints.Checkpoints.{Checkpoints}
use Rattle.xtc.specs.declared.status.Status.{Status}
use Rattle.xtc.specs.declared.status.Status.TheVariants.{DiskFault}
use Rattle.xtc.specs.inside.Counting.{GoesOn, IsStopIf, LeftPages}
use Rattle.xtc.specs.inside.Generating.{opened_with}
use Rattle.xtc.specs.inside.Renewing.{DamagedWhere, LeftAsBefore, counts_in, is_due, kept}
use Rattle.xtc.specs.inside.Stores.{Counts as PagesCounts}
use Rattle.xtc.specs.inside.Working.{IsNew}
use Rattle.xtc.proofs.CheckpointLaws.{file_still, paged_still}
use Rattle.xtc.proofs.CommandRunLaws.{as_error}
use Rattle.xtc.proofs.SoundBooks.{empty_legal}
use Rattle.xtc.proofs.StoreMachineLaws.{both_known, counted_out, first_known}

-- ---- statuses

pub stop_is : (lost : Bool) (why : Stop) → IsStopIf lost (status_of_stop why)
stop_is lost (stop.Refused reason) = tt
stop_is lost stop.DiskFault = tt
stop_is lost stop.NoMemory = tt

pub fault_is : (lost : Bool) (fault : OpenError) → ((place : Place) → fault ≡ error.Damaged place → IsTrue lost) → IsStopIf lost (status_of fault)
fault_is lost (error.Damaged place) loses = loses place refl
fault_is lost error.DiskFault loses = tt
fault_is lost error.NoMemory loses = tt

-- what is so of this status is so of an error that is answered for it
pub err_has : {T : Type 0} (Q : Status → Type 0) (r : Result T Status) (status : Status) → IsErrAnd r (λ e. e ≡ status) → Q status → IfErr r Q
err_has Q (Ok x) status none holds = tt
err_has Q (Err e) status is holds = subst Q (sym is) holds

err_is : {T : Type 0} (r : Result T Status) (status : Status) → IsErrAnd r (λ e. e ≡ status) → r ≡ as_error T status
err_is (Ok x) status none = absurd none
err_is {T} (Err e) status is = ap (as_error T) is

stop_disk : (why : Stop) → status_of_stop why ≡ DiskFault → why ≡ stop.DiskFault
stop_disk (stop.Refused reason) it = absurd cc
stop_disk stop.DiskFault it = refl
stop_disk stop.NoMemory it = absurd cc

fault_disk : (fault : OpenError) → status_of fault ≡ DiskFault → fault ≡ error.DiskFault
fault_disk (error.Damaged place) it = absurd cc
fault_disk error.DiskFault it = refl
fault_disk error.NoMemory it = absurd cc

error_of : {T : Type 0} {e f : Status} → as_error T e ≡ as_error T f → e ≡ f
error_of it = cc

-- a fault is counted for the status of an error as for that error
pub counted_err : {T There : Type 0} (r : Result T Status) (status : Status) → IsErrAnd r (λ e. e ≡ status) → (status ≡ DiskFault → There) → (There → status ≡ DiskFault) → (before now : Counts)
    → DisksCountedWhere There before now → DisksCountedWhere (r ≡ Err DiskFault) before now
counted_err {T} {There} r status is leads back before now c =
    let same : r ≡ as_error T status = err_is r status is in
    counted_out before now c (λ it. leads (error_of (sym same ∙ it))) (λ never it. never (same ∙ ap (as_error T) (back it)))

-- ---- counts

module _ {P : Type 0} (faults : P → ℕ) where
  -- where no pages were handed out, the counts are those of the base
  counts_inside : (core : CoreView BookCall (Base P)) (journal : JournalView) (k : Checkpoints P) → k.pages ≡ None → counts_in faults (kept core journal k) ≡ counts_of (count_of faults) core journal
  counts_inside core journal k none = λ i. record { journal = journal.faults; pages = faults_of faults core.base (none i) }

  module _ (first : Counts) (mid : KeptStore P) (core : CoreView BookCall (Base P)) (journal : JournalView) (none : mid.checkpoints.pages ≡ None) (unfaulted : counts_in faults mid ≡ first) where
    before_is : counts_of (count_of faults) mid.core mid.journal ≡ first
    before_is = sym (counts_inside mid.core mid.journal mid.checkpoints none) ∙ unfaulted

    -- a line counted nothing
    pub line_unfaulted : counts_of (count_of faults) core journal ≡ counts_of (count_of faults) mid.core mid.journal → counts_in faults (kept core journal mid.checkpoints) ≡ first
    line_unfaulted same = counts_inside core journal mid.checkpoints none ∙ same ∙ before_is

    -- or a fault
    pub line_counts : {T There : Type 0} (r : Result T Status) (why : Stop) → IsErrAnd r (λ e. e ≡ status_of_stop why) → (why ≡ stop.DiskFault → There) → (There → why ≡ stop.DiskFault)
        → DisksCountedWhere There (counts_of (count_of faults) mid.core mid.journal) (counts_of (count_of faults) core journal)
        → DisksCountedWhere (r ≡ Err DiskFault) first (counts_in faults (kept core journal mid.checkpoints))
    line_counts {T} {There} r why is leads back c =
        counted_err r (status_of_stop why) is (λ it. leads (stop_disk why it)) (λ it. ap status_of_stop (back it)) first (counts_in faults (kept core journal mid.checkpoints))
        (subst (λ (x : Counts × Counts). DisksCountedWhere There x.0 x.1) (λ i. (before_is i, sym (counts_inside core journal mid.checkpoints none) i)) c)

  -- a checkpoint counted one
  pub checkpoint_counts : {T There : Type 0} (first : Counts) (mid new : KeptStore P) → counts_in faults mid ≡ first → (r : Result T Status) (fault : OpenError) → IsErrAnd r (λ e. e ≡ status_of fault)
      → (fault ≡ error.DiskFault → There) → (There → fault ≡ error.DiskFault) → DisksCountedWhere There (counts_in faults mid) (counts_in faults new) → DisksCountedWhere (r ≡ Err DiskFault) first (counts_in faults new)
  checkpoint_counts {T} {There} first mid new unfaulted r fault is leads back c =
      counted_err r (status_of fault) is (λ it. leads (fault_disk fault it)) (λ it. ap status_of (back it)) first (counts_in faults new)
      (subst (λ (x : Counts). DisksCountedWhere There x (counts_in faults new)) unfaulted c)

-- ---- pages

module _ {P : Type 0} (is_known : Bool) (history : P → History) (faults : P → ℕ) where
  has_none : (base : Base P) (pages : Option P) → pages ≡ None → IsTrue (is_paged base) → HasPages base pages
  has_none base pages none paged = subst (HasPages base) (sym none) paged

  module _ (first : History) (every : ℕ) (mid : KeptStore P) (rested : HasRested is_known history mid) (still : IsTrue is_known → is_positive every ≡ false → file_in history mid ≡ first) where
    -- they are left
    pub pages_rested : LeftPages is_known history every first mid.core.base mid.checkpoints.pages
    pages_rested = record { has = has_none mid.core.base mid.checkpoints.pages rested.answered.inside rested.answered.may.paged; still = still }

    -- a line has read them
    module _ (base : Base P) (same : IsUnchanged is_known history faults mid.core.base base) where
      pub line_still : IsTrue is_known → is_positive every ≡ false → file_of history base mid.checkpoints.pages ≡ first
      line_still known none = file_still is_known history faults mid.core.base base mid.checkpoints.pages same known ∙ still known none

      pub pages_read : LeftPages is_known history every first base mid.checkpoints.pages
      pages_read = record {
        has = has_none base mid.checkpoints.pages rested.answered.inside (paged_still is_known history faults mid.core.base base same rested.answered.may.paged);
        still = line_still;
      }

  -- a checkpoint leaves them, where none is due
  module _ (mid new : KeptStore P) (left : LeftAsBefore (is_due mid.checkpoints (commits_in mid.core.book)) mid.core new.core mid.journal new.journal mid.checkpoints.pages new.checkpoints.pages) where
    undue : is_positive mid.checkpoints.every ≡ false → is_due mid.checkpoints (commits_in mid.core.book) ≡ false
    undue none = ap (λ (b : Bool). b && (nat_lt mid.checkpoints.seen (commits_in mid.core.book) && (commits_in mid.core.book % mid.checkpoints.every == 0))) none

    pub checkpoint_still : is_positive mid.checkpoints.every ≡ false → file_in history new ≡ file_in history mid
    checkpoint_still none =
        let same = left.none (undue none) in
        λ i. file_of history (same.0 i).base (same.2 i)

    pub pages_checkpointed : (first : History) (every : ℕ) → mid.checkpoints.every ≡ every → (IsTrue is_known → is_positive every ≡ false → file_in history mid ≡ first) → LeftPages is_known history every first new.core.base new.checkpoints.pages
    pages_checkpointed first every every_is still = record {
      has = left.has_pages;
      still = λ known none. checkpoint_still (ap is_positive every_is ∙ none) ∙ still known none;
    }

-- damage is found only where they aren't known, and checkpoints are made
pub damage_lost : {P : Type 0} (is_known : Bool) (checkpoints : Checkpoints P) (commits : ℕ) (result : Result (Unit {0}) OpenError) → DamagedWhere (is_due checkpoints commits) is_known result → (every : ℕ) → checkpoints.every ≡ every → (place : Place)
    → result ≡ Err (error.Damaged place) → IsTrue (is_positive every && not is_known)
damage_lost is_known checkpoints commits result damaged every every_is place it =
    let found = damaged place it in
    both_known (is_positive every) (not is_known)
    (subst (λ (k : ℕ). IsTrue (is_positive k)) every_is (first_known (is_positive checkpoints.every) (nat_lt checkpoints.seen commits && (commits % checkpoints.every == 0)) found.0))
    (not_true is_known found.1)
  where
    not_true : (b : Bool) → (IsTrue b → ⊥) → IsTrue (not b)
    not_true true never = absurd (never refl)
    not_true false never = refl

-- ---- the next line

module _ {P : Type 0} (is_known : Bool) (history : P → History) where
  pub takes_rested : (k : KeptStore P) → HasRested is_known history k → TakesNext k.core k.journal
  takes_rested k rested = record { usable = rested.answered.may.usable; next = rested.answered.may.next }

  pub goes_on_itself : (k : KeptStore P) → HasRested is_known history k → GoesOn is_known history k k
  goes_on_itself k rested = record { rested = rested; opening = refl; number = refl; every = refl }

  -- behind a line and a checkpoint
  pub goes_on_with : (first mid new : KeptStore P) (core : CoreView BookCall (Base P)) → GoesOn is_known history first mid → GrowsByOne mid.core core → new.core ≡ with_committed (over core new.core.base) new.core.committed
      → new.checkpoints.every ≡ mid.checkpoints.every → HasRested is_known history new → GoesOn is_known history first new
  goes_on_with first mid new core on grown same every rested = record {
    rested = rested;
    opening = ap (λ (c : CoreView BookCall (Base P)). c.opening) same ∙ grown.opening ∙ on.opening;
    number = ap (λ (c : CoreView BookCall (Base P)). c.number) same ∙ grown.number ∙ on.number;
    every = every ∙ on.every;
  }

-- ---- the opening

-- a core that was opened over a base is new
pub opened_new : {B : Type 0} (contents : B → Option Entries) (base : B) (n : ℕ) (core : CoreView BookCall B) → core ≡ opened_over base (contents base) n tx_limit → IsNew contents core
opened_new {B} contents base n core is = subst (λ (v : CoreView BookCall B). IsNew contents v) (sym is) refl

module _ {P : Type 0} (is_known : Bool) (history : P → History) (core : CoreView BookCall (Base P)) (new : IsNew (contents_of is_known history) core) (t : Tree) (stands : StandsFor (contents_of is_known history core.base) t) where
  -- it stands for the tree of its base
  pub new_stands : Stands is_known history core (start t core.number tx_limit)
  new_stands = subst (λ (v : CoreView BookCall (Base P)). Stands is_known history v (start t core.number tx_limit)) (sym new) (record { tree = t; opened = stands; state = refl })

  pub new_tree : StandsFor (contents_of is_known history core.opening) t
  new_tree = subst (λ (b : Base P). StandsFor (contents_of is_known history b) t) (sym (ap (λ (v : CoreView BookCall (Base P)). v.opening) new)) stands

module _ {P : Type 0} (is_known : Bool) (history : P → History) (faults : P → ℕ) (base read : Base P) (n : ℕ) (journal : JournalView) (checkpoints : Checkpoints P) (same : IsUnchanged is_known history faults base read)
    (rested : HasRested is_known history (opened_with is_known history base n journal checkpoints)) where
  pub contents_same : contents_of is_known history read ≡ contents_of is_known history base
  contents_same = unchanged_contents is_known history faults base read same

  -- a base that was read is one that a core may be opened over
  pub rested_read : HasRested is_known history (opened_with is_known history read n journal checkpoints)
  rested_read =
      let before = rested.answered in
      record {
        answered = record {
          stands = λ known.
              let was = before.stands known in
              (start was.1.tree n tx_limit, record { tree = was.1.tree; opened = subst (λ (m : Option Entries). StandsFor m was.1.tree) (sym contents_same) was.1.opened; state = refl });
          may = record {
            opened = paged_still is_known history faults base read same before.may.paged;
            paged = paged_still is_known history faults base read same before.may.paged;
            synced = λ known. subst IsAllSynced (sym (file_still is_known history faults base read None same known)) (before.may.synced known);
            usable = before.may.usable;
            next = before.may.next;
          };
          inside = before.inside;
          legal = λ t stands. empty_legal t n tx_limit stands.valid;
          opened = before.opened;
          seen = before.seen;
          last = before.last;
          made = λ known some t stands. subst (λ (k : ℕ). IfSome (last_made (is_tried checkpoints.every) t n [] k) (λ m. HoldFirst t n [] m (base_pages history read).now.reads)) (sym rested.all) tt;
        };
        all = rested.all;
      }

  pub files_read : IsTrue is_known → file_of history read checkpoints.pages ≡ file_of history base checkpoints.pages
  files_read known = file_still is_known history faults base read checkpoints.pages same known

  pub has_read : HasPages read checkpoints.pages
  has_read = has_none is_known history faults read checkpoints.pages rested.answered.inside (paged_still is_known history faults base read same rested.answered.may.paged)

  pub pages_unread : LeftPages is_known history checkpoints.every (file_of history base checkpoints.pages) read checkpoints.pages
  pages_unread = record { has = has_read; still = λ known none. files_read known }

  inside_is : (b : Base P) → faults_of faults b checkpoints.pages ≡ count_of faults b
  inside_is b = ap (λ (p : Option P). faults_of faults b p) rested.answered.inside

  -- and so are its counts
  pub counts_unread : count_of faults read ≡ count_of faults base → faults_of faults read checkpoints.pages ≡ faults_of faults base checkpoints.pages
  counts_unread uncounted = inside_is read ∙ uncounted ∙ sym (inside_is base)

  -- a fault of that read is counted
  pub counts_read : {T There : Type 0} (status : Status) (why : Stop) → status ≡ status_of_stop why → (why ≡ stop.DiskFault → There) → (There → why ≡ stop.DiskFault) → PagesCounts There (count_of faults base) (count_of faults read)
      → DisksCountedWhere (as_error T status ≡ Err DiskFault) (record { journal = journal.faults; pages = faults_of faults base checkpoints.pages }) (record { journal = journal.faults; pages = faults_of faults read checkpoints.pages })
  counts_read {T} {There} status why named leads back counts =
      let c : PagesCounts There (faults_of faults base checkpoints.pages) (faults_of faults read checkpoints.pages)
      = subst (λ (x : ℕ × ℕ). PagesCounts There x.0 x.1) (λ i. (sym (inside_is base) i, sym (inside_is read) i)) counts in
      record {
        counted = λ it. record { one = inr (c.cause.counted (leads (stop_disk why (sym named ∙ error_of it)))); journal = omega arith; pages = c.later };
        exact = λ never i. record { journal = journal.faults; pages = c.cause.exact (λ there. never (ap (as_error T) (named ∙ ap status_of_stop (back there)))) i };
      }

  -- what is left behind it, is left behind the base
  pub pages_behind : (now : Base P) (pages : Option P) → LeftPages is_known history checkpoints.every (file_of history read checkpoints.pages) now pages → LeftPages is_known history checkpoints.every (file_of history base checkpoints.pages) now pages
  pages_behind now pages left = record { has = left.has; still = λ known none. left.still known none ∙ files_read known }
