-- A store that was opened may be asked, and its files hold what is committed.
use Rattle.std.proofs.Common.{◌≡◌, ℕ, ◌+◌, Bool, ◌&&◌, IsTrue, refl, sym, ap, subst, ◌∙◌, add-zero, arith}
use Rattle.std.specs.Prelude.{Option, None}
use Rattle.outside_traits.specs.DiskPairs.{pair_of}
use Rattle.outside_traits.specs.Moments.{History, IsAllSynced}
use Rattle.tree_model.specs.Entries.{Entries}
use Rattle.tree_model.specs.Tree.{Tree}
use Rattle.node_seq.specs.Trees.{StandsFor}
use Rattle.journal.specs.Groups.{is_next}
use Rattle.journal.specs.Views.{JournalView}
use Rattle.recovery.specs.Openings.{TakesBehind}
use Rattle.script_runs.specs.Counts.{DisksCountedWhere}
use Rattle.script_runs.specs.Machine.{IsSettled}
use Rattle.durable_sessions.specs.Asked.{TakesNext}
use Rattle.durable_sessions.specs.Durable.{HoldsAll}
use Rattle.durable_sessions.specs.Standing as standing
use Rattle.call_contract.specs.States.{start}
use Rattle.session_driver.specs.Asking.{BookCall}
use Rattle.store_calls.specs.StoreCalls.{store_meaning}
use Rattle.tx_core.specs.Cores.{CoreView, next_number, opened_over}
use Rattle.checkpoint.specs.Bases.{contents_of}
use Rattle.checkpoint.specs.declared.base.Base.TheVariants.{Paged}
use Rattle.xtc.specs.StoreMachine.{Booked, HasRested, Held, IsBooked, KeptStore, begun_at, pages_of, store_machine, told}
use Rattle.xtc.specs.inside.CommandRuns.{HasTree, StandSettled}
use Rattle.xtc.proofs.SoundBooks.{empty_legal}
use Rattle.xtc.proofs.StoreMachineLaws.{settled_out}

-- the files of a store that was opened hold what is committed at the start
pub opening_holds : (t : Tree) (n limit : ℕ) (journal pages : History) → StandSettled (pair_of journal pages) t n → HoldsAll {C = BookCall} (start t n limit) pages.now.reads journal
opening_holds t n limit journal pages stand = record { synced = stand.journal; holds = stand.stand.opens }

module _ {B : Type 0} (contents : B → Option Entries) (base : B) (n limit : ℕ) (core : CoreView BookCall B) (is : core ≡ opened_over base (contents base) n limit) where
  -- a core that was opened over a base stands for its tree
  pub core_stands : (t : Tree) → StandsFor (contents base) t → standing.Stands store_meaning contents core (start t n limit)
  core_stands t stands = subst (λ (v : CoreView BookCall B). standing.Stands store_meaning contents v (start t n limit)) (sym is) (record { tree = t; opened = stands; state = refl })

  -- and the journal takes its next commit
  pub takes_begin : (journal : JournalView) → TakesBehind journal n → TakesNext core journal
  takes_begin journal takes = record {
    usable = takes.usable;
    next = ap (λ (v : CoreView BookCall B). is_next journal.last (next_number v)) is ∙ ap (λ (k : ℕ). is_next journal.last (k + 1)) (add-zero n) ∙ takes.next;
  }

  base_is : core.base ≡ base
  base_is = ap (λ (v : CoreView BookCall B). v.base) is

  -- what stays of the core's base stays of the one that it was opened over
  pub base_stays : (stays : B → B → Type 0) (new out : B) → out ≡ new → stays core.base new → stays base out
  base_stays stays new out same holds = subst (λ (x : B × B). stays x.0 x.1) (λ i. (base_is i, sym same i)) holds

  -- and so it is with what was counted
  pub counts_from : {Q : Type 0} (count : B → ℕ) (new out : B) → out ≡ new → (journal journal_now : ℕ)
      → DisksCountedWhere Q (record { journal = journal; pages = count core.base }) (record { journal = journal_now; pages = count new })
      → DisksCountedWhere Q (record { journal = journal; pages = count base }) (record { journal = journal_now; pages = count out })
  counts_from {Q} count new out same journal journal_now counts =
      subst (λ (x : B × B). DisksCountedWhere Q (record { journal = journal; pages = count x.0 }) (record { journal = journal_now; pages = count x.1 })) (λ i. (base_is i, sym same i)) counts

-- ---- a store before its first line

module _ {P : Type 0} (journal_known pages_known makes : Bool) (history : P → History) (faults : P → ℕ) (base : Held P) (n limit every : ℕ) (journal : JournalView) where
  abbrev pub first : KeptStore P
  first = record { core = opened_over (Paged base) (told pages_known history base) n limit; journal = journal; checkpoints = record { every = every; opened = n; seen = 0; pages = None } }

  -- it may be asked a line
  pub first_rested : TakesBehind journal n → (IsTrue pages_known → IsAllSynced (pages_of history base)) → (IsTrue pages_known → HasTree (told pages_known history base)) → HasRested pages_known history first
  first_rested takes synced tree =
      let next : TakesNext first.core journal = takes_begin (contents_of pages_known history) (Paged base) n limit first.core refl journal takes in
      record {
        answered = record {
          stands = λ known. let has = tree known in (start has.tree n limit, record { tree = has.tree; opened = has.stands; state = refl });
          may = record { opened = refl; paged = refl; synced = synced; usable = next.usable; next = next.next };
          inside = refl;
          legal = λ t stands. empty_legal t n limit stands.valid;
          opened = refl;
          seen = omega arith;
          last = omega arith;
          made = λ known some t stands. tt;
        };
        all = refl;
      }

  -- and stands in the state of the opening, without an entry
  abbrev begun : Tree → Booked P
  begun t = begun_at (start t n limit) (Paged base) n every

  pub first_stands : (t : Tree) → StandsFor (told pages_known history base) t → IsBooked pages_known history first (begun t)
  first_stands t stands = record { stands = record { tree = t; opened = stands; state = refl }; book = refl; opening = refl; number = refl; every = refl }

  pub opened_settled : (t : Tree) → StandsFor (told pages_known history base) t → IsTrue (journal_known && pages_known) → StandSettled (pair_of journal.history (pages_of history base)) t n
      → IsSettled (store_machine journal_known pages_known makes history faults) first (begun t)
  opened_settled t stands known files =
      settled_out journal_known pages_known makes history faults first (begun t) known (first_stands t stands).stands
      (opening_holds t n limit journal.history (pages_of history base) files) files.pages
