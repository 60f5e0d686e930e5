-- What a line, and the rest behind it, leave of a store.
use Rattle.std.proofs.Common.{◌≡◌, ℕ, ◌++◌, Bool, true, false, not, ◌&&◌, ◌%◌, ◌==◌, nat_lt, IsTrue, refl, sym, ap, ◌∙◌, subst}
use Rattle.std.specs.Prelude.{Result, Ok, Err, OnOk}
use Rattle.outside_traits.specs.DiskPairs.{PairsLeave}
use Rattle.outside_traits.specs.Moments.{History, IsAllSynced}
use Rattle.tree_model.specs.Tree.{Tree}
use Rattle.node_seq.specs.Trees.{StandsFor}
use Rattle.checkpoint.specs.Bases.{IsUnchanged, contents_of}
use Rattle.checkpoint.specs.declared.base.Base.{Base}
use Rattle.script_runs.specs.Machine.{IsSettled, Machine, HoldsEither}
use Rattle.call_contract.specs.Books.{Book, IsBookFrom}
use Rattle.call_contract.specs.Sessions.{commits_in}
use Rattle.call_contract.specs.States.{State}
use Rattle.session_driver.specs.Asking.{BookCall}
use Rattle.session_driver.specs.Progress.{Progress}
use Rattle.durable_sessions.specs.Asked.{GrowsByOne, LeadsTo, LeavesEither, TakesNext}
use Rattle.durable_sessions.specs.Durable.{HoldsAll}
use Rattle.store_calls.specs.StoreCalls.{IsValidStoreCall, store_meaning}
use Rattle.tx_core.specs.Cores.{CoreView}
use Rattle.xtc.specs.Checkpoints.{is_positive}
use Rattle.xtc.specs.StoreMachine.{Booked, HasAnswered, HasRested, IsBooked, KeptStore, MakesAs, Stands, file_in, file_of, store_machine, with_done}
use Rattle.xtc.specs.inside.Renewing.{LeftAsBefore, LeftStanding, StandFor, files_of, is_due}
use Rattle.xtc.proofs.CheckpointLaws.{answered_on, file_still}
use Rattle.xtc.proofs.StoreMachineLaws.{first_known, known_same, moments_out, second_known, settled_in, settled_of, settled_out, standing_of}

module _ {P : Type 0} (journal_known pages_known makes : Bool) (history : P → History) (faults : P → ℕ) (self old new : KeptStore P) (view : old ≡ self) where
  abbrev machine : Machine (KeptStore P)
  machine = store_machine journal_known pages_known makes history faults

  -- ---- a line

  module _ (same : IsUnchanged pages_known history faults old.core.base new.core.base) (checkpoints : new.checkpoints ≡ old.checkpoints) where
    -- it leaves the page file as it is
    file_as_it_was : IsTrue pages_known → file_in history new ≡ file_in history self
    file_as_it_was known =
        (λ i. file_of history new.core.base ((checkpoints i).pages)) ∙ file_still pages_known history faults old.core.base new.core.base old.checkpoints.pages same known ∙ ap (file_in history) view

    pub line_fixed : machine.fixed new ≡ machine.fixed self
    line_fixed = known_same (pages_known && not makes) (file_in history new) (file_in history self) (λ known. file_as_it_was (first_known pages_known (not makes) known))

    pub line_ready : HasRested pages_known history self × MakesAs makes self → GrowsByOne old.core new.core → TakesNext new.core new.journal
        → ((t : Tree) → StandsFor (contents_of pages_known history new.core.opening) t → IsBookFrom IsValidStoreCall store_meaning t new.core.number new.core.limit new.core.book)
        → HasAnswered pages_known history new × MakesAs makes new
    line_ready ready grown takes legal =
        let before : HasRested pages_known history old × MakesAs makes old = subst (λ (k : KeptStore P). HasRested pages_known history k × MakesAs makes k) (sym view) ready in
        (answered_on pages_known history faults old new before.0 grown takes same checkpoints legal, ap (λ c. is_positive c.every) checkpoints ∙ before.1)

    module _ (b : Booked P) (stands : IsBooked pages_known history self b) (done : Progress BookCall) where
      abbrev next : Booked P
      next = with_done b done

      pub line_stands : GrowsByOne old.core new.core → Stands pages_known history new.core done.state → new.core.book ≡ old.core.book ++ done.book → IsBooked pages_known history new next
      line_stands grown led book =
          let before : IsBooked pages_known history old b = subst (λ (k : KeptStore P). IsBooked pages_known history k b) (sym view) stands in
          record {
            stands = led;
            book = book ∙ ap (λ (x : Book BookCall). x ++ done.book) before.book;
            opening = grown.opening ∙ before.opening;
            number = grown.number ∙ before.number;
            every = ap (λ c. c.every) checkpoints ∙ before.every;
          }

      module _ (settled : IsSettled machine self b) where
        holds_now : HoldsAll b.state (file_in history self).now.reads self.journal.history
        holds_now = settled_in journal_known pages_known makes history faults self b stands.stands settled

        still : file_in history new ≡ file_in history self
        still = file_as_it_was (second_known journal_known pages_known settled.is_known)

        pub line_settled : LeadsTo store_meaning (contents_of pages_known history) journal_known old.journal.history new.core new.journal.history b.state done.state → IsSettled machine new next
        line_settled led =
            let holds : HoldsAll b.state (file_in history self).now.reads old.journal.history = subst (λ (k : KeptStore P). HoldsAll b.state (file_in history self).now.reads k.journal.history) (sym view) holds_now in
            settled_out journal_known pages_known makes history faults new next settled.is_known led.stands
            (subst (λ (h : History). HoldsAll done.state h.now.reads new.journal.history) (sym still) (led.settled (first_known journal_known pages_known settled.is_known) (file_in history self).now.reads holds))
            (subst IsAllSynced (sym still) settled.kept.pages)

        pub line_moments : LeavesEither journal_known old.journal.history new.journal.history b.state done.state → PairsLeave (HoldsEither machine b next) (machine.disks self) (machine.disks new)
        line_moments leaves =
            moments_out journal_known pages_known makes history faults b next self new still settled.kept.pages
            (subst (λ (k : KeptStore P). LeavesEither journal_known k.journal.history new.journal.history b.state done.state) view leaves (first_known journal_known pages_known settled.is_known) (file_in history self).now.reads holds_now)

  -- ---- the rest behind it

  module _ (every : new.checkpoints.every ≡ old.checkpoints.every)
      (left : LeftAsBefore (is_due old.checkpoints (commits_in old.core.book)) old.core new.core old.journal new.journal old.checkpoints.pages new.checkpoints.pages) where
    pub rest_stands : (b : Booked P) → IsBooked pages_known history self b → IsBooked pages_known history new b
    rest_stands b stands =
        let before : IsBooked pages_known history old b = subst (λ (k : KeptStore P). IsBooked pages_known history k b) (sym view) stands in
        let led : Stands pages_known history old.core b.state = before.stands in
        record {
          stands = subst (λ (c : CoreView BookCall (Base P)). Stands pages_known history c b.state) (sym left.same_core) (record { tree = led.tree; opened = led.opened; state = led.state });
          book = ap (λ (c : CoreView BookCall (Base P)). c.book) left.same_core ∙ before.book;
          opening = ap (λ (c : CoreView BookCall (Base P)). c.opening) left.same_core ∙ before.opening;
          number = ap (λ (c : CoreView BookCall (Base P)). c.number) left.same_core ∙ before.number;
          every = every ∙ before.every;
        }

    pub rest_fixed : MakesAs makes self → machine.fixed new ≡ machine.fixed self
    rest_fixed makes_as = known_same (pages_known && not makes) (file_in history new) (file_in history self) still
      where
        still : IsTrue (pages_known && not makes) → file_in history new ≡ file_in history self
        still known =
            let none : IsTrue (not makes) = second_known pages_known (not makes) known in
            let makes_none : is_positive old.checkpoints.every ≡ false = subst (λ (k : KeptStore P). MakesAs makes k) (sym view) makes_as ∙ not_true makes none in
            let as_it_was = left.none (λ i. makes_none i && (nat_lt old.checkpoints.seen (commits_in old.core.book) && (commits_in old.core.book % old.checkpoints.every == 0))) in
            (λ i. file_of history ((as_it_was.0 i).base) (as_it_was.2 i)) ∙ ap (file_in history) view
          where
            not_true : (b : Bool) → IsTrue (not b) → b ≡ false
            not_true true it = absurd cc
            not_true false it = refl

    module _ {E : Type 0} (result : Result (Unit {0}) E) (files : IsTrue journal_known → IsTrue pages_known → (s : State BookCall) → Stands pages_known history old.core s → StandFor s (files_of history old) → LeftStanding s (files_of history old) (files_of history new) result)
        (b : Booked P) (stands : IsBooked pages_known history self b) (settled : IsSettled machine self b) where
      left_by : LeftStanding b.state (files_of history self) (files_of history new) result
      left_by =
          let stand : StandFor b.state (files_of history self) = standing_of journal_known pages_known makes history faults self b stands.stands settled in
          let run = files (first_known journal_known pages_known settled.is_known) (second_known journal_known pages_known settled.is_known) b.state in
          subst (λ (k : KeptStore P). Stands pages_known history k.core b.state → StandFor b.state (files_of history k) → LeftStanding b.state (files_of history k) (files_of history new) result) view run stands.stands stand

      pub rest_moments : PairsLeave (machine.holds b) (machine.disks self) (machine.disks new)
      rest_moments = left_by.any_moment

      pub rest_settled : OnOk result (IsSettled machine new b)
      rest_settled = go result left_by.at_end
        where
          go : (r : Result (Unit {0}) E) → OnOk r (StandFor b.state (files_of history new)) → OnOk r (IsSettled machine new b)
          go (Ok x) stand = settled_of journal_known pages_known makes history faults new b settled.is_known (rest_stands b stands).stands stand
          go (Err e) stand = tt

-- ---- after Ok

-- what holds always holds after Ok
pub made_by : {T E : Type 0} (r : Result T E) (A : Type 0) → A → OnOk r A
made_by (Ok x) A a = a
made_by (Err e) A a = tt

pub both_made : {T E : Type 0} (r : Result T E) (A B : Type 0) → OnOk r A → B → OnOk r (A × B)
both_made (Ok x) A B a b = (a, b)
both_made (Err e) A B a b = tt

-- what holds after Ok of each state holds of each after Ok
pub each_settled : {T E S : Type 0} (r : Result T E) (Stands Old New : S → Type 0) → ((b : S) → Stands b → Old b → OnOk r (New b)) → OnOk r ((b : S) → Stands b → Old b → New b)
each_settled (Ok x) Stands Old New all = all
each_settled (Err e) Stands Old New all = tt
