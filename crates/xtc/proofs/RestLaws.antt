-- What a store is behind the look whether a checkpoint is due.
use Rattle.std.proofs.Common.{◌≡◌, ℕ, suc, ◌+◌, ◌≤◌, ◌%◌, ◌==◌, Bool, true, false, ◌&&◌, IsTrue, nat_lt, refl, sym, ap, ◌∙◌, subst, arith}
use Rattle.std.specs.Prelude.{Option, None, IfSome, Result, Ok, Err, OnOk}
use Rattle.std.proofs.lemmas.Bool.{ltb-true, ltb-false}
use Rattle.outside_traits.specs.Moments.{History}
use Rattle.tree_model.specs.Entries.{Entries}
use Rattle.tree_model.specs.Tree.{Tree, map_of}
use Rattle.node_records.specs.declared.open_error.OpenError.{OpenError}
use Rattle.journal.specs.Views.{JournalView}
use Rattle.checkpoint.specs.Renewals.{MayRenew, pages_of as base_pages}
use Rattle.checkpoint.specs.declared.base.Base.{Base}
use Rattle.call_contract.specs.Books.{Book}
use Rattle.call_contract.specs.Sessions.{commits_in}
use Rattle.call_contract.specs.States.{State}
use Rattle.session_driver.specs.Asking.{BookCall}
use Rattle.store_calls.specs.StoreCalls.{store_meaning}
use Rattle.tx_core.specs.Cores.{CoreView, over, state_from, with_committed}
use Rattle.xtc.specs.Checkpoints.{HoldFirst, fits, is_positive, is_tried, last_made, made_or, tree_after}
use Rattle.xtc.specs.StoreMachine.{HasAnswered, HasRested, HoldMade, KeptStore, Stands}
use Rattle.xtc.specs.declared.checkpoints.Checkpoints.{Checkpoints}
use Rattle.xtc.specs.inside.Renewing.{IsMadeAs, IsMadeWhere, LeftAsBefore, is_due, kept}
use Rattle.xtc.proofs.CheckpointLaws.{all_committed, last_number}
use Rattle.xtc.proofs.StoreMachineLaws.{first_known, second_known}

-- what follows of three facts after Ok
on_all : {T E : Type 0} (r : Result T E) (A B C D : Type 0) → OnOk r A → OnOk r B → OnOk r C → (A → B → C → D) → OnOk r D
on_all (Ok x) A B C D a b c leads = leads a b c
on_all (Err e) A B C D a b c leads = tt

module _ (every : ℕ) (t : Tree) (n : ℕ) (book : Book BookCall) (Q : ℕ → Type 0) (seen commits : ℕ) (last : commits ≤ seen + 1) (before : seen ≤ commits) where
  abbrev MadeIn : ℕ → Type 0
  MadeIn k = IfSome (last_made (is_tried every) t n book k) Q

  -- where none is due, the last one is that of before
  pub made_undue : (is_positive every && (nat_lt seen commits && (commits % every == 0))) ≡ false → IsTrue (is_positive every) → MadeIn seen → MadeIn commits
  made_undue none some held = go (nat_lt seen commits) refl
    where
      untried : nat_lt seen commits ≡ true → (commits % every == 0) ≡ false
      untried less = sym (λ i. some i && (less i && (commits % every == 0))) ∙ none

      go : (b : Bool) → nat_lt seen commits ≡ b → MadeIn commits
      go true less =
          let is : suc seen ≡ commits = omega (arith, ltb-true seen commits less, last) in
          let not_here : (suc seen % every == 0) ≡ false = ap (λ (k : ℕ). k % every == 0) is ∙ untried less in
          subst MadeIn is (subst (λ (b : Bool). IfSome (made_or (b && fits (tree_after t book (suc seen)) (n + suc seen)) (suc seen) (last_made (is_tried every) t n book seen)) Q) (sym not_here) held)
      go false less = subst MadeIn (omega (arith, ltb-false seen commits less, before)) held

  -- where one is due and was tried, the last one is this, or where the tree doesn't fit that of before
  pub made_due : IsTrue (is_positive every && (nat_lt seen commits && (commits % every == 0)))
      → IfSome (made_or (fits (tree_after t book commits) (n + commits)) commits (last_made (is_tried every) t n book seen)) Q → MadeIn commits
  made_due due held =
      let rest : IsTrue (nat_lt seen commits && (commits % every == 0)) = second_known (is_positive every) (nat_lt seen commits && (commits % every == 0)) due in
      let less : IsTrue (nat_lt seen commits) = first_known (nat_lt seen commits) (commits % every == 0) rest in
      let here : IsTrue (commits % every == 0) = second_known (nat_lt seen commits) (commits % every == 0) rest in
      let is : suc seen ≡ commits = omega (arith, ltb-true seen commits less, last) in
      let tried : (suc seen % every == 0) ≡ true = ap (λ (k : ℕ). k % every == 0) is ∙ here in
      let at_next : IfSome (made_or (fits (tree_after t book (suc seen)) (n + suc seen)) (suc seen) (last_made (is_tried every) t n book seen)) Q
      = subst (λ (k : ℕ). IfSome (made_or (fits (tree_after t book k) (n + k)) k (last_made (is_tried every) t n book seen)) Q) (sym is) held in
      subst MadeIn is (subst (λ (b : Bool). IfSome (made_or (b && fits (tree_after t book (suc seen)) (n + suc seen)) (suc seen) (last_made (is_tried every) t n book seen)) Q) (sym tried) at_next)

module _ {P : Type 0} (is_known : Bool) (history : P → History) (old : KeptStore P) (answered : HasAnswered is_known history old) where
  -- it was looked: behind all commits
  abbrev pub looked : Checkpoints P → ℕ → Checkpoints P
  looked c commits = record c { seen = commits }

  -- and none was due
  pub rested_undue : is_due old.checkpoints (commits_in old.core.book) ≡ false → HasRested is_known history (kept old.core old.journal (looked old.checkpoints (commits_in old.core.book)))
  rested_undue none = record {
    answered = record {
      stands = answered.stands;
      may = answered.may;
      inside = answered.inside;
      legal = answered.legal;
      opened = answered.opened;
      seen = omega arith;
      last = omega arith;
      made = λ known some t stands.
          made_undue old.checkpoints.every t old.core.number old.core.book (λ m. HoldFirst t old.core.number old.core.book m (base_pages history old.core.base).now.reads)
          old.checkpoints.seen (commits_in old.core.book) answered.last answered.seen none some (answered.made known some t stands);
    };
    all = refl;
  }

  -- or one was, and it was made or the tree doesn't fit
  module _ (base : Base P) (committed : Option Entries) (journal : JournalView) (again : MayRenew is_known history (with_committed (over old.core base) committed) journal)
      (due : IsTrue (is_due old.checkpoints (commits_in old.core.book)))
      (made : IsTrue is_known → (s : State BookCall) → Stands is_known history old.core s → IsMadeWhere true s (base_pages history old.core.base) (base_pages history base)) where
    abbrev core : CoreView BookCall (Base P)
    core = with_committed (over old.core base) committed

    abbrev now : Checkpoints P
    now = record old.checkpoints { seen = commits_in old.core.book; pages = None }

    hold_now : HoldMade is_known history core old.checkpoints.every (commits_in old.core.book)
    hold_now known some t stands =
        let s : State BookCall = state_from store_meaning t old.core in
        let legal = answered.legal t stands in
        let commits : ℕ = commits_in old.core.book in
        let tree_is : tree_after t old.core.book commits ≡ s.tree = all_committed t old.core.number old.core.limit old.core.book legal in
        let number_is : old.core.number + commits ≡ s.number = last_number t old.core.number old.core.limit old.core.book legal in
        let of : History → ℕ → Type 0 = λ pages m. HoldFirst t old.core.number old.core.book m pages.now.reads in
        let go : (b : Bool) → IsMadeAs b s (base_pages history old.core.base) (base_pages history base)
        → IfSome (made_or b commits (last_made (is_tried old.checkpoints.every) t old.core.number old.core.book old.checkpoints.seen)) (of (base_pages history base)) = λ b.
        elim b as (λ b. IsMadeAs b s (base_pages history old.core.base) (base_pages history base)
        → IfSome (made_or b commits (last_made (is_tried old.checkpoints.every) t old.core.number old.core.book old.checkpoints.seen)) (of (base_pages history base))) [
          | true ↦ λ holds. holds ∙ (λ i. Ok (map_of (sym tree_is i), sym number_is i))
          | false ↦ λ same. subst (λ (h : History). IfSome (last_made (is_tried old.checkpoints.every) t old.core.number old.core.book old.checkpoints.seen) (of h)) (sym same) (answered.made known some t stands)
        ] in
        made_due old.checkpoints.every t old.core.number old.core.book (of (base_pages history base)) old.checkpoints.seen commits answered.last answered.seen due
        (subst (λ (x : Tree × ℕ). IfSome (made_or (fits x.0 x.1) commits (last_made (is_tried old.checkpoints.every) t old.core.number old.core.book old.checkpoints.seen)) (of (base_pages history base)))
        (λ i. (sym tree_is i, sym number_is i)) (go (fits s.tree s.number) (made known s (record { tree = t; opened = stands; state = refl }))))

    pub rested_made : HasRested is_known history (kept core journal now)
    rested_made = record {
      answered = record {
        stands = λ known. let was = answered.stands known in (was.0, record { tree = was.1.tree; opened = was.1.opened; state = was.1.state });
        may = again;
        inside = refl;
        legal = answered.legal;
        opened = answered.opened;
        seen = omega arith;
        last = omega arith;
        made = hold_now;
      };
      all = refl;
    }

  -- so it is behind what was answered
  module _ (new : KeptStore P) (result : Result (Unit {0}) OpenError) (due : Bool) (is : due ≡ is_due old.checkpoints (commits_in old.core.book))
      (left : LeftAsBefore due old.core new.core old.journal new.journal old.checkpoints.pages new.checkpoints.pages)
      (others : new.checkpoints ≡ record (looked old.checkpoints (commits_in old.core.book)) { pages = new.checkpoints.pages }) where
    rested_behind : new.checkpoints.pages ≡ None → MayRenew is_known history new.core new.journal
        → (IsTrue is_known → (s : State BookCall) → Stands is_known history old.core s → IsMadeWhere due s (base_pages history old.core.base) (base_pages history new.core.base)) → HasRested is_known history new
    rested_behind inside again made = go due refl
      where
        commits : ℕ
        commits = commits_in old.core.book

        here : Checkpoints P
        here = record (looked old.checkpoints commits) { pages = None }

        checkpoints_are : new.checkpoints ≡ here
        checkpoints_are = others ∙ (λ i. record (looked old.checkpoints commits) { pages = inside i })

        go : (b : Bool) → due ≡ b → HasRested is_known history new
        go true so =
            subst (λ (x : CoreView BookCall (Base P) × Checkpoints P). HasRested is_known history (kept x.0 new.journal x.1)) (λ i. (sym left.same_core i, sym checkpoints_are i))
            (rested_made new.core.base new.core.committed new.journal (subst (λ (c : CoreView BookCall (Base P)). MayRenew is_known history c new.journal) left.same_core again) (sym is ∙ so)
            (λ known s stands. subst (λ (b : Bool). IsMadeWhere b s (base_pages history old.core.base) (base_pages history new.core.base)) so (made known s stands)))
        go false so =
            let same = left.none so in
            subst (λ (x : CoreView BookCall (Base P) × JournalView × Checkpoints P). HasRested is_known history (kept x.0 x.1 x.2))
            (λ i. (sym same.0 i, sym same.1 i, sym (others ∙ (λ j. record (looked old.checkpoints commits) { pages = same.2 j })) i)) (rested_undue (sym is ∙ so))

    pub rested_by : OnOk result (new.checkpoints.pages ≡ None) → OnOk result (MayRenew is_known history new.core new.journal)
        → OnOk result (IsTrue is_known → (s : State BookCall) → Stands is_known history old.core s → IsMadeWhere due s (base_pages history old.core.base) (base_pages history new.core.base)) → OnOk result (HasRested is_known history new)
    rested_by inside again made = on_all result _ _ _ _ inside again made rested_behind
