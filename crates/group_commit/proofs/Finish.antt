-- The end of a run: all ports were joined, the last member has asked for all commits to be durable, and the group commit was closed.
use Rattle.std.proofs.Common.{◌≡◌, ◌∙◌, ◌+◌, ◌<◌, ℕ, zero, suc, arith, Bool, true, sym, ap, subst, is_some, List, [], ◌∷◌, ◌++◌}
use Rattle.std.specs.Prelude.{None, Option}
use Rattle.std.specs.List.{AllByRecursion, AllZip}
use Rattle.tree_model.specs.Entries.{Entries}
use Rattle.tree_model.specs.Tree.{Tree}
use Rattle.call_contract.specs.Books.{Book, IsRun}
use Rattle.call_contract.specs.Calls.{CallMeaning}
use Rattle.call_contract.specs.Sessions.{commits_in}
use Rattle.call_contract.specs.States.{start}
use Rattle.command_lines.specs.declared.command.Command.{Command}
use Rattle.command_lines.specs.declared.command.StoreCall.{StoreCall}
use Rattle.command_lines.specs.declared.line_reply.LineReply.{LineReply}
use Rattle.journal.specs.Views.{JournalView}
use Rattle.turn_lock.specs.Turns.{HasAll, has_number}
use Rattle.tx_core.specs.Cores.{CoreView}
use Rattle.shared_store.specs.Lists.{book_of, is_opened, SessionsFit}
use Rattle.shared_store.specs.Sessions.{IsOpenedAs, SessionView}
use Rattle.group_commit.specs.Closings.{IsAsTold}
use Rattle.group_commit.specs.Marks.{failure_in, last_commit, opening_in}
use Rattle.group_commit.specs.Members.{AreReached, GroupView, IsOf, MemberView}
use Rattle.group_commit.specs.OwnLines.{own_doings, own_printed}
use Rattle.session_driver.specs.Sessions.{AreOthers, Does, DoesSome}
use Rattle.group_commit.specs.StorePorts.{HaveSessions, IsOpenedOver, IsSamePass, IsSessionNumber, PortView}
use Rattle.group_commit.specs.inside.Handing.{IsAllHandedOut, IsHandedOut}
use Rattle.group_commit.specs.inside.Joining.{CameBack, HasAllBack, IsFirst, IsJoinedTo, left_port}
use Rattle.group_commit.proofs.Handed.{idle_book}
use Rattle.group_commit.proofs.Over.{WasSplit, marks_still, numbers_there, seen_still, zero_there}
use Rattle.group_commit.proofs.Runs.{does_none, does_nothing, each_number}
use Rattle.group_commit.proofs.Started.{opened_before}

-- ---- all are back

module _ {C B : Type 0} (told : B → Option Entries) (m : CallMeaning C) (made : StoreCall → C) (group : GroupView) (first main : MemberView C B) (ports : List (PortView C B)) (split : WasSplit told m made group first main ports)
    (new : List (PortView C B)) (back : AllZip CameBack (ports ++ left_port main ∷ []) new) (z : MemberView C B) (joined : AllByRecursion (IsJoinedTo z) new) where
  -- z has joined all ports
  pub some_opening : is_some (opening_in z.pass.seen) ≡ true
  some_opening = ap is_some (marks_still told m made group first main ports split new back z joined ∙ split.is_first.opening)

  -- and v is the same member after it asked for its commits to be durable
  pub all_back_in : (v : MemberView C B) → v.session ≡ z.session → IsSamePass z.pass v.pass → IsOf group z → is_opened first.session.seen ≡ true → HasAllBack group first v
  all_back_in v same pass of begun =
      let seen = seen_still told m made group first main ports split new back z joined in
      record {
        group_is = (ap (λ (p : SessionView C B). p.lock) same ∙ of.0, pass.lock ∙ of.1);
        numbers = λ k some small. ap (λ (p : SessionView C B). has_number p.has k) same ∙ numbers_there told m made group first main ports split new back z joined k some small;
        zero = ap (λ (h : List Bool). has_number h 0) pass.has ∙ zero_there told m made group first main ports split new back z joined;
        opened = begun;
        seen = (seen.0, ap (λ (p : SessionView C B). p.seen) same ∙ seen.1);
        opening = pass.opening ∙ marks_still told m made group first main ports split new back z joined;
      }

-- ---- the group commit is closed

-- a pass has every number, where it has 0 and each other one
has_all : (pass session : List Bool) → has_number pass 0 ≡ true → ((k : ℕ) → 0 < k → k < 65 → has_number session k ≡ true) → ((k : ℕ) → k < 65 → has_number session k ≡ true → has_number pass k ≡ true) → HasAll pass
has_all pass session none others kept zero small = none
has_all pass session none others kept (suc k) small = kept (suc k) small (others (suc k) (omega arith) small)

module _ {C B : Type 0} (group : GroupView) (first v : MemberView C B) (back : HasAllBack group first v) where
  pub closes : ((k : ℕ) → k < 65 → has_number v.session.has k ≡ true → has_number v.pass.has k ≡ true) → HasAll v.pass.has
  closes kept = has_all v.pass.has v.session.has back.zero back.numbers kept

  module _ (unchanged : B → B → Type 0) (core : CoreView C B) (opened : IsOpenedAs unchanged v.session.seen core) where
    pub end_opened : IsOpenedAs unchanged first.session.seen core
    end_opened = opened_before unchanged first.session.seen v.session.seen back.seen.0 core back.opened back.seen.1 opened

    module _ (m : CallMeaning C) (told : B → Option Entries) (is_known : Bool) (journal : JournalView) (book : core.book ≡ book_of v.session.seen) (as_told : IsAsTold m told is_known v.pass.seen core journal) where
      pub end_out : IsHandedOut m told is_known first.pass core journal
      end_out = record { marks = v.pass.seen; opening = back.opening; as_told = as_told }

      pub end_all_out : AreReached v.pass.seen (last_commit v.session.seen) → failure_in v.pass.seen ≡ None → IsAllHandedOut m told is_known first.pass core journal
      end_all_out reached unfailed =
          let last : last_commit v.session.seen ≡ core.number + commits_in core.book = ap (λ (k : ℕ). k + commits_in (book_of v.session.seen)) opened.number ∙ ap (λ (bk : Book C). core.number + commits_in bk) (sym book) in
          record {
            out = record { marks = v.pass.seen; opening = back.opening; as_told = as_told };
            reached = subst (AreReached v.pass.seen) last reached;
            unfailed = unfailed;
          }

      -- ---- what its book has

      module _ (is_first : IsFirst group first) (fit : SessionsFit core.book) (made : StoreCall → C) (lines : List Command) (sessions : HaveSessions lines) (t : Tree) (n l : ℕ) (run : IsRun m (start t n l) core.book) where
        idle : AreOthers 0 core.book
        idle = idle_book m told is_known group first is_first core journal end_out

        run_v : IsRun m (start t n l) (book_of v.session.seen)
        run_v = subst (λ (bk : Book C). IsRun m (start t n l) bk) book run

        pub end_does : (replies : List LineReply) → (IsRun m (start t n l) (book_of v.session.seen) → (s : ℕ) → IsSessionNumber s → Does m s (start t n l) (book_of v.session.seen) (own_printed made s lines replies))
            → (s : ℕ) → Does m s (start t n l) core.book (own_printed made s lines replies)
        end_does replies each =
            each_number told m made (λ (k : ℕ). Does m k (start t n l) core.book (own_printed made k lines replies)) lines core.book sessions fit idle
            (λ k o no_line. does_nothing told m made lines replies t n l core.book k o no_line)
            (λ k some small. subst (λ (bk : Book C). Does m k (start t n l) bk (own_printed made k lines replies)) (sym book) (each run_v k (some, small)))

        pub end_does_some : (IsRun m (start t n l) (book_of v.session.seen) → (s : ℕ) → IsSessionNumber s → DoesSome m s (start t n l) (book_of v.session.seen) (own_doings made s lines))
            → (s : ℕ) → DoesSome m s (start t n l) core.book (own_doings made s lines)
        end_does_some each =
            each_number told m made (λ (k : ℕ). DoesSome m k (start t n l) core.book (own_doings made k lines)) lines core.book sessions fit idle
            (λ k o no_line. does_none told m made lines t n l core.book k o)
            (λ k some small. subst (λ (bk : Book C). DoesSome m k (start t n l) bk (own_doings made k lines)) (sym book) (each run_v k (some, small)))
