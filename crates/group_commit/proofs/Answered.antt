-- A line's answer, as the port gives it.
use Rattle.std.proofs.Common.{◌≡◌, ℕ, false, refl, sym, subst}
use Rattle.std.specs.Prelude.{IfOk, OnErr, Option, Result, Ok, Err}
use Rattle.tree_model.specs.Entries.{Entries}
use Rattle.call_contract.specs.Calls.{CallMeaning}
use Rattle.command_lines.specs.declared.line_reply.LineAnswer.{LineAnswer}
use Rattle.session_driver.specs.declared.doing.Doing.{Doing}
use Rattle.session_driver.specs.declared.doing.Doing.TheVariants as doing
use Rattle.shared_store.specs.Calls.{HasAborted, HasBegun, HasCommitted}
use Rattle.shared_store.specs.Sessions.{HasDone}
use Rattle.shared_store.specs.Waits.{HasCalled}
use Rattle.shared_store.specs.declared.ended.Ended.{Ended}
use Rattle.shared_store.specs.declared.errors.StoreError.{StoreError}
use Rattle.shared_store.specs.declared.errors.StoreError.TheVariants as store_error
use Rattle.group_commit.specs.Members.{GroupView, HasCommittedAll, HasTurned, IsAnswered, Marks, MemberView}
use Rattle.worker_run.specs.declared.port.PortFault.{PortFault}
use Rattle.group_commit.specs.StorePorts.{IsPort}
use Rattle.group_commit.specs.inside.Answering.{LineLeaves, Leaves, as_ended, as_nothing, as_number}
use Rattle.group_commit.specs.inside.PortLaws.{pass_itself}
use Rattle.group_commit.proofs.Broken.{breaks_nothing, is_broken}
use Rattle.group_commit.proofs.Calls.{abort_leaves, begin_leaves, commit_broken, commit_made, commit_stays}
use Rattle.group_commit.proofs.Passes.{same_pass, turned_pass}
use Rattle.group_commit.proofs.Waits.{call_leaves}

module _ {C B : Type 0} (count : B → ℕ) (told : B → Option Entries) (m : CallMeaning C) (group : GroupView) (p q : MemberView C B) (port : IsPort group p) where
  -- ---- a commit

  -- it is visible under this number; the journal's turn tells how it is answered
  turned_leaves : (number : ℕ) (found : Marks C B) (r : Result ℕ StoreError) → HasDone p.session q.session (λ before after. HasCommitted told m before p.session.under (Ok number) after)
      → IsAnswered found p.session.under number r q.pass.seen → Leaves told m p.session doing.Commit q.session (as_number r)
  turned_leaves number found (Ok k) h a = subst (λ (j : ℕ). Leaves told m p.session doing.Commit q.session (as_number (Ok j))) (sym a.0) (commit_made told m p.session q.session number port.own h)
  turned_leaves number found (Err store_error.DiskFault) h a = commit_broken told m p.session q.session number port.own h
  turned_leaves number found (Err (store_error.Halted f)) h a = commit_broken told m p.session q.session number port.own h
  turned_leaves number found (Err store_error.NoMemory) h a = absurd a
  turned_leaves number found (Err (store_error.Session e)) h a = absurd a

  commit_leaves : (r : Result ℕ StoreError) → HasCommittedAll told m p q r → LineLeaves told m p doing.Commit q (as_number r)
  commit_leaves r h = go h.visible h.session h.journal h.refused
    where
      go : (visible : Result ℕ StoreError) → HasDone p.session q.session (λ before after. HasCommitted told m before p.session.under visible after) → IfOk visible (λ number. HasTurned p.pass q.pass p.session.under number r)
          → OnErr visible ((r ≡ visible) × (q.pass ≡ p.pass)) → LineLeaves told m p doing.Commit q (as_number r)
      go (Ok number) done turned refused = record {
        same = done.same;
        pass = turned_pass p.pass q.pass p.session.under number r port.opened turned;
        leaves = turned_leaves number turned.found r done turned.answered;
      }
      go (Err e) done turned refused = record {
        same = done.same;
        pass = same_pass p.pass q.pass refused.1;
        leaves = subst (λ (x : Result ℕ StoreError). Leaves told m p.session doing.Commit q.session (as_number x)) (sym refused.0) (commit_stays told m p.session q.session e port.own done);
      }

  -- ---- each line

  module _ (result : Result LineAnswer PortFault) where
    pub begin_line : (r : Result ℕ StoreError) → HasDone p.session q.session (λ before after. HasBegun before p.session.under r after) → q.pass ≡ p.pass → result ≡ as_number r → LineLeaves told m p doing.Begin q result
    begin_line r h kept e = subst (LineLeaves told m p doing.Begin q) (sym e) (record { same = h.same; pass = same_pass p.pass q.pass kept; leaves = begin_leaves told m p.session q.session r port.own h })

    pub commit_line : (r : Result ℕ StoreError) → HasCommittedAll told m p q r → result ≡ as_number r → LineLeaves told m p doing.Commit q result
    commit_line r h e = subst (LineLeaves told m p doing.Commit q) (sym e) (commit_leaves r h)

    pub abort_line : (r : Result (Unit {0}) StoreError) → HasDone p.session q.session (λ before after. HasAborted before p.session.under r after) → q.pass ≡ p.pass → result ≡ as_nothing r
        → LineLeaves told m p doing.Abort q result
    abort_line r h kept e = subst (LineLeaves told m p doing.Abort q) (sym e) (record { same = h.same; pass = same_pass p.pass q.pass kept; leaves = abort_leaves told m p.session q.session r port.own h })

    pub call_line : (call : C) (r : Result Ended StoreError) → HasDone p.session q.session (λ before after. HasCalled count told m p.session.has before p.session.under call r after) → q.pass ≡ p.pass → result ≡ as_ended r
        → LineLeaves told m p (doing.Call call) q result
    call_line call r h kept e =
        subst (LineLeaves told m p (doing.Call call) q) (sym e) (record { same = h.same; pass = same_pass p.pass q.pass kept; leaves = call_leaves count told m p.session q.session call r port.own h })

-- nothing was done of a line
pub unasked_line : {C B : Type 0} (told : B → Option Entries) (m : CallMeaning C) (p : MemberView C B) (d : Doing C) (why : PortFault) → LineLeaves told m p d p (Err why)
unasked_line told m p d why = record {
  same = refl;
  pass = pass_itself p.pass;
  leaves = is_broken p.session.has p.session.under d p.session.seen p.session.seen (breaks_nothing p.session.has p.session.under d false p.session.seen p.session.seen refl);
}
