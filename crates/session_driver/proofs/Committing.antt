-- Commits by a line: one that is prepared, and one that is refused.
use Rattle.std.proofs.Common.{◌≡◌, ◌≤◌, ℕ, true, false, List, [], ◌∷◌, ◌++◌, length, nat_lt, Option, Some, None, is_some, IsTrue, refl, sym, ap, ◌∙◌, arith}
use Rattle.std.proofs.lemmas.Bool.Decides.{nat_tests}
use Rattle.std.specs.Prelude.{◌<◌, Result, Ok, Err, IfOk, IfSome}
use Rattle.tree_model.specs.Entries.{Entries}
use Rattle.tree_model.specs.Tree.{Tree}
use Rattle.node_records.specs.Changes.{changes_bytes}
use Rattle.node_seq.specs.Trees.{StandsFor}
use Rattle.call_contract.specs.CallChanges.{changes_of_calls}
use Rattle.call_contract.specs.Calls.{CallMeaning}
use Rattle.call_contract.specs.States.{Live, of_session}
use Rattle.command_lines.specs.declared.line_reply.LineAnswer.TheVariants.{Session}
use Rattle.command_lines.specs.declared.line_reply.LineReply.{LineReply}
use Rattle.command_lines.specs.declared.line_reply.LineReply.TheVariants.{Said}
use Rattle.command_lines.specs.declared.line_reply.SessionRefusal.{SessionRefusal}
use Rattle.tx_core.specs.Commits.{body_limit, is_past_limit, IsPrepared, HasChangesOf, IsPastLimitIn}
use Rattle.tx_core.specs.Cores.{CoreView, state_from}
use Rattle.tx_core.specs.Refusals.{call_refused, shown_prepare_error}
use Rattle.tx_core.specs.declared.commits.Prepared.{Prepared}
use Rattle.tx_core.specs.declared.errors.SessionError.{SessionError}
use Rattle.tx_core.specs.declared.errors.SessionError.TheVariants.{IsWaiting, InTransaction, NoTransaction, TxLimit, CommitLimit, NoMemory}
use Rattle.session_driver.specs.Driving.{shown_why, shown_of, HasDone, IsReadyToCommit}
use Rattle.session_driver.specs.Lines.{after_line}
use Rattle.session_driver.specs.Refusals.{refusal}
use Rattle.session_driver.specs.declared.doing.Doing.{Doing}
use Rattle.session_driver.specs.declared.doing.Doing.TheVariants as doing
use Rattle.session_driver.proofs.Driven.{HasBookOf, Legal, run_before, entries_kept}
use Rattle.session_driver.proofs.Kept.{commit_refused, commit_allowed_by}
use Rattle.session_driver.proofs.Stepped.{line_refused}

not_past : (a b : ℕ) → b ≤ a → nat_lt a b ≡ false
not_past a b le = grind (arith, nat_tests)

no_some : {A : Type 0} (x : A) → None ≡ Some x → ⊥
no_some x e = cc

module _ {C B : Type 0} where
  pub prepared_book : (old new : CoreView C B) → new ≡ record old { prepared = new.prepared } → HasBookOf old new
  prepared_book old new e = e ∙ ap (λ (b : B). record old { base = b; prepared = new.prepared }) (sym (ap (λ (v : CoreView C B). v.base) e))

  pub prepared_by : (old new : CoreView C B) (p : Option ℕ) → new ≡ record old { prepared = p } → new ≡ record old { prepared = new.prepared }
  prepared_by old new p e = e ∙ ap (λ (q : Option ℕ). record old { prepared = q }) (sym (ap (λ (v : CoreView C B). v.prepared) e))

  -- what preparing tells of a commit is so of the line that asked for it, which had made room before
  pub ready_commit : {E : Type 0} (old new : CoreView C B) (session : ℕ) (d : Doing C) (before roomy after : List LineReply) (capacity : ℕ) (r : Result (Option Prepared) E) → d ≡ doing.Commit → roomy ≡ before
      → IfOk r (λ p. IfSome p (λ it. (new ≡ record old { prepared = Some session }) × IsPrepared old it)) → IfOk r (λ p. IfSome p (λ _. (after ≡ roomy) × (length after < capacity)))
      → IfOk r (λ p. IfSome p (IsReadyToCommit old new session d before after capacity))
  ready_commit old new session d before roomy after capacity (Ok (Some it)) is same made room = record { asked = is; core = made.0; commit = made.1; unsaid = room.0 ∙ same; room = room.1 }
  ready_commit old new session d before roomy after capacity (Ok None) is same made room = tt
  ready_commit old new session d before roomy after capacity (Err e) is same made room = tt

module _ {C B : Type 0} (is_valid : C → Type 0) (m : CallMeaning C) (told : B → Option Entries) (old new : CoreView C B) (same : HasBookOf old new) (legal : Legal is_valid m told new) (s : ℕ) where
  -- what is prepared is no more than a commit may hold
  pub commit_free : (p : Prepared) → call_refused old s ≡ None → IsPrepared old p → (t : Tree) → StandsFor (told old.opening) t → HasChangesOf m (state_from m t old) s p
      → refusal m (state_from m t old) s doing.Commit ≡ None
  commit_free p free is t stands has = commit_allowed_by m t old (run_before is_valid m told old new same legal t stands) s free false short
    where
      short : (x : Live C) → of_session s (state_from m t old).live ≡ Some x → is_past_limit m (state_from m t old) x ≡ false
      short x found =
          let e : length p.body ≡ length (changes_bytes (changes_of_calls m x.calls (state_from m t old).tree)) = ap length (is.body ∙ ap changes_bytes (has x found)) in
          ap (λ (n : ℕ). nat_lt body_limit n) (sym e) ∙ not_past body_limit (length p.body) is.short

  -- an error that a line shows is why the commit is refused
  commit_because : (e : SessionError) (w : SessionRefusal) → shown_why e ≡ Some w → shown_prepare_error e ≡ call_refused old s
      → (t : Tree) → StandsFor (told old.opening) t → (e ≡ CommitLimit → IsPastLimitIn m (state_from m t old) s) → refusal m (state_from m t old) s doing.Commit ≡ Some w
  commit_because IsWaiting w is refused t stands past = commit_refused m t old (run_before is_valid m told old new same legal t stands) s w (sym (ap shown_of refused) ∙ is)
  commit_because InTransaction w is refused t stands past = commit_refused m t old (run_before is_valid m told old new same legal t stands) s w (sym (ap shown_of refused) ∙ is)
  commit_because NoTransaction w is refused t stands past = commit_refused m t old (run_before is_valid m told old new same legal t stands) s w (sym (ap shown_of refused) ∙ is)
  commit_because TxLimit w is refused t stands past = commit_refused m t old (run_before is_valid m told old new same legal t stands) s w (sym (ap shown_of refused) ∙ is)
  commit_because CommitLimit w is refused t stands past = commit_allowed_by m t old (run_before is_valid m told old new same legal t stands) s (sym refused) true (past refl) ∙ is
  commit_because NoMemory w is refused t stands past = absurd (no_some w is)

  pub commit_refuses : (e : SessionError) (w : SessionRefusal) (x y : List LineReply) → shown_why e ≡ Some w → shown_prepare_error e ≡ call_refused old s → y ≡ x ++ Said s false (Session w) ∷ []
      → (t : Tree) → StandsFor (told old.opening) t → (e ≡ CommitLimit → IsPastLimitIn m (state_from m t old) s)
      → HasDone old new x y (after_line m (state_from m t old) (record { session = s; doing = doing.Commit })) × (◌≡◌ {A = Doing C} doing.Commit doing.Commit → IsTrue (is_some (refusal m (state_from m t old) s doing.Commit)))
  commit_refuses e w x y is refused out t stands past =
      let why = commit_because e w is refused t stands past in
      (line_refused m t old new s doing.Commit w x y why (entries_kept old new same) out, λ _. ap is_some why)
