-- Lines over a core whose book is legal.
use Rattle.std.proofs.Common.{◌≡◌, ℕ, false, List, [], ◌∷◌, ◌++◌, Option, Some, None, sym, ap, subst, ◌∙◌}
use Rattle.std.proofs.lemmas.List.{append-nil}
use Rattle.tree_model.specs.Entries.{Entries}
use Rattle.tree_model.specs.Tree.{Tree}
use Rattle.node_seq.specs.Trees.{StandsFor}
use Rattle.call_contract.specs.Books.{Book, IsRun, IsBookFrom, entry}
use Rattle.call_contract.specs.Calls.{CallMeaning}
use Rattle.call_contract.specs.States.{start}
use Rattle.call_contract.specs.declared.events.EventAnswer.{EventAnswer}
use Rattle.command_lines.specs.declared.line_reply.LineAnswer.TheVariants.{Session}
use Rattle.command_lines.specs.declared.line_reply.LineReply.{LineReply}
use Rattle.command_lines.specs.declared.line_reply.LineReply.TheVariants.{Said}
use Rattle.command_lines.specs.declared.line_reply.SessionRefusal.{SessionRefusal}
use Rattle.tx_core.specs.Cores.{CoreView, with_entry, over, state_from}
use Rattle.tx_core.specs.Refusals.{shown_error}
use Rattle.tx_core.specs.declared.errors.SessionError.{SessionError}
use Rattle.tx_core.specs.declared.errors.SessionError.TheVariants.{IsWaiting, InTransaction, NoTransaction, TxLimit, CommitLimit, NoMemory}
use Rattle.session_driver.specs.Driving.{with_entries, shown_why, shown_of, refused_by_book, HasDone, HasBegun}
use Rattle.session_driver.specs.Lines.{event_of, then_retries, after_line}
use Rattle.session_driver.specs.Progress.{Progress, shown}
use Rattle.session_driver.specs.Retries.{retries}
use Rattle.session_driver.specs.Refusals.{refusal}
use Rattle.session_driver.specs.declared.doing.Doing.{Doing}
use Rattle.session_driver.specs.declared.doing.Doing.TheVariants as doing
use Rattle.session_driver.specs.inside.Steps.{Adds, Leaves}
use Rattle.session_driver.proofs.Left.{adds_over, done_after, begun_after, entries_none}
use Rattle.session_driver.proofs.Kept.{begin_same, call_same, abort_same, commit_refused}
use Rattle.session_driver.proofs.Stepped.{MayCome, line_left, line_allowed, line_refused}

-- an error that a line shows was one of the book's refusals
pub shown_is : (e : SessionError) (w : SessionRefusal) → shown_why e ≡ Some w → shown_of (shown_error e) ≡ Some w
shown_is IsWaiting w e = e
shown_is InTransaction w e = e
shown_is NoTransaction w e = e
shown_is TxLimit w e = e
shown_is CommitLimit w e = e
shown_is NoMemory w e = e

module _ {C B : Type 0} where
  -- the core with the book that it had
  abbrev pub HasBookOf : CoreView C B → CoreView C B → Type 0
  HasBookOf old new = new ≡ record old { base = new.base; prepared = new.prepared }

  pub book_same : (old new : CoreView C B) → new ≡ old → HasBookOf old new
  book_same old new e = ap (λ (v : CoreView C B). record v { base = new.base; prepared = new.prepared }) e

  pub entries_kept : (old new : CoreView C B) → HasBookOf old new → new ≡ with_entries old [] new
  entries_kept old new e = entries_none new ∙ ap (λ (v : CoreView C B). with_entries v [] new) e

module _ {C B : Type 0} (is_valid : C → Type 0) (m : CallMeaning C) (told : B → Option Entries) where
  -- where the opening's map is known, the book is legal
  abbrev pub Legal : CoreView C B → Type 0
  Legal v = (t : Tree) → StandsFor (told v.opening) t → IsBookFrom is_valid m t v.number v.limit v.book

  pub run_of : (v w : CoreView C B) → Legal w → w.opening ≡ v.opening → (t : Tree) → StandsFor (told v.opening) t → IsRun m (start t w.number w.limit) w.book
  run_of v w legal same t stands = (legal t (subst (λ (b : B). StandsFor (told b) t) (sym same) stands)).legal.run

  -- a line that does its step
  pub line_steps : (old new : CoreView C B) (s : ℕ) (d : Doing C) (a : EventAnswer) (x y : List LineReply) → MayCome d
      → new ≡ over (with_entry old (entry s (event_of d) a)) new.base → Legal new → y ≡ x ++ Said s false (shown a) ∷ [] → (t : Tree) → StandsFor (told old.opening) t
      → Leaves old new x y (after_line m (state_from m t old) (record { session = s; doing = d })) (then_retries m d a (state_from m t new))
  line_steps old new s d a x y may e legal out t stands =
      let run = run_of old new legal (ap (λ (v : CoreView C B). v.opening) e) t stands in
      let adds = adds_over old new (entry s (event_of d) a) e in
      line_left m t old new s d a x y adds run (line_allowed m t old new s d a may adds run) out

  -- the same of a commit, of which it is known that it isn't refused
  pub commit_steps : (old new : CoreView C B) (s : ℕ) (a : EventAnswer) (x y : List LineReply)
      → Adds old (entry s (event_of doing.Commit) a) new → Legal new → y ≡ x ++ Said s false (shown a) ∷ [] → (t : Tree) → StandsFor (told old.opening) t
      → refusal m (state_from m t old) s doing.Commit ≡ None
      → Leaves old new x y (after_line m (state_from m t old) (record { session = s; doing = doing.Commit })) (then_retries m doing.Commit a (state_from m t new))
  commit_steps old new s a x y e legal out t stands free =
      line_left m t old new s doing.Commit a x y e (run_of old new legal (ap (λ (v : CoreView C B). v.opening) e) t stands) free out

  refused_same : (t : Tree) (v : CoreView C B) (run : IsRun m (start t v.number v.limit) v.book) (s : ℕ) (d : Doing C) (w : SessionRefusal)
      → refused_by_book v s d ≡ Some w → refusal m (state_from m t v) s d ≡ Some w
  refused_same t v run s doing.Begin w e = sym (begin_same m t v run s) ∙ e
  refused_same t v run s doing.Commit w e = commit_refused m t v run s w e
  refused_same t v run s doing.Abort w e = sym (abort_same m t v run s) ∙ e
  refused_same t v run s (doing.Call c) w e = sym (call_same m t v run s c) ∙ e

  pub run_before : (old new : CoreView C B) → HasBookOf old new → Legal new → (t : Tree) → StandsFor (told old.opening) t → IsRun m (start t old.number old.limit) old.book
  run_before old new e legal t stands =
      subst (λ (w : CoreView C B). IsRun m (start t w.number w.limit) w.book) e (run_of old new legal (ap (λ (v : CoreView C B). v.opening) e) t stands)

  -- a line that the book refuses
  pub line_refuses : (old new : CoreView C B) (s : ℕ) (d : Doing C) (w : SessionRefusal) (x y : List LineReply) → HasBookOf old new → Legal new
      → refused_by_book old s d ≡ Some w → y ≡ x ++ Said s false (Session w) ∷ [] → (t : Tree) → StandsFor (told old.opening) t
      → HasDone old new x y (after_line m (state_from m t old) (record { session = s; doing = d }))
  line_refuses old new s d w x y e legal refused out t stands =
      line_refused m t old new s d w x y (refused_same t old (run_before old new e legal t stands) s d w refused) (entries_kept old new e) out

  -- ---- a line whose retries follow

  stands_later : (v w : CoreView C B) → w.opening ≡ v.opening → (t : Tree) → StandsFor (told v.opening) t → StandsFor (told w.opening) t
  stands_later v w opened t stands = subst (λ (b : B). StandsFor (told b) t) (sym opened) stands

  abbrev pub RetriesDone : CoreView C B → CoreView C B → List LineReply → List LineReply → Type 0
  RetriesDone mid new y z = (t : Tree) → StandsFor (told mid.opening) t → HasDone mid new y z (retries m (state_from m t mid))

  abbrev pub RetriesBegun : CoreView C B → CoreView C B → List LineReply → List LineReply → Type 0
  RetriesBegun mid new y z = (t : Tree) → StandsFor (told mid.opening) t → HasBegun mid new y z (retries m (state_from m t mid))

  module _ (old mid new : CoreView C B) (x y z : List LineReply) (opened : mid.opening ≡ old.opening) (p : Progress C) (t : Tree) (stands : StandsFor (told old.opening) t) (left : Leaves old mid x y p (retries m (state_from m t mid))) where
    pub then_done : RetriesDone mid new y z → HasDone old new x z p
    then_done done = done_after old mid new x y z p (retries m (state_from m t mid)) left (done t (stands_later old mid opened t stands))

    pub then_begun : RetriesBegun mid new y z → HasBegun old new x z p
    then_begun begun = begun_after old mid new x y z p (retries m (state_from m t mid)) left (begun t (stands_later old mid opened t stands))
