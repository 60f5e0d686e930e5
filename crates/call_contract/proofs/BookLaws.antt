-- What holds of a legal book of valid calls from a valid tree.
use Rattle.std.proofs.Common.{◌≡◌, ◌≢◌, ℕ, false, List, Some, refl, subst, Bool, true, true≢false, sym, ◌∙◌}
use Rattle.tree_model.specs.Tree.{Tree}
use Rattle.tree_cells.specs.Cells.{Cell, value_at}
use Rattle.tree_cells.specs.Covers.{writes, Agree}
use Rattle.wait_cycles.specs.Walks.{Rises}
use Rattle.call_contract.specs.declared.events.Event.TheVariants.{Abort}
use Rattle.call_contract.specs.declared.events.EventAnswer.{EventAnswer}
use Rattle.call_contract.specs.declared.events.Noted.{Noted}
use Rattle.call_contract.specs.Calls.{CallMeaning, CallLaws}
use Rattle.call_contract.specs.States.{Live, State, start, of_session, view, replies, given, sessions}
use Rattle.call_contract.specs.Steps.{step}
use Rattle.call_contract.specs.Waits.{NoCycle}
use Rattle.call_contract.specs.Books.{Book, next, last, IsAnswer, IsBookFrom, IsReached, IsSerial}
use Rattle.call_contract.specs.Lives.{RepliesStand, WritesAreCovered, CommitsReplay, NoCellIsShared}
use Rattle.tree_cells.proofs.Conflict.{conflict}
use Rattle.call_contract.specs.Replays.{IsSameRun}
use Rattle.call_contract.specs.Ends.{LeavesAllElse}
use Rattle.call_contract.specs.Deadlocks.{ClosesCycle}
use Rattle.call_contract.specs.inside.Soundness.{AllSound}
use Rattle.call_contract.proofs.Replay.{unwritten, kept_replies}
use Rattle.call_contract.proofs.Sound.{commit_agrees, commit_replays}
use Rattle.call_contract.proofs.Steps.{last_sound, start_sound}
use Rattle.call_contract.proofs.SerialRun.{run_serial}
use Rattle.call_contract.proofs.NoCycles.{last_none, start_none}
use Rattle.call_contract.proofs.Rising.{last_rises}
use Rattle.call_contract.proofs.Deadlock.{deadlock, deadlock_closes, abort_leaves}
use Rattle.call_contract.specs.Waiters.{WaitersStand}
use Rattle.call_contract.proofs.Fronts.{last_behind, start_behind}
use Rattle.call_contract.proofs.Waiters.{waiters_stand}

module _ {C : Type 0} (is_valid : C → Type 0) (m : CallMeaning C) (laws : CallLaws C is_valid m) where
  pub sound : (t : Tree) (n limit : ℕ) (b : Book C) → IsBookFrom is_valid m t n limit b → AllSound is_valid m (last m (start t n limit) b).tree (last m (start t n limit) b).live
  sound t n limit b is = last_sound is_valid m laws (start t n limit) b is.valid_calls (start_sound is_valid m laws t n limit is.valid_tree)

  pub serial_book : (t : Tree) (n limit : ℕ) (b : Book C) → IsBookFrom is_valid m t n limit b → IsSerial m t n limit b
  serial_book t n limit b is =
      let ran = run_serial is_valid m laws (start t n limit) b is.valid_calls (start_sound is_valid m laws t n limit is.valid_tree) is.legal.run in
      record { replies = ran.replies; tree = ran.tree }

  pub live_replies : (t : Tree) (n limit : ℕ) (b : Book C) → IsBookFrom is_valid m t n limit b → (s : ℕ) (x : Live C) → of_session s (last m (start t n limit) b).live ≡ Some x
      → replies m x.calls (last m (start t n limit) b).tree ≡ given x.calls
  live_replies t n limit b is s x live = kept_replies is_valid m x.grants x.calls (last m (start t n limit) b).tree ((sound t n limit b is).each s x live).kept

  pub live_unwritten : (t : Tree) (n limit : ℕ) (b : Book C) → IsBookFrom is_valid m t n limit b → (s : ℕ) (x : Live C) → of_session s (last m (start t n limit) b).live ≡ Some x
      → (y : Cell) → writes x.grants y ≡ false → value_at (view m x.calls (last m (start t n limit) b).tree) y ≡ value_at (last m (start t n limit) b).tree y
  live_unwritten t n limit b is s x live = let all = sound t n limit b is in unwritten is_valid m laws x.grants x.calls (last m (start t n limit) b).tree all.valid_tree (all.each s x live).kept

  pub same_run : (t : Tree) (n limit : ℕ) (b : Book C) → IsBookFrom is_valid m t n limit b → (s u : ℕ) (x y : Live C)
      → of_session s (last m (start t n limit) b).live ≡ Some x → of_session u (last m (start t n limit) b).live ≡ Some y → u ≢ s
      → IsSameRun m y.calls (last m (start t n limit) b).tree (view m x.calls (last m (start t n limit) b).tree)
  same_run t n limit b is s u x y one other off = (commit_replays is_valid m laws (last m (start t n limit) b).tree (last m (start t n limit) b).live s u x y (sound t n limit b is) one other off).same

  pub same_seen : (t : Tree) (n limit : ℕ) (b : Book C) → IsBookFrom is_valid m t n limit b → (s u : ℕ) (x y : Live C)
      → of_session s (last m (start t n limit) b).live ≡ Some x → of_session u (last m (start t n limit) b).live ≡ Some y → u ≢ s
      → Agree y.grants (last m (start t n limit) b).tree (view m x.calls (last m (start t n limit) b).tree)
  same_seen t n limit b is s u x y one other off = commit_agrees is_valid m laws (last m (start t n limit) b).tree (last m (start t n limit) b).live s u x y (sound t n limit b is) one other off

  pub same_views : (t : Tree) (n limit : ℕ) (b : Book C) → IsBookFrom is_valid m t n limit b → (s u : ℕ) (x y : Live C)
      → of_session s (last m (start t n limit) b).live ≡ Some x → of_session u (last m (start t n limit) b).live ≡ Some y → u ≢ s
      → Agree y.grants (view m y.calls (last m (start t n limit) b).tree) (view m y.calls (view m x.calls (last m (start t n limit) b).tree))
  same_views t n limit b is s u x y one other off = (commit_replays is_valid m laws (last m (start t n limit) b).tree (last m (start t n limit) b).live s u x y (sound t n limit b is) one other off).agree

  pub none_shared : (t : Tree) (n limit : ℕ) (b : Book C) → IsBookFrom is_valid m t n limit b → NoCellIsShared (last m (start t n limit) b)
  none_shared t n limit b is s u x y one other off c on = by (writes y.grants c) refl
    where
      by : (w : Bool) → writes y.grants c ≡ w → writes y.grants c ≡ false
      by false e = e
      by true e =
          let all = sound t n limit b is in
          absurd (true≢false (sym (conflict x.grants y.grants (all.each s x one).formed (all.each u y other).formed c on e) ∙ all.apart s u x y one other off))

-- ---- of any list of events

module _ {C : Type 0} (m : CallMeaning C) where
  pub sessions_rise : (t : Tree) (n limit : ℕ) (b : Book C) → Rises (sessions (last m (start t n limit) b).live)
  sessions_rise t n limit b = last_rises m (start t n limit) b tt

  pub no_cycle : (t : Tree) (n limit : ℕ) (b : Book C) → NoCycle (last m (start t n limit) b).live
  no_cycle t n limit b = last_none m (start t n limit) b (start_none C t n limit)

  pub deadlock_shown : (t : Tree) (n limit : ℕ) (b : Book C) (e : Noted C) (cycle : List ℕ) → IsAnswer e.answer (step m (last m (start t n limit) b) e.session e.event) → e.answer ≡ deadlock cycle
      → ClosesCycle m (last m (start t n limit) b) (next m (last m (start t n limit) b) e) e.session e.event cycle
  deadlock_shown t n limit b e cycle is same =
      let st = last m (start t n limit) b in
      deadlock_closes m st e.session (of_session e.session st.live) e.event cycle (no_cycle t n limit b) (sessions_rise t n limit b) refl
      (subst (λ (a : EventAnswer). IsAnswer a (step m st e.session e.event)) same is)

  pub abort_leaves_all_else : (st : State C) (s : ℕ) (a : EventAnswer) → IsAnswer a (step m st s Abort) → LeavesAllElse st (next m st (record { session = s; event = Abort; answer = a })) s
  abort_leaves_all_else st s a is = abort_leaves m st s (of_session s st.live) a is

-- ---- of states that are reached

module _ {C : Type 0} (is_valid : C → Type 0) (m : CallMeaning C) (laws : CallLaws C is_valid m) (st : State C) (is : IsReached is_valid m st) where
  pub reached_replies : RepliesStand m st
  reached_replies = subst (RepliesStand m) is.state (live_replies is_valid m laws is.tree is.number is.limit is.book is.legal)

  pub reached_writes : WritesAreCovered m st
  reached_writes = subst (WritesAreCovered m) is.state (live_unwritten is_valid m laws is.tree is.number is.limit is.book is.legal)

  pub reached_commits : CommitsReplay m st
  reached_commits = subst (CommitsReplay m) is.state (λ s u x y one other off. record {
    calls = same_run is_valid m laws is.tree is.number is.limit is.book is.legal s u x y one other off;
    committed = same_seen is_valid m laws is.tree is.number is.limit is.book is.legal s u x y one other off;
    seen = same_views is_valid m laws is.tree is.number is.limit is.book is.legal s u x y one other off;
  })

  pub reached_apart : NoCellIsShared st
  reached_apart = subst NoCellIsShared is.state (none_shared is_valid m laws is.tree is.number is.limit is.book is.legal)

  pub reached_waiters : WaitersStand m st
  reached_waiters = subst (WaitersStand m) is.state (waiters_stand is_valid m (last m (start is.tree is.number is.limit) is.book) (sound is_valid m laws is.tree is.number is.limit is.book is.legal)
      (last_behind is_valid m laws (start is.tree is.number is.limit) is.book is.legal.valid_calls (start_sound is_valid m laws is.tree is.number is.limit is.legal.valid_tree) (start_behind is_valid m laws is.tree is.number is.limit))
      (no_cycle m is.tree is.number is.limit is.book) (sessions_rise m is.tree is.number is.limit is.book))
