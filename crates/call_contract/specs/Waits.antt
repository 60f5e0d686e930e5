-- Who waits for whom, and the cycle that an attempt would close (docs/PROFILE.md, "The lock machine").
use Rattle.std.specs.Prelude.{ℕ, Bool, false, not, ◌&&◌, ◌==◌, List, Option, None, Some}
use Rattle.lock_resources.specs.declared.request.Request.{Request}
use Rattle.tree_cells.specs.Clashes.{bars}
use Rattle.wait_cycles.specs.Cycles.{HasNone, shown_cycle}
use Rattle.call_contract.specs.States.{Waiting, Live, of_session, sessions}

-- what is waited for is barred by these grants
abbrev pub is_stopped_by : {C : Type 0} → Option (Waiting C) → List Request → Bool
is_stopped_by None gs = false
is_stopped_by (Some w) gs = bars gs w.request

-- a transaction waits for another one: that one's grants bar the request that it waits for
abbrev pub stops : {C : Type 0} → Option (Live C) → Option (Live C) → Bool
stops None v = false
stops (Some t) None = false
stops (Some t) (Some v) = not (t.session == v.session) && is_stopped_by t.waits v.grants

-- session s waits for session u
abbrev pub waits_for : {C : Type 0} → List (Live C) → ℕ → ℕ → Bool
waits_for live s u = stops (of_session s live) (of_session u live)

-- no session waits for itself by way of others
abbrev pub NoCycle : {C : Type 0} → List (Live C) → Type 0
NoCycle live = HasNone (waits_for live)

-- the cycle through s that is shown: a shortest one, and among these the least
abbrev pub cycle_through : {C : Type 0} → List (Live C) → ℕ → Option (List ℕ)
cycle_through live s = shown_cycle (waits_for live) (sessions live) s
