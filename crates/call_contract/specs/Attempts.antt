-- An attempt of a call: which of its requests are granted, and who is in the way of the first that isn't (docs/PROFILE.md, "The lock machine").
use Rattle.std.specs.Prelude.{ℕ, Bool, false, ◌||◌, List, [], ◌∷◌, ◌++◌, Option, None, Some, if◌then◌else◌}
use Rattle.lock_resources.specs.declared.request.Request.{Request}
use Rattle.tree_cells.specs.Clashes.{bars}
use Rattle.call_contract.specs.Calls.{CallMeaning}
use Rattle.call_contract.specs.States.{Waiting, Live, State, view, others, with_live, without}

-- one of these transactions holds a mode at the request's resource that doesn't go together with the mode asked
abbrev pub is_barred : {C : Type 0} → Request → List (Live C) → Bool
is_barred g [] = false
is_barred g (t ∷ ts) = bars t.grants g || is_barred g ts

-- the sessions of all that do, ascending
abbrev pub holders : {C : Type 0} → Request → List (Live C) → List ℕ
holders g [] = []
holders g (t ∷ ts) = if bars t.grants g then t.session ∷ holders g ts else holders g ts

-- the requests before the first that is barred
abbrev pub free : {C : Type 0} → List Request → List (Live C) → List Request
free [] ts = []
free (g ∷ gs) ts = if is_barred g ts then [] else g ∷ free gs ts

-- the first that is barred
abbrev pub barred : {C : Type 0} → List Request → List (Live C) → Option Request
barred [] ts = None
barred (g ∷ gs) ts = if is_barred g ts then Some g else barred gs ts

-- what a transaction asks for a call: the call's requests on what it sees
abbrev pub asked : {C : Type 0} → CallMeaning C → State C → Live C → C → List Request
asked m st t c = m.requests c (view m t.calls st.tree)

-- what it is granted of that, and the first request that it isn't
abbrev pub granted : {C : Type 0} → CallMeaning C → State C → Live C → C → List Request
granted m st t c = free (asked m st t c) (others t.session st.live)

abbrev pub stopped_at : {C : Type 0} → CallMeaning C → State C → Live C → C → Option Request
stopped_at m st t c = barred (asked m st t c) (others t.session st.live)

-- ---- the states that an attempt may leave

-- the call is answered, and joins the answered calls
abbrev pub answered : {C : Type 0} → CallMeaning C → State C → Live C → C → State C
answered m st t c = with_live st (record t {
  calls = t.calls ++ record { call = c; reply = m.reply c (view m t.calls st.tree) } ∷ [];
  grants = t.grants ++ granted m st t c;
  waits = None;
}) (without t.session st.waiting)

-- a session that begins to wait stands last; one that waits again keeps its place
abbrev pub queued : {C : Type 0} → ℕ → Option (Waiting C) → List ℕ → List ℕ
queued s None ss = ss ++ s ∷ []
queued s (Some before) ss = ss

-- the transaction waits with a request, and keeps what it was granted
abbrev pub waits_with : {C : Type 0} → CallMeaning C → State C → Live C → C → Request → State C
waits_with m st t c g = with_live st (record t {
  grants = t.grants ++ granted m st t c;
  waits = Some (record { call = c; request = g });
}) (queued t.session t.waits st.waiting)
