-- The states of the lock machine, and what a transaction sees (docs/PROFILE.md, "The lock machine").
use Rattle.std.specs.Prelude.{ℕ, not, List, [], ◌∷◌, filter, map, Option, None, Some, if◌then◌else◌, ◌==◌, nat_lt}
use Rattle.lock_resources.specs.declared.request.Request.{Request}
use Rattle.tree_model.specs.declared.reply.Reply.{Reply}
use Rattle.tree_model.specs.Tree.{Tree}
use Rattle.call_contract.specs.Calls.{CallMeaning}

-- an answered call with its reply
pub record Answered (C : Type 0) : Type 0 where
  pub call : C
  pub reply : Reply

-- a call that waits, with the request it waits for
pub record Waiting (C : Type 0) : Type 0 where
  pub call : C
  pub request : Request

-- a live transaction: its session and ordinal, its answered calls and its grants in their order, and perhaps a call that waits
pub record Live (C : Type 0) : Type 0 where
  pub session : ℕ
  pub ordinal : ℕ
  pub calls : List (Answered C)
  pub grants : List Request
  pub waits : Option (Waiting C)

pub record State (C : Type 0) : Type 0 where
  -- the committed tree
  pub tree : Tree
  -- the opening's number, and the greatest that it and the transactions begun since may come to
  pub opening : ℕ
  pub limit : ℕ
  -- the last commit's number
  pub number : ℕ
  -- the transactions begun, and those of each session
  pub begun : ℕ
  pub ordinals : ℕ → ℕ
  -- the live transactions, by rising sessions
  pub live : List (Live C)
  -- the waiting sessions, in the order in which they began to wait
  pub waiting : List ℕ

-- the state after opening
abbrev pub start : {C : Type 0} → Tree → ℕ → ℕ → State C
start tree number limit = record { tree = tree; opening = number; limit = limit; number = number; begun = 0; ordinals = λ s. 0; live = []; waiting = [] }

-- ---- what a transaction sees

-- the tree after calls, one after another
abbrev pub view : {C : Type 0} → CallMeaning C → List (Answered C) → Tree → Tree
view m [] t = t
view m (a ∷ cs) t = view m cs (m.after a.call t)

-- their replies on this tree
abbrev pub replies : {C : Type 0} → CallMeaning C → List (Answered C) → Tree → List Reply
replies m [] t = []
replies m (a ∷ cs) t = m.reply a.call t ∷ replies m cs (m.after a.call t)

-- the replies that they were given
abbrev pub given : {C : Type 0} → List (Answered C) → List Reply
given cs = map (λ a. a.reply) cs

-- ---- the live transactions

-- that of a session
abbrev pub of_session : {C : Type 0} → ℕ → List (Live C) → Option (Live C)
of_session s [] = None
of_session s (t ∷ ts) = if t.session == s then Some t else of_session s ts

-- with this one in its session's place
abbrev pub put : {C : Type 0} → Live C → List (Live C) → List (Live C)
put t [] = t ∷ []
put t (u ∷ us) = if u.session == t.session then t ∷ us else if nat_lt t.session u.session then t ∷ u ∷ us else u ∷ put t us

-- without that of a session
abbrev pub others : {C : Type 0} → ℕ → List (Live C) → List (Live C)
others s [] = []
others s (t ∷ ts) = if t.session == s then others s ts else t ∷ others s ts

-- their sessions
abbrev pub sessions : {C : Type 0} → List (Live C) → List ℕ
sessions ts = map (λ t. t.session) ts

-- sessions without one of them
abbrev pub without : ℕ → List ℕ → List ℕ
without s ss = filter (λ t. not (t == s)) ss

-- ---- states

-- the transaction goes on as this one
abbrev pub with_live : {C : Type 0} → State C → Live C → List ℕ → State C
with_live st t waiting = record st { live = put t st.live; waiting = waiting }

-- the session's transaction ended: it holds nothing
abbrev pub ended : {C : Type 0} → State C → ℕ → State C
ended st s = record st { live = others s st.live; waiting = without s st.waiting }
