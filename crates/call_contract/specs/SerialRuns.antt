-- A serial run: transactions made one after another by one thread on a plain tree. It knows no sessions, no locks and no interleaving.
use Rattle.std.specs.Prelude.{ℕ, List, [], ◌∷◌, map}
use Rattle.tree_model.specs.declared.reply.Reply.{Reply}
use Rattle.tree_model.specs.Tree.{Tree}
use Rattle.tree_model.specs.Serial.{SerialResult, and_then}
use Rattle.call_contract.specs.Calls.{CallMeaning}
use Rattle.call_contract.specs.States.{Answered, view, replies, given}

-- a committed transaction: its session, ordinal and answered calls with their replies
pub record Committed (C : Type 0) : Type 0 where
  pub session : ℕ
  pub ordinal : ℕ
  pub calls : List (Answered C)

-- the replies of each transaction, and the tree after all
abbrev pub serial : {C : Type 0} → CallMeaning C → List (Committed C) → Tree → SerialResult (List (List Reply))
serial m [] t = record { replies = []; tree = t }
serial m (d ∷ ds) t = and_then (replies m d.calls t) (serial m ds (view m d.calls t))

-- the replies that each was given
abbrev pub all_given : {C : Type 0} → List (Committed C) → List (List Reply)
all_given ds = map (λ d. given d.calls) ds
