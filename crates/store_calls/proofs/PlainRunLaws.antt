-- A serial run of committed transactions is that of their calls on a plain tree.
use Rattle.std.specs.Prelude.{List, [], ◌∷◌, map, ◌≡◌}
use Rattle.std.proofs.Common.{ap, refl, ◌∙◌}
use Rattle.tree_model.specs.Serial.{SerialResult, and_then}
use Rattle.tree_model.specs.Tree.{Tree}
use Rattle.tree_model.specs.declared.reply.Reply.{Reply}
use Rattle.call_contract.specs.SerialRuns.{Committed, serial}
use Rattle.call_contract.specs.States.{Answered, replies, view}
use Rattle.command_lines.specs.declared.command.StoreCall.{StoreCall}
use Rattle.session_driver.specs.Asking.{BookCall}
use Rattle.command_lines.specs.declared.command.StoreCall.TheVariants.{Dom, Find}
use Rattle.store_calls.specs.StoreCalls.{store_meaning}
use Rattle.store_calls.specs.PlainRuns.{call_on, run_calls, plain_serial, calls_of}

abbrev made : List (Answered BookCall) → Tree → SerialResult (List Reply)
made cs t = record { replies = replies store_meaning cs t; tree = view store_meaning cs t }

-- the calls of a transaction
one_run : (cs : List (Answered BookCall)) (t : Tree) → made cs t ≡ run_calls (map (λ a. a.call) cs) t
one_run [] t = refl
one_run (a ∷ cs) t = step a.call (λ u. one_run cs u) where
  behind : Reply → SerialResult (List Reply) → SerialResult (List Reply)
  behind reply rest = and_then reply rest

  step : (call : StoreCall) → ((u : Tree) → made cs u ≡ run_calls (map (λ b. b.call) cs) u)
      → and_then (store_meaning.reply call t) (made cs (store_meaning.after call t)) ≡ and_then (call_on call t).0 (run_calls (map (λ b. b.call) cs) (call_on call t).1)
  step (Dom call) rest = ap (behind (call_on (Dom call) t).0) (rest (call_on (Dom call) t).1)
  step (Find at path) rest = ap (behind (call_on (Find at path) t).0) (rest t)

pub all_runs : (ds : List (Committed BookCall)) (t : Tree) → serial store_meaning ds t ≡ plain_serial (calls_of ds) t
all_runs [] t = refl
all_runs (d ∷ ds) t = ap (λ (x : SerialResult (List (List Reply))). and_then (replies store_meaning d.calls t) x) (all_runs ds (view store_meaning d.calls t))
    ∙ ap (λ (x : SerialResult (List Reply)). and_then x.replies (plain_serial (calls_of ds) x.tree)) (one_run d.calls t)
