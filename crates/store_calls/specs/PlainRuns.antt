-- A serial run of calls on the store's tree by one thread: each call by its definition, one after another. It knows no sessions and no lock machine.
use Rattle.std.specs.Prelude.{List, [], ◌∷◌, map}
use Rattle.tree_model.specs.DomCalls.{dom}
use Rattle.tree_model.specs.Outcomes.{Outcome}
use Rattle.tree_model.specs.Serial.{SerialResult, and_then}
use Rattle.tree_model.specs.Tree.{Tree}
use Rattle.tree_model.specs.declared.reply.Reply.{Reply}
use Rattle.path_model.specs.Finds.{found_at}
use Rattle.path_model.specs.PlainPaths.{plain_path}
use Rattle.call_contract.specs.SerialRuns.{Committed}
use Rattle.command_lines.specs.declared.command.StoreCall.{StoreCall}
use Rattle.session_driver.specs.Asking.{BookCall}
use Rattle.command_lines.specs.declared.command.StoreCall.TheVariants.{Dom, Find}

-- a call's reply, and the tree after it
abbrev pub call_on : StoreCall → Tree → Outcome
call_on (Dom call) t = dom call t
call_on (Find at path) t = (found_at at (plain_path path) t, t)

-- the calls of a transaction, one after another
abbrev pub run_calls : List StoreCall → Tree → SerialResult (List Reply)
run_calls [] t = record { replies = []; tree = t }
run_calls (call ∷ calls) t = and_then (call_on call t).0 (run_calls calls (call_on call t).1)

-- the transactions of a list, one after another
abbrev pub plain_serial : List (List StoreCall) → Tree → SerialResult (List (List Reply))
plain_serial [] t = record { replies = []; tree = t }
plain_serial (calls ∷ more) t = and_then (run_calls calls t).replies (plain_serial more (run_calls calls t).tree)

-- the calls of committed transactions
abbrev pub calls_of : List (Committed BookCall) → List (List StoreCall)
calls_of ds = map (λ d. map (λ a. a.call) d.calls) ds
