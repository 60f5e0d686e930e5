-- What a session's transaction holds and what it waits for, as a lock table and a wait graph keep it.
use Rattle.std.specs.Prelude.{◌≡◌, ℕ, List, [], Option, Some, None}
use Rattle.lock_resources.specs.declared.request.Request.{Request}
use Rattle.lock_table.specs.Grants.{IsTableOf}
use Rattle.lock_table.specs.Tables.{Table}
use Rattle.wait_graph.specs.Graphs.{Graph, waits}
use Rattle.call_contract.specs.States.{Waiting, Live, of_session}

-- the grants of a transaction, if there is one
abbrev pub grants_of : {C : Type 0} → Option (Live C) → List Request
grants_of None = []
grants_of (Some t) = t.grants

-- the request with which it waits, if it does
abbrev pub waited_of : {C : Type 0} → Option (Waiting C) → Option Request
waited_of None = None
waited_of (Some w) = Some w.request

abbrev pub request_of : {C : Type 0} → Option (Live C) → Option Request
request_of None = None
request_of (Some t) = waited_of t.waits

-- the table and the graph have what these transactions hold and wait for
pub record Keep {C : Type 0} (table : Table) (graph : Graph) (live : List (Live C)) : Type 0 where
  pub held : IsTableOf table (λ s. grants_of (of_session s live))
  pub waits : (s : ℕ) → waits graph s ≡ request_of (of_session s live)
