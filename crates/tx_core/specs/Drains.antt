-- What commits have left to be made durable: each is handed out once, in their order.
use Rattle.std.specs.Prelude.{ℕ, List}
use Rattle.node_records.specs.declared.pending.Pending.{Pending}

-- the number of the last commit that was handed out, and the commits behind it
pub record Undrained : Type 0 where
  pub after : ℕ
  pub waiting : List Pending
