-- What a source and a sink in memory are (docs/PROFILE.md, "Kinds in memory").
use Rattle.std.specs.Prelude.{ℕ, List}
use Rattle.outside_kinds.specs.CallCounts.{CallCount}

-- the bytes still to come, how many it has given, how many when its last read was asked for, its calls
pub record SourceInMemory : Type 0 where
  pub left : List ℕ
  pub given : ℕ
  pub asked : ℕ
  pub count : CallCount

-- the bytes taken, its calls
pub record SinkInMemory : Type 0 where
  pub held : List ℕ
  pub count : CallCount

-- the bytes still to come from a source that never fails, how many it has given, how many when its last read was asked for
pub record SureBytes : Type 0 where
  pub left : List ℕ
  pub given : ℕ
  pub asked : ℕ
