use Rattle.std.proofs.Common.{length}
use Rattle.durable_sessions.proofs.in_turn.+ask_in_turn.Given as goal

-- one doing less is left
abbrev pub decreases-ask_in_turn : goal.decreases-ask_in_turn
decreases-ask_in_turn g l = length l.doings.items
