use Rattle.std.proofs.Common.{take}
use Rattle.workers_text.specs.inside.Inputs.{CameOn}
use Rattle.workers_text.proofs.input.Input.take_piece.Given as goal

abbrev pub invariant-loop-byte : goal.invariant-loop-byte
invariant-loop-byte l = CameOn l.fn.self l.self (take l.byte-index l.piece)
