use Rattle.std.proofs.Common.{rules}
use Rattle.store_calls.proofs.ValidParts.{no_text_is_utf8}
use Rattle.store_calls.proofs.parts.tell_text_brought.Goals as goal

pub returns-in_default : goal.returns-in_default
returns-in_default c = search (rules, no_text_is_utf8)
