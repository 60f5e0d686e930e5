use Rattle.std.proofs.Common.{◌==◌, length, ◌∷◌, sym, ap, ◌∙◌}
use Rattle.durable_sessions.proofs.InTurnLists.{first_left}
use Rattle.durable_sessions.proofs.in_turn.take_first.Goals as goal

pub returns-clause-first : goal.returns-clause-first
returns-clause-first g c =
    first_left c.args.doings.now.items c.remove.result (ap (λ l. length l == 0) (sym c.as_slice.ensures.value) ∙ sym c.is_empty.ensures ∙ c.if-is_empty.false) c.remove.ensures.value ∙ ap (λ l. c.remove.result ∷ l) (sym c.remove.ensures.items)
