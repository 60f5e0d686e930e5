use Rattle.std.proofs.Common.{sym, ◌∙◌, true≢false}
use Rattle.std.proofs.lemmas.Result.{on_ok_weaker}
use Rattle.node_pages.proofs.cutter.Cutter.put_record.Goals as goal

pub put_chunks-requires-clause-key : goal.put_chunks-requires-clause-key
put_chunks-requires-clause-key c = (c.is_valid.ensures.0 c.if-not-is_valid.false).0

pub put_chunks-requires-clause-fits : goal.put_chunks-requires-clause-fits
put_chunks-requires-clause-fits c = (c.is_valid.ensures.0 c.if-not-is_valid.false).1

pub returns-then-not-is_valid-clause-ok : goal.returns-then-not-is_valid-clause-ok
returns-then-not-is_valid-clause-ok c = λ valid. absurd (true≢false (sym (c.is_valid.ensures.1 valid) ∙ c.if-not-is_valid.true))

pub returns-clause-ok : goal.returns-clause-ok
returns-clause-ok c = on_ok_weaker c.put_chunks.result (λ is. λ valid. is) c.put_chunks.ensures.ok
