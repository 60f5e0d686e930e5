use Rattle.std.proofs.Common.{Err, true≢false, ap, sym, ◌∙◌}
use Rattle.command_lines.proofs.Taken.{something_left}
use Rattle.command_lines.proofs.reading.finished.Goals as goal

pub returns-clause-reads : goal.returns-clause-reads
returns-clause-reads c = λ known.
    something_left c.args.session c.args.what c.args.members.now.entries (λ e. true≢false (sym (c.is_empty.ensures.1 e) ∙ c.if-is_empty.false))
    ∙ ap Err (sym (c.of.ensures known))
