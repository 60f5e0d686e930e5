use Rattle.std.proofs.Common.{sym, ap, ◌∙◌}
use Rattle.durable_sessions.specs.Reasons.{first_reason, limit_of}
use Rattle.xtc.specs.Generated.{generated_line}
use Rattle.xtc.proofs.CountingLaws.{line_answered, line_refused}
use Rattle.xtc.proofs.generator.run_line.Goals as goal

pub returns-in-Some-clause-asked : goal.returns-in-Some-clause-asked
returns-in-Some-clause-asked g c = λ s stands.
    line_refused g.B.NodeRead.contents g.J.Disk.is_known s (generated_line c.args.line) c.args.journal.now.history c.ask_line.new.core c.ask_line.new.journal.history c.ask_line.new.replies.items c.in-Some.why
    (c.in_ok-ask_line.ensures.asked s stands) (ap (first_reason limit_of) (sym c.deref-2.ensures.value) ∙ sym c.limit_in.ensures ∙ c.in-Some.is)

pub returns-in-None-clause-asked : goal.returns-in-None-clause-asked
returns-in-None-clause-asked g c = λ s stands.
    line_answered g.B.NodeRead.contents g.J.Disk.is_known s (generated_line c.args.line) c.args.journal.now.history c.ask_line.new.core c.ask_line.new.journal.history c.ask_line.new.replies.items
    (c.in_ok-ask_line.ensures.asked s stands) (ap (first_reason limit_of) (sym c.deref-2.ensures.value) ∙ sym c.limit_in.ensures ∙ c.in-None.is)
