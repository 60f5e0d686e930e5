use Rattle.durable_sessions.proofs.LoneLaws.{lone_line, lone_after}
use Rattle.durable_sessions.proofs.laws.lone_calls_are_answered.Goals as goal

pub returns-clause-answered : goal.returns-clause-answered
returns-clause-answered g c = λ st t call alone. lone_line g.C.TreeCall.meaning st t call alone

pub returns-clause-alone : goal.returns-clause-alone
returns-clause-alone g c = λ st t call alone. lone_after g.C.TreeCall.meaning st t call alone
