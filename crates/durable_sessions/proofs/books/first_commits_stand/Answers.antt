use Rattle.durable_sessions.proofs.Standing.{first_stand}
use Rattle.durable_sessions.proofs.books.first_commits_stand.Goals as goal

pub returns : goal.returns
returns g c = first_stand g.C.TreeCall.is_valid g.C.TreeCall.meaning g.met.C.TreeCall.laws
