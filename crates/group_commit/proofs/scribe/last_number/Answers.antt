use Rattle.group_commit.proofs.Batches.{last_follows}
use Rattle.group_commit.proofs.scribe.last_number.Goals as goal

pub returns : goal.returns
returns c = λ after follow. last_follows after c.args.commits.now c.in-Some.last.now c.requires c.in-Some.ensures.value follow
