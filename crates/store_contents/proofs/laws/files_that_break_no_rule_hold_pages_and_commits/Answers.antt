use Rattle.store_contents.proofs.ContentsLaws.{commits_held, holds_commits}
use Rattle.store_contents.proofs.laws.files_that_break_no_rule_hold_pages_and_commits.Goals as goal

pub returns-clause-held : goal.returns-clause-held
returns-clause-held c = holds_commits

pub returns-clause-stood_for : goal.returns-clause-stood_for
returns-clause-stood_for c = commits_held
