use Rattle.tree_rules.proofs.TestLaws.{ends_broken}
use Rattle.tree_rules.proofs.tester.Tester.broken_at.Goals as goal

pub returns-in-Some-clause-place : goal.returns-in-Some-clause-place
returns-in-Some-clause-place c es has s = ends_broken c.args.self.now es c.in-Some.at has c.in-Some.is s
