use Rattle.std.proofs.Common.{◌∙◌, sym, true≢false}
use Rattle.tree_rules.proofs.TestLaws.{ends_as_tree, ends_nameless, ends_undocumented, ends_whole}
use Rattle.tree_rules.proofs.tester.Tester.ends_at.Goals as goal

pub returns-then-not-names-clause-place : goal.returns-then-not-names-clause-place
returns-then-not-names-clause-place c es has s = ends_nameless c.args.self.now es has c.requires.unbroken s c.if-not-names.true

pub returns-then-is_done-clause-place : goal.returns-then-is_done-clause-place
returns-then-is_done-clause-place c es has s =
    ends_whole c.args.self.now es has c.requires.unbroken s c.if-not-names.false (c.is_empty-is_done.ensures.0 c.if-is_done.true)

pub returns-then-is_done-clause-tree : goal.returns-then-is_done-clause-tree
returns-then-is_done-clause-tree c none es has s =
    ends_as_tree c.args.self.now es has c.requires.unbroken s
    (sym (ends_whole c.args.self.now es has c.requires.unbroken s c.if-not-names.false (c.is_empty-is_done.ensures.0 c.if-is_done.true)))

pub returns-clause-place : goal.returns-clause-place
returns-clause-place c es has s =
    ends_undocumented c.args.self.now es has c.requires.unbroken s (λ empty. true≢false (sym (c.is_empty-is_done.ensures.1 empty) ∙ c.if-is_done.false))
