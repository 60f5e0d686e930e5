use Rattle.std.proofs.Common.{IsTrue, rules}
use Rattle.path_model.specs.PlainPaths.{plain}
use Rattle.xpath_axes.specs.Positions as position
use Rattle.xpath_eval.proofs.Memos.{free_alike}
use Rattle.xpath_eval.proofs.memo.is_alike.Goals as goal

pub returns-then-is_free : goal.returns-then-is_free
returns-then-is_free c free =
    let same : IsTrue c.is_same_position.result = search rules in
    free_alike (plain c.args.test.now) (c.is_free.ensures free) (position.plain c.args.kept.now.at) (position.plain c.args.at.now) c.args.kept.now.proximity c.args.kept.now.size c.args.proximity c.args.size
    (c.is_same_position.ensures same)
