use Rattle.std.proofs.Common.{◌≡◌, IsTrue, subst, sym, rules, arith}
use Rattle.std.specs.BTreeMap.{values}
use Rattle.path_model.specs.PlainPaths.{plain}
use Rattle.xpath_axes.specs.Positions as position
use Rattle.xpath_eval.specs.inside.Memos.{IsAt}
use Rattle.xpath_eval.proofs.Memos.{is_recalled}
use Rattle.xpath_eval.proofs.memo.MemoLooks.recall.Goals as goal

pub returns : goal.returns
returns g c = λ t known.
    let memo = c.args.self.now in
    let k = c.in-Some-get.kept.now in
    let e = plain c.args.test.now in
    let here : k.test ≡ c.in-Some.index = omega arith in
    let alike : IsTrue c.in_ok-is_alike.field-0 = search rules in
    let found : IsAt memo.tests c.in-Some.index e = subst (λ xs. IsAt xs c.in-Some.index e) c.as_slice.ensures c.in-Some.ensures in
    let stands : IsAt memo.tests k.test e = subst (λ i. IsAt memo.tests i e) (sym here) found in
    let it = is_recalled g.W.Notes.saw t memo.tests (values memo.kept) memo.notes k e (position.plain c.args.at.now) c.args.proximity c.args.size
    known.0 c.in-Some-get.ensures.member stands (c.in_ok-is_alike.ensures alike) in
    record { right = it.right; noted = (known.0, it.noted, known.0) }
