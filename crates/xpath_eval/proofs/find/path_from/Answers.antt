use Rattle.std.proofs.Common.{sym, ap}
use Rattle.path_model.specs.declared.path.XPath.{XPath, out-XPath}
use Rattle.path_model.specs.Evaluation.{start, taken}
use Rattle.path_model.specs.PlainPaths.{plain_way}
use Rattle.xpath_axes.specs.Positions.{plain, all_plain}
use Rattle.xpath_eval.specs.inside.Steps.{from_path}
use Rattle.xpath_eval.proofs.Opened.{whole_path}
use Rattle.xpath_eval.proofs.Parts.{later, run_is, one_by_one, on_tree}
use Rattle.xpath_eval.proofs.find.path_from.Goals as goal

pub returns-clause-run : goal.returns-clause-run
returns-clause-run g c =
    let reads = g.S.NodeRead.reads in
    let saw = g.W.Looks.saw in
    let nothing = g.met.W.Looks.saw_nothing in
    let further = g.met.W.Looks.saw_further in
    let seqs = g.met.S.NodeRead in
    let p : XPath = c.args.path.now in
    let n = plain c.args.from.now in
    let from = start (out-XPath p).absolute n in
    let one = c.in_ok-start.ensures in
    on_tree _ _ _ _ c.taken.result (λ u a stands_for h.
    run_is reads saw u (ap (λ z. from_path z n) (sym (whole_path p)))
    (one_by_one reads saw u nothing further from (λ ns. taken (plain_way (out-XPath p).steps) ns) (one.run u stands_for)
    (run_is reads saw u (ap (λ ss. taken (plain_way ss) (all_plain c.in_ok-start.start)) c.as_slice.ensures) (h (later _ _ u (seqs.unchanged_contents _ _ one.unchanged) stands_for))))) c.taken.ensures.run
