use Rattle.std.proofs.Common.{◌≡◌, ◌∷◌, map, drop, sym, ap, ◌∙◌, arith}
use Rattle.tree_model.specs.declared.reply.Reply.TheVariants.{Found}
use Rattle.path_model.specs.Evaluation.{find_from}
use Rattle.path_model.specs.Finds.{found_by, hit_of, hits}
use Rattle.path_model.specs.PlainPaths.{plain_path}
use Rattle.path_model.specs.Programs.{looks, at_node, ends}
use Rattle.xpath_axes.specs.Positions.{plain, all_plain}
use Rattle.xpath_axes.proofs.Running.{item_next}
use Rattle.xpath_eval.proofs.Parts.{later, run_is, answer_is, made_of, one_by_one}
use Rattle.xpath_eval.proofs.find.find_at.Goals as goal

pub returns-clause-run : goal.returns-clause-run
returns-clause-run g c = λ u stands_for.
    let reads = g.S.NodeRead.reads in
    let saw = g.W.Looks.saw in
    let nothing = g.met.W.Looks.saw_nothing in
    let further = g.met.W.Looks.saw_further in
    let seqs = g.met.S.NodeRead in
    let p = plain_path c.args.path.now in
    let x = c.from-item.result in
    let n = plain x in
    let one = c.in_ok-node.ensures in
    let two = c.in_ok-found.ensures in
    let there : c.in_ok-node.node ≡ x ∷ drop 1 c.as_slice.result.now = sym c.as_slice.ensures ∙ item_next c.as_slice.result.now 0 x (omega arith) c.from-item.is in
    one_by_one reads saw u nothing further (looks (at_node c.args.at.now) ends) (λ s. found_by p s) (one.run u stands_for)
    (run_is reads saw u (ap (λ ns. found_by p (all_plain ns)) (sym there))
    (answer_is reads saw u (ap (λ ns. Found (map hit_of (all_plain ns))) (sym c.as_slice-2.ensures) ∙ ap Found (sym c.in_ok-hits.ensures))
    (made_of reads saw u nothing further (find_from p.is_absolute p.steps n) (λ ms. hits ms) (two.run u (later _ _ u (seqs.unchanged_contents _ _ one.unchanged) stands_for)))))
