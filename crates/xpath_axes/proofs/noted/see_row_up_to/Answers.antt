use Rattle.std.proofs.Common.{◌≡◌, List, take, arith}
use Rattle.std.specs.List.{filter}
use Rattle.path_model.specs.declared.path.Axis.TheVariants as along
use Rattle.path_model.specs.Positions as path
use Rattle.path_model.specs.Programs.{at_row, ends, looks, seen}
use Rattle.xpath_axes.specs.declared.position.Position.{Position}
use Rattle.xpath_axes.specs.Positions.{all_plain}
use Rattle.xpath_axes.specs.Runs.{HasRun}
use Rattle.xpath_axes.proofs.RowLimits.{up_to_length}
use Rattle.xpath_axes.proofs.TreeLooks.{on_tree}
use Rattle.xpath_axes.proofs.noted.see_row_up_to.Goals as goal

pub returns-clause-run : goal.returns-clause-run
returns-clause-run g c =
    let l = c.args.at.now in
    let first : List path.Position → List path.Position = λ s. take c.args.room (filter (path.passes along.Child c.args.test.now) s) in
    on_tree (λ t (a : List Position). all_plain a ≡ first (seen t (at_row l)))
    (λ t (a : List Position). HasRun g.S.NodeRead.reads g.W.Looks.saw t (looks (at_row l) (λ s. ends (first s))) (all_plain a) c.args.seq.now c.args.looks.now c.at_row_up_to.new.seq c.note.new.self) _ _ c.at_row_up_to.result (λ t a stands h.
    record {
      run = λ known. record {
        is = h stands;
        went = record {
          noted = c.in_ok-note.ensures t known;
          read =
              let some = c.at_row_up_to.ensures.reads t stands in
              let most = up_to_length (path.passes along.Child c.args.test.now) c.args.room (seen t (at_row l)) in
              omega (arith, some, most);
        };
      };
    }) c.at_row_up_to.ensures.seen
