use Rattle.std.proofs.Common.{◌≡◌, List, arith}
use Rattle.std.specs.List.{filter}
use Rattle.path_model.specs.AxisPrograms.{on_right}
use Rattle.path_model.specs.Positions as path
use Rattle.path_model.specs.Programs.{at_row, ends, looks, seen}
use Rattle.xpath_axes.specs.declared.position.Position.{Position}
use Rattle.xpath_axes.specs.Positions.{all_plain}
use Rattle.xpath_axes.specs.Runs.{HasRun}
use Rattle.xpath_axes.proofs.RowLimits.{filter_length}
use Rattle.xpath_axes.proofs.TreeLooks.{on_tree}
use Rattle.xpath_axes.proofs.noted.see_row_behind.Goals as goal

pub returns-clause-run : goal.returns-clause-run
returns-clause-run g c =
    let l = c.args.at.now in
    let behind : List path.Position → List path.Position = λ s. filter (on_right c.args.of.now) s in
    on_tree (λ t (a : List Position). all_plain a ≡ behind (seen t (at_row l)))
    (λ t (a : List Position). HasRun g.S.NodeRead.reads g.W.Looks.saw t (looks (at_row l) (λ s. ends (behind s))) (all_plain a) c.args.seq.now c.args.looks.now c.at_row_behind.new.seq c.note.new.self) _ _ c.at_row_behind.result (λ t a stands h.
    record {
      run = λ known. record {
        is = h stands;
        went = record {
          noted = c.in_ok-note.ensures t known;
          read =
              let some = c.at_row_behind.ensures.reads t stands in
              let most = filter_length (on_right c.args.of.now) (seen t (at_row l)) in
              omega (arith, some, most);
        };
      };
    }) c.at_row_behind.ensures.seen
