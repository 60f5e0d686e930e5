use Rattle.std.proofs.Common.{◌++◌, drop, sym, ap, ◌∙◌, append-nil, arith}
use Rattle.path_model.specs.Programs.{tree_seen}
use Rattle.xpath_axes.specs.Positions.{all_plain}
use Rattle.xpath_axes.proofs.SingleLooks.{root_is_none}
use Rattle.xpath_axes.proofs.noted.see_below.Goals as goal

pub returns-then-is_root-clause-run : goal.returns-then-is_root-clause-run
returns-then-is_root-clause-run g c = λ t stands.
    let l = c.args.at.now in
    let before = all_plain c.args.before in
    let none = root_is_none l t stands.valid (sym c.is_root.ensures ∙ c.if-is_root.true) in
    record {
      run = λ known. record {
        is = sym (append-nil before) ∙ ap (λ f. before ++ drop 1 (tree_seen f)) (sym none);
        went = record { noted = c.in_ok-note.ensures t known; read = omega arith };
      };
    }
