use Rattle.std.proofs.Common.{◌+◌, ◌∷◌, [], List, drop, refl, ap, ◌∙◌, arith}
use Rattle.path_model.specs.Evaluation.{with_first}
use Rattle.path_model.specs.Programs.{Program, ends, and_then}
use Rattle.path_model.specs.Values.{number_in}
use Rattle.path_model.specs.Numbers.{Num}
use Rattle.path_model.specs.Functions.{Value}
use Rattle.xpath_axes.proofs.Running.{each_goes, item_next}
use Rattle.xpath_eval.specs.Values.{meant, all_meant}
use Rattle.xpath_eval.specs.inside.Texts.{as_number}
use Rattle.xpath_eval.proofs.Parts.{later, one_number, run_is, made_of, each_starts}
use Rattle.xpath_eval.proofs.strings.numbers_of.Goals as goal

abbrev one : Value → Program (List Num)
one v = and_then (with_first v) (λ x. ends (number_in x ∷ []))

pub loop-value-init : goal.loop-value-init
loop-value-init g c = record {
  same = g.met.S.NodeRead.unchanged_itself c.args.seq.now;
  counted = refl;
  left = λ t stands. each_starts g.S.NodeRead.reads g.W.Looks.saw t g.met.W.Looks.saw_nothing g.met.W.Looks.saw_further one (all_meant c.args.values.now) c.args.seq.now c.args.looks.now c.new-numbers.ensures;
}

pub loop-value-preserved : goal.loop-value-preserved
loop-value-preserved g c =
    let seqs = g.met.S.NodeRead in
    let inv = c.loop-value.invariant in
    let i = c.loop-value.value-index in
    let x = c.value-item.result in
    record {
      same = seqs.unchanged_onward _ _ _ inv.same c.in_ok-number_of.ensures.unchanged;
      counted = c.in_ok-number_of.ensures.cause.exact ∙ inv.counted;
      left = λ t stands.
          each_goes g.S.NodeRead.reads g.W.Looks.saw t g.met.W.Looks.saw_nothing g.met.W.Looks.saw_further one (meant x) (all_meant (drop (i + 1) c.args.values.now)) c.loop-value.numbers
          (ap all_meant (item_next c.args.values.now i x (omega arith) c.value-item.is))
          c.in_ok-push.ensures.ok
          (inv.left t stands)
          (run_is g.S.NodeRead.reads g.W.Looks.saw t (one_number (meant x)) (made_of g.S.NodeRead.reads g.W.Looks.saw t g.met.W.Looks.saw_nothing g.met.W.Looks.saw_further (as_number (meant x)) (λ s. s ∷ []) (c.in_ok-number_of.ensures.run t (later _ _ t (seqs.unchanged_contents _ _ inv.same) stands))));
    }
