use Rattle.std.proofs.Common.{◌+◌, ◌∷◌, [], List, ℕ, drop, refl, ap, ◌∙◌, arith}
use Rattle.path_model.specs.Evaluation.{string_value}
use Rattle.path_model.specs.Programs.{Program, ends, and_then}
use Rattle.path_model.specs.Positions.{Position}
use Rattle.xpath_axes.specs.Positions.{plain, all_plain}
use Rattle.xpath_axes.proofs.Running.{each_goes, item_next}
use Rattle.xpath_eval.proofs.Parts.{later, made_of, each_starts}
use Rattle.xpath_eval.proofs.strings.string_values.Goals as goal

abbrev one : Position → Program (List (List ℕ))
one n = and_then (string_value n) (λ s. ends (s ∷ []))

pub loop-position-init : goal.loop-position-init
loop-position-init g c = record {
  same = g.met.S.NodeRead.unchanged_itself c.args.seq.now;
  counted = refl;
  left = λ t stands. each_starts g.S.NodeRead.reads g.W.Looks.saw t g.met.W.Looks.saw_nothing g.met.W.Looks.saw_further one (all_plain c.args.of.now) c.args.seq.now c.args.looks.now c.new-strings.ensures;
}

pub loop-position-preserved : goal.loop-position-preserved
loop-position-preserved g c =
    let seqs = g.met.S.NodeRead in
    let inv = c.loop-position.invariant in
    let i = c.loop-position.position-index in
    let x = c.position-item.result in
    record {
      same = seqs.unchanged_onward _ _ _ inv.same c.in_ok-string_value.ensures.unchanged;
      counted = c.in_ok-string_value.ensures.cause.exact ∙ inv.counted;
      left = λ t stands.
          each_goes g.S.NodeRead.reads g.W.Looks.saw t g.met.W.Looks.saw_nothing g.met.W.Looks.saw_further one (plain x) (all_plain (drop (i + 1) c.args.of.now)) c.loop-position.strings
          (ap all_plain (item_next c.args.of.now i x (omega arith) c.position-item.is))
          c.in_ok-push.ensures.ok
          (inv.left t stands)
          ((made_of g.S.NodeRead.reads g.W.Looks.saw t g.met.W.Looks.saw_nothing g.met.W.Looks.saw_further (string_value (plain x)) (λ s. s ∷ []) (c.in_ok-string_value.ensures.run t (later _ _ t (seqs.unchanged_contents _ _ inv.same) stands))));
    }
