use Rattle.std.proofs.Common.{Bor, Option, option_map, sym, ap, ◌∙◌}
use Rattle.dewey_labels.specs.Labels.{Label}
use Rattle.dom_reads.specs.inside.FragmentBuilders.{close_to}
use Rattle.dom_reads.proofs.BuiltFragments.{closed, closes_on}
use Rattle.dom_reads.proofs.fragment_builder.FragmentBuilder.close_to.Goals as goal

pub loop-self-preserved : goal.loop-self-preserved
loop-self-preserved c =
    let next : Option Label = option_map (λ (l : Bor Label). l.now) c.args.next in
    ap (close_to next) c.in_ok-close_innermost.ensures.closed ∙ closes_on next c.loop-self.self (sym c.must_close.ensures ∙ c.loop-self-test.true)
    ∙ c.loop-self.invariant

pub returns : goal.returns
returns c =
    let next : Option Label = option_map (λ (l : Bor Label). l.now) c.args.next in
    sym (closed next c.loop-self.self (sym c.must_close.ensures ∙ c.loop-self-test.false)) ∙ c.loop-self.invariant
