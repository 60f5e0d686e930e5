use Rattle.std.proofs.Common.{◌≡◌, length, option_map}
use Rattle.dom_reads.specs.inside.FragmentBuilders.{close_to, making_of}
use Rattle.dom_reads.proofs.fragment_builder.FragmentBuilder.close_to.Given as goal

abbrev pub invariant-loop-self : goal.invariant-loop-self
invariant-loop-self l = close_to (option_map (λ next. next.now) l.next) (making_of l.self) ≡ close_to (option_map (λ next. next.now) l.next) (making_of l.fn.self)

abbrev pub decreases-loop-self : goal.decreases-loop-self
decreases-loop-self l = length l.self.open_elements
