use Rattle.std.proofs.Common.{◌≡◌}
use Rattle.dom_reads.specs.inside.FragmentBuilders.{add_all, making_of, nothing_made}
use Rattle.dom_reads.proofs.fragment_builder.fragment.Given as goal

abbrev pub invariant-loop-entry : goal.invariant-loop-entry
invariant-loop-entry l = making_of l.builder ≡ add_all l.yielded nothing_made
