use Rattle.std.proofs.Common.{◌≡◌}
use Rattle.dom_reads.specs.inside.Catalogues.{catalogue_of}
use Rattle.dom_reads.proofs.documents.catalogue.Given as goal

abbrev pub invariant-loop-name : goal.invariant-loop-name
invariant-loop-name l = l.names ≡ catalogue_of l.yielded
