use Rattle.std.proofs.Common.{◌≡◌, ◌∙◌, true, false, List, None, refl, sym, ap, arith}
use Rattle.call_contract.specs.Sessions.{commits_in}
use Rattle.overlays.specs.Layered.{Layered}
use Rattle.overlays.specs.Stretches.{is_covered}
use Rattle.tx_core.specs.declared.parts.Passed.{Passed}
use Rattle.tx_core.specs.inside.Passed.{stretches_of}
use Rattle.tx_core.proofs.Drained.{bodies_out}
use Rattle.tx_core.proofs.Kept.{core_new, shown_new}
use Rattle.tx_core.proofs.engine.Core.new.Goals as goal

pub invariant_of-result : goal.invariant_of-result
invariant_of-result g c =
    record {
      core =
          core_new g.C.TreeCall.is_valid g.C.TreeCall.meaning g.B.NodeRead.contents g.B.NodeRead.count c.of.result.value c.args.number c.args.limit _
          (sym c.of.ensures) (ap (λ (l : Layered). l.changes) c.new.ensures) refl refl refl refl
          c.new-2.ensures.empty c.in-Ok.ensures.table c.in-Ok.ensures.graph c.new-4.ensures.items c.new-5.ensures.items refl refl c.requires c.ranges.limit.fits;
      passed = λ s es is j h. let no : false ≡ true = sym (ap (λ (ps : List Passed). is_covered (stretches_of ps s) j) c.new-3.ensures.items) ∙ h in cc;
      bodies = bodies_out c.args.number c.args.number _ None _ (omega (arith, ap commits_in c.new-5.ensures.items)) refl c.new-6.ensures.items refl;
    }

pub returns-clause-ok : goal.returns-clause-ok
returns-clause-ok g c =
    shown_new g.B.NodeRead.contents _ c.args.base c.args.number c.args.limit _ _ _ c.of.ensures (ap (λ (l : Layered). l.changes) c.new.ensures) c.new-5.ensures.items c.new-6.ensures.items
