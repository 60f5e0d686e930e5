use Rattle.std.proofs.Common.{◌≡◌, Err, ap, sym, subst, ◌∙◌}
use Rattle.script_runs.specs.Counts.{DisksCountedWhere}
use Rattle.script_runs.specs.declared.halt.Halt.TheVariants as halt
use Rattle.xtc.specs.Checkpoints.{is_positive}
use Rattle.xtc.specs.StoreMachine.{HasAnswered, KeptStore, MakesAs, store_machine}
use Rattle.xtc.proofs.LineLaws.{both_made, each_settled, made_by, rest_fixed, rest_moments, rest_settled, rest_stands}
use Rattle.xtc.proofs.store.StoreLineMachine.rest.Goals as goal

pub rest-requires : goal.rest-requires
rest-requires g c = record {
  answered = (subst (λ (k : KeptStore g.row.P.Denot). HasAnswered g.P.Disk.is_known g.P.Disk.history k × MakesAs g.C.MakesCheckpoints.makes k) (sym c.self.view_is) c.requires.answered).0;
}

pub invariant_of-self : goal.invariant_of-self
invariant_of-self g c = c.rest.ensures.left.has_pages

pub returns-clause-state : goal.returns-clause-state
returns-clause-state g c =
    let P : Type 0 = g.row.P.Denot in
    let old : KeptStore P = record { core = c.self.inside.core; journal = c.self.inside.journal; checkpoints = c.self.inside.checkpoints } in
    let new : KeptStore P = record { core = c.rest.new.core; journal = c.rest.new.journal; checkpoints = c.rest.new.checkpoints } in
    made_by c.rest.result _ (λ b stands. rest_stands g.J.Disk.is_known g.P.Disk.is_known g.C.MakesCheckpoints.makes g.P.Disk.history g.P.Disk.faults c.args.self.now old new c.self.view_is c.rest.ensures.every c.rest.ensures.left b stands)

pub returns-clause-ready : goal.returns-clause-ready
returns-clause-ready g c =
    let P : Type 0 = g.row.P.Denot in
    let makes = g.C.MakesCheckpoints.makes in
    let new : KeptStore P = record { core = c.rest.new.core; journal = c.rest.new.journal; checkpoints = c.rest.new.checkpoints } in
    let before : MakesAs makes (record { core = c.self.inside.core; journal = c.self.inside.journal; checkpoints = c.self.inside.checkpoints }) = subst (MakesAs makes) (sym c.self.view_is) c.requires.answered.1 in
    both_made c.rest.result _ (MakesAs makes new) c.rest.ensures.rested (ap is_positive c.rest.ensures.every ∙ before)

pub returns-clause-settled : goal.returns-clause-settled
returns-clause-settled g c =
    let P : Type 0 = g.row.P.Denot in
    let old : KeptStore P = record { core = c.self.inside.core; journal = c.self.inside.journal; checkpoints = c.self.inside.checkpoints } in
    let new : KeptStore P = record { core = c.rest.new.core; journal = c.rest.new.journal; checkpoints = c.rest.new.checkpoints } in
    each_settled c.rest.result _ _ _ (λ b stands settled. rest_settled g.J.Disk.is_known g.P.Disk.is_known g.C.MakesCheckpoints.makes g.P.Disk.history g.P.Disk.faults c.args.self.now old new c.self.view_is c.rest.ensures.every c.rest.ensures.left c.rest.result c.rest.ensures.files b stands settled)

pub returns-clause-any_moment : goal.returns-clause-any_moment
returns-clause-any_moment g c = λ b stands settled.
    let P : Type 0 = g.row.P.Denot in
    let old : KeptStore P = record { core = c.self.inside.core; journal = c.self.inside.journal; checkpoints = c.self.inside.checkpoints } in
    let new : KeptStore P = record { core = c.rest.new.core; journal = c.rest.new.journal; checkpoints = c.rest.new.checkpoints } in
    rest_moments g.J.Disk.is_known g.P.Disk.is_known g.C.MakesCheckpoints.makes g.P.Disk.history g.P.Disk.faults c.args.self.now old new c.self.view_is c.rest.ensures.every c.rest.ensures.left c.rest.result c.rest.ensures.files b stands settled

pub returns-clause-fixed : goal.returns-clause-fixed
returns-clause-fixed g c =
    let P : Type 0 = g.row.P.Denot in
    let old : KeptStore P = record { core = c.self.inside.core; journal = c.self.inside.journal; checkpoints = c.self.inside.checkpoints } in
    let new : KeptStore P = record { core = c.rest.new.core; journal = c.rest.new.journal; checkpoints = c.rest.new.checkpoints } in
    rest_fixed g.J.Disk.is_known g.P.Disk.is_known g.C.MakesCheckpoints.makes g.P.Disk.history g.P.Disk.faults c.args.self.now old new c.self.view_is c.rest.ensures.every c.rest.ensures.left c.requires.answered.1

pub returns-clause-damaged : goal.returns-clause-damaged
returns-clause-damaged g c = λ place it.
    let makes = g.C.MakesCheckpoints.makes in
    let before : MakesAs makes (record { core = c.self.inside.core; journal = c.self.inside.journal; checkpoints = c.self.inside.checkpoints }) = subst (MakesAs makes) (sym c.self.view_is) c.requires.answered.1 in
    let is = c.rest.ensures.damaged place it in
    (sym before ∙ is.0, is.1)

pub returns-clause-cause : goal.returns-clause-cause
returns-clause-cause g c =
    let machine = store_machine g.J.Disk.is_known g.P.Disk.is_known g.C.MakesCheckpoints.makes g.P.Disk.history g.P.Disk.faults in
    let new : KeptStore g.row.P.Denot = record { core = c.rest.new.core; journal = c.rest.new.journal; checkpoints = c.rest.new.checkpoints } in
    subst (λ (k : KeptStore g.row.P.Denot). DisksCountedWhere (c.rest.result ≡ Err halt.DiskFault) (machine.faults k) (machine.faults new)) c.self.view_is c.rest.ensures.counts
