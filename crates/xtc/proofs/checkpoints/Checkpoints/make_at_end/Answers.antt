use Rattle.std.proofs.Common.{Bool, IsTrue, subst}
use Rattle.std.specs.Prelude.{OnOk}
use Rattle.call_contract.specs.States.{State}
use Rattle.session_driver.specs.Asking.{BookCall}
use Rattle.checkpoint.specs.Renewals.{pages_of}
use Rattle.xtc.specs.StoreMachine.{Stands}
use Rattle.xtc.specs.inside.Renewing.{DamagedWhere, IsMadeWhere, LeftAsBefore}
use Rattle.xtc.proofs.checkpoints.Checkpoints.make_at_end.Goals as goal

pub returns-clause-made : goal.returns-clause-made
returns-clause-made g c =
    subst (λ (b : Bool). OnOk c.make_where.result (IsTrue g.P.Disk.is_known → (s : State BookCall) → Stands g.P.Disk.is_known g.P.Disk.history c.args.core.now s
    → IsMadeWhere b s (pages_of g.P.Disk.history c.args.core.now.base) (pages_of g.P.Disk.history c.make_where.new.core.base))) c.is_due_at_end-due.ensures c.make_where.ensures.made

pub returns-clause-left : goal.returns-clause-left
returns-clause-left g c =
    subst (λ (b : Bool). LeftAsBefore b c.args.core.now c.make_where.new.core c.args.journal.now c.make_where.new.journal c.args.self.now.pages c.make_where.new.self.pages) c.is_due_at_end-due.ensures c.make_where.ensures.left

pub returns-clause-damaged : goal.returns-clause-damaged
returns-clause-damaged g c = subst (λ (b : Bool). DamagedWhere b g.P.Disk.is_known c.make_where.result) c.is_due_at_end-due.ensures c.make_where.ensures.damaged
