use Rattle.std.proofs.Common.{◌≡◌, ◌-◌, arith, Bool, ap, subst, ◌∙◌}
use Rattle.call_contract.specs.Sessions.{commits_in}
use Rattle.xtc.specs.StoreMachine.{KeptStore}
use Rattle.xtc.specs.inside.Renewing.{DamagedWhere, LeftAsBefore, kept}
use Rattle.xtc.proofs.RestLaws.{rested_by}
use Rattle.xtc.proofs.checkpoints.Checkpoints.make_if_due.Goals as goal

pub is_due-due-requires : goal.is_due-due-requires
is_due-due-requires g c = record { opened = c.requires.answered.opened }

pub make_where-requires : goal.make_where-requires
make_where-requires g c = record { may = c.requires.answered.may; inside = c.requires.answered.inside; stands = c.requires.answered.stands }

pub returns-clause-rested : goal.returns-clause-rested
returns-clause-rested g c =
    let old : KeptStore g.row.P.Denot = kept c.args.core.now c.args.journal.now c.args.self.now in
    let new : KeptStore g.row.P.Denot = kept c.make_where.new.core c.make_where.new.journal c.make_where.new.self in
    let seen_is : c.number.result - c.args.self.now.opened ≡ commits_in c.args.core.now.book = let number = c.number.ensures in let opened = c.requires.answered.opened in omega (arith, number, opened) in
    rested_by g.P.Disk.is_known g.P.Disk.history old c.requires.answered new c.make_where.result c.is_due-due.result c.is_due-due.ensures
    c.make_where.ensures.left (c.make_where.ensures.others ∙ (λ i. record c.args.self.now { seen = seen_is i; pages = c.make_where.new.self.pages })) c.make_where.ensures.inside c.make_where.ensures.again c.make_where.ensures.made

pub returns-clause-every : goal.returns-clause-every
returns-clause-every g c = ap (λ x. x.every) c.make_where.ensures.others

pub returns-clause-left : goal.returns-clause-left
returns-clause-left g c =
    subst (λ (b : Bool). LeftAsBefore b c.args.core.now c.make_where.new.core c.args.journal.now c.make_where.new.journal c.args.self.now.pages c.make_where.new.self.pages) c.is_due-due.ensures c.make_where.ensures.left

pub returns-clause-damaged : goal.returns-clause-damaged
returns-clause-damaged g c = subst (λ (b : Bool). DamagedWhere b g.P.Disk.is_known c.make_where.result) c.is_due-due.ensures c.make_where.ensures.damaged
