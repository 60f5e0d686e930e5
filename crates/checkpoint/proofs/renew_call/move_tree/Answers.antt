use Rattle.std.proofs.Common.{◌≡◌, ◌≤◌, ℕ, Ok, refl, sym, subst}
use Rattle.outside_traits.specs.DiskPairs.{PairsLeave, pair_of}
use Rattle.outside_traits.specs.Moments.{History, IsAllSynced}
use Rattle.tree_model.specs.Tree.{map_of}
use Rattle.node_pages.specs.PageFiles.{contents_of_file}
use Rattle.tx_core.specs.Cores.{InState, state_from}
use Rattle.checkpoint.specs.Bases.{contents_of, count_of}
use Rattle.checkpoint.specs.Checkpoints.{OpenAs}
use Rattle.checkpoint.specs.inside.Phases.{stored}
use Rattle.checkpoint.proofs.RenewAnswers.{always, never_damage, opened_cause, under, written_cause}
use Rattle.checkpoint.proofs.renew_call.move_tree.Goals as goal

-- ---- the pages were written

pub open_again-requires : goal.open_again-requires
open_again-requires g c = record {
  core = record {
    opened = c.requires.core.opened;
    copied = c.requires.core.copied;
    later = subst (λ (n : ℕ). count_of g.P.Disk.faults c.args.core.now.base ≤ n) (sym c.in-Ok.ensures.cause.exact.1) c.requires.core.later;
  };
  pages = λ known t opened.
      let is = c.requires.cut t opened in
      record { valid = is.valid; number = c.args.number; hold = c.in-Ok.ensures.pages known (state_from g.C.TreeCall.meaning t c.args.core.now).tree is };
}

pub returns-in-Ok-clause-cleared : goal.returns-in-Ok-clause-cleared
returns-in-Ok-clause-cleared g c = always c.open_again.result _ c.in-Ok.ensures.cleared

pub returns-in-Ok-clause-synced : goal.returns-in-Ok-clause-synced
returns-in-Ok-clause-synced g c =
    under g.P.Disk.history c.open_again.result c.open_again.new.core.base _ (g.P.Disk.history c.write_cut.new.pages) IsAllSynced c.open_again.ensures.same c.in-Ok.ensures.synced

pub returns-in-Ok-clause-pages : goal.returns-in-Ok-clause-pages
returns-in-Ok-clause-pages g c =
    under g.P.Disk.history c.open_again.result c.open_again.new.core.base _ (g.P.Disk.history c.write_cut.new.pages)
    (λ (h : History). InState g.C.TreeCall.meaning (contents_of g.P.Disk.is_known g.P.Disk.history) c.args.core.now (λ s. contents_of_file h.now.reads ≡ Ok (map_of s.tree, c.args.number)))
    c.open_again.ensures.same
    (λ known t opened. c.in-Ok.ensures.pages known (state_from g.C.TreeCall.meaning t c.args.core.now).tree (c.requires.cut t opened))

pub returns-in-Ok-clause-phases : goal.returns-in-Ok-clause-phases
returns-in-Ok-clause-phases g c tj tp t opened stood =
    let tree = (state_from g.C.TreeCall.meaning t c.args.core.now).tree in
    subst (λ (h : History). PairsLeave (OpenAs (stored tree c.args.number)) (pair_of c.args.journal.now.history (g.P.Disk.history c.args.pages)) (pair_of c.write_cut.new.journal.history h))
    (sym (c.open_again.ensures.same tp)) (c.write_cut.ensures.phases tj tp tree (c.requires.cut t opened) stood)

pub returns-in-Ok-clause-cause : goal.returns-in-Ok-clause-cause
returns-in-Ok-clause-cause g c =
    opened_cause c.open_again.result c.args.journal.now.faults c.write_cut.new.journal.faults (g.P.Disk.faults c.args.pages) (g.P.Disk.faults c.write_cut.new.pages) _
    c.in-Ok.ensures.cause.exact.0 c.in-Ok.ensures.cause.exact.1 c.open_again.ensures.cause

-- ---- they weren't

pub returns-in-Err-clause-over : goal.returns-in-Err-clause-over
returns-in-Err-clause-over g c = (refl, refl)

pub returns-in-Err-clause-phases : goal.returns-in-Err-clause-phases
returns-in-Err-clause-phases g c tj tp t opened stood =
    c.write_cut.ensures.phases tj tp (state_from g.C.TreeCall.meaning t c.args.core.now).tree (c.requires.cut t opened) stood

pub returns-in-Err-clause-damaged : goal.returns-in-Err-clause-damaged
returns-in-Err-clause-damaged g c = λ known t opened place is. never_damage c.in-Err.fault c.fault_of.result place c.fault_of.ensures.disk c.fault_of.ensures.memory is

pub returns-in-Err-clause-cause : goal.returns-in-Err-clause-cause
returns-in-Err-clause-cause g c =
    written_cause c.write_cut.result c.in-Err.fault c.fault_of.result _ c.args.journal.now.faults c.write_cut.new.journal.faults (g.P.Disk.faults c.args.pages) (g.P.Disk.faults c.write_cut.new.pages)
    c.in-Err.is c.fault_of.ensures.memory c.write_cut.ensures.cause
