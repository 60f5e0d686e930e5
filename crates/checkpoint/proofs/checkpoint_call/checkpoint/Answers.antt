use Rattle.std.proofs.Common.{Err, refl, sym, ap, ◌∙◌}
use Rattle.outside_traits.specs.DiskPairs.{pair_of}
use Rattle.outside_traits.proofs.PairLaws.{none, pairs_weaker}
use Rattle.checkpoint.specs.Checkpoints.{OpenAs, StandAs, made_of}
use Rattle.checkpoint.specs.declared.made.Made.TheVariants.{No, Yes}
use Rattle.checkpoint.specs.inside.Phases.{IsCutOf, stored}
use Rattle.checkpoint.proofs.CutLaws.{cleared_opens}
use Rattle.checkpoint.proofs.RefusedLaws.{disks_refused, map_refused, never_ok, none_ok, none_rose, not_ok, unwritten_err}
use Rattle.checkpoint.proofs.checkpoint_call.checkpoint.Goals as goal

-- ---- the map couldn't be cut

pub returns-in_err-cut-clause-made : goal.returns-in_err-cut-clause-made
returns-in_err-cut-clause-made g c = not_ok _ c.from_residual.result c.in_err-cut.field-0.0 c.from_residual.ensures.1

pub returns-in_err-cut-clause-moved : goal.returns-in_err-cut-clause-moved
returns-in_err-cut-clause-moved g c = λ e. absurd (never_ok c.from_residual.result c.in_err-cut.field-0.0 _ c.from_residual.ensures.1 e)

pub returns-in_err-cut-clause-phases : goal.returns-in_err-cut-clause-phases
returns-in_err-cut-clause-phases g c tj tp t stands settled = none (StandAs t c.args.number) (pair_of c.args.journal.now.history (g.P.Disk.history c.args.pages.now))

pub returns-in_err-cut-clause-settled : goal.returns-in_err-cut-clause-settled
returns-in_err-cut-clause-settled g c = none_ok _ c.from_residual.result c.in_err-cut.field-0.0 c.from_residual.ensures.1

pub returns-in_err-cut-clause-unwritten : goal.returns-in_err-cut-clause-unwritten
returns-in_err-cut-clause-unwritten g c = λ _. record { same_journal = refl; same_pages = λ tp. refl }

pub returns-in_err-cut-clause-cause : goal.returns-in_err-cut-clause-cause
returns-in_err-cut-clause-cause g c = map_refused c.cut_pages.result c.from_residual.result c.in_err-cut.field-0.0 c.args.journal.now.faults (g.P.Disk.faults c.args.pages.now) (g.S.NodeRead.count c.args.seq.now) (g.S.NodeRead.count c.cut_pages.new.seq) c.from_residual.ensures.1 c.in_err-cut.was c.cut_pages.ensures.cause

-- ---- it was made

pub returns-in-Ok-clause-made : goal.returns-in-Ok-clause-made
returns-in-Ok-clause-made g c = λ t stands. ap made_of (sym c.in-Pages.is ∙ c.in_ok-cut.ensures.tree t stands)

pub returns-in-Ok-clause-moved : goal.returns-in-Ok-clause-moved
returns-in-Ok-clause-moved g c = λ _. record {
  cleared = c.in-Ok.ensures.cleared;
  pages = λ tp t stands. c.in-Ok.ensures.pages tp t (record { valid = stands.valid; is = sym (c.in_ok-cut.ensures.tree t stands) ∙ c.in-Pages.is });
}

pub returns-in-Ok-clause-phases : goal.returns-in-Ok-clause-phases
returns-in-Ok-clause-phases g c tj tp t stands settled =
    let is : IsCutOf t c.args.number c.in-Pages.all = record { valid = stands.valid; is = sym (c.in_ok-cut.ensures.tree t stands) ∙ c.in-Pages.is } in
    pairs_weaker (OpenAs (stored t c.args.number)) (StandAs t c.args.number) (λ journal pages opens. record { is_valid_tree = stands.valid; opens = opens })
    (pair_of c.args.journal.now.history (g.P.Disk.history c.args.pages.now)) (pair_of c.write_cut.new.journal.history (g.P.Disk.history c.write_cut.new.pages))
    (c.write_cut.ensures.phases tj tp t is settled.stand.opens)

pub returns-in-Ok-clause-settled : goal.returns-in-Ok-clause-settled
returns-in-Ok-clause-settled g c tj tp t stands settled =
    let is : IsCutOf t c.args.number c.in-Pages.all = record { valid = stands.valid; is = sym (c.in_ok-cut.ensures.tree t stands) ∙ c.in-Pages.is } in
    record {
      stand = record {
        is_valid_tree = stands.valid;
        opens = cleared_opens t c.args.number c.write_cut.new.journal.history.now.reads (g.P.Disk.history c.write_cut.new.pages).now.reads stands.valid (c.in-Ok.ensures.cleared.none tj) (c.in-Ok.ensures.pages tp t is);
      };
      journal_synced = c.in-Ok.ensures.cleared.synced tj;
      pages_synced = c.in-Ok.ensures.synced tp;
    }

pub returns-in-Ok-clause-unwritten : goal.returns-in-Ok-clause-unwritten
returns-in-Ok-clause-unwritten g c = λ never. absurd never

pub returns-in-Ok-clause-cause : goal.returns-in-Ok-clause-cause
returns-in-Ok-clause-cause g c = none_rose Yes c.args.journal.now.faults c.write_cut.new.journal.faults (g.P.Disk.faults c.args.pages.now) (g.P.Disk.faults c.write_cut.new.pages) (g.S.NodeRead.count c.args.seq.now) (g.S.NodeRead.count c.cut_pages.new.seq) c.in-Ok.ensures.cause.exact.0 c.in-Ok.ensures.cause.exact.1 c.in_ok-cut.ensures.cause.exact

-- ---- a disk failed, or memory was wanting

pub returns-in-Err-clause-made : goal.returns-in-Err-clause-made
returns-in-Err-clause-made g c = tt

pub returns-in-Err-clause-moved : goal.returns-in-Err-clause-moved
returns-in-Err-clause-moved g c = λ e. cc

pub returns-in-Err-clause-phases : goal.returns-in-Err-clause-phases
returns-in-Err-clause-phases g c tj tp t stands settled =
    let is : IsCutOf t c.args.number c.in-Pages.all = record { valid = stands.valid; is = sym (c.in_ok-cut.ensures.tree t stands) ∙ c.in-Pages.is } in
    pairs_weaker (OpenAs (stored t c.args.number)) (StandAs t c.args.number) (λ journal pages opens. record { is_valid_tree = stands.valid; opens = opens })
    (pair_of c.args.journal.now.history (g.P.Disk.history c.args.pages.now)) (pair_of c.write_cut.new.journal.history (g.P.Disk.history c.write_cut.new.pages))
    (c.write_cut.ensures.phases tj tp t is settled.stand.opens)

pub returns-in-Err-clause-settled : goal.returns-in-Err-clause-settled
returns-in-Err-clause-settled g c = tt

pub returns-in-Err-clause-unwritten : goal.returns-in-Err-clause-unwritten
returns-in-Err-clause-unwritten g c = unwritten_err c.in-Err.fault _ (λ same. c.write_cut.ensures.unwritten (c.in-Err.is ∙ (λ i. Err (same i))))

pub returns-in-Err-clause-cause : goal.returns-in-Err-clause-cause
returns-in-Err-clause-cause g c = disks_refused c.write_cut.result c.in-Err.fault c.args.journal.now.faults c.write_cut.new.journal.faults (g.P.Disk.faults c.args.pages.now) (g.P.Disk.faults c.write_cut.new.pages) (g.S.NodeRead.count c.args.seq.now) (g.S.NodeRead.count c.cut_pages.new.seq) c.in-Err.is c.in_ok-cut.ensures.cause.exact c.write_cut.ensures.cause

-- ---- there are too many pages

pub returns-in-TooMany-clause-made : goal.returns-in-TooMany-clause-made
returns-in-TooMany-clause-made g c = λ t stands. ap made_of (sym c.in-TooMany.is ∙ c.in_ok-cut.ensures.tree t stands)

pub returns-in-TooMany-clause-moved : goal.returns-in-TooMany-clause-moved
returns-in-TooMany-clause-moved g c = λ e. cc

pub returns-in-TooMany-clause-phases : goal.returns-in-TooMany-clause-phases
returns-in-TooMany-clause-phases g c tj tp t stands settled = none (StandAs t c.args.number) (pair_of c.args.journal.now.history (g.P.Disk.history c.args.pages.now))

pub returns-in-TooMany-clause-settled : goal.returns-in-TooMany-clause-settled
returns-in-TooMany-clause-settled g c = λ tj tp t stands settled. settled

pub returns-in-TooMany-clause-unwritten : goal.returns-in-TooMany-clause-unwritten
returns-in-TooMany-clause-unwritten g c = λ _. record { same_journal = refl; same_pages = λ tp. refl }

pub returns-in-TooMany-clause-cause : goal.returns-in-TooMany-clause-cause
returns-in-TooMany-clause-cause g c = none_rose (No c.in-TooMany.count) c.args.journal.now.faults c.args.journal.now.faults (g.P.Disk.faults c.args.pages.now) (g.P.Disk.faults c.args.pages.now) (g.S.NodeRead.count c.args.seq.now) (g.S.NodeRead.count c.cut_pages.new.seq) refl refl c.in_ok-cut.ensures.cause.exact
