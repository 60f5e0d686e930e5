use Rattle.std.proofs.Common.{◌∙◌, ℕ, subst}
use Rattle.outside_traits.specs.DiskPairs.{pair_of}
use Rattle.tx_core.specs.Cores.{state_from}
use Rattle.checkpoint.specs.Bases.{contents_of, count_of}
use Rattle.checkpoint.specs.Checkpoints.{IsCleared}
use Rattle.checkpoint.specs.Renewals.{committed_in, pages_of}
use Rattle.checkpoint.proofs.RenewLaws.{committed_valid, copied_over, held_here, number_of_state, phases_here, same_pages, settled_here, stand_unwritten}
use Rattle.checkpoint.proofs.renew_call.renew.Goals as goal

-- ---- it was made

pub returns-in-Ok-move_tree-clause-moved : goal.returns-in-Ok-move_tree-clause-moved
returns-in-Ok-move_tree-clause-moved g c = λ _.
    let v = c.args.core.now in
    let w = c.cut_committed.new.core in
    let x = c.take_pages-pages.new.core in
    record {
      cleared = subst (λ (n : ℕ). IsCleared g.J.Disk.is_known n c.move_tree.new.journal) c.number-number.ensures c.in-Ok-move_tree.ensures.cleared;
      pages = λ known t opened. held_here v x g.C.TreeCall.meaning (contents_of g.P.Disk.is_known g.P.Disk.history)
          (copied_over v w x c.in-Ok.found.0 (count_of g.P.Disk.faults w.base) c.cut_committed.ensures.same c.take_pages-pages.ensures.state) c.number-number.result t opened
          (c.number-number.ensures ∙ number_of_state g.C.TreeCall.is_valid g.C.TreeCall.meaning g.met.C.TreeCall.laws v t (c.is_legal.ensures.book t opened))
          (pages_of g.P.Disk.history c.move_tree.new.core.base).now.reads (c.in-Ok-move_tree.ensures.pages known);
    }

pub returns-in-Ok-move_tree-clause-files : goal.returns-in-Ok-move_tree-clause-files
returns-in-Ok-move_tree-clause-files g c = λ tj tp t opened.
    let v = c.args.core.now in
    let w = c.cut_committed.new.core in
    let x = c.take_pages-pages.new.core in
    record {
      phases = phases_here v x g.C.TreeCall.meaning (contents_of g.P.Disk.is_known g.P.Disk.history)
          (copied_over v w x c.in-Ok.found.0 (count_of g.P.Disk.faults w.base) c.cut_committed.ensures.same c.take_pages-pages.ensures.state) c.number-number.result t opened
          (c.number-number.ensures ∙ number_of_state g.C.TreeCall.is_valid g.C.TreeCall.meaning g.met.C.TreeCall.laws v t (c.is_legal.ensures.book t opened))
          c.args.journal.now.history (pages_of g.P.Disk.history v.base) (g.P.Disk.history c.take_pages-pages.result.0) (pair_of c.move_tree.new.journal.history (pages_of g.P.Disk.history c.move_tree.new.core.base))
          (c.take_pages-pages.ensures.history ∙ same_pages g.P.Disk.is_known g.P.Disk.history g.P.Disk.faults v.base w.base c.cut_committed.ensures.unchanged tp)
          (c.in-Ok-move_tree.ensures.phases tj tp);
      settled = λ settled. settled_here v x g.C.TreeCall.meaning (contents_of g.P.Disk.is_known g.P.Disk.history)
          (copied_over v w x c.in-Ok.found.0 (count_of g.P.Disk.faults w.base) c.cut_committed.ensures.same c.take_pages-pages.ensures.state) c.number-number.result t opened
          (c.number-number.ensures ∙ number_of_state g.C.TreeCall.is_valid g.C.TreeCall.meaning g.met.C.TreeCall.laws v t (c.is_legal.ensures.book t opened))
          g.J.Disk.is_known c.move_tree.new.journal (pages_of g.P.Disk.history c.move_tree.new.core.base) tj
          (committed_valid g.C.TreeCall.is_valid g.C.TreeCall.meaning g.met.C.TreeCall.laws v t (c.is_legal.ensures.book t opened))
          c.in-Ok-move_tree.ensures.cleared (c.in-Ok-move_tree.ensures.synced tp) (c.in-Ok-move_tree.ensures.pages tp);
    }

-- ---- a disk failed, or memory was wanting

pub returns-in-Err-move_tree-clause-moved : goal.returns-in-Err-move_tree-clause-moved
returns-in-Err-move_tree-clause-moved g c = λ e. cc

pub returns-in-Err-move_tree-clause-files : goal.returns-in-Err-move_tree-clause-files
returns-in-Err-move_tree-clause-files g c = λ tj tp t opened.
    let v = c.args.core.now in
    let w = c.cut_committed.new.core in
    let x = c.take_pages-pages.new.core in
    record {
      phases = phases_here v x g.C.TreeCall.meaning (contents_of g.P.Disk.is_known g.P.Disk.history)
          (copied_over v w x c.in-Ok.found.0 (count_of g.P.Disk.faults w.base) c.cut_committed.ensures.same c.take_pages-pages.ensures.state) c.number-number.result t opened
          (c.number-number.ensures ∙ number_of_state g.C.TreeCall.is_valid g.C.TreeCall.meaning g.met.C.TreeCall.laws v t (c.is_legal.ensures.book t opened))
          c.args.journal.now.history (pages_of g.P.Disk.history v.base) (g.P.Disk.history c.take_pages-pages.result.0) _
          (c.take_pages-pages.ensures.history ∙ same_pages g.P.Disk.is_known g.P.Disk.history g.P.Disk.faults v.base w.base c.cut_committed.ensures.unchanged tp)
          (c.in-Err-move_tree.ensures.phases tj tp);
      settled = tt;
    }

-- ---- the copy or its cut couldn't be made

pub returns-in-Err-clause-moved : goal.returns-in-Err-clause-moved
returns-in-Err-clause-moved g c = λ e. cc

pub returns-in-Err-clause-files : goal.returns-in-Err-clause-files
returns-in-Err-clause-files g c = λ tj tp t opened.
    let v = c.args.core.now in
    let w = c.cut_committed.new.core in
    stand_unwritten (committed_in (state_from g.C.TreeCall.meaning t v)) _ c.args.journal.now.history (pages_of g.P.Disk.history v.base) (pages_of g.P.Disk.history w.base)
    (same_pages g.P.Disk.is_known g.P.Disk.history g.P.Disk.faults v.base w.base c.cut_committed.ensures.unchanged tp)

-- ---- there are too many pages

pub returns-in-TooMany-clause-moved : goal.returns-in-TooMany-clause-moved
returns-in-TooMany-clause-moved g c = λ e. cc

pub returns-in-TooMany-clause-files : goal.returns-in-TooMany-clause-files
returns-in-TooMany-clause-files g c = λ tj tp t opened.
    let v = c.args.core.now in
    let w = c.cut_committed.new.core in
    stand_unwritten (committed_in (state_from g.C.TreeCall.meaning t v)) _ c.args.journal.now.history (pages_of g.P.Disk.history v.base) (pages_of g.P.Disk.history w.base)
    (same_pages g.P.Disk.is_known g.P.Disk.history g.P.Disk.faults v.base w.base c.cut_committed.ensures.unchanged tp)
