use Rattle.std.proofs.Common.{[], inl, refl, sym, subst, add-zero, arith}
use Rattle.outside_traits.proofs.Laws.{gave_none}
use Rattle.call_contract.specs.States.{start}
use Rattle.command_words.specs.Commands.{put}
use Rattle.xtc.specs.TopCall.{IsWhole, tx_limit}
use Rattle.xtc.proofs.DocumentLaws.{nothing_judged}
use Rattle.xtc.proofs.OpeningLaws.{base_stays, core_stands, counts_from, takes_begin}
use Rattle.xtc.specs.declared.status.Status.TheVariants.{NoMemory}
use Rattle.xtc.proofs.document.put_over.Goals as goal

pub put_input-text-requires : goal.put_input-text-requires
put_input-text-requires g c = record { takes = takes_begin g.B.NodeRead.contents c.args.base c.args.number tx_limit c.in-Ok.core c.in-Ok.ensures.ok c.args.journal.now c.requires.next }

pub returns-in-Ok-clause-done : goal.returns-in-Ok-clause-done
returns-in-Ok-clause-done g c =
    let done = c.put_input-text.ensures.done in
    (done.0, done.1, done.2, done.3, λ t is. done.4 (start t c.args.number tx_limit) (core_stands g.B.NodeRead.contents c.args.base c.args.number tx_limit c.in-Ok.core c.in-Ok.ensures.ok t is))

pub returns-in-Ok-clause-base : goal.returns-in-Ok-clause-base
returns-in-Ok-clause-base g c = base_stays g.B.NodeRead.contents c.args.base c.args.number tx_limit c.in-Ok.core c.in-Ok.ensures.ok g.B.SessionBase.stays c.put_input-text.new.core.base c.into_base.result c.into_base.ensures c.put_input-text.ensures.base

pub returns-in-Ok-clause-counts : goal.returns-in-Ok-clause-counts
returns-in-Ok-clause-counts g c = counts_from g.B.NodeRead.contents c.args.base c.args.number tx_limit c.in-Ok.core c.in-Ok.ensures.ok g.B.NodeRead.count c.put_input-text.new.core.base c.into_base.result c.into_base.ensures c.args.journal.now.faults c.put_input-text.new.journal.faults c.put_input-text.ensures.counts

pub returns-in-Err-clause-done : goal.returns-in-Err-clause-done
returns-in-Err-clause-done g c = (
  [],
  gave_none _,
  sym (add-zero _),
  omega arith,
  λ t is. nothing_judged g.J.Disk.is_known (start t c.args.number tx_limit) (put c.args.name.now) [] (IsWhole (g.S.Source.left c.args.source.now) []) c.args.journal.now.history NoMemory tt (omega arith) (inl refl),
)

pub returns-in-Err-clause-base : goal.returns-in-Err-clause-base
returns-in-Err-clause-base g c = subst (g.B.SessionBase.stays c.args.base) (sym c.in-Err.ensures.err) (g.met.B.SessionBase.unchanged_stays _ _ (g.met.B.NodeRead.unchanged_itself c.args.base))
