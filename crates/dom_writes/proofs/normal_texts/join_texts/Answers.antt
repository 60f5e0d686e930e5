use Rattle.std.proofs.Common.{sym, subst}
use Rattle.tree_model.specs.Changes.{Rising}
use Rattle.tree_model.specs.Entries.{Entries}
use Rattle.tree_model.proofs.Differences.{rising_differences}
use Rattle.dom_writes.specs.inside.NormalTexts.{joined}
use Rattle.dom_writes.proofs.NormalRuns.{sorted_joined}
use Rattle.dom_writes.proofs.normal_texts.join_texts.Goals as goal

pub returns-then-fit-clause-rise : goal.returns-then-fit-clause-rise
returns-then-fit-clause-rise c =
    let es : Entries = c.args.entries.now in
    record {
      rise = subst Rising (sym (c.in_ok-fit.ensures.changes c.if-fit.true)) (rising_differences es (joined es) c.requires.sorted (sorted_joined es c.requires.sorted));
      puts = c.in_ok-fit.ensures.puts c.if-fit.true;
    }
