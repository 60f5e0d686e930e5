use Rattle.std.proofs.Common.{Option, refl, ap}
use Rattle.std.specs.Prelude.{is_some}
use Rattle.outside_traits.specs.DiskPairs.{pair_of}
use Rattle.outside_traits.proofs.PairLaws.{none}
use Rattle.journal.specs.declared.group.Images.{Images}
use Rattle.node_records.specs.declared.open_error.File.TheVariants.{Pages}
use Rattle.store_contents.specs.Contents.{place_in}
use Rattle.store_contents.specs.StoredTrees.{StoodFor}
use Rattle.recovery.proofs.AgainLaws.{on_err, refused_alone}
use Rattle.recovery.proofs.AnswerLaws.{unless_of}
use Rattle.recovery.proofs.PagedSteps.{reason_at}
use Rattle.recovery.proofs.finishing.put_groups.Goals as goal

pub put_in-requires : goal.put_in-requires
put_in-requires g c = record {
  usable = c.requires.usable;
  holds = λ tj. record { groups = c.args.groups; reads = c.requires.reads tj; has = c.in-Some.is };
  synced = c.requires.synced;
}

pub returns-in-Some-clause-without : goal.returns-in-Some-clause-without
returns-in-Some-clause-without g c = on_err _ c.put_in.result
    (λ tj none. absurd (none (record { groups = c.args.groups; reads = c.requires.reads tj; has = ap (λ (o : Option Images). is_some o) c.in-Some.is })))

pub returns-clause-any_moment : goal.returns-clause-any_moment
returns-clause-any_moment g c tj tp =
    let pair = pair_of c.args.journal.now.history (g.P.Disk.history c.args.pages.now) in
    none (StoodFor pair) pair

pub returns-clause-reason : goal.returns-clause-reason
returns-clause-reason g c = reason_at _ _ c.at.result (place_in Pages 0) c.at.ensures (λ tj tp. record {
  broken = refused_alone c.args.journal.now.history.now.reads (g.P.Disk.history c.args.pages.now).now.reads c.args.groups (place_in Pages 0) (c.requires.reads tj) c.in-None.is (c.requires.refused tj tp);
  same = refl;
})

pub returns-clause-uncounted : goal.returns-clause-uncounted
returns-clause-uncounted g c = unless_of _ c.at.result (refl, refl)
