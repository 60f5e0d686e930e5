use Rattle.std.proofs.Common.{Ok, sym, subst}
use Rattle.tree_model.specs.Fragments.{plain}
use Rattle.node_seq.specs.ChangeLists.{IsChangeList}
use Rattle.dom_writes.specs.inside.NewPlaces.{SuitsOrRefused}
use Rattle.dom_writes.proofs.PlacedCalls.{changes_rise}
use Rattle.dom_writes.proofs.placing.put_fragment.Goals as goal

pub returns-in_ok-out-in-Ok-clause-rise : goal.returns-in_ok-out-in-Ok-clause-rise
returns-in_ok-out-in-Ok-clause-rise c =
    let p = c.args.at.now in
    let f = plain c.args.fragment.now in
    subst IsChangeList (sym c.in_ok-out-in-Ok.ensures)
    (changes_rise p f (Ok c.in-Ok.new) c.divisions-divisions.ensures.label c.requires.fragment (subst (SuitsOrRefused p f) c.in-Ok.is c.requires.suits))
