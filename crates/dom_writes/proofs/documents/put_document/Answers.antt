use Rattle.std.proofs.Common.{map, option_map, Ok, sym, ap, subst, ◌∙◌}
use Rattle.tree_model.specs.Changes.{put_change}
use Rattle.tree_model.specs.Fragments.{plain_or_none}
use Rattle.node_seq.specs.ChangeLists.{IsChangeList}
use Rattle.dom_writes.specs.inside.NewDocuments.{SuitsOrRefused}
use Rattle.dom_writes.proofs.MadeDocuments.{changes_rise}
use Rattle.dom_writes.proofs.documents.put_document.Goals as goal

pub returns-in_ok-out-in-Ok-clause-rise : goal.returns-in_ok-out-in-Ok-clause-rise
returns-in_ok-out-in-Ok-clause-rise c =
    let n = c.args.name.now in
    let f = plain_or_none (option_map (λ x. x.now) c.args.fragment) in
    subst IsChangeList (sym (c.in_ok-out-in-Ok.ensures ∙ ap (map put_change) c.in_ok-entries-in-Ok.ensures))
    (changes_rise n f (Ok c.in-Ok.new) c.requires.fragment (subst (SuitsOrRefused n f) c.in-Ok.is c.requires.suits))
