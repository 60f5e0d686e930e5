use Rattle.std.proofs.Common.{option_map, ◌∙◌}
use Rattle.tree_model.specs.Fragments.{plain_or_none}
use Rattle.dom_writes.proofs.MadeDocuments.{create_changes}
use Rattle.dom_writes.proofs.documents.create.Goals as goal

pub returns-clause-changes : goal.returns-clause-changes
returns-clause-changes g c = λ t stands.
    c.in_ok-put_document.ensures.changes
    ∙ create_changes c.args.name.now (plain_or_none (option_map (λ f. f.now) c.args.fragment)) t c.in_ok-place.place stands.valid c.requires.may_bring.fragment c.in_ok-place.ensures.suits (c.in_ok-place.ensures.place t stands)
