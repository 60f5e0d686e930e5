use Rattle.std.proofs.Common.{option_map, Option, Bor, sym, ap, ◌∙◌}
use Rattle.tree_model.specs.declared.fragment.Fragment.{Fragment}
use Rattle.tree_model.specs.Documents.{document_at}
use Rattle.tree_model.specs.Fragments.{plain_or_none}
use Rattle.tree_model.specs.Graft.{all_within}
use Rattle.dom_writes.proofs.MadeDocuments.{element_label}
use Rattle.dom_writes.proofs.documents.push_document.Goals as goal

pub child_label-requires : goal.child_label-requires
child_label-requires c =
    let l = c.args.new.now in
    let within = ap (λ (o : Option (Bor Fragment)). all_within (document_at l (plain_or_none (option_map (λ x. x.now) o)))) (sym c.in-Some.is) ∙ c.requires.within in
    record { label = element_label l c.in-Some.fragment.now c.divisions-divisions.ensures.label within }
