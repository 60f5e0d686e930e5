use Rattle.std.proofs.Common.{ap, ◌∙◌, ◌≡◌, ◌+◌, length, arith}
use Rattle.std.proofs.lemmas.List.{length-map}
use Rattle.tree_model.specs.Places.{attributes_at}
use Rattle.tree_model.specs.Tree.{root_attribute}
use Rattle.tree_model.specs.declared.reply.Reply.TheVariants as reply
use Rattle.dom_reads.specs.inside.Catalogues.{catalogue_of}
use Rattle.dom_reads.proofs.ReplyLaws.{catalogue_is}
use Rattle.dom_reads.proofs.documents.docs.Goals as goal

pub returns-clause-reply : goal.returns-clause-reply
returns-clause-reply g c = λ t stands.
    let entries = c.in_ok-entries.ensures.found t stands ∙ ap (λ l. attributes_at l t) c.in_ok-root.ensures in
    ap reply.Names (c.in_ok-catalogue.ensures ∙ ap catalogue_of entries ∙ catalogue_is t stands.valid)

pub returns-in_err-entries-clause-reads : goal.returns-in_err-entries-clause-reads
returns-in_err-entries-clause-reads g c t stands =
    let met : length (attributes_at c.in_ok-root.root t) ≡ length t.catalogue = ap (λ l. length (attributes_at l t)) c.in_ok-root.ensures ∙ length-map t.catalogue root_attribute in
    let read = c.in_err-entries.ensures.reads_of_tree t stands in
    omega (arith, met, read)

pub returns-in_err-catalogue-clause-reads : goal.returns-in_err-catalogue-clause-reads
returns-in_err-catalogue-clause-reads g c t stands =
    let met : length (attributes_at c.in_ok-root.root t) ≡ length t.catalogue = ap (λ l. length (attributes_at l t)) c.in_ok-root.ensures ∙ length-map t.catalogue root_attribute in
    let read = c.in_ok-entries.ensures.reads_of_tree t stands in
    omega (arith, met, read)

pub returns-clause-reads : goal.returns-clause-reads
returns-clause-reads g c t stands =
    let met : length (attributes_at c.in_ok-root.root t) ≡ length t.catalogue = ap (λ l. length (attributes_at l t)) c.in_ok-root.ensures ∙ length-map t.catalogue root_attribute in
    let read = c.in_ok-entries.ensures.reads_of_tree t stands in
    omega (arith, met, read)
