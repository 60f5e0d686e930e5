use Rattle.std.proofs.Common.{◌≡◌, Some, sym, ap, ◌∙◌}
use Rattle.tree_model.specs.Tree.{Tree, at, record_of}
use Rattle.tree_model.specs.declared.record.Record.TheVariants.{Element, Text}
use Rattle.tree_model.specs.Changes.{differences}
use Rattle.tree_model.specs.Texts.{set_text}
use Rattle.tree_model.specs.Tree.{below, entries_of, map_of}
use Rattle.tree_model.specs.declared.reply.Reply.{Reply}
use Rattle.node_seq.specs.Trees.{StandsFor}
use Rattle.dom_reads.proofs.ReplyLaws.{later}
use Rattle.dom_writes.proofs.OnTrees.{on_any, on_later}
use Rattle.dom_writes.proofs.TextsSet.{document_changes, element_changes, element_reply, level_found, missing_changes, no_attribute_found, text_changes_found, text_reply}
use Rattle.dom_writes.specs.inside.TextsSet.{reply_of, text_changes, text_refused}
use Rattle.dom_writes.proofs.ReadLaws.{set_text_all, set_text_one}
use Rattle.dom_writes.proofs.content.set_text.Goals as goal

pub returns-in-None-clause-changes : goal.returns-in-None-clause-changes
returns-in-None-clause-changes g c t stands =
    c.requires.empty ∙ missing_changes c.args.at.now c.args.data.now t stands.valid (sym c.in-None.is ∙ c.in_ok-record_at.ensures.found t stands)

pub returns-in-Some-Document-clause-changes : goal.returns-in-Some-Document-clause-changes
returns-in-Some-Document-clause-changes g c t stands =
    let found = ap Some (sym c.in-Some-Document.field-0-is) ∙ sym c.in-Some-Document.is ∙ c.in_ok-record_at.ensures.found t stands in
    c.requires.empty ∙ document_changes c.args.at.now c.args.data.now t stands.valid c.as_str-text.ensures.utf8 found

pub returns-in-Some-Text-clause-reply : goal.returns-in-Some-Text-clause-reply
returns-in-Some-Text-clause-reply g c t stands =
    let l = c.args.at.now in
    let found : Some (Text c.in-Some-Text.old) ≡ record_of (at l t.documents) = ap Some (sym c.in-Some-Text.field-0-is) ∙ sym c.in-Some-Text.is ∙ c.in_ok-record_at.ensures.found t stands in
    c.in_ok-set_data_of_text-in-Some-Text.ensures.reply (level_found l (Text c.in-Some-Text.old) t stands.valid found)
    ∙ sym (text_reply l c.args.data.now t stands.valid c.in-Some-Text.old found)

pub returns-in-Some-Text-clause-changes : goal.returns-in-Some-Text-clause-changes
returns-in-Some-Text-clause-changes g c t stands =
    let l = c.args.at.now in
    let found : Some (Text c.in-Some-Text.old) ≡ record_of (at l t.documents) = ap Some (sym c.in-Some-Text.field-0-is) ∙ sym c.in-Some-Text.is ∙ c.in_ok-record_at.ensures.found t stands in
    c.in_ok-set_data_of_text-in-Some-Text.ensures.changes (level_found l (Text c.in-Some-Text.old) t stands.valid found)
    ∙ text_changes_found l c.args.data.now t stands.valid c.in-Some-Text.old c.as_str-text.ensures.utf8 found

pub returns-in-Some-Element-clause-reply : goal.returns-in-Some-Element-clause-reply
returns-in-Some-Element-clause-reply g c =
    let l = c.args.at.now in
    let d = c.args.data.now in
    let n = c.in-Some-Element.field-0-0 in
    let contents = g.S.NodeRead.contents c.args.seq.now in
    let found : (t : Tree) → StandsFor contents t → Some (Element n) ≡ record_of (at l t.documents) =
    λ t stands. ap Some (sym c.in-Some-Element.field-0-is) ∙ sym c.in-Some-Element.is ∙ c.in_ok-record_at.ensures.found t stands in
    on_any contents (λ t reply. reply ≡ (set_text l d t).0) (λ reply. reply ≡ reply_of (text_refused l d)) c.set_text_of_element.result
    (λ t reply stands h. h ∙ sym (element_reply l d t stands.valid n (found t stands))) c.set_text_of_element.ensures.reply

pub returns-in-Some-Element-clause-changes : goal.returns-in-Some-Element-clause-changes
returns-in-Some-Element-clause-changes g c =
    let law = g.met.S.NodeRead in
    let l = c.args.at.now in
    let d = c.args.data.now in
    let n = c.in-Some-Element.field-0-0 in
    let out = c.set_text_of_element.new.out in
    let contents = g.S.NodeRead.contents c.args.seq.now in
    let found : (t : Tree) → StandsFor contents t → Some (Element n) ≡ record_of (at l t.documents) =
    λ t stands. ap Some (sym c.in-Some-Element.field-0-is) ∙ sym c.in-Some-Element.is ∙ c.in_ok-record_at.ensures.found t stands in
    on_later contents (λ t (reply : Reply). out ≡ differences (map_of t) (map_of (set_text l d t).1)) _
    (λ t (reply : Reply). out ≡ text_changes l d (entries_of (below (at l t.documents)))) c.set_text_of_element.result
    (λ t stands. later _ _ t (law.unchanged_contents _ _ c.in_ok-record_at.ensures.unchanged) stands)
    (λ t reply stands h. h ∙ element_changes l d t stands.valid n c.as_str-text.ensures.utf8 (found t stands)) c.set_text_of_element.ensures.changes

pub returns-clause-reply : goal.returns-clause-reply
returns-clause-reply g c t stands =
    absurd (no_attribute_found c.args.at.now c.in-Some-Attr.field-0-0 t stands.valid (ap Some (sym c.in-Some-Attr.field-0-is) ∙ sym c.in-Some-Attr.is ∙ c.in_ok-record_at.ensures.found t stands))

pub returns-clause-changes : goal.returns-clause-changes
returns-clause-changes g c t stands =
    absurd (no_attribute_found c.args.at.now c.in-Some-Attr.field-0-0 t stands.valid (ap Some (sym c.in-Some-Attr.field-0-is) ∙ sym c.in-Some-Attr.is ∙ c.in_ok-record_at.ensures.found t stands))

pub returns-in_err-record_at-clause-reads : goal.returns-in_err-record_at-clause-reads
returns-in_err-record_at-clause-reads g c t stands =
    set_text_one _ t _ c.args.at.now c.in_err-record_at.ensures.reads

pub returns-in-None-clause-reads : goal.returns-in-None-clause-reads
returns-in-None-clause-reads g c t stands =
    set_text_one _ t _ c.args.at.now c.in_ok-record_at.ensures.reads

pub returns-in-Some-Document-clause-reads : goal.returns-in-Some-Document-clause-reads
returns-in-Some-Document-clause-reads g c t stands =
    set_text_one _ t _ c.args.at.now c.in_ok-record_at.ensures.reads

pub returns-in_err-set_data_of_text-in-Some-Text-clause-reads : goal.returns-in_err-set_data_of_text-in-Some-Text-clause-reads
returns-in_err-set_data_of_text-in-Some-Text-clause-reads g c t stands =
    set_text_one _ t _ c.args.at.now c.in_ok-record_at.ensures.reads

pub returns-in-Some-Text-clause-reads : goal.returns-in-Some-Text-clause-reads
returns-in-Some-Text-clause-reads g c t stands =
    set_text_one _ t _ c.args.at.now c.in_ok-record_at.ensures.reads

pub returns-in-Some-Element-clause-reads : goal.returns-in-Some-Element-clause-reads
returns-in-Some-Element-clause-reads g c t stands =
    let l = c.args.at.now in
    let n = c.in-Some-Element.field-0-0 in
    let found : Some (Element n) ≡ record_of (at l t.documents) = ap Some (sym c.in-Some-Element.field-0-is) ∙ sym c.in-Some-Element.is ∙ c.in_ok-record_at.ensures.found t stands in
    set_text_all _ t _ _ l n found c.in_ok-record_at.ensures.reads (c.set_text_of_element.ensures.reads t (later _ _ t (g.met.S.NodeRead.unchanged_contents _ _ c.in_ok-record_at.ensures.unchanged) stands))

pub returns-clause-reads : goal.returns-clause-reads
returns-clause-reads g c t stands =
    set_text_one _ t _ c.args.at.now c.in_ok-record_at.ensures.reads
