use Rattle.std.proofs.Common.{Some, sym, ap, ◌∙◌}
use Rattle.tree_model.specs.declared.key.Key.{Key}
use Rattle.tree_model.specs.declared.record.Record.{Record}
use Rattle.tree_model.specs.declared.reply.Reply.TheVariants as reply
use Rattle.tree_model.specs.Entries.{get}
use Rattle.tree_model.specs.StoredTree.{is_element_record}
use Rattle.tree_model.specs.Tree.{map_of}
use Rattle.tree_model.specs.Texts.{content}
use Rattle.dom_reads.specs.inside.Gathered.{texts_in}
use Rattle.dom_reads.proofs.GatheredLaws.{see_missing, text_content_found, text_met}
use Rattle.dom_reads.proofs.SubtreeEntries.{met_below, missing}
use Rattle.dom_reads.proofs.WalkReads.{reads_begun, reads_of_element, reads_of_subtree, reads_of_text}
use Rattle.dom_reads.proofs.subtrees.text_content.Goals as goal

pub returns-in_default-clause-reply : goal.returns-in_default-clause-reply
returns-in_default-clause-reply g c t stands =
    c.not_found.ensures ∙ see_missing content c.args.at.now t stands.valid
    (missing c.in_ok-record.field-0 c.in_default.not-Some ∙ c.in_ok-record.ensures.value (map_of t) stands.map ∙ ap (λ (j : Key). get j (map_of t)) c.in_ok-key.ensures)

pub returns-in-Element-clause-reply : goal.returns-in-Element-clause-reply
returns-in-Element-clause-reply g c t stands =
    let law = g.met.S.NodeRead in
    let at = c.args.at.now in
    let es = map_of t in
    let r : Record = c.in-Some.record in
    let read = law.unchanged_contents _ _ c.in_ok-record.ensures.unchanged ∙ stands.map in
    let walked = law.unchanged_contents _ _ c.in_ok-walk-in-Element.ensures.unchanged ∙ read in
    ap reply.Chars (c.in_ok-join_texts-in-Element.ensures.texts es walked ∙ ap texts_in (c.in_ok-walk-in-Element.ensures.rest es read))
    ∙ ap (λ v. text_met v (met_below at t)) (sym c.in-Element.is)
    ∙ text_content_found at r t stands.valid (sym c.in-Some.is ∙ c.in_ok-record.ensures.value es stands.map ∙ ap (λ (j : Key). get j es) c.in_ok-key.ensures)

pub returns-in-Text-clause-reply : goal.returns-in-Text-clause-reply
returns-in-Text-clause-reply g c t stands =
    let at = c.args.at.now in
    let es = map_of t in
    let r : Record = c.in-Some.record in
    ap (λ v. text_met v (met_below at t)) (sym c.in-Text.is)
    ∙ text_content_found at r t stands.valid (sym c.in-Some.is ∙ c.in_ok-record.ensures.value es stands.map ∙ ap (λ (j : Key). get j es) c.in_ok-key.ensures)

pub returns-in-Document-clause-reply : goal.returns-in-Document-clause-reply
returns-in-Document-clause-reply g c t stands =
    let at = c.args.at.now in
    let es = map_of t in
    let r : Record = c.in-Some.record in
    ap (λ v. text_met v (met_below at t)) (sym c.in-Document.is)
    ∙ text_content_found at r t stands.valid (sym c.in-Some.is ∙ c.in_ok-record.ensures.value es stands.map ∙ ap (λ (j : Key). get j es) c.in_ok-key.ensures)

pub returns-clause-reply : goal.returns-clause-reply
returns-clause-reply g c t stands =
    let at = c.args.at.now in
    let es = map_of t in
    let r : Record = c.in-Some.record in
    ap (λ v. text_met v (met_below at t)) (sym c.in-Attr.is)
    ∙ text_content_found at r t stands.valid (sym c.in-Some.is ∙ c.in_ok-record.ensures.value es stands.map ∙ ap (λ (j : Key). get j es) c.in_ok-key.ensures)

pub returns-in_err-record-clause-reads : goal.returns-in_err-record-clause-reads
returns-in_err-record-clause-reads g c t stands = reads_of_text c.args.at.now t _ _ c.in_err-record.ensures.reads

pub returns-in_default-clause-reads : goal.returns-in_default-clause-reads
returns-in_default-clause-reads g c t stands = reads_of_text c.args.at.now t _ _ c.in_ok-record.ensures.reads

pub returns-in-Text-clause-reads : goal.returns-in-Text-clause-reads
returns-in-Text-clause-reads g c t stands = reads_of_text c.args.at.now t _ _ c.in_ok-record.ensures.reads

pub returns-in-Document-clause-reads : goal.returns-in-Document-clause-reads
returns-in-Document-clause-reads g c t stands = reads_of_text c.args.at.now t _ _ c.in_ok-record.ensures.reads

pub returns-clause-reads : goal.returns-clause-reads
returns-clause-reads g c t stands = reads_of_text c.args.at.now t _ _ c.in_ok-record.ensures.reads

pub returns-in_err-walk-in-Element-clause-reads : goal.returns-in_err-walk-in-Element-clause-reads
returns-in_err-walk-in-Element-clause-reads g c t stands =
    let at = c.args.at.now in
    let es = map_of t in
    let there = sym c.in-Some.is ∙ c.in_ok-record.ensures.value es stands.map ∙ ap (λ (j : Key). get j es) c.in_ok-key.ensures in
    reads_of_element at t _ _ c.in-Some.record stands.valid there (ap is_element_record (ap Some c.in-Element.is))
    (reads_begun _ _ _ at c.in-Some.record t stands.valid there c.in_ok-record.ensures.reads c.in_err-walk-in-Element.ensures.reads)

pub returns-in_err-join_texts-in-Element-clause-reads : goal.returns-in_err-join_texts-in-Element-clause-reads
returns-in_err-join_texts-in-Element-clause-reads g c t stands =
    let law = g.met.S.NodeRead in
    let at = c.args.at.now in
    let es = map_of t in
    let read = law.unchanged_contents _ _ c.in_ok-record.ensures.unchanged ∙ stands.map in
    let walked = law.unchanged_contents _ _ c.in_ok-walk-in-Element.ensures.unchanged ∙ read in
    let there = sym c.in-Some.is ∙ c.in_ok-record.ensures.value es stands.map ∙ ap (λ (j : Key). get j es) c.in_ok-key.ensures in
    reads_of_element at t _ _ c.in-Some.record stands.valid there (ap is_element_record (ap Some c.in-Element.is))
    (reads_of_subtree _ _ _ _ at c.in-Some.record _ t stands.valid there
    (c.in_ok-walk-in-Element.ensures.rest es read) c.in_ok-record.ensures.reads c.in_ok-walk-in-Element.ensures.reads (c.in_err-join_texts-in-Element.ensures.reads es walked))

pub returns-in-Element-clause-reads : goal.returns-in-Element-clause-reads
returns-in-Element-clause-reads g c t stands =
    let law = g.met.S.NodeRead in
    let at = c.args.at.now in
    let es = map_of t in
    let read = law.unchanged_contents _ _ c.in_ok-record.ensures.unchanged ∙ stands.map in
    let walked = law.unchanged_contents _ _ c.in_ok-walk-in-Element.ensures.unchanged ∙ read in
    let there = sym c.in-Some.is ∙ c.in_ok-record.ensures.value es stands.map ∙ ap (λ (j : Key). get j es) c.in_ok-key.ensures in
    reads_of_element at t _ _ c.in-Some.record stands.valid there (ap is_element_record (ap Some c.in-Element.is))
    (reads_of_subtree _ _ _ _ at c.in-Some.record _ t stands.valid there
    (c.in_ok-walk-in-Element.ensures.rest es read) c.in_ok-record.ensures.reads c.in_ok-walk-in-Element.ensures.reads (c.in_ok-join_texts-in-Element.ensures.reads es walked))
