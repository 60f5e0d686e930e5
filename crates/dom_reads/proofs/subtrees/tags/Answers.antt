use Rattle.std.proofs.Common.{sym, ap, ◌∙◌}
use Rattle.tree_model.specs.declared.key.Key.{Key}
use Rattle.tree_model.specs.declared.record.Record.{Record}
use Rattle.tree_model.specs.declared.reply.Reply.TheVariants as reply
use Rattle.tree_model.specs.Entries.{get}
use Rattle.tree_model.specs.Tree.{below, map_of}
use Rattle.tree_model.specs.Navigation.{tagged}
use Rattle.dom_reads.specs.inside.Gathered.{labels_in}
use Rattle.dom_reads.proofs.GatheredLaws.{see_missing, tags_found}
use Rattle.dom_reads.proofs.SubtreeEntries.{missing}
use Rattle.dom_reads.proofs.WalkReads.{reads_begun, reads_of_subtree}
use Rattle.dom_reads.proofs.subtrees.tags.Goals as goal

pub returns-in_default-clause-reply : goal.returns-in_default-clause-reply
returns-in_default-clause-reply g c t stands =
    c.not_found.ensures ∙ see_missing (λ found. reply.Places (tagged c.args.name.now (below found))) c.args.at.now t stands.valid
    (missing c.in_ok-_record.field-0 c.in_default.not-Some ∙ c.in_ok-_record.ensures.value (map_of t) stands.map ∙ ap (λ (j : Key). get j (map_of t)) c.in_ok-key.ensures)

pub returns-clause-reply : goal.returns-clause-reply
returns-clause-reply g c t stands =
    let law = g.met.S.NodeRead in
    let at = c.args.at.now in
    let n = c.args.name.now in
    let es = map_of t in
    let r : Record = c.in-Some._record in
    let read = law.unchanged_contents _ _ c.in_ok-_record.ensures.unchanged ∙ stands.map in
    let walked = law.unchanged_contents _ _ c.in_ok-walk.ensures.unchanged ∙ read in
    ap reply.Places (c.in_ok-tagged.ensures.labels es walked ∙ ap (labels_in n) (c.in_ok-walk.ensures.rest es read))
    ∙ tags_found at n r t stands.valid (sym c.in-Some.is ∙ c.in_ok-_record.ensures.value es stands.map ∙ ap (λ (j : Key). get j es) c.in_ok-key.ensures)

pub returns-in_err-walk-clause-reads : goal.returns-in_err-walk-clause-reads
returns-in_err-walk-clause-reads g c t stands =
    let at = c.args.at.now in
    let es = map_of t in
    reads_begun _ _ _ at c.in-Some._record t stands.valid (sym c.in-Some.is ∙ c.in_ok-_record.ensures.value es stands.map ∙ ap (λ (j : Key). get j es) c.in_ok-key.ensures)
    c.in_ok-_record.ensures.reads c.in_err-walk.ensures.reads

pub returns-in_err-tagged-clause-reads : goal.returns-in_err-tagged-clause-reads
returns-in_err-tagged-clause-reads g c t stands =
    let law = g.met.S.NodeRead in
    let at = c.args.at.now in
    let es = map_of t in
    let read = law.unchanged_contents _ _ c.in_ok-_record.ensures.unchanged ∙ stands.map in
    let walked = law.unchanged_contents _ _ c.in_ok-walk.ensures.unchanged ∙ read in
    reads_of_subtree _ _ _ _ at c.in-Some._record _ t stands.valid (sym c.in-Some.is ∙ c.in_ok-_record.ensures.value es stands.map ∙ ap (λ (j : Key). get j es) c.in_ok-key.ensures)
    (c.in_ok-walk.ensures.rest es read) c.in_ok-_record.ensures.reads c.in_ok-walk.ensures.reads (c.in_err-tagged.ensures.reads es walked)

pub returns-clause-reads : goal.returns-clause-reads
returns-clause-reads g c t stands =
    let law = g.met.S.NodeRead in
    let at = c.args.at.now in
    let es = map_of t in
    let read = law.unchanged_contents _ _ c.in_ok-_record.ensures.unchanged ∙ stands.map in
    let walked = law.unchanged_contents _ _ c.in_ok-walk.ensures.unchanged ∙ read in
    reads_of_subtree _ _ _ _ at c.in-Some._record _ t stands.valid (sym c.in-Some.is ∙ c.in_ok-_record.ensures.value es stands.map ∙ ap (λ (j : Key). get j es) c.in_ok-key.ensures)
    (c.in_ok-walk.ensures.rest es read) c.in_ok-_record.ensures.reads c.in_ok-walk.ensures.reads (c.in_ok-tagged.ensures.reads es walked)
