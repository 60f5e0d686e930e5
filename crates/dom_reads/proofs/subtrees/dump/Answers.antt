use Rattle.std.proofs.Common.{◌∷◌, sym, ap, ◌∙◌}
use Rattle.tree_model.specs.declared.key.Key.{Key}
use Rattle.tree_model.specs.declared.record.Record.{Record}
use Rattle.tree_model.specs.declared.reply.Reply.TheVariants as reply
use Rattle.tree_model.specs.Entries.{Entries, get, entries_above}
use Rattle.tree_model.specs.Keys.{node_key}
use Rattle.tree_model.specs.Tree.{map_of}
use Rattle.tree_model.specs.Subtrees.{dumped}
use Rattle.dom_reads.specs.SubtreeWalks.{as_long, lies_in, still_to_come}
use Rattle.dom_reads.specs.inside.FragmentBuilders.{add, add_all, finished, nothing_made}
use Rattle.dom_reads.proofs.BuiltFragments.{dump_found}
use Rattle.dom_reads.proofs.GatheredLaws.{see_missing}
use Rattle.dom_reads.proofs.SubtreeEntries.{missing}
use Rattle.dom_reads.proofs.WalkReads.{reads_begun, reads_of_subtree}
use Rattle.dom_reads.proofs.subtrees.dump.Goals as goal

pub returns-in_default-clause-reply : goal.returns-in_default-clause-reply
returns-in_default-clause-reply g c t stands =
    c.not_found.ensures ∙ see_missing (λ found. reply.Tree (dumped found)) c.args.at.now t stands.valid
    (missing c.in_ok-record.field-0 c.in_default.not-Some ∙ c.in_ok-record.ensures.value (map_of t) stands.map ∙ ap (λ (j : Key). get j (map_of t)) c.in_ok-key.ensures)

pub returns-clause-reply : goal.returns-clause-reply
returns-clause-reply g c t stands =
    let law = g.met.S.NodeRead in
    let at = c.args.at.now in
    let es = map_of t in
    let r : Record = c.in-Some.record in
    let k : Key = c.in_ok-key.key in
    let read = law.unchanged_contents _ _ c.in_ok-record.ensures.unchanged ∙ stands.map in
    let walked = law.unchanged_contents _ _ c.in_ok-walk.ensures.unchanged ∙ read in
    let made = c.in_ok-add.ensures ∙ ap (add k r) c.new-builder.ensures in
    ap reply.Tree (c.in_ok-finish.ensures ∙ ap finished (c.in_ok-add_rest.ensures.added es walked ∙ ap (add_all (still_to_come c.in_ok-walk.walk es)) made))
    ∙ ap (λ (v : Entries). reply.Tree (finished (add_all ((k, r) ∷ v) nothing_made))) (c.in_ok-walk.ensures.rest es read)
    ∙ ap (λ (j : Key). reply.Tree (finished (add_all ((j, r) ∷ as_long (lies_in at) (entries_above (node_key at) es)) nothing_made))) c.in_ok-key.ensures
    ∙ dump_found at r t stands.valid (sym c.in-Some.is ∙ c.in_ok-record.ensures.value es stands.map ∙ ap (λ (j : Key). get j es) c.in_ok-key.ensures)

pub returns-in_err-walk-clause-reads : goal.returns-in_err-walk-clause-reads
returns-in_err-walk-clause-reads g c t stands =
    let at = c.args.at.now in
    let es = map_of t in
    reads_begun _ _ _ at c.in-Some.record t stands.valid (sym c.in-Some.is ∙ c.in_ok-record.ensures.value es stands.map ∙ ap (λ (j : Key). get j es) c.in_ok-key.ensures)
    c.in_ok-record.ensures.reads c.in_err-walk.ensures.reads

pub returns-in_err-add_rest-clause-reads : goal.returns-in_err-add_rest-clause-reads
returns-in_err-add_rest-clause-reads g c t stands =
    let law = g.met.S.NodeRead in
    let at = c.args.at.now in
    let es = map_of t in
    let read = law.unchanged_contents _ _ c.in_ok-record.ensures.unchanged ∙ stands.map in
    let walked = law.unchanged_contents _ _ c.in_ok-walk.ensures.unchanged ∙ read in
    reads_of_subtree _ _ _ _ at c.in-Some.record _ t stands.valid (sym c.in-Some.is ∙ c.in_ok-record.ensures.value es stands.map ∙ ap (λ (j : Key). get j es) c.in_ok-key.ensures)
    (c.in_ok-walk.ensures.rest es read) c.in_ok-record.ensures.reads c.in_ok-walk.ensures.reads (c.in_err-add_rest.ensures.reads es walked)

pub returns-in_err-finish-clause-reads : goal.returns-in_err-finish-clause-reads
returns-in_err-finish-clause-reads g c t stands =
    let law = g.met.S.NodeRead in
    let at = c.args.at.now in
    let es = map_of t in
    let read = law.unchanged_contents _ _ c.in_ok-record.ensures.unchanged ∙ stands.map in
    let walked = law.unchanged_contents _ _ c.in_ok-walk.ensures.unchanged ∙ read in
    reads_of_subtree _ _ _ _ at c.in-Some.record _ t stands.valid (sym c.in-Some.is ∙ c.in_ok-record.ensures.value es stands.map ∙ ap (λ (j : Key). get j es) c.in_ok-key.ensures)
    (c.in_ok-walk.ensures.rest es read) c.in_ok-record.ensures.reads c.in_ok-walk.ensures.reads (c.in_ok-add_rest.ensures.reads es walked)

pub returns-clause-reads : goal.returns-clause-reads
returns-clause-reads g c t stands =
    let law = g.met.S.NodeRead in
    let at = c.args.at.now in
    let es = map_of t in
    let read = law.unchanged_contents _ _ c.in_ok-record.ensures.unchanged ∙ stands.map in
    let walked = law.unchanged_contents _ _ c.in_ok-walk.ensures.unchanged ∙ read in
    reads_of_subtree _ _ _ _ at c.in-Some.record _ t stands.valid (sym c.in-Some.is ∙ c.in_ok-record.ensures.value es stands.map ∙ ap (λ (j : Key). get j es) c.in_ok-key.ensures)
    (c.in_ok-walk.ensures.rest es read) c.in_ok-record.ensures.reads c.in_ok-walk.ensures.reads (c.in_ok-add_rest.ensures.reads es walked)
