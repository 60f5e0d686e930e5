use Rattle.std.proofs.Common.{◌++◌, [], ◌∷◌, sym, ap, ◌∙◌, ◌≡◌, length}
use Rattle.tree_model.specs.declared.key.Key.{Key}
use Rattle.tree_model.specs.declared.record.Record.{Record}
use Rattle.tree_model.specs.Entries.{Entries, get, entries_above}
use Rattle.tree_model.specs.Keys.{node_key}
use Rattle.tree_model.specs.Tree.{map_of}
use Rattle.dom_reads.specs.SubtreeWalks.{as_long, lies_in, still_to_come}
use Rattle.dom_reads.proofs.SubtreeEntries.{missing, subtree_found, subtree_missing}
use Rattle.dom_reads.proofs.WalkReads.{reads_begun, reads_of_list, reads_of_subtree}
use Rattle.dom_reads.proofs.subtree_walk.subtree.Goals as goal

pub returns-in_default-clause-entries : goal.returns-in_default-clause-entries
returns-in_default-clause-entries g c t stands =
    c.new-entries.ensures
    ∙ subtree_missing c.args.at.now t stands.valid
    (missing c.in_ok-record.field-0 c.in_default.not-Some ∙ c.in_ok-record.ensures.value (map_of t) stands.map ∙ ap (λ k. get k (map_of t)) c.in_ok-key.ensures)

pub returns-clause-entries : goal.returns-clause-entries
returns-clause-entries g c t stands =
    let law = g.met.S.NodeRead in
    let at = c.args.at.now in
    let es = map_of t in
    let r : Record = c.in-Some.record in
    let k : Key = c.in_ok-key.key in
    let read = law.unchanged_contents _ _ c.in_ok-record.ensures.unchanged ∙ stands.map in
    let walked = law.unchanged_contents _ _ c.in_ok-walk.ensures.unchanged ∙ read in
    c.in_ok-gather.ensures.gathered es walked
    ∙ ap (λ (v : Entries). v ++ still_to_come c.in_ok-walk.walk es) (c.in_ok-push.ensures.ok ∙ ap (λ (v : Entries). v ++ ((k, r) ∷ [])) c.new-entries.ensures)
    ∙ ap (λ (v : Entries). (k, r) ∷ v) (c.in_ok-walk.ensures.rest es read)
    ∙ ap (λ (j : Key). (j, r) ∷ as_long (lies_in at) (entries_above (node_key at) es)) c.in_ok-key.ensures
    ∙ subtree_found at r t stands.valid (sym c.in-Some.is ∙ c.in_ok-record.ensures.value es stands.map ∙ ap (λ j. get j es) c.in_ok-key.ensures)

pub returns-clause-reads : goal.returns-clause-reads
returns-clause-reads g c =
    let one : length c.push.new.self ≡ 1 = ap length (c.in_ok-push.ensures.ok ∙ ap (λ (v : Entries). v ++ ((c.in_ok-key.key, c.in-Some.record) ∷ [])) c.new-entries.ensures) in
    reads_of_list _ _ _ _ c.push.new.self _ one c.in_ok-record.ensures.reads c.in_ok-walk.ensures.reads c.in_ok-gather.ensures.reads

pub returns-in_err-walk-clause-reads_of_tree : goal.returns-in_err-walk-clause-reads_of_tree
returns-in_err-walk-clause-reads_of_tree g c t stands =
    let at = c.args.at.now in
    let es = map_of t in
    reads_begun _ _ _ at c.in-Some.record t stands.valid (sym c.in-Some.is ∙ c.in_ok-record.ensures.value es stands.map ∙ ap (λ j. get j es) c.in_ok-key.ensures)
    c.in_ok-record.ensures.reads c.in_err-walk.ensures.reads

pub returns-in_err-gather-clause-reads_of_tree : goal.returns-in_err-gather-clause-reads_of_tree
returns-in_err-gather-clause-reads_of_tree g c t stands =
    let law = g.met.S.NodeRead in
    let at = c.args.at.now in
    let es = map_of t in
    let read = law.unchanged_contents _ _ c.in_ok-record.ensures.unchanged ∙ stands.map in
    let walked = law.unchanged_contents _ _ c.in_ok-walk.ensures.unchanged ∙ read in
    reads_of_subtree _ _ _ _ at c.in-Some.record _ t stands.valid (sym c.in-Some.is ∙ c.in_ok-record.ensures.value es stands.map ∙ ap (λ j. get j es) c.in_ok-key.ensures)
    (c.in_ok-walk.ensures.rest es read) c.in_ok-record.ensures.reads c.in_ok-walk.ensures.reads (c.in_err-gather.ensures.within es walked)

pub returns-clause-reads_of_tree : goal.returns-clause-reads_of_tree
returns-clause-reads_of_tree g c t stands =
    let law = g.met.S.NodeRead in
    let at = c.args.at.now in
    let es = map_of t in
    let read = law.unchanged_contents _ _ c.in_ok-record.ensures.unchanged ∙ stands.map in
    let walked = law.unchanged_contents _ _ c.in_ok-walk.ensures.unchanged ∙ read in
    reads_of_subtree _ _ _ _ at c.in-Some.record _ t stands.valid (sym c.in-Some.is ∙ c.in_ok-record.ensures.value es stands.map ∙ ap (λ j. get j es) c.in_ok-key.ensures)
    (c.in_ok-walk.ensures.rest es read) c.in_ok-record.ensures.reads c.in_ok-walk.ensures.reads (c.in_ok-gather.ensures.within es walked)
