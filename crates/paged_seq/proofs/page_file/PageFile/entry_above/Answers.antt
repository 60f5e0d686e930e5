use Rattle.std.proofs.Common.{◌≡◌, ◌≤◌, ◌+◌, true, false, Option, Some, length, sym, ap, subst, ◌∙◌, arith}
use Rattle.std.specs.Ordering.{is_lt}
use Rattle.std.specs.Prelude.{option_map}
use Rattle.outside_traits.specs.Moments.{History}
use Rattle.tree_model.specs.declared.key.Key.{Key}
use Rattle.tree_model.specs.declared.record.Record.{Record}
use Rattle.tree_model.specs.Keys.{key_cmp}
use Rattle.node_pages.specs.PageFiles.{file_page}
use Rattle.node_pages.specs.PagesIn.{entries_from}
use Rattle.paged_seq.specs.PagedMaps.{chunks_of_entry}
use Rattle.paged_seq.specs.Places.{HasRead, IsBehind, begun_record, passes, rest_at}
use Rattle.paged_seq.proofs.MapLaws.{above_none, above_found}
use Rattle.paged_seq.proofs.PlaceLaws.{cost_above, may_keep, parts_behind, read_none, read_some, split_of}
use Rattle.paged_seq.proofs.page_file.PageFile.entry_above.Goals as goal

pub returns-then-not-branch-clause-value : goal.returns-then-not-branch-clause-value
returns-then-not-branch-clause-value g c known =
    let page = file_page (g.P.Disk.history c.args.self.now.disk).now.reads in
    let count = length c.args.starts.now in
    let parts = c.in_ok-place.ensures.parts known in
    let rest = rest_at page count c.in_ok-place.place in
    let after = rest_at page count c.step.new.place in
    let split = split_of page c.args.starts.now c.args.key.now true c.in_ok-place.place (c.requires.index known) parts in
    let read = subst (λ (h : History). HasRead (rest_at (file_page h.now.reads) count c.in_ok-place.place) c.in_ok-step.field-0 c.step.new.place.before (rest_at (file_page h.now.reads) count c.step.new.place))
    (c.place_above.ensures.same known) (c.in_ok-step.ensures.read known) in
    sym (above_none c.args.key.now (entries_from page 1 count) parts.below rest split (read_none rest c.in_ok-step.field-0 c.step.new.place.before after c.if-not-branch.true read))

pub returns-then-not-is_lt-clause-value : goal.returns-then-not-is_lt-clause-value
returns-then-not-is_lt-clause-value g c known =
    let page = file_page (g.P.Disk.history c.args.self.now.disk).now.reads in
    let count = length c.args.starts.now in
    let parts = c.in_ok-place.ensures.parts known in
    let rest = rest_at page count c.in_ok-place.place in
    let after = rest_at page count c.step.new.place in
    let split = split_of page c.args.starts.now c.args.key.now true c.in_ok-place.place (c.requires.index known) parts in
    let read = subst (λ (h : History). HasRead (rest_at (file_page h.now.reads) count c.in_ok-place.place) c.in_ok-step.field-0 c.step.new.place.before (rest_at (file_page h.now.reads) count c.step.new.place))
    (c.place_above.ensures.same known) (c.in_ok-step.ensures.read known) in
    let is = read_some rest c.in_ok-step.field-0 c.step.new.place.before after c.in-Some.entry c.if-not-branch.false c.in-Some.is read in
    let found = above_found c.args.key.now (entries_from page 1 count) parts.below rest c.in-Some.entry after split is in
    let other : is_lt (key_cmp c.args.key.now c.in-Some.entry.key) ≡ false = ap is_lt (sym c.cmp.ensures) ∙ sym c.is_lt.ensures ∙ c.if-not-is_lt.true in
    let less : is_lt (key_cmp c.args.key.now c.in-Some.entry.key) ≡ true = ap is_lt found.0 in
    cc (other, less)

pub returns-clause-value : goal.returns-clause-value
returns-clause-value g c known =
    let page = file_page (g.P.Disk.history c.args.self.now.disk).now.reads in
    let count = length c.args.starts.now in
    let parts = c.in_ok-place.ensures.parts known in
    let rest = rest_at page count c.in_ok-place.place in
    let after = rest_at page count c.step.new.place in
    let split = split_of page c.args.starts.now c.args.key.now true c.in_ok-place.place (c.requires.index known) parts in
    let read = subst (λ (h : History). HasRead (rest_at (file_page h.now.reads) count c.in_ok-place.place) c.in_ok-step.field-0 c.step.new.place.before (rest_at (file_page h.now.reads) count c.step.new.place))
    (c.place_above.ensures.same known) (c.in_ok-step.ensures.read known) in
    let is = read_some rest c.in_ok-step.field-0 c.step.new.place.before after c.in-Some.entry c.if-not-branch.false c.in-Some.is read in
    let found = above_found c.args.key.now (entries_from page 1 count) parts.below rest c.in-Some.entry after split is in
    let both = c.step.ensures.same known ∙ c.place_above.ensures.same known in
    let there : c.in_ok-found.found ≡ Some found.1 = c.in_ok-found.ensures.record known ∙ (λ i. begun_record (c.in-Some.is i) (rest_at (file_page (both i).now.reads) count c.step.new.place)) ∙ found.2 in
    c.at_key.ensures ∙ (λ i. option_map (λ (r : Record). (c.in_ok-at.ensures i, r)) (there i)) ∙ sym found.3

pub returns-clause-reads : goal.returns-clause-reads
returns-clause-reads g c known =
    let page = file_page (g.P.Disk.history c.args.self.now.disk).now.reads in
    let count = length c.args.starts.now in
    let parts = c.in_ok-place.ensures.parts known in
    let rest = rest_at page count c.in_ok-place.place in
    let after = rest_at page count c.step.new.place in
    let split = split_of page c.args.starts.now c.args.key.now true c.in_ok-place.place (c.requires.index known) parts in
    let read = subst (λ (h : History). HasRead (rest_at (file_page h.now.reads) count c.in_ok-place.place) c.in_ok-step.field-0 c.step.new.place.before (rest_at (file_page h.now.reads) count c.step.new.place))
    (c.place_above.ensures.same known) (c.in_ok-step.ensures.read known) in
    let is = read_some rest c.in_ok-step.field-0 c.step.new.place.before after c.in-Some.entry c.if-not-branch.false c.in-Some.is read in
    let found = above_found c.args.key.now (entries_from page 1 count) parts.below rest c.in-Some.entry after split is in
    let both = c.step.ensures.same known ∙ c.place_above.ensures.same known in
    let there : c.in_ok-found.found ≡ Some found.1 = c.in_ok-found.ensures.record known ∙ (λ i. begun_record (c.in-Some.is i) (rest_at (file_page (both i).now.reads) count c.step.new.place)) ∙ found.2 in
    let one = c.place_above.ensures.reads in
    let two = c.step.ensures.reads in
    let cost = cost_above c.args.self.now.pool.reads c.step.new.self.pool.reads c.rest_of_record.new.self.pool.reads c.in_ok-at.at c.in_ok-found.found found.1 (omega (arith, one, two)) there c.in_ok-found.ensures.reads in
    subst (λ (o : Option (Key × Record)). c.rest_of_record.new.self.pool.reads ≤ c.args.self.now.pool.reads + 3 + chunks_of_entry o) (sym c.at_key.ensures) cost

pub returns-clause-passed : goal.returns-clause-passed
returns-clause-passed g c =
    let file = (g.P.Disk.history c.args.self.now.disk).now.reads in
    let page = file_page file in
    let count = length c.args.starts.now in
    may_keep g.P.Disk.is_known file count c.place_behind.result c.rest_of_record.new.place c.in_ok-found.found c.place_behind.ensures c.in_ok-found.ensures.within (λ some known.
    let found_at = parts_behind page count (passes c.args.key.now true) c.in_ok-place.place (c.in_ok-place.ensures.parts known) in
    let stepped : IsBehind page count c.step.new.place =
    subst (λ (h : History). IsBehind (file_page h.now.reads) count c.in_ok-place.place → IsBehind (file_page h.now.reads) count c.step.new.place) (c.place_above.ensures.same known)
    (c.in_ok-step.ensures.behind c.if-not-branch.false known) found_at in
    let both = c.step.ensures.same known ∙ c.place_above.ensures.same known in
    subst (λ (h : History). IsBehind (file_page h.now.reads) count c.step.new.place → IsBehind (file_page h.now.reads) count c.rest_of_record.new.place) both (c.in_ok-found.ensures.behind some known) stepped)
