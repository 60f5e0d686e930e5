use Rattle.std.proofs.Common.{◌≡◌, ◌≤◌, ◌+◌, true, false, Option, Some, length, sym, ap, subst, ◌∙◌, arith}
use Rattle.std.specs.Ordering.{is_lt}
use Rattle.std.specs.Prelude.{option_map}
use Rattle.outside_traits.specs.Moments.{History}
use Rattle.tree_model.specs.declared.key.Key.{Key}
use Rattle.tree_model.specs.declared.record.Record.{Record}
use Rattle.tree_model.specs.Entries.{get}
use Rattle.tree_model.specs.Keys.{key_cmp}
use Rattle.node_pages.specs.PageFiles.{file_page}
use Rattle.node_pages.specs.PagesIn.{entries_from}
use Rattle.paged_seq.specs.PagedMaps.{chunks_of_entry, records_of}
use Rattle.paged_seq.specs.Places.{rest_at}
use Rattle.paged_seq.proofs.MapLaws.{below_none, below_found, some_is, key_is, no_key}
use Rattle.paged_seq.proofs.PlaceLaws.{cost_below, split_of}
use Rattle.paged_seq.proofs.page_file.PageFile.entry_below.Goals as goal

pub returns-in-None-clause-value : goal.returns-in-None-clause-value
returns-in-None-clause-value g c known =
    let page = file_page (g.P.Disk.history c.args.self.now.disk).now.reads in
    let count = length c.args.starts.now in
    let all = entries_from page 1 count in
    let parts = c.in_ok-place.ensures.parts known in
    let split = split_of page c.args.starts.now c.args.key.now false c.in_ok-place.place (c.requires.index known) parts in
    sym (below_none c.args.key.now all parts.below (rest_at page count c.in_ok-place.place) split (parts.last ∙ no_key c.in_ok-place.place.before (sym c.key_of.ensures ∙ c.in-None.is)))

pub returns-then-not-is_lt-clause-value : goal.returns-then-not-is_lt-clause-value
returns-then-not-is_lt-clause-value g c known =
    let page = file_page (g.P.Disk.history c.args.self.now.disk).now.reads in
    let count = length c.args.starts.now in
    let all = entries_from page 1 count in
    let parts = c.in_ok-place.ensures.parts known in
    let split = split_of page c.args.starts.now c.args.key.now false c.in_ok-place.place (c.requires.index known) parts in
    let e = key_is c.in_ok-place.place.before c.in-Some.at (sym c.key_of.ensures ∙ c.in-Some.is) in
    let found = below_found c.args.key.now all parts.below (rest_at page count c.in_ok-place.place) e.0 split (parts.last ∙ e.1) in
    let other : is_lt (key_cmp c.in-Some.at c.args.key.now) ≡ false = ap is_lt (sym c.cmp.ensures) ∙ sym c.is_lt.ensures ∙ c.if-not-is_lt.true in
    let less : is_lt (key_cmp c.in-Some.at c.args.key.now) ≡ true = ap (λ (k : Key). is_lt (key_cmp k c.args.key.now)) (sym e.2) ∙ ap is_lt found.0 in
    cc (other, less)

pub returns-in_ok-found-in-Some-clause-value : goal.returns-in_ok-found-in-Some-clause-value
returns-in_ok-found-in-Some-clause-value g c known =
    let page = file_page (g.P.Disk.history c.args.self.now.disk).now.reads in
    let count = length c.args.starts.now in
    let all = entries_from page 1 count in
    let parts = c.in_ok-place.ensures.parts known in
    let split = split_of page c.args.starts.now c.args.key.now false c.in_ok-place.place (c.requires.index known) parts in
    let e = key_is c.in_ok-place.place.before c.in-Some.at (sym c.key_of.ensures ∙ c.in-Some.is) in
    let found = below_found c.args.key.now all parts.below (rest_at page count c.in_ok-place.place) e.0 split (parts.last ∙ e.1) in
    let there = some_is (get e.0.key (records_of page count)) found.1 in
    let value : c.in_ok-found-in-Some.found ≡ Some there.0 =
    c.in_ok-found-in-Some.ensures.value known ∙ ap (λ (h : History). get c.in-Some.at (records_of (file_page h.now.reads) count)) (c.find.ensures.same known) ∙ ap (λ (k : Key). get k (records_of page count)) (sym e.2) ∙ there.1 in
    c.at_key.ensures ∙ (λ i. option_map (λ (r : Record). (sym e.2 i, r)) (value i)) ∙ sym (found.2 there.0 there.1)

pub returns-in_ok-found-in-Some-clause-reads : goal.returns-in_ok-found-in-Some-clause-reads
returns-in_ok-found-in-Some-clause-reads g c known =
    let one = c.find.ensures.reads in
    let others = c.in_ok-found-in-Some.ensures.reads known in
    let cost = cost_below c.args.self.now.pool.reads c.record_at.new.self.pool.reads c.in-Some.at c.in_ok-found-in-Some.found (omega (arith, one, others)) in
    subst (λ (o : Option (Key × Record)). c.record_at.new.self.pool.reads ≤ c.args.self.now.pool.reads + 3 + chunks_of_entry o) (sym c.at_key.ensures) cost
