use Rattle.std.proofs.Common.{◌≡◌, false, Some, length, sym, ap, subst, ◌∙◌, arith}
use Rattle.std.specs.Ordering.{is_eq}
use Rattle.outside_traits.specs.Moments.{History}
use Rattle.tree_model.specs.Keys.{key_cmp}
use Rattle.node_pages.specs.PageFiles.{file_page}
use Rattle.node_pages.specs.PagesIn.{entries_from}
use Rattle.paged_seq.specs.Places.{HasRead, IsBehind, begun_record, passes, rest_at}
use Rattle.paged_seq.proofs.MapLaws.{get_none, get_other, get_found, eq_equal}
use Rattle.paged_seq.proofs.PlaceLaws.{cost_of, may_keep, parts_behind, read_none, read_some, split_of}
use Rattle.paged_seq.proofs.page_file.PageFile.record_at.Goals as goal

pub returns-then-not-branch-clause-value : goal.returns-then-not-branch-clause-value
returns-then-not-branch-clause-value g c known =
    let page = file_page (g.P.Disk.history c.args.self.now.disk).now.reads in
    let count = length c.args.starts.now in
    let parts = c.in_ok-place.ensures.parts known in
    let rest = rest_at page count c.in_ok-place.place in
    let split = split_of page c.args.starts.now c.args.key.now false c.in_ok-place.place (c.requires.index known) parts in
    let read = subst (λ (h : History). HasRead (rest_at (file_page h.now.reads) count c.in_ok-place.place) c.in_ok-step.field-0 c.step.new.place.before (rest_at (file_page h.now.reads) count c.step.new.place))
    (c.find.ensures.same known) (c.in_ok-step.ensures.read known) in
    sym (get_none c.args.key.now (entries_from page 1 count) parts.below rest split (read_none rest c.in_ok-step.field-0 c.step.new.place.before (rest_at page count c.step.new.place) c.if-not-branch.true read))

pub returns-then-not-is_eq-clause-value : goal.returns-then-not-is_eq-clause-value
returns-then-not-is_eq-clause-value g c known =
    let page = file_page (g.P.Disk.history c.args.self.now.disk).now.reads in
    let count = length c.args.starts.now in
    let parts = c.in_ok-place.ensures.parts known in
    let rest = rest_at page count c.in_ok-place.place in
    let after = rest_at page count c.step.new.place in
    let split = split_of page c.args.starts.now c.args.key.now false c.in_ok-place.place (c.requires.index known) parts in
    let read = subst (λ (h : History). HasRead (rest_at (file_page h.now.reads) count c.in_ok-place.place) c.in_ok-step.field-0 c.step.new.place.before (rest_at (file_page h.now.reads) count c.step.new.place))
    (c.find.ensures.same known) (c.in_ok-step.ensures.read known) in
    let is = read_some rest c.in_ok-step.field-0 c.step.new.place.before after c.in-Some.entry c.if-not-branch.false c.in-Some.is read in
    let other : is_eq (key_cmp c.in-Some.entry.key c.args.key.now) ≡ false = ap is_eq (sym c.cmp.ensures) ∙ sym c.is_eq.ensures ∙ c.if-not-is_eq.true in
    sym (get_other c.args.key.now (entries_from page 1 count) parts.below rest c.in-Some.entry after split is other)

pub returns-clause-value : goal.returns-clause-value
returns-clause-value g c known =
    let page = file_page (g.P.Disk.history c.args.self.now.disk).now.reads in
    let count = length c.args.starts.now in
    let parts = c.in_ok-place.ensures.parts known in
    let rest = rest_at page count c.in_ok-place.place in
    let after = rest_at page count c.step.new.place in
    let split = split_of page c.args.starts.now c.args.key.now false c.in_ok-place.place (c.requires.index known) parts in
    let read = subst (λ (h : History). HasRead (rest_at (file_page h.now.reads) count c.in_ok-place.place) c.in_ok-step.field-0 c.step.new.place.before (rest_at (file_page h.now.reads) count c.step.new.place))
    (c.find.ensures.same known) (c.in_ok-step.ensures.read known) in
    let is = read_some rest c.in_ok-step.field-0 c.step.new.place.before after c.in-Some.entry c.if-not-branch.false c.in-Some.is read in
    let same = eq_equal (key_cmp c.in-Some.entry.key c.args.key.now) (ap is_eq (sym c.cmp.ensures) ∙ sym c.is_eq.ensures ∙ c.if-not-is_eq.false) in
    let found = get_found c.args.key.now (entries_from page 1 count) parts.below rest c.in-Some.entry after split is same in
    let both = c.step.ensures.same known ∙ c.find.ensures.same known in
    c.in_ok-found.ensures.record known ∙ (λ i. begun_record (c.in-Some.is i) (rest_at (file_page (both i).now.reads) count c.step.new.place)) ∙ found.1 ∙ sym found.2

pub returns-clause-reads : goal.returns-clause-reads
returns-clause-reads g c known =
    let page = file_page (g.P.Disk.history c.args.self.now.disk).now.reads in
    let count = length c.args.starts.now in
    let parts = c.in_ok-place.ensures.parts known in
    let rest = rest_at page count c.in_ok-place.place in
    let after = rest_at page count c.step.new.place in
    let split = split_of page c.args.starts.now c.args.key.now false c.in_ok-place.place (c.requires.index known) parts in
    let read = subst (λ (h : History). HasRead (rest_at (file_page h.now.reads) count c.in_ok-place.place) c.in_ok-step.field-0 c.step.new.place.before (rest_at (file_page h.now.reads) count c.step.new.place))
    (c.find.ensures.same known) (c.in_ok-step.ensures.read known) in
    let is = read_some rest c.in_ok-step.field-0 c.step.new.place.before after c.in-Some.entry c.if-not-branch.false c.in-Some.is read in
    let same = eq_equal (key_cmp c.in-Some.entry.key c.args.key.now) (ap is_eq (sym c.cmp.ensures) ∙ sym c.is_eq.ensures ∙ c.if-not-is_eq.false) in
    let record_is = get_found c.args.key.now (entries_from page 1 count) parts.below rest c.in-Some.entry after split is same in
    let both = c.step.ensures.same known ∙ c.find.ensures.same known in
    let found : c.in_ok-found.found ≡ Some record_is.0 = c.in_ok-found.ensures.record known ∙ (λ i. begun_record (c.in-Some.is i) (rest_at (file_page (both i).now.reads) count c.step.new.place)) ∙ record_is.1 in
    let one = c.find.ensures.reads in
    let two = c.step.ensures.reads in
    cost_of c.args.self.now.pool.reads c.step.new.self.pool.reads c.rest_of_record.new.self.pool.reads c.in_ok-found.found record_is.0 (omega (arith, one, two)) found c.in_ok-found.ensures.reads

pub returns-then-not-is_eq-clause-passed : goal.returns-then-not-is_eq-clause-passed
returns-then-not-is_eq-clause-passed g c = record {
  within = c.in_ok-step.ensures.within;
  behind = λ known.
      let page = file_page (g.P.Disk.history c.args.self.now.disk).now.reads in
      let count = length c.args.starts.now in
      let found_at = parts_behind page count (passes c.args.key.now false) c.in_ok-place.place (c.in_ok-place.ensures.parts known) in
      subst (λ (h : History). IsBehind (file_page h.now.reads) count c.in_ok-place.place → IsBehind (file_page h.now.reads) count c.step.new.place) (c.find.ensures.same known)
      (c.in_ok-step.ensures.behind c.if-not-branch.false known) found_at;
}

pub returns-clause-passed : goal.returns-clause-passed
returns-clause-passed g c =
    let file = (g.P.Disk.history c.args.self.now.disk).now.reads in
    let page = file_page file in
    let count = length c.args.starts.now in
    may_keep g.P.Disk.is_known file count c.place_behind.result c.rest_of_record.new.place c.in_ok-found.found c.place_behind.ensures c.in_ok-found.ensures.within (λ some known.
    let found_at = parts_behind page count (passes c.args.key.now false) c.in_ok-place.place (c.in_ok-place.ensures.parts known) in
    let stepped : IsBehind page count c.step.new.place =
    subst (λ (h : History). IsBehind (file_page h.now.reads) count c.in_ok-place.place → IsBehind (file_page h.now.reads) count c.step.new.place) (c.find.ensures.same known)
    (c.in_ok-step.ensures.behind c.if-not-branch.false known) found_at in
    let both = c.step.ensures.same known ∙ c.find.ensures.same known in
    subst (λ (h : History). IsBehind (file_page h.now.reads) count c.step.new.place → IsBehind (file_page h.now.reads) count c.rest_of_record.new.place) both (c.in_ok-found.ensures.behind some known) stepped)
