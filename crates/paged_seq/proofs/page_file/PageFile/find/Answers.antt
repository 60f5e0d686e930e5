use Rattle.std.proofs.Common.{ℕ, ◌≡◌, ◌<◌, List, Option, IfSome, drop, length, ap, subst, ◌∙◌, arith}
use Rattle.outside_traits.specs.Moments.{History}
use Rattle.page_store.specs.Pages.{page_of}
use Rattle.node_pages.specs.PageFiles.{file_page}
use Rattle.paged_seq.specs.Places.{FindsFrom, MayBeKept, NextPasses, passes}
use Rattle.paged_seq.specs.declared.place.Place.{Place}
use Rattle.paged_seq.proofs.PlaceLaws.{data_whole, found_first, parts_at_start, parts_from, parts_on_page}
use Rattle.paged_seq.proofs.page_file.PageFile.find.Goals as goal

pub returns-then-before-eq0-clause-parts : goal.returns-then-before-eq0-clause-parts
returns-then-before-eq0-clause-parts g c known =
    let test = passes c.args.key.now c.args.beyond in
    parts_at_start (file_page (g.P.Disk.history c.args.self.now.disk).now.reads) c.args.starts.now test c.start.result (c.requires.index known)
    (subst (λ (m : ℕ). NextPasses test (drop m c.args.starts.now)) c.if-before-eq0.true c.pages_before-before.ensures.next) c.start.ensures.page c.start.ensures.left c.start.ensures.before

pub fill-requires : goal.fill-requires
fill-requires g c =
    let m = c.pages_before-before.result in
    let none = c.if-before-eq0.false in
    let some : 0 < m = omega (arith, none) in
    record { within = λ known. data_whole (file_page (g.P.Disk.history c.args.self.now.disk).now.reads) c.args.starts.now m (c.requires.index known) some c.pages_before-before.ensures.within }

pub returns-in_ok-seek-in-Some-passed-clause-parts : goal.returns-in_ok-seek-in-Some-passed-clause-parts
returns-in_ok-seek-in-Some-passed-clause-parts g c known =
    let m = c.pages_before-before.result in
    let none = c.if-before-eq0.false in
    let some : 0 < m = omega (arith, none) in
    let test = passes c.args.key.now c.args.beyond in
    let file = (g.P.Disk.history c.args.self.now.disk).now.reads in
    let page = file_page file in
    let same : c.in-Some.bytes.now ≡ page m = c.in-Some.ensures.page known ∙ ap (λ (h : History). page_of m h.now.reads) (c.fill.ensures.same known) in
    let kept = subst (λ (o : Option Place). IfSome o (MayBeKept g.P.Disk.is_known file (length c.args.starts.now))) c.in-Some-passed.is c.requires.passed in
    parts_from page c.args.starts.now c.args.key.now c.args.beyond m c.in-Some-passed.place c.in_ok-seek-in-Some-passed.field-0 (c.requires.index known) some c.pages_before-before.ensures.within c.pages_before-before.ensures.next
    (kept.behind known) (c.may_go_on.ensures c.if-may_go_on.true) c.in_ok-seek-in-Some-passed.ensures.page (subst (λ (b : List ℕ). FindsFrom test b c.in-Some-passed.place c.in_ok-seek-in-Some-passed.field-0) same c.in_ok-seek-in-Some-passed.ensures.found)

pub returns-in_ok-seek-in_default-passed-clause-parts : goal.returns-in_ok-seek-in_default-passed-clause-parts
returns-in_ok-seek-in_default-passed-clause-parts g c known =
    let m = c.pages_before-before.result in
    let none = c.if-before-eq0.false in
    let some : 0 < m = omega (arith, none) in
    let test = passes c.args.key.now c.args.beyond in
    let page = file_page (g.P.Disk.history c.args.self.now.disk).now.reads in
    let same : c.in-Some.bytes.now ≡ page m = c.in-Some.ensures.page known ∙ ap (λ (h : History). page_of m h.now.reads) (c.fill.ensures.same known) in
    parts_on_page page c.args.starts.now c.args.key.now c.args.beyond m c.in_ok-seek-in_default-passed.field-0 (c.requires.index known) some c.pages_before-before.ensures.within
    c.pages_before-before.ensures.last c.pages_before-before.ensures.next (c.in_ok-seek-in_default-passed.ensures.page ∙ ap (λ (x : Place). x.page) c.first_place.ensures)
    (found_first test c.in-Some.bytes.now (page m) m c.first_place.result c.in_ok-seek-in_default-passed.field-0 same c.first_place.ensures c.in_ok-seek-in_default-passed.ensures.found)
