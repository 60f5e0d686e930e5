use Rattle.std.proofs.Common.{ℕ, ◌≡◌, List, Bool, true, length, ap, subst, ◌∙◌}
use Rattle.outside_traits.specs.Moments.{History}
use Rattle.page_store.specs.Pages.{page_of}
use Rattle.node_pages.specs.PageFiles.{file_page}
use Rattle.paged_seq.specs.Places.{Advances, HasArrived, rest_at}
use Rattle.paged_seq.proofs.PlaceLaws.{behind_on, entry_read_there}
use Rattle.paged_seq.proofs.page_file.PageFile.step.Goals as goal

pub returns-clause-read : goal.returns-clause-read
returns-clause-read g c known =
    let page = file_page (g.P.Disk.history c.args.self.now.disk).now.reads in
    let count = length c.args.starts.now in
    let p = c.arrive.new.place in
    let q = c.advance.new.place in
    let there : c.in_ok-arrive.field-0 ≡ true = c.if-not-branch.false in
    let same : c.in-Some.bytes.now ≡ page p.page = c.in-Some.ensures.page known ∙ ap (λ (h : History). page_of p.page h.now.reads) (c.arrive.ensures.same known) in
    let rest = rest_at page count c.args.place.now in
    (entry_read_there page count rest p q c.in_ok-advance.field-0 (c.in_ok-arrive.ensures.place known) (c.in_ok-arrive.ensures.some there).0
    (subst (λ (t : Bool). HasArrived rest t (rest_at page count p)) there (c.in_ok-arrive.ensures.arrived known)) c.in_ok-advance.ensures.page
    (subst (λ (b : List ℕ). Advances b p q c.in_ok-advance.field-0) same c.in_ok-advance.ensures.read)).0

pub returns-clause-place : goal.returns-clause-place
returns-clause-place g c known =
    let page = file_page (g.P.Disk.history c.args.self.now.disk).now.reads in
    let count = length c.args.starts.now in
    let p = c.arrive.new.place in
    let q = c.advance.new.place in
    let there : c.in_ok-arrive.field-0 ≡ true = c.if-not-branch.false in
    let same : c.in-Some.bytes.now ≡ page p.page = c.in-Some.ensures.page known ∙ ap (λ (h : History). page_of p.page h.now.reads) (c.arrive.ensures.same known) in
    let rest = rest_at page count c.args.place.now in
    (entry_read_there page count rest p q c.in_ok-advance.field-0 (c.in_ok-arrive.ensures.place known) (c.in_ok-arrive.ensures.some there).0
    (subst (λ (t : Bool). HasArrived rest t (rest_at page count p)) there (c.in_ok-arrive.ensures.arrived known)) c.in_ok-advance.ensures.page
    (subst (λ (b : List ℕ). Advances b p q c.in_ok-advance.field-0) same c.in_ok-advance.ensures.read)).1

pub returns-clause-behind : goal.returns-clause-behind
returns-clause-behind g c read known b =
    let page = file_page (g.P.Disk.history c.args.self.now.disk).now.reads in
    let count = length c.args.starts.now in
    let p = c.arrive.new.place in
    let q = c.advance.new.place in
    let there : c.in_ok-arrive.field-0 ≡ true = c.if-not-branch.false in
    let same : c.in-Some.bytes.now ≡ page p.page = c.in-Some.ensures.page known ∙ ap (λ (h : History). page_of p.page h.now.reads) (c.arrive.ensures.same known) in
    let rest = rest_at page count c.args.place.now in
    let both = entry_read_there page count rest p q c.in_ok-advance.field-0 (c.in_ok-arrive.ensures.place known) (c.in_ok-arrive.ensures.some there).0
    (subst (λ (t : Bool). HasArrived rest t (rest_at page count p)) there (c.in_ok-arrive.ensures.arrived known)) c.in_ok-advance.ensures.page
    (subst (λ (b : List ℕ). Advances b p q c.in_ok-advance.field-0) same c.in_ok-advance.ensures.read) in
    behind_on page count c.args.place.now q c.in_ok-advance.field-0 read b both.1 both.0
