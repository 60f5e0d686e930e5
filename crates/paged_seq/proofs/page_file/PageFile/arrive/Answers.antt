use Rattle.std.proofs.Common.{◌≡◌, ◌+◌, Bool, length, sym, ap, subst, ◌∙◌, arith}
use Rattle.std.proofs.lemmas.Bool.{lt-ltb}
use Rattle.outside_traits.specs.Moments.{History}
use Rattle.page_store.specs.Pages.{page_of}
use Rattle.node_pages.specs.PageFiles.{file_page}
use Rattle.paged_seq.specs.Places.{HasArrived, rest_at}
use Rattle.paged_seq.specs.declared.place.Place.{Place}
use Rattle.paged_seq.proofs.PlaceLaws.{arrived_here, began, data_whole}
use Rattle.paged_seq.proofs.page_file.PageFile.arrive.Goals as goal

pub fill-requires : goal.fill-requires
fill-requires g c = record {
  within = λ known.
      let is = c.requires.place known in
      data_whole (file_page (g.P.Disk.history c.args.self.now.disk).now.reads) c.args.starts.now c.args.place.now.page (c.requires.index known) (is.first c.if-place-gt0.true) is.within;
}

pub returns-then-place-gt0-clause-arrived : goal.returns-then-place-gt0-clause-arrived
returns-then-place-gt0-clause-arrived g c known =
    arrived_here (file_page (g.P.Disk.history c.args.self.now.disk).now.reads) (length c.args.starts.now) c.args.place.now (c.requires.place known) c.if-place-gt0.true

pub fill-requires-2 : goal.fill-requires-2
fill-requires-2 g c = record {
  within = λ known.
      let less = c.if-place-starts.false in
      data_whole (file_page (g.P.Disk.history c.args.self.now.disk).now.reads) c.args.starts.now (c.args.place.now.page + 1) (c.requires.index known) (omega arith) (omega (arith, less));
}

pub returns-clause-arrived : goal.returns-clause-arrived
returns-clause-arrived g c known =
    let page = file_page (g.P.Disk.history c.args.self.now.disk).now.reads in
    let count = length c.args.starts.now in
    let p = c.args.place.now in
    let q = c.first_place.result in
    let is = c.first_place.ensures in
    let none = c.if-place-gt0.false in
    let less = c.if-place-starts.false in
    let same : c.in-Some.bytes.now ≡ page (p.page + 1) = c.in-Some.ensures.page known ∙ ap (λ (h : History). page_of (p.page + 1) h.now.reads) (c.fill-2.ensures.same known) in
    let b = began page count p q c.in-Some.bytes.now (c.requires.index known).each (omega (arith, none)) (omega (arith, less)) (ap (λ (x : Place). x.page) is) same (ap (λ (x : Place). x.at) is) (ap (λ (x : Place). x.left) is) (ap (λ (x : Place). x.before) is) in
    subst (λ (t : Bool). HasArrived (rest_at page count p) t (rest_at page count q)) (sym (lt-ltb 0 q.left b.some)) b.arrived

pub returns-clause-place : goal.returns-clause-place
returns-clause-place g c known =
    let page = file_page (g.P.Disk.history c.args.self.now.disk).now.reads in
    let count = length c.args.starts.now in
    let p = c.args.place.now in
    let q = c.first_place.result in
    let is = c.first_place.ensures in
    let none = c.if-place-gt0.false in
    let less = c.if-place-starts.false in
    let same : c.in-Some.bytes.now ≡ page (p.page + 1) = c.in-Some.ensures.page known ∙ ap (λ (h : History). page_of (p.page + 1) h.now.reads) (c.fill-2.ensures.same known) in
    (began page count p q c.in-Some.bytes.now (c.requires.index known).each (omega (arith, none)) (omega (arith, less)) (ap (λ (x : Place). x.page) is) same (ap (λ (x : Place). x.at) is) (ap (λ (x : Place). x.left) is) (ap (λ (x : Place). x.before) is)).place
