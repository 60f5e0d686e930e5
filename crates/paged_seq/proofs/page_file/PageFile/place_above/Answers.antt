use Rattle.std.proofs.Common.{Option, IfSome, length, subst}
use Rattle.node_pages.specs.PageFiles.{file_page}
use Rattle.paged_seq.specs.Places.{MayBeKept}
use Rattle.paged_seq.specs.declared.place.Place.{Place}
use Rattle.paged_seq.proofs.PlaceLaws.{parts_behind_record}
use Rattle.paged_seq.proofs.page_file.PageFile.place_above.Goals as goal

pub returns-in-Some-clause-parts : goal.returns-in-Some-clause-parts
returns-in-Some-clause-parts g c known =
    let file = (g.P.Disk.history c.args.self.now.disk).now.reads in
    let kept = subst (λ (o : Option Place). IfSome o (MayBeKept g.P.Disk.is_known file (length c.args.starts.now))) c.in-Some.is c.requires.passed in
    parts_behind_record (file_page file) c.args.starts.now c.args.key.now c.in-Some.place (c.requires.index known) (kept.behind known) (c.ends_record.ensures c.if-ends_record.true)
