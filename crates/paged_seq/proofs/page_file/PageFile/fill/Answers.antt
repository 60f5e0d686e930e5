use Rattle.std.proofs.Common.{length, ◌∙◌}
use Rattle.page_store.specs.Pages.{page_of}
use Rattle.paged_seq.proofs.PlaceLaws.{whole_within}
use Rattle.paged_seq.proofs.page_file.PageFile.fill.Goals as goal

pub fill-requires-clause-within : goal.fill-requires-clause-within
fill-requires-clause-within g c known =
    whole_within c.args.page (g.P.Disk.history c.self.inside.disk).now.reads
    ((λ i. length (page_of c.args.page (g.P.Disk.history (c.self.view_is i).disk).now.reads)) ∙ c.requires.within known)
