use Rattle.std.proofs.Common.{◌∙◌}
use Rattle.paged_seq.proofs.OpenLaws.{tail_page, whole_page}
use Rattle.paged_seq.proofs.opening.page_bytes.Goals as goal

pub returns-then-left-clause-bytes : goal.returns-then-left-clause-bytes
returns-then-left-clause-bytes g c known =
    c.in_ok-bytes.ensures.bytes known ∙ tail_page c.args.page c.args.count (g.P.Disk.history c.args.file.now.disk).now.reads (c.requires.count known) c.if-left.true

pub fill-requires : goal.fill-requires
fill-requires g c = record { within = λ known. whole_page c.args.page c.args.count (g.P.Disk.history c.args.file.now.disk).now.reads (c.requires.count known) c.if-left.false }
