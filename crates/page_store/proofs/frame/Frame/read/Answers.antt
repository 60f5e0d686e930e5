use Rattle.std.proofs.Common.{rules, length}
use Rattle.page_store.proofs.KeptLaws.{page_read}
use Rattle.page_store.proofs.frame.Frame.read.Goals as goal

pub returns-clause-value : goal.returns-clause-value
returns-clause-value g c known = page_read c.args.page c.self.inside.cells.len (length c.deref_mut.result.now) (g.P.Disk.history c.args.disk.now).now.reads c.self.inside.cells.items c.read_at.new.buf (search rules) (search rules) (c.requires.within known) (c.in_ok-read_at.ensures.value known)
