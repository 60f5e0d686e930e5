use Rattle.std.proofs.Common.{[], sym, ◌∙◌}
use Rattle.std.proofs.lemmas.List.{append-nil}
use Rattle.group_commit.proofs.Scribing.{at_first, settled_at}
use Rattle.group_commit.proofs.scribe.Scribe.new.Goals as goal

pub invariant_of-result : goal.invariant_of-result
invariant_of-result g c =
    let r = c.requires.drainer in
    at_first g.C.TreeCall.meaning g.B.NodeRead.contents g.J.Disk.is_known c.args.session.value c.args.drainer c.args.journal c.of.result.value c.of.ensures
    (record { lock = r.0; has = r.2; under = r.3; opened = c.requires.opened; idle = c.requires.idle; grown = ([], r.1 ∙ sym (append-nil _), tt) }) r.1 c.requires.drained c.requires.usable c.requires.next
    (λ is_known. settled_at c.args.journal (c.is_usable.ensures.settled is_known c.requires.usable.unfailed) (c.is_usable.ensures.groups is_known c.requires.usable.unfailed) (c.is_usable.ensures.commits is_known c.requires.usable.unfailed c.requires.usable.unheld))
