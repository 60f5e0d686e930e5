use Rattle.std.proofs.Common.{◌∙◌, sym, ap}
use Rattle.shared_store.specs.Sessions.{SessionView}
use Rattle.group_callers.proofs.Joined.{more_of}
use Rattle.group_callers.proofs.Members.{seen_on}
use Rattle.group_tests.proofs.Members.{unchanged}
use Rattle.group_tests.proofs.threads.commit_often.Goals as goal

pub loop-init : goal.loop-init
loop-init g c = unchanged c.args.member

pub commit_next-requires : goal.commit_next-requires
commit_next-requires g c = (
  more_of c.args.group.now c.args.member c.loop.member c.loop.invariant c.requires.0,
  λ e. c.requires.1 (sym (ap (λ (s : SessionView _ _). s.under) c.loop.invariant.session) ∙ e),
)

pub loop-preserved : goal.loop-preserved
loop-preserved g c = seen_on c.args.member c.loop.member c.commit_next.new.member c.loop.invariant c.commit_next.ensures
