use Rattle.std.proofs.Common.{◌≡◌, ◌∙◌, ap, arith}
use Rattle.turn_lock.proofs.Numbers.{all_there, still_there}
use Rattle.turn_lock.specs.Turns.{has_number}
use Rattle.shared_store.specs.Sessions.{SessionView}
use Rattle.group_commit.specs.Members.{MarksPass}
use Rattle.group_callers.proofs.two_members.group_over.Goals as goal

pub new-requires-3-clause-session : goal.new-requires-3-clause-session
new-requires-3-clause-session g c = record {
  lock = ap (λ (v : SessionView _ _). v.lock) c.in-Ok-new.ensures.ok;
  all = λ n l. ap (λ (v : SessionView _ _). has_number v.has n) c.in-Ok-new.ensures.ok ∙ all_there n l;
  number = λ e. let under : c.in-Ok-new.session.under ≡ 64 = ap (λ (v : SessionView _ _). v.under) c.in-Ok-new.ensures.ok in omega (arith, e, under);
}

pub returns-in-Ok-new-2-clause-numbers : goal.returns-in-Ok-new-2-clause-numbers
returns-in-Ok-new-2-clause-numbers g c = λ n some l.
    ap (λ (v : SessionView _ _). has_number v.has n) c.in-Ok-new-2.ensures.session
    ∙ still_there c.in-Ok-new.session.has 0 n (λ e. omega (arith, some, e)) (ap (λ (v : SessionView _ _). has_number v.has n) c.in-Ok-new.ensures.ok ∙ all_there n l)

pub returns-in-Ok-new-2-clause-all : goal.returns-in-Ok-new-2-clause-all
returns-in-Ok-new-2-clause-all g c = λ n l. ap (λ (p : MarksPass _ _). has_number p.has n) c.in-Ok-new-2.ensures.pass ∙ all_there n l
