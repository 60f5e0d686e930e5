use Rattle.std.proofs.Common.{◌≡◌, ◌∙◌, ◌+◌, ℕ, ap, arith, subst, sym}
use Rattle.std.specs.Prelude.{IsTrue}
use Rattle.journal.specs.Groups.{is_next}
use Rattle.turn_lock.specs.Turns.{has_number}
use Rattle.shared_store.specs.Sessions.{SessionView}
use Rattle.group_commit.proofs.Opened.{opens_all, opens_first, opens_seen}
use Rattle.group_commit.proofs.Started.{begun_last}
use Rattle.group_commit.proofs.run.open.Goals as goal

pub new-requires-2-clause-session : goal.new-requires-2-clause-session
new-requires-2-clause-session g c = record {
  lock = ap (λ (v : SessionView _ _). v.lock) c.in-Ok.ensures.ok;
  all = opens_all c.args.core c.args.number c.in-Ok.made.0 c.in-Ok.made.1 c.in-Ok.ensures.ok;
  number = λ e. let under : c.in-Ok.made.1.under ≡ c.args.number = ap (λ (v : SessionView _ _). v.under) c.in-Ok.ensures.ok in omega (arith, e, under, c.requires.number.0);
}

pub new-requires-2-clause-takes : goal.new-requires-2-clause-takes
new-requires-2-clause-takes g c =
    let seen = opens_seen c.args.core c.args.number c.in-Ok.made.0 c.in-Ok.made.1 c.in-Ok.ensures.ok in
    record {
      usable = c.requires.begin.takes;
      next = subst (λ (n : ℕ). IsTrue (is_next c.args.journal.last (n + 1))) (sym (begun_last c.args.core c.requires.begin.book c.in-Ok.made.1.seen seen)) c.requires.begin.next;
    }

pub close-requires-clause-all : goal.close-requires-clause-all
close-requires-clause-all g c n small = ap (λ (v : SessionView _ _). has_number v.has n) c.in-Err-new.ensures.err.1 ∙ opens_all c.args.core c.args.number c.in-Ok.made.0 c.in-Ok.made.1 c.in-Ok.ensures.ok n small

pub returns-in-Ok-new-clause-ok : goal.returns-in-Ok-new-clause-ok
returns-in-Ok-new-clause-ok g c =
    let made = c.in-Ok-new.made in
    let e = c.in-Ok-new.ensures in
    opens_first c.args.core c.args.number c.in-Ok.made.0 c.in-Ok.made.1 c.in-Ok.ensures.ok c.requires.begin.book c.requires.number c.args.journal made.0 made.1 e.store e.session e.pass
