use Rattle.std.proofs.Common.{◌≢◌, ℕ, true, false, sym, ap, ◌∙◌, subst, get_or-set_other, get_or-set_same}
use Rattle.turn_lock.specs.Turns.{no_numbers, only_number, PassView}
use Rattle.std.specs.Prelude.{slice_set}
use Rattle.shared_store.specs.Sessions.{SessionView}
use Rattle.shared_store.specs.inside.Desks.{IsSession}
use Rattle.shared_store.proofs.session.Session.split.Goals as goal

pub split-pass-requires-clause-another : goal.split-pass-requires-clause-another
split-pass-requires-clause-another g c = (
  c.self.inside.number,
  get_or-set_other c.self.inside.pass.has c.args.number c.self.inside.number false false (subst (λ (k : ℕ). k ≢ c.args.number) (sym (ap (λ (p : SessionView _ _). p.under) c.self.view_is)) c.requires.number.1) ∙ c.self.invariant.own,
)

pub invariant_of-self : goal.invariant_of-self
invariant_of-self g c =
    subst (λ (p : PassView _). IsSession g.C.TreeCall.is_valid g.C.TreeCall.meaning g.B.NodeRead.contents p c.self.inside.number) (sym c.split-pass.ensures.kept) (record {
      turn = c.self.invariant.turn;
      own = get_or-set_other c.self.inside.pass.has c.args.number c.self.inside.number false false (subst (λ (k : ℕ). k ≢ c.args.number) (sym (ap (λ (p : SessionView _ _). p.under) c.self.view_is)) c.requires.number.1) ∙ c.self.invariant.own;
      small = c.self.invariant.small;
      opened = c.self.invariant.opened;
      legal = c.self.invariant.legal;
    })

pub invariant_of-result : goal.invariant_of-result
invariant_of-result g c =
    subst (λ (p : PassView _). IsSession g.C.TreeCall.is_valid g.C.TreeCall.meaning g.B.NodeRead.contents p c.args.number) (sym c.split-pass.ensures.given) (record {
      turn = c.self.invariant.turn;
      own = get_or-set_same no_numbers c.args.number true false c.split-pass.ensures.fits;
      small = c.split-pass.ensures.fits;
      opened = c.self.invariant.opened;
      legal = c.self.invariant.legal;
    })

pub returns-clause-kept : goal.returns-clause-kept
returns-clause-kept g c =
    (λ i. record { lock = (c.split-pass.ensures.kept i).lock; seen = (c.split-pass.ensures.kept i).seen; has = (c.split-pass.ensures.kept i).has; under = c.self.inside.number })
    ∙ ap (λ (p : SessionView _ _). record { lock = p.lock; seen = p.seen; has = slice_set p.has c.args.number false; under = p.under }) c.self.view_is

pub returns-clause-given : goal.returns-clause-given
returns-clause-given g c =
    (λ i. record { lock = (c.split-pass.ensures.given i).lock; seen = (c.split-pass.ensures.given i).seen; has = (c.split-pass.ensures.given i).has; under = c.args.number })
    ∙ ap (λ (p : SessionView _ _). record { lock = p.lock; seen = p.seen; has = only_number c.args.number; under = c.args.number }) c.self.view_is
