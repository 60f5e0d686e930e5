use Rattle.std.proofs.Common.{◌≡◌, ◌+◌, ◌<◌, ◌^◌, ℕ, [], ◌∷◌, ◌++◌, length, refl, ap, sym, subst, ◌∙◌, arith}
use Rattle.tree_model.specs.Tree.{Tree}
use Rattle.node_seq.specs.Trees.{StandsFor}
use Rattle.call_contract.specs.Sessions.{commits_in}
use Rattle.tx_core.specs.Commits.{PreparedView, IsPrepared, ReplaysOthers, pending_of, prepared_view}
use Rattle.tx_core.specs.Cores.{CoreView, state_from, next_number}
use Rattle.tx_core.proofs.Counted.{same_count}
use Rattle.tx_core.specs.inside.Kept.{undrained_of}
use Rattle.tx_core.proofs.Drained.{bodies_commit}
use Rattle.tx_core.proofs.Told.{number_fits}
use Rattle.tx_core.proofs.Kept.{core_commits}
use Rattle.tx_core.proofs.CommitsKept.{core_replays}
use Rattle.call_contract.specs.Lives.{NoCellIsShared}
use Rattle.tx_core.proofs.Kept.{shown_commit}
use Rattle.tx_core.proofs.Truths.{core_apart}
use Rattle.tx_core.proofs.engine.Core.commit.Goals as goal

pub commit-requires-clause-seated : goal.commit-requires-clause-seated
commit-requires-clause-seated g c = c.self.invariant.core.seated

pub commit-requires-clause-ready : goal.commit-requires-clause-ready
commit-requires-clause-ready g c = (c.self.invariant.core.seated.prepared c.args.session (ap (λ (v : CoreView _ _). v.prepared) c.self.view_is ∙ c.requires.prepared)).0

pub commit-requires-clause-spare : goal.commit-requires-clause-spare
commit-requires-clause-spare g c = (c.self.invariant.core.seated.prepared c.args.session (ap (λ (v : CoreView _ _). v.prepared) c.self.view_is ∙ c.requires.prepared)).1

pub commit-requires-clause-number : goal.commit-requires-clause-number
commit-requires-clause-number g c =
    ap (λ (p : PreparedView). p.number) c.prepared.view_is ∙ c.requires.commit.number ∙ sym (ap (λ (v : CoreView _ _). next_number v) c.self.view_is)
    ∙ ap (λ (k : ℕ). k + 1) (ap (λ (k : ℕ). k + commits_in c.self.inside.parts.book.items) (sym c.self.invariant.core.opened) ∙ sym c.self.invariant.core.seated.number)

pub invariant_of-self : goal.invariant_of-self
invariant_of-self g c =
    record {
      core =
          core_commits g.C.TreeCall.is_valid g.C.TreeCall.meaning g.B.NodeRead.contents g.B.NodeRead.count c.self.inside.opening.value c.self.inside.number c.self.inside.limit
          c.self.inside.parts _ c.commit.new.parts c.self.invariant.core c.commit.ensures.goes c.commit.ensures.seated
          (same_count g.B.NodeRead.count c.self.inside.opening.value c.self.inside.parts c.commit.new.parts c.commit.ensures.base);
      passed = c.commit.ensures.passed c.self.invariant.passed;
      bodies =
          let h = c.self.inside in
          let core = c.self.invariant.core in
          let made = prepared_view c.prepared.inside.number c.prepared.inside.body in
          let is : IsPrepared c.args.self.now made = subst (IsPrepared c.args.self.now) (sym c.prepared.view_is) c.requires.commit in
          let ready = (core.seated.prepared c.args.session (ap (λ (v : CoreView _ _). v.prepared) c.self.view_is ∙ c.requires.prepared)).0 in
          let next : made.number ≡ h.number + commits_in h.parts.book.items + 1 = is.number ∙ sym (ap (λ (v : CoreView _ _). next_number v) c.self.view_is) in
          let fits : made.number < 2 ^ 32 = omega (arith, next, core.opened, core.seated.number, number_fits h.parts c.args.session core.seated ready) in
          let short : length made.body < 2 ^ 32 = omega (arith, is.short) in
          bodies_commit h.number h.parts.book.items c.commit.new.parts.book.items h.parts.prepared c.commit.new.parts.prepared h.bodies c.keep.new.self _ (pending_of made) c.commit.ensures.goes.book refl c.commit.ensures.none_prepared
          c.keep.ensures.waiting c.keep.ensures.after next (record { changes = made.changes; rise = is.list.rise; read = is.read; short = short; fits = fits }) c.self.invariant.bodies;
    }

pub returns-clause-others : goal.returns-clause-others
returns-clause-others g c =
    subst (λ (v : CoreView _ _). (t : Tree) → StandsFor (g.B.NodeRead.contents v.opening) t → ReplaysOthers g.C.TreeCall.meaning (state_from g.C.TreeCall.meaning t v) c.args.session) c.self.view_is
    (λ t opens. core_replays g.C.TreeCall.is_valid g.C.TreeCall.meaning g.B.NodeRead.contents g.met.C.TreeCall.laws g.B.NodeRead.count c.self.inside.opening.value c.self.inside.number c.self.inside.limit
    c.self.inside.parts c.self.invariant.core t opens c.args.session)

pub returns-clause-committed : goal.returns-clause-committed
returns-clause-committed g c =
    let h = c.self.inside in
    let waits = c.keep.ensures.waiting ∙ ap (λ (p : PreparedView). h.bodies.waiting.items ++ pending_of p ∷ []) c.prepared.view_is in
    shown_commit g.C.TreeCall.is_valid g.C.TreeCall.meaning g.B.NodeRead.contents h.opening.value h.number h.limit (undrained_of h.bodies) (undrained_of c.keep.new.self) (pending_of c.args.prepared) h.parts c.commit.new.parts _ _ c.self.view_is c.commit.ensures.goes.book
    c.commit.ensures.none_prepared c.commit.ensures.base (λ i. record { after = c.keep.ensures.after i; waiting = waits i })

pub returns-clause-apart : goal.returns-clause-apart
returns-clause-apart g c =
    let h = c.self.inside in
    subst (λ (v : CoreView _ _). (t : Tree) → StandsFor (g.B.NodeRead.contents v.opening) t → NoCellIsShared (state_from g.C.TreeCall.meaning t v)) c.self.view_is
    (core_apart g.C.TreeCall.is_valid g.C.TreeCall.meaning g.B.NodeRead.contents g.met.C.TreeCall.laws g.B.NodeRead.count h.opening.value h.number h.limit h.parts c.self.invariant.core)

pub keep-requires : goal.keep-requires
keep-requires g c = c.self.invariant.bodies.room c.args.session (ap (λ (v : CoreView _ _). v.prepared) c.self.view_is ∙ c.requires.prepared)
