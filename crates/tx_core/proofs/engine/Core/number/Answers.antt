use Rattle.std.proofs.Common.{◌≡◌, ℕ, ◌+◌, ap, subst, ◌∙◌}
use Rattle.call_contract.specs.Sessions.{commits_in}
use Rattle.tx_core.specs.Cores.{CoreView}
use Rattle.tx_core.proofs.engine.Core.number.Goals as goal

pub returns : goal.returns
returns g c =
    let h = c.self.inside in
    let core = c.self.invariant.core in
    subst (λ (v : CoreView _ _). h.parts.number ≡ v.number + commits_in v.book) c.self.view_is (core.seated.number ∙ ap (λ (k : ℕ). k + commits_in h.parts.book.items) core.opened)
