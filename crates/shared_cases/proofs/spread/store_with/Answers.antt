use Rattle.std.proofs.Common.{◌∙◌, ap}
use Rattle.turn_lock.specs.Turns.{has_number}
use Rattle.shared_store.specs.Sessions.{SessionView}
use Rattle.shared_cases.proofs.spread.store_with.Goals as goal

pub returns : goal.returns
returns g c =
    let made = c.in_ok-store.ensures in
    let kept = c.replies_to.ensures in (
      ap (λ (v : SessionView _ _). v.lock) kept ∙ made.0,
      ap (λ (v : SessionView _ _). v.under) kept ∙ made.1,
      λ n l. ap (λ (v : SessionView _ _). has_number v.has n) kept ∙ made.2 n l,
    )
