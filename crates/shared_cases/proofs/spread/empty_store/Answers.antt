use Rattle.std.proofs.Common.{◌∙◌, ap}
use Rattle.turn_lock.proofs.Numbers.{all_there}
use Rattle.turn_lock.specs.Turns.{has_number}
use Rattle.shared_store.specs.Sessions.{SessionView}
use Rattle.shared_cases.proofs.spread.empty_store.Goals as goal

pub returns-in-Ok-new : goal.returns-in-Ok-new
returns-in-Ok-new c =
    let made = c.in-Ok-new.ensures.ok in (
      ap (λ (v : SessionView _ _). v.lock) made,
      ap (λ (v : SessionView _ _). v.under) made,
      λ n l. ap (λ (v : SessionView _ _). has_number v.has n) made ∙ all_there n l,
    )
