-- What a list of requests has gained while the requests on a way down are put behind it.
use Rattle.std.specs.Prelude.{◌≡◌, List, ◌++◌}
use Rattle.lock_resources.specs.declared.request.Request.{Request}

-- the list goes on behind what it was
abbrev pub GoesOn : List Request → List Request → Type 0
GoesOn old new = (more : List Request) × (new ≡ old ++ more)

-- the list has gained all of `whole` but its end `rest`
pub record GainedAllBut (old new whole rest : List Request) : Type 0 where
  pub prefix : List Request
  pub gained : new ≡ old ++ prefix
  pub all : prefix ++ rest ≡ whole
