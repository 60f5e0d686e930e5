-- Stops in the calls of a disk, worked by hand: a write, a sync, a write that failed.
use Rattle.std.proofs.Common.{◌≡◌, List, [], ◌∷◌, refl}
use Rattle.outside_kinds.specs.StopImages.{until, behind_sync, torn}
use Rattle.outside_kinds.specs.declared.noted_call.DiskCall.TheVariants.{Write, FailedWrite, Sync}
use Rattle.outside_kinds.specs.declared.noted_call.NotedCall.{NotedCall}

abbrev first_write : NotedCall
first_write = record { number = 1; call = Write 1 (88 ∷ []) }

abbrev sync : NotedCall
sync = record { number = 3; call = Sync }

abbrev failed_write : NotedCall
failed_write = record { number = 4; call = FailedWrite 2 (90 ∷ []) }

abbrev all : List NotedCall
all = first_write ∷ sync ∷ failed_write ∷ []

-- a call that was no write or sync has a number too
pub before_a_read : until 2 all ≡ first_write ∷ []
before_a_read = refl

pub in_the_sync : until 3 all ≡ first_write ∷ []
in_the_sync = refl

pub in_the_failed_write : until 4 all ≡ all
in_the_failed_write = refl

pub open_after_the_sync : behind_sync all all ≡ failed_write ∷ []
open_after_the_sync = refl

pub torn_first_write : torn (first_write ∷ []) (97 ∷ 98 ∷ []) ≡ (97 ∷ 98 ∷ []) ∷ (97 ∷ 88 ∷ []) ∷ (97 ∷ 0 ∷ []) ∷ []
torn_first_write = refl
