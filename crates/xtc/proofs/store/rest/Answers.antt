use Rattle.std.proofs.Common.{Err, refl, ap}
use Rattle.xtc.proofs.StoreMachineLaws.{counted_out, first_known}
use Rattle.xtc.proofs.store.rest.Goals as goal

pub returns-in-Err-Damaged-clause-damaged : goal.returns-in-Err-Damaged-clause-damaged
returns-in-Err-Damaged-clause-damaged g c = λ place it. let is = c.in-Err-Damaged.ensures.damaged c.in-Err-Damaged.place (ap Err c.in-Err-Damaged.field-0-is) in (first_known _ _ is.0, is.1)

pub returns-in-Err-DiskFault-clause-counts : goal.returns-in-Err-DiskFault-clause-counts
returns-in-Err-DiskFault-clause-counts g c = counted_out _ _ c.in-Err-DiskFault.ensures.counts (λ is. ap Err c.in-Err-DiskFault.field-0-is) (λ never is. never refl)

pub returns-in-Ok-clause-counts : goal.returns-in-Ok-clause-counts
returns-in-Ok-clause-counts g c = counted_out _ _ c.in-Ok.ensures.counts (λ is. absurd cc) (λ never is. cc)

pub returns-in-Err-NoMemory-clause-counts : goal.returns-in-Err-NoMemory-clause-counts
returns-in-Err-NoMemory-clause-counts g c = counted_out _ _ c.in-Err-NoMemory.ensures.counts (λ is. absurd cc) (λ never is. cc)

pub returns-in-Err-Damaged-clause-counts : goal.returns-in-Err-Damaged-clause-counts
returns-in-Err-Damaged-clause-counts g c = counted_out _ _ c.in-Err-Damaged.ensures.counts (λ is. absurd cc) (λ never is. cc)

pub returns-in-Err-DiskFault-clause-files : goal.returns-in-Err-DiskFault-clause-files
returns-in-Err-DiskFault-clause-files g c = λ kj kp s stands files. record { any_moment = (c.in-Err-DiskFault.ensures.files kj kp s stands files).any_moment; at_end = tt }

pub returns-in-Err-NoMemory-clause-files : goal.returns-in-Err-NoMemory-clause-files
returns-in-Err-NoMemory-clause-files g c = λ kj kp s stands files. record { any_moment = (c.in-Err-NoMemory.ensures.files kj kp s stands files).any_moment; at_end = tt }

pub returns-in-Err-Damaged-clause-files : goal.returns-in-Err-Damaged-clause-files
returns-in-Err-Damaged-clause-files g c = λ kj kp s stands files. record { any_moment = (c.in-Err-Damaged.ensures.files kj kp s stands files).any_moment; at_end = tt }

pub returns-in-Ok-clause-files : goal.returns-in-Ok-clause-files
returns-in-Ok-clause-files g c = λ kj kp s stands files. let left = c.in-Ok.ensures.files kj kp s stands files in record { any_moment = left.any_moment; at_end = left.at_end }
