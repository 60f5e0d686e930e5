-- What a read of a disk in memory gives is among what may remain of it, whatever its calls were.
use Rattle.std.specs.Prelude.{ℕ, ◌+◌, List, [], ◌∷◌, length}
use Rattle.std.proofs.Math.Nat.{le_refl}
use mathlib.Core.Path.{refl}
use Rattle.outside_traits.specs.Disks.{DiskState, OpensRange, put_at_or_past}
use Rattle.outside_traits.specs.CrashImages.{Remains}
use Rattle.outside_traits.specs.Moments.{History}
use Rattle.outside_traits.proofs.ImageLaws.{remains-rests, remains-opens, remains-put_at_or_past, open-written}
use Rattle.outside_kinds.specs.MemoryDisks.{DiskInMemory, range_opened, wrote, state_after, after_call, after_calls, start, history_of}
use Rattle.outside_kinds.specs.declared.noted_call.DiskCall.{DiskCall}
use Rattle.outside_kinds.specs.declared.noted_call.DiskCall.TheVariants.{Write, FailedWrite, Sync, FailedSync}
use Rattle.outside_kinds.specs.declared.noted_call.NotedCall.{NotedCall}

pub opens-wrote : (at : ℕ) (bytes : List ℕ) (s : DiskState) → OpensRange at (length bytes) s (wrote at bytes s)
opens-wrote at bytes s = record { synced = refl; written = refl; longest = refl }

pub opens-opened : (at n : ℕ) (s : DiskState) → OpensRange at n s (range_opened at n s)
opens-opened at n s = record { synced = refl; written = refl; longest = refl }

-- a file with a write on it is an image once the write's range is open
pub remains-wrote : (at : ℕ) (bytes file : List ℕ) (s next : DiskState) → OpensRange at (length bytes) s next → Remains s file → Remains next (put_at_or_past at bytes file)
remains-wrote at bytes file s next opens is =
    remains-put_at_or_past at bytes file next (open-written at (length bytes) s next opens at (length bytes) (le_refl at) (le_refl (at + length bytes)))
    (remains-opens at (length bytes) s next opens file is)

pub remains-after_call : (call : DiskCall) (s : DiskState) → Remains s s.reads → Remains (state_after call s) (state_after call s).reads
remains-after_call (Write at bytes) s is = remains-wrote at bytes s.reads s (wrote at bytes s) (opens-wrote at bytes s) is
remains-after_call (FailedWrite at bytes) s is = remains-opens at (length bytes) s (range_opened at (length bytes) s) (opens-opened at (length bytes) s) s.reads is
remains-after_call Sync s is = remains-rests s.reads
remains-after_call FailedSync s is = is

pub remains-after_calls : (calls : List NotedCall) (t : History) → Remains t.now t.now.reads → Remains (after_calls calls t).now (after_calls calls t).now.reads
remains-after_calls [] t is = is
remains-after_calls (noted ∷ more) t is = remains-after_calls more (after_call noted.call t) (remains-after_call noted.call t.now is)

pub reads-remain : (d : DiskInMemory) → Remains (history_of d).now (history_of d).now.reads
reads-remain d = remains-after_calls d.noted (start d.first) (remains-rests d.first)
