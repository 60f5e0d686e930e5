-- A disk in memory with one call more.
use Rattle.std.proofs.Common.{◌≡◌, ◌≤◌, ◌⊎◌, inl, inr, ℕ, List, [], ◌∷◌, ◌++◌, length, refl, sym, ap, ◌∙◌, subst}
use Rattle.outside_traits.specs.Disks.{DiskState, OpensRange, Wrote, Synced, Unsynced}
use Rattle.outside_traits.specs.Moments.{History, TakesStep, Fails}
use Rattle.outside_traits.proofs.ImageLaws.{put_at_or_past-within}
use Rattle.outside_kinds.specs.MemoryDisks.{DiskInMemory, KeepsBytes, state_after, after_call, after_calls, start, history_of, with_call}
use Rattle.outside_kinds.specs.declared.noted_call.DiskCall.{DiskCall}
use Rattle.outside_kinds.specs.declared.noted_call.DiskCall.TheVariants.{Write, FailedWrite, Sync, FailedSync}
use Rattle.outside_kinds.specs.declared.noted_call.NotedCall.{NotedCall}

pub after_calls-push : (calls : List NotedCall) (noted : NotedCall) (t : History) → after_calls (calls ++ noted ∷ []) t ≡ after_call noted.call (after_calls calls t)
after_calls-push [] noted t = refl
after_calls-push (first ∷ calls) noted t = after_calls-push calls noted (after_call first.call t)

-- what a read gives stays
pub keeps_bytes : (call : DiskCall) (s : DiskState) → KeepsBytes call → (state_after call s).reads ≡ s.reads
keeps_bytes (Write at bytes) s none = elim none [ ]
keeps_bytes (FailedWrite at bytes) s keeps = refl
keeps_bytes Sync s keeps = refl
keeps_bytes FailedSync s keeps = refl

pub reads_kept : (call : DiskCall) (number : ℕ) (calls : List NotedCall) (t : History) → KeepsBytes call
    → (after_calls (calls ++ record { number = number; call = call } ∷ []) t).now.reads ≡ (after_calls calls t).now.reads
reads_kept call number calls t keeps =
    ap (λ (u : History). u.now.reads) (after_calls-push calls (record { number = number; call = call }) t) ∙ keeps_bytes call (after_calls calls t).now keeps

pub history_with : (call : DiskCall) (d : DiskInMemory) → history_of (with_call call d) ≡ after_call call (history_of d)
history_with call d = after_calls-push d.noted (record { number = d.count.calls; call = call }) (start d.first)

pub goes_wrote : (at : ℕ) (bytes : List ℕ) (t : History) → at ≤ length t.now.reads → TakesStep (Wrote at bytes) t (after_call (Write at bytes) t)
goes_wrote at bytes t le = record {
  by = record { opens = record { synced = refl; written = refl; longest = refl }; reads = put_at_or_past-within at bytes t.now.reads le };
  past = refl;
}

pub goes_opened : (at : ℕ) (bytes : List ℕ) (t : History) → TakesStep (OpensRange at (length bytes)) t (after_call (FailedWrite at bytes) t)
goes_opened at bytes t = record { by = record { synced = refl; written = refl; longest = refl }; past = refl }

pub goes_synced : (t : History) → TakesStep Synced t (after_call Sync t)
goes_synced t = record { by = refl; past = refl }

pub goes_unsynced : (t : History) → TakesStep Unsynced t (after_call FailedSync t)
goes_unsynced t = record { by = record { synced = refl; written = refl; longest = refl }; past = refl }

-- a call that was noted, whatever the count is now
pub history_after : (call : DiskCall) (old d new : DiskInMemory) → history_of d ≡ history_of old → new ≡ with_call call d → history_of new ≡ after_call call (history_of old)
history_after call old d new same noted = ap history_of noted ∙ history_with call d ∙ ap (after_call call) same

pub goes : (step : DiskState → DiskState → Type 0) (call : DiskCall) (old d new : DiskInMemory) → history_of d ≡ history_of old → new ≡ with_call call d
    → TakesStep step (history_of old) (after_call call (history_of old)) → TakesStep step (history_of old) (history_of new)
goes step call old d new same noted by = subst (TakesStep step (history_of old)) (sym (history_after call old d new same noted)) by

-- a call that failed, noted or not
pub fails : (step : DiskState → DiskState → Type 0) (call : DiskCall) (old d new : DiskInMemory) → history_of d ≡ history_of old → (new ≡ d) ⊎ (new ≡ with_call call d)
    → TakesStep step (history_of old) (after_call call (history_of old)) → Fails step (history_of old) (history_of new)
fails step call old d new same (inl still) by = inl (ap history_of still ∙ same)
fails step call old d new same (inr noted) by = inr (goes step call old d new same noted by)

-- a call that keeps the bytes, noted or not
pub bytes_kept : (call : DiskCall) (old d new : DiskInMemory) → history_of d ≡ history_of old → (new ≡ d) ⊎ (new ≡ with_call call d) → KeepsBytes call
    → (history_of new).now.reads ≡ (history_of old).now.reads
bytes_kept call old d new same (inl still) keeps = ap (λ (x : DiskInMemory). (history_of x).now.reads) still ∙ ap (λ (t : History). t.now.reads) same
bytes_kept call old d new same (inr noted) keeps = ap (λ (t : History). t.now.reads) (history_after call old d new same noted) ∙ keeps_bytes call (history_of old).now keeps
