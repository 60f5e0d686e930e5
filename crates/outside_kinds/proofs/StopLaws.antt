-- The images of a crash in a call.
use Rattle.std.proofs.Common.{◌≡◌, ◌≤◌, ◌-◌, ℕ, Bool, true, false, if◌then◌else◌, List, [], ◌∷◌, ◌++◌, length, take, replicate, refl, sym, ap, ◌∙◌, subst, arith, rules, append_assoc, length-append}
use Rattle.std.proofs.lemmas.List.{length-replicate}
use Rattle.std.proofs.lemmas.List.Elements.{All-cons, All-append, All-nil}
use Rattle.std.proofs.Math.Seq.{take-append_seam}
use Rattle.std.specs.List.{All}
use Rattle.outside_traits.specs.Disks.{DiskState, OpensRange, all_synced, put_at_or_past}
use Rattle.outside_traits.specs.Bytes.{IsBytes}
use Rattle.outside_traits.specs.CrashImages.{Remains, IsImage}
use Rattle.outside_traits.specs.Moments.{History, Since}
use Rattle.outside_traits.proofs.ImageLaws.{remains-rests, remains-opens, remains-put_at_or_past, open-written}
use Rattle.outside_traits.proofs.MomentLaws.{since_itself, since_on}
use Rattle.outside_kinds.proofs.DiskLaws.{opens-wrote, opens-opened}
use Rattle.outside_kinds.specs.MemoryDisks.{state_after, after_call, after_calls, start}
use Rattle.outside_kinds.specs.StopImages.{is_sync, until, behind_sync, torn_by, torn}
use Rattle.outside_kinds.specs.declared.noted_call.DiskCall.{DiskCall}
use Rattle.outside_kinds.specs.declared.noted_call.DiskCall.TheVariants.{Write, FailedWrite, Sync, FailedSync}
use Rattle.outside_kinds.specs.declared.noted_call.NotedCall.{NotedCall}
use Rattle.outside_kinds.proofs.Replay.{after_calls-push}

-- what a read gives after these calls
abbrev pub written_by : DiskCall → List ℕ → List ℕ
written_by (Write at bytes) file = put_at_or_past at bytes file
written_by (FailedWrite at bytes) file = file
written_by Sync file = file
written_by FailedSync file = file

abbrev pub written : List NotedCall → List ℕ → List ℕ
written [] file = file
written (noted ∷ more) file = written more (written_by noted.call file)

reads_by : (call : DiskCall) (s : DiskState) → (state_after call s).reads ≡ written_by call s.reads
reads_by (Write at bytes) s = refl
reads_by (FailedWrite at bytes) s = refl
reads_by Sync s = refl
reads_by FailedSync s = refl

pub reads_after : (calls : List NotedCall) (t : History) → (after_calls calls t).now.reads ≡ written calls t.now.reads
reads_after [] t = refl
reads_after (noted ∷ more) t = reads_after more (after_call noted.call t) ∙ ap (written more) (reads_by noted.call t.now)

-- the calls until a stop are some first ones of all
until_some : (b c : Bool) (noted : NotedCall) (more rest : List NotedCall) → (rests_of : List NotedCall) × rest ++ rests_of ≡ more
    → (after : List NotedCall) × ((if b then noted ∷ rest else if c then noted ∷ [] else []) ++ after ≡ noted ∷ more)
until_some true c noted more rest found = (found.0, ap (λ (l : List NotedCall). noted ∷ l) found.1)
until_some false true noted more rest found = (more, refl)
until_some false false noted more rest found = (noted ∷ more, refl)

pub until-first : (number : ℕ) (calls : List NotedCall) → (after : List NotedCall) × (until number calls ++ after ≡ calls)
until-first number [] = ([], refl)
until-first number (noted ∷ more) = until_some _ _ noted more (until number more) (until-first number more)

after_calls-append : (first second : List NotedCall) (t : History) → after_calls (first ++ second) t ≡ after_calls second (after_calls first t)
after_calls-append [] second t = refl
after_calls-append (noted ∷ more) second t = after_calls-append more second (after_call noted.call t)

since_calls : (calls : List NotedCall) (t : History) → Since t (after_calls calls t)
since_calls [] t = since_itself t
since_calls (noted ∷ more) t = since_on t (after_call noted.call t) (after_calls more (after_call noted.call t))
    (record { more = (after_call noted.call t).now ∷ []; states = refl }) (since_calls more (after_call noted.call t))

-- a stop is a moment of the disk's life
pub since_stop : (number : ℕ) (calls : List NotedCall) (t : History) → Since (after_calls (until number calls) t) (after_calls calls t)
since_stop number calls t =
    let found = until-first number calls in
    subst (Since (after_calls (until number calls) t))
    (sym (after_calls-append (until number calls) found.0 t) ∙ ap (λ (l : List NotedCall). after_calls l t) found.1)
    (since_calls found.0 (after_calls (until number calls) t))

abbrev NoSync : List NotedCall → Type 0
NoSync [] = Unit {0}
NoSync (noted ∷ more) = (is_sync noted.call ≡ false) × NoSync more

no_sync-append : (first second : List NotedCall) → NoSync first → NoSync second → NoSync (first ++ second)
no_sync-append [] second of_first of_second = of_second
no_sync-append (noted ∷ more) second of_first of_second = (of_first.0, no_sync-append more second of_first.1 of_second)

-- calls that end at rest, and behind them calls with no sync
record IsSplit (first : List ℕ) (calls behind : List NotedCall) : Type 0 where
  pub before : List NotedCall
  pub all : before ++ behind ≡ calls
  pub at_rest : (after_calls before (start first)).now ≡ all_synced (after_calls before (start first)).now.reads
  pub none : NoSync behind

at_rest-sync : (call : DiskCall) (s : DiskState) → is_sync call ≡ true → state_after call s ≡ all_synced (state_after call s).reads
at_rest-sync (Write at bytes) s is = search (rules, is)
at_rest-sync (FailedWrite at bytes) s is = search (rules, is)
at_rest-sync Sync s is = refl
at_rest-sync FailedSync s is = search (rules, is)

behind-sync : (noted : NotedCall) (so_far more : List NotedCall) → is_sync noted.call ≡ true → behind_sync so_far (noted ∷ more) ≡ behind_sync more more
behind-sync noted so_far more is = ap (λ (b : Bool). if b then behind_sync more more else behind_sync so_far more) is

behind-other : (noted : NotedCall) (so_far more : List NotedCall) → is_sync noted.call ≡ false → behind_sync so_far (noted ∷ more) ≡ behind_sync so_far more
behind-other noted so_far more is = ap (λ (b : Bool). if b then behind_sync more more else behind_sync so_far more) is

abbrev AtRest : List ℕ → List NotedCall → Type 0
AtRest first calls = (after_calls calls (start first)).now ≡ all_synced (after_calls calls (start first)).now.reads

-- wherever calls were at rest and then had no sync, what follows splits all of them
abbrev Splits : List ℕ → List NotedCall → Type 0
Splits first rest = (pre so_far : List NotedCall) → AtRest first pre → NoSync so_far → IsSplit first (pre ++ (so_far ++ rest)) (behind_sync (so_far ++ rest) rest)

split_by : (first : List ℕ) (noted : NotedCall) (more : List NotedCall) → Splits first more → (b : Bool) → is_sync noted.call ≡ b → Splits first (noted ∷ more)
split_by first noted more later true is pre so_far at_rest none =
    let pushed = after_calls-push (pre ++ so_far) noted (start first) in
    let rest_now : AtRest first ((pre ++ so_far) ++ noted ∷ []) =
    ap (λ (t : History). t.now) pushed ∙ at_rest-sync noted.call (after_calls (pre ++ so_far) (start first)).now is ∙ ap (λ (t : History). all_synced t.now.reads) (sym pushed) in
    let found = later ((pre ++ so_far) ++ noted ∷ []) [] rest_now tt in
    subst (IsSplit first (pre ++ (so_far ++ noted ∷ more))) (sym (behind-sync noted (so_far ++ noted ∷ more) more is))
    (subst (λ (l : List NotedCall). IsSplit first l (behind_sync more more)) (append_assoc (pre ++ so_far) (noted ∷ []) more ∙ append_assoc pre so_far (noted ∷ more)) found)
split_by first noted more later false is pre so_far at_rest none =
    let found = later pre (so_far ++ noted ∷ []) at_rest (no_sync-append so_far (noted ∷ []) none (is, tt)) in
    subst (IsSplit first (pre ++ (so_far ++ noted ∷ more))) (sym (behind-other noted (so_far ++ noted ∷ more) more is))
    (subst (λ (l : List NotedCall). IsSplit first (pre ++ l) (behind_sync l more)) (append_assoc so_far (noted ∷ []) more) found)

split : (first : List ℕ) (rest : List NotedCall) → Splits first rest
split first [] pre so_far at_rest none = record { before = pre; all = refl; at_rest = at_rest; none = no_sync-append so_far [] none tt }
split first (noted ∷ more) pre so_far at_rest none = split_by first noted more (split first more) (is_sync noted.call) refl pre so_far at_rest none

-- a file with a write or with zeros in its range
module _ (at : ℕ) (bytes file : List ℕ) (s next : DiskState) (opens : OpensRange at (length bytes) s next) (is : Remains s file) where
  still : Remains next file
  still = remains-opens at (length bytes) s next opens file is

  as_written : Remains next (put_at_or_past at bytes file)
  as_written = remains-put_at_or_past at bytes file next (open-written at (length bytes) s next opens at (length bytes) (omega arith) (omega arith)) still

  as_zeros : Remains next (put_at_or_past at (replicate (length bytes) 0) file)
  as_zeros =
      let zeros : List ℕ = replicate (length bytes) 0 in
      let as_many : length zeros ≡ length bytes = length-replicate {A = ℕ} (length bytes) 0 in
      remains-put_at_or_past at zeros file next (open-written at (length bytes) s next opens at (length zeros) (omega arith) (omega (arith, as_many))) still

torn_each : (call : DiskCall) (later : List ℕ → List (List ℕ)) (P : List ℕ → Type 0) (s : DiskState) (file : List ℕ) → is_sync call ≡ false → Remains s file
    → ((next : List ℕ) → Remains (state_after call s) next → All P (later next)) → All P (torn_by call later file)
torn_each (Write at bytes) later P s file other is each =
    let opens = opens-wrote at bytes s in
    All-append P (later file) _ (each file (still at bytes file s _ opens is))
    (All-append P (later (put_at_or_past at bytes file)) _ (each _ (as_written at bytes file s _ opens is)) (each _ (as_zeros at bytes file s _ opens is)))
torn_each (FailedWrite at bytes) later P s file other is each =
    let opens = opens-opened at (length bytes) s in
    All-append P (later file) _ (each file (still at bytes file s _ opens is))
    (All-append P (later (put_at_or_past at bytes file)) _ (each _ (as_written at bytes file s _ opens is)) (each _ (as_zeros at bytes file s _ opens is)))
torn_each Sync later P s file other is each = search (rules, other)
torn_each FailedSync later P s file other is each = each file is

remains-torn : (calls : List NotedCall) (t : History) (file : List ℕ) → NoSync calls → Remains t.now file → All (Remains (after_calls calls t).now) (torn calls file)
remains-torn [] t file none is = All-cons (Remains t.now) file [] is (All-nil (Remains t.now))
remains-torn (noted ∷ more) t file none is =
    torn_each noted.call (torn more) (Remains (after_calls more (after_call noted.call t)).now) t.now file none.0 is (λ next is_next. remains-torn more (after_call noted.call t) next none.1 is_next)

synced_by : (call : DiskCall) (s : DiskState) → is_sync call ≡ false → (state_after call s).synced ≡ s.synced
synced_by (Write at bytes) s other = refl
synced_by (FailedWrite at bytes) s other = refl
synced_by Sync s other = search (rules, other)
synced_by FailedSync s other = refl

synced_after : (calls : List NotedCall) (t : History) → NoSync calls → (after_calls calls t).now.synced ≡ t.now.synced
synced_after [] t none = refl
synced_after (noted ∷ more) t none = synced_after more (after_call noted.call t) none.1 ∙ synced_by noted.call t.now none.0

-- what the calls before the last sync make of the first bytes
module _ (first : List ℕ) (calls : List NotedCall) where
  abbrev behind : List NotedCall
  behind = behind_sync calls calls

  abbrev before : List NotedCall
  before = take (length calls - length behind) calls

  parts : IsSplit first calls behind
  parts = split first calls [] [] refl tt

  before-is : before ≡ parts.before
  before-is =
      let long : length calls - length behind ≡ length parts.before = omega (arith, length-append parts.before behind, ap length parts.all) in
      (λ i. take (long i) (sym parts.all i)) ∙ take-append_seam parts.before behind

  ends : after_calls calls (start first) ≡ after_calls behind (after_calls parts.before (start first))
  ends = ap (λ (l : List NotedCall). after_calls l (start first)) (sym parts.all) ∙ after_calls-append parts.before behind (start first)

  file-is : (after_calls before (start first)).now.reads ≡ (after_calls parts.before (start first)).now.reads
  file-is = ap (λ (l : List NotedCall). (after_calls l (start first)).now.reads) before-is

  pub file-synced : (after_calls before (start first)).now.reads ≡ (after_calls calls (start first)).now.synced
  file-synced =
      file-is ∙ sym (ap (λ (s : DiskState). s.synced) parts.at_rest)
      ∙ sym (synced_after behind (after_calls parts.before (start first)) parts.none)
      ∙ ap (λ (t : History). t.now.synced) (sym ends)

  pub file-remains : All (Remains (after_calls calls (start first)).now) (torn behind (after_calls before (start first)).now.reads)
  file-remains =
      let file = (after_calls parts.before (start first)).now.reads in
      let is : Remains (after_calls parts.before (start first)).now file = subst (λ (s : DiskState). Remains s file) (sym parts.at_rest) (remains-rests file) in
      subst (λ (f : List ℕ). All (Remains (after_calls calls (start first)).now) (torn behind f)) (sym file-is)
      (subst (λ (t : History). All (Remains t.now) (torn behind file)) (sym ends) (remains-torn behind (after_calls parts.before (start first)) file parts.none is))

pub behind-shorter : (calls : List NotedCall) → length (behind_sync calls calls) ≤ length calls
behind-shorter calls = omega (arith, length-append (parts [] calls).before (behind_sync calls calls), ap length (parts [] calls).all)

-- the images that are gathered from an empty list
pub gathered : (first : List ℕ) (calls own_calls behind_calls before_calls : List NotedCall) (own_first file : List ℕ) (images none : List (List ℕ))
    → own_calls ≡ calls → own_first ≡ first → behind_calls ≡ behind_sync own_calls own_calls → before_calls ≡ take (length own_calls - length behind_calls) own_calls
    → file ≡ (after_calls before_calls (start own_first)).now.reads → none ≡ [] → images ≡ none ++ torn behind_calls file
    → images ≡ torn (behind_sync calls calls) (after_calls (take (length calls - length (behind_sync calls calls)) calls) (start first)).now.reads
gathered first calls own_calls behind_calls before_calls own_first file images none is_calls is_first is_behind is_before is_file is_none is_images =
    let behind_is : behind_calls ≡ behind_sync calls calls = is_behind ∙ ap (λ (l : List NotedCall). behind_sync l l) is_calls in
    let before_is : before_calls ≡ take (length calls - length (behind_sync calls calls)) calls = is_before ∙ (λ i. take (length (is_calls i) - length (behind_is i)) (is_calls i)) in
    let file_is : file ≡ (after_calls (take (length calls - length (behind_sync calls calls)) calls) (start first)).now.reads = is_file ∙ (λ i. (after_calls (before_is i) (start (is_first i))).now.reads) in
    is_images ∙ (λ i. is_none i ++ torn (behind_is i) (file_is i))

-- ---- in bytes

-- what may remain, and is bytes, is an image
pub images-all : (s : DiskState) (files : List (List ℕ)) → All (Remains s) files → All IsBytes files → All (IsImage s) files
images-all s files remain are k d l = record { remains = remain k d l; bytes = are k d l }
