-- What is known of an input, piece by piece.
use Rattle.std.proofs.Common.{◌≡◌, ℕ, List, [], ◌∷◌, ◌++◌, refl, sym, ap, ◌∙◌, append_assoc}
use Rattle.std.specs.Prelude.{Some, None, Result, Err}
use Rattle.workers_text.specs.Limits.{KeepsLimits, too_long_in}
use Rattle.workers_text.specs.declared.script_error.ScriptError.{ScriptError}
use Rattle.workers_text.specs.declared.script_error.ScriptError.TheVariants.{TooLong, ReadFault, NoMemory}
use Rattle.workers_text.specs.inside.Inputs.{IfTooLong, IsTaken, Taken}
use Rattle.workers_text.proofs.TooLong.{kept, stays}

-- an input so far isn't too long
pub not_long : (i : Taken) (most short : ℕ) → i.most ≡ most → i.short ≡ short → KeepsLimits i.most i.short i.bytes → too_long_in most short i.bytes ≡ None
not_long i most short m s within = (λ j. too_long_in (sym m j) (sym s j) i.bytes) ∙ kept i.most i.short i.bytes within

-- how taking bytes ended
abbrev pub stopped : ScriptError → Result (Unit {0}) ScriptError
stopped e = Err e

-- what was taken of an input that stopped is known by its error
pub taken_up : {T : Type 0} (i : Taken) (most short : ℕ) (read : List ℕ) (e : ScriptError) (items : T → List ℕ) → i.most ≡ most → i.short ≡ short → (stopped e ≡ Err ReadFault → ⊥)
    → IfTooLong (stopped e) (λ line. too_long_in i.most i.short read ≡ Some line) → IsTaken most short read (Err e) items
taken_up i most short read (TooLong line) items m s sound long = (λ j. too_long_in (sym m j) (sym s j) read) ∙ long
taken_up i most short read ReadFault items m s sound long = absurd (sound refl)
taken_up i most short read NoMemory items m s sound long = tt

-- a byte of a piece was too many
pub long_yet : (i j : Taken) (k : ℕ) (piece front more : List ℕ) (e : ScriptError) → i.most ≡ j.most → i.short ≡ j.short → i.bytes ≡ j.bytes ++ front → piece ≡ front ++ k ∷ more
    → IfTooLong (stopped e) (λ line. too_long_in i.most i.short (i.bytes ++ k ∷ []) ≡ Some line) → IfTooLong (stopped e) (λ line. too_long_in j.most j.short (j.bytes ++ piece) ≡ Some line)
long_yet i j k piece front more (TooLong line) m s bytes cut long =
    let same : (i.bytes ++ k ∷ []) ++ more ≡ j.bytes ++ piece = append_assoc i.bytes (k ∷ []) more ∙ ap (λ t. t ++ k ∷ more) bytes ∙ append_assoc j.bytes front (k ∷ more) ∙ ap (λ t. j.bytes ++ t) (sym cut) in
    (λ v. too_long_in (sym m v) (sym s v) (sym same v)) ∙ stays i.most i.short (i.bytes ++ k ∷ []) more line long
long_yet i j k piece front more ReadFault m s bytes cut long = tt
long_yet i j k piece front more NoMemory m s bytes cut long = tt
