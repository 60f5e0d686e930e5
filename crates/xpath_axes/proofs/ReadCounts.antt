-- The reads of a walk: one for each position that it has met, and one ahead.
use Rattle.std.proofs.Common.{◌≡◌, ◌+◌, ◌≤◌, ℕ, suc, List, [], ◌∷◌, ◌++◌, length, refl, sym, ap, ◌∙◌, arith}
use Rattle.std.proofs.lemmas.List.{length-append}
use Rattle.path_model.specs.Positions as path
use Rattle.xpath_axes.specs.declared.position.Position.{Position}
use Rattle.xpath_axes.specs.Positions.{plain, all_plain}

pub plain_pushed : (ps : List Position) (p : Position) → all_plain (ps ++ p ∷ []) ≡ all_plain ps ++ plain p ∷ []
plain_pushed [] p = refl
plain_pushed (q ∷ ps) p = ap (λ (xs : List path.Position). plain q ∷ xs) (plain_pushed ps p)

pub plain_length : (ps : List Position) → length (all_plain ps) ≡ length ps
plain_length [] = refl
plain_length (p ∷ ps) = ap suc (plain_length ps)

met_length : (before found : List Position) (out : List path.Position) → all_plain found ≡ all_plain before ++ out → length found ≡ length before + length out
met_length before found out e = sym (plain_length found) ∙ ap length e ∙ length-append (all_plain before) out ∙ ap (λ n. n + length out) (plain_length before)

-- where one more is to come, one read more is within the bound
pub reads_on : (first read after : ℕ) (before found : List Position) (out : List path.Position) (most : ℕ) → read + length before ≤ first + (length found + 1) → all_plain found ≡ all_plain before ++ out
    → length out + 1 ≤ most → after ≤ read + 1 → after ≤ first + (most + 1)
reads_on first read after before found out most h e m s = let n = met_length before found out e in omega (arith, h, n, m, s)

-- where all are met, no more is read
pub reads_at_end : (first read : ℕ) (before found : List Position) (out all : List path.Position) → read + length before ≤ first + (length found + 1) → all_plain found ≡ all_plain before ++ out
    → out ≡ all → read ≤ first + (length all + 1)
reads_at_end first read before found out all h e w = let n = met_length before found out e in let m = ap length w in omega (arith, h, n, m)

pub plain_append : (ps qs : List Position) → all_plain (ps ++ qs) ≡ all_plain ps ++ all_plain qs
plain_append [] qs = refl
plain_append (p ∷ ps) qs = ap (λ (xs : List path.Position). plain p ∷ xs) (plain_append ps qs)
