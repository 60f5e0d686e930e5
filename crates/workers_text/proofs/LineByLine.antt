-- The lines of bytes, one after the other.
use Rattle.std.proofs.Common.{◌≡◌, ℕ, suc, ◌+◌, List, [], ◌∷◌, ◌++◌, take, drop, refl, sym, ap, ◌∙◌, arith, append_assoc, append-nil, drop-drop}
use Rattle.script_runs.specs.Lines.{ended, unended, last_line, lines_of}
use Rattle.script_runs.specs.inside.Feeding.{EndsAt, IsInLine}
use Rattle.script_runs.proofs.FeedingLaws.{ended_in_line, ended_on, unended_in_line, unended_on}
use Rattle.command_lines.specs.Lines.{line_of}
use Rattle.workers_text.specs.Entries.{entries_from, entries_of, entry_by}
use Rattle.workers_text.specs.declared.entry.Entry.{Entry}

-- the bytes up to the first end of a line, and those behind it
pub cut_at : (rest line after next : List ℕ) (place : ℕ) → EndsAt rest place → line ≡ take place rest → after ≡ drop place rest → next ≡ drop 1 after → rest ≡ line ++ 10 ∷ next
cut_at rest line after next place ends front back more =
    let one : place + 1 ≡ suc place = omega arith in
    let next_is : next ≡ drop (suc place) rest = more ∙ ap (drop 1) back ∙ drop-drop 1 place rest ∙ ap (λ k. drop k rest) one in
    ends.cut ∙ ap (λ t. t ++ 10 ∷ drop (suc place) rest) (sym front) ∙ ap (λ t. line ++ 10 ∷ t) (sym next_is)

lines_cut : (line next : List ℕ) → IsInLine line → lines_of (line ++ 10 ∷ next) ≡ line ∷ lines_of next
lines_cut line next h =
    let ends : ended [] (line ++ 10 ∷ next) ≡ line ∷ ended [] next = ended_on [] line (10 ∷ next) ∙ ap (λ t. t ++ ended (unended [] line) (10 ∷ next)) (ended_in_line [] line h) ∙ ap (λ t. t ∷ ended [] next) (unended_in_line [] line h) in
    let left : unended [] (line ++ 10 ∷ next) ≡ unended [] next = unended_on [] line (10 ∷ next) in
    ap (λ t. t ++ last_line (unended [] (line ++ 10 ∷ next))) ends ∙ ap (λ t. line ∷ (ended [] next ++ last_line t)) left

lines_last : (line : List ℕ) → IsInLine line → lines_of line ≡ last_line line
lines_last line h = ap (λ t. t ++ last_line (unended [] line)) (ended_in_line [] line h) ∙ ap last_line (unended_in_line [] line h)

-- a line more was added, of those that were to come
pub line_on : (es fs : List Entry) (n : ℕ) (rest line next bytes : List ℕ) → fs ≡ es ++ entry_by (n + 1) (line_of line) → rest ≡ line ++ 10 ∷ next → IsInLine line
    → es ++ entries_from n (lines_of rest) ≡ entries_of bytes → fs ++ entries_from (n + 1) (lines_of next) ≡ entries_of bytes
line_on es fs n rest line next bytes added cut in_line so_far =
    ap (λ t. t ++ entries_from (n + 1) (lines_of next)) added
    ∙ append_assoc es (entry_by (n + 1) (line_of line)) (entries_from (n + 1) (lines_of next))
    ∙ ap (λ t. es ++ entries_from n t) (sym (ap lines_of cut ∙ lines_cut line next in_line))
    ∙ so_far

-- nothing is left
pub none_on : (es : List Entry) (n : ℕ) (rest bytes : List ℕ) → rest ≡ [] → es ++ entries_from n (lines_of rest) ≡ entries_of bytes → es ≡ entries_of bytes
none_on es n rest bytes empty so_far = sym (append-nil es) ∙ ap (λ t. es ++ entries_from n (lines_of t)) (sym empty) ∙ so_far

-- the last line was added, which ends with the input
pub last_on : (es fs : List Entry) (n : ℕ) (rest bytes : List ℕ) → fs ≡ es ++ entry_by (n + 1) (line_of rest) → IsInLine rest → (rest ≡ [] → ⊥)
    → es ++ entries_from n (lines_of rest) ≡ entries_of bytes → fs ≡ entries_of bytes
last_on es fs n [] bytes added in_line some so_far = absurd (some refl)
last_on es fs n (b ∷ rest) bytes added in_line some so_far =
    added ∙ ap (λ t. es ++ t) (sym (append-nil (entry_by (n + 1) (line_of (b ∷ rest))))) ∙ ap (λ t. es ++ entries_from n t) (sym (lines_last (b ∷ rest) in_line)) ∙ so_far
