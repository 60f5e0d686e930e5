-- Which inputs are too long, byte by byte.
use Rattle.std.proofs.Common.{◌≡◌, ◌≤◌, ◌<◌, ◌+◌, ◌-◌, ℕ, suc, true, false, cond, eqb, ltb, List, [], ◌∷◌, ◌++◌, length, take, refl, sym, ap, ◌∙◌, subst, arith, append-nil, length-append, inl, inr}
use Rattle.std.specs.Prelude.{Option, Some, None}
use Rattle.std.specs.Option.{option_or}
use Rattle.std.proofs.lemmas.Bool.Decides.{eqb_tells}
use Rattle.std.proofs.lemmas.List.{take-append-le, take_all}
use Rattle.std.proofs.Math.Seq.{take-append-add}
use Rattle.script_runs.specs.Lines.{ended, unended, last_line, lines_of, first_long, AllShort}
use Rattle.script_runs.proofs.LineEnds.{ltb_tells}
use Rattle.script_runs.proofs.FeedingLaws.{ended_on, unended_on, short_on}
use Rattle.script_runs.proofs.RunLaws.{lines_from, lines_on, long_behind}
use Rattle.workers_text.specs.Limits.{KeepsLimits, past, too_long_in}
use Rattle.workers_text.specs.inside.Inputs.{IsCounted, column_after, lines_after}

some_is : (k n : ℕ) → Some k ≡ Some n → k ≡ n
some_is k n is = cc

-- ---- long lines

-- a line that is long already is long
still_long : (short n : ℕ) (line bytes : List ℕ) → short < length line → first_long short n (lines_from line bytes) ≡ Some n
still_long short n [] [] h = absurd (omega arith)
still_long short n (x ∷ line) [] h = elim (ltb_tells short (suc (length line))) [ inl e ↦ ap (λ v. cond v (Some n) None) e.0 | inr e ↦ absurd (omega (arith, e.1)) ]
still_long short n line (b ∷ bytes) h =
    elim (eqb b 10) as (λ v. first_long short n (cond v (line ∷ ended [] bytes) (ended (line ++ b ∷ []) bytes) ++ last_line (cond v (unended [] bytes) (unended (line ++ b ∷ []) bytes))) ≡ Some n) [
      | true ↦ elim (ltb_tells short (length line)) [ inl e ↦ ap (λ v. cond v (Some n) (first_long short (n + 1) (lines_from [] bytes))) e.0 | inr e ↦ absurd (omega (arith, e.1)) ]
      | false ↦ still_long short n (line ++ b ∷ []) bytes (omega (arith, length-append line (b ∷ [])))
    ]

-- a first line that is long stays the first, whatever comes behind
long_on : (short n k : ℕ) (line bytes more : List ℕ) → first_long short n (lines_from line bytes) ≡ Some k → first_long short n (lines_from line (bytes ++ more)) ≡ Some k
long_on short n k [] [] more is = absurd cc
long_on short n k (x ∷ line) [] more is = elim (ltb_tells short (suc (length line))) [
  | inl e ↦ still_long short n (x ∷ line) more e.1 ∙ sym (ap (λ v. cond v (Some n) None) e.0) ∙ is
  | inr e ↦ let no : None ≡ Some k = sym (ap (λ v. cond v (Some n) None) e.0) ∙ is in absurd cc
]
long_on short n k line (b ∷ bytes) more is =
    elim (eqb b 10) as (λ v. first_long short n (cond v (line ∷ ended [] bytes) (ended (line ++ b ∷ []) bytes) ++ last_line (cond v (unended [] bytes) (unended (line ++ b ∷ []) bytes))) ≡ Some k
    → first_long short n (cond v (line ∷ ended [] (bytes ++ more)) (ended (line ++ b ∷ []) (bytes ++ more)) ++ last_line (cond v (unended [] (bytes ++ more)) (unended (line ++ b ∷ []) (bytes ++ more)))) ≡ Some k) [
      | true ↦ λ it.
          elim (ltb short (length line)) as (λ v. cond v (Some n) (first_long short (n + 1) (lines_from [] bytes)) ≡ Some k → cond v (Some n) (first_long short (n + 1) (lines_from [] (bytes ++ more))) ≡ Some k) [
            | true ↦ λ e. e
            | false ↦ λ e. long_on short (n + 1) k [] bytes more e
          ] it
      | false ↦ λ it. long_on short n k (line ++ b ∷ []) bytes more it
    ] is

-- ---- short lines

none_long : (short n : ℕ) (lines : List (List ℕ)) → AllShort short lines → first_long short n lines ≡ None
none_long short n [] h = refl
none_long short n (line ∷ lines) h =
    elim (ltb_tells short (length line)) [ inl e ↦ absurd (omega (arith, h.0, e.1)) | inr e ↦ ap (λ v. cond v (Some n) (first_long short (n + 1) lines)) e.0 ∙ none_long short (n + 1) lines h.1 ]

all_short : (short n : ℕ) (lines : List (List ℕ)) → first_long short n lines ≡ None → AllShort short lines
all_short short n [] none = tt
all_short short n (line ∷ lines) none = elim (ltb_tells short (length line)) [
  | inl e ↦ let no : Some n ≡ None = sym (ap (λ v. cond v (Some n) (first_long short (n + 1) lines)) e.0) ∙ none in absurd cc
  | inr e ↦ (e.1, all_short short (n + 1) lines (sym (ap (λ v. cond v (Some n) (first_long short (n + 1) lines)) e.0) ∙ none))
]

short_off : (short : ℕ) (xs ys : List (List ℕ)) → AllShort short (xs ++ ys) → AllShort short xs × AllShort short ys
short_off short [] ys p = (tt, p)
short_off short (x ∷ xs) ys p = let parts = short_off short xs ys p.1 in ((p.0, parts.0), parts.1)

last_off : (short : ℕ) (line : List ℕ) → AllShort short (last_line line) → length line ≤ short
last_off short [] h = omega arith
last_off short (b ∷ line) h = h.0

last_short : (short : ℕ) (line : List ℕ) → length line ≤ short → AllShort short (last_line line)
last_short short [] h = tt
last_short short (b ∷ line) h = (h, tt)

-- ---- the whole

past_by : (most : ℕ) (bytes : List ℕ) → most < length bytes → past most bytes ≡ Some 0
past_by most bytes h = elim (ltb_tells most (length bytes)) [ inl e ↦ ap (λ v. cond v (Some 0) None) e.0 | inr e ↦ absurd (omega (arith, e.1)) ]

not_past : (most : ℕ) (bytes : List ℕ) → length bytes ≤ most → past most bytes ≡ None
not_past most bytes h = elim (ltb_tells most (length bytes)) [ inl e ↦ absurd (omega (arith, e.1)) | inr e ↦ ap (λ v. cond v (Some 0) None) e.0 ]

-- what past answers, with what it tells
past_tells : (most : ℕ) (bytes : List ℕ) (o : Option ℕ) → past most bytes ≡ o → (o ≡ None → length bytes ≤ most) × ((n : ℕ) → o ≡ Some n → (n ≡ 0) × (most < length bytes))
past_tells most bytes o is = elim (ltb_tells most (length bytes)) [
  | inl e ↦
      let zero : Some 0 ≡ o = sym (past_by most bytes e.1) ∙ is in (λ none. let no : Some 0 ≡ None = zero ∙ none in absurd cc, λ n it. let same : Some 0 ≡ Some n = zero ∙ it in (sym (some_is 0 n same), e.1))
  | inr e ↦ let none : None ≡ o = sym (not_past most bytes e.1) ∙ is in (λ it. e.1, λ n it. let no : None ≡ Some n = none ∙ it in absurd cc)
]

neither : (a b : Option ℕ) → option_or a b ≡ None → (a ≡ None) × (b ≡ None)
neither None b is = (refl, is)
neither (Some k) b is = absurd cc

-- ---- both limits

module _ (most short : ℕ) where
  abbrev long_within : List ℕ → Option ℕ
  long_within bytes = first_long short 1 (lines_of (take (most + 1) bytes))

  pub keeps : (bytes : List ℕ) → too_long_in most short bytes ≡ None → KeepsLimits most short bytes
  keeps bytes is =
      let both = neither (long_within bytes) (past most bytes) is in
      let whole : length bytes ≤ most = (past_tells most bytes None both.1).0 refl in
      let all : take (most + 1) bytes ≡ bytes = take_all (most + 1) bytes (omega arith) in
      record { lines = all_short short 1 (lines_of bytes) (sym (ap (λ t. first_long short 1 (lines_of t)) all) ∙ both.0); whole = whole }

  pub kept : (bytes : List ℕ) → KeepsLimits most short bytes → too_long_in most short bytes ≡ None
  kept bytes k =
      let all : take (most + 1) bytes ≡ bytes = take_all (most + 1) bytes (omega (arith, k.whole)) in
      let none : long_within bytes ≡ None = ap (λ t. first_long short 1 (lines_of t)) all ∙ none_long short 1 (lines_of bytes) k.lines in
      ap (λ o. option_or o (past most bytes)) none ∙ not_past most bytes k.whole

  -- the first bytes of more are those of fewer, and then some
  first_on : (bytes more : List ℕ) → (rest : List ℕ) × (take (most + 1) (bytes ++ more) ≡ take (most + 1) bytes ++ rest)
  first_on bytes more = elim (ltb_tells most (length bytes)) [
    | inl e ↦ ([], take-append-le (most + 1) bytes more (omega (arith, e.1)) ∙ sym (append-nil (take (most + 1) bytes)))
    | inr e ↦
        let room : most + 1 ≡ length bytes + (most + 1 - length bytes) = omega (arith, e.1) in (
          take (most + 1 - length bytes) more,
          ap (λ k. take k (bytes ++ more)) room ∙ take-append-add bytes more (most + 1 - length bytes) ∙ ap (λ t. t ++ take (most + 1 - length bytes) more) (sym (take_all (most + 1) bytes (omega (arith, e.1)))),
        )
  ]

  stays_by : (bytes more : List ℕ) (n : ℕ) (o : Option ℕ) → long_within bytes ≡ o → option_or o (past most bytes) ≡ Some n → too_long_in most short (bytes ++ more) ≡ Some n
  stays_by bytes more n (Some k) long is =
      let on = first_on bytes more in
      let still : long_within (bytes ++ more) ≡ Some k = ap (λ t. first_long short 1 (lines_of t)) on.1 ∙ long_on short 1 k [] (take (most + 1) bytes) on.0 long in
      ap (λ o. option_or o (past most (bytes ++ more))) still ∙ is
  stays_by bytes more n None long is =
      let tells = (past_tells most bytes (Some n) is).1 n refl in
      let more_yet : most < length (bytes ++ more) = omega (arith, tells.1, length-append bytes more) in
      let same : take (most + 1) (bytes ++ more) ≡ take (most + 1) bytes = take-append-le (most + 1) bytes more (omega (arith, tells.1)) in
      ap (λ o. option_or o (past most (bytes ++ more))) (ap (λ t. first_long short 1 (lines_of t)) same ∙ long) ∙ past_by most (bytes ++ more) more_yet ∙ ap Some (sym tells.0)

  pub stays : (bytes more : List ℕ) (n : ℕ) → too_long_in most short bytes ≡ Some n → too_long_in most short (bytes ++ more) ≡ Some n
  stays bytes more n is = stays_by bytes more n (long_within bytes) refl is

  -- ---- one byte more

  module _ (bytes : List ℕ) (b : ℕ) (k : KeepsLimits most short bytes) where
    all_there : take (most + 1) (bytes ++ b ∷ []) ≡ bytes ++ b ∷ []
    all_there = take_all (most + 1) (bytes ++ b ∷ []) (omega (arith, k.whole, length-append bytes (b ∷ [])))

    -- the line that is too long with this byte
    pub line_passes : short < column_after (length (unended [] bytes)) b → too_long_in most short (bytes ++ b ∷ []) ≡ Some (length (ended [] bytes) + 1)
    line_passes past_it = elim (eqb_tells b 10) [
      | inl e ↦ let no : short < 0 = subst (λ v. short < cond v 0 (length (unended [] bytes) + 1)) e.0 past_it in absurd (omega (arith, no))
      | inr e ↦
          let u = unended [] bytes in
          let l = length (ended [] bytes) in
          let over : short < length u + 1 = subst (λ v. short < cond v 0 (length u + 1)) e.0 past_it in
          let it : lines_from u (b ∷ []) ≡ last_line (u ++ b ∷ []) = ap (λ v. cond v (u ∷ []) [] ++ last_line (cond v [] (u ++ b ∷ []))) e.0 in
          let long : first_long short (1 + l) (lines_from u (b ∷ [])) ≡ Some (1 + l) = ap (first_long short (1 + l)) it ∙ still_long short (1 + l) (u ++ b ∷ []) [] (omega (arith, over, length-append u (b ∷ []))) in
          let first : first_long short 1 (lines_of (bytes ++ b ∷ [])) ≡ Some (1 + l) =
          ap (first_long short 1) (lines_on bytes (b ∷ [])) ∙ long_behind short 1 (ended [] bytes) (lines_from u (b ∷ [])) (short_off short (ended [] bytes) _ k.lines).0 ∙ long in
          let count : 1 + l ≡ l + 1 = omega arith in
          ap (λ o. option_or o (past most (bytes ++ b ∷ []))) (ap (λ t. first_long short 1 (lines_of t)) all_there ∙ first) ∙ ap Some count
    ]

    still_short : column_after (length (unended [] bytes)) b ≤ short → AllShort short (lines_of (bytes ++ b ∷ []))
    still_short within =
        let u = unended [] bytes in
        let parts = short_off short (ended [] bytes) _ k.lines in
        let goal_by = λ (t : List (List ℕ)). AllShort short t in
        subst goal_by (sym (lines_on bytes (b ∷ [])))
        (short_on short (ended [] bytes) (lines_from u (b ∷ [])) parts.0 (elim (eqb_tells b 10) [
          | inl e ↦ subst (λ v. AllShort short (cond v (u ∷ []) [] ++ last_line (cond v [] (u ++ b ∷ [])))) (sym e.0) (last_off short u parts.1, tt)
          | inr e ↦
              let room : length u + 1 ≤ short = subst (λ v. cond v 0 (length u + 1) ≤ short) e.0 within in
              subst (λ v. AllShort short (cond v (u ∷ []) [] ++ last_line (cond v [] (u ++ b ∷ [])))) (sym e.0) (last_short short (u ++ b ∷ []) (omega (arith, room, length-append u (b ∷ []))))
        ]))

    -- the whole that is too long with this byte, where no line is
    pub whole_passes : column_after (length (unended [] bytes)) b ≤ short → most ≤ length bytes → too_long_in most short (bytes ++ b ∷ []) ≡ Some 0
    whole_passes within full =
        let none : long_within (bytes ++ b ∷ []) ≡ None = ap (λ t. first_long short 1 (lines_of t)) all_there ∙ none_long short 1 (lines_of (bytes ++ b ∷ [])) (still_short within) in
        ap (λ o. option_or o (past most (bytes ++ b ∷ []))) none ∙ past_by most (bytes ++ b ∷ []) (omega (arith, full, length-append bytes (b ∷ [])))

    ended_after : length (ended [] (bytes ++ b ∷ [])) ≡ lines_after (length (ended [] bytes)) b
    ended_after = ap length (ended_on [] bytes (b ∷ [])) ∙ length-append (ended [] bytes) (ended (unended [] bytes) (b ∷ [])) ∙ (elim (eqb b 10) as (λ v. length (ended [] bytes) + length (cond v (unended [] bytes ∷ []) []) ≡ cond v (length (ended [] bytes) + 1) (length (ended [] bytes))) [
      | true ↦ refl
      | false ↦ omega arith
    ])

    unended_after : length (unended [] (bytes ++ b ∷ [])) ≡ column_after (length (unended [] bytes)) b
    unended_after = ap length (unended_on [] bytes (b ∷ [])) ∙ (elim (eqb b 10) as (λ v. length (cond v [] (unended [] bytes ++ b ∷ [])) ≡ cond v 0 (length (unended [] bytes) + 1)) [ true ↦ refl | false ↦ length-append (unended [] bytes) (b ∷ []) ])

    -- a byte within the limits is counted
    pub counted : (lines column : ℕ) → IsCounted most short bytes lines column → column_after column b ≤ short → length bytes < most → IsCounted most short (bytes ++ b ∷ []) (lines_after lines b) (column_after column b)
    counted lines column c within room = record {
      lines = ap (λ l. lines_after l b) c.lines ∙ sym ended_after;
      column = ap (λ l. column_after l b) c.column ∙ sym unended_after;
      within = record { lines = still_short (subst (λ l. column_after l b ≤ short) c.column within); whole = omega (arith, room, length-append bytes (b ∷ [])) };
      most = c.most;
      short = c.short;
    }

-- ---- the counts

few_lines : (line bytes : List ℕ) → length (ended line bytes) ≤ length bytes
few_lines line [] = omega arith
few_lines line (b ∷ bytes) =
    elim (eqb b 10) as (λ v. length (cond v (line ∷ ended [] bytes) (ended (line ++ b ∷ []) bytes)) ≤ suc (length bytes)) [
      | true ↦ let h = few_lines [] bytes in omega (arith, h)
      | false ↦ let h = few_lines (line ++ b ∷ []) bytes in omega (arith, h)
    ]

pub lines_fit : (most short : ℕ) (bytes : List ℕ) (n k : ℕ) → IsCounted most short bytes n k → n ≤ most
lines_fit most short bytes n k c = let h = few_lines [] bytes in omega (arith, c.lines, c.within.whole, h)

pub column_fits : (most short : ℕ) (bytes : List ℕ) (n k : ℕ) → IsCounted most short bytes n k → k ≤ short
column_fits most short bytes n k c = let h = last_off short (unended [] bytes) (short_off short (ended [] bytes) (last_line (unended [] bytes)) c.within.lines).1 in omega (arith, c.column, h)
