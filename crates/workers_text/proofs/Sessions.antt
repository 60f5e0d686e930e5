-- What is read as a command has a session from 1 to 64.
use Rattle.std.proofs.Common.{◌≡◌, ◌<◌, ℕ, List, refl, sym, ap, ◌∙◌, subst, Bool, true, false, cond, leb, codes, arith, inl, inr}
use Rattle.std.specs.Prelude.{◌&&◌, Option, Some, None, Result, Ok, Err, option_and_then}
use Rattle.std.proofs.lemmas.Bool.Decides.{leb_tells}
use Rattle.serde_json.specs.Data.{Data, Members, object, no_members, member}
use Rattle.serde_json.specs.Find.{get_member}
use Rattle.jsonml_io.specs.JsonMl.{value_of}
use Rattle.command_lines.specs.Lines.{call_at, command_in, command_of, finished, if_session, is_blank, line_of, session_at}
use Rattle.command_lines.specs.KeyValues.{as_whole}
use Rattle.command_lines.specs.Reasons.{◌>>=◌, found_or}
use Rattle.command_lines.specs.Taking.{without}
use Rattle.command_lines.specs.Words.{what_in}
use Rattle.command_lines.specs.declared.bad_line.BadLine.{BadLine}
use Rattle.command_lines.specs.declared.calls.Word.{Word}
use Rattle.command_lines.specs.declared.command.Command.{Command}
use Rattle.command_lines.specs.declared.command.What.{What}
use Rattle.workers_text.specs.Entries.{HasSession}

-- ---- the number

within : (k n : ℕ) → if_session k ≡ Some n → (0 < n) × (n < 65)
within k n is = elim (leb_tells 1 k) [
  | inl low ↦ elim (leb_tells k 64) [
    | inl high ↦
        let same : Some k ≡ Some n = sym (ap (λ v. cond (v && leb k 64) (Some k) None) low.0 ∙ ap (λ v. cond v (Some k) None) high.0) ∙ is in
        let it : k ≡ n = cc in (subst (λ m. 0 < m) it (omega (arith, low.1)), subst (λ m. m < 65) it (omega (arith, high.1)))
    | inr high ↦ let no : None ≡ Some n = sym (ap (λ v. cond (v && leb k 64) (Some k) None) low.0 ∙ ap (λ v. cond v (Some k) None) high.0) ∙ is in absurd cc
  ]
  | inr low ↦ let no : None ≡ Some n = sym (ap (λ v. cond (v && leb k 64) (Some k) None) low.0) ∙ is in absurd cc
]

within_or : (o : Option ℕ) (n : ℕ) → found_or (codes "s") (option_and_then if_session o) ≡ Ok n → (0 < n) × (n < 65)
within_or None n is = absurd cc
within_or (Some k) n is = found (if_session k) refl is
  where
    found : (o : Option ℕ) → if_session k ≡ o → found_or (codes "s") o ≡ Ok n → (0 < n) × (n < 65)
    found None e it = absurd cc
    found (Some m) e it = let same : m ≡ n = cc in within k n (e ∙ ap Some same)

-- ---- the command

abbrev session_or_0 : Result Command BadLine → ℕ
session_or_0 (Ok c) = c.session
session_or_0 (Err e) = 0

finished_session : (s : ℕ) (what : What) (ms : Members) (c : Command) → finished s (what, ms) ≡ Ok c → s ≡ c.session
finished_session s what no_members c is = ap session_or_0 is
finished_session s what (member k v ms) c is = absurd cc

taken_session : (s : ℕ) (r : Result (What × Members) BadLine) (c : Command) → r >>= (λ taken. finished s taken) ≡ Ok c → s ≡ c.session
taken_session s (Ok taken) c is = finished_session s taken.0 taken.1 c is
taken_session s (Err e) c is = absurd cc

word_session : (s : ℕ) (r : Result Word BadLine) (ms : Members) (c : Command) → r >>= (λ word. what_in word ms >>= λ taken. finished s taken) ≡ Ok c → s ≡ c.session
word_session s (Ok word) ms c is = taken_session s (what_in word ms) c is
word_session s (Err e) ms c is = absurd cc

by_session : (r : Result ℕ BadLine) (w : Result Word BadLine) (ms : Members) (c : Command) → ((n : ℕ) → r ≡ Ok n → (0 < n) × (n < 65))
    → r >>= (λ s. w >>= λ word. what_in word ms >>= λ taken. finished s taken) ≡ Ok c → HasSession c
by_session (Ok s) w ms c known is = let e = word_session s w ms c is in subst (λ n. (0 < n) × (n < 65)) e (known s refl)
by_session (Err e) w ms c known is = absurd cc

of_members : (ms : Members) (c : Command) → command_of ms ≡ Ok c → HasSession c
of_members ms c is =
    by_session (session_at (get_member (codes "s") ms)) (call_at (get_member (codes "call") (without (codes "s") ms))) (without (codes "call") (without (codes "s") ms)) c
    (λ n it. within_or (option_and_then as_whole (get_member (codes "s") ms)) n it) is

of_value : (v : Data) (c : Command) → command_in v ≡ Ok c → HasSession c
of_value (object ms) c is = of_members ms c is
of_value v c is = absurd cc

-- ---- the line

abbrev ok_some : Command → Result (Option Command) BadLine
ok_some c = Ok (Some c)

same_command : (d c : Command) → ok_some d ≡ ok_some c → d ≡ c
same_command d c is = cc

of_command : (r : Result Command BadLine) (c : Command) → ((d : Command) → r ≡ Ok d → HasSession d) → (r >>= λ command. Ok (Some command)) ≡ Ok (Some c) → HasSession c
of_command (Ok d) c known is = subst HasSession (same_command d c is) (known d refl)
of_command (Err e) c known is = absurd cc

of_line : (blank : Bool) (o : Option Data) (c : Command)
    → cond blank (Ok None) (found_or (codes "json") o >>= λ value. command_in value >>= λ command. Ok (Some command)) ≡ Ok (Some c) → HasSession c
of_line true o c is = absurd cc
of_line false None c is = absurd cc
of_line false (Some v) c is = of_command (command_in v) c (λ d it. of_value v d it) is

pub session_of_line : (line : List ℕ) (c : Command) → line_of line ≡ Ok (Some c) → HasSession c
unfolding line_of
session_of_line line c read = of_line (is_blank line) (value_of line) c read
