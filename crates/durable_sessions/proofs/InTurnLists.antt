-- Lists of what sessions are asked in turn: what is asked behind what was asked, and the first reply by which there is a reason to stop.
use Rattle.std.proofs.Common.{◌≡◌, ◌==◌, false, drop, slice_index_or, length, List, [], ◌∷◌, ◌++◌, refl, sym, ap, ◌∙◌}
use Rattle.std.specs.Prelude.{Option, None, Some}
use Rattle.std.specs.Option.{option_or}
use Rattle.std.proofs.lemmas.List.{append_assoc}
use Rattle.call_contract.specs.Calls.{CallMeaning}
use Rattle.call_contract.specs.States.{State}
use Rattle.command_lines.specs.declared.line_reply.LineReply.{LineReply}
use Rattle.session_driver.specs.Lines.{Asked, AreValid, after_line, after_lines}
use Rattle.session_driver.specs.Progress.{Progress, and_then}
use Rattle.durable_sessions.specs.InTurn.{AskNoCommit, after, said}
use Rattle.durable_sessions.specs.Reasons.{first_reason}
use Rattle.durable_sessions.specs.declared.reasons.Reason.{Reason}

-- ---- lists

-- a list that isn't empty is its first and the rest
pub first_left : {A : Type 0} (xs : List A) (x : A) → (length xs == 0) ≡ false → x ≡ slice_index_or xs 0 x → xs ≡ x ∷ drop 1 xs
first_left [] x some is = cc
first_left (y ∷ ys) x some is = ap (λ z. z ∷ ys) (sym is)

-- ---- what is asked behind what was asked

and_then_on : {C : Type 0} (a b c : Progress C) → and_then a (and_then b c) ≡ and_then (and_then a b) c
and_then_on a b c = λ i. record { state = c.state; book = sym (append_assoc a.book b.book c.book) i; lines = sym (append_assoc a.lines b.lines c.lines) i }

module _ {C : Type 0} (m : CallMeaning C) where
  pub asked_on : (s : State C) (xs ys : List (Asked C)) → after_lines m s (xs ++ ys) ≡ and_then (after_lines m s xs) (after_lines m (after m s xs) ys)
  asked_on s [] ys = refl
  asked_on s (x ∷ xs) ys =
      ap (and_then (after_line m s x)) (asked_on (after_line m s x).state xs ys)
      ∙ and_then_on (after_line m s x) (after_lines m (after_line m s x).state xs) (after_lines m (after m (after_line m s x).state xs) ys)

  pub after_on : (s : State C) (xs ys : List (Asked C)) → after m s (xs ++ ys) ≡ after m (after m s xs) ys
  after_on s xs ys = ap (λ (p : Progress C). p.state) (asked_on s xs ys)

  pub said_on : (s : State C) (xs ys : List (Asked C)) → said m s (xs ++ ys) ≡ said m s xs ++ said m (after m s xs) ys
  said_on s xs ys = ap (λ (p : Progress C). p.lines) (asked_on s xs ys)

-- ---- the first of what replies show

or_on : {A : Type 0} (a b c : Option A) → option_or a (option_or b c) ≡ option_or (option_or a b) c
or_on None b c = refl
or_on (Some x) b c = refl

pub reason_on : (by : LineReply → Option Reason) (xs ys : List LineReply) → first_reason by (xs ++ ys) ≡ option_or (first_reason by xs) (first_reason by ys)
reason_on by [] ys = refl
reason_on by (x ∷ xs) ys = ap (option_or (by x)) (reason_on by xs ys) ∙ or_on (by x) (first_reason by xs) (first_reason by ys)

-- behind replies that refuse nothing
pub reason_behind : (by : LineReply → Option Reason) (xs ys : List LineReply) → first_reason by xs ≡ None → first_reason by (xs ++ ys) ≡ first_reason by ys
reason_behind by xs ys none = reason_on by xs ys ∙ ap (λ r. option_or r (first_reason by ys)) none

-- a refusal stays the first
pub reason_stays : (by : LineReply → Option Reason) (xs ys : List LineReply) (why : Reason) → first_reason by xs ≡ Some why → first_reason by (xs ++ ys) ≡ Some why
reason_stays by xs ys why is = reason_on by xs ys ∙ ap (λ r. option_or r (first_reason by ys)) is

-- ---- lists of valid lines

pub valid_on : {C : Type 0} (is_valid : C → Type 0) (xs ys : List (Asked C)) → AreValid is_valid xs → AreValid is_valid ys → AreValid is_valid (xs ++ ys)
valid_on is_valid [] ys one two = two
valid_on is_valid (x ∷ xs) ys one two = (one.0, valid_on is_valid xs ys one.1 two)

pub valid_first : {C : Type 0} (is_valid : C → Type 0) (xs ys : List (Asked C)) → AreValid is_valid (xs ++ ys) → AreValid is_valid xs
valid_first is_valid [] ys all = tt
valid_first is_valid (x ∷ xs) ys all = (all.0, valid_first is_valid xs ys all.1)

-- ---- lists in which no commit is asked for

pub no_commit_first : {C : Type 0} (xs ys : List (Asked C)) → AskNoCommit (xs ++ ys) → AskNoCommit xs
no_commit_first [] ys all = tt
no_commit_first (x ∷ xs) ys all = (all.0, no_commit_first xs ys all.1)

pub no_commit_rest : {C : Type 0} (xs ys : List (Asked C)) → AskNoCommit (xs ++ ys) → AskNoCommit ys
no_commit_rest [] ys all = all
no_commit_rest (x ∷ xs) ys all = no_commit_rest xs ys all.1
