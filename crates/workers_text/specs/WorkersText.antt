-- What the workers of a script may print (docs/PROFILE.md, "Workers").
use Rattle.std.specs.Prelude.{◌≡◌, ◌==◌, ℕ, List, [], ◌∷◌, ◌++◌, map, if◌then◌else◌}
use Rattle.call_contract.specs.Books.{Book, IsLegal, commits}
use Rattle.call_contract.specs.Calls.{CallMeaning}
use Rattle.call_contract.specs.States.{State, start}
use Rattle.command_lines.specs.declared.line_reply.LineReply.{LineReply}
use Rattle.command_lines.specs.declared.line_reply.LineReply.TheVariants.{Order}
use Rattle.session_driver.specs.Lines.{Asked}
use Rattle.tree_model.specs.Tree.{Tree}
use Rattle.session_driver.specs.declared.doing.Doing.{Doing}
use Rattle.session_driver.specs.Sessions.{Does, DoesSome, Printed}

-- a line that isn't blank: what a session is asked, or a bad line with its reply
pub data Line (C : Type 0) : Type 0 where
  asked : Asked C → Line C
  bad : LineReply → Line C

-- each line has a reply, and a bad one its own
abbrev pub HasReplies : {C : Type 0} → List (Line C) → List LineReply → Type 0
HasReplies [] [] = Unit {0}
HasReplies [] (r ∷ rs) = ⊥
HasReplies (line ∷ lines) [] = ⊥
HasReplies (asked a ∷ lines) (r ∷ rs) = HasReplies lines rs
HasReplies (bad b ∷ lines) (r ∷ rs) = (r ≡ b) × HasReplies lines rs

-- the lines of a session, each with the reply in its place
abbrev pub printed_of : {C : Type 0} → ℕ → List (Line C) → List LineReply → List (Printed C)
printed_of s [] rs = []
printed_of s (line ∷ lines) [] = []
printed_of s (asked a ∷ lines) (r ∷ rs) = if a.session == s then record { doing = a.doing; reply = r } ∷ printed_of s lines rs else printed_of s lines rs
printed_of s (bad b ∷ lines) (r ∷ rs) = printed_of s lines rs

-- what these lines ask of a session
abbrev pub asked_of : {C : Type 0} → ℕ → List (Line C) → List (Doing C)
asked_of s [] = []
asked_of s (asked a ∷ lines) = if a.session == s then a.doing ∷ asked_of s lines else asked_of s lines
asked_of s (bad b ∷ lines) = asked_of s lines

-- from this state on the book has the first of the session's lines, the last of them as far as it came
abbrev pub DoesSomeAsked : {C : Type 0} → CallMeaning C → List (Line C) → ℕ → State C → Book C → Type 0
DoesSomeAsked m lines s st book = DoesSome m s st book (asked_of s lines)

-- session and ordinal of each committed transaction, in the order of their commits
abbrev pub order_of : {C : Type 0} → Book C → LineReply
order_of book = Order (map (λ t. (t.session, t.ordinal)) (commits book))

-- one book shows the text: it is a legal run from the opening, and has each session's lines; the replies stand in the lines' order, and the order line is last
pub record WorkersText {C : Type 0} (m : CallMeaning C) (tree : Tree) (number limit : ℕ) (lines : List (Line C)) (text : List LineReply) : Type 0 where
  pub book : Book C
  pub legal : IsLegal m tree number limit book
  pub replies : List LineReply
  pub text_is : text ≡ replies ++ order_of book ∷ []
  pub each : HasReplies lines replies
  pub does : (s : ℕ) → Does m s (start tree number limit) book (printed_of s lines replies)
