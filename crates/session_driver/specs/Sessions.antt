-- What one session's lines do among all entries of a book, where waits aren't printed (docs/PROFILE.md, "Workers").
use Rattle.std.specs.Prelude.{◌≡◌, ◌==◌, ◌⊎◌, ℕ, Bool, true, false, List, [], ◌∷◌, ◌++◌, map, Option, Some, None}
use Rattle.std.specs.List.{AllByRecursion}
use Rattle.call_contract.specs.Books.{Book, last, next}
use Rattle.call_contract.specs.Calls.{CallMeaning}
use Rattle.call_contract.specs.States.{State, of_session}
use Rattle.call_contract.specs.declared.events.Answer.TheVariants as answer
use Rattle.call_contract.specs.declared.events.Event.{Event}
use Rattle.call_contract.specs.declared.events.Event.TheVariants as event
use Rattle.call_contract.specs.declared.events.EventAnswer.{EventAnswer}
use Rattle.call_contract.specs.declared.events.EventAnswer.TheVariants as said
use Rattle.call_contract.specs.declared.events.Noted.{Noted}
use Rattle.command_lines.specs.declared.line_reply.LineAnswer.TheVariants.{Session}
use Rattle.command_lines.specs.declared.line_reply.LineReply.{LineReply}
use Rattle.command_lines.specs.declared.line_reply.LineReply.TheVariants.{Said}
use Rattle.command_lines.specs.declared.line_reply.SessionRefusal.{SessionRefusal}
use Rattle.session_driver.specs.Lines.{event_of}
use Rattle.session_driver.specs.Progress.{line_of}
use Rattle.session_driver.specs.Refusals.{refusal}
use Rattle.session_driver.specs.declared.doing.Doing.{Doing}

-- what a session was asked, with the reply that was printed for it
pub record Printed (C : Type 0) : Type 0 where
  pub doing : Doing C
  pub reply : LineReply

-- the call waits: its reply is that of a later retry
abbrev pub is_wait : EventAnswer → Bool
is_wait (said.Call (answer.Waits on asks by)) = true
is_wait a = false

-- what was answered is the reply, or the call waits for it; what holds of the entries behind is told by the reply that is still to come
abbrev pub IsReplyOr : ℕ → EventAnswer → LineReply → (Option LineReply → Type 0) → Bool → Type 0
IsReplyOr s a reply behind true = behind (Some reply)
IsReplyOr s a reply behind false = (line_of s false a ≡ reply ∷ []) × behind None

-- the attempt of a call failed
abbrev pub is_failure : {C : Type 0} → Event C → Bool
is_failure (event.Fail call k f) = true
is_failure e = false

-- all entries are other sessions'
abbrev pub AreOthers : {C : Type 0} → ℕ → Book C → Type 0
AreOthers s book = AllByRecursion (λ n. (n.session == s) ≡ false) book

module _ {C : Type 0} where
  -- ---- a line that isn't answered

  -- an attempt of what a session was asked; while its call waits, a retry
  abbrev pub IsAttempt : Doing C → Bool → Event C → Type 0
  IsAttempt d false e = e ≡ event_of d
  IsAttempt d true e = e ≡ event.Retry

  -- an entry of the session is an attempt after which the call waits; or it is the last: an attempt, or the failure of one
  abbrev pub IsUnanswered : ℕ → Doing C → Bool → Noted C → Book C → Type 0 → Type 0
  IsUnanswered s d waits n ns behind = (IsAttempt d waits n.event × (is_wait n.answer ≡ true) × behind) ⊎ ((IsAttempt d waits n.event ⊎ (is_failure n.event ≡ true)) × AreOthers s ns)

  -- one of another session is passed over
  abbrev pub MeetsUnanswered : ℕ → Doing C → Bool → Noted C → Book C → (Bool → Type 0) → Bool → Type 0
  MeetsUnanswered s d waits n ns behind true = IsUnanswered s d waits n ns (behind true)
  MeetsUnanswered s d waits n ns behind false = behind waits

  -- the entries have of the session those of this line, as far as it came
  abbrev pub Breaks : ℕ → Doing C → Bool → Book C → Type 0
  Breaks s d waits [] = Unit {0}
  Breaks s d waits (n ∷ ns) = MeetsUnanswered s d waits n ns (λ w. Breaks s d w ns) (n.session == s)

  -- .. of the next of these lines, if there is one
  abbrev pub BreaksNext : ℕ → List (Doing C) → Book C → Type 0
  BreaksNext s [] book = AreOthers s book
  BreaksNext s (d ∷ ds) book = Breaks s d false book

  -- what was asked, without the replies
  abbrev pub doings_of : List (Printed C) → List (Doing C)
  doings_of ps = map (λ p. p.doing) ps

module _ {C : Type 0} (m : CallMeaning C) where
  -- ---- lines that are refused

  abbrev pub IsRefusedSo : ℕ → LineReply → Option SessionRefusal → Type 0
  IsRefusedSo s reply None = ⊥
  IsRefusedSo s reply (Some why) = reply ≡ Said s false (Session why)

  -- the session is refused this line in this state, and its reply says why
  abbrev pub IsRefused : State C → ℕ → Printed C → Type 0
  IsRefused st s p = IsRefusedSo s p.reply (refusal m st s p.doing)

  abbrev pub AreRefused : State C → ℕ → List (Printed C) → Type 0
  AreRefused st s [] = Unit {0}
  AreRefused st s (p ∷ ps) = IsRefused st s p × AreRefused st s ps

  -- the first of these lines, or none, are refused in this state, and this holds of those behind
  abbrev pub Behind : State C → ℕ → List (Printed C) → (List (Printed C) → Type 0) → Type 0
  Behind st s [] holds = holds []
  Behind st s (p ∷ ps) holds = holds (p ∷ ps) ⊎ (IsRefused st s p × Behind st s ps holds)

  -- ---- the entries of a book, one after another

  -- an entry of the session is the event of its next line
  abbrev pub IsNext : ℕ → Noted C → List (Printed C) → (Option LineReply → List (Printed C) → Type 0) → Type 0
  IsNext s n [] behind = ⊥
  IsNext s n (p ∷ ps) behind = (n.event ≡ event_of p.doing) × IsReplyOr s n.answer p.reply (λ wait. behind wait ps) (is_wait n.answer)

  -- one of another session is passed over
  abbrev pub Meets : ℕ → Noted C → List (Printed C) → (Option LineReply → List (Printed C) → Type 0) → Bool → Type 0
  Meets s n ps behind true = IsNext s n ps behind
  Meets s n ps behind false = behind None ps

  -- while a call waits, the session's entries are its retries
  abbrev pub Retries : ℕ → Noted C → LineReply → List (Printed C) → (Option LineReply → List (Printed C) → Type 0) → Bool → Type 0
  Retries s n reply ps behind true = (n.event ≡ event.Retry) × IsReplyOr s n.answer reply (λ wait. behind wait ps) (is_wait n.answer)
  Retries s n reply ps behind false = behind (Some reply) ps

  -- the entries, from this state on, have of the session those of these lines that aren't refused, each with its retries;
  -- one that is refused is so in a state between its neighbours' entries
  abbrev pub Part : ℕ → State C → Book C → Option LineReply → List (Printed C) → Type 0
  Part s st [] (Some reply) ps = ⊥
  Part s st [] None ps = AreRefused st s ps
  Part s st (n ∷ ns) (Some reply) ps = Retries s n reply ps (Part s (next m st n) ns) (n.session == s)
  Part s st (n ∷ ns) None ps = Behind st s ps (λ qs. Meets s n qs (Part s (next m st n) ns) (n.session == s))

  -- .. where no call of it waits before them
  abbrev pub IsPart : ℕ → State C → Book C → List (Printed C) → Type 0
  IsPart s st book ps = Part s st book None ps

  -- this follows where one stretch of entries has these lines of the session, and the stretch behind it has those
  abbrev pub IfBoth : ℕ → State C → Book C → List (Printed C) → Book C → List (Printed C) → Type 0 → Type 0
  IfBoth s st es ps fs qs P = IsPart s st es ps → IsPart s (last m st es) fs qs → P

  -- ---- the end of a session

  -- of the session an entry may be an abort alone
  abbrev pub IsAbort : Noted C → Bool → Type 0
  IsAbort n true = n.event ≡ event.Abort
  IsAbort n false = Unit {0}

  -- a transaction that was live is aborted, and none is live behind
  abbrev pub Ends : ℕ → State C → Book C → Type 0
  Ends s st [] = of_session s st.live ≡ None
  Ends s st (n ∷ ns) = IsAbort n (n.session == s) × Ends s (next m st n) ns

  -- the book has the entries of these lines of the session, then perhaps its abort, and no other entry of it
  pub record Does (s : ℕ) (st : State C) (whole : Book C) (ps : List (Printed C)) : Type 0 where
    pub entries : Book C
    pub rest : Book C
    pub book : whole ≡ entries ++ rest
    pub lines : Part s st entries None ps
    pub ends : Ends s (last m st entries) rest

  -- The book has the entries of the first of these lines of the session, then those of the next one as far as it came, then perhaps the session's abort, and no other entry of it.
  pub record DoesSome (s : ℕ) (st : State C) (whole : Book C) (asked : List (Doing C)) : Type 0 where
    pub entries : Book C
    pub broken : Book C
    pub rest : Book C
    pub book : whole ≡ entries ++ (broken ++ rest)
    pub done : List (Printed C)
    pub left : List (Doing C)
    pub all : asked ≡ doings_of done ++ left
    pub lines : Part s st entries None done
    pub breaks : BreaksNext s left broken
    pub ends : Ends s (last m st (entries ++ broken)) rest
