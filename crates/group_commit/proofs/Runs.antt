-- What each session's workers have put into the one list, when all ports are joined.
use Rattle.std.proofs.Common.{◌≡◌, ◌≢◌, ◌∙◌, ◌==◌, ◌<◌, ◌≤◌, ◌⊎◌, ◌+◌, ℕ, zero, suc, Bool, true, false, cond, refl, sym, ap, subst, arith, List, [], ◌∷◌, ◌++◌, map, length, append_assoc, true≢false, inl, inr}
use Rattle.std.specs.Prelude.{Option, Some, None, filter, nat_lt}
use Rattle.std.proofs.lemmas.Bool.Decides.{nat_tests}
use Rattle.std.specs.Cmp.{unsigned_Decides}
use Rattle.std.specs.List.{AllByRecursion, AllZip}
use mathlib.Core.Logic.{dite}
use native.Mathlib.Decide.{ℕ_discrete}
use Rattle.tree_model.specs.Entries.{Entries}
use Rattle.tree_model.specs.Tree.{Tree}
use Rattle.call_contract.specs.Books.{Book, IsRun, last}
use Rattle.call_contract.specs.Calls.{CallMeaning}
use Rattle.call_contract.specs.States.{start}
use Rattle.command_lines.specs.declared.command.Command.{Command}
use Rattle.command_lines.specs.declared.command.StoreCall.{StoreCall}
use Rattle.command_lines.specs.declared.line_reply.LineReply.{LineReply}
use Rattle.turn_lock.specs.Turns.{GoesOn, has_number}
use Rattle.turn_lock.proofs.Numbers.{bool_cases, there_alone}
use Rattle.shared_store.specs.Lists.{book_of, number_of, SessionsFit}
use Rattle.shared_store.specs.Sessions.{SessionView}
use Rattle.shared_store.specs.declared.desk.Entry.{Entry}
use Rattle.shared_store.specs.declared.desk.Entry.TheVariants as kind
use Rattle.group_commit.specs.Members.{MemberView}
use Rattle.worker_run.specs.Workers.{HasReplied, HaveOnePort, own_exchanges, ports_of}
use Rattle.group_commit.specs.OwnLines.{own_doings, own_printed, printed}
use Rattle.session_driver.specs.Sessions.{AreOthers, Does, DoesSome, Ends, Part}
use Rattle.group_commit.specs.StorePorts.{GrewFor, HasEnd, HasPart, HaveSessions, IsOnlyOf, IsOpenedOver, PortView, store_ports}
use Rattle.group_commit.specs.inside.Joining.{CameBack, HaveGivenOnes, IsFresh, IsJoinedTo, IsServed, left_port}
use Rattle.group_commit.specs.inside.PortLaws.{book_grew, grew_on, opened_on, run_before}
use Rattle.group_commit.proofs.Came.{PortCame, came_does, came_grew, next_nothing}
use Rattle.group_commit.proofs.Ends.{ends_before_others, ends_in_others}
use Rattle.group_commit.proofs.Lines.{grew_by_others, others_in, same_number}
use Rattle.group_commit.proofs.Splits.{not_same, ports_append}

same_if : (a b : ℕ) → (a == b) ≡ true → a ≡ b
same_if a b e = (unsigned_Decides a b).0 e

module _ {C B : Type 0} (told : B → Option Entries) (m : CallMeaning C) (made : StoreCall → C) where
  -- ---- finding a port

  -- a port of the session, with the one that came back of it
  record Found (R : PortView C B → PortView C B → Type 0) (P Q : PortView C B → Type 0) (s : ℕ) : Type 0 where
    pub before : PortView C B
    pub after : PortView C B
    pub session : before.session.under ≡ s
    pub both : R before after
    pub old : P before
    pub new : Q after

  found : (R : PortView C B → PortView C B → Type 0) (P Q : PortView C B → Type 0) (s : ℕ) (old new : List (PortView C B)) → AllZip R old new → AllByRecursion P old → AllByRecursion Q new
      → 0 < length (ports_of (store_ports told m made) s old) → Found R P Q s
  found R P Q s [] new z a b some = absurd (omega arith)
  found R P Q s (p ∷ ps) [] z a b some = absurd z
  found R P Q s (p ∷ ps) (q ∷ qs) z a b some = go (p.session.under == s) refl some (found R P Q s ps qs z.1 a.1 b.1)
    where
      go : (x : Bool) → (p.session.under == s) ≡ x → 0 < length (cond x (p ∷ filter (λ (r : PortView C B). r.session.under == s) ps) (filter (λ (r : PortView C B). r.session.under == s) ps))
          → (0 < length (ports_of (store_ports told m made) s ps) → Found R P Q s) → Found R P Q s
      go true e l further = record { before = p; after = q; session = same_if p.session.under s e; both = z.0; old = a.0; new = b.0 }
      go false e l further = further l

  -- ---- a port's part of the list

  module _ (lines : List Command) (replies : List LineReply) (p q : PortView C B) (z : MemberView C B) (r : HasReplied (store_ports told m made) lines replies p q) (joined : IsJoinedTo z q) where
    abbrev own_number : ℕ
    own_number = p.session.under

    abbrev own_numbers : List Bool
    own_numbers = p.session.has

    last_has : r.last.session.has ≡ own_numbers
    last_has = ap (λ (v : SessionView C B). v.has) r.did.0

    last_under : r.last.session.under ≡ own_number
    last_under = ap (λ (v : SessionView C B). v.under) r.did.0

    after_has : q.session.has ≡ own_numbers
    after_has = ap (λ (v : SessionView C B). v.has) r.ended.ended.0 ∙ last_has

    first_part : HasPart told m own_numbers own_number p.session.seen r.last.session.seen (own_printed made own_number lines replies)
    first_part = r.did.1

    end_part : HasEnd told m own_numbers own_number r.last.session.seen q.session.seen
    end_part = subst (λ (u : ℕ). HasEnd told m own_numbers u r.last.session.seen q.session.seen) last_under (subst (λ (h : List Bool). HasEnd told m h r.last.session.under r.last.session.seen q.session.seen) last_has r.ended.ended.1)

    rest_part : GoesOn number_of own_numbers q.session.seen z.session.seen
    rest_part = subst (λ (h : List Bool). GoesOn number_of h q.session.seen z.session.seen) after_has joined.goes_on

    pub all_grew : GrewFor own_numbers own_number p.session.seen z.session.seen
    all_grew =
        let first = grew_on own_numbers own_number p.session.seen r.last.session.seen q.session.seen first_part.grew end_part.grew in
        grew_on own_numbers own_number p.session.seen q.session.seen z.session.seen first (grew_by_others own_numbers own_number q.session.seen z.session.seen rest_part)

    pub port_does : has_number own_numbers own_number ≡ true → book_of p.session.seen ≡ [] → (t : Tree) (n l : ℕ) → IsOpenedOver told p.session.seen t n l → IsRun m (start t n l) (book_of z.session.seen)
        → Does m own_number (start t n l) (book_of z.session.seen) (own_printed made own_number lines replies)
    port_does own empty t n l opened run =
        let a = book_of first_part.grew.added in
        let b = book_of end_part.grew.added in
        let c = book_of rest_part.0 in
        let st = start t n l in
        let later = opened_on told p.session.seen r.last.session.seen first_part.grew.added first_part.grew.list t n l opened in
        let run_q = run_before told m t n l q.session.seen z.session.seen rest_part.0 rest_part.1 run in
        let run_last = run_before told m t n l r.last.session.seen q.session.seen end_part.grew.added end_part.grew.list run_q in
        let first : book_of r.last.session.seen ≡ a = book_grew p.session.seen r.last.session.seen first_part.grew.added first_part.grew.list ∙ ap (λ (bk : Book C). bk ++ a) empty in
        let later_on : book_of q.session.seen ≡ a ++ b = book_grew r.last.session.seen q.session.seen end_part.grew.added end_part.grew.list ∙ ap (λ (bk : Book C). bk ++ b) first in
        let whole : book_of z.session.seen ≡ (a ++ b) ++ c = book_grew q.session.seen z.session.seen rest_part.0 rest_part.1 ∙ ap (λ (bk : Book C). bk ++ c) later_on in
        record {
          entries = a;
          rest = b ++ c;
          book = whole ∙ append_assoc a b c;
          lines = subst (λ (bk : Book C). Part m own_number (last m st bk) a None (own_printed made own_number lines replies)) empty (first_part.part t n l opened run_last);
          ends = ends_before_others m own_number b c (last m st a) (subst (λ (bk : Book C). Ends m own_number (last m st bk) b) first (end_part.ends t n l later run_q)) (others_in own_numbers own_number own rest_part.0 rest_part.2);
        }

  -- the same where a line may have met a fault
  module _ (lines : List Command) (p q : PortView C B) (z : MemberView C B) (r : PortCame told m made lines p q) (joined : IsJoinedTo z q) where
    came_rest : GoesOn number_of p.session.has q.session.seen z.session.seen
    came_rest = subst (λ (h : List Bool). GoesOn number_of h q.session.seen z.session.seen) (ap (λ (v : SessionView C B). v.has) r.same) joined.goes_on

    pub came_all_grew : GrewFor p.session.has p.session.under p.session.seen z.session.seen
    came_all_grew =
        let first = came_grew told m p.session.has p.session.under (own_doings made p.session.under lines) p.session.seen q.session.seen r.came in
        grew_on p.session.has p.session.under p.session.seen q.session.seen z.session.seen first (grew_by_others p.session.has p.session.under q.session.seen z.session.seen came_rest)

    pub port_does_some : has_number p.session.has p.session.under ≡ true → book_of p.session.seen ≡ [] → (t : Tree) (n l : ℕ) → IsOpenedOver told p.session.seen t n l → IsRun m (start t n l) (book_of z.session.seen)
        → DoesSome m p.session.under (start t n l) (book_of z.session.seen) (own_doings made p.session.under lines)
    port_does_some own empty t n l opened run =
        came_does told m p.session.has p.session.under (own_doings made p.session.under lines) p.session.seen q.session.seen r.came own empty z.session.seen came_rest t n l opened run

  -- ---- a session without a port

  others_by : (has : List Bool) (s k : ℕ) (es : List (Entry C B)) → has_number has k ≡ true → s ≢ k → AllByRecursion (IsOnlyOf has s) es → AreOthers k (book_of es)
  others_by has s k [] there ne a = tt
  others_by has s k (kind.Opening o n l b d ∷ es) there ne a = others_by has s k es there ne a.1
  others_by has s k (kind.Drained d ∷ es) there ne a = others_by has s k es there ne a.1
  others_by has s k (kind.Noted n ∷ es) there ne a = (not_same n.session k (other a.0), others_by has s k es there ne a.1)
    where
      session_of : Option ℕ → ℕ
      session_of None = n.session
      session_of (Some j) = j

      other : IsOnlyOf {C = C} {B = B} has s (kind.Noted n) → n.session ≢ k
      other (inl f) = λ e. true≢false (sym (subst (λ (j : ℕ). has_number has j ≡ true) (sym e) there) ∙ f)
      other (inr e) = λ f. ne (sym (ap session_of e) ∙ f)

  -- no line is the session's
  abbrev pub HasNoLines : ℕ → List Command → Type 0
  HasNoLines k lines = AllByRecursion (λ (c : Command). (c.session == k) ≡ false) lines

  no_lines : (k : ℕ) (lines : List Command) (replies : List LineReply) → HasNoLines k lines → own_printed made k lines replies ≡ []
  no_lines k [] replies a = refl
  no_lines k (c ∷ cs) [] a = refl
  no_lines k (c ∷ cs) (r ∷ rs) a = ap (λ (b : Bool). map (printed made) (cond b ((c, r) ∷ own_exchanges k cs rs) (own_exchanges k cs rs))) a.0 ∙ no_lines k cs rs a.1

  pub not_served : (main : SessionView C B) (k : ℕ) (lines : List Command) → has_number main.has k ≡ true → main.under ≢ k → AllByRecursion (IsServed main) lines → HasNoLines k lines
  not_served main k [] there ne a = tt
  not_served main k (c ∷ cs) there ne a = (not_same c.session k (other a.0), not_served main k cs there ne a.1)
    where
      other : IsServed main c → c.session ≢ k
      other (inl e) = λ f. ne (sym e ∙ f)
      other (inr f) = λ e. true≢false (sym (subst (λ (j : ℕ). has_number main.has j ≡ true) (sym e) there) ∙ f)

  pub does_nothing : (lines : List Command) (replies : List LineReply) (t : Tree) (n l : ℕ) (book : Book C) (k : ℕ) → AreOthers k book → HasNoLines k lines → Does m k (start t n l) book (own_printed made k lines replies)
  does_nothing lines replies t n l book k o no_line =
      subst (Does m k (start t n l) book) (sym (no_lines k lines replies no_line)) (record { entries = []; rest = book; book = refl; lines = tt; ends = ends_in_others m k book (start t n l) o refl })

  pub does_none : (lines : List Command) (t : Tree) (n l : ℕ) (book : Book C) (k : ℕ) → AreOthers k book → DoesSome m k (start t n l) book (own_doings made k lines)
  does_none lines t n l book k o = record {
    entries = [];
    broken = [];
    rest = book;
    book = refl;
    done = [];
    left = own_doings made k lines;
    all = refl;
    lines = tt;
    breaks = next_nothing k (own_doings made k lines);
    ends = ends_in_others m k book (start t n l) o refl;
  }

  -- ---- all sessions

  -- what is known of a port that was split off, or is left
  pub record IsStarted (es : List (Entry C B)) (p : PortView C B) : Type 0 where
    pub seen : p.session.seen ≡ es
    pub own : has_number p.session.has p.session.under ≡ true

  pub fresh_started : (first : MemberView C B) (p : PortView C B) → IsFresh first p → IsStarted first.session.seen p
  fresh_started first p f = record {
    seen = ap (λ (v : SessionView C B). v.seen) f.session;
    own = ap (λ (v : SessionView C B). has_number v.has p.session.under) f.session ∙ there_alone p.session.under f.number.1;
  }

  pub last_of_zip : (R : PortView C B → PortView C B → Type 0) (Q : PortView C B → Type 0) (ports : List (PortView C B)) (p : PortView C B) (new : List (PortView C B)) → AllZip R (ports ++ p ∷ []) new → AllByRecursion Q new
      → (q : PortView C B) × R p q × Q q
  last_of_zip R Q [] p [] z a = absurd z
  last_of_zip R Q [] p (q ∷ qs) z a = (q, z.0, a.0)
  last_of_zip R Q (x ∷ xs) p [] z a = absurd z
  last_of_zip R Q (x ∷ xs) p (q ∷ qs) z a = last_of_zip R Q xs p qs z.1 a.1

  zip_front : (s : ℕ) (ports : List (PortView C B)) (p : PortView C B) → 0 < length (ports_of (store_ports told m made) s ports)
      → 0 < length (ports_of (store_ports told m made) s (ports ++ p ∷ []))
  zip_front s ports p some = let e = ports_append told m made s ports p (p.session.under == s) refl in subst (λ (n : ℕ). 0 < n) (sym e) (omega arith)

  -- Of each port that came back something is known, from which this follows of its session; it follows of a session without a port and without entries, too.
  module _ (R : PortView C B → PortView C B → Type 0) (Q : ℕ → Type 0) (z : MemberView C B) (es : List (Entry C B))
      (grown : (p q : PortView C B) → R p q → IsJoinedTo z q → GrewFor p.session.has p.session.under p.session.seen z.session.seen)
      (by_port : (p q : PortView C B) → R p q → IsJoinedTo z q → IsStarted es p → Q p.session.under) where
    pub each_session : (first main : MemberView C B) (ports new : List (PortView C B)) → AllZip R (ports ++ left_port main ∷ []) new → AllByRecursion (IsJoinedTo z) new
        → AllByRecursion (IsFresh first) ports → es ≡ first.session.seen → main.session.seen ≡ es → has_number main.session.has main.session.under ≡ true
        → HaveGivenOnes (store_ports told m made) main.session ports → book_of es ≡ []
        → ((k : ℕ) → AreOthers k (book_of z.session.seen) → has_number main.session.has k ≡ true → main.session.under ≢ k → Q k) → (k : ℕ) → 0 < k → k < 65 → Q k
    each_session first main ports new zip joined fresh begins seen own given empty alone k some small = by_number (bool_cases (has_number main.session.has k))
      where
        left : PortView C B
        left = left_port main

        of_left : (q : PortView C B) × R left q × IsJoinedTo z q
        of_left = last_of_zip R (IsJoinedTo z) ports left new zip joined

        started : (ps : List (PortView C B)) → AllByRecursion (IsFresh first) ps → AllByRecursion (IsStarted es) (ps ++ left ∷ [])
        started [] a = (record { seen = seen; own = own }, tt)
        started (p ∷ ps) a = (subst (λ (xs : List (Entry C B)). IsStarted xs p) (sym begins) (fresh_started first p a.0), started ps a.1)

        by_main : (main.session.under ≡ k) ⊎ (main.session.under ≢ k) → has_number main.session.has k ≡ true → Q k
        by_main (inl e) there = subst Q e (by_port left of_left.0 of_left.1 of_left.2 (record { seen = seen; own = own }))
        by_main (inr ne) there =
            let grew = grown left of_left.0 of_left.1 of_left.2 in
            let whole = book_grew main.session.seen z.session.seen grew.added grew.list ∙ ap (λ (bk : Book C). bk ++ book_of grew.added) (ap book_of seen ∙ empty) in
            alone k (subst (AreOthers k) (sym whole) (others_by main.session.has main.session.under k grew.added there ne grew.only)) there ne

        by_given : has_number main.session.has k ≡ false → Q k
        by_given away =
            let one : length (ports_of (store_ports told m made) k ports) ≡ 1 = given k some small ∙ ap (λ (b : Bool). cond b 0 1) away in
            let f = found R (IsStarted es) (IsJoinedTo z) k (ports ++ left ∷ []) new zip (started ports fresh) joined (zip_front k ports left (omega arith)) in
            subst Q f.session (by_port f.before f.after f.both f.new f.old)

        by_number : (has_number main.session.has k ≡ true) ⊎ (has_number main.session.has k ≡ false) → Q k
        by_number (inl there) = by_main (dite (ℕ_discrete main.session.under k) (λ e. inl e) (λ ne. inr ne)) there
        by_number (inr away) = by_given away

  -- ---- numbers that are no sessions'

  others_past : (k : ℕ) → 65 ≤ k → (book : Book C) → SessionsFit book → AreOthers k book
  others_past k past [] fit = tt
  others_past k past (n ∷ ns) fit = (not_same n.session k (λ e. past_itself n.session k past fit.0 e), others_past k past ns fit.1)
    where
      past_itself : (a b : ℕ) → 65 ≤ b → a ≤ 64 → a ≡ b → ⊥
      past_itself a b more less e = omega (arith, more, less, e)

  lines_past : (k : ℕ) → 65 ≤ k → (lines : List Command) → HaveSessions lines → HasNoLines k lines
  lines_past k past [] are = tt
  lines_past k past (c ∷ cs) are = (not_same c.session k (λ e. past_itself c.session k past are.0.1 e), lines_past k past cs are.1)
    where
      past_itself : (a b : ℕ) → 65 ≤ b → a < 65 → a ≡ b → ⊥
      past_itself a b more less e = omega (arith, more, less, e)

  no_lines_of_zero : (lines : List Command) → HaveSessions lines → HasNoLines 0 lines
  no_lines_of_zero [] are = tt
  no_lines_of_zero (c ∷ cs) are = (not_same c.session 0 (λ e. not_zero c.session are.0.0 e), no_lines_of_zero cs are.1)
    where
      not_zero : (a : ℕ) → 0 < a → a ≡ 0 → ⊥
      not_zero a less e = omega (arith, less, e)

  -- what holds of each session's number holds of each number: under another nothing is noted, and no line has it
  pub each_number : (Q : ℕ → Type 0) (lines : List Command) (book : Book C) → HaveSessions lines → SessionsFit book → AreOthers 0 book
      → ((k : ℕ) → AreOthers k book → HasNoLines k lines → Q k) → ((k : ℕ) → 0 < k → k < 65 → Q k) → (k : ℕ) → Q k
  each_number Q lines book are fit idle lone within k = from_zero k
    where
      by_test : (j : ℕ) (b : Bool) → nat_lt j 65 ≡ b → 0 < j → Q j
      by_test j true e some = within j some (grind (arith, nat_tests, e))
      by_test j false e some = let more : 65 ≤ j = grind (arith, nat_tests, e) in lone j (others_past j more book fit) (lines_past j more lines are)

      from_zero : (j : ℕ) → Q j
      from_zero zero = lone 0 idle (no_lines_of_zero lines are)
      from_zero (suc j) = by_test (suc j) (nat_lt (suc j) 65) refl (omega arith)

  -- ---- the numbers come back

  find_number : (first : MemberView C B) (z : MemberView C B) (k : ℕ) (ps : List (PortView C B)) → AllByRecursion (IsFresh first) ps
      → AllByRecursion (λ (p : PortView C B). (j : ℕ) → has_number p.session.has j ≡ true → has_number z.session.has j ≡ true) ps → 0 < length (ports_of (store_ports told m made) k ps) → has_number z.session.has k ≡ true
  find_number first z k [] a b some = absurd (omega arith)
  find_number first z k (p ∷ ps) a b some = here (p.session.under == k) refl some (find_number first z k ps a.1 b.1)
    where
      here : (x : Bool) → (p.session.under == k) ≡ x → 0 < length (cond x (p ∷ filter (λ (r : PortView C B). r.session.under == k) ps) (filter (λ (r : PortView C B). r.session.under == k) ps))
          → (0 < length (ports_of (store_ports told m made) k ps) → has_number z.session.has k ≡ true) → has_number z.session.has k ≡ true
      here true e l further = b.0 k (subst (λ (j : ℕ). has_number p.session.has j ≡ true) (same_if p.session.under k e) (fresh_started first p a.0).own)
      here false e l further = further l

  pub numbers_back : (first main z : MemberView C B) (ports : List (PortView C B)) → HaveGivenOnes (store_ports told m made) main.session ports → AllByRecursion (IsFresh first) ports
      → ((k : ℕ) → has_number main.session.has k ≡ true → has_number z.session.has k ≡ true) → AllByRecursion (λ (p : PortView C B). (k : ℕ) → has_number p.session.has k ≡ true → has_number z.session.has k ≡ true) ports
      → (k : ℕ) → 0 < k → k < 65 → has_number z.session.has k ≡ true
  numbers_back first main z ports given fresh kept back k some lt = go (bool_cases (has_number main.session.has k))
    where
      go : (has_number main.session.has k ≡ true) ⊎ (has_number main.session.has k ≡ false) → has_number z.session.has k ≡ true
      go (inl t) = kept k t
      go (inr f) = let one : length (ports_of (store_ports told m made) k ports) ≡ 1 = given k some lt ∙ ap (λ (b : Bool). cond b 0 1) f in find_number first z k ports fresh back (omega arith)

  -- those that came back have the numbers that they had
  pub had_numbers : (z : MemberView C B) (old new : List (PortView C B)) → AllZip CameBack old new → AllByRecursion (IsJoinedTo z) new
      → AllByRecursion (λ (p : PortView C B). (k : ℕ) → has_number p.session.has k ≡ true → has_number z.session.has k ≡ true) old
  had_numbers z [] new zip joined = tt
  had_numbers z (p ∷ ps) [] zip joined = absurd zip
  had_numbers z (p ∷ ps) (q ∷ qs) zip joined = (
    λ k h. joined.0.has k (subst (λ (b : List Bool). has_number b k ≡ true) (sym (ap (λ (v : SessionView C B). v.has) zip.0.same)) h),
    had_numbers z ps qs zip.1 joined.1,
  )

  -- ---- each line has one port

  pub one_port_each : (main : MemberView C B) (ports : List (PortView C B)) (lines : List Command) → has_number main.session.has main.session.under ≡ true → HaveGivenOnes (store_ports told m made) main.session ports
      → AllByRecursion (IsServed main.session) lines → HaveSessions lines → HaveOnePort (store_ports told m made) (ports ++ left_port main ∷ []) lines
  one_port_each main ports [] own given served sessions = tt
  one_port_each main ports (c ∷ cs) own given served sessions = (one (dite (ℕ_discrete main.session.under c.session) (λ e. inl e) (λ ne. inr ne)) served.0, one_port_each main ports cs own given served.1 sessions.1)
    where
      there : main.session.under ≡ c.session → has_number main.session.has c.session ≡ true
      there e = subst (λ (j : ℕ). has_number main.session.has j ≡ true) e own

      one : (main.session.under ≡ c.session) ⊎ (main.session.under ≢ c.session) → IsServed main.session c → length (ports_of (store_ports told m made) c.session (ports ++ left_port main ∷ [])) ≡ 1
      one (inl e) is =
          let empty : length (ports_of (store_ports told m made) c.session ports) ≡ 0 = given c.session sessions.0.0 sessions.0.1 ∙ ap (λ (b : Bool). cond b 0 1) (there e) in
          ports_append told m made c.session ports (left_port main) true (subst (λ (j : ℕ). (main.session.under == j) ≡ true) e (same_number main.session.under)) ∙ ap (λ (n : ℕ). n + 1) empty
      one (inr ne) (inl e) = absurd (ne (sym e))
      one (inr ne) (inr f) =
          let some : length (ports_of (store_ports told m made) c.session ports) ≡ 1 = given c.session sessions.0.0 sessions.0.1 ∙ ap (λ (b : Bool). cond b 0 1) f in
          ports_append told m made c.session ports (left_port main) false (not_same main.session.under c.session ne) ∙ ap (λ (n : ℕ). n + 0) some
