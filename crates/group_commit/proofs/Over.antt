-- The run over a group commit as a whole: ports are split off, work, come back and are joined to the member that closes it.
use Rattle.std.proofs.Common.{◌≡◌, ◌≢◌, ◌∙◌, ◌<◌, ◌⊎◌, ℕ, Bool, true, arith, sym, ap, subst, is_some, List, [], ◌∷◌, ◌++◌, append_assoc, refl}
use Rattle.std.specs.Prelude.{Err, None, Option, Result}
use Rattle.std.specs.List.{AllByRecursion, AllZip}
use Rattle.tree_model.specs.Entries.{Entries}
use Rattle.tree_model.specs.Tree.{Tree}
use Rattle.call_contract.specs.Books.{Book, IsRun}
use Rattle.call_contract.specs.Calls.{CallMeaning}
use Rattle.call_contract.specs.States.{start}
use Rattle.command_lines.specs.declared.command.Command.{Command}
use Rattle.command_lines.specs.declared.command.StoreCall.{StoreCall}
use Rattle.command_lines.specs.declared.line_reply.LineReply.{LineReply}
use Rattle.turn_lock.specs.Turns.{has_number}
use Rattle.shared_store.specs.Lists.{book_of}
use Rattle.shared_store.specs.Sessions.{SessionView}
use Rattle.shared_store.specs.declared.desk.Entry.{Entry}
use Rattle.group_commit.specs.Marks.{opening_in}
use Rattle.group_commit.specs.Members.{GroupView, IsOf, MemberView}
use Rattle.worker_run.specs.Ports.{Ended}
use Rattle.worker_run.specs.Workers.{HasReplied, HasWorked, HaveOnePort}
use Rattle.worker_run.specs.declared.port.PortFault.{PortFault}
use Rattle.group_commit.specs.OwnLines.{own_doings, own_printed}
use Rattle.session_driver.specs.Sessions.{Does, DoesSome}
use Rattle.group_commit.specs.StorePorts.{HaveSessions, IsOpenedOver, IsPort, IsSessionNumber, PortView, store_ports}
use Rattle.group_commit.specs.inside.Joining.{CameBack, GoesFrom, HasGivenAway, HaveGivenOnes, IsFirst, IsFresh, IsJoinedTo, IsServed, MayJoin, left_port, member_of}
use Rattle.group_commit.proofs.Came.{PortCame, all_came, idle_came}
use Rattle.group_commit.proofs.Joins.{all_back, all_first, all_last, all_may_join, all_to, all_with_last, back_as_it_is, fresh_of, not_empty}
use Rattle.group_commit.proofs.Passes.{opening_longer}
use Rattle.group_commit.proofs.Runs.{all_grew, came_all_grew, does_none, does_nothing, each_session, had_numbers, last_of_zip, not_served, numbers_back, one_port_each, port_does, port_does_some}
use Rattle.group_commit.proofs.Splits.{split_of, split_opened}

zip_itself : {X : Type 0} (R : X → X → Type 0) (xs : List X) → AllByRecursion (λ x. R x x) xs → AllZip R xs xs
zip_itself R [] a = tt
zip_itself R (x ∷ xs) a = (a.0, zip_itself R xs a.1)

module _ {C B : Type 0} (told : B → Option Entries) (m : CallMeaning C) (made : StoreCall → C) where
  -- ports were split off the first member of a group commit, for each session's number at most one
  pub record WasSplit (group : GroupView) (first main : MemberView C B) (ports : List (PortView C B)) : Type 0 where
    pub is_first : IsFirst group first
    pub same : HasGivenAway first main
    pub own : has_number main.session.has main.session.under ≡ true
    pub fresh : AllByRecursion (IsFresh first) ports
    pub given : HaveGivenOnes (store_ports told m made) main.session ports

  module _ (group : GroupView) (first main : MemberView C B) (ports : List (PortView C B)) (split : WasSplit group first main ports) where
    -- with the port of the member that is left
    abbrev pub all_ports : List (PortView C B)
    all_ports = ports ++ left_port main ∷ []

    main_seen : main.session.seen ≡ first.session.seen
    main_seen = ap (λ (v : SessionView C B). v.seen) split.same.session

    main_under : main.session.under ≡ first.session.under
    main_under = ap (λ (v : SessionView C B). v.under) split.same.session

    main_of : IsOf group main
    main_of = split_of group first main split.is_first split.same

    main_opened : is_some (opening_in main.pass.seen) ≡ true
    main_opened = split_opened group first main split.is_first split.same

    -- the member that is left may be a port
    pub left_is_port : IsPort group main
    left_is_port = record {
      store = main_of.0;
      journal = main_of.1;
      session = λ e. no_zero first.session.under split.is_first.number.0 (sym main_under ∙ e);
      small = subst (λ (k : ℕ). k < 65) (sym main_under) split.is_first.number.1;
      own = split.own;
      opened = main_opened;
    }
      where
        no_zero : (k : ℕ) → 0 < k → k ≡ 0 → ⊥
        no_zero k less e = omega (arith, less, e)

    all_empty : AllByRecursion (λ (p : PortView C B). book_of p.session.seen ≡ []) all_ports
    all_empty =
        let fresh_empty : (p : PortView C B) → IsFresh first p → book_of p.session.seen ≡ [] = λ p f. ap (λ (v : SessionView C B). book_of v.seen) f.session ∙ split.is_first.empty in
        all_with_last (λ (p : PortView C B). book_of p.session.seen ≡ []) ports (left_port main) (all_to (IsFresh first) (λ (p : PortView C B). book_of p.session.seen ≡ []) ports fresh_empty split.fresh)
        (ap book_of main_seen ∙ split.is_first.empty)

    all_of : AllByRecursion (λ (p : PortView C B). IsOf group (member_of p)) all_ports
    all_of =
        all_with_last (λ (p : PortView C B). IsOf group (member_of p)) ports (left_port main)
        (all_to (IsFresh first) (λ (p : PortView C B). IsOf group (member_of p)) ports (λ p f. fresh_of group first p split.is_first.group_is f) split.fresh) main_of

    all_usable : AllByRecursion (λ (p : PortView C B). p.fault ≡ None) all_ports
    all_usable = all_with_last (λ (p : PortView C B). p.fault ≡ None) ports (left_port main) (all_to (IsFresh first) (λ (p : PortView C B). p.fault ≡ None) ports (λ p f. f.fault) split.fresh) refl

    -- ---- where there was no memory for them

    pub idle_back : AllZip CameBack all_ports all_ports
    idle_back = zip_itself CameBack all_ports (all_to (λ (p : PortView C B). book_of p.session.seen ≡ []) (λ (p : PortView C B). CameBack p p) all_ports back_as_it_is all_empty)

    pub idle_all_came : (lines : List Command) → AllZip (PortCame told m made lines) all_ports all_ports
    idle_all_came lines =
        zip_itself (PortCame told m made lines) all_ports
        (all_to (λ (p : PortView C B). book_of p.session.seen ≡ []) (λ (p : PortView C B). PortCame told m made lines p p) all_ports (idle_came told m made lines) all_empty)

    pub idle_joins : AllByRecursion (MayJoin group) ports
    idle_joins = all_first (MayJoin group) ports (left_port main ∷ []) (all_may_join group all_ports all_ports all_of idle_back)

    pub idle_joined : (z : MemberView C B) → GoesFrom main z → AllByRecursion (IsJoinedTo z) ports → AllByRecursion (IsJoinedTo z) all_ports
    idle_joined z goes joined = all_with_last (IsJoinedTo z) ports (left_port main) joined goes

    -- ---- where they worked

    pub one_port : (lines : List Command) (old : List (PortView C B)) → old ≡ all_ports → AllByRecursion (IsServed main.session) lines → HaveSessions lines → HaveOnePort (store_ports told m made) old lines
    one_port lines old is served sessions = subst (λ (ps : List (PortView C B)). HaveOnePort (store_ports told m made) ps lines) (sym is) (one_port_each told m made main ports lines split.own split.given served sessions)

    module _ (lines : List Command) (old new : List (PortView C B)) (is : old ≡ all_ports) (r : Result (List LineReply) PortFault) (fault : PortFault)
        (worked : AllZip (HasWorked (store_ports told m made) lines) old new ⊎ ((r ≡ Err fault) × AllZip (Ended (store_ports told m made)) old new)) where
      pub worked_back : AllZip CameBack all_ports new
      worked_back = subst (λ (ps : List (PortView C B)). AllZip CameBack ps new) is (all_back told m made lines old new r fault worked)

      pub worked_came : AllZip (PortCame told m made lines) all_ports new
      worked_came =
          let usable = subst (λ (ps : List (PortView C B)). AllByRecursion (λ (p : PortView C B). p.fault ≡ None) ps) (sym is) all_usable in
          subst (λ (ps : List (PortView C B)). AllZip (PortCame told m made lines) ps new) is (all_came told m made lines old new r fault usable worked)

      pub some_back : new ≢ []
      some_back = not_empty ports (left_port main) new worked_back

      pub back_joins : AllByRecursion (MayJoin group) new
      back_joins = all_may_join group all_ports new all_of worked_back

    -- ---- where they were joined

    module _ (new : List (PortView C B)) (back : AllZip CameBack all_ports new) (z : MemberView C B) (joined : AllByRecursion (IsJoinedTo z) new) where
      had : AllByRecursion (λ (p : PortView C B). (k : ℕ) → has_number p.session.has k ≡ true → has_number z.session.has k ≡ true) all_ports
      had = had_numbers told m made z all_ports new back joined

      pub numbers_there : (k : ℕ) → 0 < k → k < 65 → has_number z.session.has k ≡ true
      numbers_there =
          let P = λ (p : PortView C B). (k : ℕ) → has_number p.session.has k ≡ true → has_number z.session.has k ≡ true in
          numbers_back told m made first main z ports split.given split.fresh (all_last P ports (left_port main) had) (all_first P ports (left_port main ∷ []) had)

      of_left : (q : PortView C B) × CameBack (left_port main) q × IsJoinedTo z q
      of_left = last_of_zip told m made CameBack (IsJoinedTo z) ports (left_port main) new back joined

      pub zero_there : has_number z.pass.has 0 ≡ true
      zero_there = of_left.2.zero (ap (λ (h : List Bool). has_number h 0) of_left.1.pass.has ∙ split.same.zero)

      -- the journal's turn was seen with the same opening
      pub marks_still : opening_in z.pass.seen ≡ opening_in first.pass.seen
      marks_still =
          let seen = of_left.0.pass.seen in
          let same : opening_in seen ≡ opening_in first.pass.seen = of_left.1.pass.opening ∙ ap opening_in split.same.seen in
          ap opening_in of_left.2.marks.1 ∙ opening_longer seen of_left.2.marks.0 (ap is_some (same ∙ split.is_first.opening)) ∙ same

      pub seen_still : (added : List (Entry C B)) × (z.session.seen ≡ first.session.seen ++ added)
      seen_still =
          let a = of_left.1.goes_on in
          let b = of_left.2.goes_on in
          (a.0 ++ b.0, b.1 ∙ ap (λ (es : List (Entry C B)). es ++ b.0) (a.1 ∙ ap (λ (es : List (Entry C B)). es ++ a.0) main_seen) ∙ append_assoc first.session.seen a.0 b.0)

    -- ---- each session

    module _ (lines : List Command) (new : List (PortView C B)) (z : MemberView C B) (joined : AllByRecursion (IsJoinedTo z) new) (t : Tree) (n l : ℕ) (opened : IsOpenedOver told first.session.seen t n l)
        (run : IsRun m (start t n l) (book_of z.session.seen)) (k : ℕ) (is : IsSessionNumber k) where
      opened_at : (es : List (Entry C B)) → es ≡ first.session.seen → IsOpenedOver told es t n l
      opened_at es at = subst (λ (xs : List (Entry C B)). IsOpenedOver told xs t n l) (sym at) opened

      pub each_does : (replies : List LineReply) → AllZip (HasReplied (store_ports told m made) lines replies) all_ports new → AllByRecursion (IsServed main.session) lines
          → Does m k (start t n l) (book_of z.session.seen) (own_printed made k lines replies)
      each_does replies zip served =
          each_session told m made (HasReplied (store_ports told m made) lines replies) (λ (j : ℕ). Does m j (start t n l) (book_of z.session.seen) (own_printed made j lines replies)) z first.session.seen
          (λ p q r j. all_grew told m made lines replies p q z r j)
          (λ p q r j at. port_does told m made lines replies p q z r j at.own (ap book_of at.seen ∙ split.is_first.empty) t n l (opened_at p.session.seen at.seen) run)
          first main ports new zip joined split.fresh refl main_seen split.own split.given split.is_first.empty
          (λ j o there ne. does_nothing told m made lines replies t n l (book_of z.session.seen) j o (not_served told m made main.session j lines there ne served)) k is.0 is.1

      pub each_does_some : AllZip (PortCame told m made lines) all_ports new → DoesSome m k (start t n l) (book_of z.session.seen) (own_doings made k lines)
      each_does_some zip =
          each_session told m made (PortCame told m made lines) (λ (j : ℕ). DoesSome m j (start t n l) (book_of z.session.seen) (own_doings made j lines)) z first.session.seen
          (λ p q r j. came_all_grew told m made lines p q z r j)
          (λ p q r j at. port_does_some told m made lines p q z r j at.own (ap book_of at.seen ∙ split.is_first.empty) t n l (opened_at p.session.seen at.seen) run)
          first main ports new zip joined split.fresh refl main_seen split.own split.given split.is_first.empty
          (λ j o there ne. does_none told m made lines t n l (book_of z.session.seen) j o) k is.0 is.1
