-- What a port has come to: the first of its session's lines, then the next one as far as it came, then the end of the session.
use Rattle.std.proofs.Common.{◌≡◌, ◌∙◌, ℕ, Bool, true, refl, sym, ap, subst, List, [], ◌∷◌, ◌++◌, map, append_assoc, append-nil, inl, inr, ◌⊎◌}
use Rattle.std.specs.Prelude.{Option, Some, None, Result, Err}
use Rattle.std.specs.List.{AllByRecursion, AllZip}
use Rattle.std.proofs.lemmas.List.{map-append}
use Rattle.tree_model.specs.Entries.{Entries}
use Rattle.tree_model.specs.Tree.{Tree}
use Rattle.call_contract.specs.Books.{Book, IsRun, last}
use Rattle.call_contract.specs.Calls.{CallMeaning}
use Rattle.call_contract.specs.States.{of_session, start}
use Rattle.command_lines.specs.declared.command.Command.{Command}
use Rattle.command_lines.specs.declared.command.StoreCall.{StoreCall}
use Rattle.command_lines.specs.declared.line_reply.LineReply.{LineReply}
use Rattle.session_driver.specs.declared.doing.Doing.{Doing}
use Rattle.turn_lock.specs.Turns.{GoesOn, has_number}
use Rattle.shared_store.specs.Lists.{book_of, number_of}
use Rattle.shared_store.specs.Sessions.{SessionView, having_seen}
use Rattle.shared_store.specs.declared.desk.Entry.{Entry}
use Rattle.worker_run.specs.Ports.{Ended, Exchange}
use Rattle.worker_run.specs.Workers.{DoesLines, HasWorked, Went, commands_given, own_lines}
use Rattle.worker_run.specs.declared.port.PortFault.{PortFault}
use Rattle.session_driver.specs.Asking.{doing_of}
use Rattle.group_commit.specs.OwnLines.{own_doings, printed}
use Rattle.session_driver.specs.Sessions.{BreaksNext, DoesSome, Ends, Part, Printed, doings_of}
use Rattle.group_commit.specs.StorePorts.{GrewFor, HasBroken, HasEnd, HasPart, IsOpenedOver, PortView, store_ports}
use Rattle.group_commit.specs.inside.PortLaws.{book_grew, grew_nothing, grew_on, opened_on, part_nothing, run_before}
use Rattle.group_commit.proofs.Ends.{ends_before_others}
use Rattle.group_commit.proofs.Joins.{WentOn, went_on, zip_to}
use Rattle.group_commit.proofs.Lines.{others_in}

pub next_nothing : {C : Type 0} (s : ℕ) (ds : List (Doing C)) → BreaksNext s ds []
next_nothing s [] = tt
next_nothing s (d ∷ ds) = tt

module _ {C B : Type 0} (told : B → Option Entries) (m : CallMeaning C) where
  -- the list has gone on by the entries of the first of these lines of the session, of the next one as far as it came, and of the session's end
  pub record CameTo (has : List Bool) (s : ℕ) (asked : List (Doing C)) (from to : List (Entry C B)) : Type 0 where
    pub done : List (Printed C)
    pub left : List (Doing C)
    pub all : asked ≡ doings_of done ++ left
    pub mid : List (Entry C B)
    pub part : HasPart told m has s from mid done
    pub late : List (Entry C B)
    pub grew : GrewFor has s mid late
    pub breaks : BreaksNext s left (book_of grew.added)
    pub ends : HasEnd told m has s late to

  module _ (has : List Bool) (s : ℕ) (asked : List (Doing C)) (from to : List (Entry C B)) where
    pub came_grew : CameTo has s asked from to → GrewFor has s from to
    came_grew c = grew_on has s from c.late to (grew_on has s from c.mid c.late c.part.grew c.grew) c.ends.grew

    -- in the whole book, where what others added behind isn't the session's
    pub came_does : CameTo has s asked from to → has_number has s ≡ true → book_of from ≡ [] → (z : List (Entry C B)) → GoesOn number_of has to z
        → (t : Tree) (n l : ℕ) → IsOpenedOver told from t n l → IsRun m (start t n l) (book_of z) → DoesSome m s (start t n l) (book_of z) asked
    came_does came own empty z rest t n l opened run =
        let a = book_of came.part.grew.added in
        let b = book_of came.grew.added in
        let e = book_of came.ends.grew.added in
        let c = book_of rest.0 in
        let st = start t n l in
        let run_to = run_before told m t n l to z rest.0 rest.1 run in
        let run_late = run_before told m t n l came.late to came.ends.grew.added came.ends.grew.list run_to in
        let run_mid = run_before told m t n l came.mid came.late came.grew.added came.grew.list run_late in
        let opened_mid = opened_on told from came.mid came.part.grew.added came.part.grew.list t n l opened in
        let opened_late = opened_on told came.mid came.late came.grew.added came.grew.list t n l opened_mid in
        let book_mid : book_of came.mid ≡ a = book_grew from came.mid came.part.grew.added came.part.grew.list ∙ ap (λ (bk : Book C). bk ++ a) empty in
        let book_late : book_of came.late ≡ a ++ b = book_grew came.mid came.late came.grew.added came.grew.list ∙ ap (λ (bk : Book C). bk ++ b) book_mid in
        let book_to : book_of to ≡ (a ++ b) ++ e = book_grew came.late to came.ends.grew.added came.ends.grew.list ∙ ap (λ (bk : Book C). bk ++ e) book_late in
        let whole : book_of z ≡ ((a ++ b) ++ e) ++ c = book_grew to z rest.0 rest.1 ∙ ap (λ (bk : Book C). bk ++ c) book_to in
        record {
          entries = a;
          broken = b;
          rest = e ++ c;
          book = whole ∙ append_assoc (a ++ b) e c ∙ append_assoc a b (e ++ c);
          done = came.done;
          left = came.left;
          all = came.all;
          lines = subst (λ (bk : Book C). Part m s (last m st bk) a None came.done) empty (came.part.part t n l opened run_mid);
          breaks = came.breaks;
          ends = ends_before_others m s e c (last m st (a ++ b)) (subst (λ (bk : Book C). Ends m s (last m st bk) e) book_late (came.ends.ends t n l opened_late run_to)) (others_in has s own rest.0 rest.2);
        }

    -- nothing of its lines was done
    came_to_end : HasEnd told m has s from to → CameTo has s asked from to
    came_to_end end = record {
      done = [];
      left = asked;
      all = refl;
      mid = from;
      part = part_nothing told m has s from;
      late = from;
      grew = grew_nothing has s from;
      breaks = next_nothing s asked;
      ends = end;
    }

  -- ---- ports

  module _ (made : StoreCall → C) where
    -- what a command asks
    abbrev asked_by : Command → Doing C
    asked_by c = doing_of made c.what

    doings_done : (xs : List Exchange) → doings_of (map (printed made) xs) ≡ map asked_by (commands_given xs)
    doings_done [] = refl
    doings_done (x ∷ xs) = ap (λ (ds : List (Doing C)). asked_by x.0 ∷ ds) (doings_done xs)

    all_asked : (own : List Command) (gave : List Exchange) (left : List Command) → commands_given gave ++ left ≡ own → map asked_by own ≡ doings_of (map (printed made) gave) ++ map asked_by left
    all_asked own gave left is = ap (map asked_by) (sym is) ∙ map-append asked_by (commands_given gave) left ∙ ap (λ (ds : List (Doing C)). ds ++ map asked_by left) (sym (doings_done gave))

    -- a port's session, which has seen more, has the same numbers
    module _ (F : List Bool → ℕ → Type 0) (p q : SessionView C B) (same : q ≡ having_seen q.seen p) where
      of_first : F q.has q.under → F p.has p.under
      of_first f = subst (F p.has) (ap (λ (v : SessionView C B). v.under) same) (subst (λ (h : List Bool). F h q.under) (ap (λ (v : SessionView C B). v.has) same) f)

    end_of : (p q r : PortView C B) → WentOn told m made p q → Ended (store_ports told m made) q r → HasEnd told m p.session.has p.session.under q.session.seen r.session.seen
    end_of p q r w e = of_first (λ h u. HasEnd told m h u q.session.seen r.session.seen) p.session q.session w.same e.ended.1

    went_came : (own : List Command) (gave : List Exchange) (p q r : PortView C B) (o : Option PortFault) → Went (store_ports told m made) own gave p q o → Ended (store_ports told m made) q r
        → CameTo p.session.has p.session.under (map asked_by own) p.session.seen r.session.seen
    went_came own gave p q r None w e = record {
      done = map (printed made) gave;
      left = [];
      all = all_asked own gave [] (append-nil (commands_given gave) ∙ w.all);
      mid = q.session.seen;
      part = w.did.1;
      late = q.session.seen;
      grew = grew_nothing p.session.has p.session.under q.session.seen;
      breaks = tt;
      ends = end_of p q r (went_on told m made own gave p q None w) e;
    }
    went_came own gave p q r (Some f) w e =
        let d = asked_by w.at in
        let broken = of_first (λ h u. HasBroken h u d w.before.session.seen q.session.seen) p.session w.before.session w.did.0 w.met.1 in
        record {
          done = map (printed made) gave;
          left = d ∷ map asked_by w.rest;
          all = all_asked own gave (w.at ∷ w.rest) w.prefix;
          mid = w.before.session.seen;
          part = w.did.1;
          late = q.session.seen;
          grew = broken.grew;
          breaks = broken.breaks;
          ends = end_of p q r (went_on told m made own gave p q (Some f) w) e;
        }

    module _ (lines : List Command) where
      -- it is over the same session, and has come so far
      pub record PortCame (p q : PortView C B) : Type 0 where
        pub same : q.session ≡ having_seen q.session.seen p.session
        pub came : CameTo p.session.has p.session.under (own_doings made p.session.under lines) p.session.seen q.session.seen

      with_seen : (p q r : SessionView C B) → q ≡ having_seen q.seen p → r ≡ having_seen r.seen q → r ≡ having_seen r.seen p
      with_seen p q r e f = f ∙ ap (having_seen r.seen) e

      worked_came : (p q : PortView C B) → p.fault ≡ None → HasWorked (store_ports told m made) lines p q → PortCame p q
      worked_came p q usable w =
          let own = own_lines p.session.under lines in
          let did : Went (store_ports told m made) own w.gave p w.last w.last.fault = subst (DoesLines (store_ports told m made) lines w.gave p w.last) usable w.does in
          record {
            same = with_seen p.session w.last.session q.session (went_on told m made own w.gave p w.last w.last.fault did).same w.ended.ended.0;
            came = went_came own w.gave p w.last q w.last.fault did w.ended;
          }

      ended_came : (p q : PortView C B) → Ended (store_ports told m made) p q → PortCame p q
      ended_came p q e = record { same = e.ended.0; came = came_to_end p.session.has p.session.under (own_doings made p.session.under lines) p.session.seen q.session.seen e.ended.1 }

      -- a port over an empty book that did nothing
      pub idle_came : (p : PortView C B) → book_of p.session.seen ≡ [] → PortCame p p
      idle_came p empty =
          let s = p.session.under in
          let seen = p.session.seen in
          record {
            same = refl;
            came = came_to_end p.session.has s (own_doings made s lines) seen seen (record {
              grew = grew_nothing p.session.has s seen;
              ends = λ t n l opened run. subst (λ (bk : Book C). of_session s (last m (start t n l) bk).live ≡ None) (sym empty) refl;
            });
          }

      zip_usable : (old new : List (PortView C B)) → AllByRecursion (λ p. p.fault ≡ None) old → AllZip (HasWorked (store_ports told m made) lines) old new → AllZip PortCame old new
      zip_usable [] [] a z = tt
      zip_usable [] (q ∷ qs) a z = z
      zip_usable (p ∷ ps) [] a z = z
      zip_usable (p ∷ ps) (q ∷ qs) a z = (worked_came p q a.0 z.0, zip_usable ps qs a.1 z.1)

      pub all_came : (old new : List (PortView C B)) (r : Result (List LineReply) PortFault) (fault : PortFault) → AllByRecursion (λ p. p.fault ≡ None) old
          → AllZip (HasWorked (store_ports told m made) lines) old new ⊎ ((r ≡ Err fault) × AllZip (Ended (store_ports told m made)) old new) → AllZip PortCame old new
      all_came old new r fault usable (inl z) = zip_usable old new usable z
      all_came old new r fault usable (inr z) = zip_to told m made (Ended (store_ports told m made)) PortCame old new ended_came z.1
