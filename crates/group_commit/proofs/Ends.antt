-- The end of a session: its abort, and what others add behind it.
use Rattle.std.proofs.Common.{◌≡◌, ◌∙◌, ℕ, true, false, refl, sym, ap, subst, List, [], ◌∷◌, ◌++◌, append-nil, is_some}
use Rattle.std.specs.Prelude.{Option, Some, None, Result, Ok, Err}
use Rattle.tree_model.specs.Entries.{Entries}
use Rattle.tree_model.specs.Tree.{Tree}
use Rattle.call_contract.specs.Books.{Book, IsRun, entry, last, next}
use Rattle.call_contract.specs.Calls.{CallMeaning}
use Rattle.call_contract.specs.Sessions.{live_in}
use Rattle.call_contract.specs.States.{Live, State, of_session, start}
use Rattle.call_contract.specs.declared.events.Event.TheVariants as event
use Rattle.call_contract.specs.declared.events.EventAnswer.TheVariants as said
use Rattle.call_contract.proofs.Appends.{last_append}
use Rattle.command_lines.specs.declared.command.Command.{Command}
use Rattle.command_lines.specs.declared.command.StoreCall.{StoreCall}
use Rattle.command_lines.specs.declared.line_reply.LineAnswer.{LineAnswer}
use Rattle.command_lines.specs.declared.line_reply.LineReply.TheVariants.{Said}
use Rattle.command_lines.specs.declared.line_reply.SessionRefusal.TheVariants as why
use Rattle.session_driver.specs.Driving.{shown_of}
use Rattle.session_driver.specs.Refusals.{refusal_of}
use Rattle.session_driver.specs.declared.doing.Doing.TheVariants as doing
use Rattle.session_driver.proofs.Kept.{abort_same}
use Rattle.tx_core.specs.Refusals.{refused_abort}
use Rattle.turn_lock.specs.Turns.{has_number}
use Rattle.shared_store.specs.Calls.{HasAborted}
use Rattle.shared_store.specs.Lists.{book_of}
use Rattle.shared_store.specs.Sessions.{HasDone, SessionView}
use Rattle.shared_store.specs.declared.desk.Entry.{Entry}
use Rattle.shared_store.specs.declared.desk.Entry.TheVariants as kind
use Rattle.shared_store.specs.declared.errors.StoreError.{StoreError}
use Rattle.shared_store.proofs.Done.{book_append}
use Rattle.worker_run.specs.Ports.{Ended, LineDone}
use Rattle.worker_run.specs.declared.port.PortFault.{PortFault}
use Rattle.session_driver.specs.Asking.{doing_of}
use Rattle.session_driver.specs.Sessions.{AreOthers, Ends, IsAbort, Printed}
use Rattle.group_commit.specs.StorePorts.{GrewFor, HasEnd, HasPart, PortView, store_ports}
use Rattle.group_commit.specs.inside.Answering.{LineLeaves}
use Rattle.group_commit.specs.inside.Joining.{member_of}
use Rattle.group_commit.specs.inside.PortLaws.{book_grew, grew_on}
use Rattle.group_commit.proofs.Calls.{core_of, none_is_no_some}
use Rattle.group_commit.proofs.Lines.{grew_by_one, grew_by_others, others_in, same_number}
use Rattle.session_driver.proofs.OtherSessions.{same_live}
use Rattle.group_commit.proofs.Passes.{same_pass}

module _ {C : Type 0} (m : CallMeaning C) (s : ℕ) where
  -- ---- entries of others leave an end

  pub ends_in_others : (es : Book C) (st : State C) → AreOthers s es → of_session s st.live ≡ None → Ends m s st es
  ends_in_others [] st o empty = empty
  ends_in_others (n ∷ ns) st o empty = (subst (IsAbort m n) (sym o.0) tt, ends_in_others ns (next m st n) o.1 (same_live m s st n o.0 ∙ empty))

  pub ends_before_others : (es fs : Book C) (st : State C) → Ends m s st es → AreOthers s fs → Ends m s st (es ++ fs)
  ends_before_others [] fs st e o = ends_in_others fs st o e
  ends_before_others (n ∷ ns) fs st e o = (e.0, ends_before_others ns fs (next m st n) e.1 o)

  pub ends_behind_others : (es fs : Book C) (st : State C) → AreOthers s es → Ends m s (last m st es) fs → Ends m s st (es ++ fs)
  ends_behind_others [] fs st o e = e
  ends_behind_others (n ∷ ns) fs st o e = (subst (IsAbort m n) (sym o.0) tt, ends_behind_others ns fs (next m st n) o.1 e)

module _ {C B : Type 0} (told : B → Option Entries) (m : CallMeaning C) where
  no_live_one : (st : State C) (o : Option (Live C)) → Some why.NoTransaction ≡ refusal_of m st o doing.Abort → o ≡ None
  no_live_one st None e = refl
  no_live_one st (Some t) e = absurd (none_is_no_some (sym e))

  -- the book tells that none is live
  none_live : (s : ℕ) (es : List (Entry C B)) → live_in (book_of es) s ≡ None → (t : Tree) (n l : ℕ) → IsRun m (start t n l) (book_of es) → of_session s (last m (start t n l) (book_of es)).live ≡ None
  none_live s es empty t n l run =
      let st = last m (start t n l) (book_of es) in
      no_live_one st (of_session s st.live) (ap (λ (o : Option (Live C)). shown_of (refused_abort o)) (sym empty) ∙ abort_same m t (core_of told m s es n l) run s)

  pub end_leaves : (p q : SessionView C B) (r : Result (Unit {0}) StoreError) → has_number p.has p.under ≡ true → HasDone p q (λ before after. HasAborted before p.under r after) → live_in (book_of q.seen) p.under ≡ None
      → HasEnd told m p.has p.under p.seen q.seen
  end_leaves p q r own h empty = go r h.did
    where
      behind : (grew : GrewFor p.has p.under h.before q.seen)
          → ((t : Tree) (n l : ℕ) → IsRun m (start t n l) (book_of q.seen) → Ends m p.under (last m (start t n l) (book_of h.before)) (book_of grew.added)) → HasEnd told m p.has p.under p.seen q.seen
      behind grew ends = record {
        grew = grew_on p.has p.under p.seen h.before q.seen (grew_by_others p.has p.under p.seen h.before h.goes_on) grew;
        ends = λ t n l opened run.
            let st = last m (start t n l) (book_of p.seen) in
            let state = ap (last m (start t n l)) (book_grew p.seen h.before h.goes_on.0 h.goes_on.1) ∙ last_append m (start t n l) (book_of p.seen) (book_of h.goes_on.0) in
            subst (Ends m p.under st) (sym (book_append h.goes_on.0 grew.added))
            (ends_behind_others m p.under (book_of h.goes_on.0) (book_of grew.added) st (others_in p.has p.under own h.goes_on.0 h.goes_on.2)
            (subst (λ u. Ends m p.under u (book_of grew.added)) state (ends t n l run)));
      }

      go : (r : Result (Unit {0}) StoreError) → HasAborted h.before p.under r q.seen → HasEnd told m p.has p.under p.seen q.seen
      go (Ok x) did =
          let n = entry p.under event.Abort said.Nothing in
          behind (grew_by_one p.has p.under h.before q.seen event.Abort said.Nothing did.ok)
          (λ t k l run.
          let st = last m (start t k l) (book_of h.before) in
          let state = ap (last m (start t k l)) (book_grew h.before q.seen (kind.Noted n ∷ []) did.ok) ∙ last_append m (start t k l) (book_of h.before) (n ∷ []) in
          (subst (IsAbort m n) (sym (same_number p.under)) refl, subst (λ (u : State C). of_session p.under u.live ≡ None) state (none_live p.under q.seen empty t k l run)))
      go (Err e) did =
          behind (record { added = []; list = did.err ∙ sym (append-nil h.before); only = tt })
          (λ t k l run.
          subst (λ (z : List (Entry C B)). of_session p.under (last m (start t k l) (book_of z)).live ≡ None) did.err (none_live p.under q.seen empty t k l run))

  -- ---- ports

  module _ (made : StoreCall → C) where
    pub line_done : (p q : PortView C B) (c : Command) (a : LineAnswer) → c.session ≡ p.session.under → p.fault ≡ None → q.fault ≡ p.fault
        → LineLeaves told m (member_of p) (doing_of made c.what) (member_of q) (Ok a) → LineDone (store_ports told m made) p c q (Ok (Said c.session false a))
    line_done p q c a same usable kept h =
        let line : ℕ → Printed C = λ u. record { doing = doing_of made c.what; reply = Said u false a } in (
          (h.same, subst (λ (u : ℕ). HasPart told m p.session.has p.session.under p.session.seen q.session.seen (line u ∷ [])) (sym same) h.leaves, h.pass),
          kept ∙ usable,
          ap (λ (v : SessionView C B). v.under) h.same,
        )

    pub line_failed : (p q : PortView C B) (c : Command) (fault : PortFault) → q.fault ≡ Some fault
        → LineLeaves told m (member_of p) (doing_of made c.what) (member_of q) (Err fault) → LineDone (store_ports told m made) p c q (Err fault)
    line_failed p q c fault told_so h = ((h.same, h.leaves, h.pass), told_so, ap (λ (v : SessionView C B). v.under) h.same)

    pub port_ended : (p q : PortView C B) (r : Result (Unit {0}) StoreError) → has_number p.session.has p.session.under ≡ true → q.fault ≡ p.fault
        → HasDone p.session q.session (λ before after. HasAborted before p.session.under r after) → q.pass ≡ p.pass → live_in (book_of q.session.seen) q.session.under ≡ None → Ended (store_ports told m made) p q
    port_ended p q r own kept h stays empty =
        let under : q.session.under ≡ p.session.under = ap (λ (v : SessionView C B). v.under) h.same in
        record {
          ended = (h.same, end_leaves p.session q.session r own h (subst (λ (u : ℕ). live_in (book_of q.session.seen) u ≡ None) under empty), same_pass p.pass q.pass stays);
          session = under;
          fault = kept;
          live = ap is_some empty;
        }
