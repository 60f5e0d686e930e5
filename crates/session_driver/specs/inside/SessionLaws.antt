-- A session's part of a book, put together from stretches of it.
use Rattle.std.proofs.Common.{◌==◌, ℕ, Bool, true, false, sym, subst, List, [], ◌∷◌, ◌++◌, Option, Some, None}
use Rattle.std.proofs.Common.{inl, inr}
use Rattle.call_contract.specs.Books.{Book, last, next}
use Rattle.call_contract.specs.Calls.{CallMeaning}
use Rattle.call_contract.specs.States.{State}
use Rattle.call_contract.specs.declared.events.EventAnswer.{EventAnswer}
use Rattle.command_lines.specs.declared.line_reply.LineReply.{LineReply}
use Rattle.session_driver.specs.Sessions.{AreOthers, AreRefused, Behind, IsReplyOr, Meets, Part, Printed, Retries, is_wait}

reply_or : (s : ℕ) (a : EventAnswer) (reply : LineReply) (F G : Option LineReply → Type 0) (b : Bool) → ((w : Option LineReply) → F w → G w) → IsReplyOr s a reply F b → IsReplyOr s a reply G b
reply_or s a reply F G true on h = on (Some reply) h
reply_or s a reply F G false on h = (h.0, on None h.1)

module _ {C : Type 0} (m : CallMeaning C) (s : ℕ) where
  -- ---- lines that are refused

  refused_append : (st : State C) (ps qs : List (Printed C)) → AreRefused m st s ps → AreRefused m st s qs → AreRefused m st s (ps ++ qs)
  refused_append st [] qs a b = b
  refused_append st (p ∷ ps) qs a b = (a.0, refused_append st ps qs a.1 b)

  behind_here : (st : State C) (ps : List (Printed C)) (H : List (Printed C) → Type 0) → H ps → Behind m st s ps H
  behind_here st [] H h = h
  behind_here st (p ∷ ps) H h = inl h

  behind_refused : (st : State C) (ps qs : List (Printed C)) (H : List (Printed C) → Type 0) → AreRefused m st s ps → Behind m st s qs H → Behind m st s (ps ++ qs) H
  behind_refused st [] qs H a b = b
  behind_refused st (p ∷ ps) qs H a b = inr (a.0, behind_refused st ps qs H a.1 b)

  behind_on : (st : State C) (ps qs : List (Printed C)) (F G : List (Printed C) → Type 0) → ((rs : List (Printed C)) → F rs → G (rs ++ qs)) → Behind m st s ps F → Behind m st s (ps ++ qs) G
  behind_on st [] qs F G on h = behind_here st qs G (on [] h)
  behind_on st (p ∷ ps) qs F G on (inl h) = inl (on (p ∷ ps) h)
  behind_on st (p ∷ ps) qs F G on (inr h) = inr (h.0, behind_on st ps qs F G on h.1)

  -- ---- stretches one after another

  refused_first : (st : State C) (fs : Book C) (ps qs : List (Printed C)) → AreRefused m st s ps → Part m s st fs None qs → Part m s st fs None (ps ++ qs)
  refused_first st [] ps qs a b = refused_append st ps qs a b
  refused_first st (n ∷ ns) ps qs a b = behind_refused st ps qs (λ rs. Meets m s n rs (Part m s (next m st n) ns) (n.session == s)) a b

  pub part_on : (es fs : Book C) (st : State C) (wait : Option LineReply) (ps qs : List (Printed C)) → Part m s st es wait ps → Part m s (last m st es) fs None qs → Part m s st (es ++ fs) wait (ps ++ qs)
  part_on [] fs st None ps qs a b = refused_first st fs ps qs a b
  part_on [] fs st (Some reply) ps qs a b = absurd a
  part_on (n ∷ ns) fs st (Some reply) ps qs a b = go (n.session == s) (λ w rs k. part_on ns fs (next m st n) w rs qs k b) a
    where
      go : (b : Bool) → ((w : Option LineReply) (rs : List (Printed C)) → Part m s (next m st n) ns w rs → Part m s (next m st n) (ns ++ fs) w (rs ++ qs))
          → Retries m s n reply ps (Part m s (next m st n) ns) b → Retries m s n reply (ps ++ qs) (Part m s (next m st n) (ns ++ fs)) b
      go true on h =
          (h.0, reply_or s n.answer reply (λ w. Part m s (next m st n) ns w ps) (λ w. Part m s (next m st n) (ns ++ fs) w (ps ++ qs)) (is_wait n.answer) (λ w k. on w ps k) h.1)
      go false on h = on (Some reply) ps h
  part_on (n ∷ ns) fs st None ps qs a b =
      behind_on st ps qs (λ rs. Meets m s n rs (Part m s (next m st n) ns) (n.session == s)) (λ rs. Meets m s n rs (Part m s (next m st n) (ns ++ fs)) (n.session == s))
      (λ rs h. go rs (n.session == s) (λ w zs k. part_on ns fs (next m st n) w zs qs k b) h) a
    where
      go : (rs : List (Printed C)) (b : Bool) → ((w : Option LineReply) (zs : List (Printed C)) → Part m s (next m st n) ns w zs → Part m s (next m st n) (ns ++ fs) w (zs ++ qs))
          → Meets m s n rs (Part m s (next m st n) ns) b → Meets m s n (rs ++ qs) (Part m s (next m st n) (ns ++ fs)) b
      go [] true on h = absurd h
      go (r ∷ rs) true on h =
          (h.0, reply_or s n.answer r.reply (λ w. Part m s (next m st n) ns w rs) (λ w. Part m s (next m st n) (ns ++ fs) w (rs ++ qs)) (is_wait n.answer) (λ w k. on w rs k) h.1)
      go rs false on h = on None rs h

  pub stretches : (es fs : Book C) (st : State C) (ps qs : List (Printed C)) → Part m s st es None ps → Part m s (last m st es) fs None qs → Part m s st (es ++ fs) None (ps ++ qs)
  stretches es fs st ps qs a b = part_on es fs st None ps qs a b

  -- ---- entries of other sessions

  pub skipped : (es : Book C) (st : State C) → AreOthers s es → Part m s st es None []
  skipped [] st o = tt
  skipped (n ∷ ns) st o = subst (Meets m s n [] (Part m s (next m st n) ns)) (sym o.0) (skipped ns (next m st n) o.1)
