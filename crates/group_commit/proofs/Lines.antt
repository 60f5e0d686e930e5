-- A line of a session that is one entry, or that is refused.
use Rattle.std.proofs.Common.{◌≡◌, ◌∙◌, ◌==◌, ℕ, Bool, true, false, refl, sym, ap, subst, List, [], ◌∷◌, append-nil, true≢false, inl, inr}
use Rattle.std.specs.Prelude.{Option, Some, None}
use Rattle.std.specs.Cmp.{unsigned_Decides}
use Rattle.std.specs.List.{AllByRecursion}
use Rattle.tree_model.specs.Entries.{Entries}
use Rattle.tree_model.specs.Tree.{Tree}
use Rattle.call_contract.specs.Books.{Book, IsRun, entry, last, next}
use Rattle.call_contract.specs.Calls.{CallMeaning}
use Rattle.call_contract.specs.States.{State, start}
use Rattle.call_contract.specs.declared.events.Event.{Event}
use Rattle.call_contract.specs.declared.events.EventAnswer.{EventAnswer}
use Rattle.call_contract.proofs.Appends.{last_append}
use Rattle.command_lines.specs.declared.line_reply.LineAnswer.TheVariants as line_answer
use Rattle.command_lines.specs.declared.line_reply.LineReply.TheVariants.{Said}
use Rattle.command_lines.specs.declared.line_reply.SessionRefusal.{SessionRefusal}
use Rattle.session_driver.specs.Lines.{event_of}
use Rattle.session_driver.specs.Progress.{shown}
use Rattle.session_driver.specs.Refusals.{refusal}
use Rattle.session_driver.specs.declared.doing.Doing.{Doing}
use Rattle.turn_lock.specs.Turns.{AreForeign, GoesOn, has_number}
use Rattle.shared_store.specs.Calls.{with_noted}
use Rattle.shared_store.specs.Lists.{book_of, number_of}
use Rattle.shared_store.specs.declared.desk.Entry.{Entry}
use Rattle.shared_store.specs.declared.desk.Entry.TheVariants as kind
use Rattle.shared_store.proofs.Done.{book_append}
use Rattle.session_driver.specs.Sessions.{AreOthers, IsRefusedSo, IsReplyOr, Meets, Part, Printed, is_wait}
use Rattle.group_commit.specs.StorePorts.{GrewFor, HasPart, IsOnlyOf, IsOpenedOver}
use Rattle.group_commit.specs.inside.PortLaws.{book_grew, grew_on, opened_on}
use Rattle.session_driver.specs.inside.SessionLaws.{skipped, stretches}

pub same_number : (s : ℕ) → (s == s) ≡ true
same_number s = (unsigned_Decides s s).1 refl

-- the session is refused this in the state that the list's book comes to
abbrev pub IsRefusedBy : {C B : Type 0} → (B → Option Entries) → CallMeaning C → ℕ → List (Entry C B) → Doing C → SessionRefusal → Type 0
IsRefusedBy told m s es d why = (t : Tree) (n l : ℕ) → IsOpenedOver told es t n l → IsRun m (start t n l) (book_of es) → refusal m (last m (start t n l) (book_of es)) s d ≡ Some why

module _ {C B : Type 0} (has : List Bool) (s : ℕ) where
  -- ---- entries of others

  pub only_of_others : (es : List (Entry C B)) → AreForeign number_of has es → AllByRecursion (IsOnlyOf has s) es
  only_of_others [] a = tt
  only_of_others (e ∷ es) a = (inl a.0, only_of_others es a.1)

  abbrev pub grew_by_others : (xs ys : List (Entry C B)) → GoesOn number_of has xs ys → GrewFor has s xs ys
  grew_by_others xs ys g = record { added = g.0; list = g.1; only = only_of_others g.0 g.2 }

  abbrev pub grew_by_one : (xs ys : List (Entry C B)) (e : Event C) (a : EventAnswer) → ys ≡ with_noted xs (entry s e a) → GrewFor has s xs ys
  grew_by_one xs ys e a is = record { added = kind.Noted (entry s e a) ∷ []; list = is; only = (inr refl, tt) }

  pub others_in : has_number has s ≡ true → (es : List (Entry C B)) → AreForeign number_of has es → AreOthers s (book_of es)
  others_in own [] a = tt
  others_in own (kind.Opening o n l b d ∷ es) a = others_in own es a.1
  others_in own (kind.Noted n ∷ es) a = (go (n.session == s) refl, others_in own es a.1)
    where
      go : (b : Bool) → (n.session == s) ≡ b → (n.session == s) ≡ false
      go false e = e
      go true e = absurd (true≢false (sym (subst (λ (k : ℕ). has_number has k ≡ true) (sym ((unsigned_Decides n.session s).0 e)) own) ∙ a.0))
  others_in own (kind.Drained k ∷ es) a = others_in own es a.1

module _ {C B : Type 0} (told : B → Option Entries) (m : CallMeaning C) (has : List Bool) (s : ℕ) (own : has_number has s ≡ true) where
  -- what was added of the session's own, behind the entries of others that it found
  pub behind_others : (from before to : List (Entry C B)) (ps : List (Printed C)) → GoesOn number_of has from before → (grew : GrewFor has s before to)
      → ((t : Tree) (n l : ℕ) → IsOpenedOver told before t n l → IsRun m (start t n l) (book_of to) → Part m s (last m (start t n l) (book_of before)) (book_of grew.added) None ps)
      → HasPart told m has s from to ps
  behind_others from before to ps g grew part = record {
    grew = grew_on has s from before to (grew_by_others has s from before g) grew;
    part = λ t n l is run.
        let st = last m (start t n l) (book_of from) in
        let later_on = part t n l (opened_on told from before g.0 g.1 t n l is) run in
        let state = ap (last m (start t n l)) (book_grew from before g.0 g.1) ∙ last_append m (start t n l) (book_of from) (book_of g.0) in
        subst (λ (bk : Book C). Part m s st bk None ps) (sym (book_append g.0 grew.added))
        (stretches m s (book_of g.0) (book_of grew.added) st [] ps (skipped m s (book_of g.0) st (others_in has s own g.0 g.2))
        (subst (λ u. Part m s u (book_of grew.added) None ps) state later_on));
  }

  -- ---- a line that is an entry

  one_entry : (st : State C) (d : Doing C) (a : EventAnswer) → is_wait a ≡ false → Part m s st (entry s (event_of d) a ∷ []) None (record { doing = d; reply = Said s false (shown a) } ∷ [])
  one_entry st d a w =
      let n = entry s (event_of d) a in
      let p : Printed C = record { doing = d; reply = Said s false (shown a) } in
      let said : IsReplyOr s a p.reply (λ wait. Part m s (next m st n) [] wait []) (is_wait a) = subst (IsReplyOr s a p.reply (λ wait. Part m s (next m st n) [] wait [])) (sym w) (refl, tt) in
      inl (subst (Meets m s n (p ∷ []) (Part m s (next m st n) [])) (sym (same_number s)) (refl, said))

  pub entry_part : (from before to : List (Entry C B)) (d : Doing C) (a : EventAnswer) → is_wait a ≡ false → GoesOn number_of has from before
      → to ≡ with_noted before (entry s (event_of d) a) → HasPart told m has s from to (record { doing = d; reply = Said s false (shown a) } ∷ [])
  entry_part from before to d a w g is = behind_others from before to (record { doing = d; reply = Said s false (shown a) } ∷ []) g (grew_by_one has s before to (event_of d) a is)
      (λ t n l opened run. one_entry (last m (start t n l) (book_of before)) d a w)

  -- ---- a line that is refused

  pub refused_part : (from before to : List (Entry C B)) (d : Doing C) (why : SessionRefusal) → GoesOn number_of has from before → to ≡ before → IsRefusedBy told m s before d why
      → HasPart told m has s from to (record { doing = d; reply = Said s false (line_answer.Session why) } ∷ [])
  refused_part from before to d why g is refused =
      let p : Printed C = record { doing = d; reply = Said s false (line_answer.Session why) } in
      behind_others from before to (p ∷ []) g (record { added = []; list = is ∙ sym (append-nil before); only = tt })
      (λ t n l opened run.
      let told_so = refused t n l opened (subst (λ (es : List (Entry C B)). IsRun m (start t n l) (book_of es)) is run) in
      (subst (IsRefusedSo m s p.reply) (sym told_so) refl, tt))
