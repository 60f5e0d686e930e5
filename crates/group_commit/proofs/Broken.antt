-- A line that isn't answered: what was added of it.
use Rattle.std.proofs.Common.{◌≡◌, ◌∙◌, ℕ, Bool, true, false, refl, sym, subst, List, [], ◌∷◌, ◌++◌, append-nil, inl, inr}
use Rattle.std.specs.Prelude.{Option}
use Rattle.call_contract.specs.Books.{Book, entry}
use Rattle.call_contract.specs.declared.events.Event.{Event}
use Rattle.call_contract.specs.declared.events.Event.TheVariants as event
use Rattle.call_contract.specs.declared.events.EventAnswer.{EventAnswer}
use Rattle.call_contract.specs.declared.events.EventAnswer.TheVariants as said
use Rattle.session_driver.specs.declared.doing.Doing.{Doing}
use Rattle.turn_lock.specs.Turns.{GoesOn, has_number}
use Rattle.shared_store.specs.Calls.{with_failed, with_noted}
use Rattle.shared_store.specs.Lists.{book_of, number_of}
use Rattle.shared_store.specs.declared.desk.Entry.{Entry}
use Rattle.shared_store.proofs.Done.{book_append}
use Rattle.session_driver.specs.Sessions.{AreOthers, Breaks, IsAttempt, IsUnanswered, MeetsUnanswered, is_wait}
use Rattle.group_commit.specs.StorePorts.{GrewFor, HasBroken}
use Rattle.group_commit.specs.inside.PortLaws.{grew_on}
use Rattle.group_commit.proofs.Lines.{grew_by_one, grew_by_others, others_in, same_number}

module _ {C : Type 0} (s : ℕ) (d : Doing C) where
  breaks_behind_others : (es fs : Book C) (w : Bool) → AreOthers s es → Breaks s d w fs → Breaks s d w (es ++ fs)
  breaks_behind_others [] fs w o b = b
  breaks_behind_others (n ∷ ns) fs w o b = subst (MeetsUnanswered s d w n (ns ++ fs) (λ v. Breaks s d v (ns ++ fs))) (sym o.0) (breaks_behind_others ns fs w o.1 b)

module _ {C B : Type 0} (has : List Bool) (s : ℕ) (d : Doing C) where
  -- the list goes on, and what was added has of the line what it came to; its call waits before, or not
  pub record BreaksOn (waits : Bool) (from to : List (Entry C B)) : Type 0 where
    pub grew : GrewFor has s from to
    pub breaks : Breaks s d waits (book_of grew.added)

  pub is_broken : (from to : List (Entry C B)) → BreaksOn false from to → HasBroken has s d from to
  is_broken from to b = record { grew = b.grew; breaks = b.breaks }

  pub breaks_nothing : (w : Bool) (from to : List (Entry C B)) → to ≡ from → BreaksOn w from to
  breaks_nothing w from to is = record { grew = record { added = []; list = is ∙ sym (append-nil from); only = tt }; breaks = tt }

  -- ---- the last entry

  by_entry : (w : Bool) (e : Event C) (a : EventAnswer) (from to : List (Entry C B)) → to ≡ with_noted from (entry s e a) → IsUnanswered s d w (entry s e a) [] (Breaks s d true []) → BreaksOn w from to
  by_entry w e a from to is this = record {
    grew = grew_by_one has s from to e a is;
    breaks = subst (MeetsUnanswered s d w (entry s e a) [] (λ v. Breaks s d v [])) (sym (same_number s)) this;
  }

  pub breaks_by_failure : (w : Bool) (c : Option C) (k : ℕ) (f : Option ℕ) (from to : List (Entry C B)) → to ≡ with_failed from s c k f → BreaksOn w from to
  breaks_by_failure w c k f from to is = by_entry w (event.Fail c k f) said.Nothing from to is (inr (inr refl, tt))

  pub breaks_by_attempt : (w : Bool) (e : Event C) (a : EventAnswer) (from to : List (Entry C B)) → IsAttempt d w e → to ≡ with_noted from (entry s e a) → BreaksOn w from to
  breaks_by_attempt w e a from to at is = by_entry w e a from to is (inr (inl at, tt))

  -- ---- entries before

  pub breaks_behind_wait : (w : Bool) (e : Event C) (a : EventAnswer) (from mid to : List (Entry C B)) → IsAttempt d w e → is_wait a ≡ true → mid ≡ with_noted from (entry s e a) → BreaksOn true mid to → BreaksOn w from to
  breaks_behind_wait w e a from mid to at waits is on =
      let book = book_of on.grew.added in
      record {
        grew = grew_on has s from mid to (grew_by_one has s from mid e a is) on.grew;
        breaks = subst (MeetsUnanswered s d w (entry s e a) book (λ v. Breaks s d v book)) (sym (same_number s)) (inl (at, waits, on.breaks));
      }

  pub breaks_behind : has_number has s ≡ true → (w : Bool) (from before to : List (Entry C B)) → GoesOn number_of has from before → BreaksOn w before to → BreaksOn w from to
  breaks_behind own w from before to g b = record {
    grew = grew_on has s from before to (grew_by_others has s from before g) b.grew;
    breaks = subst (Breaks s d w) (sym (book_append g.0 b.grew.added)) (breaks_behind_others s d (book_of g.0) (book_of b.grew.added) w (others_in has s own g.0 g.2) b.breaks);
  }

  -- nothing of the line is in the list that others have made longer
  pub broken_same : has_number has s ≡ true → (from before to : List (Entry C B)) → GoesOn number_of has from before → to ≡ before → HasBroken has s d from to
  broken_same own from before to g is = is_broken from to (breaks_behind own false from before to g (breaks_nothing false before to is))
