-- Ports come back and are joined, and what they had seen is in the list at the end.
use Rattle.std.proofs.Common.{◌≡◌, ◌≢◌, ◌∙◌, ◌⊎◌, ℕ, Bool, true, false, refl, sym, ap, subst, arith, is_some, List, [], ◌∷◌, ◌++◌, length, append_assoc, append-nil, true≢false, inl, inr, ◌||◌}
use Rattle.std.specs.Prelude.{Option, Some, None, Result, Err}
use Rattle.std.specs.List.{AllByRecursion, AllZip}
use Rattle.tree_model.specs.Entries.{Entries}
use Rattle.call_contract.specs.Books.{Book}
use Rattle.call_contract.specs.Calls.{CallMeaning}
use Rattle.call_contract.specs.Sessions.{live_in}
use Rattle.call_contract.specs.States.{Live}
use Rattle.command_lines.specs.declared.command.Command.{Command}
use Rattle.command_lines.specs.declared.command.StoreCall.{StoreCall}
use Rattle.command_lines.specs.declared.line_reply.LineReply.{LineReply}
use Rattle.turn_lock.specs.Turns.{AreForeign, has_number, is_own, merged}
use Rattle.turn_lock.proofs.Numbers.{bool_cases, merged_at, or_left, or_right}
use Rattle.shared_store.specs.Lists.{book_of, number_of}
use Rattle.shared_store.specs.Sessions.{SessionView, having_seen}
use Rattle.shared_store.specs.declared.desk.Entry.{Entry}
use Rattle.group_commit.specs.Members.{GoesOnIn, GroupView, IsOf, MemberView, joined as both}
use Rattle.worker_run.specs.Ports.{Ended, Exchange}
use Rattle.worker_run.specs.Workers.{DoesLines, HasWorked, Went, own_lines}
use Rattle.worker_run.specs.declared.port.PortFault.{PortFault}
use Rattle.group_commit.specs.StorePorts.{IsSamePass, PortView, store_ports}
use Rattle.group_commit.specs.inside.Joining.{CameBack, GoesFrom, IsFresh, IsJoinedTo, MayJoin, member_of}
use Rattle.group_commit.specs.inside.PortLaws.{pass_itself, pass_on}

-- ---- the last item

pub all_first : {X : Type 0} (P : X → Type 0) (xs ys : List X) → AllByRecursion P (xs ++ ys) → AllByRecursion P xs
all_first P [] ys a = tt
all_first P (x ∷ xs) ys a = (a.0, all_first P xs ys a.1)

pub all_last : {X : Type 0} (P : X → Type 0) (xs : List X) (y : X) → AllByRecursion P (xs ++ y ∷ []) → P y
all_last P [] y a = a.0
all_last P (x ∷ xs) y a = all_last P xs y a.1

pub all_with_last : {X : Type 0} (P : X → Type 0) (xs : List X) (y : X) → AllByRecursion P xs → P y → AllByRecursion P (xs ++ y ∷ [])
all_with_last P [] y a b = (b, tt)
all_with_last P (x ∷ xs) y a b = (a.0, all_with_last P xs y a.1 b)

pub all_to : {X : Type 0} (P Q : X → Type 0) (xs : List X) → ((x : X) → P x → Q x) → AllByRecursion P xs → AllByRecursion Q xs
all_to P Q [] on a = tt
all_to P Q (x ∷ xs) on a = (on x a.0, all_to P Q xs on a.1)

-- ---- lists that go on

module _ {E : Type 0} (number : E → Option ℕ) where
  own_less : (a b : List Bool) → ((k : ℕ) → has_number a k ≡ true → has_number b k ≡ true) → (o : Option ℕ) → is_own b o ≡ false → is_own a o ≡ false
  own_less a b on None e = refl
  own_less a b on (Some k) e = go (bool_cases (has_number a k))
    where
      go : (has_number a k ≡ true) ⊎ (has_number a k ≡ false) → has_number a k ≡ false
      go (inl t) = absurd (true≢false (sym (on k t) ∙ e))
      go (inr f) = f

  pub foreign_less : (a b : List Bool) → ((k : ℕ) → has_number a k ≡ true → has_number b k ≡ true) → (es : List E) → AreForeign number b es → AreForeign number a es
  foreign_less a b on [] f = tt
  foreign_less a b on (e ∷ es) f = (own_less a b on (number e) f.0, foreign_less a b on es f.1)

  pub foreign_append : (a : List Bool) (es fs : List E) → AreForeign number a es → AreForeign number a fs → AreForeign number a (es ++ fs)
  foreign_append a [] fs f g = g
  foreign_append a (e ∷ es) fs f g = (f.0, foreign_append a es fs f.1 g)

module _ {X : Type 0} where
  -- a list begins with another
  abbrev pub Longer : List X → List X → Type 0
  Longer xs ys = (added : List X) × (ys ≡ xs ++ added)

  longer_on : (xs ys zs : List X) → Longer xs ys → Longer ys zs → Longer xs zs
  longer_on xs ys zs a b = (a.0 ++ b.0, b.1 ∙ ap (λ (l : List X). l ++ b.0) a.1 ∙ append_assoc xs a.0 b.0)

-- a number of either is one of both
in_both : (a b c : List Bool) (k : ℕ) → c ≡ merged a b → (has_number a k || has_number b k) ≡ true → has_number c k ≡ true
in_both a b c k is h = ap (λ (x : List Bool). has_number x k) is ∙ merged_at a b k ∙ h

module _ {C B : Type 0} where
  pub goes_from_itself : (a : MemberView C B) → GoesFrom a a
  goes_from_itself a = record { has = λ k h. h; goes_on = ([], sym (append-nil a.session.seen), tt); zero = λ h. h; marks = ([], sym (append-nil a.pass.seen)) }

  pub goes_further : (a b c : MemberView C B) → GoesFrom a b → GoesFrom b c → GoesFrom a c
  goes_further a b c x y = record {
    has = λ k h. y.has k (x.has k h);
    goes_on = (
      x.goes_on.0 ++ y.goes_on.0,
      y.goes_on.1 ∙ ap (λ (l : List (Entry C B)). l ++ y.goes_on.0) x.goes_on.1 ∙ append_assoc a.session.seen x.goes_on.0 y.goes_on.0,
      foreign_append number_of a.session.has x.goes_on.0 y.goes_on.0 x.goes_on.2 (foreign_less number_of a.session.has b.session.has x.has y.goes_on.0 y.goes_on.2),
    );
    zero = λ h. y.zero (x.zero h);
    marks = longer_on a.pass.seen b.pass.seen c.pass.seen x.marks y.marks;
  }

  pub joined_kept : (a b c : MemberView C B) → c ≡ both a b → GoesOnIn a c → GoesFrom a c
  joined_kept a b c is g = record {
    has = λ k h. in_both a.session.has b.session.has c.session.has k (ap (λ (v : MemberView C B). v.session.has) is) (or_left (has_number a.session.has k) (has_number b.session.has k) h);
    goes_on = g.session;
    zero = λ h. in_both a.pass.has b.pass.has c.pass.has 0 (ap (λ (v : MemberView C B). v.pass.has) is) (or_left (has_number a.pass.has 0) (has_number b.pass.has 0) h);
    marks = (g.pass.0, g.pass.1);
  }

  pub joined_other : (a b c : MemberView C B) → c ≡ both a b → GoesOnIn b c → GoesFrom b c
  joined_other a b c is g = record {
    has = λ k h. in_both a.session.has b.session.has c.session.has k (ap (λ (v : MemberView C B). v.session.has) is) (or_right (has_number a.session.has k) (has_number b.session.has k) h);
    goes_on = g.session;
    zero = λ h. in_both a.pass.has b.pass.has c.pass.has 0 (ap (λ (v : MemberView C B). v.pass.has) is) (or_right (has_number a.pass.has 0) (has_number b.pass.has 0) h);
    marks = (g.pass.0, g.pass.1);
  }

  pub joined_of : (group : GroupView) (a b c : MemberView C B) → c ≡ both a b → IsOf group a → IsOf group c
  joined_of group a b c is of = (ap (λ (v : MemberView C B). v.session.lock) is ∙ of.0, ap (λ (v : MemberView C B). v.pass.lock) is ∙ of.1)

  -- ---- joining one after another

  -- whoever goes on from this member, and has joined the ports that are left, has joined all of them
  abbrev pub JoinsRest : List (PortView C B) → MemberView C B → List (PortView C B) → Type 0
  JoinsRest all now rest = (z : MemberView C B) → GoesFrom now z → AllByRecursion (IsJoinedTo z) rest → AllByRecursion (IsJoinedTo z) all

  pub joins_next : (all rest : List (PortView C B)) (now next : MemberView C B) (p : PortView C B) (left : List (PortView C B)) → left ≡ rest ++ p ∷ [] → GoesFrom now next → GoesFrom (member_of p) next → JoinsRest all now left → JoinsRest all next rest
  joins_next all rest now next p left is main other joins z to joined =
      joins z (goes_further now next z main to) (subst (AllByRecursion (IsJoinedTo z)) (sym is) (all_with_last (IsJoinedTo z) rest p joined (goes_further (member_of p) next z other to)))

-- ---- ports that came back

module _ {C B : Type 0} (told : B → Option Entries) (m : CallMeaning C) (made : StoreCall → C) where
  with_seen : (p q r : SessionView C B) → q ≡ having_seen q.seen p → r ≡ having_seen r.seen q → r ≡ having_seen r.seen p
  with_seen p q r e f = f ∙ ap (having_seen r.seen) e

  -- the same session with the same pass, which has seen more
  pub record WentOn (p q : PortView C B) : Type 0 where
    pub same : q.session ≡ having_seen q.session.seen p.session
    pub more : Longer p.session.seen q.session.seen
    pub pass : IsSamePass p.pass q.pass

  went_further : (p q r : PortView C B) → WentOn p q → WentOn q r → WentOn p r
  went_further p q r a b = record {
    same = with_seen p.session q.session r.session a.same b.same;
    more = longer_on p.session.seen q.session.seen r.session.seen a.more b.more;
    pass = pass_on p.pass q.pass r.pass a.pass b.pass;
  }

  did_on : (p q : PortView C B) (xs : List Exchange) → (store_ports told m made).did p xs q → WentOn p q
  did_on p q xs d = record { same = d.0; more = (d.1.grew.added, d.1.grew.list); pass = d.2 }

  met_on : (p q : PortView C B) (c : Command) (f : PortFault) → (store_ports told m made).met p c f q → WentOn p q
  met_on p q c f d = record { same = d.0; more = (d.1.grew.added, d.1.grew.list); pass = d.2 }

  ended_on : (p q : PortView C B) → Ended (store_ports told m made) p q → WentOn p q
  ended_on p q e = record { same = e.ended.0; more = (e.ended.1.grew.added, e.ended.1.grew.list); pass = e.ended.2 }

  stayed_on : (p q : PortView C B) → q ≡ p → WentOn p q
  stayed_on p q e = subst (WentOn p) (sym e) (record { same = refl; more = ([], sym (append-nil p.session.seen)); pass = pass_itself p.pass })

  pub went_on : (own : List Command) (gave : List Exchange) (p q : PortView C B) (o : Option PortFault) → Went (store_ports told m made) own gave p q o → WentOn p q
  went_on own gave p q None w = did_on p q gave w.did
  went_on own gave p q (Some f) w = went_further p w.before q (did_on p w.before gave w.did) (met_on w.before q w.at f w.met)

  does_on : (lines : List Command) (gave : List Exchange) (p q : PortView C B) (o : Option PortFault) → DoesLines (store_ports told m made) lines gave p q o → WentOn p q
  does_on lines gave p q None d = went_on (own_lines p.session.under lines) gave p q q.fault d
  does_on lines gave p q (Some f) d = stayed_on p q d.1

  came_back : (p q : PortView C B) → WentOn p q → is_some (live_in (book_of q.session.seen) q.session.under) ≡ false → CameBack p q
  came_back p q w live = record { same = w.same; pass = w.pass; goes_on = w.more; live = live }

  ended_back : (p q : PortView C B) → Ended (store_ports told m made) p q → CameBack p q
  ended_back p q e = came_back p q (ended_on p q e) e.live

  worked_back : (lines : List Command) (p q : PortView C B) → HasWorked (store_ports told m made) lines p q → CameBack p q
  worked_back lines p q w = came_back p q (went_further p w.last q (does_on lines w.gave p w.last p.fault w.does) (ended_on w.last q w.ended)) w.ended.live

  pub zip_to : {X Y : Type 0} (R S : X → Y → Type 0) (xs : List X) (ys : List Y) → ((x : X) (y : Y) → R x y → S x y) → AllZip R xs ys → AllZip S xs ys
  zip_to R S [] [] on z = tt
  zip_to R S [] (y ∷ ys) on z = z
  zip_to R S (x ∷ xs) [] on z = z
  zip_to R S (x ∷ xs) (y ∷ ys) on z = (on x y z.0, zip_to R S xs ys on z.1)

  pub all_back : (lines : List Command) (old new : List (PortView C B)) (r : Result (List LineReply) PortFault) (fault : PortFault)
      → AllZip (HasWorked (store_ports told m made) lines) old new ⊎ ((r ≡ Err fault) × AllZip (Ended (store_ports told m made)) old new) → AllZip CameBack old new
  all_back lines old new r fault (inl z) = zip_to (HasWorked (store_ports told m made) lines) CameBack old new (worked_back lines) z
  all_back lines old new r fault (inr z) = zip_to (Ended (store_ports told m made)) CameBack old new ended_back z.1

none_lives : {C : Type 0} (o : Option (Live C)) → is_some o ≡ false → o ≡ None
none_lives None e = refl
none_lives (Some t) e = absurd (true≢false e)

module _ {C B : Type 0} where
  pub fresh_of : (group : GroupView) (first : MemberView C B) (p : PortView C B) → IsOf group first → IsFresh first p → IsOf group (member_of p)
  fresh_of group first p of f = (ap (λ (v : SessionView C B). v.lock) f.session ∙ of.0, f.pass.0 ∙ of.1)

  pub may_join : (group : GroupView) (p q : PortView C B) → IsOf group (member_of p) → CameBack p q → MayJoin group q
  may_join group p q of b = record { group_is = (ap (λ (v : SessionView C B). v.lock) b.same ∙ of.0, b.pass.lock ∙ of.1); ended = none_lives _ b.live }

  pub all_may_join : (group : GroupView) (old new : List (PortView C B)) → AllByRecursion (λ p. IsOf group (member_of p)) old → AllZip CameBack old new → AllByRecursion (MayJoin group) new
  all_may_join group [] [] a z = tt
  all_may_join group [] (q ∷ qs) a z = absurd z
  all_may_join group (p ∷ ps) [] a z = absurd z
  all_may_join group (p ∷ ps) (q ∷ qs) a z = (may_join group p q a.0 z.0, all_may_join group ps qs a.1 z.1)

  -- a port of a session with an empty book may come back as it is
  pub back_as_it_is : (p : PortView C B) → book_of p.session.seen ≡ [] → CameBack p p
  back_as_it_is p empty = record {
    same = refl;
    pass = pass_itself p.pass;
    goes_on = ([], sym (append-nil p.session.seen));
    live = ap (λ (b : Book C). is_some (live_in b p.session.under)) empty;
  }

  pub not_empty : (old : List (PortView C B)) (p : PortView C B) (new : List (PortView C B)) → AllZip CameBack (old ++ p ∷ []) new → new ≢ []
  not_empty [] p [] z = absurd z
  not_empty [] p (q ∷ qs) z = λ e. absurd (cons_is_no_nil e)
    where
      cons_is_no_nil : {X : Type 0} {x : X} {xs : List X} → x ∷ xs ≡ [] → ⊥
      cons_is_no_nil e = let l = ap length e in omega arith
  not_empty (x ∷ xs) p [] z = absurd z
  not_empty (x ∷ xs) p (q ∷ qs) z = λ e. absurd (cons_is_no_nil e)
    where
      cons_is_no_nil : {X : Type 0} {x : X} {xs : List X} → x ∷ xs ≡ [] → ⊥
      cons_is_no_nil e = let l = ap length e in omega arith
