-- From what each worker has done to what the run of all of them leaves.
use Rattle.std.proofs.Common.{◌≡◌, ◌∙◌, ◌<◌, ◌==◌, ℕ, Bool, cond, true, false, suc, refl, sym, ap, ap₂, subst, arith, List, [], ◌∷◌, ◌++◌, length, Option, Some, None}
use Rattle.std.specs.List.{AllByRecursion, AllZip, slice_index_or}
use Rattle.command_lines.specs.declared.command.Command.{Command}
use Rattle.command_lines.specs.declared.line_reply.LineReply.{LineReply}
use Rattle.worker_run.specs.declared.port.PortFault.{PortFault}
use Rattle.worker_run.specs.declared.worker.Worker.{Worker}
use Rattle.worker_run.specs.Ports.{Exchange, Ports}
use Rattle.worker_run.specs.Workers.{DidAll, DoesLines, HasReplied, HasWorked, HaveOnePort, Went, commands_given, own_exchanges, first_fault, own_lines, or_fault, ports_of}
use Rattle.worker_run.specs.inside.Merging.{AllServed, AreFull, AreMerged, HaveOneSeat, IsSeated, Seat, own_replies, ports_in, seats, seats_of}
use Rattle.worker_run.specs.inside.Working.{HasServed, replies_given}

some_is_no_none : {A : Type 0} (x : A) → Some x ≡ None → ⊥
some_is_no_none {A} x e = subst is e tt
  where
    is : Option A → Type 0
    is None = ⊥
    is (Some y) = Unit {0}

-- ---- from each place to the lists

pub at_each_place : {X : Type 0} (R : X → X → Type 0) (xs ys : List X) → length ys ≡ length xs
    → ((i : ℕ) (d : X) → i < length xs → R (slice_index_or xs i d) (slice_index_or ys i d)) → AllZip R xs ys
at_each_place R [] [] e h = tt
at_each_place R [] (y ∷ ys) e h = absurd (omega arith)
at_each_place R (x ∷ xs) [] e h = absurd (omega arith)
at_each_place R (x ∷ xs) (y ∷ ys) e h = (h 0 x (omega arith), at_each_place R xs ys (omega arith) (λ i d lt. h (suc i) d (omega arith)))

-- ---- exchanges

abbrev first_or : {A : Type 0} → A → List A → A
first_or a [] = a
first_or a (x ∷ xs) = x

abbrev behind : {A : Type 0} → List A → List A
behind [] = []
behind (x ∷ xs) = xs

same_pair : (x y : Exchange) → x.0 ≡ y.0 → x.1 ≡ y.1 → x ≡ y
same_pair (a, b) (c, d) e f = ap₂ (λ (p : Command) (q : LineReply). (p, q)) e f

-- exchanges are their commands and their replies
same_both : (xs ys : List Exchange) → commands_given xs ≡ commands_given ys → replies_given xs ≡ replies_given ys → xs ≡ ys
same_both [] [] e f = refl
same_both [] (y ∷ ys) e f = absurd (zero_is_no_suc (ap length e))
  where
    zero_is_no_suc : 0 ≡ suc (length (commands_given ys)) → ⊥
    zero_is_no_suc h = omega arith
same_both (x ∷ xs) [] e f = absurd (suc_is_no_zero (ap length e))
  where
    suc_is_no_zero : suc (length (commands_given xs)) ≡ 0 → ⊥
    suc_is_no_zero h = omega arith
same_both (x ∷ xs) (y ∷ ys) e f = ap₂ (λ a b. a ∷ b) (same_pair x y (ap (first_or x.0) e) (ap (first_or x.1) f)) (same_both xs ys (ap behind e) (ap behind f))

commands_beside : (s : ℕ) (lines : List Command) (rs : List LineReply) → length rs ≡ length lines → commands_given (own_exchanges s lines rs) ≡ own_lines s lines
commands_beside s [] rs e = refl
commands_beside s (c ∷ cs) [] e = absurd (omega arith)
commands_beside s (c ∷ cs) (r ∷ rs) e = go (c.session == s) (commands_beside s cs rs (omega arith))
  where
    go : (b : Bool) → commands_given (own_exchanges s cs rs) ≡ own_lines s cs → commands_given (cond b ((c, r) ∷ own_exchanges s cs rs) (own_exchanges s cs rs)) ≡ cond b (c ∷ own_lines s cs) (own_lines s cs)
    go true h = ap (λ xs. c ∷ xs) h
    go false h = h

answers_beside : (s : ℕ) (lines : List Command) (rs : List LineReply) → replies_given (own_exchanges s lines rs) ≡ own_replies s lines rs
answers_beside s [] rs = refl
answers_beside s (c ∷ cs) [] = refl
answers_beside s (c ∷ cs) (r ∷ rs) = go (c.session == s) (answers_beside s cs rs)
  where
    go : (b : Bool) → replies_given (own_exchanges s cs rs) ≡ own_replies s cs rs → replies_given (cond b ((c, r) ∷ own_exchanges s cs rs) (own_exchanges s cs rs)) ≡ cond b (r ∷ own_replies s cs rs) (own_replies s cs rs)
    go true h = ap (λ xs. r ∷ xs) h
    go false h = h

same_exchanges : (s : ℕ) (lines : List Command) (rs : List LineReply) (gave : List Exchange) → length rs ≡ length lines
    → commands_given gave ≡ own_lines s lines → replies_given gave ≡ own_replies s lines rs → gave ≡ own_exchanges s lines rs
same_exchanges s lines rs gave e c a = same_both gave (own_exchanges s lines rs) (c ∙ sym (commands_beside s lines rs e)) (a ∙ sym (answers_beside s lines rs))

as_long : (gave : List Exchange) → length (replies_given gave) ≡ length (commands_given gave)
as_long [] = refl
as_long (x ∷ xs) = ap suc (as_long xs)

-- ---- faults

none_told : (a b : Option PortFault) → or_fault a b ≡ None → (a ≡ None) × (b ≡ None)
none_told None b e = (refl, e)
none_told (Some f) b e = absurd (some_is_no_none f e)

module _ {P : Type 0} (m : Ports P) (lines : List Command) where
  -- ---- one worker

  did_all : (old new : P) → (w : HasWorked m lines old new) → (m.told new).fault ≡ None → DidAll m (own_lines (m.told old).session lines) w.gave old w.last
  did_all old new w none = go (m.told old).fault refl w.does
    where
      here : (m.told w.last).fault ≡ None
      here = sym w.ended.fault ∙ none

      go : (f : Option PortFault) → (m.told old).fault ≡ f → DoesLines m lines w.gave old w.last f → DidAll m (own_lines (m.told old).session lines) w.gave old w.last
      go None e d = went (m.told w.last).fault here d
        where
          went : (g : Option PortFault) → g ≡ None → Went m (own_lines (m.told old).session lines) w.gave old w.last g → DidAll m (own_lines (m.told old).session lines) w.gave old w.last
          went None h k = k
          went (Some g) h k = absurd (some_is_no_none g h)
      go (Some g) e d = absurd (some_is_no_none g (sym e ∙ ap (λ (p : P). (m.told p).fault) (sym d.1) ∙ here))

  kept_alone : (old new : Worker P) → (w : HasServed m lines old.port new.port old.replies.items new.replies.items) → old.replies.items ≡ [] → new.replies.items ≡ replies_given w.worked.gave
  kept_alone old new w none = w.kept ∙ ap (λ rs. rs ++ replies_given w.worked.gave) none

  same_session : (old new : P) → HasWorked m lines old new → (m.told new).session ≡ (m.told old).session
  same_session old new w = w.ended.session ∙ w.session

  full_seat : (old new : Worker P) → HasServed m lines old.port new.port old.replies.items new.replies.items → old.replies.items ≡ [] → (m.told new.port).fault ≡ None
      → length new.replies.items ≡ length (own_lines (m.told new.port).session lines)
  full_seat old new w empty none =
      ap length (kept_alone old new w empty) ∙ as_long w.worked.gave ∙ ap length (did_all old.port new.port w.worked none).all
      ∙ ap (λ s. length (own_lines s lines)) (sym (same_session old.port new.port w.worked))

  replied : (old new : Worker P) (out : List LineReply) → HasServed m lines old.port new.port old.replies.items new.replies.items → old.replies.items ≡ [] → (m.told new.port).fault ≡ None
      → own_replies (m.told new.port).session lines out ≡ new.replies.items → length out ≡ length lines → HasReplied m lines out old.port new.port
  replied old new out w empty none own long =
      let s = (m.told old.port).session in
      let beside : replies_given w.worked.gave ≡ own_replies s lines out = sym (kept_alone old new w empty) ∙ sym own ∙ ap (λ t. own_replies t lines out) (same_session old.port new.port w.worked) in
      let all = did_all old.port new.port w.worked none in
      record {
        last = w.worked.last;
        did = subst (λ gave. m.did old.port gave w.worked.last) (same_exchanges s lines out w.worked.gave long all.all beside) all.did;
        ended = w.worked.ended;
      }

  -- ---- all workers

  pub all_worked : (ws vs : List (Worker P)) → AllServed m lines ws vs → AllZip (HasWorked m lines) (ports_in ws) (ports_in vs)
  all_worked [] [] a = tt
  all_worked [] (v ∷ vs) a = absurd a
  all_worked (w ∷ ws) [] a = absurd a
  all_worked (w ∷ ws) (v ∷ vs) a = (a.0.worked, all_worked ws vs a.1)

  pub all_full : (ws vs : List (Worker P)) → AllByRecursion (IsSeated m lines) ws → AllServed m lines ws vs → first_fault m (ports_in vs) ≡ None → AreFull lines (seats m vs)
  all_full [] [] r a e = tt
  all_full [] (v ∷ vs) r a e = absurd a
  all_full (w ∷ ws) [] r a e = absurd a
  all_full (w ∷ ws) (v ∷ vs) r a e =
      let none = none_told (m.told v.port).fault (first_fault m (ports_in vs)) e in
      (full_seat w v a.0 r.0.0 none.0, all_full ws vs r.1 a.1 none.1)

  pub all_replied : (ws vs : List (Worker P)) (out : List LineReply) → AllByRecursion (IsSeated m lines) ws → AllServed m lines ws vs → first_fault m (ports_in vs) ≡ None
      → AreMerged lines out (seats m vs) → length out ≡ length lines → AllZip (HasReplied m lines out) (ports_in ws) (ports_in vs)
  all_replied [] [] out r a e o long = tt
  all_replied [] (v ∷ vs) out r a e o long = absurd a
  all_replied (w ∷ ws) [] out r a e o long = absurd a
  all_replied (w ∷ ws) (v ∷ vs) out r a e o long =
      let none = none_told (m.told v.port).fault (first_fault m (ports_in vs)) e in
      (replied w v out a.0 r.0.0 none.0 o.0 long, all_replied ws vs out r.1 a.1 none.1 o.1 long)

  -- ---- the session of each line has one seat

  as_many : (ws vs : List (Worker P)) (s : ℕ) → AllServed m lines ws vs → length (seats_of s (seats m vs)) ≡ length (ports_of m s (ports_in ws))
  as_many [] [] s a = refl
  as_many [] (v ∷ vs) s a = absurd a
  as_many (w ∷ ws) [] s a = absurd a
  as_many (w ∷ ws) (v ∷ vs) s a =
      let x : Seat = ((m.told v.port).session, v.replies.items) in
      ap (λ k. length (cond (k == s) (x ∷ seats_of s (seats m vs)) (seats_of s (seats m vs)))) (same_session w.port v.port a.0.worked)
      ∙ go x ((m.told w.port).session == s) (as_many ws vs s a.1)
    where
      go : (x : Seat) (b : Bool) → length (seats_of s (seats m vs)) ≡ length (ports_of m s (ports_in ws))
          → length (cond b (x ∷ seats_of s (seats m vs)) (seats_of s (seats m vs))) ≡ length (cond b (w.port ∷ ports_of m s (ports_in ws)) (ports_of m s (ports_in ws)))
      go x true e = ap suc e
      go x false e = e

  one_seats : (cs : List Command) (ws vs : List (Worker P)) → AllServed m lines ws vs → HaveOnePort m (ports_in ws) cs → HaveOneSeat (seats m vs) cs
  one_seats [] ws vs a one = tt
  one_seats (c ∷ cs) ws vs a one = (as_many ws vs c.session a ∙ one.0, one_seats cs ws vs a one.1)

  pub one_seat : (ws vs : List (Worker P)) → AllServed m lines ws vs → HaveOnePort m (ports_in ws) lines → HaveOneSeat (seats m vs) lines
  one_seat ws vs a one = one_seats lines ws vs a one
