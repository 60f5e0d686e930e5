-- What is handed out once the session that drains has met another.
use Rattle.std.proofs.Common.{◌≡◌, ◌≢◌, ◌⊎◌, inl, inr, ℕ, ◌+◌, ◌≤◌, Bool, true, List, [], ◌∷◌, ◌++◌, length, sym, ap, ◌∙◌, subst, lit<, arith}
use Rattle.std.proofs.lemmas.List.{append-nil}
use Rattle.node_records.specs.Pending.{FollowOn}
use Rattle.node_records.specs.declared.pending.Pending.{Pending}
use Rattle.call_contract.specs.Sessions.{commits_in}
use Rattle.turn_lock.specs.Turns.{GoesOn, has_number, only_number}
use Rattle.turn_lock.proofs.Numbers.{there_alone}
use Rattle.shared_store.specs.Calls.{HasDrained}
use Rattle.shared_store.specs.Lists.{book_of, drained_in, is_opened, number_in, number_of}
use Rattle.shared_store.specs.Sessions.{HasDone, having_seen, SessionView}
use Rattle.shared_store.specs.declared.desk.Entry.{Entry}
use Rattle.shared_store.specs.declared.desk.Entry.TheVariants as kind
use Rattle.group_commit.specs.Marks.{last_commit}
use Rattle.group_commit.specs.inside.Scribes.{GoesOnWithout}
use Rattle.group_commit.proofs.Lists.{drained_goes_on, drained_on, goes_on_without, last_grows, last_on, opened_on, without_on}

module _ {C B : Type 0} where
  -- what was seen before and after, and what was handed out
  pub record IsGathered (old new : List (Entry C B)) (bodies : List Pending) : Type 0 where
    pub grown : GoesOnWithout old new
    pub follow : FollowOn (drained_in old) bodies
    pub all : drained_in old + length bodies ≡ last_commit new
    pub drained : drained_in new ≡ last_commit new

  -- a drain adds no entry of a book
  drain_adds : (before : List (Entry C B)) (k : ℕ) → is_opened before ≡ true → last_commit (before ++ kind.Drained k ∷ []) ≡ last_commit before
  drain_adds before k o = let e = last_on before (kind.Drained k ∷ []) o in omega (arith, e)

  left : (before after : List (Entry C B)) (bodies : List Pending) → is_opened before ≡ true → HasDrained before bodies after → IsGathered before after bodies
  left before after bodies o h = go h.list
    where
      go : (((bodies ≡ []) × (after ≡ before)) ⊎ ((bodies ≢ []) × (after ≡ before ++ kind.Drained (number_in before + commits_in (book_of before)) ∷ []))) → IsGathered before after bodies
      go (inl (none, same)) =
          let all : drained_in before ≡ last_commit before = (let a = h.all in let n : length bodies ≡ 0 = ap length none in omega (arith, a, n)) in
          record {
            grown = ([], same ∙ sym (append-nil before), tt);
            follow = h.follow;
            all = h.all ∙ ap last_commit (sym same);
            drained = ap drained_in same ∙ (all ∙ ap last_commit (sym same));
          }
      go (inr (some, is)) =
          let k = last_commit before in
          let last : last_commit after ≡ last_commit before = ap last_commit is ∙ drain_adds before k o in
          record {
            grown = (kind.Drained k ∷ [], is, tt);
            follow = h.follow;
            all = h.all ∙ sym last;
            drained = ap drained_in is ∙ (drained_on before (kind.Drained k ∷ []) o ∙ sym last);
          }

  after_goes_on : (has : List Bool) → has_number has 0 ≡ true → (seen before after : List (Entry C B)) (bodies : List Pending) → is_opened seen ≡ true → GoesOn number_of has seen before → IsGathered before after bodies → IsGathered seen after bodies
  after_goes_on has own seen before after bodies o g is =
      let same : drained_in before ≡ drained_in seen = drained_goes_on has own seen before o g in
      record {
        grown = without_on seen before after (goes_on_without has own seen before g) is.grown;
        follow = subst (λ (k : ℕ). FollowOn k bodies) same is.follow;
        all = ap (λ (k : ℕ). k + length bodies) (sym same) ∙ is.all;
        drained = is.drained;
      }

  -- d met another session, as e, and drained, as f
  pub gathered : (d e f : SessionView C B) (bodies : List Pending) → d.has ≡ only_number 0 → is_opened d.seen ≡ true → e ≡ having_seen e.seen d → GoesOn number_of d.has d.seen e.seen
      → HasDone e f (λ before after. HasDrained before bodies after) → IsGathered d.seen f.seen bodies
  gathered d e f bodies has o met goes h =
      let own : has_number d.has 0 ≡ true = ap (λ (l : List Bool). has_number l 0) has ∙ there_alone 0 (lit< tt) in
      let same : e.has ≡ d.has = ap (λ (v : SessionView C B). v.has) met in
      let oe : is_opened e.seen ≡ true = ap is_opened goes.1 ∙ opened_on d.seen goes.0 o in
      let ob : is_opened h.before ≡ true = ap is_opened h.goes_on.1 ∙ opened_on e.seen h.goes_on.0 oe in
      after_goes_on d.has own d.seen e.seen f.seen bodies o goes (after_goes_on e.has (ap (λ (l : List Bool). has_number l 0) same ∙ own) e.seen h.before f.seen bodies oe h.goes_on (left h.before f.seen bodies ob h.did))

  pub met_as : (d e : SessionView C B) (seen : List (Entry C B)) → e ≡ having_seen seen d → e ≡ having_seen e.seen d
  met_as d e seen is = is ∙ ap (λ (l : List (Entry C B)). having_seen l d) (sym (ap (λ (v : SessionView C B). v.seen) is))

  pub drainer_is : (d e f : SessionView C B) (does : List (Entry C B) → List (Entry C B) → Type 0) → e ≡ having_seen e.seen d → HasDone e f does → f ≡ having_seen f.seen d
  drainer_is d e f does met h = h.same ∙ ap (having_seen f.seen) met

  -- the session's last commit is among those that the drainer has seen
  pub covered : (d e f : SessionView C B) (seen : List (Entry C B)) (has : List Bool) (bodies : List Pending) → is_opened seen ≡ true → GoesOn number_of has seen e.seen → HasDone e f (λ before after. HasDrained before bodies after)
      → last_commit seen ≤ last_commit f.seen
  covered d e f seen has bodies o goes h =
      let oe : is_opened e.seen ≡ true = ap is_opened goes.1 ∙ opened_on seen goes.0 o in
      let ob : is_opened h.before ≡ true = ap is_opened h.goes_on.1 ∙ opened_on e.seen h.goes_on.0 oe in
      let one = last_grows seen goes.0 e.seen o goes.1 in
      let two = last_grows e.seen h.goes_on.0 h.before oe h.goes_on.1 in
      let grown = (left h.before f.seen bodies ob h.did).grown in
      let three = last_grows h.before grown.0 f.seen ob grown.1 in
      omega (arith, one, two, three)
