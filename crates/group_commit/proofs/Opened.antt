-- A group commit over a store of a core with an empty book, and its first member.
use Rattle.std.proofs.Common.{◌≡◌, ◌≢◌, ◌∙◌, ◌<◌, ℕ, true, false, arith, sym, ap, subst, [], ◌∷◌}
use Rattle.std.specs.Prelude.{slice_set}
use Rattle.atomic_table.specs.Seated.{TableId}
use Rattle.journal.specs.Views.{JournalView}
use Rattle.turn_lock.specs.Turns.{HasAll, all_numbers, first_pass, has_number}
use Rattle.turn_lock.proofs.Numbers.{all_there, still_there}
use Rattle.tx_core.specs.Cores.{CoreView}
use Rattle.shared_store.specs.Lists.{book_of, list_of}
use Rattle.shared_store.specs.Sessions.{SessionView}
use Rattle.group_commit.specs.Marks.{opening_in}
use Rattle.group_commit.specs.Members.{GroupView, MarksPass, MemberView}
use Rattle.group_commit.specs.declared.mark.Mark.TheVariants as mark
use Rattle.group_commit.specs.StorePorts.{IsSessionNumber}
use Rattle.group_commit.specs.inside.Joining.{IsFirst}
use Rattle.group_commit.proofs.Started.{begun_book}

not_zero : (k : ℕ) → 0 < k → k ≢ 0
not_zero k less is = let e = is in omega (arith, less, e)

module _ {C B : Type 0} (first : CoreView C B) (number : ℕ) (store : TableId) (session : SessionView C B) (ok : session ≡ record { lock = store; seen = list_of first first.book []; has = all_numbers; under = number }) where
  pub opens_all : HasAll session.has
  opens_all k small = ap (λ (v : SessionView C B). has_number v.has k) ok ∙ all_there k small

  pub opens_seen : session.seen ≡ list_of first first.book []
  opens_seen = ap (λ (v : SessionView C B). v.seen) ok

  pub opens_first : first.book ≡ [] → IsSessionNumber number → (journal : JournalView) (group : GroupView) (main : MemberView C B) → group.store ≡ store
      → main.session ≡ record { lock = session.lock; seen = session.seen; has = slice_set session.has 0 false; under = session.under }
      → main.pass ≡ first_pass group.lock (mark.Opening session journal ∷ []) → IsFirst group main
  opens_first empty is journal group main store_is main_is pass_is = record {
    group_is = (ap (λ (v : SessionView C B). v.lock) main_is ∙ ap (λ (v : SessionView C B). v.lock) ok ∙ sym store_is, ap (λ (p : MarksPass C B). p.lock) pass_is);
    numbers = λ k some small. ap (λ (v : SessionView C B). has_number v.has k) main_is ∙ still_there session.has 0 k (not_zero k some) (opens_all k small);
    zero = ap (λ (p : MarksPass C B). has_number p.has 0) pass_is ∙ all_there 0 (omega arith);
    number = subst IsSessionNumber (sym (ap (λ (v : SessionView C B). v.under) main_is ∙ ap (λ (v : SessionView C B). v.under) ok)) is;
    empty = ap (λ (v : SessionView C B). book_of v.seen) main_is ∙ begun_book first empty session.seen opens_seen;
    session = session;
    journal = journal;
    opening = ap (λ (p : MarksPass C B). opening_in p.seen) pass_is;
    seen = sym (ap (λ (v : SessionView C B). v.seen) main_is);
  }
