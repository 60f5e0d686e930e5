-- How the commits that weren't handed out are kept.
use Rattle.std.proofs.Common.{◌≡◌, ℕ, ◌+◌, ◌<◌, ◌≤◌, Bool, true, false, List, [], ◌∷◌, ◌++◌, length, vec_capacity, Option, Some, None, Result, Ok, Err, OnOk, OnErr, refl, ap, sym, subst, ◌∙◌, inl, inr, arith}
use Rattle.std.proofs.lemmas.List.{length-append}
use Rattle.node_records.specs.Pending.{FollowOn, IsPending}
use Rattle.node_records.specs.declared.pending.Pending.{Pending}
use Rattle.tree_model.specs.Entries.{Entries}
use Rattle.call_contract.specs.Books.{Book}
use Rattle.call_contract.specs.Calls.{CallMeaning}
use Rattle.call_contract.specs.Sessions.{commits_in, is_commit}
use Rattle.call_contract.specs.declared.events.Noted.{Noted}
use Rattle.call_contract.proofs.Appends.{commits_append}
use Rattle.tx_core.specs.declared.undrained.Bodies.{Bodies}
use Rattle.tx_core.specs.declared.errors.CallError.{CallError}
use Rattle.tx_core.specs.declared.errors.CallError.TheVariants as call_error
use Rattle.tx_core.specs.declared.parts.Parts.{Parts}
use Rattle.tx_core.specs.inside.Goes.{IsUnanswered}
use Rattle.tx_core.specs.inside.Kept.{KeepsBodies, undrained_of}
use Rattle.call_contract.specs.declared.events.Answer.{Answer}
use Rattle.tx_core.specs.inside.Retrying.{HasMoved}
use Rattle.tx_core.proofs.Booked.{no_commit}

no_prepared : {s : ℕ} → None ≡ Some s → ⊥
no_prepared e = cc

pub same_undrained : (b d : Bodies) → d.waiting.items ≡ b.waiting.items → d.after ≡ b.after → undrained_of d ≡ undrained_of b
same_undrained b d items after = λ i. record { after = after i; waiting = items i }

follow_append : (after : ℕ) (ps : List Pending) (p : Pending) → FollowOn after ps → p.number ≡ after + length ps + 1 → IsPending p → FollowOn after (ps ++ p ∷ [])
follow_append after [] p is next made = (omega (arith, next), made, tt)
follow_append after (x ∷ xs) p is next made = (is.0, is.1, follow_append (after + 1) xs p is.2 (omega (arith, next)) made)

module _ {C : Type 0} (number : ℕ) (b d : Book C) (before now : Option ℕ) where
  -- an entry that is no commit's
  pub bodies_entry : (x : Bodies) (n : Noted C) → d ≡ b ++ n ∷ [] → now ≡ None → is_commit n.event ≡ false → KeepsBodies number b before x → KeepsBodies number d now x
  bodies_entry x n adds none other is = record {
    opened = is.opened;
    follow = is.follow;
    last = omega (arith, is.last, ap commits_in adds, commits_append b (n ∷ []), no_commit n other);
    room = λ s e. absurd (no_prepared (sym none ∙ e));
  }

  -- none
  pub bodies_kept : (x : Bodies) → d ≡ b → now ≡ before → KeepsBodies number b before x → KeepsBodies number d now x
  bodies_kept x book same is = record {
    opened = is.opened;
    follow = is.follow;
    last = is.last ∙ ap (λ (k : ℕ). number + k) (ap commits_in (sym book));
    room = λ s e. is.room s (sym same ∙ e);
  }

  -- with other room
  pub bodies_roomy : (x y : Bodies) → d ≡ b → y.waiting.items ≡ x.waiting.items → y.after ≡ x.after → ((s : ℕ) → now ≡ Some s → length y.waiting.items < vec_capacity y.waiting) → KeepsBodies number b before x → KeepsBodies number d now y
  bodies_roomy x y book items after room is = record {
    opened = omega (arith, is.opened, after);
    follow = subst (λ (k : ℕ). FollowOn k y.waiting.items) (sym after) (subst (FollowOn x.after) (sym items) is.follow);
    last = omega (arith, is.last, after, ap length items, ap commits_in book);
    room = room;
  }

  -- a commit, which waits now
  pub bodies_commit : (x y : Bodies) (n : Noted C) (made : Pending) → d ≡ b ++ n ∷ [] → commits_in (n ∷ []) ≡ 1 → now ≡ None → y.waiting.items ≡ x.waiting.items ++ made ∷ [] → y.after ≡ x.after
      → made.number ≡ number + commits_in b + 1 → IsPending made → KeepsBodies number b before x → KeepsBodies number d now y
  bodies_commit x y n made adds one none items after next waits is = record {
    opened = omega (arith, is.opened, after);
    follow = subst (λ (k : ℕ). FollowOn k y.waiting.items) (sym after) (subst (FollowOn x.after) (sym items) (follow_append x.after x.waiting.items made is.follow (omega (arith, next, is.last)) waits));
    last = omega (arith, is.last, after, ap length items, length-append x.waiting.items (made ∷ []), ap commits_in adds, commits_append b (n ∷ []), one);
    room = λ s e. absurd (no_prepared (sym none ∙ e));
  }

-- all were handed out
pub bodies_out : {C : Type 0} (number k : ℕ) (b : Book C) (now : Option ℕ) (x : Bodies) → k ≡ number + commits_in b → now ≡ None → x.waiting.items ≡ [] → x.after ≡ k → KeepsBodies number b now x
bodies_out number k b now x last none items after = record {
  opened = omega (arith, last, after);
  follow = subst (FollowOn x.after) (sym items) tt;
  last = omega (arith, last, after, ap length items);
  room = λ s e. absurd (no_prepared (sym none ∙ e));
}

module _ {C B : Type 0} (is_valid : C → Type 0) (m : CallMeaning C) (told : B → Option Entries) (count : B → ℕ) (number : ℕ) (p q : Parts C B) (x : Bodies) where
  pub bodies_unanswered : (s : ℕ) (c : C) (e : CallError) → IsUnanswered is_valid m told count p s c e q → KeepsBodies number p.book.items p.prepared x → KeepsBodies number q.book.items q.prepared x
  bodies_unanswered s c (call_error.Session why) same = bodies_kept number p.book.items q.book.items p.prepared q.prepared x (ap (λ (y : Parts C B). y.book.items) same) (ap (λ (y : Parts C B). y.prepared) same)
  bodies_unanswered s c call_error.NoMemory (inl stays) = bodies_kept number p.book.items q.book.items p.prepared q.prepared x stays.book stays.prepared
  bodies_unanswered s c call_error.NoMemory (inr (k, some, goes)) = bodies_entry number p.book.items q.book.items p.prepared q.prepared x _ goes.book goes.prepared refl
  bodies_unanswered s c call_error.DiskFault (k, goes) = bodies_entry number p.book.items q.book.items p.prepared q.prepared x _ goes.book goes.prepared refl

  pub bodies_again : (s : ℕ) (c : C) (a : Answer) (noted : Bool) → HasMoved is_valid m told p s c a noted q → KeepsBodies number p.book.items p.prepared x → KeepsBodies number q.book.items q.prepared x
  bodies_again s c a true goes = bodies_entry number p.book.items q.book.items p.prepared q.prepared x _ goes.book goes.prepared refl
  bodies_again s c a false stays = bodies_kept number p.book.items q.book.items p.prepared q.prepared x stays.book stays.prepared

module _ {T E : Type 0} where
  -- what is prepared has its room
  pub prepared_room : (Q : Type 0) (x y : Bodies) (before now : Option ℕ) (r : Result T E) → y.waiting.items ≡ x.waiting.items → vec_capacity x.waiting ≤ vec_capacity y.waiting → OnOk r (length y.waiting.items < vec_capacity y.waiting)
      → OnErr r ((now ≡ before) × Q) → ((s : ℕ) → before ≡ Some s → length x.waiting.items < vec_capacity x.waiting) → (s : ℕ) → now ≡ Some s → length y.waiting.items < vec_capacity y.waiting
  prepared_room Q x y before now (Ok t) items capacity ok err room s e = ok
  prepared_room Q x y before now (Err t) items capacity ok err room s e = omega (arith, ap length items, capacity, room s (sym err.0 ∙ e))
