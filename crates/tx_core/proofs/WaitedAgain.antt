-- A transaction that goes on waiting.
use Rattle.std.proofs.Common.{◌≡◌, ℕ, Bool, true, false, not, ◌||◌, List, [], ◌∷◌, ◌++◌, Option, Some, None, refl, sym, ap, subst, ◌∙◌, true≢false, inl, inr}
use Rattle.tree_model.specs.Entries.{Entries}
use Rattle.lock_resources.specs.declared.request.Request.{Request}
use Rattle.wait_graph.specs.Graphs.{waits, with_request}
use Rattle.call_contract.specs.Calls.{CallMeaning}
use Rattle.call_contract.specs.States.{Waiting, Live, State, of_session}
use Rattle.call_contract.specs.Waits.{cycle_through}
use Rattle.call_contract.specs.declared.events.Answer.{Answer}
use Rattle.tx_core.specs.Retries.{same_request}
use Rattle.tx_core.specs.declared.parts.Parts.{Parts}
use Rattle.tx_core.specs.Holding.{request_of, waited_of}
use Rattle.tx_core.specs.inside.Standing.{Stands}
use Rattle.call_contract.specs.Books.{Book}
use Rattle.tx_core.specs.inside.Goes.{Stays, shown_wait, with_wait}
use Rattle.tx_core.specs.inside.Retrying.{WaitsAgain, IsPutAgain, IsClosedAgain, IsStoppedAgain, retry_entry, waits_for_it}
use Rattle.tx_core.proofs.Moves.{Alike}
use Rattle.tx_core.proofs.Rested.{put_again}

both_off : (more r : Bool) → more ≡ false → r ≡ true → (more || not r) ≡ false
both_off false true e f = refl
both_off true r e f = absurd (true≢false e)
both_off false false e f = absurd (true≢false (sym f))

module _ {C B : Type 0} (is_valid : C → Type 0) (m : CallMeaning C) (told : B → Option Entries) where
  same_wait : (p : Parts C B) (s : ℕ) (g : Request) (st : State C) (t : Live C) (w : Waiting C) → Stands is_valid m told p st → of_session s st.live ≡ Some t → t.waits ≡ Some w
      → waits_for_it (waits p.graph s) g ≡ same_request w.request g
  same_wait p s g st t w stands found waiting = ap (λ (o : Option Request). waits_for_it o g) (stands.graph s ∙ ap request_of found ∙ ap waited_of waiting)

  pub kept_waiting : (p : Parts C B) (s : ℕ) (g shown : Request) (hs : List ℕ) (more r : Bool) (a : Answer)
      → a ≡ shown_wait shown hs → shown ≡ g → more ≡ false → r ≡ waits_for_it (waits p.graph s) g → r ≡ true
      → ((st : State C) (t : Live C) (c : C) → Stands is_valid m told p st → of_session s st.live ≡ Some t → cycle_through (with_wait st t c g).live s ≡ None)
      → WaitsAgain is_valid m told p s g hs more a p
  kept_waiting p s g shown hs more r a is same none by on alone = record {
    is = is ∙ ap (λ (x : Request). shown_wait x hs) same;
    alone = alone;
    noted = false;
    changed = λ st t w stands found waiting. both_off more (same_request w.request g) none (sym (same_wait p s g st t w stands found waiting) ∙ sym by ∙ on);
    moved = record { book = refl; prepared = refl; places = refl; queue = refl; state = λ st stands. stands };
  }

  pub put_waiting_again : (p q mid : Parts C B) (s : ℕ) (g waited noted shown : Request) (hs named : List ℕ) (more r : Bool) (a b : Answer)
      → waited ≡ g → noted ≡ g → shown ≡ g → named ≡ hs → b ≡ shown_wait noted named → a ≡ shown_wait shown hs
      → (more || not r) ≡ true → r ≡ waits_for_it (waits p.graph s) g
      → ((st : State C) (t : Live C) (c : C) → Stands is_valid m told p st → of_session s st.live ≡ Some t → cycle_through (with_wait st t c g).live s ≡ None)
      → mid ≡ q → Alike p mid → mid.begun ≡ p.begun → mid.places ≡ p.places → mid.table ≡ p.table → ((o : ℕ) → waits mid.graph o ≡ with_request (waits p.graph) s (Some waited) o) → mid.waiting.items ≡ p.waiting.items
      → mid.prepared ≡ None → q.book.items ≡ p.book.items ++ retry_entry s b ∷ []
      → WaitsAgain is_valid m told p s g hs more a q
  put_waiting_again p q mid s g waited noted shown hs named more r a b waited_is noted_is shown_is named_is b_is a_is on by alone same alike begun places table graph queue prepared book = record {
    is = is_shown;
    alone = alone;
    noted = true;
    changed = λ st t w stands found waiting. ap (λ (x : Bool). more || not x) (sym (same_wait p s g st t w stands found waiting) ∙ sym by) ∙ on;
    moved = record {
      book = book ∙ ap (λ (x : Answer). p.book.items ++ retry_entry s x ∷ []) (b_is ∙ ap (λ (x : Request). shown_wait x named) noted_is ∙ ap (shown_wait g) named_is ∙ sym is_shown);
      prepared = sym (ap (λ (x : Parts C B). x.prepared) same) ∙ prepared;
      state = λ st t w c stands found waiting.
          subst (λ (x : Request). Stands is_valid m told q (with_wait st t c x)) waited_is
          (subst (λ (x : Parts C B). Stands is_valid m told x (with_wait st t c waited)) same
          (put_again is_valid m told p mid s waited alike begun places table graph queue st t w c stands found waiting));
    };
  }
    where
      is_shown : a ≡ shown_wait g hs
      is_shown = a_is ∙ ap (λ (x : Request). shown_wait x hs) shown_is

pub or_not : (more r : Bool) → r ≡ false → (more || not r) ≡ true
or_not true r e = refl
or_not false false e = refl
or_not false true e = absurd (true≢false e)

pub or_more : (more r : Bool) → more ≡ true → (more || not r) ≡ true
or_more true r e = refl
or_more false r e = absurd (true≢false (sym e))

module _ {C B : Type 0} (is_valid : C → Type 0) (m : CallMeaning C) (told : B → Option Entries) where
  -- the same, where nothing but room was made before
  pub closed_after_again : (p p1 q : Parts C B) (s : ℕ) (g : Request) (hs : List ℕ) (more : Bool) (a : Answer) → Stays is_valid m told p p1
      → IsClosedAgain is_valid m told p1 s g a q → IsStoppedAgain is_valid m told p s g hs more a q
  closed_after_again p p1 q s g hs more a stays is = inr (record {
    book = is.book ∙ ap (λ (b : Book C). b ++ retry_entry s a ∷ []) stays.book;
    prepared = is.prepared;
    cycle = is.cycle;
    is = is.is;
    closes = λ st t c stands found. is.closes st t c (stays.state st stands) found;
    state = λ st stands. is.state st (stays.state st stands);
  })

  pub waits_after_again : (p p1 q : Parts C B) (s : ℕ) (g : Request) (hs : List ℕ) (more : Bool) (a : Answer) → Stays is_valid m told p p1
      → p1.prepared ≡ p.prepared → p1.places ≡ p.places → p1.waiting.items ≡ p.waiting.items
      → WaitsAgain is_valid m told p1 s g hs more a q → IsStoppedAgain is_valid m told p s g hs more a q
  waits_after_again p p1 q s g hs more a stays prepared places queue is = inl (record {
    is = is.is;
    alone = λ st t c stands found. is.alone st t c (stays.state st stands) found;
    noted = is.noted;
    changed = λ st t w stands found waiting. is.changed st t w (stays.state st stands) found waiting;
    moved = go is.noted is.moved;
  })
    where
      go : (noted : Bool) → IsPutAgain is_valid m told p1 s g a noted q → IsPutAgain is_valid m told p s g a noted q
      go true put_so = record {
        book = put_so.book ∙ ap (λ (b : Book C). b ++ retry_entry s a ∷ []) stays.book;
        prepared = put_so.prepared;
        state = λ st t w c stands found waiting. put_so.state st t w c (stays.state st stands) found waiting;
      }
      go false kept = record {
        book = kept.book ∙ stays.book;
        prepared = kept.prepared ∙ prepared;
        places = kept.places ∙ places;
        queue = kept.queue ∙ queue;
        state = λ st stands. kept.state st (stays.state st stands);
      }
