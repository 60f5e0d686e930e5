-- A retry whose request is still barred: the machine waits with it again, and nothing changes.
use Rattle.std.proofs.Common.{◌≡◌, ℕ, Bool, true, false, not, ◌||◌, List, ◌++◌, Option, Some, None, Result, Ok, Err, OnOk, unwrap_or, refl, sym, ap, ap₂, subst, ◌∙◌, true≢false}
use Rattle.tree_model.specs.Entries.{Entries}
use Rattle.lock_resources.specs.declared.request.Request.{Request}
use Rattle.lock_table.specs.Grants.{join_of}
use Rattle.lock_table.specs.Tables.{AreHolders}
use Rattle.wait_graph.specs.Graphs.{waits}
use Rattle.call_contract.specs.Attempts.{is_barred, holders, granted, waits_with}
use Rattle.call_contract.specs.Books.{IsReached}
use Rattle.call_contract.specs.Calls.{CallMeaning, CallLaws}
use Rattle.call_contract.specs.States.{Waiting, Live, State, of_session, put, others}
use Rattle.call_contract.specs.Waiters.{WaitsOn}
use Rattle.call_contract.specs.declared.events.Answer.{Answer}
use Rattle.call_contract.specs.declared.events.Answer.TheVariants as answer
use Rattle.call_contract.specs.declared.events.EventAnswer.TheVariants as said
use Rattle.call_contract.proofs.BookLaws.{reached_waiters}
use Rattle.call_contract.proofs.Lists.{found_named, found_put}
use Rattle.tx_core.specs.Retries.{has_changed, has_mode, hold_more, wait_alike, IsNotedRetry, IsRetried, IsStillBarred}
use Rattle.tx_core.specs.Holding.{grants_of, request_of, waited_of}
use Rattle.tx_core.specs.declared.parts.Parts.{Parts}
use Rattle.tx_core.specs.inside.Standing.{Stands}
use Rattle.tx_core.specs.inside.Retrying.{IsWaitingWith, IsAgain, WaitsBarred, ShowsBarred}
use Rattle.tx_core.proofs.Holders.{barred_none, barred_some}
use Rattle.tx_core.proofs.Holding.{barring_of}
use Rattle.tx_core.proofs.Reached.{holders_are}
use Rattle.tx_core.proofs.Repeated.{more_lack, none_lacking, same_request_decides}

some_is : {A : Type 0} (x y : A) → Some x ≡ Some y → x ≡ y
some_is x y e = ap (λ (o : Option _). unwrap_or o x) e

pub on_ok : {A E P Q : Type 0} (r : Result A E) → (P → Q) → OnOk r P → OnOk r Q
on_ok (Ok x) f is = f is
on_ok (Err e) f is = tt

module _ {C B : Type 0} (is_valid : C → Type 0) (m : CallMeaning C) (told : B → Option Entries) where
  -- what is waited for is the machine's request
  pub request_is : (p : Parts C B) (st : State C) (s : ℕ) (q : Request) (t : Live C) (w : Waiting C) → Stands is_valid m told p st → waits p.graph s ≡ Some q → of_session s st.live ≡ Some t → t.waits ≡ Some w
      → q ≡ w.request
  request_is p st s q t w stands is found waiting = some_is q w.request (sym is ∙ stands.graph s ∙ ap request_of found ∙ ap waited_of waiting)

  -- and who bars it are the machine's holders
  barring_are : (p : Parts C B) (st : State C) (s : ℕ) (q : Request) (hs : List ℕ) → Stands is_valid m told p st → AreHolders p.table s q hs → holders q (others s st.live) ≡ hs
  barring_are p st s q hs stands are = holders_are is_valid m told p st s q hs stands are.rising (barring_of p.table (λ u. grants_of (of_session u st.live)) s q hs stands.table are)

  -- a request that is barred in the state is barred by the table
  pub barred_still : (p : Parts C B) (st : State C) (s : ℕ) → Stands is_valid m told p st → IsStillBarred st s → WaitsBarred p.graph p.table s
  barred_still p st s stands is = record {
    request = is.waiting.request;
    waits = stands.graph s ∙ ap request_of is.live ∙ ap waited_of is.waits;
    some = λ hs are nobody. true≢false (sym is.barred ∙ barred_none is.waiting.request (others s st.live) (barring_are p st s is.waiting.request hs stands are ∙ nobody));
  }

  module _ (laws : CallLaws C is_valid m) (p : Parts C B) (s : ℕ) (c : C) (a : Answer) (is : ShowsBarred p.graph p.table s a) where
    waits_so : (st : State C) → IsReached is_valid m st → Stands is_valid m told p st → IsWaitingWith st s c → IsRetried m st s a false
    waits_so st reached stands at =
        record {
          after = record { state = waits_with m st t w.call w.request; answer = said.Call (answer.Waits w.request.resource w.request.ask (holders w.request (others s st.live))) };
          step = on.step;
          answer = ap₂ (λ (q : Request) (hs : List ℕ). said.Call (answer.Waits q.resource q.ask hs)) (sym same) (ap (λ (q : Request). holders q (others s st.live)) (sym same) ∙ named) ∙ sym (ap said.Call is.is);
          changed = ap₂ (λ (x y : Option (Live C)). has_changed x y) at.found found_after
              ∙ ap (λ (b : Bool). b || not (wait_alike t.waits (Some (record { call = w.call; request = w.request })))) no_more
              ∙ ap (λ (o : Option (Waiting C)). not (wait_alike o (Some (record { call = w.call; request = w.request })))) at.waits
              ∙ ap not ((same_request_decides w.request w.request).1 refl);
        }
      where
        t : Live C
        t = at.live

        w : Waiting C
        w = at.waiting

        same : is.request ≡ w.request
        same = request_is p st s is.request t w stands is.waits at.found at.waits

        named : holders is.request (others s st.live) ≡ is.holders
        named = barring_are p st s is.request is.holders stands is.are

        barred : is_barred w.request (others s st.live) ≡ true
        barred = subst (λ (q : Request). is_barred q (others s st.live) ≡ true) same (barred_some is.request (others s st.live) (λ e. is.some (sym named ∙ e)))

        on : WaitsOn m st s t w
        on = reached_waiters is_valid m laws st reached s t w at.found at.waits barred

        after : Live C
        after = record t { grants = t.grants ++ granted m st t w.call; waits = Some (record { call = w.call; request = w.request }) }

        found_after : of_session s (waits_with m st t w.call w.request).live ≡ Some after
        found_after = ap (λ (x : ℕ). of_session x (put after st.live)) (sym (found_named s st.live t at.found)) ∙ found_put after st.live

        no_more : hold_more t.grants (t.grants ++ granted m st t w.call) ≡ false
        no_more = more_lack t.grants (granted m st t w.call)
            ∙ on.granted (λ g. not (has_mode (join_of t.grants g.resource) g.ask)) (none_lacking t.grants)

    pub waits_on_again : IsAgain is_valid m told p s c a p
    waits_on_again = record {
      noted = false;
      may_be = subst (λ (x : Answer). IsNotedRetry x false) (sym is.is) tt;
      moved = record { book = refl; prepared = refl; places = refl; queue = refl; state = λ st stands at. stands };
      step = waits_so;
    }
