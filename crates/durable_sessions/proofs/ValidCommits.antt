-- The calls that a book's transactions commit are valid, where all calls of the book are.
use Rattle.std.proofs.Common.{true, false, List, [], ◌∷◌, ◌++◌}
use Rattle.std.specs.Prelude.{ℕ, ◌==◌, Option, Some, None, IfSome, nat_lt, if◌then◌else◌}
use Rattle.std.specs.List.{AllByRecursion}
use Rattle.tree_model.proofs.Lists.{all_append}
use Rattle.call_contract.specs.Books.{Book, called, called_again, commit_of, commits, commits_after, HasValidCall, HasValidCalls, open_after, open_of}
use Rattle.call_contract.specs.SerialRuns.{Committed}
use Rattle.call_contract.specs.States.{Answered, Live, of_session, others, put, Waiting}
use Rattle.call_contract.specs.declared.events.Answer.TheVariants as answer
use Rattle.call_contract.specs.declared.events.Event.{Event}
use Rattle.call_contract.specs.declared.events.Event.TheVariants.{Begin, Call, Retry, Fail, Commit, Abort}
use Rattle.call_contract.specs.declared.events.EventAnswer.{EventAnswer}
use Rattle.call_contract.specs.declared.events.EventAnswer.TheVariants as said

module _ {C : Type 0} (is_valid : C → Type 0) where
  -- so are its answered calls, and the one that waits
  record IsValidLive (t : Live C) : Type 0 where
    calls : AllByRecursion (λ a. is_valid a.call) t.calls
    waits : IfSome t.waits (λ w. is_valid w.call)

  abbrev AreValidLives : List (Live C) → Type 0
  AreValidLives ts = AllByRecursion IsValidLive ts

  abbrev pub AreValidCommits : List (Committed C) → Type 0
  AreValidCommits ds = AllByRecursion (λ d. AllByRecursion (λ a. is_valid a.call) d.calls) ds

  -- ---- the live transactions

  of_valid : (s : ℕ) (ts : List (Live C)) → AreValidLives ts → IfSome (of_session s ts) IsValidLive
  of_valid s [] h = tt
  of_valid s (t ∷ ts) h = elim (t.session == s) as (λ b. IfSome (if b then Some t else of_session s ts) IsValidLive) [ true ↦ h.0 | false ↦ of_valid s ts h.1 ]

  put_valid : (t : Live C) (ts : List (Live C)) → IsValidLive t → AreValidLives ts → AreValidLives (put t ts)
  put_valid t [] is h = (is, tt)
  put_valid t (u ∷ us) is h = elim (u.session == t.session) as (λ b. AreValidLives (if b then t ∷ us else if nat_lt t.session u.session then t ∷ u ∷ us else u ∷ put t us)) [
    | true ↦ (is, h.1)
    | false ↦ elim (nat_lt t.session u.session) as (λ b. AreValidLives (if b then t ∷ u ∷ us else u ∷ put t us)) [ true ↦ (is, h) | false ↦ (h.0, put_valid t us is h.1) ]
  ]

  others_valid : (s : ℕ) (ts : List (Live C)) → AreValidLives ts → AreValidLives (others s ts)
  others_valid s [] h = tt
  others_valid s (t ∷ ts) h = elim (t.session == s) as (λ b. AreValidLives (if b then others s ts else t ∷ others s ts)) [ true ↦ others_valid s ts h.1 | false ↦ (h.0, others_valid s ts h.1) ]

  -- ---- entries

  called_valid : (t : Live C) (c : C) (given : EventAnswer) (ts : List (Live C)) → IsValidLive t → is_valid c → AreValidLives ts → AreValidLives (called t c given ts)
  called_valid t c (said.Call (answer.Answered r)) ts is valid h =
      put_valid (record t { calls = t.calls ++ record { call = c; reply = r } ∷ []; waits = None }) ts
      (record { calls = all_append (λ (a : Answered C). is_valid a.call) t.calls (record { call = c; reply = r } ∷ []) is.calls (valid, tt); waits = tt }) h
  called_valid t c (said.Call (answer.Waits r a holders)) ts is valid h = put_valid _ ts (record { calls = is.calls; waits = valid }) h
  called_valid t c (said.Call (answer.Deadlock cycle)) ts is valid h = others_valid t.session ts h
  called_valid t c said.Nothing ts is valid h = h
  called_valid t c (said.Number k) ts is valid h = h

  again_valid : (t : Live C) (w : Option (Waiting C)) (given : EventAnswer) (ts : List (Live C)) → IsValidLive t → IfSome w (λ x. is_valid x.call) → AreValidLives ts → AreValidLives (called_again t w given ts)
  again_valid t None given ts is valid h = h
  again_valid t (Some w) given ts is valid h = called_valid t w.call given ts is valid h

  opened_valid : (s : ℕ) (o : Option (Live C)) (e : Event C) (given : EventAnswer) (ts : List (Live C)) → IfSome o IsValidLive → HasValidCall is_valid e → AreValidLives ts → AreValidLives (open_of s o e given ts)
  opened_valid s None Begin given ts is valid h = put_valid _ ts (record { calls = tt; waits = tt }) h
  opened_valid s None (Call c) given ts is valid h = h
  opened_valid s None Retry given ts is valid h = h
  opened_valid s None (Fail c k f) given ts is valid h = h
  opened_valid s None Commit given ts is valid h = h
  opened_valid s None Abort given ts is valid h = h
  opened_valid s (Some t) Begin given ts is valid h = h
  opened_valid s (Some t) (Call c) given ts is valid h = called_valid t c given ts is valid h
  opened_valid s (Some t) Retry given ts is valid h = again_valid t t.waits given ts is is.waits h
  opened_valid s (Some t) (Fail c k f) given ts is valid h = put_valid (record t { waits = None }) ts (record { calls = is.calls; waits = tt }) h
  opened_valid s (Some t) Commit given ts is valid h = others_valid s ts h
  opened_valid s (Some t) Abort given ts is valid h = others_valid s ts h

  commit_valid : (o : Option (Live C)) (e : Event C) → IfSome o IsValidLive → AreValidCommits (commit_of o e)
  commit_valid None e is = tt
  commit_valid (Some t) Begin is = tt
  commit_valid (Some t) (Call c) is = tt
  commit_valid (Some t) Retry is = tt
  commit_valid (Some t) (Fail c k f) is = tt
  commit_valid (Some t) Commit is = (is.calls, tt)
  commit_valid (Some t) Abort is = tt

  commits_after_valid : (ts : List (Live C)) (book : Book C) → AreValidLives ts → HasValidCalls is_valid book → AreValidCommits (commits_after ts book)
  commits_after_valid ts [] h valid = tt
  commits_after_valid ts (n ∷ ns) h valid =
      let own = of_valid n.session ts h in
      all_append _ (commit_of (of_session n.session ts) n.event) _ (commit_valid (of_session n.session ts) n.event own)
      (commits_after_valid (open_after ts n) ns (opened_valid n.session (of_session n.session ts) n.event n.answer ts own valid.0 h) valid.1)

  pub commits_valid : (book : Book C) → HasValidCalls is_valid book → AreValidCommits (commits book)
  commits_valid book valid = commits_after_valid [] book tt valid
