-- What is left to be done goes on: one part behind another, and a failure behind a part.
use Rattle.std.proofs.Common.{◌≡◌, inl, inr, ℕ, ◌+◌, cond, IsTrue, List, [], ◌∷◌, ◌++◌, length, Option, Some, None, Result, Ok, Err, IfOk, OnErr, refl, sym, ap, ap₂, ◌∙◌}
use Rattle.std.proofs.lemmas.Bool.{false≢true}
use Rattle.std.proofs.lemmas.List.{append-nil, append_assoc}
use Rattle.call_contract.specs.Books.{Book, entry}
use Rattle.call_contract.specs.declared.events.Event.TheVariants as event
use Rattle.call_contract.specs.declared.events.EventAnswer.TheVariants as said
use Rattle.call_contract.specs.States.{State}
use Rattle.call_contract.specs.declared.events.Noted.{Noted}
use Rattle.command_lines.specs.declared.line_reply.LineReply.{LineReply}
use Rattle.tree_model.specs.Entries.{Entries}
use Rattle.node_records.specs.declared.pending.Pending.{Pending}
use Rattle.call_contract.specs.Sessions.{commits_in, is_commit}
use Rattle.tx_core.specs.Drains.{Undrained}
use Rattle.tx_core.specs.Cores.{CoreView, IsLeftBy, drained, over, with_committed, with_entry, with_pending}
use Rattle.tx_core.specs.declared.errors.CallError.{CallError}
use Rattle.tx_core.specs.declared.errors.CallError.TheVariants as call_error
use Rattle.session_driver.specs.Progress.{Progress, stays}
use Rattle.call_contract.specs.declared.events.Event.{Event}
use Rattle.call_contract.proofs.Appends.{commits_append}
use Rattle.session_driver.specs.Driving.{with_entries, is_failure, IsFailureAtMost, HasGrown, HasDone, HasBegun}
use Rattle.session_driver.specs.inside.Steps.{Adds, Leaves, HasFailed}

module _ {C : Type 0} where
  failure_commits_nothing : (n : Noted C) (e : Event C) → n.event ≡ e → IsTrue (is_failure e) → commits_in (n ∷ []) ≡ 0
  failure_commits_nothing n (event.Fail c k f) is fails = ap (λ (e : Event C). length (cond (is_commit e) (n ∷ []) [])) is
  failure_commits_nothing n event.Begin is fails = absurd (false≢true fails)
  failure_commits_nothing n (event.Call c) is fails = absurd (false≢true fails)
  failure_commits_nothing n event.Retry is fails = absurd (false≢true fails)
  failure_commits_nothing n event.Commit is fails = absurd (false≢true fails)
  failure_commits_nothing n event.Abort is fails = absurd (false≢true fails)

  failures_commit_nothing : (failed : Book C) → IsFailureAtMost failed → commits_in failed ≡ 0
  failures_commit_nothing [] one = refl
  failures_commit_nothing (n ∷ []) one = failure_commits_nothing n n.event refl one
  failures_commit_nothing (n ∷ k ∷ rest) one = absurd one

module _ {C B : Type 0} where
  -- ---- cores

  entries_on : (a b c : CoreView C B) (xs ys : Book C) → b ≡ with_entries a xs b → c ≡ with_entries b ys c → c ≡ with_entries a (xs ++ ys) c
  entries_on a b c xs ys one two =
      two ∙ ap (λ (v : CoreView C B). with_entries v ys c) one ∙ ap (λ (book : Book C). record a { book = book; base = c.base; committed = c.committed; prepared = c.prepared; undrained = c.undrained }) (append_assoc a.book xs ys)

  pub entries_none : (v : CoreView C B) → v ≡ with_entries v [] v
  entries_none v = ap (λ (book : Book C). record v { book = book }) (sym (append-nil v.book))

  pub entries_same : (v w : CoreView C B) → w ≡ v → w ≡ with_entries v [] w
  entries_same v w e = entries_none w ∙ ap (λ (x : CoreView C B). with_entries x [] w) e

  -- the core over a base that was read
  pub entries_read : (v w : CoreView C B) → w ≡ over v w.base → w ≡ with_entries v [] w
  entries_read v w e = entries_none w ∙ ap (λ (x : CoreView C B). with_entries x [] w) e

  -- .. with one more entry, over any base and with anything committed and left to be made durable
  adds_by : (v w : CoreView C B) (n : Noted C) (b : B) (c : Option Entries) (u : Undrained) → w ≡ record (with_entry v n) { base = b; committed = c; undrained = u } → Adds v n w
  adds_by v w n b c u e =
      e ∙ (λ i. record (with_entry v n) { base = sym (ap (λ (x : CoreView C B). x.base) e) i; committed = sym (ap (λ (x : CoreView C B). x.committed) e) i; undrained = sym (ap (λ (x : CoreView C B). x.undrained) e) i })

  pub adds_over : (v w : CoreView C B) (n : Noted C) → w ≡ over (with_entry v n) w.base → Adds v n w
  adds_over v w n e = adds_by v w n w.base v.committed v.undrained e

  -- .. which is that of a commit whose body is handed out
  pub adds_commit : (v w x : CoreView C B) (n : Noted C) (p : Pending) → w ≡ with_committed (with_pending (with_entry v n) p) w.committed → x ≡ drained w → Adds v n x
  adds_commit v w x n p e none_waits =
      adds_by v x n v.base w.committed (record { after = v.number + commits_in (v.book ++ n ∷ []); waiting = [] }) (none_waits ∙ ap (λ (y : CoreView C B). drained y) e)

  pub entries_adds : (v w : CoreView C B) (n : Noted C) → Adds v n w → w ≡ with_entries v (n ∷ []) w
  entries_adds v w n e = e ∙ ap (λ (p : Option ℕ). record v { book = v.book ++ n ∷ []; base = w.base; committed = w.committed; prepared = p; undrained = w.undrained }) (sym (ap (λ (x : CoreView C B). x.prepared) e))

  pub entries_one : (v w : CoreView C B) (n : Noted C) → w ≡ over (with_entry v n) w.base → w ≡ with_entries v (n ∷ []) w
  entries_one v w n e = entries_adds v w n (adds_over v w n e)

  -- a core with one more entry, over its base
  pub over_own : (v w : CoreView C B) (n : Noted C) → w ≡ with_entry v n → w ≡ over (with_entry v n) w.base
  over_own v w n e = e ∙ ap (λ (b : B). over (with_entry v n) b) (sym (ap (λ (x : CoreView C B). x.base) e))

  -- ---- growth

  pub grown_none : (v w : CoreView C B) (xs ys : List LineReply) → w ≡ with_entries v [] w → ys ≡ xs → HasGrown v w xs ys
  grown_none v w xs ys e f = record { entries = []; said = []; core = e; commits = refl; out = f ∙ sym (append-nil xs) }

  pub grown_on : (a b c : CoreView C B) (x y z : List LineReply) → HasGrown a b x y → HasGrown b c y z → HasGrown a c x z
  grown_on a b c x y z one two = record {
    entries = one.entries ++ two.entries;
    said = one.said ++ two.said;
    core = entries_on a b c one.entries two.entries one.core two.core;
    commits = commits_append one.entries two.entries ∙ ap₂ (λ (m n : ℕ). m + n) one.commits two.commits;
    out = two.out ∙ ap (λ (ls : List LineReply). ls ++ two.said) one.out ∙ append_assoc x one.said two.said;
  }

  pub grown_failed : (a b : CoreView C B) (x y : List LineReply) → HasFailed a b → y ≡ x → HasGrown a b x y
  grown_failed a b x y is e = record { entries = is.failed; said = []; core = is.core; commits = failures_commit_nothing is.failed is.failure; out = e ∙ sym (append-nil x) }

  pub grown_lines : (v w : CoreView C B) (xs ys said : List LineReply) → w ≡ with_entries v [] w → ys ≡ xs ++ said → HasGrown v w xs ys
  grown_lines v w xs ys said e f = record { entries = []; said = said; core = e; commits = refl; out = f }

  -- ---- what is left

  pub left_none : (v : CoreView C B) (xs : List LineReply) (p : Progress C) → Leaves v v xs xs p p
  left_none v xs p = record { entries = []; said = []; book = refl; lines = refl; core = entries_none v; out = sym (append-nil xs) }

  pub left_on : (a b c : CoreView C B) (x y z : List LineReply) (p q r : Progress C) → Leaves a b x y p q → Leaves b c y z q r → Leaves a c x z p r
  left_on a b c x y z p q r one two = record {
    entries = one.entries ++ two.entries;
    said = one.said ++ two.said;
    book = one.book ∙ ap (λ (ns : Book C). one.entries ++ ns) two.book ∙ sym (append_assoc one.entries two.entries r.book);
    lines = one.lines ∙ ap (λ (ls : List LineReply). one.said ++ ls) two.lines ∙ sym (append_assoc one.said two.said r.lines);
    core = entries_on a b c one.entries two.entries one.core two.core;
    out = two.out ∙ ap (λ (ls : List LineReply). ls ++ two.said) one.out ∙ append_assoc x one.said two.said;
  }

  pub left_same : (a b : CoreView C B) (x y : List LineReply) (p q r : Progress C) → q ≡ r → Leaves a b x y p q → Leaves a b x y p r
  left_same a b x y p q r e one = record {
    entries = one.entries;
    said = one.said;
    book = one.book ∙ ap (λ (s : Progress C). one.entries ++ s.book) e;
    lines = one.lines ∙ ap (λ (s : Progress C). one.said ++ s.lines) e;
    core = one.core;
    out = one.out;
  }

  -- where nothing is left, all is done
  pub left_done : (a b : CoreView C B) (x y : List LineReply) (p : Progress C) (st : State C) → Leaves a b x y p (stays st) → HasDone a b x y p
  left_done a b x y p st one = record {
    core = one.core ∙ ap (λ (ns : Book C). with_entries a ns b) (sym (append-nil one.entries) ∙ sym one.book);
    lines = one.out ∙ ap (λ (ls : List LineReply). x ++ ls) (sym (append-nil one.said) ∙ sym one.lines);
  }

  pub done_after : (a b c : CoreView C B) (x y z : List LineReply) (p q : Progress C) → Leaves a b x y p q → HasDone b c y z q → HasDone a c x z p
  done_after a b c x y z p q one two = record {
    core = entries_on a b c one.entries q.book one.core two.core ∙ ap (λ (ns : Book C). with_entries a ns c) (sym one.book);
    lines = two.lines ∙ ap (λ (ls : List LineReply). ls ++ q.lines) one.out ∙ append_assoc x one.said q.lines ∙ ap (λ (ls : List LineReply). x ++ ls) (sym one.lines);
  }

  pub begun_after : (a b c : CoreView C B) (x y z : List LineReply) (p q : Progress C) → Leaves a b x y p q → HasBegun b c y z q → HasBegun a c x z p
  begun_after a b c x y z p q one two = record {
    entries = one.entries ++ two.entries;
    rest = two.rest;
    failed = two.failed;
    said = one.said ++ two.said;
    unsaid = two.unsaid;
    book = one.book ∙ ap (λ (ns : Book C). one.entries ++ ns) two.book ∙ sym (append_assoc one.entries two.entries two.rest);
    lines = one.lines ∙ ap (λ (ls : List LineReply). one.said ++ ls) two.lines ∙ sym (append_assoc one.said two.said two.unsaid);
    failure = two.failure;
    core = entries_on a b c one.entries (two.entries ++ two.failed) one.core two.core
        ∙ ap (λ (ns : Book C). with_entries a ns c) (sym (append_assoc one.entries two.entries two.failed));
    out = two.out ∙ ap (λ (ls : List LineReply). ls ++ two.said) one.out ∙ append_assoc x one.said two.said;
  }

  -- a failure behind what was done
  pub begun_failed : (a b c : CoreView C B) (x y z : List LineReply) (p q : Progress C) → Leaves a b x y p q → HasFailed b c → z ≡ y → HasBegun a c x z p
  begun_failed a b c x y z p q one two e = record {
    entries = one.entries;
    rest = q.book;
    failed = two.failed;
    said = one.said;
    unsaid = q.lines;
    book = one.book;
    lines = one.lines;
    failure = two.failure;
    core = entries_on a b c one.entries two.failed one.core two.core;
    out = e ∙ one.out;
  }

  -- a failure before anything was done
  pub begun_none : (a c : CoreView C B) (x z : List LineReply) (p : Progress C) → HasFailed a c → z ≡ x → HasBegun a c x z p
  begun_none a c x z p is e = begun_failed a a c x x z p p (left_none a x p) is e

  pub failed_none : (v w : CoreView C B) → w ≡ with_entries v [] w → HasFailed v w
  failed_none v w e = record { failed = []; failure = tt; core = e }

  pub failed_one : (v w : CoreView C B) (n : Noted C) → IsFailureAtMost (n ∷ []) → w ≡ over (with_entry v n) w.base → HasFailed v w
  failed_one v w n is e = record { failed = n ∷ []; failure = is; core = entries_one v w n e }

  -- a line that was refused, or couldn't be written
  pub grown_refused : {T E : Type 0} (v w : CoreView C B) (xs ys : List LineReply) (r : Result T E) → w ≡ with_entries v [] w → IfOk r (λ _. (said : List LineReply) × (ys ≡ xs ++ said)) → OnErr r (ys ≡ xs) → HasGrown v w xs ys
  grown_refused v w xs ys (Ok u) e one two = record { entries = []; said = one.0; core = e; commits = refl; out = one.1 }
  grown_refused v w xs ys (Err u) e one two = grown_none v w xs ys e two

  -- one entry with its line
  pub grown_one : (v w : CoreView C B) (n : Noted C) (l : LineReply) (xs ys : List LineReply) → w ≡ over (with_entry v n) w.base → commits_in (n ∷ []) ≡ 0 → ys ≡ xs ++ l ∷ [] → HasGrown v w xs ys
  grown_one v w n l xs ys e none f = record { entries = n ∷ []; said = l ∷ []; core = entries_one v w n e; commits = none; out = f }

  -- whatever was committed and left to be made durable before
  pub grown_anew : (v w : CoreView C B) (committed : Option Entries) (u : Undrained) (xs ys : List LineReply) → HasGrown (record v { committed = committed; undrained = u }) w xs ys → HasGrown v w xs ys
  grown_anew v w committed u xs ys is = record { entries = is.entries; said = is.said; core = is.core; commits = is.commits; out = is.out }

  -- an attempt without an answer
  pub failed_attempt : (count : B → ℕ) (v w : CoreView C B) (s : ℕ) (c : C) (e : CallError) → IsLeftBy count v s c e w → HasFailed v w
  failed_attempt count v w s c (call_error.Session why) e = failed_none v w (entries_same v w e)
  failed_attempt count v w s c call_error.NoMemory (inl e) = failed_none v w (entries_read v w e)
  failed_attempt count v w s c call_error.NoMemory (inr (k, some, e)) = failed_one v w (entry s (event.Fail (Some c) k None) said.Nothing) refl e
  failed_attempt count v w s c call_error.DiskFault (k, e) = failed_one v w (entry s (event.Fail (Some c) k (Some (count w.base))) said.Nothing) refl e

-- where it holds, it holds on an error
pub on_err : {T E : Type 0} (r : Result T E) (P : Type 0) → P → OnErr r P
on_err (Ok x) P is = tt
on_err (Err e) P is = is

-- from the same core and the same lines
pub grown_from : {C B : Type 0} (u v w : CoreView C B) (xs ys zs : List LineReply) → u ≡ v → xs ≡ ys → HasGrown u w xs zs → HasGrown v w ys zs
grown_from {C = C} {B = B} u v w xs ys zs e f is = record {
  entries = is.entries;
  said = is.said;
  core = is.core ∙ ap (λ (x : CoreView C B). with_entries x is.entries w) e;
  commits = is.commits;
  out = is.out ∙ ap (λ (ls : List LineReply). ls ++ is.said) f;
}
