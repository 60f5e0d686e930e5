-- What the calls that do a line leave of the core and the journal: a line that is done at once, and a commit.
use Rattle.std.proofs.Common.{◌≡◌, ℕ, ◌+◌, ◌≤◌, Bool, IsTrue, List, [], ◌∷◌, ◌++◌, length, append-nil, append_assoc, refl, sym, ap, subst, ◌∙◌, arith}
use Rattle.std.specs.Prelude.{Option, None, Some, Result, Ok, Err, OnErr, OnOk}
use Rattle.outside_traits.specs.Moments.{History}
use Rattle.tree_model.specs.Entries.{Entries}
use Rattle.tree_model.specs.Tree.{Tree}
use Rattle.node_seq.specs.Trees.{StandsFor}
use Rattle.journal.specs.Appends.{AddsCommit, HasAdded, LeavesWithOrWithout, groups_in}
use Rattle.journal.specs.Groups.{is_next, commit, with_commit, IsCommit}
use Rattle.journal.specs.Views.{JournalView}
use Rattle.call_contract.specs.Books.{Book, entry}
use Rattle.call_contract.specs.Calls.{CallLaws, CallMeaning}
use Rattle.call_contract.specs.Sessions.{commits_in}
use Rattle.call_contract.specs.States.{State}
use Rattle.call_contract.specs.declared.events.Event.TheVariants as event
use Rattle.call_contract.specs.declared.events.EventAnswer.{EventAnswer}
use Rattle.call_contract.specs.declared.events.Noted.{Noted}
use Rattle.call_contract.proofs.Appends.{commits_append}
use Rattle.command_lines.specs.declared.line_reply.LineReply.{LineReply}
use Rattle.tx_core.specs.Cores.{CoreView, over, state_from, next_number, with_entry}
use Rattle.tx_core.specs.declared.commits.Prepared.{Prepared}
use Rattle.session_driver.specs.Driving.{HasBegun, HasDone, HasGrown, IsDriven, IsReadyToCommit, with_entries}
use Rattle.session_driver.specs.Lines.{after_line}
use Rattle.session_driver.specs.Progress.{Progress}
use Rattle.session_driver.specs.Refusals.{refusal}
use Rattle.session_driver.specs.declared.doing.Doing.{Doing}
use Rattle.session_driver.specs.declared.doing.Doing.TheVariants.{Commit}
use Rattle.durable_sessions.specs.Asked.{asked_from, DoesAsked, GoesOnByOne, GrowsByOne, TakesNext, LeadsTo, LeavesEither}
use Rattle.durable_sessions.specs.Standing.{Stands}
use Rattle.durable_sessions.specs.inside.Commits.{IsLegalCore, IsDue}
use Rattle.durable_sessions.proofs.CommitLaws.{has_body, same_holds, commit_moments, commit_settles, follows}
use Rattle.durable_sessions.proofs.StandingLaws.{line_done, driven_keeps, due_leads, commit_done, asked_commit, same_book, same_stands}

pub on_err : {A E : Type 0} (r : Result A E) (P : Type 0) → P → OnErr r P
on_err (Ok x) P p = tt
on_err (Err e) P p = p

pub on_ok : {A E : Type 0} (r : Result A E) (P Q : Type 0) → (P → Q) → OnOk r P → OnOk r Q
on_ok (Ok x) P Q leads p = leads p
on_ok (Err e) P Q leads p = tt

module _ {C B : Type 0} (is_valid : C → Type 0) (m : CallMeaning C) (laws : CallLaws C is_valid m) (contents : B → Option Entries) where
  -- the state after a line
  abbrev pub after : State C → ℕ → Doing C → State C
  after s session doing = (asked_from m s session doing).state

  -- what driving a line tells
  abbrev pub Driven : ℕ → Doing C → CoreView C B → CoreView C B → List LineReply → List LineReply → Option Prepared → Type 0
  Driven session doing old new before said p =
      (t : Tree) → StandsFor (contents old.opening) t → IsDriven m (state_from m t old) (record { session = session; doing = doing }) old new before said p

  -- where it is done at once
  abbrev pub DoneAtOnce : ℕ → Doing C → CoreView C B → CoreView C B → List LineReply → List LineReply → Type 0
  DoneAtOnce session doing old new before said = Driven session doing old new before said None

  -- what finishing a commit tells
  abbrev pub Finished : ℕ → CoreView C B → CoreView C B → List LineReply → List LineReply → Type 0
  Finished session old new before said =
      (t : Tree) → StandsFor (contents old.opening) t → refusal m (state_from m t old) session Commit ≡ None
      → HasDone old new before said (asked_from m (state_from m t old) session Commit)

  -- and so of the core over another base
  pub finished_over : (session : ℕ) (old mid now : CoreView C B) (before said : List LineReply) → now ≡ over mid now.base → Finished session old mid before said → Finished session old now before said
  finished_over session old mid now before said same finished t opened allowed =
      let done = finished t opened allowed in
      let book = (asked_from m (state_from m t old) session Commit).book in
      record {
        core = same ∙ ap (λ (v : CoreView C B). over v now.base) done.core ∙ (λ i. record old {
          book = old.book ++ book;
          base = now.base;
          committed = sym (ap (λ (v : CoreView C B). v.committed) same) i;
          prepared = sym (ap (λ (v : CoreView C B). v.prepared) same) i;
          undrained = sym (ap (λ (v : CoreView C B). v.undrained) same) i;
        });
        lines = done.lines;
      }

  -- ---- a journal that is left alone

  pub same_leads : (is_known : Bool) (core : CoreView C B) (journal : History) (s : State C) → Stands m contents core s → LeadsTo m contents is_known journal core journal s s
  same_leads is_known core journal s stands = record { stands = stands; settled = λ known pages holds. holds }

  pub still_leaves : (is_known : Bool) (old new : History) (s u : State C) → new ≡ old → LeavesEither is_known old new s u
  still_leaves is_known old new s u same = λ known pages holds. record { more = []; states = ap (λ (h : History). h.now ∷ h.past) same; images = tt }

  -- ---- a line that is done at once

  pub done_leads : (is_known : Bool) (session : ℕ) (doing : Doing C) (old new : CoreView C B) (journal : History) (before said : List LineReply) → DoneAtOnce session doing old new before said
      → (s : State C) → Stands m contents old s → LeadsTo m contents is_known journal new journal s (after s session doing)
  done_leads is_known session doing old new journal before said driven s stands =
      let done = line_done is_valid m laws contents (record { session = session; doing = doing }) old new before said (λ t opened. (driven t opened).0) s stands in
      record {
        stands = done.stands;
        settled = λ known pages holds. record {
          synced = holds.synced;
          holds = same_holds s (after s session doing) journal.now.reads pages (driven_keeps is_valid m laws contents session doing old new before said driven s stands) holds.holds;
        };
      }

  pub done_lines : (session : ℕ) (doing : Doing C) (old new : CoreView C B) (before said : List LineReply) → DoneAtOnce session doing old new before said
      → (s : State C) → Stands m contents old s → said ≡ before ++ (asked_from m s session doing).lines
  done_lines session doing old new before said driven s stands = (line_done is_valid m laws contents (record { session = session; doing = doing }) old new before said (λ t opened. (driven t opened).0) s stands).lines

  pub done_does : (is_known : Bool) (session : ℕ) (doing : Doing C) (old new : CoreView C B) (journal : JournalView) (before said : List LineReply) → DoneAtOnce session doing old new before said
      → (s : State C) → Stands m contents old s → DoesAsked m contents is_known session doing old new journal journal before said s
  done_does is_known session doing old new journal before said driven s stands = record {
    state = done_leads is_known session doing old new journal.history before said driven s stands;
    replies = done_lines session doing old new before said driven s stands;
    book = ap (λ (v : CoreView C B). v.book) (driven stands.tree stands.opened).0.core ∙ ap (λ (st : State C). old.book ++ (asked_from m st session doing).book) stands.state;
  }

  -- ---- a commit, whose group is appended to a journal that was given room for it

  pub commit_follows : (core : CoreView C B) (session : ℕ) (p : Prepared) (journal roomy : JournalView) (bytes : List ℕ) → IsDue m contents core session p → TakesNext core journal → roomy.last ≡ journal.last → bytes ≡ p.body
      → IsCommit roomy.last p.number bytes
  commit_follows core session p journal roomy bytes due takes last same = record {
    next = (λ i. is_next (last i) (due.commit.number i)) ∙ takes.next;
    is_body = has_body bytes p.body p.changes same due.commit.read due.commit.list.rise;
    short = let within : length p.body ≤ 4294967295 = due.commit.short in omega (arith, ap length same, within);
  }

  pub commit_leaves : (is_known : Bool) (core : CoreView C B) (session : ℕ) (p : Prepared) (old roomy new : History) (bytes : List ℕ) → IsDue m contents core session p → IsLegalCore is_valid m contents core
      → (IsTrue is_known → (groups_in old).images ≡ None) → roomy ≡ old → bytes ≡ p.body
      → (IsTrue is_known → LeavesWithOrWithout p.number bytes roomy new) → (s : State C) → Stands m contents core s → LeavesEither is_known old new s (after s session Commit)
  commit_leaves is_known core session p old roomy new bytes due legal none room same run s stands = λ known pages holds.
      commit_moments s (after s session Commit) p.number p.body pages old new (due_leads is_valid m laws contents core session p due legal s stands) (none known) holds
      (subst (λ (x : History × List ℕ). LeavesWithOrWithout p.number x.1 x.0 new) (λ i. (room i, same i)) (run known))

  pub commit_leads_to : (is_known : Bool) (old now : CoreView C B) (session : ℕ) (p : Prepared) (before_it roomy after_it : History) (bytes : List ℕ) (gate : ℕ) (before said : List LineReply)
      → IsDue m contents old session p → IsLegalCore is_valid m contents old → (IsTrue is_known → (groups_in before_it).images ≡ None) → roomy ≡ before_it → bytes ≡ p.body
      → (IsTrue is_known → AddsCommit gate p.number bytes roomy after_it) → Finished session old now before said
      → (s : State C) → Stands m contents old s → LeadsTo m contents is_known before_it now after_it s (after s session Commit)
  commit_leads_to is_known old now session p before_it roomy after_it bytes gate before said due legal none room same adds finished s stands = record {
    stands = (commit_done is_valid m laws contents session old now before said p due finished s stands).stands;
    settled = λ known pages holds.
        let added = adds known in
        commit_settles s (after s session Commit) p.number p.body pages before_it after_it (due_leads is_valid m laws contents old session p due legal s stands) (none known) holds added.synced
        (added.groups ∙ (λ i. Ok (with_commit (groups_in (room i)) (commit p.number (same i)))));
  }

  pub commit_lines : (old now : CoreView C B) (session : ℕ) (p : Prepared) (before said : List LineReply) → IsDue m contents old session p → Finished session old now before said
      → (s : State C) → Stands m contents old s → said ≡ before ++ (asked_from m s session Commit).lines
  commit_lines old now session p before said due finished s stands = (commit_done is_valid m laws contents session old now before said p due finished s stands).lines

  -- ---- what a commit that was prepared tells is so of the line that asked for it

  pub by_commit : (Q : Doing C → State C → Type 0) (session : ℕ) (doing : Doing C) (old mid : CoreView C B) (before said : List LineReply) (p : Prepared)
      → ((t : Tree) → StandsFor (contents old.opening) t → IsDriven m (state_from m t old) (record { session = session; doing = doing }) old mid before said (Some p))
      → mid ≡ record old { prepared = Some session }
      → ((s : State C) → Stands m contents mid s → Q Commit s) → (s : State C) → Stands m contents old s → Q doing s
  by_commit Q session doing old mid before said p driven moved told s stands =
      subst (λ (d : Doing C). Q d s) (sym (asked_commit is_valid m laws contents session doing old mid before said p driven s stands)) (told s (same_stands is_valid m laws contents old mid s (same_book session old mid moved) stands))

  pub commit_does : {A E : Type 0} (is_known : Bool) (session : ℕ) (doing : Doing C) (old mid new : CoreView C B) (journal journal_now : JournalView) (before said now : List LineReply) (capacity : ℕ) (p : Prepared) (r : Result A E)
      → Driven session doing old mid before said (Some p) → IsReadyToCommit old mid session doing before said capacity p
      → OnOk r ((s : State C) → Stands m contents mid s → LeadsTo m contents is_known journal.history new journal_now.history s (after s session Commit))
      → OnOk r ((s : State C) → Stands m contents mid s → now ≡ said ++ (asked_from m s session Commit).lines)
      → OnOk r ((s : State C) → Stands m contents mid s → new.book ≡ mid.book ++ (asked_from m s session Commit).book)
      → OnOk r ((s : State C) → Stands m contents old s → DoesAsked m contents is_known session doing old new journal journal_now before now s)
  commit_does is_known session doing old mid new journal journal_now before said now capacity p (Ok x) driven ready leads lines book =
      by_commit (λ (d : Doing C) (s : State C). DoesAsked m contents is_known session d old new journal journal_now before now s) session doing old mid before said p driven ready.core
      (λ s stands. record {
        state = leads s stands;
        replies = lines s stands ∙ ap (λ (r : List LineReply). r ++ (asked_from m s session Commit).lines) ready.unsaid;
        book = book s stands ∙ ap (λ (v : CoreView C B). v.book ++ (asked_from m s session Commit).book) ready.core;
      })
  commit_does is_known session doing old mid new journal journal_now before said now capacity p (Err e) driven ready leads lines book = tt

  -- ---- what was begun

  -- so it is told of the state that the core stands in
  pub begun_from : (session : ℕ) (doing : Doing C) (old new : CoreView C B) (before said : List LineReply)
      → ((t : Tree) → StandsFor (contents old.opening) t → HasBegun old new before said (after_line m (state_from m t old) (record { session = session; doing = doing })))
      → (s : State C) → Stands m contents old s → HasBegun old new before said (asked_from m s session doing)
  begun_from session doing old new before said told s stands =
      subst (λ (st : State C). HasBegun old new before said (asked_from m st session doing)) stands.state (told stands.tree stands.opened)

  pub commit_begun : (session : ℕ) (p : Prepared) (old new : CoreView C B) (before said : List LineReply) → IsDue m contents old session p
      → ((t : Tree) → StandsFor (contents old.opening) t → refusal m (state_from m t old) session Commit ≡ None
      → HasBegun old new before said (after_line m (state_from m t old) (record { session = session; doing = Commit })))
      → (s : State C) → Stands m contents old s → HasBegun old new before said (asked_from m s session Commit)
  commit_begun session p old new before said due told =
      begun_from session Commit old new before said (λ t opened. told t opened (due.allowed (state_from m t old) (record { tree = t; opened = opened; state = refl })))

-- ---- the number that follows

module _ {C B : Type 0} where
  -- where no commit was added, the same one does
  grown_next : (v w : CoreView C B) (before after : List LineReply) → HasGrown v w before after → next_number w ≡ next_number v
  grown_next v w before after is =
      let number : w.number ≡ v.number = ap (λ (x : CoreView C B). x.number) is.core in
      let book : w.book ≡ v.book ++ is.entries = ap (λ (x : CoreView C B). x.book) is.core in
      omega (arith, number, ap commits_in book, commits_append v.book is.entries, is.commits)

  -- so the journal takes the next commit of a core that has grown
  pub grown_takes : (v w : CoreView C B) (journal : JournalView) (before after : List LineReply) → HasGrown v w before after → TakesNext v journal → TakesNext w journal
  grown_takes v w journal before after is takes = record {
    usable = takes.usable;
    next = ap (λ (n : ℕ). is_next journal.last n) (grown_next v w before after is) ∙ takes.next;
  }

  -- behind a commit that was appended it takes the one that follows on it
  pub commit_takes : (m : CallMeaning C) (contents : B → Option Entries) (old mid now : CoreView C B) (session : ℕ) (a : EventAnswer) (p : Prepared) (roomy new : JournalView) (bytes : List ℕ) (before after : List LineReply)
      → IsDue m contents old session p → HasAdded p.number bytes roomy new → HasGrown (with_entry old (entry session event.Commit a)) mid before after → now ≡ over mid now.base → TakesNext now new
  commit_takes m contents old mid now session a p roomy new bytes before after due added grown same =
      let made : Noted C = entry session event.Commit a in
      let number : p.number ≡ next_number old = due.commit.number in
      let behind : next_number mid ≡ next_number (with_entry old made) = grown_next (with_entry old made) mid before after grown in
      let one : commits_in (old.book ++ made ∷ []) ≡ commits_in old.book + 1 = commits_append old.book (made ∷ []) in
      let next : p.number + 1 ≡ next_number now = omega (arith, number, behind, one, ap (λ (v : CoreView C B). next_number v) same) in
      record { usable = added.usable; next = subst (λ (n : ℕ). IsTrue (is_next new.last n)) next (follows new.last p.number added.last) }

-- ---- what the book gains

module _ {C B : Type 0} where
  -- entries that commit nothing
  pub grown_by_none : (old new : CoreView C B) (before after : List LineReply) → HasGrown old new before after → GrowsByOne old new
  grown_by_none old new before after h = record {
    opening = ap (λ (v : CoreView C B). v.opening) h.core;
    number = ap (λ (v : CoreView C B). v.number) h.core;
    limit = ap (λ (v : CoreView C B). v.limit) h.core;
    more = h.entries;
    book = ap (λ (v : CoreView C B). v.book) h.core;
    one = omega (arith, h.commits);
  }

  -- a commit, and behind it entries that commit nothing
  pub grown_by_one : (old mid now : CoreView C B) (session : ℕ) (a : EventAnswer) (before after : List LineReply) → HasGrown (with_entry old (entry session event.Commit a)) mid before after → now ≡ over mid now.base → GrowsByOne old now
  grown_by_one old mid now session a before after h same =
      let made : Noted C = entry session event.Commit a in
      record {
        opening = ap (λ (v : CoreView C B). v.opening) same ∙ ap (λ (v : CoreView C B). v.opening) h.core;
        number = ap (λ (v : CoreView C B). v.number) same ∙ ap (λ (v : CoreView C B). v.number) h.core;
        limit = ap (λ (v : CoreView C B). v.limit) same ∙ ap (λ (v : CoreView C B). v.limit) h.core;
        more = made ∷ h.entries;
        book = ap (λ (v : CoreView C B). v.book) same ∙ ap (λ (v : CoreView C B). v.book) h.core ∙ append_assoc old.book (made ∷ []) h.entries;
        one = omega (arith, h.commits);
      }

  -- the same behind the preparing of a commit
  pub grown_over : (session : ℕ) (old mid new : CoreView C B) → mid ≡ record old { prepared = Some session } → GrowsByOne mid new → GrowsByOne old new
  grown_over session old mid new moved h = record {
    opening = h.opening ∙ ap (λ (v : CoreView C B). v.opening) moved;
    number = h.number ∙ ap (λ (v : CoreView C B). v.number) moved;
    limit = h.limit ∙ ap (λ (v : CoreView C B). v.limit) moved;
    more = h.more;
    book = h.book ∙ ap (λ (v : CoreView C B). v.book ++ h.more) moved;
    one = h.one;
  }

  pub commit_goes_on : {A E : Type 0} (session : ℕ) (old mid new : CoreView C B) (journal : JournalView) (r : Result A E) → mid ≡ record old { prepared = Some session }
      → OnOk r (TakesNext new journal) → OnOk r (GrowsByOne mid new) → OnOk r (GoesOnByOne old new journal)
  commit_goes_on session old mid new journal (Ok x) moved takes grown = record { takes = takes; grown = grown_over session old mid new moved grown }
  commit_goes_on session old mid new journal (Err e) moved takes grown = tt

-- the entries that a line makes
module _ {C B : Type 0} (m : CallMeaning C) (contents : B → Option Entries) where
  pub done_book : (session : ℕ) (doing : Doing C) (old new : CoreView C B) (before after : List LineReply)
      → ((t : Tree) → StandsFor (contents old.opening) t → HasDone old new before after (after_line m (state_from m t old) (record { session = session; doing = doing })))
      → (s : State C) → Stands m contents old s → new.book ≡ old.book ++ (asked_from m s session doing).book
  done_book session doing old new before after done s stands =
      ap (λ (v : CoreView C B). v.book) (done stands.tree stands.opened).core
      ∙ ap (λ (st : State C). old.book ++ (asked_from m st session doing).book) stands.state

  -- a commit that is due isn't refused
  pub due_allowed : (core : CoreView C B) (session : ℕ) (p : Prepared) → IsDue m contents core session p → (t : Tree) → StandsFor (contents core.opening) t → refusal m (state_from m t core) session Commit ≡ None
  due_allowed core session p due t opened = due.allowed (state_from m t core) (record { tree = t; opened = opened; state = refl })

-- ---- each of the facts of what was done

module _ {A E C B : Type 0} (m : CallMeaning C) (contents : B → Option Entries) (is_known : Bool) (session : ℕ) (doing : Doing C) (old new : CoreView C B) (journal journal_now : JournalView) (before after : List LineReply) where
  pub does_state : (r : Result A E) → OnOk r ((s : State C) → Stands m contents old s → DoesAsked m contents is_known session doing old new journal journal_now before after s)
      → OnOk r ((s : State C) → Stands m contents old s → LeadsTo m contents is_known journal.history new journal_now.history s (asked_from m s session doing).state)
  does_state (Ok x) does = λ s stands. (does s stands).state
  does_state (Err e) does = tt

  pub does_replies : (r : Result A E) → OnOk r ((s : State C) → Stands m contents old s → DoesAsked m contents is_known session doing old new journal journal_now before after s)
      → OnOk r ((s : State C) → Stands m contents old s → after ≡ before ++ (asked_from m s session doing).lines)
  does_replies (Ok x) does = λ s stands. (does s stands).replies
  does_replies (Err e) does = tt

  pub does_book : (r : Result A E) → OnOk r ((s : State C) → Stands m contents old s → DoesAsked m contents is_known session doing old new journal journal_now before after s)
      → OnOk r ((s : State C) → Stands m contents old s → new.book ≡ old.book ++ (asked_from m s session doing).book)
  does_book (Ok x) does = λ s stands. (does s stands).book
  does_book (Err e) does = tt

module _ {A E C B : Type 0} (old new : CoreView C B) (journal : JournalView) where
  pub goes_takes : (r : Result A E) → OnOk r (GoesOnByOne old new journal) → OnOk r (TakesNext new journal)
  goes_takes (Ok x) goes = goes.takes
  goes_takes (Err e) goes = tt

  pub goes_grown : (r : Result A E) → OnOk r (GoesOnByOne old new journal) → OnOk r (GrowsByOne old new)
  goes_grown (Ok x) goes = goes.grown
  goes_grown (Err e) goes = tt

-- ---- nothing was begun, or the same over a core whose commit was prepared

module _ {C B : Type 0} where
  pub begun_nothing : (core : CoreView C B) (before : List LineReply) (p : Progress C) → HasBegun core core before before p
  begun_nothing core before p = record {
    entries = [];
    rest = p.book;
    failed = [];
    said = [];
    unsaid = p.lines;
    book = refl;
    lines = refl;
    failure = tt;
    core = ap (λ (b : Book C). record core { book = b }) (sym (append-nil core.book));
    out = sym (append-nil before);
  }

  pub begun_over : (session : ℕ) (old mid new : CoreView C B) (before said : List LineReply) (p : Progress C) → mid ≡ record old { prepared = Some session } → HasBegun mid new before said p → HasBegun old new before said p
  begun_over session old mid new before said p moved h = record {
    entries = h.entries;
    rest = h.rest;
    failed = h.failed;
    said = h.said;
    unsaid = h.unsaid;
    book = h.book;
    lines = h.lines;
    failure = h.failure;
    core = h.core ∙ ap (λ (v : CoreView C B). with_entries v (h.entries ++ h.failed) new) moved;
    out = h.out;
  }
