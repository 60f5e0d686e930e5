-- What driving a line does to a core, by the state that it stands in.
use Rattle.std.proofs.Common.{◌≡◌, ℕ, ◌+◌, List, [], ◌∷◌, ◌++◌, refl, sym, ap, subst, ◌∙◌}
use Rattle.std.specs.Prelude.{Option, Some, None}
use Rattle.std.proofs.lemmas.List.{append-nil}
use Rattle.std.proofs.lemmas.Option.{same_Some}
use Rattle.tree_model.specs.Entries.{Entries}
use Rattle.tree_model.specs.Tree.{Tree, map_of}
use Rattle.tree_model.proofs.SameMaps.{same_tree}
use Rattle.node_seq.specs.Trees.{StandsFor}
use Rattle.call_contract.specs.Books.{IsReached, last}
use Rattle.call_contract.specs.Calls.{CallLaws, CallMeaning}
use Rattle.call_contract.specs.Sessions.{commits_in}
use Rattle.call_contract.specs.States.{State, start}
use Rattle.call_contract.proofs.Appends.{last_append}
use Rattle.call_contract.proofs.SessionBooks.{number_told}
use Rattle.command_lines.specs.declared.line_reply.LineReply.{LineReply}
use Rattle.tx_core.specs.Commits.{IsPrepared, HasChangesOf}
use Rattle.tx_core.specs.Cores.{CoreView, state_from, next_number}
use Rattle.tx_core.specs.declared.commits.Prepared.{Prepared}
use Rattle.session_driver.specs.Driving.{HasDone, IsDriven}
use Rattle.session_driver.specs.Lines.{Asked, after_line}
use Rattle.session_driver.specs.Refusals.{refusal}
use Rattle.session_driver.specs.declared.doing.Doing.{Doing}
use Rattle.session_driver.specs.declared.doing.Doing.TheVariants.{Commit}
use Rattle.session_driver.proofs.Runs.{lines_state}
use Rattle.durable_sessions.specs.Standing.{Stands}
use Rattle.durable_sessions.specs.inside.Commits.{IsLegalCore, IsDue}
use Rattle.session_driver.specs.Committed.{SameCommitted}
use Rattle.session_driver.proofs.OnlyCommits.{done_keeps, commit_commits}
use Rattle.durable_sessions.proofs.CommitLaws.{Leads, commit_leads}

-- ---- cores with one book

-- all that a state depends on is the same
pub record SameBook {C B : Type 0} (v w : CoreView C B) : Type 0 where
  pub opening : w.opening ≡ v.opening
  pub number : w.number ≡ v.number
  pub limit : w.limit ≡ v.limit
  pub book : w.book ≡ v.book

module _ {C B : Type 0} where
  pub same_back : (v w : CoreView C B) → SameBook v w → SameBook w v
  same_back v w same = record { opening = sym same.opening; number = sym same.number; limit = sym same.limit; book = sym same.book }

  pub same_book : (session : ℕ) (v w : CoreView C B) → w ≡ record v { prepared = Some session } → SameBook v w
  same_book session v w moved = record {
    opening = ap (λ (x : CoreView C B). x.opening) moved;
    number = ap (λ (x : CoreView C B). x.number) moved;
    limit = ap (λ (x : CoreView C B). x.limit) moved;
    book = ap (λ (x : CoreView C B). x.book) moved;
  }

-- ---- one state

module _ {C B : Type 0} (is_valid : C → Type 0) (m : CallMeaning C) (laws : CallLaws C is_valid m) (contents : B → Option Entries) where
  -- a core stands in one state
  pub stands_once : (core : CoreView C B) (s u : State C) → Stands m contents core s → Stands m contents core u → s ≡ u
  stands_once core s u a b =
      let tree : a.tree ≡ b.tree = same_tree a.tree b.tree a.opened.valid b.opened.valid (same_Some (map_of a.tree) (map_of b.tree) (sym a.opened.map ∙ b.opened.map)) in
      sym a.state ∙ ap (λ (t : Tree). state_from m t core) tree ∙ b.state

  -- which is one that a legal book comes to
  pub stands_reached : (core : CoreView C B) (s : State C) → Stands m contents core s → IsLegalCore is_valid m contents core → IsReached is_valid m s
  stands_reached core s stands legal = record {
    tree = stands.tree;
    number = core.number;
    limit = core.limit;
    book = core.book;
    legal = legal stands.tree stands.opened;
    state = stands.state;
  }

  -- and the next commit's number is the one that follows on its last one
  pub next_is : (core : CoreView C B) (s : State C) → Stands m contents core s → IsLegalCore is_valid m contents core → next_number core ≡ s.number + 1
  next_is core s stands legal =
      ap (λ (n : ℕ). n + 1) (number_told m (start stands.tree core.number core.limit) core.book (legal stands.tree stands.opened).legal.run ∙ ap (λ (st : State C). st.number) stands.state)

  pub same_stands : (v w : CoreView C B) (s : State C) → SameBook v w → Stands m contents v s → Stands m contents w s
  same_stands v w s same stands = record {
    tree = stands.tree;
    opened = subst (λ (es : B). StandsFor (contents es) stands.tree) (sym same.opening) stands.opened;
    state = (λ i. last m (start stands.tree (same.number i) (same.limit i)) (same.book i)) ∙ stands.state;
  }

  -- ---- lines

  -- the book of a line leads to the state after it
  line_leads : (st : State C) (line : Asked C) → last m st (after_line m st line).book ≡ (after_line m st line).state
  line_leads st line =
      ap (last m st) (sym (append-nil (after_line m st line).book)) ∙ lines_state m st (line ∷ [])

  -- what a line that was done from a state leaves: the core stands in the state after it, and its lines were written
  pub record Done (line : Asked C) (new : CoreView C B) (before after : List LineReply) (s : State C) : Type 0 where
    pub stands : Stands m contents new (after_line m s line).state
    pub lines : after ≡ before ++ (after_line m s line).lines

  done_from : (line : Asked C) (old new : CoreView C B) (before after : List LineReply) (t : Tree) → StandsFor (contents old.opening) t
      → HasDone old new before after (after_line m (state_from m t old) line) → Done line new before after (state_from m t old)
  done_from line old new before after t opened done =
      let st = state_from m t old in
      let p = after_line m st line in
      record {
        stands = record {
          tree = t;
          opened = subst (λ (es : B). StandsFor (contents es) t) (sym (ap (λ (v : CoreView C B). v.opening) done.core)) opened;
          state = ap (λ (v : CoreView C B). state_from m t v) done.core ∙ last_append m (start t old.number old.limit) old.book p.book ∙ line_leads st line;
        };
        lines = done.lines;
      }

  pub line_done : (line : Asked C) (old new : CoreView C B) (before after : List LineReply)
      → ((t : Tree) → StandsFor (contents old.opening) t → HasDone old new before after (after_line m (state_from m t old) line))
      → (s : State C) → Stands m contents old s → Done line new before after s
  line_done line old new before after done s stands =
      subst (Done line new before after) stands.state (done_from line old new before after stands.tree stands.opened (done stands.tree stands.opened))

  -- one that was done at once leaves what is committed
  pub driven_keeps : (session : ℕ) (doing : Doing C) (old new : CoreView C B) (before after : List LineReply)
      → ((t : Tree) → StandsFor (contents old.opening) t → IsDriven m (state_from m t old) (record { session = session; doing = doing }) old new before after None)
      → (s : State C) → Stands m contents old s → SameCommitted s (after_line m s (record { session = session; doing = doing })).state
  driven_keeps session doing old new before after driven s stands =
      subst (λ (st : State C). SameCommitted st (after_line m st (record { session = session; doing = doing })).state) stands.state
      (done_keeps m (state_from m stands.tree old) session doing (driven stands.tree stands.opened).1)

  -- ---- commits

  -- a commit that was prepared is due
  pub is_due : (session : ℕ) (doing : Doing C) (old new : CoreView C B) (before after : List LineReply) (p : Prepared)
      → ((t : Tree) → StandsFor (contents old.opening) t → IsDriven m (state_from m t old) (record { session = session; doing = doing }) old new before after (Some p))
      → SameBook old new → IsPrepared old p → IsDue m contents new session p
  is_due session doing old new before after p driven same prepared = record {
    commit = record {
      number = prepared.number ∙ (λ i. sym same.number i + commits_in (sym same.book i) + 1);
      list = prepared.list;
      body = prepared.body;
      read = prepared.read;
      short = prepared.short;
    };
    allowed = λ s now. let stands = same_stands new old s (same_back old new same) now in
        subst (λ (st : State C). refusal m st session Commit ≡ None) stands.state (driven stands.tree stands.opened).1;
    changes = λ s now. let stands = same_stands new old s (same_back old new same) now in
        subst (λ (st : State C). HasChangesOf m st session p) stands.state (driven stands.tree stands.opened).2;
  }

  pub asked_commit : (session : ℕ) (doing : Doing C) (old new : CoreView C B) (before after : List LineReply) (p : Prepared)
      → ((t : Tree) → StandsFor (contents old.opening) t → IsDriven m (state_from m t old) (record { session = session; doing = doing }) old new before after (Some p))
      → (s : State C) → Stands m contents old s → doing ≡ Commit
  asked_commit session doing old new before after p driven s stands = (driven stands.tree stands.opened).0

  -- it leads to the state after its line
  pub due_leads : (core : CoreView C B) (session : ℕ) (p : Prepared) → IsDue m contents core session p → IsLegalCore is_valid m contents core → (s : State C) → Stands m contents core s
      → Leads s (after_line m s (record { session = session; doing = Commit })).state p.number p.body
  due_leads core session p due legal s stands =
      commit_leads is_valid m laws s (after_line m s (record { session = session; doing = Commit })).state session p (stands_reached core s stands legal)
      (commit_commits m s session (due.allowed s stands)) (due.changes s stands) due.commit.list due.commit.read (due.commit.number ∙ next_is core s stands legal)

  -- the line of a commit that is made
  pub commit_done : (session : ℕ) (old new : CoreView C B) (before after : List LineReply) (p : Prepared) → IsDue m contents old session p
      → ((t : Tree) → StandsFor (contents old.opening) t → refusal m (state_from m t old) session Commit ≡ None
      → HasDone old new before after (after_line m (state_from m t old) (record { session = session; doing = Commit })))
      → (s : State C) → Stands m contents old s → Done (record { session = session; doing = Commit }) new before after s
  commit_done session old new before after p due done s stands = line_done (record { session = session; doing = Commit }) old new before after
      (λ t opened. done t opened (due.allowed (state_from m t old) (record { tree = t; opened = opened; state = refl }))) s stands
