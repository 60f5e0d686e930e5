-- What a commit writes is read again, and what a crash in it leaves is what was committed before it or after it.
use Rattle.std.proofs.Common.{◌≡◌, ℕ, ◌+◌, inl, inr, IsTrue, List, [], refl, sym, ap, subst, ◌∙◌}
use Rattle.std.specs.Prelude.{Option, Some, None, Result, Ok, Err, IsSome, unwrap_or, option_and_then, if◌then◌else◌, Bool}
use Rattle.std.proofs.lemmas.Bool.{eq-eqb}
use Rattle.outside_traits.specs.Moments.{History, IsAllSynced, LeavesOnly}
use Rattle.outside_traits.proofs.MomentLaws.{weaker}
use Rattle.tree_model.specs.declared.change.Change.{Change}
use Rattle.tree_model.specs.Changes.{keys_rise, Rising}
use Rattle.tree_model.specs.Entries.{changed}
use Rattle.tree_model.specs.StoredTree.{broken_at}
use Rattle.tree_model.specs.Tree.{map_of}
use Rattle.tree_model.specs.ValidTrees.{IsValidTree}
use Rattle.tree_model.proofs.ChangeLists.{test_of_rising}
use Rattle.tree_model.proofs.UnbrokenTrees.{unbroken}
use Rattle.node_records.specs.Changes.{changes_of as changes_read}
use Rattle.node_seq.specs.ChangeLists.{IsChangeList}
use Rattle.journal.specs.Bodies.{changes_in}
use Rattle.journal.specs.Groups.{commit, is_next, with_commit}
use Rattle.journal.specs.Journals.{read}
use Rattle.journal.specs.Appends.{IsBeforeOrAfter, LeavesWithOrWithout, groups_in, groups_read}
use Rattle.journal.specs.declared.group.Group.{Group}
use Rattle.store_contents.specs.Contents.{Contents, contents_of_files}
use Rattle.store_contents.proofs.CommitLaws.{one_more, same_groups}
use Rattle.store_contents.proofs.ContentsLaws.{by_damage}
use Rattle.call_contract.specs.Books.{IsReached}
use Rattle.call_contract.specs.CallChanges.{changes_of_calls, LeadTo}
use Rattle.call_contract.specs.Calls.{CallLaws, CallMeaning}
use Rattle.call_contract.specs.States.{Live, State, start, of_session, view}
use Rattle.call_contract.specs.Books.{last}
use Rattle.call_contract.proofs.BookLaws.{sound}
use Rattle.call_contract.proofs.CallChanges.{reached_lead}
use Rattle.call_contract.proofs.Replay.{view_valid}
use Rattle.tx_core.specs.Commits.{HasChangesOf}
use Rattle.tx_core.specs.declared.commits.Prepared.{Prepared}
use Rattle.durable_sessions.specs.Durable.{HoldState, HoldsAll, HoldsEither}
use Rattle.session_driver.specs.Committed.{Commits, SameCommitted}

-- ---- the body

-- what is read off a body, with rising keys, is the body of a commit
body_read : (body : List ℕ) (cs : List Change) → changes_read body ≡ Some cs → Rising cs → changes_in body ≡ Some cs
unfolding changes_in
body_read body cs is rise =
    ap (λ (o : Option (List Change)). option_and_then (λ changes. if keys_rise changes then Some changes else None) o) is
    ∙ ap (λ (b : Bool). if b then Some cs else None) (test_of_rising cs rise)

some_of : {A : Type 0} (o : Option A) (x : A) → o ≡ Some x → IsSome o
some_of o x is = subst IsSome (sym is) refl

pub has_body : (bytes body : List ℕ) (cs : List Change) → bytes ≡ body → changes_read body ≡ Some cs → Rising cs → IsSome (changes_in bytes)
has_body bytes body cs same is rise = some_of (changes_in bytes) cs (ap changes_in same ∙ body_read body cs is rise)

-- ---- a commit that is made

-- from the one state a commit with these changes leads to the other, under this number
pub record Leads {C : Type 0} (st u : State C) (number : ℕ) (body : List ℕ) : Type 0 where
  pub changes : List Change
  pub body_is : changes_in body ≡ Some changes
  pub map : changed changes (map_of st.tree) ≡ map_of u.tree
  pub valid : IsValidTree u.tree
  pub next : number ≡ st.number + 1
  pub counted : u.number ≡ number

-- ---- the tree

module _ {C : Type 0} (is_valid : C → Type 0) (m : CallMeaning C) (laws : CallLaws C is_valid m) where
  -- what a live transaction sees is a valid tree
  seen_valid : (st : State C) → IsReached is_valid m st → (s : ℕ) (x : Live C) → of_session s st.live ≡ Some x → IsValidTree (view m x.calls st.tree)
  seen_valid st is = subst (λ (u : State C). (s : ℕ) (x : Live C) → of_session s u.live ≡ Some x → IsValidTree (view m x.calls u.tree)) is.state (λ s x live.
      let reached = last m (start is.tree is.number is.limit) is.book in
      let all = sound is_valid m laws is.tree is.number is.limit is.book is.legal in
      view_valid is_valid m laws x.grants x.calls reached.tree all.valid_tree (all.each s x live).kept)

  pub commit_leads : (st u : State C) (s : ℕ) (p : Prepared) → IsReached is_valid m st → Commits m st s u → HasChangesOf m st s p
      → IsChangeList p.changes → changes_read p.body ≡ Some p.changes → p.number ≡ st.number + 1 → Leads st u p.number p.body
  commit_leads st u s p is commits changes list read next =
      let x = commits.transaction in
      let lead : LeadTo (changes_of_calls m x.calls st.tree) st.tree (view m x.calls st.tree) = reached_lead is_valid m laws st is s x commits.live in
      record {
        changes = p.changes;
        body_is = body_read p.body p.changes read list.rise;
        map = ap (λ (cs : List Change). changed cs (map_of st.tree)) (changes x commits.live) ∙ lead.map ∙ ap map_of (sym commits.tree);
        valid = subst IsValidTree (sym commits.tree) (seen_valid st is s x commits.live);
        next = next;
        counted = commits.number ∙ sym next;
      }

-- ---- what the journal holds

-- an answer is no error
apart : {A E : Type 0} (r : Result A E) (x : A) (e : E) → r ≡ Ok x → r ≡ Err e → ⊥
apart r x e ok err = cc (ok, err)

-- a journal that stands for a map is read as groups
settled_groups : (history : History) (pages : List ℕ) (contents : Contents) → contents_of_files history.now.reads pages ≡ Ok contents → read history.now.reads ≡ Ok (groups_in history)
settled_groups history pages contents holds = elim (read history.now.reads) as (λ r. read history.now.reads ≡ r → read history.now.reads ≡ Ok (groups_read r)) [
  | Ok groups ↦ λ is. is
  | Err at ↦ λ is. absurd (apart (contents_of_files history.now.reads pages) contents _ holds (by_damage pages history.now.reads at is))
] refl

module _ {C : Type 0} where
  -- with the commit it stands for the state after it
  commit_holds : (st u : State C) (number : ℕ) (body pages : List ℕ) (history : History) (image : List ℕ) → Leads st u number body → (groups_in history).images ≡ None → HoldsAll st pages history
      → read image ≡ Ok (with_commit (groups_in history) (commit number body)) → HoldState u image pages
  commit_holds st u number body pages history image leads none settled after =
      let group : Group = commit number body in
      let changes_are : changed group.changes (map_of st.tree) ≡ map_of u.tree = ap (λ (o : Option (List Change)). changed (unwrap_or o []) (map_of st.tree)) leads.body_is ∙ leads.map in
      one_more history.now.reads image pages (groups_in history) group (record { entries = map_of st.tree; number = st.number }) (settled_groups history pages _ settled.holds) none after settled.holds leads.next
      (ap broken_at changes_are ∙ unbroken u.tree leads.valid)
      ∙ (λ i. Ok (record { entries = changes_are i; number = sym leads.counted i }))

  -- before it or after it
  commit_either : (st u : State C) (number : ℕ) (body pages : List ℕ) (history : History) → Leads st u number body → (groups_in history).images ≡ None → HoldsAll st pages history
      → (image : List ℕ) → IsBeforeOrAfter (groups_in history) (commit number body) image → HoldsEither st u pages image
  commit_either st u number body pages history leads none settled image (inl before) = inl (same_groups history.now.reads image pages (groups_in history) (settled_groups history pages _ settled.holds) before ∙ settled.holds)
  commit_either st u number body pages history leads none settled image (inr with_it) = inr (commit_holds st u number body pages history image leads none settled with_it)

  -- so does a crash at any moment of the append
  pub commit_moments : (st u : State C) (number : ℕ) (body pages : List ℕ) (old new : History) → Leads st u number body → (groups_in old).images ≡ None → HoldsAll st pages old
      → LeavesWithOrWithout number body old new → LeavesOnly (HoldsEither st u pages) old new
  commit_moments st u number body pages old new leads none settled run =
      weaker (IsBeforeOrAfter (groups_in old) (commit number body)) (HoldsEither st u pages) old new (commit_either st u number body pages old leads none settled) run

  -- and after it the whole
  pub commit_settles : (st u : State C) (number : ℕ) (body pages : List ℕ) (old new : History) → Leads st u number body → (groups_in old).images ≡ None → HoldsAll st pages old
      → IsAllSynced new → read new.now.reads ≡ Ok (with_commit (groups_in old) (commit number body)) → HoldsAll u pages new
  commit_settles st u number body pages old new leads none settled synced after = record {
    synced = synced;
    holds = commit_holds st u number body pages old new.now.reads leads none settled after;
  }

  -- what is the same stands for the same
  pub same_holds : (st u : State C) (journal pages : List ℕ) → SameCommitted st u → HoldState st journal pages → HoldState u journal pages
  same_holds st u journal pages same holds = holds ∙ (λ i. Ok (record { entries = map_of (sym same.tree i); number = sym same.number i }))

-- ---- numbers

-- the next commit follows
pub follows : (last : Option ℕ) (number : ℕ) → last ≡ Some number → IsTrue (is_next last (number + 1))
follows last number is = ap (λ (l : Option ℕ). is_next l (number + 1)) is ∙ eq-eqb (number + 1) (number + 1) refl
