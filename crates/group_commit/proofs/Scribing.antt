-- What stands behind the journal's turn before and after a batch.
use Rattle.std.proofs.Common.{◌≡◌, ℕ, zero, suc, ◌+◌, ◌-◌, ◌<◌, ◌≤◌, ◌^◌, Bool, true, false, List, [], ◌∷◌, ◌++◌, length, Option, Some, None, Ok, Err, IsTrue, refl, sym, ap, ◌∙◌, subst, arith}
use Rattle.std.specs.Prelude.{IfSome, is_some, map, if◌then◌else◌}
use Rattle.std.proofs.lemmas.List.{append-nil, length-append}
use Rattle.node_records.specs.Pending.{FollowOn}
use Rattle.node_records.specs.declared.pending.Pending.{Pending}
use Rattle.tree_model.specs.Entries.{Entries}
use Rattle.tree_model.specs.Tree.{Tree}
use Rattle.node_seq.specs.Trees.{StandsFor}
use Rattle.call_contract.specs.Books.{Book}
use Rattle.call_contract.specs.Sessions.{commits_in}
use Rattle.call_contract.specs.Calls.{CallMeaning}
use Rattle.outside_traits.specs.CrashImages.{IsImage}
use Rattle.outside_traits.specs.Faults.{FaultCounted}
use Rattle.outside_traits.specs.Moments.{IsAllSynced, IsImageSince}
use Rattle.outside_traits.proofs.MomentLaws.{leaves_all}
use Rattle.journal.specs.Appends.{groups_in, last_number}
use Rattle.journal.specs.Batches.{AddsCommits, LeavesAllOrNone, pairs_of}
use Rattle.journal.specs.Journals.{read}
use Rattle.journal.specs.Groups.{AreCommits, commits_of, is_next}
use Rattle.journal.proofs.PendingLaws.{are_commits}
use Rattle.journal.specs.Views.{JournalView, TakesGroups}
use Rattle.shared_store.specs.Bodies.{bodies_of, HaveLastBodies}
use Rattle.shared_store.specs.Lists.{book_of, drained_in, is_opened, opening_in, OpensFrom}
use Rattle.shared_store.proofs.Done.{book_append}
use Rattle.shared_store.specs.Sessions.{having_seen, SessionView}
use Rattle.shared_store.specs.declared.desk.Entry.{Entry}
use Rattle.shared_store.specs.declared.errors.StoreError.{StoreError}
use Rattle.shared_store.specs.declared.errors.StoreError.TheVariants.{DiskFault, Halted, NoMemory, Session}
use Rattle.group_commit.specs.Marks.{durable_in, durables, failure_in, failures, last_commit, opening_in as opening_mark}
use Rattle.group_commit.specs.Members.{AreReached, IsAnswered, IsMadeDurable, Marks}
use Rattle.group_commit.specs.Written.{HoldsFirst, LeavesWritten}
use Rattle.group_commit.specs.declared.mark.Failed.{Failed}
use Rattle.group_commit.specs.declared.mark.Mark.TheVariants as mark
use Rattle.group_commit.specs.inside.Scribes.{began_after, GoesOnWithout, IsCounted, IsDrainer, IsGoing, IsScribe, IsSettled, marks_in, reached, scribe_of, ScribeView, StandsBy}
use Rattle.group_commit.proofs.Batches.{added, all_there, follow_append, last_of, next_of, none_first, none_there, now_of, pairs_length, since, start_within, within}
use Rattle.group_commit.proofs.Gathered.{IsGathered}
use Rattle.group_commit.proofs.Lists.{last_on, opened_on, opening_on, without_on}
use Rattle.group_commit.proofs.Bodied.{batch_behind}
use Rattle.group_commit.proofs.MarkLaws.{are_durable, durable_told, durables_length, durables_more, failure_told, unfailed_first}

-- a usable journal that holds no images
pub settled_at : (j : JournalView) → IsAllSynced j.history → read j.history.now.reads ≡ Ok (groups_in j.history) → (groups_in j.history).images ≡ None → IsSettled j
settled_at j synced reads none = record { synced = synced; commits = reads ∙ ap Ok (λ i. record { commits = (groups_in j.history).commits; images = none i }) }

reached_some : (after n : ℕ) → 0 < n → reached after n ≡ after + n
reached_some after zero l = absurd (omega arith)
reached_some after (suc n) l = refl

reached_covers : (after n number : ℕ) → number ≤ after + n → number - after ≤ reached after n - after
reached_covers after zero number l = omega (arith, l)
reached_covers after (suc n) number l = omega (arith, l)

module _ {C B : Type 0} where
  -- with these parts
  abbrev pub with_parts : ScribeView C B → JournalView → SessionView C B → ℕ → ℕ → Option Failed → ScribeView C B
  with_parts v j d n k f = scribe_of j d v.session v.opening n k f

  -- ---- what its list tells

  pub told_durable : (meaning : CallMeaning C) (contents : B → Option Entries) (known : Bool) (v : ScribeView C B) → IsScribe meaning contents known v → durable_in (marks_in v) ≡ v.durable
  told_durable meaning contents known v is = durable_told (SessionView C B) JournalView (began_after v) v.written v.failure ∙ sym is.durable

  pub told_failure : (v : ScribeView C B) → failure_in (marks_in v) ≡ failure_in (failures {S = SessionView C B} {J = JournalView} v.failure)
  told_failure v = failure_told (SessionView C B) JournalView (began_after v) v.written v.failure

  -- as long as was counted
  pub marks_length : (v : ScribeView C B) → length (marks_in v) ≡ 1 + v.written + (if is_some v.failure then 1 else 0)
  marks_length v =
      let all = length-append (durables {S = SessionView C B} {J = JournalView} (began_after v) v.written) (failures v.failure) in
      let some = durables_length (SessionView C B) JournalView (began_after v) v.written in
      let last = failed_length v.failure in
      omega (arith, all, some, last)
    where
      failed_length : (f : Option Failed) → length (failures {S = SessionView C B} {J = JournalView} f) ≡ (if is_some f then 1 else 0)
      failed_length None = refl
      failed_length (Some f) = refl

  -- ---- at first

  pub at_first : (meaning : CallMeaning C) (contents : B → Option Entries) (known : Bool) (first d : SessionView C B) (j o : JournalView) → o ≡ j → IsDrainer first d → d.seen ≡ first.seen → drained_in first.seen ≡ last_commit first.seen → TakesGroups j → IsTrue (is_next j.last (last_commit first.seen + 1))
      → (IsTrue known → IsSettled j) → IsScribe meaning contents known (scribe_of j d first o 0 0 None)
  at_first meaning contents known first d j o same drainer seen drained takes next start =
      let n = last_commit first.seen in
      let none : n + 0 ≡ n = omega arith in
      subst (λ (x : JournalView). IsScribe meaning contents known (scribe_of j d first x 0 0 None)) (sym same) (record {
        drainer = drainer;
        durable = refl;
        made = subst (λ (es : List (Entry C B)). n + 0 ≤ last_commit es) (sym seen) (omega arith);
        stands = record {
          takes = takes;
          next = subst (λ (k : ℕ). IsTrue (is_next j.last (k + 1))) (sym none) next;
          last = ap last_commit seen ∙ sym none;
          drained = ap drained_in seen ∙ (drained ∙ sym none);
          faults = refl;
          start = start;
          commits = [];
          numbers = tt;
          all = refl;
          bodies = λ t opens counted. ap (λ (es : List (Entry C B)). bodies_of meaning t (book_of es)) seen ∙ sym (append-nil (bodies_of meaning t (book_of first.seen)));
          since = λ is_known. record {
            now = none_first (groups_in j.history) j.history (start is_known).commits;
            leaves = record { more = []; states = refl; images = tt };
          };
        };
      })

  -- what was handed out, as a slice
  pub gathered_as : (old new : List (Entry C B)) (bodies slice : List Pending) → slice ≡ bodies → GoesOnWithout old new → FollowOn (drained_in old) bodies → drained_in old + length bodies ≡ last_commit new → drained_in new ≡ last_commit new → IsGathered old new slice
  gathered_as old new bodies slice same grown follow all drained = subst (λ (l : List Pending). IsGathered old new l) (sym same) (record { grown = grown; follow = follow; all = all; drained = drained })

  -- where no call failed all that was gathered is reached
  pub are_reached : (meaning : CallMeaning C) (contents : B → Option Entries) (known : Bool) (v : ScribeView C B) → IsScribe meaning contents known v → v.failure ≡ None → (number : ℕ) → number ≤ last_commit v.drainer.seen → AreReached (marks_in v) number
  are_reached meaning contents known v is none number covers =
      let going : IsGoing meaning contents known v = subst (StandsBy meaning contents known v) none is.stands in
      let told : durable_in (marks_in v) ≡ reached (began_after v) v.written = told_durable meaning contents known v is ∙ is.durable in
      subst (λ (k : ℕ). number - began_after v ≤ k - began_after v) (sym told) (reached_covers (began_after v) v.written number (subst (λ (k : ℕ). number ≤ k) going.last covers))

  -- ---- a batch

  module _ (meaning : CallMeaning C) (contents : B → Option Entries) (known : Bool) (v : ScribeView C B) (is : IsScribe meaning contents known v) (none : v.failure ≡ None) (d : SessionView C B) (ps : List Pending) (kept : d ≡ having_seen d.seen v.drainer) (got : IsGathered v.drainer.seen d.seen ps)
      (lasts : (t : Tree) → OpensFrom contents d.seen t → HaveLastBodies meaning t (book_of d.seen) ps) where
    pub going : IsGoing meaning contents known v
    going = subst (StandsBy meaning contents known v) none is.stands

    abbrev Began : ℕ
    Began = began_after v

    pub takes : TakesGroups v.journal
    takes = going.takes

    -- the journal takes the commits that wait
    pub may_append : AreCommits v.journal.last (pairs_of ps)
    may_append = are_commits v.journal.last (Began + v.written) ps going.next (subst (λ (k : ℕ). FollowOn k ps) going.drained got.follow)

    -- the commits that wait go on from those that were written
    pub follow : FollowOn (Began + v.written) ps
    follow = subst (λ (k : ℕ). FollowOn k ps) going.drained got.follow

    pub reach : Began + v.written + length ps ≡ last_commit d.seen
    reach = ap (λ (k : ℕ). k + length ps) (sym going.drained) ∙ got.all

    -- numbers fit
    pub last_fits : (k : ℕ) → k ≡ Began + v.written + length ps → k < 2 ^ 32 → v.written + length ps < 2 ^ 32
    last_fits k is l = omega (arith, is, l)

    drainer_stays : IsDrainer v.session d
    drainer_stays = record {
      lock = ap (λ (x : SessionView C B). x.lock) kept ∙ is.drainer.lock;
      has = ap (λ (x : SessionView C B). x.has) kept ∙ is.drainer.has;
      under = ap (λ (x : SessionView C B). x.under) kept ∙ is.drainer.under;
      opened = is.drainer.opened;
      idle = is.drainer.idle;
      grown = without_on v.session.seen v.drainer.seen d.seen is.drainer.grown got.grown;
    }

    numbers : FollowOn Began (going.commits ++ ps)
    numbers = follow_append Began going.commits ps going.numbers (subst (λ (k : ℕ). FollowOn (Began + k) ps) (sym going.all) follow)

    all_length : length (going.commits ++ ps) ≡ v.written + length ps
    all_length = length-append going.commits ps ∙ ap (λ (k : ℕ). k + length ps) going.all

    made : Began + length (going.commits ++ ps) ≤ last_commit d.seen
    made = omega (arith, all_length, reach)

    -- the bodies of all that were written, and of the batch behind them
    made_bodies : (t : Tree) → OpensFrom contents v.session.seen t → IsCounted (book_of d.seen) → bodies_of meaning t (book_of d.seen) ≡ bodies_of meaning t (book_of v.session.seen) ++ map (λ (p : Pending). p.body) (going.commits ++ ps)
    made_bodies t opens counted =
        let more = got.grown.0 in
        let book : book_of d.seen ≡ book_of v.drainer.seen ++ book_of more = ap book_of got.grown.1 ∙ book_append v.drainer.seen more in
        let before : is_opened v.drainer.seen ≡ true = ap is_opened is.drainer.grown.1 ∙ opened_on v.session.seen is.drainer.grown.0 is.drainer.opened in
        let same : opening_in d.seen ≡ opening_in v.session.seen = ap opening_in drainer_stays.grown.1 ∙ opening_on v.session.seen drainer_stays.grown.0 is.drainer.opened in
        let last = lasts t (subst (λ (o : Option B). IfSome o (λ (b : B). StandsFor (contents b) t)) (sym same) opens) in
        let grows : last_commit d.seen ≡ last_commit v.drainer.seen + commits_in (book_of more) = ap last_commit got.grown.1 ∙ last_on v.drainer.seen more before in
        let first = going.last in
        ap (bodies_of meaning t) book
        ∙ batch_behind meaning t (book_of v.session.seen) (book_of v.drainer.seen) (book_of more) going.commits ps (subst IsCounted book counted) (omega (arith, grows, first, reach))
        (subst (λ (b : Book C). HaveLastBodies meaning t b ps) book last) (going.bodies t opens)

    module _ (j : JournalView) (run : IsTrue known → LeavesAllOrNone (pairs_of ps) v.journal.history j.history) (synced : IsTrue known → IsAllSynced v.journal.history) where
      least : length going.commits ≡ v.written
      least = going.all

      -- within the call
      pub call_leaves_written : IsTrue known → LeavesWritten v.opening Began v.written (last_commit d.seen) v.journal.history j.history
      call_leaves_written is_known = record {
        commits = going.commits ++ ps;
        numbers = numbers;
        made = made;
        moments = subst (λ (k : ℕ). (image : List ℕ) → IsImageSince v.journal.history j.history image → HoldsFirst v.opening (going.commits ++ ps) k image) least
            (leaves_all (HoldsFirst v.opening (going.commits ++ ps) (length going.commits)) v.journal.history j.history
            (within (groups_in v.opening.history) going.commits ps v.opening.history v.journal.history j.history (going.since is_known) (run is_known))
            (start_within (groups_in v.opening.history) going.commits ps v.opening.history v.journal.history j.history (going.since is_known) (run is_known) (synced is_known)));
      }

      first_image : IsTrue known → (image : List ℕ) → IsImage v.opening.history.now image → HoldsFirst v.opening (going.commits ++ ps) 0 image
      first_image is_known = none_there (groups_in v.opening.history) (pairs_of (going.commits ++ ps)) v.opening.history (going.start is_known).synced (going.start is_known).commits

      -- the batch was written
      pub written : TakesGroups j → j.last ≡ last_number v.journal.last (commits_of (pairs_of ps)) → j.faults ≡ v.journal.faults → (IsTrue known → AddsCommits v.journal.gate (pairs_of ps) v.journal.history j.history) → 0 < length ps
          → (k : ℕ) → k ≡ Began + v.written + length ps → IsScribe meaning contents known (with_parts v j d (v.written + length ps) k None)
      written takes last later adds some k is_last =
          let sum : Began + v.written + length ps ≡ Began + (v.written + length ps) = omega arith in
          record {
            drainer = drainer_stays;
            durable = is_last ∙ (sum ∙ sym (reached_some Began (v.written + length ps) (omega (arith, some))));
            made = omega (arith, reach);
            stands = record {
              takes = takes;
              next = next_of j.last (Began + (v.written + length ps)) (last ∙ (last_of v.journal.last (Began + v.written) ps follow some ∙ ap Some sum));
              last = sym reach ∙ sum;
              drained = got.drained ∙ (sym reach ∙ sum);
              faults = later ∙ going.faults;
              start = going.start;
              commits = going.commits ++ ps;
              numbers = numbers;
              all = all_length;
              bodies = made_bodies;
              since = λ is_known. added (groups_in v.opening.history) going.commits ps v.opening.history v.journal.history j.history (going.since is_known) (run is_known) v.journal.gate (adds is_known);
            };
          }

      -- it failed
      pub halted : (by faults : ℕ) → by < 65 → FaultCounted v.journal.faults j.faults → faults ≡ j.faults → (IsTrue known → IsImage j.history.now j.history.now.reads) → j.failed ≡ true
          → IsScribe meaning contents known (with_parts v j d v.written v.durable (Some (record { by = by; faults = faults })))
      halted by faults small rose is_now reads unusable =
          let now : IsTrue known → (image : List ℕ) → IsImage j.history.now image → HoldsFirst v.opening (going.commits ++ ps) v.written image =
          λ is_known image at. subst (λ (k : ℕ). HoldsFirst v.opening (going.commits ++ ps) k image) least
          (now_of (groups_in v.opening.history) (HoldsFirst v.opening (going.commits ++ ps) (length going.commits)) v.journal.history j.history
          (within (groups_in v.opening.history) going.commits ps v.opening.history v.journal.history j.history (going.since is_known) (run is_known))
          (start_within (groups_in v.opening.history) going.commits ps v.opening.history v.journal.history j.history (going.since is_known) (run is_known) (synced is_known)) image at) in
          record {
            drainer = drainer_stays;
            durable = is.durable;
            made = omega (arith, reach);
            stands = record {
              by = small;
              above = subst (λ (f : ℕ × ℕ). FaultCounted f.0 f.1) (λ i. (going.faults i, sym is_now i)) rose;
              below = subst (λ (k : ℕ). k ≤ j.faults) (sym is_now) (omega arith);
              unusable = unusable;
              holds = record {
                commits = going.commits ++ ps;
                numbers = numbers;
                made = made;
                since = λ is_known. let leaves = since (groups_in v.opening.history) going.commits ps v.opening.history v.journal.history j.history (going.since is_known) (run is_known) in record { more = leaves.more; states = leaves.states };
                moments = λ is_known. leaves_all (HoldsFirst v.opening (going.commits ++ ps) 0) v.opening.history j.history
                    (since (groups_in v.opening.history) going.commits ps v.opening.history v.journal.history j.history (going.since is_known) (run is_known)) (first_image is_known);
                now = now;
                read = λ is_known. now is_known j.history.now.reads (reads is_known);
              };
              bodies = made_bodies;
            };
          }

    -- none waited
    pub none_waited : ps ≡ [] → IsScribe meaning contents known (with_parts v v.journal d v.written v.durable None)
    none_waited empty =
        let long : length ps ≡ 0 = ap length empty in
        let same : last_commit d.seen ≡ Began + v.written = omega (arith, reach, long) in
        record {
          drainer = drainer_stays;
          durable = is.durable;
          made = omega (arith, same);
          stands = record {
            takes = going.takes;
            next = going.next;
            last = same;
            drained = got.drained ∙ same;
            faults = going.faults;
            start = going.start;
            commits = going.commits;
            numbers = going.numbers;
            all = going.all;
            bodies = λ t opens counted. made_bodies t opens counted ∙ ap (λ (l : List Pending). bodies_of meaning t (book_of v.session.seen) ++ map (λ (p : Pending). p.body) l) (ap (λ (l : List Pending). going.commits ++ l) empty ∙ append-nil going.commits);
            since = going.since;
          };
        }

    -- ---- answers

    -- all that wait were written
    pub made_ok : (j : JournalView) (under number k : ℕ) → number ≤ last_commit d.seen → IsScribe meaning contents known (with_parts v j d (v.written + length ps) k None)
        → IsMadeDurable (marks_in v) under number (Ok tt) (marks_in (with_parts v j d (v.written + length ps) k None))
    made_ok j under number k covers new =
        let after = with_parts v j d (v.written + length ps) k None in (
          are_reached meaning contents known after new refl number covers,
          told_failure after,
          durables (Began + v.written) (length ps),
          longer_list,
          are_durable (SessionView C B) JournalView (Began + v.written) (length ps),
        )
      where
        longer_list : marks_in (with_parts v j d (v.written + length ps) k None) ≡ marks_in v ++ durables (Began + v.written) (length ps)
        longer_list =
            ap (λ (l : Marks C B). mark.Opening v.session v.opening ∷ l)
            (append-nil (durables Began (v.written + length ps))
            ∙ (durables_more (SessionView C B) JournalView Began v.written (length ps)
            ∙ ap (λ (l : Marks C B). l ++ durables (Began + v.written) (length ps)) (sym (ap (λ (f : Option Failed). durables Began v.written ++ failures f) none ∙ append-nil (durables Began v.written)))))

    -- none waited
    pub made_already : (under number : ℕ) → number ≤ last_commit d.seen → ps ≡ [] → IsMadeDurable (marks_in v) under number (Ok tt) (marks_in v)
    made_already under number covers empty =
        let after = with_parts v v.journal d v.written v.durable None in
        let same : marks_in after ≡ marks_in v = ap (λ (f : Option Failed). mark.Opening v.session v.opening ∷ (durables Began v.written ++ failures f)) (sym none) in (
          subst (λ (l : Marks C B). AreReached l number) same (are_reached meaning contents known after (none_waited empty) refl number covers),
          told_failure v ∙ ap (λ (f : Option Failed). failure_in (failures {S = SessionView C B} {J = JournalView} f)) none,
          [],
          sym (append-nil (marks_in v)),
          tt,
        )

    pub made_err : (j : JournalView) (under number faults : ℕ) → FaultCounted v.opening.faults faults
        → IsMadeDurable (marks_in v) under number (Err DiskFault) (marks_in (with_parts v j d v.written v.durable (Some (record { by = under; faults = faults }))))
    made_err j under number faults above = (
      told_failure v ∙ ap (λ (f : Option Failed). failure_in (failures {S = SessionView C B} {J = JournalView} f)) none,
      faults,
      ap (λ (l : Marks C B). mark.Opening v.session v.opening ∷ (l ++ mark.Failure under faults ∷ [])) (sym (ap (λ (f : Option Failed). durables Began v.written ++ failures f) none ∙ append-nil (durables Began v.written))),
      above,
    )

  -- a call had failed before
  pub made_halted : (v : ScribeView C B) (under number : ℕ) (failed : Failed) → v.failure ≡ Some failed → IsMadeDurable (marks_in v) under number (Err (Halted failed.faults)) (marks_in v)
  made_halted v under number failed f = (told_failure v ∙ ap (λ (x : Option Failed). failure_in (failures {S = SessionView C B} {J = JournalView} x)) f, refl)

  -- it was durable already
  pub answered_at_once : (meaning : CallMeaning C) (contents : B → Option Entries) (known : Bool) (v : ScribeView C B) → IsScribe meaning contents known v → (under number : ℕ) → number ≤ v.durable → IsAnswered (marks_in v) under number (Ok number) (marks_in v)
  answered_at_once meaning contents known v is under number l =
      let told = told_durable meaning contents known v is in
      let has : number ≤ durable_in (marks_in v) = subst (λ (m : ℕ). number ≤ m) (sym told) l in
      (refl, has, (λ less. absurd (omega (arith, less, has))), [], sym (append-nil (marks_in v)), tt)

  -- all that are visible are durable, so this commit is
  pub answered_ok : (v : ScribeView C B) (under number : ℕ) (x : Unit {0}) (after : Marks C B) → began_after v < number → IsMadeDurable (marks_in v) under number (Ok x) after → IsAnswered (marks_in v) under number (Ok number) after
  answered_ok v under number x after new (reached, none, added, list, durable) =
      let all : number - began_after v ≤ durable_in after - began_after v = subst (λ (o : Option (SessionView C B × JournalView)). IfSome o (λ (x : SessionView C B × JournalView). number - last_commit x.0.seen ≤ durable_in after - last_commit x.0.seen)) (ap opening_mark list) reached in
      (refl, omega (arith, all, new), (λ less. unfailed_first (marks_in v) added (ap failure_in (sym list) ∙ none)), added, list, durable)

  -- a commit that wasn't durable is refused as all are
  pub answered_err : (meaning : CallMeaning C) (contents : B → Option Entries) (known : Bool) (v : ScribeView C B) → IsScribe meaning contents known v → (under number : ℕ) (e : StoreError) (after : Marks C B) → v.durable < number
      → IsMadeDurable (marks_in v) under number (Err e) after → IsAnswered (marks_in v) under number (Err e) after
  answered_err meaning contents known v is under number e after later = go e
    where
      less : durable_in (marks_in v) < number
      less = subst (λ (m : ℕ). m < number) (sym (told_durable meaning contents known v is)) later

      go : (e : StoreError) → IsMadeDurable (marks_in v) under number (Err e) after → IsAnswered (marks_in v) under number (Err e) after
      go DiskFault (none, faults, list, above) = (less, none, faults, list, above)
      go (Halted faults) (failure, list) = (less, failure, list)
      go NoMemory made = absurd made
      go (Session why) made = absurd made

  -- no call is made: what a crash leaves is what it left before
  pub unchanged : (meaning : CallMeaning C) (contents : B → Option Entries) (known : Bool) (v : ScribeView C B) → IsScribe meaning contents known v → (IsTrue known → v.journal.failed ≡ false → IsAllSynced v.journal.history) → IsTrue known
      → LeavesWritten v.opening (began_after v) v.written (last_commit v.drainer.seen) v.journal.history v.journal.history
  unchanged meaning contents known v is synced is_known = go v.failure is.stands
    where
      once : (P : List ℕ → Type 0) → ((image : List ℕ) → IsImage v.journal.history.now image → P image) → (image : List ℕ) → IsImageSince v.journal.history v.journal.history image → P image
      once P start = leaves_all P v.journal.history v.journal.history (record { more = []; states = refl; images = tt }) start

      go : (f : Option Failed) → StandsBy meaning contents known v f → LeavesWritten v.opening (began_after v) v.written (last_commit v.drainer.seen) v.journal.history v.journal.history
      go None going =
          let count : length (pairs_of going.commits) ≡ v.written = pairs_length going.commits ∙ going.all in record {
            commits = going.commits;
            numbers = going.numbers;
            made = (let all = going.all in let made = is.made in omega (arith, all, made));
            moments = once (HoldsFirst v.opening going.commits v.written)
                (λ image at. subst (λ (k : ℕ). HoldsFirst v.opening going.commits k image) count
                (all_there (groups_in v.opening.history) (pairs_of going.commits) v.journal.history (synced is_known going.takes.unfailed) (going.since is_known).now image at));
          }
      go (Some f) halted = record {
        commits = halted.holds.commits;
        numbers = halted.holds.numbers;
        made = halted.holds.made;
        moments = once (HoldsFirst v.opening halted.holds.commits v.written) (halted.holds.now is_known);
      }
