-- Commits that are written one batch after another, and what a crash leaves of them.
use Rattle.std.proofs.Common.{◌≡◌, ℕ, ◌+◌, ◌-◌, ◌<◌, ◌≤◌, List, [], ◌∷◌, ◌++◌, zero, suc, length, take, Option, Some, None, Ok, IsTrue, refl, sym, ap, ◌∙◌, subst, arith}
use Rattle.std.specs.Prelude.{slice_get}
use Rattle.std.proofs.lemmas.Bool.{eq-eqb}
use Rattle.std.proofs.lemmas.List.{append-nil, length-append, length-map, map-append, take-append-le, take_all}
use Rattle.node_records.specs.Pending.{FollowOn}
use Rattle.node_records.specs.declared.pending.Pending.{Pending}
use Rattle.outside_traits.specs.CrashImages.{IsImage}
use Rattle.outside_traits.specs.Disks.{DiskState}
use Rattle.outside_traits.specs.Moments.{AllImages, History, IsAllSynced, LeavesOnly}
use Rattle.outside_traits.proofs.ImageLaws.{image-all_synced}
use Rattle.journal.specs.Appends.{last_number}
use Rattle.journal.specs.Batches.{AddsCommits, HasAddedSince, HasFirst, LeavesAllOrNone, pairs_of, with_commits}
use Rattle.journal.specs.Groups.{commits_of, is_next, only_commits}
use Rattle.journal.specs.Journals.{read}
use Rattle.journal.specs.declared.group.Groups.{Groups}
use Rattle.journal.proofs.BatchRuns.{added_since, all_leave, call_leaves}

pub pairs_append : (a b : List Pending) → pairs_of (a ++ b) ≡ pairs_of a ++ pairs_of b
pairs_append a b = map-append (λ (p : Pending). (p.number, p.body)) a b

pub pairs_length : (a : List Pending) → length (pairs_of a) ≡ length a
pairs_length a = length-map a (λ (p : Pending). (p.number, p.body))

pub follow_append : (n : ℕ) (a b : List Pending) → FollowOn n a → FollowOn (n + length a) b → FollowOn n (a ++ b)
follow_append n [] b f g = let e : n + 0 ≡ n = omega arith in subst (λ (k : ℕ). FollowOn k b) e g
follow_append n (p ∷ a) b f g = let e : n + suc (length a) ≡ n + 1 + length a = omega arith in (f.0, f.1, follow_append (n + 1) a b f.2 (subst (λ (k : ℕ). FollowOn k b) e g))

-- the last one's number
pub last_of : (last : Option ℕ) (n : ℕ) (ps : List Pending) → FollowOn n ps → 0 < length ps → last_number last (commits_of (pairs_of ps)) ≡ Some (n + length ps)
last_of last n [] f l = absurd (omega arith)
last_of last n (p ∷ []) f l = ap Some f.0
last_of last n (p ∷ q ∷ ps) f l = let e : n + 1 + suc (length ps) ≡ n + suc (suc (length ps)) = omega arith in last_of (Some p.number) (n + 1) (q ∷ ps) f.2 (omega arith) ∙ ap Some e

-- the one at a place, and the last one
at_follows : (n : ℕ) (ps : List Pending) (k : ℕ) (p : Pending) → FollowOn n ps → slice_get ps k ≡ Some p → p.number ≡ n + suc k
at_follows n [] k p f e = cc
at_follows n (q ∷ ps) zero p f e = let same : q ≡ p = some_one q p e in let one : n + 1 ≡ n + suc zero = omega arith in ap (λ (x : Pending). x.number) (sym same) ∙ (f.0 ∙ one)
  where
    some_one : (x y : Pending) → Some x ≡ Some y → x ≡ y
    some_one x y e = ap (λ (o : Option Pending). or_this o) e
      where
        or_this : Option Pending → Pending
        or_this None = x
        or_this (Some z) = z
at_follows n (q ∷ ps) (suc k) p f e = let sum : n + 1 + suc k ≡ n + suc (suc k) = omega arith in at_follows (n + 1) ps k p f.2 e ∙ sum

pub last_follows : (n : ℕ) (ps : List Pending) (p : Pending) → 0 < length ps → Some p ≡ slice_get ps (length ps - 1) → FollowOn n ps → p.number ≡ n + length ps
last_follows n ps p some is f = let sum : n + suc (length ps - 1) ≡ n + length ps = omega (arith, some) in at_follows n ps (length ps - 1) p f (sym is) ∙ sum

pub next_of : (o : Option ℕ) (n : ℕ) → o ≡ Some n → IsTrue (is_next o (n + 1))
next_of o n is = subst (λ (x : Option ℕ). IsTrue (is_next x (n + 1))) (sym is) (eq-eqb (n + 1) (n + 1) refl)

none_more : (groups : Groups) (bytes : List ℕ) (k : ℕ) → k ≤ 0 → read bytes ≡ Ok (with_commits groups (commits_of (take k []))) → read bytes ≡ Ok (with_commits groups (commits_of []))
none_more groups bytes zero l e = e
none_more groups bytes (suc k) l e = absurd (omega arith)

module _ (groups : Groups) where
  -- where all is synced a crash leaves what a read gives
  pub all_there : (commits : List (ℕ × List ℕ)) (t : History) → IsAllSynced t → read t.now.reads ≡ Ok (with_commits groups (commits_of commits)) → (image : List ℕ) → IsImage t.now image
      → HasFirst groups commits (length commits) image
  all_there commits t synced reads image is =
      let same : image ≡ t.now.reads = image-all_synced t.now.reads image (subst (λ (s : DiskState). IsImage s image) synced is) in
      record {
        count = length commits;
        enough = omega arith;
        some = omega arith;
        reads = ap read same ∙ (reads ∙ ap (λ (l : List (ℕ × List ℕ)). Ok (with_commits groups (commits_of l))) (sym (take_all (length commits) commits (omega arith))));
      }

  pub fewer : (commits : List (ℕ × List ℕ)) (least less : ℕ) → less ≤ least → (bytes : List ℕ) → HasFirst groups commits least bytes → HasFirst groups commits less bytes
  fewer commits least less l bytes h = record { count = h.count; enough = omega (arith, l, h.enough); some = h.some; reads = h.reads }

  pub none_first : (t : History) → read t.now.reads ≡ Ok (only_commits groups.commits) → read t.now.reads ≡ Ok (with_commits groups (commits_of []))
  none_first t reads = reads ∙ ap (λ l. Ok (only_commits l)) (sym (append-nil groups.commits))

  -- where all is synced and nothing was written yet a crash leaves these groups, and none of the commits that are to come
  pub none_there : (commits : List (ℕ × List ℕ)) (t : History) → IsAllSynced t → read t.now.reads ≡ Ok (only_commits groups.commits) → (image : List ℕ) → IsImage t.now image → HasFirst groups commits 0 image
  none_there commits t synced reads image is =
      let found = all_there [] t synced (none_first t reads) image is in
      record { count = 0; enough = omega arith; some = omega arith; reads = none_more groups image found.count found.some found.reads }

  -- at the last moment, by each moment since an earlier one
  pub now_of : (P : List ℕ → Type 0) (old new : History) → LeavesOnly P old new → ((image : List ℕ) → IsImage old.now image → P image) → (image : List ℕ) → IsImage new.now image → P image
  now_of P old new run start image is = go run.more run.states run.images
    where
      head : DiskState → List DiskState → DiskState
      head d [] = d
      head d (s ∷ l) = s

      go : (more : List DiskState) → new.now ∷ new.past ≡ more ++ (old.now ∷ old.past) → AllImages P more → P image
      go [] states all = start image (subst (λ (s : DiskState). IsImage s image) (ap (head new.now) states) is)
      go (s ∷ more) states all = all.0 image (subst (λ (s : DiskState). IsImage s image) (ap (head new.now) states) is)

  -- ---- one batch more

  module _ (commits more : List Pending) (old mid new : History) (before : HasAddedSince groups (pairs_of commits) old mid) (run : LeavesAllOrNone (pairs_of more) mid new) where
    abbrev pub All : List (ℕ × List ℕ)
    All = pairs_of (commits ++ more)

    together : pairs_of commits ++ pairs_of more ≡ All
    together = sym (pairs_append commits more)

    enough : length (pairs_of commits) ≡ length commits
    enough = pairs_length commits

    pub within : LeavesOnly (HasFirst groups All (length commits)) mid new
    within = subst (λ (x : List (ℕ × List ℕ) × ℕ). LeavesOnly (HasFirst groups x.0 x.1) mid new) (λ i. (together i, enough i)) (call_leaves groups (pairs_of commits) (pairs_of more) old mid new before run)

    pub since : LeavesOnly (HasFirst groups All 0) old new
    since = subst (λ (x : List (ℕ × List ℕ)). LeavesOnly (HasFirst groups x 0) old new) together (all_leave groups (pairs_of commits) (pairs_of more) old mid new before run)

    pub added : (gate : ℕ) → AddsCommits gate (pairs_of more) mid new → HasAddedSince groups All old new
    added gate adds = subst (λ (x : List (ℕ × List ℕ)). HasAddedSince groups x old new) together (added_since groups (pairs_of commits) (pairs_of more) old mid new before gate adds run)

    -- where all was synced at its start a crash leaves what was there at least
    pub start_within : IsAllSynced mid → (image : List ℕ) → IsImage mid.now image → HasFirst groups All (length commits) image
    start_within synced image is =
        let all = all_there (pairs_of commits) mid synced before.now image is in
        record {
          count = all.count;
          enough = omega (arith, all.enough, enough);
          some = omega (arith, all.some, ap length together, length-append (pairs_of commits) (pairs_of more));
          reads = all.reads ∙ ap (λ (l : List (ℕ × List ℕ)). Ok (with_commits groups (commits_of l))) (sym (ap (take all.count) (sym together) ∙ take_first all.count all.some));
        }
      where
        take_first : (k : ℕ) → k ≤ length (pairs_of commits) → take k (pairs_of commits ++ pairs_of more) ≡ take k (pairs_of commits)
        take_first k l = take-append-le k (pairs_of commits) (pairs_of more) l
