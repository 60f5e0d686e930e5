-- Appends one after another: what each leaves is a first part of all that were made, with those before it at least.
use Rattle.std.proofs.Common.{◌≡◌, inl, inr, ℕ, List, [], ◌∷◌, ◌++◌, length, Ok, refl, sym, ◌∙◌, ap, arith, append_assoc, length-append}
use Rattle.std.proofs.lemmas.List.{take_at, take_all, take-append-le, map-append}
use Rattle.outside_traits.specs.Moments.{History, LeavesOnly}
use Rattle.outside_traits.proofs.MomentLaws.{joined, weaker}
use Rattle.journal.specs.Groups.{commit, commits_of, only_commits}
use Rattle.journal.specs.Appends.{AddsCommit, LeavesWithOrWithout, groups_in, groups_read}
use Rattle.journal.specs.Batches.{AddsCommits, HasAddedSince, HasFirst, IsAllOrNone, LeavesAllOrNone, with_commits}
use Rattle.journal.specs.declared.group.Group.{Group}
use Rattle.journal.specs.declared.group.Groups.{Groups}

module _ (groups : Groups) (commits more : List (ℕ × List ℕ)) where
  both : with_commits (with_commits groups (commits_of commits)) (commits_of more) ≡ with_commits groups (commits_of (commits ++ more))
  both = ap only_commits (append_assoc groups.commits (commits_of commits) (commits_of more) ∙ ap (λ (l : List Group). groups.commits ++ l) (sym (map-append (λ (c : ℕ × List ℕ). commit c.0 c.1) commits more)))

  first-more : (least : ℕ) (bytes : List ℕ) → HasFirst groups commits least bytes → HasFirst groups (commits ++ more) least bytes
  first-more least bytes has = record {
    count = has.count;
    enough = has.enough;
    some = omega (arith, has.some, length-append commits more);
    reads = has.reads ∙ ap (λ (l : List (ℕ × List ℕ)). Ok (with_commits groups (commits_of l))) (sym (take-append-le has.count commits more has.some));
  }

  either-first : (found : Groups) → found ≡ with_commits groups (commits_of commits) → (bytes : List ℕ) → IsAllOrNone found (commits_of more) bytes → HasFirst groups (commits ++ more) (length commits) bytes
  either-first found is bytes (inl none) = record {
    count = length commits;
    enough = omega arith;
    some = omega (arith, length-append commits more);
    reads = none ∙ ap Ok is ∙ ap (λ (l : List (ℕ × List ℕ)). Ok (with_commits groups (commits_of l))) (sym (take_at commits more (length commits) refl));
  }
  either-first found is bytes (inr all) = record {
    count = length (commits ++ more);
    enough = omega (arith, length-append commits more);
    some = omega arith;
    reads = all ∙ ap (λ (g : Groups). Ok (with_commits g (commits_of more))) is ∙ ap Ok both ∙ ap (λ (l : List (ℕ × List ℕ)). Ok (with_commits groups (commits_of l))) (sym (take_all (length (commits ++ more)) (commits ++ more) (omega arith)));
  }

  module _ (old mid new : History) (before : HasAddedSince groups commits old mid) where
    found_now : groups_in mid ≡ with_commits groups (commits_of commits)
    found_now = ap groups_read before.now

    -- within the next call a crash leaves all that were there before it
    pub call_leaves : LeavesAllOrNone more mid new → LeavesOnly (HasFirst groups (commits ++ more) (length commits)) mid new
    call_leaves run = weaker _ _ mid new (either-first (groups_in mid) found_now) run

    -- and since the first of them some first part
    pub all_leave : LeavesAllOrNone more mid new → LeavesOnly (HasFirst groups (commits ++ more) 0) old new
    all_leave run = joined _ old mid new (weaker _ _ old mid (first-more 0) before.leaves)
        (weaker _ _ mid new (λ bytes has. record { count = has.count; enough = omega arith; some = has.some; reads = has.reads }) (call_leaves run))

    -- it was done
    pub added_since : (gate : ℕ) → AddsCommits gate more mid new → LeavesAllOrNone more mid new → HasAddedSince groups (commits ++ more) old new
    added_since gate adds run = record {
      now = adds.groups ∙ ap (λ (g : Groups). Ok (with_commits g (commits_of more))) found_now ∙ ap Ok both;
      leaves = all_leave run;
    }

-- an append of one commit is a batch of one
pub one_is_a_batch : (number : ℕ) (body : List ℕ) (old new : History) → LeavesWithOrWithout number body old new → LeavesAllOrNone ((number, body) ∷ []) old new
one_is_a_batch number body old new run = run

pub one_adds : (gate number : ℕ) (body : List ℕ) (old mid new : History) (groups : Groups) (commits : List (ℕ × List ℕ)) → HasAddedSince groups commits old mid
    → AddsCommit gate number body mid new → LeavesWithOrWithout number body mid new → HasAddedSince groups (commits ++ (number, body) ∷ []) old new
one_adds gate number body old mid new groups commits before adds run = record {
  now = adds.groups ∙ ap (λ (g : Groups). Ok (with_commits g (commits_of ((number, body) ∷ [])))) (found_now groups commits ((number, body) ∷ []) old mid new before) ∙ ap Ok (both groups commits ((number, body) ∷ []));
  leaves = all_leave groups commits ((number, body) ∷ []) old mid new before run;
}
