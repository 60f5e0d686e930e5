-- Commits written one by one behind a closed gate.
use Rattle.std.proofs.Common.{◌≡◌, ◌≤◌, ◌<◌, ◌+◌, ◌^◌, ℕ, List, [], ◌∷◌, ◌++◌, length, Option, Some, refl, sym, ◌∙◌, ap, subst, arith, append_assoc, length-append}
use Rattle.std.proofs.lemmas.List.{append-nil}
use Rattle.std.specs.List.{AllByRecursion}
use Rattle.outside_traits.specs.Moments.{History}
use Rattle.journal.specs.Batches.{batch_writes, commit_writes, gate_before, pairs_of}
use Rattle.journal.specs.Groups.{AreCommits, behind_gate, open_groups, word}
use Rattle.journal.specs.Steps.{DiskStep, Does, StopsIn}
use Rattle.node_records.specs.declared.pending.Pending.{Pending}
use Rattle.journal.proofs.WordLaws.{length-word}
use Rattle.outside_traits.specs.Disks.{DiskState, Synced, put_at}
use Rattle.outside_traits.specs.Moments.{TakesStep}
use Rattle.outside_traits.proofs.ImageLaws.{length-put_at}
use Rattle.journal.specs.Appends.{groups_in, last_number}
use Rattle.journal.specs.Batches.{AddsCommits, LeavesAllOrNone, batch_steps}
use Rattle.journal.specs.Groups.{commits_of}
use Rattle.journal.specs.inside.Settled.{IsSettled}
use Rattle.journal.proofs.StandLaws.{within}
use Rattle.journal.proofs.StepRuns.{does-append, stops-behind, stops-before, does-reads}
use Rattle.journal.proofs.BatchSteps.{batch-reads, behind_first_gate, batch_stopped, batch_leaves, batch_adds, batch_settled}

-- some of the commits are written, up to this place, and the rest is to come
pub record HasWritten (start at : ℕ) (all rest : List (ℕ × List ℕ)) (old new : History) : Type 0 where
  pub steps : List DiskStep
  pub whole : steps ++ batch_writes at rest ≡ batch_writes start all
  pub does : Does steps old new
  pub within : at ≤ length new.now.reads

pub written-start : (start : ℕ) (all : List (ℕ × List ℕ)) (old : History) → start ≤ length old.now.reads → HasWritten start start all all old old
written-start start all old within = record { steps = []; whole = refl; does = refl; within = within }

module _ (start at : ℕ) (all : List (ℕ × List ℕ)) (c : ℕ × List ℕ) (rest : List (ℕ × List ℕ)) (old mid : History) (written : HasWritten start at all (c ∷ rest) old mid) (new : History) where
  abbrev one : List DiskStep
  one = commit_writes at c.0 c.1 (gate_before rest)

  pub written-on : (next : ℕ) → next ≡ at + 10 + length c.1 → Does one mid new → next ≤ length new.now.reads → HasWritten start next all rest old new
  written-on next place does within = record {
    steps = written.steps ++ one;
    whole = append_assoc written.steps one (batch_writes next rest) ∙ ap (λ (n : ℕ). written.steps ++ (one ++ batch_writes n rest)) place ∙ written.whole;
    does = does-append written.steps one old mid new written.does does;
    within = within;
  }

  pub written-torn : StopsIn one mid new → StopsIn (batch_writes start all) old new
  written-torn stops =
      subst (λ (steps : List DiskStep). StopsIn steps old new) written.whole
      (stops-behind written.steps (one ++ batch_writes (at + 10 + length c.1) rest) old mid new written.does
      (stops-before one (batch_writes (at + 10 + length c.1) rest) mid new stops))

pub written-all : (start at : ℕ) (all : List (ℕ × List ℕ)) (old new : History) → HasWritten start at all [] old new → Does (batch_writes start all) old new
written-all start at all old new written =
    subst (λ (steps : List DiskStep). Does steps old new) (sym (append-nil written.steps) ∙ written.whole) written.does

pub shorts : (last : Option ℕ) (pending : List Pending) → AreCommits last (pairs_of pending) → AllByRecursion (λ p. length p.body < 2 ^ 32) pending
shorts last [] are = tt
shorts last (p ∷ pending) are = (are.0.short, shorts (Some p.number) pending are.2)

pub length-open : (c : ℕ × List ℕ) (commits : List (ℕ × List ℕ)) → length (open_groups (c ∷ commits)) ≡ 10 + length c.1 + length (open_groups commits)
length-open c commits =
    omega (arith, length-append (behind_gate c.0 c.1) (open_groups commits), length-append (word c.0) (word (length c.1) ++ c.1), length-append (word (length c.1)) c.1, length-word c.0, length-word (length c.1))

-- the same of the commits that wait
module _ (start at : ℕ) (commits rest after : List Pending) (p : Pending) (first : rest ≡ p ∷ after) (body : List ℕ) (same_body : body ≡ p.body) (gate : ℕ) (same_gate : gate ≡ gate_before (pairs_of after)) (old mid new : History) where
  pub pending-torn : HasWritten start at (pairs_of commits) (pairs_of rest) old mid → StopsIn (commit_writes at p.number body gate) mid new → StopsIn (batch_writes start (pairs_of commits)) old new
  pending-torn written stops =
      written-torn start at (pairs_of commits) (p.number, p.body) (pairs_of after) old mid (subst (λ (l : List Pending). HasWritten start at (pairs_of commits) (pairs_of l) old mid) first written) new
      (subst (λ (b : List ℕ). StopsIn (commit_writes at p.number b (gate_before (pairs_of after))) mid new) same_body (subst (λ (n : ℕ). StopsIn (commit_writes at p.number body n) mid new) same_gate stops))

  pub pending-on : (next : ℕ) → next ≡ at + 10 + length body → next ≤ length new.now.reads
      → HasWritten start at (pairs_of commits) (pairs_of rest) old mid → Does (commit_writes at p.number body gate) mid new → HasWritten start next (pairs_of commits) (pairs_of after) old new
  pending-on next place within written does =
      written-on start at (pairs_of commits) (p.number, p.body) (pairs_of after) old mid (subst (λ (l : List Pending). HasWritten start at (pairs_of commits) (pairs_of l) old mid) first written) new
      next (place ∙ ap (λ (b : List ℕ). at + 10 + length b) same_body)
      (subst (λ (b : List ℕ). Does (commit_writes at p.number b (gate_before (pairs_of after))) mid new) same_body (subst (λ (n : ℕ). Does (commit_writes at p.number body n) mid new) same_gate does))
      within

  pub pending-place : (next total : ℕ) → next ≡ at + 10 + length body → at + length (open_groups (pairs_of rest)) ≡ total → next + length (open_groups (pairs_of after)) ≡ total
  pending-place next total place so_far =
      omega (arith, place, so_far, ap (λ (b : List ℕ). length b) same_body, ap (λ (l : List Pending). length (open_groups (pairs_of l))) first, length-open (p.number, p.body) (pairs_of after))

-- from a settled journal on
module _ (t : History) (at : ℕ) (last : Option ℕ) (settled : IsSettled t at last) where
  pub gate_ready : (all : List (ℕ × List ℕ)) (u v : History) → Does (batch_writes (at + 1) all) t u → TakesStep Synced u v → at ≤ length v.now.reads
  gate_ready all u v wrote kept =
      let long : at + 1 ≤ length t.now.reads = within t.now.reads at (groups_in t).commits settled.stands in
      let reads : v.now.reads ≡ put_at (at + 1) (behind_first_gate all) t.now.reads =
      ap (λ (s : DiskState). s.reads) kept.by ∙ does-reads (batch_writes (at + 1) all) t u wrote ∙ batch-reads all (at + 1) t.now.reads long in
      omega (arith, long, ap length reads, length-put_at (at + 1) (behind_first_gate all) t.now.reads long)

  pub all_stopped : (pending : List Pending) → 0 < length pending → AreCommits last (pairs_of pending) → (x : History) → StopsIn (batch_steps at (pairs_of pending)) t x → LeavesAllOrNone (pairs_of pending) t x
  all_stopped [] some are x stops = absurd (omega (arith, some))
  all_stopped (p ∷ pending) some are x stops = batch_stopped t at last settled (p.number, p.body) (pairs_of pending) are x stops

  pub all_leave : (pending : List Pending) → 0 < length pending → AreCommits last (pairs_of pending) → (x : History) → Does (batch_steps at (pairs_of pending)) t x → LeavesAllOrNone (pairs_of pending) t x
  all_leave [] some are x does = absurd (omega (arith, some))
  all_leave (p ∷ pending) some are x does = batch_leaves t at last settled (p.number, p.body) (pairs_of pending) are x does

  pub all_added : (pending : List Pending) → 0 < length pending → AreCommits last (pairs_of pending) → (x : History) → Does (batch_steps at (pairs_of pending)) t x → AddsCommits at (pairs_of pending) t x
  all_added [] some are x does = absurd (omega (arith, some))
  all_added (p ∷ pending) some are x does = batch_adds t at last settled (p.number, p.body) (pairs_of pending) are x does

  pub all_settled : (pending : List Pending) → 0 < length pending → AreCommits last (pairs_of pending) → (x : History) → Does (batch_steps at (pairs_of pending)) t x
      → (n : ℕ) → n ≡ at + length (open_groups (pairs_of pending)) → (o : Option ℕ) → o ≡ last_number last (commits_of (pairs_of pending)) → IsSettled x n o
  all_settled [] some are x does n place o is = absurd (omega (arith, some))
  all_settled (p ∷ pending) some are x does n place o is =
      subst (λ (m : Option ℕ). IsSettled x n m) (sym is) (batch_settled t at last settled (p.number, p.body) (pairs_of pending) are x does n place)
