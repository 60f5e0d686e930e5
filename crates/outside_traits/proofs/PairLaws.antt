-- Runs that touch two disks, one at a time: how they are joined, and what a crash at their end leaves.
use Rattle.std.proofs.Common.{◌≡◌, inl, inr, ⊎_elim, ℕ, List, [], ◌∷◌, ◌++◌, refl, sym, ap, subst}
use Rattle.outside_traits.specs.Disks.{DiskState}
use Rattle.outside_traits.specs.CrashImages.{IsImage}
use Rattle.outside_traits.specs.Moments.{History, LeavesOnly, AllImages}
use Rattle.outside_traits.specs.DiskPairs.{Pair, PairsHave, TouchesJournal, TouchesPages, Phases, PairsLeave}
use Rattle.outside_traits.proofs.MomentLaws.{weaker}

pub none : (Q : List ℕ → List ℕ → Type 0) (d : Pair) → PairsLeave Q d d
none Q d = record { ends = []; phases = refl }

pub journal_phase : (Q : List ℕ → List ℕ → Type 0) (old new : Pair) → TouchesJournal Q old new → PairsLeave Q old new
journal_phase Q old new touches = record { ends = new ∷ []; phases = (inl touches, refl) }

pub pages_phase : (Q : List ℕ → List ℕ → Type 0) (old new : Pair) → TouchesPages Q old new → PairsLeave Q old new
pages_phase Q old new touches = record { ends = new ∷ []; phases = (inr touches, refl) }

phases-append : (Q : List ℕ → List ℕ → Type 0) (old mid new : Pair) (xs ys : List Pair) → Phases Q old xs mid → Phases Q mid ys new → Phases Q old (xs ++ ys) new
phases-append Q old mid new [] ys first second = subst (λ (d : Pair). Phases Q d ys new) first second
phases-append Q old mid new (x ∷ xs) ys first second = (first.0, phases-append Q x mid new xs ys first.1 second)

-- one run after another
pub pairs_joined : (Q : List ℕ → List ℕ → Type 0) (old mid new : Pair) → PairsLeave Q old mid → PairsLeave Q mid new → PairsLeave Q old new
pairs_joined Q old mid new first second = record { ends = first.ends ++ second.ends; phases = phases-append Q old mid new first.ends second.ends first.phases second.phases }

phases-weaker : (Q R : List ℕ → List ℕ → Type 0) → ((journal pages : List ℕ) → Q journal pages → R journal pages) → (old new : Pair) (ends : List Pair) → Phases Q old ends new → Phases R old ends new
phases-weaker Q R leads old new [] phases = phases
phases-weaker Q R leads old new (mid ∷ ends) phases = (
  ⊎_elim
      (λ (touches : TouchesJournal Q old mid). inl (record {
        leaves = weaker _ _ old.journal mid.journal (λ journal each pages is. leads journal pages (each pages is)) touches.leaves;
        still = touches.still;
      }))
      (λ (touches : TouchesPages Q old mid). inr (record {
        leaves = weaker _ _ old.pages mid.pages (λ pages each journal is. leads journal pages (each journal is)) touches.leaves;
        still = touches.still;
      }))
      phases.0,
  phases-weaker Q R leads mid new ends phases.1,
)

-- what has Q has R
pub pairs_weaker : (Q R : List ℕ → List ℕ → Type 0) → ((journal pages : List ℕ) → Q journal pages → R journal pages) → (old new : Pair) → PairsLeave Q old new → PairsLeave R old new
pairs_weaker Q R leads old new run = record { ends = run.ends; phases = phases-weaker Q R leads old new run.ends run.phases }

-- the state now is the newest: what each moment's crash leaves, a crash now leaves
now_leaves : (P : List ℕ → Type 0) (old new : History) → LeavesOnly P old new → ((image : List ℕ) → IsImage old.now image → P image) → (image : List ℕ) → IsImage new.now image → P image
now_leaves P old new run at_start image is = cases run.more run.states run.images
  where
    head : DiskState → List DiskState → DiskState
    head s [] = s
    head s (x ∷ xs) = x

    cases : (more : List DiskState) → new.now ∷ new.past ≡ more ++ (old.now ∷ old.past) → AllImages P more → P image
    cases [] same all = at_start image (subst (λ (s : DiskState). IsImage s image) (ap (head new.now) same) is)
    cases (s ∷ more) same all = all.0 image (subst (λ (x : DiskState). IsImage x image) (ap (head new.now) same) is)

journal_now : (Q : List ℕ → List ℕ → Type 0) (old new : Pair) → TouchesJournal Q old new → PairsHave Q old → PairsHave Q new
journal_now Q old new touches start journal pages of_journal of_pages =
    now_leaves _ old.journal new.journal touches.leaves (λ j is_j p is_p. start j p is_j is_p) journal of_journal pages (subst (λ (t : History). IsImage t.now pages) touches.still of_pages)

pages_now : (Q : List ℕ → List ℕ → Type 0) (old new : Pair) → TouchesPages Q old new → PairsHave Q old → PairsHave Q new
pages_now Q old new touches start journal pages of_journal of_pages =
    now_leaves _ old.pages new.pages touches.leaves (λ p is_p j is_j. start j p is_j is_p) pages of_pages journal (subst (λ (t : History). IsImage t.now journal) touches.still of_journal)

rest_now : (Q : List ℕ → List ℕ → Type 0) (old new : Pair) (ends : List Pair) → Phases Q old ends new → PairsHave Q old → PairsHave Q new
rest_now Q old new [] phases start = subst (PairsHave Q) (sym phases) start
rest_now Q old new (mid ∷ ends) phases start = rest_now Q mid new ends phases.1
    (⊎_elim (λ touches. journal_now Q old mid touches start) (λ touches. pages_now Q old mid touches start) phases.0)

-- so a crash now leaves what has Q
pub pairs_now : (Q : List ℕ → List ℕ → Type 0) (old new : Pair) → PairsLeave Q old new → PairsHave Q old → PairsHave Q new
pairs_now Q old new run start = rest_now Q old new run.ends run.phases start
