-- Commits that wait, as they are handed out, may be appended.
use Rattle.std.proofs.Common.{◌≡◌, ℕ, ◌+◌, IsTrue, List, [], ◌∷◌, Option, Some, None, refl, sym, ◌∙◌, ap, subst}
use Rattle.std.specs.Prelude.{IsSome, option_and_then, if◌then◌else◌}
use Rattle.std.proofs.lemmas.Bool.{cond-true, eq-eqb}
use Rattle.tree_model.specs.Changes.{keys_rise}
use Rattle.tree_model.specs.declared.change.Change.{Change}
use Rattle.tree_model.proofs.ChangeLists.{test_of_rising}
use Rattle.node_records.specs.Pending.{FollowOn, IsPending}
use Rattle.node_records.specs.declared.pending.Pending.{Pending}
use Rattle.journal.specs.Batches.{pairs_of}
use Rattle.journal.specs.Bodies.{changes_in}
use Rattle.journal.specs.Groups.{AreCommits, is_next}

rising_body : (p : Pending) → (is : IsPending p) → changes_in p.body ≡ Some is.changes
unfolding changes_in
rising_body p is =
    ap (λ (o : Option (List Change)). option_and_then (λ (changes : List Change). if keys_rise changes then Some changes else None) o) is.read
    ∙ cond-true (keys_rise is.changes) _ _ (test_of_rising is.changes is.rise)

pub are_commits : (last : Option ℕ) (after : ℕ) (pending : List Pending) → IsTrue (is_next last (after + 1)) → FollowOn after pending → AreCommits last (pairs_of pending)
are_commits last after [] next follow = tt
are_commits last after (p ∷ pending) next follow = (
  record {
    next = subst (λ (n : ℕ). IsTrue (is_next last n)) (sym follow.0) next;
    is_body = subst (λ (o : Option (List Change)). IsSome o) (sym (rising_body p follow.1)) refl;
    short = follow.1.short;
  },
  follow.1.fits,
  are_commits (Some p.number) (after + 1) pending (eq-eqb (after + 1 + 1) (p.number + 1) (ap (λ (n : ℕ). n + 1) (sym follow.0))) follow.2,
)
