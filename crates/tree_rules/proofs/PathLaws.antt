-- What a path has of its nodes after one goes up from its end, and down to another node.
use Rattle.std.proofs.Common.{◌≡◌, ℕ, ◌-◌, suc, Bool, true, false, not, cond, List, [], ◌∷◌, ◌++◌, length, take, Option, Some, None, inl, inr, is_eq, arith, refl, sym, ap, ◌∙◌, true≢false}
use Rattle.std.specs.Cmp.{tied_itself}
use Rattle.std.specs.Cmp.Lexicographic.{nat_list_cmp_total}
use Rattle.std.specs.List.{slice_get}
use Rattle.std.specs.Option.{option_or}
use Rattle.std.specs.Prelude.{◌⊎◌}
use Rattle.dewey_labels.specs.Labels.{Label, is_ancestor}
use Rattle.dewey_labels.specs.Sides.{is_under}
use Rattle.dewey_labels.proofs.Sides.{ancestor_under, side_itself}
use Rattle.tree_model.specs.ValidTrees.{same_label}
use Rattle.tree_model.proofs.StoredCatalogues.{same_label_is}
use Rattle.tree_rules.specs.declared.path.Room.{Room}
use Rattle.tree_rules.specs.declared.path.Step.{Step}
use Rattle.tree_rules.specs.inside.Paths.{HasGone, ends_beside, room_at, stands_beside}

-- ---- labels

pub same_itself : (l : Label) → same_label l l ≡ true
same_itself l = ap is_eq (tied_itself nat_list_cmp_total l)

not_above_itself : (l : Label) → is_ancestor l l ≡ false
not_above_itself l = ancestor_under l l ∙ ap is_under (side_itself l)

-- a label above another is another one
pub above_other : (p l : Label) → is_ancestor p l ≡ true → same_label p l ≡ false
above_other p l h = elim (same_label p l) as (λ b. same_label p l ≡ b → b ≡ false) [
  | true ↦ λ q. absurd (true≢false (sym h ∙ ap (λ (m : Label). is_ancestor m l) (same_label_is p l q) ∙ not_above_itself l))
  | false ↦ λ _. refl
] refl

-- ---- a node at the end

pub room_more : (p : Label) (ss : List Step) (s : Step) → room_at p (ss ++ s ∷ []) ≡ option_or (room_at p ss) (cond (same_label p s.label) (Some s.room) None)
room_more p [] s = refl
room_more p (t ∷ ss) s = elim (same_label p t.label) as (λ b. cond b (Some t.room) (room_at p (ss ++ s ∷ [])) ≡ option_or (cond b (Some t.room) (room_at p ss)) (cond (same_label p s.label) (Some s.room) None)) [
  | true ↦ refl
  | false ↦ room_more p ss s
]

room_other : (p : Label) (ss : List Step) (s : Step) → same_label p s.label ≡ false → room_at p (ss ++ s ∷ []) ≡ room_at p ss
room_other p ss s h = room_more p ss s ∙ ap (λ (b : Bool). option_or (room_at p ss) (cond b (Some s.room) None)) h ∙ or_none (room_at p ss)
  where
    or_none : (o : Option Room) → option_or o None ≡ o
    or_none None = refl
    or_none (Some r) = refl

room_none : (p : Label) (ss : List Step) (s : Step) → room_at p ss ≡ None → room_at p (ss ++ s ∷ []) ≡ cond (same_label p s.label) (Some s.room) None
room_none p ss s h = room_more p ss s ∙ ap (λ (o : Option Room). option_or o (cond (same_label p s.label) (Some s.room) None)) h

room_some : (p : Label) (ss : List Step) (s : Step) (r : Room) → room_at p ss ≡ Some r → room_at p (ss ++ s ∷ []) ≡ Some r
room_some p ss s r h = room_more p ss s ∙ ap (λ (o : Option Room). option_or o (cond (same_label p s.label) (Some s.room) None)) h

-- ---- the end is taken off

one_less : (s t : Step) (ss : List Step) → length (s ∷ t ∷ ss) - 1 ≡ suc (length (t ∷ ss) - 1)
one_less s t ss = omega arith

on : (l : Label) (s t : Step) (ss : List Step) → ends_beside l (s ∷ t ∷ ss) ≡ ends_beside l (t ∷ ss)
on l s t ss = ap (λ (n : ℕ). stands_beside l (slice_get (s ∷ t ∷ ss) n)) (one_less s t ss)

cut_on : (p : Label) (s t : Step) (ss : List Step) → room_at p (take (length (s ∷ t ∷ ss) - 1) (s ∷ t ∷ ss)) ≡ cond (same_label p s.label) (Some s.room) (room_at p (take (length (t ∷ ss) - 1) (t ∷ ss)))
cut_on p s t ss = ap (λ (n : ℕ). room_at p (take n (s ∷ t ∷ ss))) (one_less s t ss)

not_true : (b : Bool) → not b ≡ true → b ≡ false
not_true true h = cc
not_true false h = refl

-- what stands above the label stays
pub cut_above : (l p : Label) (ss : List Step) → ends_beside l ss ≡ true → is_ancestor p l ≡ true → room_at p (take (length ss - 1) ss) ≡ room_at p ss
cut_above l p [] h a = cc
cut_above l p (s ∷ []) h a = elim (same_label p s.label) as (λ b. same_label p s.label ≡ b → None ≡ cond b (Some s.room) None) [
  | true ↦ λ q. absurd (true≢false (sym a ∙ ap (λ (m : Label). is_ancestor m l) (same_label_is p s.label q) ∙ not_true (is_ancestor s.label l) h))
  | false ↦ λ _. refl
] refl
cut_above l p (s ∷ t ∷ ss) h a = cut_on p s t ss ∙ ap (λ (o : Option Room). cond (same_label p s.label) (Some s.room) o) (cut_above l p (t ∷ ss) (sym (on l s t ss) ∙ h) a)

-- and nothing else comes
pub cut_fewer : (p : Label) (r : Room) (ss : List Step) → room_at p (take (length ss - 1) ss) ≡ Some r → room_at p ss ≡ Some r
cut_fewer p r [] h = h
cut_fewer p r (s ∷ []) h = cc
cut_fewer p r (s ∷ t ∷ ss) h = elim (same_label p s.label) as (λ b. cond b (Some s.room) (room_at p (take (length (t ∷ ss) - 1) (t ∷ ss))) ≡ Some r → cond b (Some s.room) (room_at p (t ∷ ss)) ≡ Some r) [
  | true ↦ λ g. g
  | false ↦ λ g. cut_fewer p r (t ∷ ss) g
] (sym (cut_on p s t ss) ∙ h)

-- a path that ends beside a label has a node
pub cut_some : (l : Label) (ss : List Step) → ends_beside l ss ≡ true → (length ss ≡ 0 → ⊥)
cut_some l [] h e = cc
cut_some l (s ∷ ss) h e = omega (arith, e)

-- ---- down to another node

some_same : (a b : Room) → Some a ≡ Some b → b ≡ a
some_same a b h = cc

none_then : (p l : Label) (room r : Room) → cond (same_label p l) (Some room) None ≡ Some r → (p ≡ l) × (r ≡ room)
none_then p l room r h = elim (same_label p l) as (λ b. same_label p l ≡ b → cond b (Some room) None ≡ Some r → (p ≡ l) × (r ≡ room)) [
  | true ↦ λ q g. (same_label_is p l q, some_same room r g)
  | false ↦ λ _ g. cc
] refl h

pub has_gone : (l : Label) (s : Step) (old mid new : List Step) → s.label ≡ l → new ≡ mid ++ s ∷ []
    → ((p : Label) → is_ancestor p l ≡ true → room_at p mid ≡ room_at p old) → ((p : Label) (r : Room) → room_at p mid ≡ Some r → room_at p old ≡ Some r) → HasGone l s.room old new
has_gone l s old mid new labelled is above fewer = record {
  above = λ p a. ap (room_at p) is ∙ room_other p mid s (ap (same_label p) labelled ∙ above_other p l a) ∙ above p a;
  here = λ h. ap (room_at l) is ∙ room_none l mid s (none_before h) ∙ ap (λ (b : Bool). cond b (Some s.room) None) (ap (same_label l) labelled ∙ same_itself l);
  fewer = λ p r h. by_mid p r (ap (room_at p) (sym is) ∙ h);
}
  where
    none_before : room_at l old ≡ None → room_at l mid ≡ None
    none_before h = elim (room_at l mid) as (λ (o : Option Room). room_at l mid ≡ o → o ≡ None) [
      | None ↦ λ _. refl
      | Some r ↦ λ q. sym (fewer l r q) ∙ h
    ] refl

    by_mid : (p : Label) (r : Room) → room_at p (mid ++ s ∷ []) ≡ Some r → (room_at p old ≡ Some r) ⊎ ((p ≡ l) × (r ≡ s.room))
    by_mid p r h = elim (room_at p mid) as (λ (o : Option Room). room_at p mid ≡ o → (room_at p old ≡ Some r) ⊎ ((p ≡ l) × (r ≡ s.room))) [
      | None ↦ λ q. let found = none_then p s.label s.room r (sym (room_none p mid s q) ∙ h) in inr (found.0 ∙ labelled, found.1)
      | Some t ↦ λ q. inl (fewer p t q ∙ sym (room_some p mid s t q) ∙ h)
    ] refl
