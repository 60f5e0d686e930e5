-- `normalize` on two trees that agree on what it asks for: it goes the same way on both.
use Rattle.std.specs.List.{AllByRecursion}
use Rattle.std.proofs.Common.{◌≡◌, Bool, true, not, if◌then◌else◌, List, [], ◌++◌, map, refl, sym, ap, subst, ◌∙◌, true≢false}
use Rattle.dewey_labels.specs.Labels.{Label, is_label}
use Rattle.lock_modes.specs.declared.mode.Mode.TheVariants.{SX}
use Rattle.lock_resources.specs.declared.resource.Resource.TheVariants.{Node}
use Rattle.lock_resources.specs.declared.request.Request.{Request}
use Rattle.lock_resources.specs.Intentions.{with_intentions}
use Rattle.tree_model.specs.declared.reply.Reply.TheVariants.{Refused, Nothing}
use Rattle.tree_model.specs.declared.refusal.Refusal.TheVariants.{TextLimit}
use Rattle.tree_model.specs.Entries.{changed}
use Rattle.tree_model.specs.Tree.{Forest, none, node, entries_of, Tree, map_of, at, found, below}
use Rattle.tree_model.specs.ValidTrees.{IsValidTree}
use Rattle.tree_model.specs.Outcomes.{Outcome, refused, see_in}
use Rattle.tree_model.specs.NodeKinds.{is_text_node}
use Rattle.tree_model.specs.Edits.{edited, with_children}
use Rattle.tree_model.specs.Texts.{normal, texts_fit, normalize_in, normalize}
use Rattle.tree_model.specs.Changes.{drop_change, put_change}
use Rattle.tree_model.proofs.Split.{all_under}
use Rattle.tree_model.proofs.PlaceLaws.{below_keys}
use Rattle.tree_changes.proofs.ContentLaws.{normalize_keeps}
use Rattle.tree_changes.proofs.NormalTexts.{normal_keys}
use Rattle.tree_cells.proofs.SameTrees.{alone, subtree_same}
use Rattle.lock_plans.specs.Plans.{ends}
use Rattle.lock_plans.specs.DomPlans.{run}
use Rattle.dom_laws.proofs.Same.{Same, same_asks, same_answers}
use Rattle.tree_cells.proofs.Seen.{taken_seen}
use Rattle.dom_laws.proofs.RecordKinds.{text_same_kind}
use Rattle.dom_laws.proofs.StepLaws.{not_false, seen_at, same_see}
use Rattle.dom_laws.proofs.Changes.{taken}
use Rattle.dom_laws.proofs.SetTextLaws.{Under, rebuilds, children_changed, all_join, drops_under, puts_under, under_covered, rebuilt_found}
use Rattle.dom_laws.proofs.GapChanges.{same_rebuilt}
use Rattle.lock_modes.specs.declared.ask.Ask.TheVariants as ask
use Rattle.tree_model.specs.declared.dom_call.DomCall.TheVariants as call

-- ---- the call

below_alone : (f : Forest) → below f ≡ below (alone f)
below_alone none = refl
below_alone (node m r ats ch nx) = refl

module _ (l : Label) where
  abbrev out : Tree → Forest → Outcome
  out t g = see_in t (normalize_in l t) g

  abbrev tests : Tree → Bool → Bool → Tree → Outcome
  tests t a b x = if a then (Nothing, t) else if b then (Nothing, x) else refused TextLimit t

  out_is : (t : Tree) (g : Forest)
      → found g ≡ true → out t g ≡ tests t (is_text_node g) (texts_fit (normal (below g))) (edited l (with_children (normal (below g))) t)
  out_is t none y = absurd (true≢false (sym y))
  out_is t (node m r ats ch nx) y = refl

  pub normalize_same : is_label l ≡ true → (t u : Tree) → IsValidTree t → IsValidTree u → Same [] t u (run (call.Normalize l) t) (run (call.Normalize l) u)
  normalize_same i t u w v =
      same_see [] l t u w v _ _ i (λ e y z.
      let acc0 = seen_at [] l in
      same_answers acc0 t u (is_text_node (at l t.documents)) (is_text_node (at l u.documents)) Nothing _ _ (text_same_kind _ _ e) (λ kt ku.
      same_asks acc0 t u (Node l) (ask.Node SX) _ _ refl i (λ agree.
      let acc : List Request = acc0 ++ with_intentions (Node l) (ask.Node SX) in
      let old = below (at l t.documents) in
      let new = normal old in
      let whole : alone (at l t.documents) ≡ alone (at l u.documents) = subtree_same l t u w v y z (taken_seen acc0 l t u agree) in
      let belows : below (at l u.documents) ≡ old = below_alone (at l u.documents) ∙ ap below (sym whole) ∙ sym (below_alone (at l t.documents)) in
      same_answers acc t u (not (texts_fit (normal (below (at l t.documents))))) (not (texts_fit (normal (below (at l u.documents))))) (Refused TextLimit) _ _
      (ap (λ g. not (texts_fit (normal g))) (sym belows)) (λ ft _.
      let fits = not_false (texts_fit new) ft in
      let it : normalize l t ≡ (Nothing, edited l (with_children new) t) = out_is t (at l t.documents) y
      ∙ (λ k. tests t (kt k) (fits k) (edited l (with_children new) t)) in
      let iu : normalize l u ≡ (Nothing, edited l (with_children new) u) = out_is u (at l u.documents) z
      ∙ ap (λ g. tests u (is_text_node (at l u.documents)) (texts_fit (normal g)) (edited l (with_children (normal g)) u)) belows
      ∙ (λ k. tests u (ku k) (fits k) (edited l (with_children new) u)) in
      let wt : IsValidTree (edited l (with_children new) t) = subst (λ (o : Outcome). IsValidTree o.1) it (normalize_keeps l t w) in
      let wu : IsValidTree (edited l (with_children new) u) = subst (λ (o : Outcome). IsValidTree o.1) iu (normalize_keeps l u v) in
      let cs = rebuilds old new in
      let mt : map_of (edited l (with_children new) t) ≡ changed cs (map_of t) = children_changed l new t w wt y in
      let mu : map_of (edited l (with_children new) u) ≡ changed cs (map_of u) = children_changed l new u v wu z
      ∙ ap (λ g. changed (rebuilds g new) (map_of u)) belows in
      let unders : AllByRecursion (Under l) cs = all_join (Under l) (map drop_change (entries_of old)) (map put_change (entries_of new))
      (drops_under l (entries_of old) (all_under l l old (below_keys l t w)))
      (puts_under l (entries_of new) (all_under l l new (normal_keys l l old (below_keys l t w)))) in
      subst (λ (o : Outcome). Same acc t u (ends o) (ends (normalize l u))) (sym it)
      (subst (λ (o : Outcome). Same acc t u (ends (Nothing, edited l (with_children new) t)) (ends o)) (sym iu)
      (same_rebuilt acc t u w v agree (Nothing, edited l (with_children new) t) (Nothing, edited l (with_children new) u) wt wu cs mt mu
      (under_covered acc0 l cs unders)
      l i (λ x inside. taken acc0 l x inside)
      (λ m o. rebuilt_found l m cs t (edited l (with_children new) t) w wt unders mt o)
      (λ m o. rebuilt_found l m cs u (edited l (with_children new) u) v wu unders mu o) refl))))))
