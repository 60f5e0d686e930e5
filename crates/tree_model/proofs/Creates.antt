-- `create` keeps a tree valid, leaves it where it is refused, and otherwise puts the new document's entries.
use Rattle.std.proofs.Common.{◌≡◌, ◌+◌, true, false, not, if◌then◌else◌, nat_lt, map, Some, None, is_some, refl, sym, subst, ◌∙◌}
use Rattle.dewey_labels.specs.Labels.{Label}
use Rattle.tree_model.specs.declared.reply.Reply.TheVariants.{Place}
use Rattle.tree_model.specs.declared.refusal.Refusal.{Refusal}
use Rattle.tree_model.specs.declared.refusal.Refusal.TheVariants.{Dom, DocumentExists, TooDeep, LabelLimit}
use Rattle.tree_model.specs.Limits.{deepest_level}
use Rattle.tree_model.specs.Names.{Name, is_name}
use Rattle.tree_model.specs.Tree.{Tree, map_of, beside}
use Rattle.tree_model.specs.ValidTrees.{IsValidTree}
use Rattle.tree_model.specs.Fragments.{Fragments, IsValid, depth, is_text_fragment}
use Rattle.tree_model.specs.Graft.{all_within}
use Rattle.tree_model.specs.Outcomes.{Outcome, refused, is_refused, hierarchy_request_err, invalid_character_err}
use Rattle.tree_model.specs.Documents.{document_at, with_document, document_label, place_document, create}
use Rattle.tree_model.specs.Entries.{changed, put_all}
use Rattle.tree_model.specs.Changes.{put_change}
use Rattle.tree_model.proofs.PutChanges.{changed_puts}
use Rattle.tree_model.proofs.NewDocuments.{IsFit, with_document_formed, document_entries, map-with_document}

-- the record of its facts, where every test lets it through
fits : (n : Name) (l : Label) (f : Fragments) (t : Tree) → is_name n ≡ true → is_text_fragment f ≡ false → is_some (beside n t.catalogue) ≡ false → nat_lt deepest_level (1 + depth f) ≡ false → document_label t ≡ Some l → all_within (document_at l f) ≡ true → IsFit n l f t
fits n l f t name no_text new_name shallow label within = record { name = name; new_name = new_name; no_text = no_text; shallow = shallow; label = label; within = within }

-- a call that is refused and leaves the tree, or one that fits and makes the document
pub data Creates (n : Name) (f : Fragments) (t : Tree) : Outcome → Type 0 where
  is_refused_so : (why : Refusal) → Creates n f t (refused why t)
  is_made : (l : Label) → IsFit n l f t → Creates n f t (Place (Some l), with_document n l f t)

-- it does one of the two
pub create_does : (n : Name) (f : Fragments) (t : Tree) → Creates n f t (create n f t)
create_does n f t =
    elim (is_name n) as (λ b. is_name n ≡ b → Creates n f t (if not b then refused (Dom invalid_character_err) t else after_name)) [
      | false ↦ λ _. is_refused_so (Dom invalid_character_err)
      | true ↦ λ name. elim (is_text_fragment f) as (λ b. is_text_fragment f ≡ b → Creates n f t (if b then refused (Dom hierarchy_request_err) t else after_text)) [
        | true ↦ λ _. is_refused_so (Dom hierarchy_request_err)
        | false ↦ λ no_text. elim (is_some (beside n t.catalogue)) as (λ b. is_some (beside n t.catalogue) ≡ b → Creates n f t (if b then refused DocumentExists t else after_there)) [
          | true ↦ λ _. is_refused_so DocumentExists
          | false ↦ λ new_name. elim (nat_lt deepest_level (1 + depth f)) as (λ b. nat_lt deepest_level (1 + depth f) ≡ b → Creates n f t (if b then refused TooDeep t else place_document n f t (document_label t))) [
            | true ↦ λ _. is_refused_so TooDeep
            | false ↦ λ shallow. elim (document_label t) as (λ o. document_label t ≡ o → Creates n f t (place_document n f t o)) [
              | None ↦ λ _. is_refused_so LabelLimit
              | Some l ↦ λ label. elim (all_within (document_at l f)) as (λ b. all_within (document_at l f) ≡ b → Creates n f t (if b then (Place (Some l), with_document n l f t) else refused LabelLimit t)) [
                | false ↦ λ _. is_refused_so LabelLimit
                | true ↦ λ within. is_made l (fits n l f t name no_text new_name shallow label within)
              ] refl
            ] refl
          ] refl
        ] refl
      ] refl
    ] refl
  where
    after_there : Outcome
    after_there = if nat_lt deepest_level (1 + depth f) then refused TooDeep t else place_document n f t (document_label t)

    after_text : Outcome
    after_text = if is_some (beside n t.catalogue) then refused DocumentExists t else after_there

    after_name : Outcome
    after_name = if is_text_fragment f then refused (Dom hierarchy_request_err) t else after_text

-- a valid tree stays so
pub create_keeps : (n : Name) (f : Fragments) (t : Tree) → IsValidTree t → IsValid f → IsValidTree (create n f t).1
create_keeps n f t w valid = by (create n f t) (create_does n f t)
  where
    by : (o : Outcome) → Creates n f t o → IsValidTree o.1
    by o (is_refused_so why) = w
    by o (is_made l fit) = with_document_formed n l f t w valid fit

-- a refused call leaves the tree
pub create_refused : (n : Name) (f : Fragments) (t : Tree) → is_refused (create n f t).0 ≡ true → (create n f t).1 ≡ t
create_refused n f t = by (create n f t) (create_does n f t)
  where
    by : (o : Outcome) → Creates n f t o → is_refused o.0 ≡ true → o.1 ≡ t
    by o (is_refused_so why) h = refl
    by o (is_made l fit) h = cc

-- an answered call puts the entries of the document and of the catalogue, and nothing else
pub create_puts : (n : Name) (f : Fragments) (t : Tree) (l : Label) → IsValidTree t → IsValid f → (create n f t).0 ≡ Place (Some l) → map_of (create n f t).1 ≡ put_all (document_entries n l f) (map_of t)
create_puts n f t l w valid = by (create n f t) (create_does n f t)
  where
    by : (o : Outcome) → Creates n f t o → o.0 ≡ Place (Some l) → map_of o.1 ≡ put_all (document_entries n l f) (map_of t)
    by o (is_refused_so why) h = cc
    by o (is_made m fit) h = let e : m ≡ l = cc in subst (λ k. map_of (with_document n m f t) ≡ put_all (document_entries n k f) (map_of t)) e (map-with_document n m f t w valid fit)

-- the same, as changes
pub create_changes : (n : Name) (f : Fragments) (t : Tree) (l : Label) → IsValidTree t → IsValid f → (create n f t).0 ≡ Place (Some l) → map_of (create n f t).1 ≡ changed (map put_change (document_entries n l f)) (map_of t)
create_changes n f t l w valid h = create_puts n f t l w valid h ∙ sym (changed_puts (document_entries n l f) (map_of t))
