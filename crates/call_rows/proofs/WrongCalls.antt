-- Calls that miss a request break the first law, and a join that is lost leaves the conflict unseen.
use Rattle.std.proofs.Common.{◌≡◌, zero, suc, Bool, true, false, ◌&&◌, ◌||◌, List, [], ◌∷◌, None, Some, refl, sym, ap, ap₂, subst, ◌∙◌, true≢false, arith}
use Rattle.std.specs.Str.{IsAscii}
use Rattle.std.proofs.lemmas.Str.{chars-IsAscii, IsUtf8-from_ascii, is_utf8-from_IsUtf8}
use Rattle.dewey_labels.specs.Labels.{Label, root, is_child, Within}
use Rattle.dewey_labels.specs.Sides.{side, is_in, is_under}
use Rattle.lock_modes.specs.declared.ask.Ask.TheVariants as ask
use Rattle.lock_modes.specs.declared.mode.Mode.{Mode}
use Rattle.lock_modes.specs.declared.mode.Mode.TheVariants.{IR, NR}
use Rattle.lock_resources.specs.declared.resource.Side.{Side}
use Rattle.lock_resources.specs.declared.resource.Side.TheVariants.{First, Last, Next, Prev}
use Rattle.lock_resources.specs.declared.resource.Resource.TheVariants.{Node}
use Rattle.tree_model.specs.declared.reply.Reply.TheVariants.{Place, Places}
use Rattle.tree_model.specs.Names.{Name, is_name, is_start_char, is_name_char, are_name_chars}
use Rattle.tree_model.proofs.NameLaws.{name_is}
use Rattle.tree_model.specs.Tree.{none}
use Rattle.tree_model.proofs.NamedLists.{name_starts}
use Rattle.tree_model.specs.ValidTrees.{IsCatalogueOf, IsValidTree, same_label}
use Rattle.tree_model.proofs.StoredCatalogues.{same_label_is}
use Rattle.tree_cells.specs.Cells.{node_cell, attr_cell, edge_cell, value_at}
use Rattle.tree_cells.specs.Covers.{reads_from, reads_edge_from, Agree}
use Rattle.tree_cells.specs.ModeParts.{reads_level, reads_subtree, is_exclusive}
use Rattle.call_rows.specs.Rows.{first, children, at_node, d, e, child, store, one_child}
use Rattle.call_rows.specs.Wrong.{asks_instead, FirstLaw, without_edge, without_request, JoinIsNeeded}

-- ---- a name

abbrev a : Name
a = 97 ∷ []

a_is_ascii : IsAscii a
a_is_ascii zero = omega arith
a_is_ascii (suc i) = omega arith

a_is_chars : are_name_chars a ≡ true
unfolding is_start_char is_name_char
a_is_chars = refl

a_is_name : is_name a ≡ true
a_is_name = sym (name_is a true (omega arith) (is_utf8-from_IsUtf8 a (IsUtf8-from_ascii a a_is_ascii)) (sym (ap are_name_chars (chars-IsAscii a a_is_ascii) ∙ a_is_chars)))

-- ---- the stores are valid

within_two : Within d
within_two = (omega arith, (omega arith, (omega arith, tt)))

within_three : Within e
within_three = (omega arith, (omega arith, (omega arith, (omega arith, tt))))

within_four : Within (child 1001)
within_four = (omega arith, (omega arith, (omega arith, (omega arith, (omega arith, tt)))))

catalogue_is : (n : Name) → is_name n ≡ true → IsCatalogueOf (d ∷ []) ((n, d) ∷ [])
catalogue_is n h = record { names = (name_starts n h, h, tt); each_document = (refl, tt); each_entry = (refl, tt) }

empty_valid : (n : Name) → is_name n ≡ true → IsValidTree (store n none)
empty_valid n h = record {
  keys = (refl, refl, within_two, tt, (refl, refl, within_three, tt, tt, tt), tt);
  kinds = (refl, refl, refl, (refl, refl, refl, tt, tt), tt);
  limits = (omega arith, refl, tt, (omega arith, h, tt, tt, tt), tt);
  catalogue = catalogue_is n h;
}

one_valid : (n : Name) → is_name n ≡ true → IsValidTree (store n (one_child n))
one_valid n h = record {
  keys = (refl, refl, within_two, tt, (refl, refl, within_three, tt, (refl, refl, within_four, tt, tt, tt), tt), tt);
  kinds = (refl, refl, refl, (refl, refl, refl, (refl, refl, refl, tt, tt), tt), tt);
  limits = (omega arith, refl, tt, (omega arith, h, tt, (omega arith, h, tt, tt, tt), tt), tt);
  catalogue = catalogue_is n h;
}

-- ---- who reads a node alone sees the same in both

nothing : (p : Bool) → (p && false) ≡ false
nothing true = refl
nothing false = refl

nothing_of_two : (p q : Bool) → ((p && false) || (q && false)) ≡ false
nothing_of_two p q = ap₂ (λ (a b : Bool). a || b) (nothing p) (nothing q)

nothing_of_three : (p q r : Bool) → ((p && false) || ((q && false) || (r && false))) ≡ false
nothing_of_three p q r = ap₂ (λ (a b : Bool). a || b) (nothing p) (nothing_of_two q r)

-- of three requests none, or only the last
none_of_all : (a b c : Bool) → a ≡ false → b ≡ false → c ≡ false → (a || (b || (c || false))) ≡ false
none_of_all a b c f g h = λ i. f i || (g i || (h i || false))

only_last : (a b p q r : Bool) → a ≡ false → b ≡ false → (a || (b || (((p && true) || ((q && false) || (r && false))) || false))) ≡ true → p ≡ true
only_last a b p q r f g h = by p (sym (λ i. f i || (g i || (((p && true) || nothing_of_two q r i) || false))) ∙ h)
  where
    by : (p : Bool) → (((p && true) || false) || false) ≡ true → p ≡ true
    by true h = refl
    by false h = h

inner_edge : (a : Label) (m : Mode) (l : Label) → reads_level (ask.Node m) ≡ false → reads_subtree (ask.Node m) ≡ false → ((same_label a l && reads_level (ask.Node m)) || (is_in (side a l) && reads_subtree (ask.Node m))) ≡ false
inner_edge a m l f g = (λ i. (same_label a l && f i) || (is_in (side a l) && g i)) ∙ nothing_of_two (same_label a l) (is_in (side a l))

node_alone : (n : Name) → Agree (at_node e NR) (store n none) (store n (one_child n))
node_alone n (node_cell l) h =
    let is = only_last (reads_from (Node root) (ask.Node IR) (node_cell l)) (reads_from (Node d) (ask.Node IR) (node_cell l)) (same_label e l) (is_child e l) (is_in (side e l))
    (nothing_of_three (same_label root l) (is_child root l) (is_in (side root l))) (nothing_of_three (same_label d l) (is_child d l) (is_in (side d l))) h in
    subst (λ k. value_at (store n none) (node_cell k) ≡ value_at (store n (one_child n)) (node_cell k)) (same_label_is e l is) refl
node_alone n (attr_cell l k) h = absurd (true≢false (sym h ∙ none_of_all _ _ _ (nothing (is_in (side root l))) (nothing (is_in (side d l))) (nothing (is_in (side e l)))))
node_alone n (edge_cell l s) h = absurd (true≢false (sym h ∙ none_of_all (reads_edge_from root (ask.Node IR) l s) (reads_edge_from d (ask.Node IR) l s) (reads_edge_from e (ask.Node NR) l s) (no_edge root IR s refl refl refl) (no_edge d IR s refl refl refl) (no_edge e NR s refl refl refl)))
  where
    no_edge : (a : Label) (m : Mode) (s : Side) → reads_level (ask.Node m) ≡ false → reads_subtree (ask.Node m) ≡ false → is_exclusive (ask.Node m) ≡ false → reads_edge_from a (ask.Node m) l s ≡ false
    no_edge a m First f g x = inner_edge a m l f g
    no_edge a m Last f g x = inner_edge a m l f g
    no_edge a m Next f g x = (λ i. (same_label a l && x i) || ((is_child a l && f i) || (is_under (side a l) && g i))) ∙ nothing_of_three (same_label a l) (is_child a l) (is_under (side a l))
    no_edge a m Prev f g x = (λ i. (same_label a l && x i) || ((is_child a l && f i) || (is_under (side a l) && g i))) ∙ nothing_of_three (same_label a l) (is_child a l) (is_under (side a l))

-- ---- the calls

some_place : {l : Label} → Place None ≡ Place (Some l) → ⊥
some_place h = cc

some_places : {l : Label} {ls : List Label} → Places [] ≡ Places (l ∷ ls) → ⊥
some_places h = cc

pub first_needs_its_edge : FirstLaw (asks_instead without_edge) (first e) → ⊥
first_needs_its_edge law = some_place (law (store a none) (store a (one_child a)) (empty_valid a a_is_name) (one_valid a a_is_name) (node_alone a))

pub empty_answer_needs_a_request : FirstLaw (asks_instead without_request) (children e) → ⊥
empty_answer_needs_a_request law = some_places (law (store a none) (store a (one_child a)) (empty_valid a a_is_name) (one_valid a a_is_name) (λ x k. absurd (true≢false (sym k))))

-- ---- the join

pub join_is_needed : JoinIsNeeded (edge_cell e Last)
join_is_needed = record { read = refl; written = refl; barred = refl; lost = refl }
