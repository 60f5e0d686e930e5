-- Fragments in the making: what each entry adds to them.
use Rattle.std.specs.Prelude.{◌-◌, Bool, false, cond, not, ℕ, List, [], ◌∷◌, ◌++◌, length, reverse, slice_get, Option, Some, None}
use Rattle.dewey_labels.specs.Labels.{Label, is_ancestor}
use Rattle.tree_model.specs.Entries.{Entries}
use Rattle.tree_model.specs.Names.{Name}
use Rattle.tree_model.specs.Subtrees.{first_fragment}
use Rattle.tree_model.specs.declared.fragment.Fragment.{Fragment}
use Rattle.tree_model.specs.declared.fragment.Fragment.TheVariants as fragment
use Rattle.tree_model.specs.declared.key.Key.{Key}
use Rattle.tree_model.specs.declared.record.Record.{Record}
use Rattle.tree_model.specs.declared.record.Record.TheVariants.{Attr, Document, Element, Text}
use Rattle.dom_reads.specs.declared.fragment_builder.FragmentBuilder.{FragmentBuilder}
use Rattle.dom_reads.specs.declared.fragment_builder.OpenElement.{OpenElement}

-- the elements that are open, the innermost first, and the fragments that are whole
pub record Making : Type 0 where
  pub open_elements : List OpenElement
  pub whole : List Fragment

abbrev pub making_of : FragmentBuilder → Making
making_of b = record { open_elements = reverse b.open_elements; whole = b.whole }

abbrev pub nothing_made : Making
nothing_made = record { open_elements = []; whole = [] }

-- ---- one element

-- with more children
abbrev pub with_more : List Fragment → OpenElement → OpenElement
with_more fs o = record { label = o.label; name = o.name; attrs = o.attrs; children = o.children ++ fs }

-- as it is when it is closed
abbrev pub as_fragment : OpenElement → Fragment
as_fragment o = fragment.Element o.name o.attrs o.children

-- ---- elements closed

-- an element with the label a holds the node that comes next
abbrev pub holds : Option Label → Label → Bool
holds None a = false
holds (Some l) a = is_ancestor a l

-- the innermost open element, if there is one, doesn't
abbrev pub leaves : Option Label → Option OpenElement → Bool
leaves next None = false
leaves next (Some o) = not (holds next o.label)

-- the same of the elements from the outermost one inward
abbrev pub must_close : Option Label → List OpenElement → Bool
must_close next inward = leaves next (slice_get inward (length inward - 1))

-- fragments put into the innermost open element, or with the whole ones
abbrev pub put_in : List Fragment → List OpenElement → List Fragment → Making
put_in fs [] whole = record { open_elements = []; whole = whole ++ fs }
put_in fs (o ∷ os) whole = record { open_elements = with_more fs o ∷ os; whole = whole }

abbrev pub put : List Fragment → Making → Making
put fs m = put_in fs m.open_elements m.whole

-- the innermost element closed
abbrev pub close_first : List OpenElement → List Fragment → Making
close_first [] whole = record { open_elements = []; whole = whole }
close_first (o ∷ os) whole = put_in (as_fragment o ∷ []) os whole

abbrev pub close_innermost : Making → Making
close_innermost m = close_first m.open_elements m.whole

-- those closed that don't hold the node that comes next, the innermost one with these fragments first
abbrev pub close : Option Label → List Fragment → List OpenElement → List Fragment → Making
close next fs [] whole = record { open_elements = []; whole = whole ++ fs }
close next fs (o ∷ os) whole =
    cond (holds next o.label) (record { open_elements = with_more fs o ∷ os; whole = whole }) (close next (as_fragment (with_more fs o) ∷ []) os whole)

abbrev pub close_to : Option Label → Making → Making
close_to next m = close next [] m.open_elements m.whole

-- ---- entries added

-- an attribute of the innermost element
abbrev pub with_attribute_in : Name × List ℕ → List OpenElement → List Fragment → Making
with_attribute_in a [] whole = record { open_elements = []; whole = whole }
with_attribute_in a (o ∷ os) whole =
    record { open_elements = record { label = o.label; name = o.name; attrs = o.attrs ++ (a ∷ []); children = o.children } ∷ os; whole = whole }

abbrev pub with_attribute : Name × List ℕ → Making → Making
with_attribute a m = with_attribute_in a m.open_elements m.whole

-- one more element, without attributes and children as yet
abbrev pub with_element : Label → Name → Making → Making
with_element l n m = record { open_elements = record { label = l; name = n; attrs = []; children = [] } ∷ m.open_elements; whole = m.whole }

-- one more entry
abbrev pub add : Key → Record → Making → Making
add k Document m = m
add k (Attr v) m = with_attribute (k.name, v) m
add k (Text d) m = put (fragment.Text d ∷ []) (close_to (Some k.label) m)
add k (Element n) m = with_element k.label n (close_to (Some k.label) m)

-- entries, one after another
abbrev pub add_all : Entries → Making → Making
add_all [] m = m
add_all (e ∷ es) m = add_all es (add e.0 e.1 m)

-- the first fragment, when all are closed
abbrev pub finished : Making → Option Fragment
finished m = first_fragment (close_to None m).whole
