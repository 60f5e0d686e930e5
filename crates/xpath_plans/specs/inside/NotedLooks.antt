-- Looks as they are kept, and a set of them.
use Rattle.std.specs.Prelude.{◌≡◌, ℕ, List, [], map}
use Rattle.std.specs.BTreeSet.{BTreeSet, contains}
use Rattle.std.specs.Cmp.Lexicographic.{slice_cmp}
use Rattle.std.specs.declared.cmp.Ordering.{Ordering}
use Rattle.std.specs.Ordering.{ordering_then, nat_cmp}
use Rattle.dewey_labels.specs.Labels.{Label}
use Rattle.tree_model.specs.Names.{Name}
use Rattle.path_model.specs.Programs.{Look, at_node, at_row, at_tree, at_attributes, at_attribute}
use Rattle.xpath_plans.specs.declared.noted_look.Kind.{Kind}
use Rattle.xpath_plans.specs.declared.noted_look.Kind.TheVariants as kind
use Rattle.xpath_plans.specs.declared.noted_look.NotedLook.{NotedLook}
use Rattle.xpath_plans.specs.OnceNoted.{is_noted}

-- the place of a kind among them
abbrev pub rank : Kind → ℕ
rank kind.Node = 0
rank kind.Row = 1
rank kind.Tree = 2
rank kind.Attributes = 3
rank kind.Attribute = 4

-- the look of a kind
abbrev pub of_kind : Kind → Label → Name → Look
of_kind kind.Node l n = at_node l
of_kind kind.Row l n = at_row l
of_kind kind.Tree l n = at_tree l
of_kind kind.Attributes l n = at_attributes l
of_kind kind.Attribute l n = at_attribute l n

-- the look that is kept so
abbrev pub look_of : NotedLook → Look
look_of k = of_kind k.kind k.label k.name

-- how a look is kept
abbrev pub noted_of : Look → NotedLook
noted_of (at_node l) = record { kind = kind.Node; label = l; name = [] }
noted_of (at_row l) = record { kind = kind.Row; label = l; name = [] }
noted_of (at_tree l) = record { kind = kind.Tree; label = l; name = [] }
noted_of (at_attributes l) = record { kind = kind.Attributes; label = l; name = [] }
noted_of (at_attribute l n) = record { kind = kind.Attribute; label = l; name = n }

abbrev pub looks_of : List NotedLook → List Look
looks_of ks = map look_of ks

-- by kind, then by label, then by name
abbrev pub noted_cmp : NotedLook → NotedLook → Ordering
noted_cmp k j = ordering_then (nat_cmp (rank k.kind) (rank j.kind)) (ordering_then (slice_cmp nat_cmp k.label j.label) (slice_cmp nat_cmp k.name j.name))

-- a set has the looks that were noted
abbrev pub HasNoted : BTreeSet NotedLook → List Look → Type 0
HasNoted s os = (o : Look) → contains noted_cmp s (noted_of o) ≡ is_noted o os
