-- What was found, if it lies in a subtree, and entries that rise up to it.
use Rattle.std.specs.Prelude.{cond, Option, Some, None}
use Rattle.std.specs.List.{AllByRecursion}
use Rattle.dewey_labels.specs.Labels.{Label}
use Rattle.tree_model.specs.declared.key.Key.{Key}
use Rattle.tree_model.specs.declared.record.Record.{Record}
use Rattle.tree_model.specs.Entries.{Entries, Below, Sorted}
use Rattle.dom_reads.specs.SubtreeWalks.{lies_in}

-- what was found, if it lies in the subtree of l
abbrev pub if_in : Label → Option (Key × Record) → Option (Key × Record)
if_in l None = None
if_in l (Some e) = cond (lies_in l e) (Some e) None

-- all entries lie below the one that comes next, if one does
abbrev pub AllBefore : Option (Key × Record) → Entries → Type 0
AllBefore None es = Unit {0}
AllBefore (Some next) es = AllByRecursion (Below next.0) es

-- keys rise, also to that of the entry that comes next
pub record RisesTo (next : Option (Key × Record)) (es : Entries) : Type 0 where
  pub rise : Sorted es
  pub before : AllBefore next es
