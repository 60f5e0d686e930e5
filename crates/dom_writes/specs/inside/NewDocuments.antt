-- Where `create` puts a document, or why it is refused.
use Rattle.std.specs.Prelude.{◌≡◌, ◌+◌, Bool, false, if◌then◌else◌, nat_lt, List, [], ◌∷◌, map, IsTrue, Option, Some, None, Result, Ok, Err}
use Rattle.dewey_labels.specs.LabelText.{label_text}
use Rattle.dewey_labels.specs.Labels.{Label, is_child, root}
use Rattle.tree_model.specs.declared.change.Change.{Change}
use Rattle.tree_model.specs.declared.refusal.Refusal.TheVariants.{LabelLimit}
use Rattle.tree_model.specs.declared.reply.Reply.{Reply}
use Rattle.tree_model.specs.declared.reply.Reply.TheVariants.{Refused}
use Rattle.tree_model.specs.Changes.{put_change}
use Rattle.tree_model.specs.Documents.{document_at}
use Rattle.tree_model.specs.Entries.{Entries}
use Rattle.tree_model.specs.Fragments.{Fragments, depth}
use Rattle.tree_model.specs.Graft.{all_within}
use Rattle.tree_model.specs.Limits.{deepest_level}
use Rattle.tree_model.specs.Names.{Name, is_name}
use Rattle.tree_model.specs.Outcomes.{is_refused}
use Rattle.tree_model.specs.Tree.{attr_entry, entries_of}

-- below a document the fragment's deepest node would lie too deep
abbrev pub is_deep : Fragments → Bool
is_deep f = nat_lt deepest_level (1 + depth f)

-- a new label for the document, unless one of its labels passes a limit
abbrev pub within_limits : Fragments → Option Label → Result Label Reply
within_limits f None = Err (Refused LabelLimit)
within_limits f (Some new) = if all_within (document_at new f) then Ok new else Err (Refused LabelLimit)

-- the entry of the catalogue, and those of the document
abbrev pub entries : Name → Label → Fragments → Entries
entries n new f = attr_entry root (n, label_text new) ∷ entries_of (document_at new f)

-- what is changed
abbrev pub changes : Name → Fragments → Result Label Reply → List Change
changes n f (Ok new) = map put_change (entries n new f)
changes n f (Err reply) = []

-- at this label a document with the name and the fragment keeps the limits
pub record Suits (n : Name) (f : Fragments) (new : Label) : Type 0 where
  pub name : IsTrue (is_name n)
  pub child : IsTrue (is_child root new)
  pub shallow : is_deep f ≡ false
  pub within : IsTrue (all_within (document_at new f))

-- a place that suits the document, or a refusal
abbrev pub SuitsOrRefused : Name → Fragments → Result Label Reply → Type 0
SuitsOrRefused n f (Ok new) = Suits n f new
SuitsOrRefused n f (Err reply) = IsTrue (is_refused reply)
