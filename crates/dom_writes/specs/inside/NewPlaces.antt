-- Where a call puts its fragment: between which neighbours, at which new label, or why it is refused.
use Rattle.std.specs.Prelude.{◌≡◌, ◌&&◌, ◌||◌, Bool, false, if◌then◌else◌, List, [], map, is_some, IfSome, IsTrue, Option, Some, None, Result, Ok, Err}
use Rattle.std.specs.Cmp.Lexicographic.{slice_cmp}
use Rattle.std.specs.Ordering.{nat_cmp}
use Rattle.std.specs.declared.cmp.Ordering.TheVariants.{Less}
use Rattle.dewey_labels.specs.Labels.{Label, is_child}
use Rattle.tree_model.specs.declared.change.Change.{Change}
use Rattle.tree_model.specs.declared.record.Record.{Record}
use Rattle.tree_model.specs.declared.refusal.Refusal.TheVariants.{LabelLimit}
use Rattle.tree_model.specs.declared.reply.Reply.{Reply}
use Rattle.tree_model.specs.declared.reply.Reply.TheVariants.{Place, Refused}
use Rattle.tree_model.specs.Changes.{put_change}
use Rattle.tree_model.specs.Entries.{Entries}
use Rattle.tree_model.specs.Fragments.{Fragments, is_text_fragment}
use Rattle.tree_model.specs.Graft.{all_within, graft}
use Rattle.tree_model.specs.Outcomes.{Outcome, is_refused}
use Rattle.tree_model.specs.Placing.{is_too_deep}
use Rattle.tree_model.specs.StoredTree.{is_document_record}
use Rattle.tree_model.specs.Tree.{Tree, entries_of, none}
use Rattle.node_seq.specs.Trees.{OnTree}

-- ---- the parent's kind

-- a document takes no text, and no second child
abbrev pub takes_none : Record → Fragments → Option Label → Bool
takes_none r f last = is_document_record (Some r) && (is_text_fragment f || is_some last)

-- ---- the place

-- a new label for the fragment, unless one of its labels passes a limit
abbrev pub within_limits : Fragments → Option Label → Result Label Reply
within_limits f None = Err (Refused LabelLimit)
within_limits f (Some new) = if all_within (graft new f none) then Ok new else Err (Refused LabelLimit)

-- what is answered
abbrev pub answer : Result Label Reply → Reply
answer (Ok new) = Place (Some new)
answer (Err reply) = reply

-- this place, or this refusal, is answered as the call answers on whichever tree the known map stands for
abbrev pub PlacesAs : {E : Type 0} → Option Entries → Result (Result Label Reply) E → (Tree → Outcome) → Type 0
PlacesAs contents result call = OnTree contents result (λ t place. answer place ≡ (call t).0)

-- what is changed
abbrev pub changes : Fragments → Result Label Reply → List Change
changes f (Ok new) = map put_change (entries_of (graft new f none))
changes f (Err reply) = []

-- at this label below p the fragment keeps the limits
pub record Suits (p : Label) (f : Fragments) (new : Label) : Type 0 where
  pub child : IsTrue (is_child p new)
  pub shallow : is_too_deep p f ≡ false
  pub within : IsTrue (all_within (graft new f none))

-- a place below p that suits the fragment, or a refusal
abbrev pub SuitsOrRefused : Label → Fragments → Result Label Reply → Type 0
SuitsOrRefused p f (Ok new) = Suits p f new
SuitsOrRefused p f (Err reply) = IsTrue (is_refused reply)
