-- The toy that reads, and the one that is refused, keep the laws.
use Rattle.std.proofs.Common.{◌≡◌, true, [], ◌∷◌, Option, Some, None, is_eq, refl, sym, ap, ◌∙◌}
use Rattle.dewey_labels.specs.Labels.{Label, IsLabel}
use Rattle.lock_modes.specs.declared.ask.Ask.{Ask}
use Rattle.lock_modes.specs.declared.ask.Ask.TheVariants as ask
use Rattle.lock_modes.specs.declared.mode.Mode.TheVariants.{NR}
use Rattle.lock_resources.specs.declared.resource.Resource.TheVariants.{Node}
use Rattle.lock_resources.specs.Intentions.{request, intentions, with_intentions}
use Rattle.tree_model.specs.declared.record.Record.{Record}
use Rattle.tree_model.specs.declared.reply.Reply.{Reply}
use Rattle.tree_model.specs.declared.reply.Reply.TheVariants.{Refused}
use Rattle.tree_model.specs.declared.refusal.Refusal.TheVariants.{Dom}
use Rattle.tree_model.specs.Keys.{node_key}
use Rattle.tree_model.specs.Entries.{get}
use Rattle.tree_model.specs.Tree.{Forest, none, node, Tree, map_of, at, record_of}
use Rattle.tree_model.specs.ValidTrees.{IsValidTree}
use Rattle.tree_model.specs.Outcomes.{not_found_err}
use Rattle.tree_model.specs.Navigation.{described, describe, node_of}
use Rattle.tree_model.proofs.WholeTree.{get_node}
use Rattle.tree_model.proofs.EntryLimits.{list_itself}
use Rattle.tree_cells.specs.Cells.{record_is, node_cell}
use Rattle.tree_cells.specs.Covers.{reads, reads_from}
use Rattle.tree_cells.proofs.Coverage.{some_right, or_first, and_both, written_is_read}
use Rattle.tree_cells.proofs.FormedRows.{row_formed}
use Rattle.call_contract.specs.Calls.{CallLaws}
use Rattle.call_rows.specs.Toys.{look, never}

-- a cell's record is one
pub record_same : (o p : Option Record) → record_is o ≡ record_is p → o ≡ p
record_same o p e = cc

-- a node that is asked for is covered for reading
pub node_is_read : (l : Label) (a : Ask) → reads_from (Node l) a (node_cell l) ≡ true → reads (with_intentions (Node l) a) (node_cell l) ≡ true
node_is_read l a h = some_right (λ r b. reads_from r b (node_cell l)) (intentions (Node l) a) (request (Node l) a ∷ []) (or_first (reads_from (Node l) a (node_cell l)) _ h)

-- what is answered of a record
abbrev pub answer_of : Option Record → Reply
answer_of None = Refused (Dom not_found_err)
answer_of (Some r) = described r

by_record : (f : Forest) → describe f ≡ answer_of (record_of f)
by_record none = refl
by_record (node l r ats ch nx) = refl

pub looked : (l : Label) (t : Tree) → IsValidTree t → node_of l t ≡ answer_of (get (node_key l) (map_of t))
looked l t w = by_record (at l t.documents) ∙ ap answer_of (sym (get_node l t w))

itself : (l : Label) → reads_from (Node l) (ask.Node NR) (node_cell l) ≡ true
itself l = or_first _ _ (and_both _ true (ap is_eq (list_itself l)) refl)

pub look_laws : CallLaws Label IsLabel look
look_laws = record {
  form = λ l t v w. row_formed (Node l) (ask.Node NR) refl v.0;
  same_reply = λ l t u v w x agree. looked l t w ∙ ap answer_of (record_same _ _ (agree (node_cell l) (node_is_read l (ask.Node NR) (itself l)))) ∙ sym (looked l u x);
  same_written = λ l t u v w x agree y h. agree y (written_is_read (with_intentions (Node l) (ask.Node NR)) y h);
  keeps_rest = λ l t v w y h. refl;
  same_next = λ l t u k v w x agree. refl;
  keeps_valid = λ l t v w. w;
  refused_keeps = λ l t v w h. refl;
}

pub never_laws : CallLaws Label IsLabel never
never_laws = record {
  form = λ l t v w. tt;
  same_reply = λ l t u v w x agree. refl;
  same_written = λ l t u v w x agree y h. agree y (written_is_read [] y h);
  keeps_rest = λ l t v w y h. refl;
  same_next = λ l t u k v w x agree. refl;
  keeps_valid = λ l t v w. w;
  refused_keeps = λ l t v w h. refl;
}
