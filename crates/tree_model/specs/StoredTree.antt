-- Which maps are those of valid trees, tested record by record in the order of their keys (docs/FILE_FORMAT.md, "The tree").
use Rattle.std.specs.Prelude.{◌≡◌, ℕ, Bool, true, false, cond, ◌&&◌, ◌||◌, not, ◌==◌, nat_le, [], ◌∷◌, ◌++◌, length, Option, Some, None}
use Rattle.std.specs.Option.{option_or}
use Rattle.dewey_labels.specs.Labels.{Label, parent, level}
use Rattle.dewey_labels.specs.Lists.{is_empty}
use Rattle.dewey_labels.specs.LabelText.{label_of}
use Rattle.dewey_labels.specs.Sides.{side, is_under}
use Rattle.tree_model.specs.declared.key.Key.{Key}
use Rattle.tree_model.specs.declared.record.Record.{Record}
use Rattle.tree_model.specs.declared.record.Record.TheVariants.{Document, Element, Attr}
use Rattle.tree_model.specs.Limits.{deepest_level}
use Rattle.tree_model.specs.Names.{Name, is_name}
use Rattle.tree_model.specs.Keys.{node_key}
use Rattle.tree_model.specs.Entries.{Entries, get}
use Rattle.tree_model.specs.Tree.{Catalogue, Tree, map_of}
use Rattle.tree_model.specs.Places.{is_root}
use Rattle.tree_model.specs.Records.{record_fits}
use Rattle.tree_model.specs.ValidTrees.{may_stand, entries_with, IsValidTree}

-- ---- the catalogue that entries give

-- the label whose text an attribute's value is
abbrev pub label_in : Record → Option Label
label_in (Attr v) = label_of v
label_in r = None

-- a catalogue with one more entry before, where there is a label for it
abbrev pub with_label : Name → Option Label → Catalogue → Catalogue
with_label n None cat = cat
with_label n (Some l) cat = (n, l) ∷ cat

-- the attributes of the root whose values are labels' texts
abbrev pub catalogue_in : Entries → Catalogue
catalogue_in [] = []
catalogue_in (e ∷ es) = cond (is_root e.0.label) (with_label e.0.name (label_in e.1) (catalogue_in es)) (catalogue_in es)

-- ---- one record behind those before it

-- whether an entry lies under the label
abbrev pub has_under : Label → Entries → Bool
has_under l [] = false
has_under l (e ∷ es) = is_under (side l e.0.label) || has_under l es

-- a record may stand below a node with that record; below a document it is the first that does
abbrev pub may_join : Option Record → Record → Bool → Bool
may_join None r taken = false
may_join (Some Document) r taken = may_stand (Some Document) r && not taken
may_join (Some p) r taken = may_stand (Some p) r

-- a document has exactly one entry in the catalogue, and any other node a parent that it may stand below
abbrev pub may_stand_at : Label → Record → Entries → Bool
may_stand_at l r before = cond (is_root (parent l)) (may_stand None r && (entries_with l (catalogue_in before) == 1)) (may_join (get (node_key (parent l)) before) r (has_under (parent l) before))

-- a node: it keeps the limits and stands where it may
abbrev pub node_fits : Label → Record → Entries → Bool
node_fits l r before = nat_le (level l) deepest_level && (record_fits r && may_stand_at l r before)

-- a value that may stand
abbrev pub is_value : Record → Bool
is_value (Attr v) = record_fits (Attr v)
is_value r = false

-- an element's record
abbrev pub is_element_record : Option Record → Bool
is_element_record (Some (Element n)) = true
is_element_record r = false

-- an attribute: it has a name and a value, and its element is there
abbrev pub attribute_fits : Key → Record → Entries → Bool
attribute_fits k r before = is_name k.name && (is_value r && is_element_record (get (node_key k.label) before))

-- an entry may stand behind all those with lesser keys; at the root any attribute may, and no node
abbrev pub entry_fits : Entries → Key × Record → Bool
entry_fits before e = cond (is_root e.0.label) (not (is_empty e.0.name)) (cond (is_empty e.0.name) (node_fits e.0.label e.1 before) (attribute_fits e.0 e.1 before))

-- ---- all records

-- the number of entries before the first that may not stand behind them
abbrev pub misfit_at : Entries → Entries → Option ℕ
misfit_at before [] = None
misfit_at before (e ∷ es) = cond (entry_fits before e) (misfit_at (before ++ (e ∷ [])) es) (Some (length before))

-- a document's record
abbrev pub is_document_record : Option Record → Bool
is_document_record (Some Document) = true
is_document_record r = false

-- whether the node with the label is a document
abbrev pub has_document : Entries → Option Label → Bool
has_document es None = false
has_document es (Some l) = is_document_record (get (node_key l) es)

-- a catalogue entry: it has a name, and its value is the text of a document's label
abbrev pub names_document : Entries → Key × Record → Bool
names_document es e = is_name e.0.name && has_document es (label_in e.1)

-- each attribute of the root is a catalogue entry, the documents being those of all entries
abbrev pub catalogue_fits : Entries → Entries → Bool
catalogue_fits all [] = true
catalogue_fits all (e ∷ es) = cond (is_root e.0.label) (names_document all e && catalogue_fits all es) (catalogue_fits all es)

-- the number of records before the first that breaks a rule; that of all where only the catalogue does
abbrev pub broken_at : Entries → Option ℕ
broken_at es = option_or (misfit_at [] es) (cond (catalogue_fits es es) None (Some (length es)))

-- the entries are those of a valid tree
pub record IsStoredTree (es : Entries) : Type 0 where
  pub tree : Tree
  pub is_valid_tree : IsValidTree tree
  pub map : map_of tree ≡ es
