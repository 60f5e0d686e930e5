-- What a tester knows of the records that it has taken (docs/FILE_FORMAT.md, "The tree").
use Rattle.std.specs.Prelude.{◌≡◌, ◌++◌, ◌∷◌, [], true, false, length, List, Some, None, MatchOption, option_map}
use Rattle.std.specs.BTreeMap.{get as get_in}
use Rattle.std.specs.Cmp.Lexicographic.{slice_cmp}
use Rattle.std.specs.List.{AllByRecursion}
use Rattle.std.specs.Ordering.{nat_cmp}
use Rattle.dewey_labels.specs.Labels.{IsLabel, Label}
use Rattle.dewey_labels.specs.Sides.{is_in, side}
use Rattle.tree_model.specs.declared.key.Key.{Key}
use Rattle.tree_model.specs.declared.record.Record.{Record}
use Rattle.tree_model.specs.Entries.{Entries, Sorted, get}
use Rattle.tree_model.specs.Keys.{node_key}
use Rattle.tree_model.specs.Places.{is_root}
use Rattle.tree_model.specs.StoredTree.{entry_fits, misfit_at}
use Rattle.tree_model.proofs.Entries.{last_of}
use Rattle.tree_rules.specs.declared.path.Room.{Room}
use Rattle.tree_rules.specs.declared.path.Step.{Step}
use Rattle.tree_rules.specs.declared.tester.Tester.{Tester}
use Rattle.tree_rules.specs.inside.Named.{all_give_labels, kept_name}
use Rattle.tree_rules.specs.inside.Paths.{room_at, room_in}

-- the path has what may stand below each node of these entries that stands at or above one which may come next, and no node that isn't among them
pub record IsPath (path : List Step) (es : Entries) : Type 0 where
  pub has : (p : Label) (x : Key × Record) → Sorted (es ++ x ∷ []) → is_in (side p x.0.label) ≡ true → room_at p path ≡ room_in p es
  pub only : (p : Label) (room : Room) → room_at p path ≡ Some room → room_in p es ≡ Some room

-- of entries that break no rule so far, with rising keys, the tester has the last label, the path and the catalogue
pub record Keeps (t : Tester) (es : Entries) : Type 0 where
  pub unbroken : misfit_at [] es ≡ None
  pub labels : AllByRecursion (λ e. IsLabel e.0.label) es
  pub inner : (l : Label) (r : Record) → get (node_key l) es ≡ Some r → is_root l ≡ false
  pub last : t.last ≡ option_map (λ e. e.0.label) (last_of es)
  pub path : IsPath t.path.items es
  pub names : (l : Label) → get_in (slice_cmp nat_cmp) t.named l ≡ kept_name l es
  pub all_name : t.all_name ≡ all_give_labels es

-- the tester has taken these entries: where their keys rise, it knows the first that breaks a rule, or keeps what it needs
pub record HasTaken (t : Tester) (es : Entries) : Type 0 where
  pub count : t.taken ≡ length es
  pub state : Sorted es → MatchOption t.broken (Keeps t es) (λ at. misfit_at [] es ≡ Some at)

-- an entry that comes behind those that were taken
pub record IsNext (t : Tester) (es : Entries) (x : Key × Record) : Type 0 where
  pub keeps : Keeps t es
  pub sorted : Sorted (es ++ x ∷ [])
  pub label : IsLabel x.0.label

-- behind entries that the tester knew it knows this one too, which may stand there
abbrev pub KeepsNext : Tester → Key × Record → Tester → Type 0
KeepsNext old x new = (es : Entries) → IsNext old es x → entry_fits es x ≡ true → Keeps new (es ++ x ∷ [])
