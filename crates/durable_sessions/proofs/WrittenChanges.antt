-- What valid calls change on a valid tree is read again from its bytes.
use Rattle.std.proofs.Common.{◌≡◌, Bool, true, false, List, [], ◌∷◌, map, Option, Some, ap, ◌∙◌}
use Rattle.std.specs.Prelude.{None, filter, option_and_then, if◌then◌else◌}
use Rattle.std.specs.List.{AllByRecursion}
use Rattle.std.specs.Ordering.{is_lt}
use Rattle.std.proofs.lemmas.Bool.{cond-true}
use Rattle.tree_model.specs.declared.change.Change.{Change}
use Rattle.tree_model.specs.declared.key.Key.{Key}
use Rattle.tree_model.specs.declared.record.Record.{Record}
use Rattle.tree_model.specs.Changes.{differences, drop_change, keys_rise, laid, put_unless, stands}
use Rattle.tree_model.specs.Entries.{Entries, entries_above, entries_below, get}
use Rattle.tree_model.specs.Keys.{key_cmp}
use Rattle.tree_model.specs.Tree.{Tree, map_of}
use Rattle.tree_model.specs.ValidTrees.{IsValidTree}
use Rattle.tree_model.proofs.ChangeLists.{all_of_laid, test_of_rising}
use Rattle.tree_model.proofs.Lists.{all_append}
use Rattle.node_records.specs.Changes.{IsWritableChange, changes_bytes}
use Rattle.node_records.proofs.BodyLaws.{changes_again}
use Rattle.node_records.proofs.KeyLaws.{valid_writable}
use Rattle.node_seq.specs.Reads.{IsValidEntry}
use Rattle.journal.specs.Bodies.{changes_in}
use Rattle.call_contract.specs.CallChanges.{changes_of_calls, with_calls}
use Rattle.call_contract.specs.Calls.{CallLaws, CallMeaning, changes_of}
use Rattle.call_contract.specs.States.{Answered}
use Rattle.call_contract.proofs.CallChanges.{calls_lead}
use Rattle.durable_sessions.proofs.ValidEntries.{entries_valid, record_written}

-- ---- differences of maps

module _ (P : Key × Record → Type 0) where
  all_kept : (test : Key × Record → Bool) (es : Entries) → AllByRecursion P es → AllByRecursion P (filter test es)
  all_kept test [] h = tt
  all_kept test (e ∷ es) h = elim (test e) as (λ b. AllByRecursion P (if b then e ∷ filter test es else filter test es)) [ true ↦ (h.0, all_kept test es h.1) | false ↦ all_kept test es h.1 ]

drops_written : (es : Entries) → AllByRecursion IsValidEntry es → AllByRecursion IsWritableChange (map drop_change es)
drops_written [] h = tt
drops_written (e ∷ es) h = (record { key = valid_writable e.0 h.0.0; fits = tt }, drops_written es h.1)

put_written : (b : Bool) (x : Key × Record) → IsValidEntry x → AllByRecursion IsWritableChange (put_unless b x)
put_written true x h = tt
put_written false x h = (record { key = valid_writable x.0 h.0; fits = record_written x.1 h.1 }, tt)

differences_written : (es fs : Entries) → AllByRecursion IsValidEntry es → AllByRecursion IsValidEntry fs → AllByRecursion IsWritableChange (differences es fs)
differences_written es [] h g = drops_written es h
differences_written es (x ∷ xs) h g =
    all_append IsWritableChange (map drop_change (entries_below x.0 es)) _ (drops_written (entries_below x.0 es) (all_kept IsValidEntry (λ e. is_lt (key_cmp e.0 x.0)) es h))
    (all_append IsWritableChange (put_unless (stands x.1 (get x.0 es)) x) _ (put_written (stands x.1 (get x.0 es)) x g.0)
    (differences_written (entries_above x.0 es) xs (all_kept IsValidEntry (λ e. is_lt (key_cmp x.0 e.0)) es h) g.1))

-- ---- calls

module _ {C : Type 0} (is_valid : C → Type 0) (m : CallMeaning C) (laws : CallLaws C is_valid m) where
  abbrev pub AreValidCalls : List (Answered C) → Type 0
  AreValidCalls cs = AllByRecursion (λ a. is_valid a.call) cs

  call_written : (c : C) (t : Tree) → is_valid c → IsValidTree t → AllByRecursion IsWritableChange (changes_of m c t)
  call_written c t valid is = differences_written (map_of t) (map_of (m.after c t)) (entries_valid t is) (entries_valid (m.after c t) (laws.keeps_valid c t valid is))

  calls_written : (cs : List (Answered C)) (t : Tree) (so_far : List Change) → IsValidTree t → AreValidCalls cs → AllByRecursion IsWritableChange so_far → AllByRecursion IsWritableChange (with_calls m cs t so_far)
  calls_written [] t so_far is valid h = h
  calls_written (a ∷ cs) t so_far is valid h =
      calls_written cs (m.after a.call t) (laid (changes_of m a.call t) so_far) (laws.keeps_valid a.call t valid.0 is) valid.1
      (all_of_laid IsWritableChange (changes_of m a.call t) so_far (call_written a.call t valid.0 is) h)

  -- the body of a commit of these calls is read as what they change
  pub body_read : (cs : List (Answered C)) (t : Tree) → IsValidTree t → AreValidCalls cs → changes_in (changes_bytes (changes_of_calls m cs t)) ≡ Some (changes_of_calls m cs t)
  unfolding changes_in
  body_read cs t is valid =
      let changes = changes_of_calls m cs t in
      ap (λ (o : Option (List Change)). option_and_then (λ (ds : List Change). if keys_rise ds then Some ds else None) o) (changes_again changes (calls_written cs t [] is valid tt))
      ∙ cond-true (keys_rise changes) _ _ (test_of_rising changes (calls_lead is_valid m laws cs t is valid).rise)
