-- What the type of a core keeps where its layers were merged into the base.
use Rattle.std.proofs.Common.{◌≡◌, ◌+◌, ◌/◌, ◌≤◌, ℕ, List, [], ◌∷◌, length, Option, Some, None, Result, Ok, Err, OnOk, OnErr, sym, ap, subst, ◌∙◌, arith}
use Rattle.overlays.specs.Views.{contents_after}
use Rattle.overlays.specs.Layered.{deletion, deletions_in}
use Rattle.tree_model.specs.Entries.{Entries, put, del, set, changed}
use Rattle.tree_model.specs.Keys.{key_cmp}
use Rattle.tree_model.specs.declared.change.Change.{Change}
use Rattle.tree_model.specs.declared.key.Key.{Key}
use Rattle.tree_model.specs.declared.record.Record.{Record}
use Rattle.tree_model.proofs.Orders.{by_cases}
use Rattle.call_contract.specs.Calls.{CallMeaning}
use Rattle.call_contract.specs.States.{State}
use Rattle.tx_core.specs.declared.parts.Parts.{Parts}
use Rattle.tx_core.specs.Cores.{CoreView, over, HasFewMore}
use Rattle.tx_core.specs.inside.Kept.{IsCore}
use Rattle.tx_core.specs.inside.Standing.{Stands}
use Rattle.tx_core.proofs.CommitsKept.{same_prepared}
use Rattle.tx_core.proofs.Kept.{core_still}
use Rattle.tx_core.proofs.Told.{layered_seated}

module _ {C B : Type 0} (is_valid : C → Type 0) (m : CallMeaning C) (told : B → Option Entries) where
  -- the parts stand for the same state where base and layers have the same contents
  merged_stands : (p q : Parts C B) → q ≡ record p { base = q.base; layers = q.layers } → contents_after q.layers.changes (told q.base) ≡ contents_after p.layers.changes (told p.base)
      → (st : State C) → Stands is_valid m told p st → Stands is_valid m told q st
  merged_stands p q same contents st stands = subst (λ (x : Parts C B). Stands is_valid m told x st) (sym same) one
    where
      one : Stands is_valid m told (record p { base = q.base; layers = q.layers }) st
      one = record {
        committed = contents ∙ stands.committed;
        valid = stands.valid;
        seats = stands.seats;
        ordinals = stands.ordinals;
        table = stands.table;
        graph = stands.graph;
        queue = stands.queue;
        rise = stands.rise;
        opened = stands.opened;
        limit = stands.limit;
        number = stands.number;
        begun = stands.begun;
      }

  pub core_merged : (count : B → ℕ) (opening : B) (number limit : ℕ) (p q : Parts C B) → q ≡ record p { base = q.base; layers = q.layers } → q.layers.spare ≡ p.layers.spare
      → contents_after q.layers.changes (told q.base) ≡ contents_after p.layers.changes (told p.base) → count p.base ≤ count q.base → IsCore is_valid m told count opening number limit p → IsCore is_valid m told count opening number limit q
  core_merged count opening number limit p q same spare contents later core =
      core_still is_valid m told count opening number limit p q core (ap (λ (x : Parts C B). x.book.items) same) later (merged_stands p q same contents)
      (layered_seated p q q.base q.layers p.prepared core.seated same
      (same_prepared p q (ap (λ (x : Parts C B). x.prepared) same) (ap (λ (x : Parts C B). x.places.entries) same) spare core.seated.prepared))

-- ---- how many entries changes take out

put_longer : (x : Key × Record) (es : Entries) → length es ≤ length (put x es)
put_longer x [] = omega arith
put_longer x (e ∷ es) =
    let rest = put_longer x es in
    by_cases (λ v. length (e ∷ es) ≤ length v) (key_cmp x.0 e.0) (x ∷ e ∷ es) (x ∷ es) (e ∷ put x es) (λ _. omega arith) (λ _. omega arith) (λ _. omega (arith, rest))

del_shorter : (k : Key) (es : Entries) → length es ≤ length (del k es) + 1
del_shorter k [] = omega arith
del_shorter k (e ∷ es) =
    let rest = del_shorter k es in
    by_cases (λ v. length (e ∷ es) ≤ length v + 1) (key_cmp k e.0) (e ∷ es) es (e ∷ del k es) (λ _. omega arith) (λ _. omega arith) (λ _. omega (arith, rest))

set_shorter : (k : Key) (o : Option Record) (es : Entries) → length es ≤ length (set k o es) + deletion o
set_shorter k None es = del_shorter k es
set_shorter k (Some r) es = let more = put_longer (k, r) es in omega (arith, more)

changed_shorter : (cs : List Change) (es : Entries) → length es ≤ length (changed cs es) + deletions_in cs
changed_shorter [] es = omega arith
changed_shorter (c ∷ cs) es =
    let one = set_shorter c.key c.now es in
    let rest = changed_shorter cs (set c.key c.now es) in
    omega (arith, one, rest)

-- where few are kept, and all are counted
pub few_more : {A E : Type 0} (r : Result A E) (cs : List Change) (base : Entries) (d : ℕ) → OnOk r (d ≤ 64 + length base / 256) → OnOk r (deletions_in cs ≤ d) → OnOk r (HasFewMore base (Some (changed cs base)))
few_more (Ok a) cs base d few counted = let all = changed_shorter cs base in omega (arith, all, counted, few)
few_more (Err e) cs base d few counted = tt

-- a core over the base that it had is as it was
pub stays_on_err : {A E C B : Type 0} (r : Result A E) (v w : CoreView C B) (base : B) → w ≡ over v w.base → base ≡ v.base → OnErr r (w.base ≡ base) → OnErr r (w ≡ v)
stays_on_err (Ok a) v w base same old kept = tt
stays_on_err (Err e) v w base same old kept = same ∙ ap (over v) (kept ∙ old)
