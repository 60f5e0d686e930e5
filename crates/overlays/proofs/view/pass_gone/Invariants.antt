use Rattle.std.proofs.Common.{◌≡◌, ◌≤◌, ◌+◌, true, false, is_lt, Option, Some, None, option_copied}
use Rattle.std.specs.Prelude.{◌||◌, IfSome}
use Rattle.tree_model.specs.declared.key.Key.{Key}
use Rattle.tree_model.specs.declared.record.Record.{Record}
use Rattle.tree_model.specs.Entries.{Entries, get}
use Rattle.tree_model.specs.Changes.{now_at, laid, seen}
use Rattle.overlays.specs.Directions.{cmp_toward, Ahead}
use Rattle.overlays.specs.Stretches.{is_covered}
use Rattle.overlays.specs.Steps.{most_steps}
use Rattle.overlays.specs.inside.Nearest.{IsNearest, as_pair}
use Rattle.overlays.specs.inside.Passing.{is_past}
use Rattle.overlays.proofs.SeenLaws.{left_from}
use Rattle.overlays.proofs.view.pass_gone.Given as goal

abbrev pub invariant-loop-gone : goal.invariant-loop-gone
invariant-loop-gone g l = record {
  unchanged : g.S.NodeRead.unchanged l.fn.base l.base;
  counted : g.S.NodeRead.count l.base ≡ g.S.NodeRead.count l.fn.base;
  reads : g.S.NodeRead.reads l.base + most_steps l.toward l.at l.gaps (laid l.own l.layers.changes) ≤ g.S.NodeRead.reads l.fn.base + most_steps l.toward l.key l.gaps (laid l.own l.layers.changes);
  few : l.steps ≤ 4 → g.S.NodeRead.reads l.base ≤ g.S.NodeRead.reads l.fn.base + l.steps;
  start : option_copied l.near ≡ None → l.steps ≡ 0;
  beyond : (j : Key) → Ahead l.toward l.at j → Ahead l.toward l.key j;
  near : IfSome (option_copied l.near) (Ahead l.toward l.key);
  reached : IfSome (option_copied l.near) (λ n. is_lt (cmp_toward l.toward l.at n) ≡ false);
  change : IsNearest l.toward l.at (λ j. now_at j (laid l.own l.layers.changes)) (as_pair (option_copied l.change));
  covers : (j : Key) → Ahead l.toward l.key j → is_lt (cmp_toward l.toward l.at j) ≡ false → now_at j (laid l.own l.layers.changes) ≡ Some None
      → (is_covered l.gaps j || is_past l.toward (option_copied l.near) j) ≡ true;
  goes_on : (es : Entries) → g.S.NodeRead.contents l.fn.base ≡ Some es → (o : Option (Key × Record))
      → IsNearest l.toward l.at (λ j. seen (now_at j (laid l.own l.layers.changes)) (get j es)) o
      → IsNearest l.toward l.key (λ j. seen (now_at j (laid l.own l.layers.changes)) (get j es)) o;
}

abbrev pub decreases-loop-gone : goal.decreases-loop-gone
decreases-loop-gone g l = left_from l.toward (laid l.own l.layers.changes) (option_copied l.change)
