use Rattle.std.proofs.Common.{◌≡◌, ℕ, ◌+◌, ◌-◌, ◌^◌, min, ◌≤◌, ◌⊎◌, true, false, is_lt, List, [], Option, Some, None, option_copied, refl, sym, subst, ap, ◌∙◌, arith}
use Rattle.std.proofs.Common.{Bor}
use Rattle.std.specs.Prelude.{◌||◌, IfSome}
use Rattle.std.specs.Option.{option_or}
use Rattle.tree_model.specs.declared.key.Key.{Key}
use Rattle.tree_model.specs.declared.change.Change.{Change}
use Rattle.tree_model.specs.Entries.{Entries, get, changed}
use Rattle.tree_model.specs.Changes.{now_at, laid, seen}
use Rattle.overlays.specs.Views.{contents_after}
use Rattle.overlays.specs.Directions.{cmp_toward, Ahead}
use Rattle.overlays.specs.Stretches.{is_covered, IsEmpty}
use Rattle.overlays.specs.Steps.{most_steps}
use Rattle.overlays.specs.inside.Nearest.{IsNearest, as_pair, entry_beside}
use Rattle.overlays.specs.inside.Passing.{key_gone, first_gone, Spans, HasCome, is_past, AllCovered, with_piece}
use Rattle.overlays.specs.declared.direction.Direction.{Direction}
use Rattle.overlays.specs.declared.gaps.Stretch.{Stretch}
use Rattle.overlays.proofs.Directions.{toward_trans, toward_itself}
use Rattle.overlays.proofs.NearestLaws.{entry_found}
use Rattle.overlays.proofs.SeenLaws.{known_found, gone_first}
use Rattle.overlays.proofs.StretchLaws.{nearest_skipped, seen_empty, gone_is, some_on, steps_less, steps_fall, or_left}
use Rattle.overlays.proofs.PassLaws.{gone_nearest, gone_falls, last_reads, noted_come, covers_on, reached_on, ahead_or, some_near, settled_at, passed_empty}
use Rattle.overlays.proofs.view.pass_gone.Goals as goal

none_is : {A : Type 0} (o : Option A) → ((x : A) → o ≡ Some x → ⊥) → o ≡ None
none_is None h = refl
none_is (Some x) h = absurd (h x refl)

or_copied : (a b : Option (Bor Key)) → option_copied (option_or a b) ≡ option_or (option_copied a) (option_copied b)
or_copied None b = refl
or_copied (Some x) b = refl

few_on : (n s a b c : ℕ) → s ≡ min (n + 1) (2 ^ 64 - 1) → (n ≤ 4 → b ≤ a + n) → c ≤ b + 1 → s ≤ 4 → c ≤ a + s
few_on n s a b c is f h l = let m : n + 1 ≡ s = omega (arith, is, l) in let r = f (omega (arith, m, l)) in omega (arith, m, r, h)

init_reads : (a : ℕ) (w : Direction) (k r : Key) (ss : List Stretch) (cs : List Change) → ((j : Key) → Ahead w r j → Ahead w k j) → a + most_steps w r ss cs ≤ a + most_steps w k ss cs
init_reads a w k r ss cs f = let less = steps_less w k r ss cs f in omega (arith, less)

next_reads : (a b c m n x : ℕ) → n + 1 ≤ m → b + m ≤ a + x → c ≤ b + 1 → c + n ≤ a + x
next_reads a b c m n x f h g = omega (arith, f, h, g)

last : (a b c m x : ℕ) → c ≤ b + m → b + m ≤ a + x → c ≤ a + x
last a b c m x f h = omega (arith, f, h)

one_read : (a b c n : ℕ) → (n ≤ 4 → b ≤ a + n) → c ≤ b + 1 → n ≤ 4 → c ≤ a + (n + 1)
one_read a b c n f h l = let r = f l in omega (arith, r, h)

pub loop-gone-init : goal.loop-gone-init
loop-gone-init g c =
    let law = g.met.S.NodeRead in
    let w = c.args.toward in
    let k = c.args.key.now in
    let r = c.skip-at.result.now in
    let ss = c.args.gaps.now in
    let own = c.args.own.now in
    let low = c.args.layers.now.changes in
    let skips = c.skip-at.ensures.skips in
    let sorted = c.faults-faults.ensures.in_order in
    record {
      unchanged = law.unchanged_itself _;
      counted = refl;
      reads = init_reads (g.S.NodeRead.reads c.args.base.now) w k r ss (laid own low) skips.beyond;
      few = λ _. omega arith;
      start = λ _. refl;
      beyond = skips.beyond;
      near = c.if_ahead-near.ensures.ahead;
      reached = some_on (λ n. n ≡ r) (λ n. is_lt (cmp_toward w r n) ≡ false) (option_copied c.if_ahead-near.result) (λ n e. ap (λ v. is_lt (cmp_toward w r v)) e ∙ ap is_lt (toward_itself w r)) c.if_ahead-near.ensures.same;
      change = c.change_ahead-change.ensures.nearest;
      covers = λ j x y _. or_left (is_covered ss j) (is_past w (option_copied c.if_ahead-near.result) j) (skips.covered j x y);
      goes_on = λ es t o n. nearest_skipped w k r ss (λ j. seen (now_at j (laid own low)) (get j es)) skips
          (seen_empty ss own low es c.change_ahead-change.ensures.own.rise c.change_ahead-change.ensures.layers.rise (sorted es t)
          (c.requires.empty (changed own (changed low es)) (ap (λ o. contents_after own (contents_after low o)) t))) o n;
    }

pub loop-gone-smaller : goal.loop-gone-smaller
loop-gone-smaller g c =
    let gone : key_gone (option_copied c.loop-gone.change) ≡ Some c.in-Some.gone.now = subst (λ (o : Option (Bor Key)). IfSome (option_copied o) (λ k. key_gone (option_copied c.loop-gone.change) ≡ Some k)) c.in-Some.is c.in_ok-gone.ensures.gone in
    gone_falls c.args.toward (laid c.args.own.now c.args.layers.now.changes) (option_copied c.loop-gone.change) c.in-Some.gone.now c.skip-at-in-Some.result.now
    (option_copied c.change_ahead-change-in-Some.result) gone c.skip-at-in-Some.ensures.skips.beyond c.change_ahead-change-in-Some.ensures.nearest

pub loop-gone-preserved : goal.loop-gone-preserved
loop-gone-preserved g c =
    let law = g.met.S.NodeRead in
    let inv = c.loop-gone.invariant in
    let w = c.args.toward in
    let k = c.args.key.now in
    let at = c.loop-gone.at.now in
    let gone = c.in-Some.gone.now in
    let r = c.skip-at-in-Some.result.now in
    let ss = c.args.gaps.now in
    let own = c.args.own.now in
    let low = c.args.layers.now.changes in
    let cs = laid own low in
    let skips = c.skip-at-in-Some.ensures.skips in
    let sorted = c.faults-faults.ensures.in_order in
    let change = option_copied c.loop-gone.change in
    let is_gone : key_gone change ≡ Some gone = subst (λ (o : Option (Bor Key)). IfSome (option_copied o) (λ k. key_gone change ≡ Some k)) c.in-Some.is c.in_ok-gone.ensures.gone in
    let here = gone_nearest w at (λ j. now_at j cs) change gone inv.change is_gone in
    let near : option_copied c.or-near.result ≡ option_or (option_copied c.loop-gone.near) (Some gone) = ap option_copied c.or-near.ensures ∙ or_copied c.loop-gone.near (Some c.in-Some.gone) in
    record {
      unchanged = law.unchanged_onward _ _ _ inv.unchanged c.in_ok-gone.ensures.unchanged;
      counted = c.in_ok-gone.ensures.cause.exact ∙ inv.counted;
      reads = next_reads (g.S.NodeRead.reads c.args.base.now) (g.S.NodeRead.reads c.loop-gone.base) (g.S.NodeRead.reads c.next_gone.new.base) (most_steps w at ss cs) (most_steps w r ss cs) (most_steps w k ss cs)
          (steps_fall w at gone r ss cs here.0 here.1 skips.beyond skips.before c.skip-at-in-Some.ensures.end) inv.reads c.next_gone.ensures.reads;
      few = few_on c.loop-gone.steps c.saturating_add-steps.result (g.S.NodeRead.reads c.args.base.now) (g.S.NodeRead.reads c.loop-gone.base) (g.S.NodeRead.reads c.next_gone.new.base) c.saturating_add-steps.ensures inv.few c.next_gone.ensures.reads;
      start = λ n. absurd (some_near (option_copied c.loop-gone.near) gone (sym near ∙ n));
      beyond = λ j a. inv.beyond j (toward_trans w at gone j here.0 (skips.beyond j a));
      near = subst (λ o. IfSome o (Ahead w k)) (sym near) (ahead_or (Ahead w k) (option_copied c.loop-gone.near) gone inv.near (inv.beyond gone here.0));
      reached = subst (λ o. IfSome o (λ n. is_lt (cmp_toward w r n) ≡ false)) (sym near) (reached_on w at gone r (option_copied c.loop-gone.near) inv.reached here.0 skips.beyond);
      change = c.change_ahead-change-in-Some.ensures.nearest;
      covers = subst (λ o. (j : Key) → Ahead w k j → is_lt (cmp_toward w r j) ≡ false → now_at j cs ≡ Some None → (is_covered ss j || is_past w o j) ≡ true) (sym near)
          (covers_on w k at gone r (option_copied c.loop-gone.near) cs ss inv.covers inv.reached here);
      goes_on = λ es t o n.
          let first : Some gone ≡ first_gone w (entry_beside w at es) change = subst (λ (v : Option (Bor Key)). option_copied v ≡ first_gone w (entry_beside w at es) change) c.in-Some.is (c.in_ok-gone.ensures.value es (law.unchanged_contents _ _ inv.unchanged ∙ t)) in
          let is = gone_is w at (λ j. now_at j cs) (entry_beside w at es) change gone inv.change (sym first) in
          inv.goes_on es t o (gone_first w at (λ j. now_at j cs) (λ j. get j es) (entry_beside w at es) (entry_found w at es (sorted es t)) gone is.0 is.1 o
          (nearest_skipped w gone r ss (λ j. seen (now_at j cs) (get j es)) skips
          (seen_empty ss own low es c.change_ahead-change.ensures.own.rise c.change_ahead-change.ensures.layers.rise (sorted es t)
          (c.requires.empty (changed own (changed low es)) (ap (λ o. contents_after own (contents_after low o)) t))) o n));
    }

pub returns-clause-come : goal.returns-clause-come
returns-clause-come g c =
    let law = g.met.S.NodeRead in
    let inv = c.loop-gone.invariant in
    let w = c.args.toward in
    let at = c.loop-gone.at.now in
    let cs = laid c.args.own.now c.args.layers.now.changes in
    let change = option_copied c.loop-gone.change in
    let none = none_is c.in_ok-gone.field-0 c.in_default.not-Some in
    subst (HasCome w c.args.key.now cs (g.S.NodeRead.contents c.args.base.now)) (sym c.in_ok-at.ensures)
    (record {
      beyond = inv.beyond;
      goes_on = inv.goes_on;
      settled = λ es t. settled_at w at cs es change inv.change (sym (subst (λ (v : Option (Bor Key)). option_copied v ≡ first_gone w (entry_beside w at es) change) none (c.in_ok-gone.ensures.value es (law.unchanged_contents _ _ inv.unchanged ∙ t))));
    })

pub returns-clause-next : goal.returns-clause-next
returns-clause-next g c =
    subst (λ v. IsNearest c.args.toward v (λ j. now_at j (laid c.args.own.now c.args.layers.now.changes)) (as_pair (option_copied c.loop-gone.change))) (sym c.in_ok-at.ensures) c.loop-gone.invariant.change

pub returns-clause-passed : goal.returns-clause-passed
returns-clause-passed g c =
    let inv = c.loop-gone.invariant in
    let w = c.args.toward in
    let at = c.loop-gone.at.now in
    let own = c.args.own.now in
    let low = c.args.layers.now.changes in
    some_on (Spans w (option_copied c.loop-gone.near) at) (λ s. (es : Entries) → contents_after own (contents_after low (g.S.NodeRead.contents c.args.base.now)) ≡ Some es → IsEmpty s es) c.in_ok-stretch.stretch
    (λ s z. known_found own low (g.S.NodeRead.contents c.args.base.now) (IsEmpty s) (λ es t.
    passed_empty w c.args.key.now at own low es c.change_ahead-change.ensures.own.rise c.change_ahead-change.ensures.layers.rise (c.faults-faults.ensures.in_order es t) (option_copied c.loop-gone.near) s inv.near z (inv.goes_on es t)))
    c.in_ok-stretch.ensures.spans

pub returns-clause-noted : goal.returns-clause-noted
returns-clause-noted g c =
    let inv = c.loop-gone.invariant in
    let w = c.args.toward in
    let k = c.args.key.now in
    let at = c.loop-gone.at.now in
    let cs = laid c.args.own.now c.args.layers.now.changes in
    let ss = c.args.gaps.now in
    let s = c.in_ok-stretch.stretch in
    let old = g.S.NodeRead.reads c.args.base.now in
    let new = g.S.NodeRead.reads c.next_gone.new.base in
    subst (λ v. (new ≤ old + 5) ⊎ AllCovered w k v cs ss (with_piece s [])) (sym c.in_ok-at.ensures)
    (noted_come w k at (option_copied c.loop-gone.near) cs ss s c.loop-gone.steps old new c.in_ok-stretch.ensures.spans c.in_ok-stretch.ensures.few inv.start
    (one_read old (g.S.NodeRead.reads c.loop-gone.base) new c.loop-gone.steps inv.few c.next_gone.ensures.reads) inv.covers)

pub returns-clause-reads : goal.returns-clause-reads
returns-clause-reads g c =
    let inv = c.loop-gone.invariant in
    let w = c.args.toward in
    let at = c.loop-gone.at.now in
    let cs = laid c.args.own.now c.args.layers.now.changes in
    let ss = c.args.gaps.now in
    last (g.S.NodeRead.reads c.args.base.now) (g.S.NodeRead.reads c.loop-gone.base) (g.S.NodeRead.reads c.next_gone.new.base) (most_steps w at ss cs) (most_steps w c.args.key.now ss cs)
    (last_reads w at ss cs (option_copied c.loop-gone.change) (g.S.NodeRead.reads c.loop-gone.base) (g.S.NodeRead.reads c.next_gone.new.base) inv.change c.next_gone.ensures.unread c.next_gone.ensures.reads) inv.reads
