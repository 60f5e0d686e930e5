use Rattle.std.proofs.Common.{◌≡◌, true, ◌++◌, ◌∷◌, List, option_copied, refl, sym, ap, subst, ◌∙◌}
use Rattle.tree_model.specs.Changes.{Rising}
use Rattle.tree_model.specs.Entries.{changed}
use Rattle.tree_model.specs.declared.change.Change.{Change}
use Rattle.recovery.specs.inside.Merging.{NoneBefore, comes_before, standing}
use Rattle.recovery.proofs.MergeLaws.{one_put}
use Rattle.recovery.proofs.merging.put_before.Goals as goal

pub loop-change-init : goal.loop-change-init
loop-change-init c = record {
  rising = c.requires.rising;
  put = λ taken has. record { made = taken; has = has; all = λ es behind. refl };
}

pub loop-change-preserved : goal.loop-change-preserved
loop-change-preserved c =
    let limit = option_copied c.args.limit in
    let change = c.in-Some.change.now in
    let behind = c.in-Some.behind.now in
    let is : c.loop-change.left.now ≡ change ∷ behind = c.in-Some.ensures.cases.0 in
    let inv = c.loop-change.invariant in
    let rising = subst Rising is inv.rising in
    let before : comes_before change.key limit ≡ true = sym c.comes_before.ensures ∙ c.if-not-comes_before.false in
    record {
      rising = rising.1;
      put = λ taken has.
          let put = inv.put taken has in
          record {
            made = put.made ++ standing change.key change.now;
            has = c.in_ok-put_one.ensures put.made put.has;
            all = λ es h. one_put limit change behind put.made (put.made ++ standing change.key change.now) es (taken ++ changed c.args.changes.now es) rising before refl h
                (ap (λ (cs : List Change). put.made ++ changed cs es) (sym is) ∙ put.all es h);
          };
    }

pub returns-then-not-comes_before-clause-none : goal.returns-then-not-comes_before-clause-none
returns-then-not-comes_before-clause-none c =
    let limit = option_copied c.args.limit in
    let is : c.loop-change.left.now ≡ c.in-Some.change.now ∷ c.in-Some.behind.now = c.in-Some.ensures.cases.0 in
    subst (NoneBefore limit) (sym is) (sym c.comes_before.ensures ∙ c.if-not-comes_before.true)
