use Rattle.std.proofs.Common.{◌≡◌, true, false, ◌++◌, ◌∷◌, [], refl, sym, ◌∙◌}
use Rattle.tree_model.specs.Entries.{changed}
use Rattle.recovery.specs.inside.Merging.{begins_at}
use Rattle.recovery.proofs.MergeLaws.{limit_behind, record_gone, record_stays}
use Rattle.recovery.proofs.merging.take_record.Goals as goal

pub returns-then-begins_at-clause-taken : goal.returns-then-begins_at-clause-taken
returns-then-begins_at-clause-taken c taken has =
    let entry = c.args.entry.now in
    let left = c.in_ok-left.left.now in
    let begins : begins_at left entry.0 ≡ true = sym c.begins_at.ensures ∙ c.if-begins_at.true in
    let put = c.in_ok-left.ensures.put taken has in
    record {
      made = put.made;
      has = put.has;
      all = λ es s. record_gone entry left put.made es (taken ++ changed c.args.changes.now (entry ∷ es)) begins s (put.all (entry ∷ es) (limit_behind entry es s));
    }

pub returns-clause-taken : goal.returns-clause-taken
returns-clause-taken c taken has =
    let entry = c.args.entry.now in
    let left = c.in_ok-left.left.now in
    let begins : begins_at left entry.0 ≡ false = sym c.begins_at.ensures ∙ c.if-begins_at.false in
    let put = c.in_ok-left.ensures.put taken has in
    record {
      made = put.made ++ entry ∷ [];
      has = c.in_ok-take.ensures put.made put.has;
      all = λ es s. record_stays entry left put.made (put.made ++ entry ∷ []) es (taken ++ changed c.args.changes.now (entry ∷ es)) begins
          c.in_ok-left.ensures.none c.in_ok-left.ensures.rising refl (put.all (entry ∷ es) (limit_behind entry es s));
    }
