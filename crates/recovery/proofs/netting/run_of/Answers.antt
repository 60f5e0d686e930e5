use Rattle.std.proofs.Common.{◌≡◌, List, true, ap, sym, subst, ◌∙◌}
use Rattle.tree_model.specs.Changes.{Rising, keys_rise}
use Rattle.tree_model.specs.Entries.{changed}
use Rattle.tree_model.specs.declared.change.Change.{Change}
use Rattle.tree_model.proofs.ChangeLists.{rising_of_test}
use Rattle.recovery.specs.inside.Nets.{as_changes}
use Rattle.recovery.proofs.NetLaws.{noted_make, noted_rise}
use Rattle.recovery.proofs.netting.run_of.Goals as goal

pub new-requires : goal.new-requires
new-requires c =
    let rise : keys_rise c.args.changes ≡ true = ap keys_rise (sym c.as_slice.ensures) ∙ sym c.rises.ensures ∙ c.if-rises.true in
    record { rising = subst Rising (sym c.into_vec.ensures) (rising_of_test c.args.changes rise) }

pub returns-then-rises : goal.returns-then-rises
returns-then-rises c = λ es s. ap (λ (cs : List Change). changed cs es) (c.new.ensures ∙ c.into_vec.ensures)

pub new-requires-2 : goal.new-requires-2
new-requires-2 c =
    let none = ap as_changes c.new-net.ensures.empty in
    record { rising = noted_rise c.args.changes (as_changes c.new-net.result.entries) c.into_vec-2.result.items none (c.into_vec-2.ensures ∙ c.in_ok-changes.ensures ∙ c.in_ok-note.ensures) }

pub returns : goal.returns
returns c = λ es s.
    let none = ap as_changes c.new-net.ensures.empty in
    ap (λ (cs : List Change). changed cs es) c.new-2.ensures
    ∙ noted_make c.args.changes (as_changes c.new-net.result.entries) c.into_vec-2.result.items es none (c.into_vec-2.ensures ∙ c.in_ok-changes.ensures ∙ c.in_ok-note.ensures) s
