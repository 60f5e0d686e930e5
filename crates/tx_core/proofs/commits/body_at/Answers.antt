use Rattle.std.proofs.Common.{◌≡◌, Some, sym, ap, ◌∙◌}
use Rattle.std.specs.Ordering.{nat_cmp}
use Rattle.std.specs.BTreeMap.{is_at}
use Rattle.std.specs.Map.{lookup}
use Rattle.tx_core.proofs.Seats.{written_again}
use Rattle.tx_core.proofs.commits.body_at.Goals as goal

pub returns-in-Some-clause-same : goal.returns-in-Some-clause-same
returns-in-Some-clause-same c =
    let place = c.body_on.new.place in
    let old = c.args.places.now.entries in
    let has : lookup (is_at (nat_cmp c.args.session)) old ≡ Some place = sym c.in-Some.ensures.value ∙ ap Some (sym c.body_on.ensures.same) in
    (c.get_mut.follows.holds place).0 ∙ written_again (is_at (nat_cmp c.args.session)) old place has
