use Rattle.overlays.proofs.StretchLaws.{all_out_within}
use Rattle.tx_core.specs.inside.Passed.{stretches_of}
use Rattle.tx_core.proofs.PassedOn.{again_within, on_ok, own_within}
use Rattle.tx_core.proofs.passed.lay_own.Goals as goal

pub returns-clause-fewer : goal.returns-clause-fewer
returns-clause-fewer c =
    again_within c.args.session c.args.passed.now.items c.take_passed-gaps.new.passed.items c.keep_passed.new.passed.items c.cut_puts.new.self c.take_passed-gaps.ensures.fewer
    (λ j h. c.take_passed-gaps.ensures.taken j (c.cut_puts.ensures.within j h)) c.keep_passed.ensures

pub returns-clause-out : goal.returns-clause-out
returns-clause-out c =
    on_ok c.add.result
    (all_out_within c.args.changes (stretches_of c.keep_passed.new.passed.items c.args.session) c.cut_puts.new.self
    (own_within c.args.session c.take_passed-gaps.new.passed.items c.keep_passed.new.passed.items c.cut_puts.new.self c.take_passed-gaps.ensures.out c.keep_passed.ensures) c.in_ok-cut_puts.ensures.out)
