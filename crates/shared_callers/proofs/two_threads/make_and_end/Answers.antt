use Rattle.shared_callers.proofs.Knowing.{after_by}
use Rattle.shared_callers.proofs.two_threads.make_and_end.Goals as goal

pub returns : goal.returns
returns g c = after_by c.args.session c.make_call.new.session c.abort-ended.new.self c.args.call c.make_call.result c.is_ok-made.result c.abort-ended.result c.is_ok-made.ensures.value c.make_call.ensures.same c.make_call.ensures.made c.abort-ended.ensures.done c.abort-ended.ensures.ended
