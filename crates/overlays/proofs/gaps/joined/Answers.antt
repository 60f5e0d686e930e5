use Rattle.std.proofs.Common.{◌<◌, ◌||◌, false, length, arith}
use Rattle.overlays.specs.Stretches.{is_in}
use Rattle.overlays.proofs.StretchLaws.{joined_within, joined_whole, or_left, or_right}
use Rattle.overlays.proofs.gaps.joined.Goals as goal

pub loop-place-preserved-then-meet : goal.loop-place-preserved-then-meet
loop-place-preserved-then-meet c =
    let l : c.loop-place.place < length c.loop-place.stretches.items = omega (arith, c.loop-place-test.true, c.len.ensures) in
    record {
      within = λ j h. c.loop-place.invariant.within j (joined_within c.join-whole.result c.remove.result c.loop-place.whole c.loop-place.stretches.items c.remove.new.self.items c.loop-place.place l c.remove.ensures.value c.remove.ensures.items c.join-whole.ensures.within j h);
      whole = λ j h. joined_whole c.join-whole.result c.remove.result c.loop-place.whole c.loop-place.stretches.items c.remove.new.self.items c.loop-place.place l c.remove.ensures.value c.remove.ensures.items c.join-whole.ensures.whole j (c.loop-place.invariant.whole j h);
      has = λ j h. c.join-whole.ensures.whole j (or_right (is_in c.remove.result j) (is_in c.loop-place.whole j || false) (or_left (is_in c.loop-place.whole j) false (c.loop-place.invariant.has j h)));
    }
