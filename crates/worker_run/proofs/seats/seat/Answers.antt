use Rattle.std.proofs.Common.{◌≡◌, ◌∙◌, ◌+◌, ◌≤◌, [], ◌∷◌, ◌++◌, length, vec_capacity, refl, sym, ap, subst, arith, length-append}
use Rattle.std.specs.Prelude.{reverse}
use Rattle.std.specs.List.{AllByRecursion, AllZip}
use Rattle.std.proofs.lemmas.List.{reverse-append}
use Rattle.worker_run.specs.declared.worker.Worker.{Worker}
use Rattle.worker_run.specs.inside.Merging.{IsSeated, ports_in}
use Rattle.worker_run.specs.inside.Seating.{IsRoom}
use Rattle.worker_run.proofs.SeatLaws.{both_last, moved}
use Rattle.worker_run.proofs.seats.seat.Goals as goal

-- src/seats.rt:57:5
pub loop-port-preserved : goal.loop-port-preserved
loop-port-preserved g c =
    let m = g.T.SessionPort.ports in
    let lines = c.args.lines.now in
    let before = c.loop-port.invariant in
    let port = c.in-Some.port in
    let ports = c.pop.new.self.items in
    let room = c.in-Some-pop.replies in
    let rooms = c.pop-in-Some.new.self.items in
    let workers = c.loop-port.workers.items in
    let worker : Worker g.row.T.Denot = record { port = port; replies = room } in
    let last_port : c.loop-port.ports.items ≡ ports ++ port ∷ [] = c.in-Some.ensures.items in
    let last_room : c.loop-port.rooms.items ≡ rooms ++ room ∷ [] = c.in-Some-pop.ensures.items in
    let kept : c.keep.new.items.items ≡ workers ++ worker ∷ [] = c.keep.ensures.items in
    let both = both_last (IsRoom m lines) ports rooms port room
    (subst (λ rs. AllZip (IsRoom m lines) (ports ++ port ∷ []) rs) last_room (subst (λ ps. AllZip (IsRoom m lines) ps c.loop-port.rooms.items) last_port before.0)) in
    let fewer : length c.loop-port.ports.items ≡ length ports + 1 = ap length last_port ∙ length-append ports (port ∷ []) in
    let more : length c.keep.new.items.items ≡ length workers + 1 = ap length kept ∙ length-append workers (worker ∷ []) in
    let fits : length c.loop-port.ports.items + length workers ≤ vec_capacity c.loop-port.workers = before.3 in
    let grows : vec_capacity c.loop-port.workers ≤ vec_capacity c.keep.new.items = c.keep.ensures.room in (
      both.0,
      subst (λ ws. ports ++ ports_in (reverse ws) ≡ c.args.ports.now.items) (sym kept)
          (moved (λ (w : Worker g.row.T.Denot). w.port) ports c.args.ports.now.items workers port worker refl (subst (λ ps. ps ++ ports_in (reverse workers) ≡ c.args.ports.now.items) last_port before.1)),
      subst (AllByRecursion (IsSeated m lines)) (sym (ap reverse kept ∙ reverse-append workers (worker ∷ []))) (both.1, before.2),
      omega arith,
      c.pop.ensures.capacity ∙ before.4,
    )
