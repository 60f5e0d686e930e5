use Rattle.std.proofs.Common.{rules, ◌≡◌, ◌∙◌, ◌≤◌, ◌<◌, ◌+◌, length, vec_capacity, slice_index_or, sym, ap, subst, take}
use Rattle.std.specs.List.{AllZip}
use Rattle.worker_run.specs.Workers.{own_lines}
use Rattle.worker_run.specs.inside.Seating.{IsRoom}
use Rattle.worker_run.proofs.SeatLaws.{more_rooms}
use Rattle.worker_run.proofs.seats.rooms_for.Goals as goal

-- src/seats.rt:36:5
pub loop-port-preserved : goal.loop-port-preserved
loop-port-preserved g c =
    let m = g.T.SessionPort.ports in
    let lines = c.args.lines.now in
    let lt : c.loop-port.port-index < length c.args.ports.now = search rules in
    let at : c.port-item.result ≡ slice_index_or c.args.ports.now c.loop-port.port-index c.port-item.result = search rules in
    let enough : length (own_lines (m.told c.port-item.result).session lines) ≤ vec_capacity c.in_ok-with_capacity.field-0 =
    subst (λ n. n ≤ vec_capacity c.in_ok-with_capacity.field-0) (c.count_lines-count.ensures ∙ ap (λ s. length (own_lines s lines)) c.session.ensures) c.in_ok-with_capacity.ensures.capacity in
    let room : IsRoom m lines c.port-item.result c.in_ok-with_capacity.field-0 = (c.in_ok-with_capacity.ensures.items, enough) in
    subst (AllZip (IsRoom m lines) (take (c.loop-port.port-index + 1) c.args.ports.now)) (sym c.in_ok-push.ensures.items)
    (more_rooms (IsRoom m lines) c.args.ports.now c.loop-port.rooms.items c.loop-port.port-index c.port-item.result c.in_ok-with_capacity.field-0 lt at c.loop-port.invariant room)
