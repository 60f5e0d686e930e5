use Rattle.std.proofs.Common.{ap, length, arith}
use Rattle.shared_store.specs.inside.Desks.{list_in}
use Rattle.shared_store.proofs.Weaves.{list_length}
use Rattle.shared_store.proofs.desk.DeskGrows.count.Goals as goal

pub returns : goal.returns
returns g c =
    let d = c.self.inside in
    let l = list_length d.first.value d.core.book d.drains.items c.self.invariant.0.rise in
    let e = ap (λ z. length (list_in z)) c.self.view_is in
    let a = ap length c.book.ensures.book in
    let b = ap length c.as_slice.ensures.value in
    omega (arith, l, e, a, b)
