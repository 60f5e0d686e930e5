use Rattle.std.proofs.Common.{ℕ, List, Option, IfSome, nat_cmp, ap, subst, ◌∙◌, arith}
use Rattle.std.specs.Cmp.Lexicographic.{slice_cmp}
use Rattle.outside_traits.proofs.ByteLaws.{bytes_are}
use Rattle.paged_seq.specs.Places.{comes}
use Rattle.paged_seq.specs.Sizes.{SortsAs}
use Rattle.paged_seq.proofs.SizeLaws.{sorts_there}
use Rattle.paged_seq.proofs.search.passes_there.Goals as goal

pub returns : goal.returns
returns c e is count =
    let so = subst (λ (o : Option (List ℕ)). IfSome o (SortsAs c.args.key.now)) c.in-Some.is c.requires.sorting in
    let fits = bytes_are c.args.bytes.now (λ i. omega (arith, c.type_inv.bytes i)) in
    c.comes.ensures
    ∙ ap (comes c.args.beyond) (c.cmp.ensures ∙ (λ i. slice_cmp nat_cmp (c.split_at.ensures.front i) (c.as_slice.ensures i)) ∙ sorts_there c.args.bytes.now c.in-Some.sorting c.args.size c.args.key.now e fits is count so.same so.writable)
