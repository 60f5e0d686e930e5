use Rattle.std.proofs.Common.{arith, sym, ◌∙◌}
use Rattle.outside_traits.proofs.ByteLaws.{bytes_are}
use Rattle.node_pages.proofs.ScanLaws.{first_fits}
use Rattle.node_pages.proofs.scan.Scan.page.Goals as goal

pub items-requires : goal.items-requires
items-requires c = record {
  fits = first_fits c.args.bytes.now c.in-Some.entries (bytes_are c.args.bytes.now (λ i. omega (arith, c.type_inv.bytes i))) (sym c.in_ok-entries.ensures ∙ c.in-Some.is);
}
