use Rattle.std.proofs.Common.{arith, sym, ap, ◌∙◌}
use Rattle.node_pages.specs.DirectoryPages.{Compared, at_directory_end}
use Rattle.node_pages.proofs.ScanLaws.{few_left}
use Rattle.node_pages.proofs.directory_scan.DirectoryScan.finish.Goals as goal

pub returns-then-self-len-clause-broken : goal.returns-then-self-len-clause-broken
returns-then-self-len-clause-broken c =
    let s = c.self.inside in
    ap (λ (d : Compared). at_directory_end d) (sym c.self.view_is) ∙ few_left s.at s.before s.pages s.starts (omega arith)
