use Rattle.std.proofs.Common.{◌≡◌, ◌∷◌, ℕ, List, length, rules, sym, ap, subst, ◌∙◌, arith}
use Rattle.std.specs.Prelude.{Result, Err}
use Rattle.std.specs.Vec.Iter.{into_iter_items}
use Rattle.node_records.specs.declared.entries.Entry.{Entry}
use Rattle.node_pages.specs.Scanning.{Scanned, after_entries, after_entry, and_then}
use Rattle.node_pages.specs.ScanFaults.{IfBroken}
use Rattle.node_pages.specs.declared.scan_fault.ScanFault.{ScanFault}
use Rattle.node_pages.proofs.ScanLaws.{broken_then}
use Rattle.node_pages.proofs.scan.Scan.entries.Goals as goal

pub loop-entry-preserved : goal.loop-entry-preserved
loop-entry-preserved c =
    let l = c.loop-entry in
    let rest = into_iter_items c.next.new.self in
    let here : into_iter_items l.entry-iterator ≡ c.in-Some.entry ∷ rest = c.in-Some.ensures.steps.0 in
    record {
      entries =
          ap (λ (r : Result Scanned ℕ). and_then r (λ t. after_entries t rest)) (sym c.in_ok-entry.ensures.ok)
          ∙ ap (λ (es : List Entry). after_entries l.self es) (sym here)
          ∙ l.invariant.entries;
      left = let was = l.invariant.left in let gone = c.in-Some.ensures.steps.1 in let short = ap length here in omega arith;
    }

pub returns-in_err-entry-clause-broken : goal.returns-in_err-entry-clause-broken
returns-in_err-entry-clause-broken c =
    let l = c.loop-entry in
    let rest = into_iter_items c.next.new.self in
    let here : into_iter_items l.entry-iterator ≡ c.in-Some.entry ∷ rest = c.in-Some.ensures.steps.0 in
    let stop : c.from_residual.result ≡ Err c.in_err-entry.field-0.0 = search rules in
    subst (λ (r : Result (Unit {0}) ScanFault). IfBroken r (λ n. after_entries c.args.self.now c.args.entries ≡ Err n)) (sym stop)
    (broken_then (Unit {0}) (Unit {0}) c.in_err-entry.field-0.0 (λ n. after_entry l.self c.in-Some.entry ≡ Err n) (λ n. after_entries c.args.self.now c.args.entries ≡ Err n)
    (λ n h. sym l.invariant.entries ∙ ap (λ (es : List Entry). after_entries l.self es) here ∙ ap (λ (r : Result Scanned ℕ). and_then r (λ t. after_entries t rest)) h) c.in_err-entry.ensures.broken)
