-- Ports that count their lines.
use Rattle.std.specs.Prelude.{◌≡◌, ◌+◌, List, [], ◌++◌, length}
use Rattle.std.proofs.Common.{◌∙◌, sym, ap, length-append}
use Rattle.std.proofs.Math.Nat.{add_assoc, add-zero}
use Rattle.worker_tests.specs.declared.counting.CountingPort.{CountingPort}
use Rattle.worker_run.specs.Ports.{Exchange, Ports}

-- each line that is done counts one, and a fault or an end none
abbrev pub counting : Ports CountingPort
counting = record {
  told = λ p. record { session = p.session; fault = p.fault; live = p.live };
  did = λ p xs q. q.lines ≡ p.lines + length xs;
  met = λ p c fault q. q.lines ≡ p.lines;
  ended = λ p q. q.lines ≡ p.lines;
}

pub counted_nothing : (p : CountingPort) → counting.did p [] p
counted_nothing p = sym (add-zero p.lines)

pub counted_on : (p q r : CountingPort) (xs ys : List Exchange) → counting.did p xs q → counting.did q ys r → counting.did p (xs ++ ys) r
counted_on p q r xs ys a b = b ∙ ap (λ n. n + length ys) a ∙ add_assoc p.lines (length xs) (length ys) ∙ ap (λ n. p.lines + n) (sym (length-append xs ys))
