use Rattle.std.proofs.Common.{rules, sym, ap, ◌∙◌, subst, ◌≡◌, ◌<◌, ℕ, suc, List, ◌∷◌, ◌++◌, length, take, drop, get_or, take-append-drop, drop-cons}
use Rattle.std.specs.Prelude.{Some, Err}
use Rattle.workers_text.specs.Limits.{too_long_in}
use Rattle.workers_text.specs.inside.Inputs.{IfTooLong}
use Rattle.workers_text.proofs.Taking.{long_yet}
use Rattle.workers_text.proofs.input.Input.take_piece.Goals as goal

cut : (xs : List ℕ) (i d : ℕ) → i < length xs → xs ≡ take i xs ++ get_or xs i d ∷ drop (suc i) xs
cut xs i d lt = sym (take-append-drop i xs) ∙ ap (λ t. take i xs ++ t) (drop-cons xs i d lt)

pub returns-in_err-take-clause-long : goal.returns-in_err-take-clause-long
returns-in_err-take-clause-long c =
    let piece = c.args.piece.now in
    let at = c.loop-byte.byte-index in
    let now = c.args.self.now in
    let e = c.in_err-take.field-0.0 in
    let invariant = c.loop-byte.invariant in
    let lt : at < length piece = search rules in
    let stop : c.from_residual.result ≡ Err e = search rules in
    subst (λ r. IfTooLong r (λ line. too_long_in now.most now.short (now.bytes ++ piece) ≡ Some line)) (sym stop)
    (long_yet c.loop-byte.self now _ piece (take at piece) (drop (suc at) piece) e invariant.most invariant.short invariant.bytes (cut piece at 0 lt) c.in_err-take.ensures.long)
