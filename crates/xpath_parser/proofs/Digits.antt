-- Numbers of so many digits.
use Rattle.std.proofs.Common.{◌≡◌, ℕ, suc, ◌+◌, ◌*◌, ◌^◌, ◌<◌, ◌≤◌, add-one, lit<, arith}
use Rattle.std.proofs.Math.Nat.{pow-succ', pow-le-pow_right}

pub grown : (n i d : ℕ) → n < 10 ^ i → d ≤ 9 → n * 10 + d < 10 ^ (i + 1)
grown n i d h k = let e : 10 ^ suc i ≡ 10 * 10 ^ i = pow-succ' 10 i in rw add-one (omega (arith, e))

pub fits : (i : ℕ) → i ≤ 18 → 10 ^ i ≤ 10 ^ 18
fits i h = pow-le-pow_right {n = 10} (lit< tt) h
