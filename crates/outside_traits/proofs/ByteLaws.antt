-- Lists of bytes, their parts, and bytes put at a place of them.
use Rattle.std.proofs.Common.{ℕ, zero, suc, ◌+◌, ◌-◌, ◌<◌, List, [], ◌∷◌, ◌++◌, length, get_or, take, drop, replicate, arith}
use Rattle.outside_traits.specs.Bytes.{IsBytes}
use Rattle.outside_traits.specs.Disks.{put_at, put_at_or_past}

-- the numbers at each place are bytes
pub bytes_are : (bytes : List ℕ) → ((i : ℕ) → get_or bytes i 0 < 256) → IsBytes bytes
bytes_are [] h = tt
bytes_are (b ∷ bs) h = (h 0, bytes_are bs (λ i. h (suc i)))

pub bytes-take : (n : ℕ) (bytes : List ℕ) → IsBytes bytes → IsBytes (take n bytes)
bytes-take zero bytes are = tt
bytes-take (suc n) [] are = tt
bytes-take (suc n) (b ∷ bytes) are = (are.0, bytes-take n bytes are.1)

pub bytes-drop : (n : ℕ) (bytes : List ℕ) → IsBytes bytes → IsBytes (drop n bytes)
bytes-drop zero bytes are = are
bytes-drop (suc n) [] are = tt
bytes-drop (suc n) (b ∷ bytes) are = bytes-drop n bytes are.1

pub bytes-append : (xs ys : List ℕ) → IsBytes xs → IsBytes ys → IsBytes (xs ++ ys)
bytes-append [] ys of_xs of_ys = of_ys
bytes-append (x ∷ xs) ys of_xs of_ys = (of_xs.0, bytes-append xs ys of_xs.1 of_ys)

pub bytes-zeros : (n : ℕ) → IsBytes (replicate n 0)
bytes-zeros zero = tt
bytes-zeros (suc n) = (omega arith, bytes-zeros n)

pub bytes-put_at : (at : ℕ) (bytes file : List ℕ) → IsBytes bytes → IsBytes file → IsBytes (put_at at bytes file)
bytes-put_at at bytes file are of_file =
    bytes-append (take at file ++ bytes) (drop (at + length bytes) file) (bytes-append (take at file) bytes (bytes-take at file of_file) are) (bytes-drop (at + length bytes) file of_file)

pub bytes-put_at_or_past : (at : ℕ) (bytes file : List ℕ) → IsBytes bytes → IsBytes file → IsBytes (put_at_or_past at bytes file)
bytes-put_at_or_past at bytes file are of_file = bytes-put_at at bytes (file ++ replicate (at - length file) 0) are (bytes-append file (replicate (at - length file) 0) of_file (bytes-zeros (at - length file)))
