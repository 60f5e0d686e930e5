use Rattle.std.proofs.Common.{◌≡◌, ℕ, ◌+◌, ◌-◌, List, length, drop, Some, sym, ap, ◌∙◌, arith, length-drop}
use Rattle.std.proofs.lemmas.List.{take_rest}
use Rattle.std.proofs.lemmas.Option.{none-some, same_Some}
use Rattle.byteorder.specs.Endian.{big_number}
use Rattle.outside_traits.proofs.ByteLaws.{bytes_are}
use Rattle.node_records.specs.Keys.{key_bytes}
use Rattle.paged_seq.proofs.SizeLaws.{entry_parts, key_counted}
use Rattle.paged_seq.proofs.sizes.entry_sizes.Goals as goal

pub returns-in_default-clause-sizes : goal.returns-in_default-clause-sizes
returns-in_default-clause-sizes c e is = let p = entry_parts c.args.bytes.now e is in absurd (none-some p.key.1 (sym c.in_default.is ∙ c.key_size.ensures.size p.key p.read))

pub returns-then-rest-lt-HEAD_BYTES-clause-sizes : goal.returns-then-rest-lt-HEAD_BYTES-clause-sizes
returns-then-rest-lt-HEAD_BYTES-clause-sizes c e is =
    let p = entry_parts c.args.bytes.now e is in
    let key : c.in-Some.key ≡ p.key.1 = same_Some c.in-Some.key p.key.1 (sym c.in-Some.is ∙ c.key_size.ensures.size p.key p.read) in
    let rest : length c.split_at.result.1.now ≡ length (drop p.key.1 c.args.bytes.now) = ap (λ (b : List ℕ). length b) (c.split_at.ensures.back ∙ ap (λ (n : ℕ). drop n c.args.bytes.now) key) in
    let long = p.long in
    let short = c.if-rest-lt-HEAD_BYTES.true in
    absurd (omega (arith, rest, long, short))

pub returns-then-rest-size-clause-sizes : goal.returns-then-rest-size-clause-sizes
returns-then-rest-size-clause-sizes c e is =
    let p = entry_parts c.args.bytes.now e is in
    let key : c.in-Some.key ≡ p.key.1 = same_Some c.in-Some.key p.key.1 (sym c.in-Some.is ∙ c.key_size.ensures.size p.key p.read) in
    let back : c.split_at.result.1.now ≡ drop p.key.1 c.args.bytes.now = c.split_at.ensures.back ∙ ap (λ (n : ℕ). drop n c.args.bytes.now) key in
    let rest : length c.split_at.result.1.now ≡ length (drop p.key.1 c.args.bytes.now) = ap (λ (b : List ℕ). length b) back in
    let count : c.read_u16.result ≡ big_number 2 (drop 3 (drop p.key.1 c.args.bytes.now)) = c.read_u16.ensures ∙ ap (λ (b : List ℕ). big_number 2 b) (take_rest c.split_at.result.1.now 3) ∙ ap (λ (b : List ℕ). big_number 2 (drop 3 b)) back in
    let behind : length (drop 5 (drop p.key.1 c.args.bytes.now)) ≡ length (drop p.key.1 c.args.bytes.now) - 5 = length-drop 5 (drop p.key.1 c.args.bytes.now) in
    let within = p.within in
    let long = p.long in
    let short = c.if-rest-size.true in
    absurd (omega (arith, rest, count, behind, within, long, short))

pub returns-clause-sizes : goal.returns-clause-sizes
returns-clause-sizes c e is =
    let p = entry_parts c.args.bytes.now e is in
    let fits = bytes_are c.args.bytes.now (λ i. omega (arith, c.type_inv.bytes i)) in
    let key : c.in-Some.key ≡ p.key.1 = same_Some c.in-Some.key p.key.1 (sym c.in-Some.is ∙ c.key_size.ensures.size p.key p.read) in
    let back : c.split_at.result.1.now ≡ drop p.key.1 c.args.bytes.now = c.split_at.ensures.back ∙ ap (λ (n : ℕ). drop n c.args.bytes.now) key in
    let count : c.read_u16.result ≡ big_number 2 (drop 3 (drop p.key.1 c.args.bytes.now)) = c.read_u16.ensures ∙ ap (λ (b : List ℕ). big_number 2 b) (take_rest c.split_at.result.1.now 3) ∙ ap (λ (b : List ℕ). big_number 2 (drop 3 b)) back in
    let first : c.in-Some.key ≡ length (key_bytes e.0.key) = key ∙ key_counted c.args.bytes.now e fits p in
    let all : c.in-Some.key + (5 + c.read_u16.result) ≡ e.1 = let size = p.size in omega (arith, key, count, size) in
    λ i. Some (first i, all i)
