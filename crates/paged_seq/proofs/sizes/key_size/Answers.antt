use Rattle.std.proofs.Common.{◌≡◌, ℕ, ◌+◌, List, drop, Some, sym, ap, ◌∙◌, arith}
use Rattle.std.proofs.lemmas.Option.{none-some, same_Some}
use Rattle.std.specs.List.{position}
use Rattle.std.specs.Prelude.{◌==◌}
use Rattle.paged_seq.proofs.SizeLaws.{key_parts}
use Rattle.paged_seq.proofs.sizes.key_size.Goals as goal

pub returns-in_default-clause-size : goal.returns-in_default-clause-size
returns-in_default-clause-size c k e = let p = key_parts c.args.bytes.now k e in absurd (none-some p.0.1 (sym c.in_default.is ∙ c.label_size.ensures.size p.0 p.2))

pub returns-in-Some-end_of_name-clause-size : goal.returns-in-Some-end_of_name-clause-size
returns-in-Some-end_of_name-clause-size c k e =
    let p = key_parts c.args.bytes.now k e in
    let label : c.in-Some.label ≡ p.0.1 = same_Some c.in-Some.label p.0.1 (sym c.in-Some.is ∙ c.label_size.ensures.size p.0 p.2) in
    let name : c.in-Some-end_of_name.name ≡ p.1 = same_Some c.in-Some-end_of_name.name p.1 (sym c.in-Some-end_of_name.is ∙ c.end_of_name.ensures.first ∙ ap (λ (b : List ℕ). position (λ x. x == 0) b) (c.split_at.ensures.back ∙ ap (λ (n : ℕ). drop n c.args.bytes.now) label) ∙ p.3) in
    let all : c.in-Some.label + c.in-Some-end_of_name.name + 1 ≡ k.1 = let size = p.4 in omega (arith, label, name, size) in
    ap (λ (n : ℕ). Some n) all

pub returns-in-None-clause-size : goal.returns-in-None-clause-size
returns-in-None-clause-size c k e =
    let p = key_parts c.args.bytes.now k e in
    let label : c.in-Some.label ≡ p.0.1 = same_Some c.in-Some.label p.0.1 (sym c.in-Some.is ∙ c.label_size.ensures.size p.0 p.2) in
    absurd (none-some p.1 (sym c.in-None.is ∙ c.end_of_name.ensures.first ∙ ap (λ (b : List ℕ). position (λ x. x == 0) b) (c.split_at.ensures.back ∙ ap (λ (n : ℕ). drop n c.args.bytes.now) label) ∙ p.3))
