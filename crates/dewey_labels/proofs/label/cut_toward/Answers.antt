use Rattle.std.proofs.Common.{◌≡◌, ◌+◌, length, take, ap, ◌∙◌, arith}
use Rattle.dewey_labels.specs.Sides.{rest, first_code}
use Rattle.dewey_labels.proofs.Toward.{cut_of}
use Rattle.dewey_labels.proofs.label.cut_toward.Goals as goal

pub split_at-requires : goal.split_at-requires
split_at-requires c = (cut_of c.args.at.now c.args.below.now c.requires).start

pub split_at-requires-2 : goal.split_at-requires-2
split_at-requires-2 c =
    let cut = cut_of c.args.at.now c.args.below.now c.requires in
    omega (arith, cut.end, c.first_code_length.ensures.count, ap (λ v. length (first_code v)) (c.split_at.ensures.back ∙ cut.behind))

pub returns : goal.returns
returns c =
    let cut = cut_of c.args.at.now c.args.below.now c.requires in
    let count : c.first_code_length.result ≡ length (first_code (rest c.args.at.now c.args.below.now)) = c.first_code_length.ensures.count ∙ ap (λ v. length (first_code v)) (c.split_at.ensures.back ∙ cut.behind) in
    c.split_at-2.ensures.front ∙ ap (λ n. take (length c.args.at.now + n) c.args.below.now) count ∙ cut.is
