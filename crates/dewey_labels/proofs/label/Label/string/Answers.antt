use Rattle.std.proofs.Common.{◌≡◌, ap, ◌∙◌, ◌++◌, ◌∷◌, [], get_or, string_bytes, arith}
use Rattle.std.specs.Fmt.{decimal}
use Rattle.dewey_labels.proofs.LabelTexts.{more_text, first_text}
use Rattle.dewey_labels.proofs.label.Label.string.Goals as goal
use Rattle.dewey_labels.proofs.label.Label.string.Goals.{then-index-gt0+in_ok-push, else-index-gt0}

pub loop-index-preserved : goal.loop-index-preserved
loop-index-preserved c =
    let l = c.divisions-division-items.result.now in
    let s = string_bytes c.loop-index.text in
    let so_far = c.loop-index.invariant in
    c.in_ok-write.ensures.bytes ∙ elim (c.if-index-gt0.branch) [
      | then-index-gt0+in_ok-push w ↦
          let p : string_bytes w.push.new.self ≡ s ++ 46 ∷ [] = w.in_ok-push.ensures.bytes ∙ ap (λ v. s ++ v) (w.in_ok-push.ensures.ascii (omega arith)) in
          ap (λ t. string_bytes t ++ decimal (get_or l c.loop-index.index 0)) w.text-is ∙ ap (λ v. v ++ decimal (get_or l c.loop-index.index 0)) p ∙ more_text l c.loop-index.index s (omega arith) (omega arith) so_far
      | else-index-gt0 w ↦ ap (λ t. string_bytes t ++ decimal (get_or l c.loop-index.index 0)) w.text-is ∙ first_text l c.loop-index.index s (omega arith) (omega arith) so_far
    ]
