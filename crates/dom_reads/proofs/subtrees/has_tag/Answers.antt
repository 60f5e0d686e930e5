use Rattle.std.proofs.Common.{◌≡◌, ◌||◌, List, ℕ, codes, false, is_eq, nat_cmp, nat_eq, sym, ap, ◌∙◌}
use Rattle.std.specs.Cmp.Lexicographic.{pointwise, slice_cmp, texts_ties}
use Rattle.dom_reads.specs.inside.Gathered.{has_tag}
use Rattle.dom_reads.proofs.subtrees.has_tag.Goals as goal

pub returns-else-eq : goal.returns-else-eq
returns-else-eq c =
    let n : List ℕ = c.args.name.now in
    let m : List ℕ = c.in-Element.tag in
    let no : is_eq (slice_cmp nat_cmp n (codes "*")) ≡ false =
    sym (texts_ties n (codes "*")) ∙ sym (ap (λ (v : List ℕ). pointwise nat_eq v (codes "*")) c.as_str.ensures.bytes) ∙ sym c.eq.ensures ∙ c.if-eq.false in
    c.eq-else-eq.ensures ∙ texts_ties n m ∙ sym (ap (λ b. b || is_eq (slice_cmp nat_cmp n m)) no) ∙ ap (has_tag n) (sym c.in-Element.is)
