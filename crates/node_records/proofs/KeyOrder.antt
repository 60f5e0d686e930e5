-- Keys sort as their bytes do.
use Rattle.std.proofs.Common.{◌≡◌, ℕ, List, [], ◌∷◌, ◌++◌, inl, inr, Less, Greater, nat_cmp, refl, sym, ap, ◌∙◌, append_assoc, arith}
use Rattle.std.proofs.lemmas.Bool.{cases_lt}
use Rattle.std.specs.List.{AllByRecursion, flat_map}
use Rattle.std.specs.Ordering.{ordering_then, ordering_reverse}
use Rattle.std.specs.Cmp.Lexicographic.{slice_cmp, nat_list_cmp_total}
use Rattle.dewey_labels.specs.Labels.{Label}
use Rattle.tree_model.specs.declared.key.Key.{Key}
use Rattle.tree_model.specs.Keys.{key_cmp}
use Rattle.node_records.specs.Divisions.{division_bytes}
use Rattle.node_records.specs.Keys.{key_bytes, IsWritable}
use Rattle.node_records.proofs.DivisionForms.{IsLess, first_less, same_prefix, division_less, end_less}
use Rattle.node_records.proofs.LabelLaws.{IsDivision, divisions_are}
use Rattle.node_records.proofs.KeyLaws.{NoZero}

-- two lists the other way round
turned : (xs ys : List ℕ) → IsLess ys xs → slice_cmp nat_cmp xs ys ≡ Greater
turned xs ys h = nat_list_cmp_total.antisymm xs ys ∙ ap ordering_reverse h

-- labels with something behind them
labels_sort : (l m : Label) (s t : List ℕ) → AllByRecursion IsDivision l → AllByRecursion IsDivision m
    → slice_cmp nat_cmp (flat_map division_bytes l ++ 0 ∷ s) (flat_map division_bytes m ++ 0 ∷ t) ≡ ordering_then (slice_cmp nat_cmp l m) (slice_cmp nat_cmp s t)
labels_sort [] [] s t h g = refl
labels_sort [] (e ∷ m) s t h g =
    let tail = flat_map division_bytes m ++ 0 ∷ t in
    ap (slice_cmp nat_cmp (0 ∷ s)) (append_assoc (division_bytes e) (flat_map division_bytes m) (0 ∷ t)) ∙ end_less e s tail g.0.0 g.0.1
labels_sort (d ∷ l) [] s t h g =
    let tail = flat_map division_bytes l ++ 0 ∷ s in
    ap (λ (x : List ℕ). slice_cmp nat_cmp x (0 ∷ t)) (append_assoc (division_bytes d) (flat_map division_bytes l) (0 ∷ s)) ∙ turned (division_bytes d ++ tail) (0 ∷ t) (end_less d t tail h.0.0 h.0.1)
labels_sort (d ∷ l) (e ∷ m) s t h g =
    let left = flat_map division_bytes l ++ 0 ∷ s in
    let right = flat_map division_bytes m ++ 0 ∷ t in
    let grouped : slice_cmp nat_cmp ((division_bytes d ++ flat_map division_bytes l) ++ 0 ∷ s) ((division_bytes e ++ flat_map division_bytes m) ++ 0 ∷ t) ≡ slice_cmp nat_cmp (division_bytes d ++ left) (division_bytes e ++ right) =
    ap (λ (x : List ℕ). slice_cmp nat_cmp x ((division_bytes e ++ flat_map division_bytes m) ++ 0 ∷ t)) (append_assoc (division_bytes d) (flat_map division_bytes l) (0 ∷ s))
    ∙ ap (slice_cmp nat_cmp (division_bytes d ++ left)) (append_assoc (division_bytes e) (flat_map division_bytes m) (0 ∷ t)) in
    grouped ∙ elim (cases_lt d e) [
      | inl lt ↦
          let labels : slice_cmp nat_cmp (d ∷ l) (e ∷ m) ≡ Less = first_less d e l m lt in
          division_less d e left right lt g.0.1 ∙ sym (ap (λ o. ordering_then o (slice_cmp nat_cmp s t)) labels)
      | inr ge ↦ elim (cases_lt e d) [
        | inl gt ↦
            let labels : slice_cmp nat_cmp (d ∷ l) (e ∷ m) ≡ Greater = turned (d ∷ l) (e ∷ m) (first_less e d m l gt) in
            turned (division_bytes d ++ left) (division_bytes e ++ right) (division_less e d right left gt h.0.1) ∙ sym (ap (λ o. ordering_then o (slice_cmp nat_cmp s t)) labels)
        | inr le ↦
            let same : d ≡ e = omega (arith, ge, le) in
            let labels : slice_cmp nat_cmp (d ∷ l) (e ∷ m) ≡ slice_cmp nat_cmp l m = ap (λ (x : ℕ). slice_cmp nat_cmp (d ∷ l) (x ∷ m)) (sym same) ∙ same_prefix (d ∷ []) l m in
            ap (λ (x : ℕ). slice_cmp nat_cmp (division_bytes d ++ left) (division_bytes x ++ right)) (sym same) ∙ same_prefix (division_bytes d) left right ∙ labels_sort l m s t h.1 g.1 ∙ sym (ap (λ o. ordering_then o (slice_cmp nat_cmp s t)) labels)
      ]
    ]

-- names with their end
names_sort : (n m : List ℕ) → NoZero n → NoZero m → slice_cmp nat_cmp (n ++ 0 ∷ []) (m ++ 0 ∷ []) ≡ slice_cmp nat_cmp n m
names_sort [] [] h g = refl
names_sort [] (c ∷ m) h g = first_less 0 c [] (m ++ 0 ∷ []) g.0
names_sort (b ∷ n) [] h g = turned (b ∷ (n ++ 0 ∷ [])) (0 ∷ []) (first_less 0 b [] (n ++ 0 ∷ []) h.0)
names_sort (b ∷ n) (c ∷ m) h g = ap (ordering_then (nat_cmp b c)) (names_sort n m h.1 g.1)

pub keys_sort : (a b : Key) → IsWritable a → IsWritable b → slice_cmp nat_cmp (key_bytes a) (key_bytes b) ≡ key_cmp a b
keys_sort a b v w =
    let left = a.name ++ 0 ∷ [] in
    let right = b.name ++ 0 ∷ [] in
    ap (λ (x : List ℕ). slice_cmp nat_cmp x (key_bytes b)) (append_assoc (flat_map division_bytes a.label) (0 ∷ []) left)
    ∙ ap (slice_cmp nat_cmp (flat_map division_bytes a.label ++ 0 ∷ left)) (append_assoc (flat_map division_bytes b.label) (0 ∷ []) right)
    ∙ labels_sort a.label b.label left right (divisions_are a.label v.label) (divisions_are b.label w.label)
    ∙ ap (ordering_then (slice_cmp nat_cmp a.label b.label)) (names_sort a.name b.name v.no_zero w.no_zero)
