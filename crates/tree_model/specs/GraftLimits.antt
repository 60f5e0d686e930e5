-- Whether a fragment's labels keep the limits, without its tree.
use Rattle.dewey_labels.specs.Labels.{greatest, most_divisions}
use Rattle.std.specs.Prelude.{Bool, nat_le, nat_lt, true, ℕ, ◌&&◌, ◌+◌}
use Rattle.tree_model.specs.Fragments.{Fragments, element, no_more, text}
use Rattle.dewey_labels.specs.NewLabels.{first_division}

-- below a label of n divisions that passes no limit, the labels that `graft_below` gives fragments from the division c on pass none
abbrev pub fit_below : ℕ → ℕ → Fragments → Bool
fit_below n c no_more = true
fit_below n c (element m ats ch nx) = (nat_lt n most_divisions && nat_le c greatest) && (fit_below (n + 1) first_division ch && fit_below n (c + 2) nx)
fit_below n c (text t nx) = (nat_lt n most_divisions && nat_le c greatest) && fit_below n (c + 2) nx

-- at a label of n divisions that passes no limit, the labels that `graft` gives a fragment's nodes pass none
abbrev pub fit_at : ℕ → Fragments → Bool
fit_at n no_more = true
fit_at n (element m ats ch nx) = fit_below n first_division ch
fit_at n (text t nx) = true
