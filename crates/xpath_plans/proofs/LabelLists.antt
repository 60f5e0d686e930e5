-- Programs that look at labels alone, as long as what they see has labels.
use Rattle.std.proofs.Common.{◌≡◌, true, List, [], ◌∷◌, ◌++◌, drop, ℕ, zero, suc}
use Rattle.std.specs.List.{AllByRecursion}
use Rattle.dewey_labels.specs.Labels.{is_label}
use Rattle.lock_resources.specs.Resources as resources
use Rattle.path_model.specs.Positions.{Position, label_of}
use Rattle.path_model.specs.Programs.{Look, Program, ends, looks, and_then, gathered}
use Rattle.path_model.proofs.Members.{all_joined}
use Rattle.xpath_plans.specs.LookRequests.{resource_of}

-- a position with a label
abbrev pub HasLabel : Position → Type 0
HasLabel n = is_label (label_of n) ≡ true

abbrev pub HaveLabels : List Position → Type 0
HaveLabels ns = AllByRecursion HasLabel ns

-- a look at a label
abbrev pub IsAtLabel : Look → Type 0
IsAtLabel o = is_label (resources.label_of (resource_of o)) ≡ true

-- a program that looks at labels, and ends with what is good
abbrev pub AtLabels : {A : Type 0} → (A → Type 0) → Program A → Type 0
AtLabels good (ends a) = good a
AtLabels good (looks o k) = IsAtLabel o × ((s : List Position) → HaveLabels s → AtLabels good (k s))

pub labelled_then : {A B : Type 0} (good : A → Type 0) (fine : B → Type 0) (p : Program A) (f : A → Program B)
    → AtLabels good p → ((a : A) → good a → AtLabels fine (f a)) → AtLabels fine (and_then p f)
labelled_then good fine (ends a) f h g = g a h
labelled_then good fine (looks o k) f h g = (h.0, λ s i. labelled_then good fine (k s) f (h.1 s i) g)

pub all_dropped : {A : Type 0} (P : A → Type 0) (n : ℕ) (xs : List A) → AllByRecursion P xs → AllByRecursion P (drop n xs)
all_dropped P zero xs h = h
all_dropped P (suc n) [] h = h
all_dropped P (suc n) (x ∷ xs) h = all_dropped P n xs h.1

-- a program for each item
pub labelled_each : {A B : Type 0} (P : A → Type 0) (Q : B → Type 0) (f : A → Program (List B)) (xs : List A)
    → ((x : A) → P x → AtLabels (AllByRecursion Q) (f x)) → AllByRecursion P xs → AtLabels (AllByRecursion Q) (gathered f xs)
labelled_each P Q f [] g h = tt
labelled_each P Q f (x ∷ xs) g h =
    labelled_then (AllByRecursion Q) (AllByRecursion Q) (f x) (λ ys. and_then (gathered f xs) (λ zs. ends (ys ++ zs))) (g x h.0) (λ ys i.
    labelled_then (AllByRecursion Q) (AllByRecursion Q) (gathered f xs) (λ zs. ends (ys ++ zs)) (labelled_each P Q f xs g h.1) (λ zs j. all_joined Q ys zs i j))
