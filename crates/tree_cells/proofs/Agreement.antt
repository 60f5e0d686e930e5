-- Trees that agree on what requests cover for reading, and requests one behind another.
use Rattle.std.proofs.Common.{◌≡◌, ℕ, suc, zero, Bool, true, false, List, [], ◌∷◌, ◌++◌, take, append_assoc, append-nil, refl, sym, ap, subst}
use Rattle.dewey_labels.specs.Labels.{is_label}
use Rattle.lock_modes.specs.declared.ask.Ask.{Ask}
use Rattle.lock_resources.specs.declared.resource.Resource.{Resource}
use Rattle.lock_resources.specs.declared.request.Request.{Request}
use Rattle.lock_resources.specs.Resources.{label_of}
use Rattle.lock_resources.specs.Intentions.{has_row, request, intentions, with_intentions}
use Rattle.tree_model.specs.Tree.{Tree}
use Rattle.tree_cells.specs.Cells.{Cell, value_at}
use Rattle.tree_cells.specs.Covers.{some_of, reads_from, Agree}
use Rattle.tree_cells.specs.Forms.{AreRows}
use Rattle.tree_cells.proofs.Coverage.{some_right, or_first, reads_left}

-- ---- agreement

pub agree_left : (gs hs : List Request) (t u : Tree) → Agree (gs ++ hs) t u → Agree gs t u
agree_left gs hs t u h x on = h x (reads_left gs hs x on)

pub agree_moved : (a b c : List Request) (t u : Tree) → Agree (a ++ (b ++ c)) t u → Agree ((a ++ b) ++ c) t u
agree_moved a b c t u h = subst (λ (gs : List Request). Agree gs t u) (sym (append_assoc a b c)) h

-- the last request asked covers what it covers
pub last_covers : (p : Resource → Ask → Bool) (acc : List Request) (r : Resource) (a : Ask) → p r a ≡ true → some_of p (acc ++ with_intentions r a) ≡ true
last_covers p acc r a e = some_right p acc (with_intentions r a) (some_right p (intentions r a) (request r a ∷ []) (or_first (p r a) false e))

pub seen : (acc : List Request) (r : Resource) (a : Ask) (t u : Tree) → Agree (acc ++ with_intentions r a) t u → (x : Cell) → reads_from r a x ≡ true
    → value_at t x ≡ value_at u x
seen acc r a t u agree x e = agree x (last_covers (λ r a. reads_from r a x) acc r a e)

-- ---- the form

pub no_rows : AreRows []
no_rows = record { rows = []; each = tt; whole = refl }

pub one_row_more : (r : Resource) (a : Ask) (gs : List Request) → has_row r a ≡ true → is_label (label_of r) ≡ true → AreRows gs
    → AreRows (with_intentions r a ++ gs)
one_row_more r a gs row label h =
    record { rows = request r a ∷ h.rows; each = (record { row = row; label = label }, h.each); whole = ap (λ v. with_intentions r a ++ v) h.whole }

-- ---- the next request

pub block_same : (b acc xs ys : List Request) (t u : Tree) (k : ℕ) → ((j : ℕ) → Agree ((acc ++ b) ++ take j xs) t u → take (suc j) xs ≡ take (suc j) ys)
    → Agree (acc ++ take k (b ++ xs)) t u → take (suc k) (b ++ xs) ≡ take (suc k) (b ++ ys)
block_same [] acc xs ys t u k on agree = on k (subst (λ (gs : List Request). Agree (gs ++ take k xs) t u) (sym (append-nil acc)) agree)
block_same (x ∷ b) acc xs ys t u zero on agree = refl
block_same (x ∷ b) acc xs ys t u (suc k) on agree =
    ap (λ (gs : List Request). x ∷ gs) (block_same b (acc ++ x ∷ []) xs ys t u k
    (λ j h. on j (subst (λ (gs : List Request). Agree (gs ++ take j xs) t u) (append_assoc acc (x ∷ []) b) h))
    (subst (λ (gs : List Request). Agree gs t u) (sym (append_assoc acc (x ∷ []) (take k (b ++ xs)))) agree))
