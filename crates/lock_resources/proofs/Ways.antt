-- What a list of requests has gained on the way from the root down to a label.
use Rattle.std.proofs.Common.{◌≡◌, ℕ, zero, suc, ◌≤◌, List, [], ◌∷◌, ◌++◌, length, take, refl, sym, ap, ◌∙◌, Result, Ok, Err, OnOk, OnErr, append_assoc, append-nil, arith}
use Rattle.std.proofs.Math.Seq.{take-append_seam}
use Rattle.dewey_labels.specs.Labels.{Label, cut}
use Rattle.dewey_labels.specs.Ancestors.{cuts}
use Rattle.lock_modes.specs.declared.mode.Mode.{Mode}
use Rattle.lock_resources.specs.declared.request.Request.{Request}
use Rattle.lock_resources.specs.Intentions.{on_node, on_each}
use Rattle.lock_resources.specs.inside.Gained.{GainedAllBut, GoesOn}

-- one request more was added
pub added_one : (old out new whole rest : List Request) (q : Request) → GainedAllBut old out whole (q ∷ rest) → new ≡ out ++ q ∷ [] → GainedAllBut old new whole rest
added_one old out new whole rest q h e =
    record { prefix = h.prefix ++ q ∷ []; gained = e ∙ ap (λ v. v ++ q ∷ []) h.gained ∙ append_assoc old h.prefix (q ∷ []); all = append_assoc h.prefix (q ∷ []) rest ∙ h.all }

-- that on the next node of the way, above the parent
pub one_more : (above last : Mode) (n : ℕ) (l : Label) (old out new whole : List Request) → 1 ≤ n → GainedAllBut old out whole (on_each above last (cuts (suc n) l)) → new ≡ out ++ on_node (cut (suc n) l) above ∷ [] → GainedAllBut old new whole (on_each above last (cuts n l))
one_more above last zero l old out new whole k h e = absurd (omega (arith, k))
one_more above last (suc n) l old out new whole k h e = added_one old out new whole (on_each above last (cuts (suc n) l)) (on_node (cut (suc (suc n)) l) above) h e

-- nothing was added yet
pub nothing_added : (old whole : List Request) → GainedAllBut old old whole whole
nothing_added old whole = record { prefix = []; gained = sym (append-nil old); all = refl }

-- where all is added
pub all_added : (old new whole : List Request) → GainedAllBut old new whole [] → new ≡ old ++ whole
all_added old new whole h = h.gained ∙ ap (λ v. old ++ v) (sym (append-nil h.prefix) ∙ h.all)

-- that on the parent, which is the last
pub last_one : (above last : Mode) (l : Label) (old out new whole : List Request) → GainedAllBut old out whole (on_each above last (cuts 1 l)) → new ≡ out ++ on_node (cut 1 l) last ∷ [] → new ≡ old ++ whole
last_one above last l old out new whole h e = all_added old new whole (added_one old out new whole [] (on_node (cut 1 l) last) h e)

-- the list goes on behind what it was, whatever it has gained so far
pub goes_on : (old new whole rest : List Request) → GainedAllBut old new whole rest → GoesOn old new
goes_on old new whole rest h = (h.prefix, h.gained)

pub goes_on_by : (old new more : List Request) → new ≡ old ++ more → GoesOn old new
goes_on_by old new more e = (more, e)

-- cut back to its old length the list is what it was
pub cut_back : (old new : List Request) → GoesOn old new → take (length old) new ≡ old
cut_back old new h = ap (take (length old)) h.1 ∙ take-append_seam old h.0

-- ---- answers

pub on_err : {A B : Type 0} (r : Result A B) (P : Type 0) → P → OnErr r P
on_err (Ok a) P p = tt
on_err (Err e) P p = p

pub on_ok_then : {A B : Type 0} (r : Result A B) (P Q : Type 0) → (P → Q) → OnOk r P → OnOk r Q
on_ok_then (Ok a) P Q f p = f p
on_ok_then (Err e) P Q f p = tt

pub on_err_then : {A B : Type 0} (r : Result A B) (P Q : Type 0) → (P → Q) → OnErr r P → OnErr r Q
on_err_then (Ok a) P Q f p = tt
on_err_then (Err e) P Q f p = f p
