-- The law of equal requests, for lists that are made of others: one behind another, and with each request replaced.
use Rattle.std.proofs.Common.{◌≡◌, ℕ, suc, zero, List, [], ◌∷◌, ◌++◌, take, append_assoc, append-nil, refl, sym, ap, subst, ◌∙◌}
use Rattle.lock_resources.specs.declared.request.Request.{Request}
use Rattle.tree_model.specs.Tree.{Tree}
use Rattle.tree_cells.specs.Covers.{Agree}
use Rattle.tree_cells.specs.Forms.{FormedBehind, HasForm}
use Rattle.tree_cells.proofs.Agreement.{agree_left, block_same}
use Rattle.tree_cells.proofs.Coverage.{reads_left}
use Rattle.call_contract.specs.CallsOfCalls.{replaced, IsReplacement}

-- ---- lists

pub replaced_last : (f : Request → List Request) (gs : List Request) (x : Request) → replaced f (gs ++ x ∷ []) ≡ replaced f gs ++ f x
replaced_last f [] x = append-nil (f x)
replaced_last f (g ∷ gs) x = ap (λ (hs : List Request). f g ++ hs) (replaced_last f gs x) ∙ sym (append_assoc (f g) (replaced f gs) (f x))

formed_left : (before gs hs : List Request) → FormedBehind before (gs ++ hs) → FormedBehind before gs
formed_left before [] hs form = tt
formed_left before (g ∷ gs) hs form = (form.0, formed_left (before ++ g ∷ []) gs hs form.1)

module _ (t u : Tree) where
  -- behind requests on which the trees agree, the next ones are the same as far as they agree on those before
  abbrev pub NextFrom : (before xs ys : List Request) → Type 0
  NextFrom before xs ys = (k : ℕ) → Agree (before ++ take k xs) t u → take (suc k) xs ≡ take (suc k) ys

  at_once : (before xs ys : List Request) → NextFrom before xs ys → Agree before t u → take 1 xs ≡ take 1 ys
  at_once before xs ys next agree = next 0 (subst (λ (gs : List Request). Agree gs t u) (sym (append-nil before)) agree)

  -- one request further
  behind_one : (before : List Request) (x y : Request) (xs ys : List Request) → NextFrom before (x ∷ xs) (y ∷ ys) → NextFrom (before ++ x ∷ []) xs ys
  behind_one before x y xs ys next k agree =
      let e : x ∷ take (suc k) xs ≡ y ∷ take (suc k) ys = next (suc k) (subst (λ (gs : List Request). Agree gs t u) (append_assoc before (x ∷ []) (take k xs)) agree) in
      cc

  -- ---- one list behind another, which is told by all of the first

  pub next_behind : (before xs ys : List Request) (vs ws : List Request) → NextFrom before xs ys → (Agree (before ++ xs) t u → NextFrom (before ++ xs) vs ws)
      → NextFrom before (xs ++ vs) (ys ++ ws)
  next_behind before [] [] vs ws next rest k agree =
      rest (subst (λ (gs : List Request). Agree gs t u) (sym (append-nil before)) (agree_left before (take k vs) t u agree)) k
      (subst (λ (gs : List Request). Agree (gs ++ take k vs) t u) (sym (append-nil before)) agree)
  next_behind before [] (y ∷ ys) vs ws next rest k agree =
      let e : [] ≡ y ∷ [] = at_once before [] (y ∷ ys) next (agree_left before (take k vs) t u agree) in
      cc
  next_behind before (x ∷ xs) [] vs ws next rest k agree =
      let e : x ∷ [] ≡ [] = at_once before (x ∷ xs) [] next (agree_left before (take k (x ∷ (xs ++ vs))) t u agree) in
      cc
  next_behind before (x ∷ xs) (y ∷ ys) vs ws next rest zero agree =
      at_once before (x ∷ xs) (y ∷ ys) next (agree_left before [] t u agree)
  next_behind before (x ∷ xs) (y ∷ ys) vs ws next rest (suc k) agree =
      let e : x ∷ [] ≡ y ∷ [] = at_once before (x ∷ xs) (y ∷ ys) next (agree_left before (x ∷ take k (xs ++ vs)) t u agree) in
      let r : take (suc k) (xs ++ vs) ≡ take (suc k) (ys ++ ws) = next_behind (before ++ x ∷ []) xs ys vs ws (behind_one before x y xs ys next)
      (λ near. subst (λ (gs : List Request). NextFrom gs vs ws) (sym (append_assoc before (x ∷ []) xs)) (rest (subst (λ (gs : List Request). Agree gs t u) (append_assoc before (x ∷ []) xs) near)))
      k (subst (λ (gs : List Request). Agree gs t u) (sym (append_assoc before (x ∷ []) (take k (xs ++ vs)))) agree) in
      cc

  -- ---- each request replaced

  module _ (f : Request → List Request) (is : IsReplacement f) where
    -- what the replaced ones cover, those before them cover
    near_before : (before xs rest : List Request) → HasForm (before ++ xs) → Agree (replaced f before ++ rest) t u → Agree before t u
    near_before before xs rest form agree x on = agree x (reads_left (replaced f before) rest x ((is.covers before (formed_left [] before xs form)).reading x on))

    pub next_replaced : (before xs ys : List Request) → HasForm (before ++ xs) → NextFrom before xs ys → NextFrom (replaced f before) (replaced f xs) (replaced f ys)
    next_replaced before [] [] form next k agree = refl
    next_replaced before [] (y ∷ ys) form next k agree =
        let e : [] ≡ y ∷ [] = at_once before [] (y ∷ ys) next (near_before before [] (take k []) form agree) in
        cc
    next_replaced before (x ∷ xs) [] form next k agree =
        let e : x ∷ [] ≡ [] = at_once before (x ∷ xs) [] next (near_before before (x ∷ xs) (take k (replaced f (x ∷ xs))) form agree) in
        cc
    next_replaced before (x ∷ xs) (y ∷ ys) form next k agree =
        let e : x ∷ [] ≡ y ∷ [] = at_once before (x ∷ xs) (y ∷ ys) next (near_before before (x ∷ xs) (take k (replaced f (x ∷ xs))) form agree) in
        let same : x ≡ y = cc in
        block_same (f x) (replaced f before) (replaced f xs) (replaced f ys) t u k
        (λ j h. next_replaced (before ++ x ∷ []) xs ys (subst (λ (gs : List Request). HasForm gs) (sym (append_assoc before (x ∷ []) xs)) form) (behind_one before x y xs ys next) j
        (subst (λ (gs : List Request). Agree (gs ++ take j (replaced f xs)) t u) (sym (replaced_last f before x)) h))
        agree
        ∙ ap (λ (z : Request). take (suc k) (f z ++ replaced f ys)) same
