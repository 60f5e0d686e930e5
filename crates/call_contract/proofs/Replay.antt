-- What one transaction's commit leaves of another's calls.
use Rattle.std.proofs.Common.{◌≡◌, Bool, true, false, List, [], ◌∷◌, ◌++◌, take, length, suc, le_refl, refl, sym, ap, ap₂, ◌∙◌, subst, take_all, true≢false}
use Rattle.lock_resources.specs.declared.request.Request.{Request}
use Rattle.tree_model.specs.declared.reply.Reply.{Reply}
use Rattle.tree_model.specs.Tree.{Tree}
use Rattle.tree_model.specs.ValidTrees.{IsValidTree}
use Rattle.tree_cells.specs.Cells.{Cell, value_at}
use Rattle.tree_cells.specs.Covers.{writes, Agree, IsCoveredBy}
use Rattle.tree_cells.proofs.Coverage.{covered_left}
use Rattle.call_contract.specs.Calls.{CallMeaning, CallLaws}
use Rattle.call_contract.specs.States.{Answered, view, replies, given}
use Rattle.call_contract.specs.Replays.{IsSameRun}
use Rattle.call_contract.specs.inside.Soundness.{AreKept}

-- a list that begins as another does, one further than that one goes, is that one
same_to_the_end : {A : Type 0} (xs ys : List A) → take (suc (length xs)) xs ≡ take (suc (length xs)) ys → xs ≡ ys
same_to_the_end [] [] e = refl
same_to_the_end [] (y ∷ ys) e = cc
same_to_the_end (x ∷ xs) [] e = cc
same_to_the_end (x ∷ xs) (y ∷ ys) e = let h : take (suc (length xs)) xs ≡ take (suc (length xs)) ys = cc in let r = same_to_the_end xs ys h in cc

module _ {C : Type 0} (is_valid : C → Type 0) (m : CallMeaning C) where
  -- one more call
  pub view_snoc : (cs : List (Answered C)) (a : Answered C) (t : Tree) → view m (cs ++ a ∷ []) t ≡ m.after a.call (view m cs t)
  view_snoc [] a t = refl
  view_snoc (b ∷ cs) a t = view_snoc cs a (m.after b.call t)

  pub kept_snoc : (gs : List Request) (cs : List (Answered C)) (a : Answered C) (t : Tree) → AreKept is_valid m gs cs t
      → is_valid a.call → IsCoveredBy (m.requests a.call (view m cs t)) gs → m.reply a.call (view m cs t) ≡ a.reply → AreKept is_valid m gs (cs ++ a ∷ []) t
  kept_snoc gs [] a t kept valid covers reply = (record { valid = valid; covers = covers; reply = reply }, tt)
  kept_snoc gs (b ∷ cs) a t kept valid covers reply = (kept.0, kept_snoc gs cs a (m.after b.call t) kept.1 valid covers reply)

  -- the same calls under more grants
  pub kept_grows : (gs more : List Request) (cs : List (Answered C)) (t : Tree) → AreKept is_valid m gs cs t → AreKept is_valid m (gs ++ more) cs t
  kept_grows gs more [] t kept = tt
  kept_grows gs more (a ∷ cs) t kept = (
    record {
      valid = kept.0.valid;
      covers = record {
        reading = λ x on. (covered_left gs more).reading x (kept.0.covers.reading x on);
        writing = λ x on. (covered_left gs more).writing x (kept.0.covers.writing x on);
      };
      reply = kept.0.reply;
    },
    kept_grows gs more cs (m.after a.call t) kept.1,
  )

  pub kept_replies : (gs : List Request) (cs : List (Answered C)) (t : Tree) → AreKept is_valid m gs cs t → replies m cs t ≡ given cs
  kept_replies gs [] t kept = refl
  kept_replies gs (a ∷ cs) t kept = ap₂ (λ (x : Reply) (xs : List Reply). x ∷ xs) kept.0.reply (kept_replies gs cs (m.after a.call t) kept.1)

module _ {C : Type 0} (is_valid : C → Type 0) (m : CallMeaning C) (laws : CallLaws C is_valid m) where
  -- all requests are the same, where what they cover is
  pub same_requests : (c : C) (t u : Tree) → is_valid c → IsValidTree t → IsValidTree u → Agree (m.requests c t) t u → m.requests c t ≡ m.requests c u
  same_requests c t u valid one other agree =
      let all : Agree (take (length (m.requests c t)) (m.requests c t)) t u = subst (λ (gs : List Request). Agree gs t u) (sym (take_all (length (m.requests c t)) (m.requests c t) (le_refl (length (m.requests c t))))) agree in
      same_to_the_end (m.requests c t) (m.requests c u) (laws.same_next c t u (length (m.requests c t)) valid one other all)

  pub view_valid : (gs : List Request) (cs : List (Answered C)) (t : Tree) → IsValidTree t → AreKept is_valid m gs cs t → IsValidTree (view m cs t)
  view_valid gs [] t is kept = is
  view_valid gs (a ∷ cs) t is kept = view_valid gs cs (m.after a.call t) (laws.keeps_valid a.call t kept.0.valid is) kept.1

  -- a cell that a transaction doesn't cover for writing is as it was
  pub unwritten : (gs : List Request) (cs : List (Answered C)) (t : Tree) → IsValidTree t → AreKept is_valid m gs cs t → (x : Cell) → writes gs x ≡ false → value_at (view m cs t) x ≡ value_at t x
  unwritten gs [] t is kept x out = refl
  unwritten gs (a ∷ cs) t is kept x out =
      unwritten gs cs (m.after a.call t) (laws.keeps_valid a.call t kept.0.valid is) kept.1 x out ∙ laws.keeps_rest a.call t kept.0.valid is x (go (writes (m.requests a.call t) x) refl)
    where
      go : (b : Bool) → writes (m.requests a.call t) x ≡ b → b ≡ false
      go false e = refl
      go true e = absurd (true≢false (sym (kept.0.covers.writing x e) ∙ out))

  -- after one more call the cells that agreed agree
  pub step_agrees : (gs : List Request) (c : C) (t u : Tree) → is_valid c → IsValidTree t → IsValidTree u → Agree gs t u → IsCoveredBy (m.requests c t) gs → Agree gs (m.after c t) (m.after c u)
  step_agrees gs c t u valid one other agree covers x on = go (writes (m.requests c t) x) refl
    where
      near : Agree (m.requests c t) t u
      near y asked = agree y (covers.reading y asked)

      go : (b : Bool) → writes (m.requests c t) x ≡ b → value_at (m.after c t) x ≡ value_at (m.after c u) x
      go true e = laws.same_written c t u valid one other near x e
      go false e = laws.keeps_rest c t valid one x e ∙ agree x on ∙ sym (laws.keeps_rest c u valid other x (ap (λ (rs : List Request). writes rs x) (sym (same_requests c t u valid one other near)) ∙ e))

  -- on two trees that agree on what a transaction covers for reading its calls ask for the same and answer the same, and the trees after them agree
  pub replay : (gs : List Request) (cs : List (Answered C)) (t u : Tree) → IsValidTree t → IsValidTree u → Agree gs t u → AreKept is_valid m gs cs t
      → record { kept : AreKept is_valid m gs cs u; agree : Agree gs (view m cs t) (view m cs u); same : IsSameRun m cs t u }
  replay gs [] t u one other agree kept = record { kept = tt; agree = agree; same = tt }
  replay gs (a ∷ cs) t u one other agree kept =
      let valid = kept.0.valid in
      let near : Agree (m.requests a.call t) t u = λ x on. agree x (kept.0.covers.reading x on) in
      let same = same_requests a.call t u valid one other near in
      let far = step_agrees gs a.call t u valid one other agree kept.0.covers in
      let rest = replay gs cs (m.after a.call t) (m.after a.call u) (laws.keeps_valid a.call t valid one) (laws.keeps_valid a.call u valid other) far kept.1 in
      record {
        kept = (
          record {
            valid = valid;
            covers = subst (λ (rs : List Request). IsCoveredBy rs gs) same kept.0.covers;
            reply = sym (laws.same_reply a.call t u valid one other near) ∙ kept.0.reply;
          },
          rest.kept,
        );
        agree = rest.agree;
        same = (
          record { requests = same; reply = laws.same_reply a.call t u valid one other near; written = laws.same_written a.call t u valid one other near },
          rest.same,
        );
      }
