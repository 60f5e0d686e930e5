-- Calls made of calls: under requests that cover more, with each request replaced, with requests behind their own, and two in a row (docs/PROFILE.md, "Laws of calls").
use Rattle.std.specs.Prelude.{◌≡◌, ℕ, suc, false, if◌then◌else◌, List, [], ◌∷◌, ◌++◌, take}
use Rattle.lock_resources.specs.declared.request.Request.{Request}
use Rattle.tree_model.specs.declared.reply.Reply.{Reply}
use Rattle.tree_model.specs.Tree.{Tree}
use Rattle.tree_model.specs.ValidTrees.{IsValidTree}
use Rattle.tree_model.specs.Outcomes.{is_refused}
use Rattle.tree_cells.specs.Covers.{Agree, IsCoveredBy}
use Rattle.tree_cells.specs.Forms.{HasForm}
use Rattle.call_contract.specs.Calls.{CallMeaning, CallLaws}

-- ---- requests that may be asked

-- requests in the form, of which trees that agree on what the first k cover for reading have the same next one
pub record AreAskable {A : Type 0} (is_valid : A → Type 0) (asks : A → Tree → List Request) : Type 0 where
  pub form : (a : A) (t : Tree) → is_valid a → IsValidTree t → HasForm (asks a t)
  pub same_next : (a : A) (t u : Tree) (k : ℕ) → is_valid a → IsValidTree t → IsValidTree u → Agree (take k (asks a t)) t u
      → take (suc k) (asks a t) ≡ take (suc k) (asks a u)

-- they cover what the call's own cover
abbrev pub CoverOwn : {C : Type 0} → (C → Type 0) → CallMeaning C → (C → Tree → List Request) → Type 0
CoverOwn {C = C} is_valid m asks = (c : C) (t : Tree) → is_valid c → IsValidTree t → IsCoveredBy (m.requests c t) (asks c t)

-- the call under other requests than its own
abbrev pub asking : {C : Type 0} → (C → Tree → List Request) → CallMeaning C → CallMeaning C
asking asks m = record { requests = asks; reply = m.reply; after = m.after }

-- ---- each request replaced

-- a list with each request replaced by a list
abbrev pub replaced : (Request → List Request) → List Request → List Request
replaced f [] = []
replaced f (g ∷ gs) = f g ++ replaced f gs

-- a list in the form stays in it, and covers at least what it did
pub record IsReplacement (f : Request → List Request) : Type 0 where
  pub form : (gs : List Request) → HasForm gs → HasForm (replaced f gs)
  pub covers : (gs : List Request) → HasForm gs → IsCoveredBy gs (replaced f gs)

-- the call with its requests replaced, as it says
abbrev pub replaced_meaning : {C : Type 0} → (C → Request → List Request) → CallMeaning C → CallMeaning C
replaced_meaning f m = asking (λ c t. replaced (f c) (m.requests c t)) m

-- ---- requests behind its own

-- what a call asks for behind its own requests, by its reply, has the form
abbrev pub FollowInForm : {C : Type 0} → (C → Type 0) → CallMeaning C → (C → Reply → List Request) → Type 0
FollowInForm {C = C} is_valid m more = (c : C) (t : Tree) → is_valid c → IsValidTree t → HasForm (more c (m.reply c t))

-- the call with these behind its own
abbrev pub followed_meaning : {C : Type 0} → (C → Reply → List Request) → CallMeaning C → CallMeaning C
followed_meaning more m = asking (λ c t. m.requests c t ++ more c (m.reply c t)) m

-- ---- two calls in a row

-- two calls as one: the first, the second as the tree before both tells it, and what is asked for on that tree
pub record TwoCalls (A C D : Type 0) : Type 0 where
  pub first : A → C
  pub second : A → Tree → D
  pub requests : A → Tree → List Request

-- the first one's refusal, or what the second is answered
abbrev pub unless_refused : Reply → Reply → Reply
unless_refused first second = if is_refused first then first else second

-- a refusal leaves the tree as it was
abbrev pub unless_refused_tree : Reply → Tree → Tree → Tree
unless_refused_tree reply before after = if is_refused reply then before else after

-- what both are answered, the second on the tree after the first
abbrev pub reply_in_a_row : {A C D : Type 0} → TwoCalls A C D → CallMeaning C → CallMeaning D → A → Tree → Reply
reply_in_a_row p m n a t = unless_refused (m.reply (p.first a) t) (n.reply (p.second a t) (m.after (p.first a) t))

-- both as one call
abbrev pub in_a_row : {A C D : Type 0} → TwoCalls A C D → CallMeaning C → CallMeaning D → CallMeaning A
in_a_row p m n = record {
  requests = p.requests;
  reply = reply_in_a_row p m n;
  after = λ a t. unless_refused_tree (reply_in_a_row p m n a t) t (n.after (p.second a t) (m.after (p.first a) t));
}

-- the first is not refused
abbrev pub GoesOn : {A C D : Type 0} → TwoCalls A C D → CallMeaning C → A → Tree → Type 0
GoesOn p m a t = is_refused (m.reply (p.first a) t) ≡ false

-- both calls are valid, the second where it is made
pub record AreValid {A C D : Type 0} (first_valid : C → Type 0) (second_valid : D → Type 0) (p : TwoCalls A C D) (m : CallMeaning C) (a : A) : Type 0 where
  pub first : first_valid (p.first a)
  pub second : (t : Tree) → IsValidTree t → GoesOn p m a t → second_valid (p.second a t)

-- the requests cover on the tree before what each of the two asks for where it is made, and tell the second
pub record CoverBoth {A C D : Type 0} (is_valid : A → Type 0) (p : TwoCalls A C D) (m : CallMeaning C) (n : CallMeaning D) : Type 0 where
  pub first : (a : A) (t : Tree) → is_valid a → IsValidTree t → IsCoveredBy (m.requests (p.first a) t) (p.requests a t)
  pub second : (a : A) (t : Tree) → is_valid a → IsValidTree t → GoesOn p m a t
      → IsCoveredBy (n.requests (p.second a t) (m.after (p.first a) t)) (p.requests a t)
  pub same_second : (a : A) (t u : Tree) → is_valid a → IsValidTree t → IsValidTree u → GoesOn p m a t → Agree (p.requests a t) t u
      → p.second a t ≡ p.second a u

-- under such requests both as one keep the laws, wherever both are valid
abbrev pub KeepLawsInARow : {A C D : Type 0} → (C → Type 0) → (D → Type 0) → CallMeaning C → CallMeaning D → TwoCalls A C D → Type 0
KeepLawsInARow {A = A} first_valid second_valid m n p =
    AreAskable (AreValid first_valid second_valid p m) p.requests
    → CoverBoth (AreValid first_valid second_valid p m) p m n
    → CallLaws A (AreValid first_valid second_valid p m) (in_a_row p m n)

-- ---- two calls of which each asks its own requests

-- those of the first, and unless it is refused those of the second on the tree after it
abbrev pub asked_in_turn : {A C D : Type 0} → TwoCalls A C D → CallMeaning C → CallMeaning D → A → Tree → List Request
asked_in_turn p m n a t =
    m.requests (p.first a) t ++ (if is_refused (m.reply (p.first a) t) then [] else n.requests (p.second a t) (m.after (p.first a) t))

-- the two calls under these
abbrev pub in_turn : {A C D : Type 0} → TwoCalls A C D → CallMeaning C → CallMeaning D → TwoCalls A C D
in_turn p m n = record { first = p.first; second = p.second; requests = asked_in_turn p m n }

-- what the first covers for reading tells the second
abbrev pub FirstTellsSecond : {A C D : Type 0} → (A → Type 0) → TwoCalls A C D → CallMeaning C → Type 0
FirstTellsSecond {A = A} is_valid p m = (a : A) (t u : Tree) → is_valid a → IsValidTree t → IsValidTree u → GoesOn p m a t → Agree (m.requests (p.first a) t) t u
    → p.second a t ≡ p.second a u

-- then they keep the laws, wherever both are valid
abbrev pub KeepLawsInTurn : {A C D : Type 0} → (C → Type 0) → (D → Type 0) → CallMeaning C → CallMeaning D → TwoCalls A C D → Type 0
KeepLawsInTurn {A = A} first_valid second_valid m n p =
    FirstTellsSecond (AreValid first_valid second_valid p m) p m → CallLaws A (AreValid first_valid second_valid p m) (in_a_row (in_turn p m n) m n)
