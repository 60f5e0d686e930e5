-- Requests that ask for no more than is held already.
use Rattle.std.proofs.Common.{◌≡◌, ℕ, zero, suc, Bool, true, false, cond, not, ◌&&◌, ◌||◌, List, [], ◌∷◌, ◌++◌, take, length, ◌≤◌, nat_lt, Option, Some, None, codes, refl, sym, ap, ap₂, subst, ◌∙◌, arith, if◌then◌else◌, unwrap_or, is_some, true≢false, Decides}
use Rattle.std.proofs.lemmas.Bool.Decides.{nat_tests}
use Rattle.std.proofs.lemmas.List.Folds.{list_any-append}
use Rattle.std.proofs.lemmas.Slice.Eq.{bytes_eq-Decides}
use Rattle.std.specs.List.{AllByRecursion, list_any}
use Rattle.std.specs.Str.{bytes_eq}
use Rattle.lock_modes.specs.ModeNames.{ask_name}
use Rattle.lock_modes.specs.Modes.{join}
use Rattle.lock_modes.specs.EdgeModes.{edge_join}
use Rattle.lock_modes.specs.declared.ask.Ask.{Ask}
use Rattle.lock_modes.specs.declared.ask.Ask.TheVariants as ask
use Rattle.lock_modes.specs.declared.mode.Mode.{Mode}
use Rattle.lock_modes.specs.declared.mode.Mode.TheVariants.{IR, NR, LR, SR, IX, LRIX, SRIX, CX, LRCX, SRCX, SX}
use Rattle.lock_modes.specs.declared.edge_mode.EdgeMode.{EdgeMode}
use Rattle.lock_modes.specs.declared.edge_mode.EdgeMode.TheVariants.{ER, EX}
use Rattle.lock_modes.proofs.Joins.{join_associative, join_commutative, join_idempotent}
use Rattle.lock_resources.specs.declared.request.Request.{Request}
use Rattle.lock_resources.specs.declared.resource.Resource.{Resource}
use Rattle.lock_table.specs.Asks.{join_asks, join_with, Covers}
use Rattle.lock_table.specs.Grants.{held_after, join_of}
use Rattle.lock_table.specs.Resources.{same_resource}
use Rattle.lock_table.proofs.Listing.{same_itself}
use Rattle.lock_table.proofs.Maps.{exact_resources}
use Rattle.tx_core.specs.Retries.{same_ask, has_mode, hold_more, same_request}
use Rattle.tx_core.specs.inside.Retrying.{first_at}

and_both : (a b : Bool) → (a && b) ≡ true → (a ≡ true) × (b ≡ true)
and_both true b e = (refl, e)
and_both false b e = absurd (true≢false (sym e))

or_off : (a b : Bool) → (a || b) ≡ false → (a ≡ false) × (b ≡ false)
or_off true b e = absurd (true≢false e)
or_off false b e = (refl, e)

turned : (b : Bool) → not b ≡ false → b ≡ true
turned true e = refl
turned false e = absurd (true≢false e)

-- ---- modes by their names

of_name : List ℕ → Ask
of_name ns =
    if bytes_eq ns (codes "IR") then ask.Node IR
    else if bytes_eq ns (codes "NR") then ask.Node NR
    else if bytes_eq ns (codes "LR") then ask.Node LR
    else if bytes_eq ns (codes "SR") then ask.Node SR
    else if bytes_eq ns (codes "IX") then ask.Node IX
    else if bytes_eq ns (codes "LRIX") then ask.Node LRIX
    else if bytes_eq ns (codes "SRIX") then ask.Node SRIX
    else if bytes_eq ns (codes "CX") then ask.Node CX
    else if bytes_eq ns (codes "LRCX") then ask.Node LRCX
    else if bytes_eq ns (codes "SRCX") then ask.Node SRCX
    else if bytes_eq ns (codes "ER") then ask.Edge ER
    else if bytes_eq ns (codes "EX") then ask.Edge EX
    else ask.Node SX

named : (a : Ask) → of_name (ask_name a) ≡ a
unfolding of_name
named (ask.Node IR) = refl
named (ask.Node NR) = refl
named (ask.Node LR) = refl
named (ask.Node SR) = refl
named (ask.Node IX) = refl
named (ask.Node LRIX) = refl
named (ask.Node SRIX) = refl
named (ask.Node CX) = refl
named (ask.Node LRCX) = refl
named (ask.Node SRCX) = refl
named (ask.Node SX) = refl
named (ask.Edge ER) = refl
named (ask.Edge EX) = refl

pub same_ask_is : (a b : Ask) → same_ask a b ≡ true → a ≡ b
same_ask_is a b e = sym (named a) ∙ ap of_name ((bytes_eq-Decides (ask_name a) (ask_name b)).0 e) ∙ named b

same_ask_itself : (a : Ask) → same_ask a a ≡ true
same_ask_itself a = (bytes_eq-Decides (ask_name a) (ask_name a)).1 refl

pub same_ask_decides : (a b : Ask) → Decides (same_ask a b) (a ≡ b)
same_ask_decides a b = (same_ask_is a b, λ e. subst (λ x. same_ask a x ≡ true) e (same_ask_itself a))

pub same_request_decides : (g h : Request) → Decides (same_request g h) (g ≡ h)
same_request_decides g h = (
  λ e.
      let both = and_both (same_resource g.resource h.resource) (same_ask g.ask h.ask) e in
      ap₂ (λ (r : Resource) (a : Ask). record { resource = r; ask = a }) (exact_resources g.resource h.resource both.0) (same_ask_is g.ask h.ask both.1),
  λ e. subst (λ (x : Request). same_request g x ≡ true) e (ap₂ (λ (x y : Bool). x && y) (same_itself g.resource) (same_ask_itself g.ask)),
)

-- ---- modes that are held already

injected : (a b : Ask) → Some a ≡ Some b → a ≡ b
injected a b e = ap (λ o. unwrap_or o a) e

nothing_held : {A : Type 0} (a : Ask) → None ≡ Some a → A
nothing_held a e = absurd (true≢false (sym (ap is_some e)))

pub has_mode_decides : (h : Option Ask) (a : Ask) → Decides (has_mode h a) (Covers h a)
has_mode_decides None a = (λ e. absurd (true≢false (sym e)), nothing_held a)
has_mode_decides (Some h) a = (λ e. ap Some (sym (same_ask_is (join_asks a h) h e)), λ e. subst (λ x. same_ask x h ≡ true) (injected h (join_asks a h) e) (same_ask_itself h))

top : (m : Mode) → join m SX ≡ SX
top IR = refl
top NR = refl
top LR = refl
top SR = refl
top IX = refl
top LRIX = refl
top SRIX = refl
top CX = refl
top LRCX = refl
top SRCX = refl
top SX = refl

edge_turned : (e f g : EdgeMode) → edge_join e (edge_join f g) ≡ edge_join f (edge_join e g)
edge_turned ER ER ER = refl
edge_turned ER ER EX = refl
edge_turned ER EX ER = refl
edge_turned ER EX EX = refl
edge_turned EX ER ER = refl
edge_turned EX ER EX = refl
edge_turned EX EX ER = refl
edge_turned EX EX EX = refl

mode_turned : (m n k : Mode) → join m (join n k) ≡ join n (join m k)
mode_turned m n k = sym (join_associative m n k) ∙ ap (λ x. join x k) (join_commutative m n) ∙ join_associative n m k

joins_turned : (a b h : Ask) → join_asks a (join_asks b h) ≡ join_asks b (join_asks a h)
joins_turned (ask.Node m) (ask.Node n) (ask.Node k) = ap ask.Node (mode_turned m n k)
joins_turned (ask.Node m) (ask.Node n) (ask.Edge g) = ap ask.Node (top m ∙ sym (top n))
joins_turned (ask.Node m) (ask.Edge f) (ask.Node k) = ap ask.Node (top m)
joins_turned (ask.Node m) (ask.Edge f) (ask.Edge g) = refl
joins_turned (ask.Edge e) (ask.Node n) (ask.Node k) = sym (ap ask.Node (top n))
joins_turned (ask.Edge e) (ask.Node n) (ask.Edge g) = refl
joins_turned (ask.Edge e) (ask.Edge f) (ask.Node k) = refl
joins_turned (ask.Edge e) (ask.Edge f) (ask.Edge g) = ap ask.Edge (edge_turned e f g)

edge_again : (e f : EdgeMode) → edge_join e (edge_join e f) ≡ edge_join e f
edge_again ER ER = refl
edge_again ER EX = refl
edge_again EX ER = refl
edge_again EX EX = refl

edge_itself : (e : EdgeMode) → edge_join e e ≡ e
edge_itself ER = refl
edge_itself EX = refl

joined_again : (a h : Ask) → join_asks a (join_asks a h) ≡ join_asks a h
joined_again (ask.Node m) (ask.Node k) = ap ask.Node (sym (join_associative m m k) ∙ ap (λ x. join x k) (join_idempotent m))
joined_again (ask.Node m) (ask.Edge g) = ap ask.Node (top m)
joined_again (ask.Edge e) (ask.Node k) = refl
joined_again (ask.Edge e) (ask.Edge g) = ap ask.Edge (edge_again e g)

joined_itself : (a : Ask) → join_asks a a ≡ a
joined_itself (ask.Node m) = ap ask.Node (join_idempotent m)
joined_itself (ask.Edge e) = ap ask.Edge (edge_itself e)

edge_grouped : (e f g : EdgeMode) → edge_join (edge_join e f) g ≡ edge_join e (edge_join f g)
edge_grouped ER f g = refl
edge_grouped EX f g = refl

joins_grouped : (a b h : Ask) → join_asks (join_asks a b) h ≡ join_asks a (join_asks b h)
joins_grouped (ask.Node m) (ask.Node n) (ask.Node k) = ap ask.Node (join_associative m n k)
joins_grouped (ask.Node m) (ask.Node n) (ask.Edge g) = sym (ap ask.Node (top m))
joins_grouped (ask.Node m) (ask.Edge f) (ask.Node k) = sym (ap ask.Node (top m))
joins_grouped (ask.Node m) (ask.Edge f) (ask.Edge g) = refl
joins_grouped (ask.Edge e) (ask.Node n) (ask.Node k) = refl
joins_grouped (ask.Edge e) (ask.Node n) (ask.Edge g) = refl
joins_grouped (ask.Edge e) (ask.Edge f) (ask.Node k) = refl
joins_grouped (ask.Edge e) (ask.Edge f) (ask.Edge g) = ap ask.Edge (edge_grouped e f g)

-- what covers a mode covers all that this one does
pub covers_through : (a b : Ask) (h : Option Ask) → Covers (Some b) a → Covers h b → Covers h a
covers_through a b None within e = nothing_held b e
covers_through a b (Some h) within e =
    let same = injected h (join_asks b h) e in
    ap Some (same ∙ ap (λ x. join_asks x h) (injected b (join_asks a b) within) ∙ joins_grouped a b h ∙ ap (join_asks a) (sym same))

-- what was granted is held
pub granted_covers : (a : Ask) (h : Option Ask) → Covers (Some (join_with a h)) a
granted_covers a None = ap Some (sym (joined_itself a))
granted_covers a (Some h) = ap Some (sym (joined_again a h))

-- and stays so by a further grant
pub covers_more : (a b : Ask) (h : Option Ask) → Covers h a → Covers (Some (join_with b h)) a
covers_more a b None e = nothing_held a e
covers_more a b (Some h) e = ap Some (ap (join_asks b) (injected h (join_asks a h) e) ∙ joins_turned b a h)

covers_after : (a : Ask) (h : Option Ask) (gs : List Request) (r : Resource) → Covers h a → Covers (held_after h gs r) a
covers_after a h [] r e = e
covers_after a h (g ∷ gs) r e = covers_after a (cond (same_resource g.resource r) (Some (join_with g.ask h)) h) gs r (go (same_resource g.resource r))
  where
    go : (b : Bool) → Covers (cond b (Some (join_with g.ask h)) h) a
    go true = covers_more a g.ask h e
    go false = e

-- all that was granted is held
all_held : (f : Resource → Option Ask) (gs : List Request) → AllByRecursion (λ g. Covers (held_after (f g.resource) gs g.resource) g.ask) gs
all_held f [] = tt
all_held f (g ∷ gs) = (
  covers_after g.ask (cond (same_resource g.resource g.resource) (Some (join_with g.ask (f g.resource))) (f g.resource)) gs g.resource
      (subst (λ (b : Bool). Covers (cond b (Some (join_with g.ask (f g.resource))) (f g.resource)) g.ask) (sym (same_itself g.resource)) (granted_covers g.ask (f g.resource))),
  all_held (λ r. cond (same_resource g.resource r) (Some (join_with g.ask (f r))) (f r)) gs,
)

none_lacks : (f : Resource → Option Ask) (gs : List Request) → AllByRecursion (λ g. Covers (f g.resource) g.ask) gs → list_any (λ g. not (has_mode (f g.resource) g.ask)) gs ≡ false
none_lacks f [] all = refl
none_lacks f (g ∷ gs) all = ap₂ (λ (x y : Bool). not x || y) ((has_mode_decides (f g.resource) g.ask).1 all.0) (none_lacks f gs all.1)

-- no grant is lacking
pub none_lacking : (gs : List Request) → list_any (λ g. not (has_mode (join_of gs g.resource) g.ask)) gs ≡ false
none_lacking gs = none_lacks (join_of gs) gs (all_held (λ r. None) gs)

-- a list of grants with more holds more exactly where one of these does
pub more_lack : (gs more : List Request) → hold_more gs (gs ++ more) ≡ list_any (λ g. not (has_mode (join_of gs g.resource) g.ask)) more
more_lack gs more =
    list_any-append (λ g. not (has_mode (join_of gs g.resource) g.ask)) gs more
    ∙ ap (λ b. b || list_any (λ g. not (has_mode (join_of gs g.resource) g.ask)) more) (none_lacking gs)

after_both : (h : Option Ask) (gs more : List Request) (r : Resource) → held_after h (gs ++ more) r ≡ held_after (held_after h gs r) more r
after_both h [] more r = refl
after_both h (g ∷ gs) more r = after_both (cond (same_resource g.resource r) (Some (join_with g.ask h)) h) gs more r

-- grants of what is held change nothing
nothing_more : (f : Resource → Option Ask) (more : List Request) (r : Resource) → list_any (λ g. not (has_mode (f g.resource) g.ask)) more ≡ false → held_after (f r) more r ≡ f r
nothing_more f [] r e = refl
nothing_more f (g ∷ more) r e =
    let off = or_off (not (has_mode (f g.resource) g.ask)) (list_any (λ q. not (has_mode (f q.resource) q.ask)) more) e in
    ap (λ h. held_after h more r) (go (same_resource g.resource r) refl ((has_mode_decides (f g.resource) g.ask).0 (turned (has_mode (f g.resource) g.ask) off.0))) ∙ nothing_more f more r off.1
  where
    go : (b : Bool) → same_resource g.resource r ≡ b → Covers (f g.resource) g.ask → cond (same_resource g.resource r) (Some (join_with g.ask (f r))) (f r) ≡ f r
    go true e covers =
        ap (λ b. cond b (Some (join_with g.ask (f r))) (f r)) e
        ∙ subst (λ x. Some (join_with g.ask (f x)) ≡ f x) (exact_resources g.resource r e) (sym covers)
    go false e covers = ap (λ b. cond b (Some (join_with g.ask (f r))) (f r)) e

pub held_alike : (gs more : List Request) (r : Resource) → hold_more gs (gs ++ more) ≡ false → join_of (gs ++ more) r ≡ join_of gs r
held_alike gs more r e = after_both None gs more r ∙ nothing_more (join_of gs) more r (sym (more_lack gs more) ∙ e)

-- ---- the first of a list that passes a test

pub passed_before : {A : Type 0} (p : A → Bool) (xs : List A) (k : ℕ) → k ≤ length xs → list_any p (take k xs) ≡ nat_lt (first_at p xs) k
passed_before p [] zero within = grind (arith, nat_tests)
passed_before p [] (suc k) within = grind (arith, within)
passed_before p (x ∷ xs) zero within = grind (arith, nat_tests)
passed_before p (x ∷ xs) (suc k) within = go (p x) (passed_before p xs k (omega (arith, within)))
  where
    go : (b : Bool) → list_any p (take k xs) ≡ nat_lt (first_at p xs) k → (b || list_any p (take k xs)) ≡ nat_lt (if b then 0 else suc (first_at p xs)) (suc k)
    go true rest = grind (arith, nat_tests)
    go false rest = grind (arith, nat_tests, rest)
