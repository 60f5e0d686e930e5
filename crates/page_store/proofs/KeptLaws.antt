-- What a pool keeps when its order changes, a page goes or one comes.
use Rattle.std.proofs.Common.{◌≡◌, ◌≤◌, ℕ, zero, suc, ◌+◌, ◌*◌, ◌-◌, Bool, true, false, cond, List, [], ◌∷◌, ◌++◌, length, take, drop, Option, Some, None, is_some, IfSome, nat_eq, refl, sym, ap, subst, ◌∙◌, arith}
use Rattle.std.specs.Prelude.{Result, MatchResult}
use Rattle.std.specs.Result.{IsErrAnd}
use Rattle.std.proofs.lemmas.Result.{err_from_is_err_and}
use Rattle.std.proofs.lemmas.Bool.{eqb-true, eq-eqb}
use Rattle.std.specs.Option.{option_map_or}
use Rattle.std.proofs.lemmas.List.{length-take, length-take-le, length-drop, take_all, take_at}
use Rattle.std.specs.List.{AllByRecursion}
use Rattle.std.specs.Map.{lookup, lookup_entry, remove_entry}
use Rattle.lru.specs.LruCache.{LruCache, lru_cache, promoted, put_entries}
use Rattle.page_store.specs.Pages.{IsPageOf, ArePagesOf, PoolView, is_kept, kept_after, page_of, with_room}

all_take : {X : Type 0} (P : X → Type 0) (n : ℕ) (xs : List X) → AllByRecursion P xs → AllByRecursion P (take n xs)
all_take P zero xs a = tt
all_take P (suc n) [] a = tt
all_take P (suc n) (x ∷ xs) a = (a.0, all_take P n xs a.1)

all_but : {X : Type 0} (P : ℕ × X → Type 0) (test : ℕ → Bool) (es : List (ℕ × X)) → AllByRecursion P es → AllByRecursion P (remove_entry test es)
all_but P test [] a = tt
all_but P test (e ∷ es) a = (elim (test e.0) as (λ y. AllByRecursion P (cond y es (e ∷ remove_entry test es))) [
  | true ↦ a.1
  | false ↦ (a.0, all_but P test es a.1)
])

found : {X : Type 0} (P : ℕ × X → Type 0) (k : ℕ) (es : List (ℕ × X)) → AllByRecursion P es → IfSome (lookup_entry (nat_eq k) es) (λ e. P e × (k ≡ e.0))
found P k [] a = tt
found P k (e ∷ es) a = (elim (nat_eq k e.0) as (λ y. nat_eq k e.0 ≡ y → IfSome (cond y (Some e) (lookup_entry (nat_eq k) es)) (λ e. P e × (k ≡ e.0))) [
  | true ↦ λ h. (a.0, eqb-true k e.0 h)
  | false ↦ λ h. found P k es a.1
]) refl

-- with a page put among them
put_page : {X : Type 0} (P : ℕ × X → Type 0) (c : LruCache ℕ X) (k : ℕ) (v : X) → AllByRecursion P c.entries → P (k, v) → AllByRecursion P (put_entries nat_eq c k v)
put_page P c k v a new = (elim (lookup_entry (nat_eq k) c.entries) as (λ o. IfSome o (λ e. P e × (k ≡ e.0)) → AllByRecursion P (option_map_or (λ e. (e.0, v) ∷ remove_entry (nat_eq k) c.entries) o ((k, v) ∷ take (c.cap - 1) c.entries))) [
  | Some e ↦ λ f. (subst (λ j. P (j, v)) f.1 new, all_but P (nat_eq k) c.entries a)
  | None ↦ λ f. (new, all_take P (c.cap - 1) c.entries a)
]) (found P k c.entries a)

-- one of them goes first
pub pages_promoted : (file : List ℕ) (k : ℕ) (es : List (ℕ × List ℕ)) → ArePagesOf file es → ArePagesOf file (promoted (nat_eq k) es)
pages_promoted file k es a = (elim (lookup_entry (nat_eq k) es) as (λ o. IfSome o (λ e. IsPageOf file e × (k ≡ e.0)) → ArePagesOf file (option_map_or (λ e. e ∷ remove_entry (nat_eq k) es) o es)) [
  | Some e ↦ λ f. (f.0, all_but (IsPageOf file) (nat_eq k) es a)
  | None ↦ λ f. a
]) (found (IsPageOf file) k es a)

any : {X : Type 0} (es : List (ℕ × X)) → AllByRecursion (λ e. Unit {0}) es
any [] = tt
any (e ∷ es) = (tt, any es)

-- it is there still
pub there_promoted : {X : Type 0} (k : ℕ) (es : List (ℕ × X)) → is_some (lookup (nat_eq k) es) ≡ true → is_some (lookup (nat_eq k) (promoted (nat_eq k) es)) ≡ true
there_promoted k es there = (elim (lookup_entry (nat_eq k) es) as (λ o. IfSome o (λ e. Unit {0} × (k ≡ e.0)) → is_some (lookup (nat_eq k) (option_map_or (λ e. e ∷ remove_entry (nat_eq k) es) o es)) ≡ true) [
  | Some e ↦ λ f. ap (λ b. is_some (cond b (Some e.1) (lookup (nat_eq k) (remove_entry (nat_eq k) es)))) (eq-eqb k e.0 f.1)
  | None ↦ λ f. there
]) (found (λ e. Unit {0}) k es (any es))

not_found : {X : Type 0} (k : ℕ) (es : List (ℕ × X)) → is_some (lookup (nat_eq k) es) ≡ false → lookup_entry (nat_eq k) es ≡ None
not_found k [] none = refl
not_found k (e ∷ es) none = (elim (nat_eq k e.0) as (λ y. is_some (cond y (Some e.1) (lookup (nat_eq k) es)) ≡ false → cond y (Some e) (lookup_entry (nat_eq k) es) ≡ None) [
  | true ↦ λ t. cc
  | false ↦ λ t. not_found k es t
]) none

not_taken : {X : Type 0} (k n : ℕ) (es : List (ℕ × X)) → is_some (lookup (nat_eq k) es) ≡ false → is_some (lookup (nat_eq k) (take n es)) ≡ false
not_taken k zero es none = refl
not_taken k (suc n) [] none = refl
not_taken k (suc n) (e ∷ es) none = (elim (nat_eq k e.0) as (λ y. is_some (cond y (Some e.1) (lookup (nat_eq k) es)) ≡ false → is_some (cond y (Some e.1) (lookup (nat_eq k) (take n es))) ≡ false) [
  | true ↦ λ t. t
  | false ↦ λ t. not_taken k n es t
]) none

-- where a page isn't kept, none goes first, and those stay that leave room for one
pub room_promoted : (k : ℕ) (c x : LruCache ℕ (List ℕ)) → is_some (lookup (nat_eq k) c.entries) ≡ false → x ≡ lru_cache (promoted (nat_eq k) c.entries) c.cap → take (x.cap - 1) x.entries ≡ take (c.cap - 1) c.entries
room_promoted k c x none is =
    ap (λ (y : LruCache ℕ (List ℕ)). take (y.cap - 1) y.entries) is
    ∙ ap (λ (o : Option (ℕ × List ℕ)). take (c.cap - 1) (option_map_or (λ e. e ∷ remove_entry (nat_eq k) c.entries) o c.entries)) (not_found k c.entries none)

-- a page that is kept goes first
pub kept_promoted : (k : ℕ) (bytes : List ℕ) (pool : PoolView) → is_kept k pool ≡ true → promoted (nat_eq k) pool.kept ≡ kept_after k bytes pool
kept_promoted k bytes pool there = sym (ap (λ b. cond b (promoted (nat_eq k) pool.kept) ((k, bytes) ∷ with_room pool)) there)

-- one that was read comes before those that stay
pub kept_put : (k : ℕ) (bytes : List ℕ) (pool : PoolView) (c : LruCache ℕ (List ℕ)) → is_kept k pool ≡ false → c.entries ≡ with_room pool → c.cap ≡ pool.most → put_entries nat_eq c k bytes ≡ kept_after k bytes pool
kept_put k bytes pool c none stay most =
    let absent : is_some (lookup (nat_eq k) c.entries) ≡ false = subst (λ es. is_some (lookup (nat_eq k) es) ≡ false) (sym stay) (not_taken k (pool.most - 1) pool.kept none) in
    let few : length (with_room pool) ≤ pool.most - 1 = omega (arith, length-take (pool.most - 1) pool.kept) in
    ap (λ (o : Option (ℕ × List ℕ)). option_map_or (λ e. (e.0, bytes) ∷ remove_entry (nat_eq k) c.entries) o ((k, bytes) ∷ take (c.cap - 1) c.entries)) (not_found k c.entries absent)
    ∙ ap (λ m. (k, bytes) ∷ take (m - 1) c.entries) most ∙ ap (λ es. (k, bytes) ∷ take (pool.most - 1) es) stay
    ∙ ap (λ es. (k, bytes) ∷ es) (take_all (pool.most - 1) (with_room pool) few)
    ∙ sym (ap (λ b. cond b (promoted (nat_eq k) pool.kept) ((k, bytes) ∷ with_room pool)) none)

-- where none was answered, those are kept that leave room for one
pub kept_at_err : {T E : Type 0} (Q : E → Type 0) (k : ℕ) (old : PoolView) (kept : List (ℕ × List ℕ)) (r : Result T E) → IsErrAnd r Q → kept ≡ with_room old
    → MatchResult r (λ _. (bytes : List ℕ) × (kept ≡ kept_after k bytes old)) (λ _. kept ≡ with_room old)
kept_at_err Q k old kept r is stay =
    let p = err_from_is_err_and r is in
    subst (λ o. MatchResult o (λ _. (bytes : List ℕ) × (kept ≡ kept_after k bytes old)) (λ _. kept ≡ with_room old)) (sym p.1) stay

-- the first so many of them
pub pages_take : (file : List ℕ) (n : ℕ) (es : List (ℕ × List ℕ)) → ArePagesOf file es → ArePagesOf file (take n es)
pages_take file n es a = all_take (IsPageOf file) n es a

-- with a page of the file put among them
pub pages_put : (file : List ℕ) (c : LruCache ℕ (List ℕ)) (k : ℕ) (v : List ℕ) → ArePagesOf file c.entries → v ≡ page_of k file → ArePagesOf file (put_entries nat_eq c k v)
pages_put file c k v a new = put_page (IsPageOf file) c k v a new

-- a page that lies in the file has all its bytes
pub page_length : (n : ℕ) (file : List ℕ) → 8_192 * n + 8_192 ≤ length file → length (page_of n file) ≡ 8_192
page_length n file within = length-take-le 8_192 (drop (8_192 * n) file) (omega (arith, within, length-drop (8_192 * n) file))

-- a page that was read over a whole frame
pub page_read : (n len m : ℕ) (file cells buf : List ℕ) → len ≡ 8_192 → m ≡ 8_192 → 8_192 * n + 8_192 ≤ length file → buf ≡ take m (drop (8_192 * n) file)
    → take len (buf ++ drop (length buf) cells) ≡ page_of n file
page_read n len m file cells buf full whole within read =
    let page : buf ≡ page_of n file = read ∙ ap (λ k. take k (drop (8_192 * n) file)) whole in
    take_at buf (drop (length buf) cells) len (ap length page ∙ page_length n file within ∙ sym full) ∙ page

-- what is found is the file's page
pub page_found : (file : List ℕ) (k : ℕ) (es : List (ℕ × List ℕ)) → ArePagesOf file es → IfSome (lookup (nat_eq k) es) (λ bytes. bytes ≡ page_of k file)
page_found file k [] a = tt
page_found file k (e ∷ es) a = (elim (nat_eq k e.0) as (λ y. nat_eq k e.0 ≡ y → IfSome (cond y (Some e.1) (lookup (nat_eq k) es)) (λ bytes. bytes ≡ page_of k file)) [
  | true ↦ λ h. a.0 ∙ ap (λ n. page_of n file) (sym (eqb-true k e.0 h))
  | false ↦ λ h. page_found file k es a.1
]) refl
