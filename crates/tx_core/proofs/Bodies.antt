-- The bytes of a commit's changes, one change after another.
use Rattle.std.proofs.Common.{◌≡◌, ℕ, zero, suc, ◌<◌, ◌≤◌, true, false, true≢false, List, [], ◌∷◌, ◌++◌, take, length, get_or, length-append, nat_lt, ap, subst, ◌∙◌, arith, refl, sym, Option, Some, None, Result, Ok, Err, IfOk, OnOk}
use Rattle.std.proofs.lemmas.Bool.Decides.{nat_tests}
use Rattle.std.specs.Option.{unwrap_or}
use Rattle.std.specs.Prelude.{IsSome}
use Rattle.std.specs.Result.{is_err}
use Rattle.tree_model.specs.declared.change.Change.{Change}
use Rattle.node_records.specs.Changes.{change_bytes, changes_bytes, changes_of as changes_read}
use Rattle.node_seq.specs.ChangeLists.{IsChangeList}
use Rattle.tree_model.specs.Tree.{Tree}
use Rattle.call_contract.specs.CallChanges.{changes_of_calls}
use Rattle.call_contract.specs.Calls.{CallMeaning}
use Rattle.call_contract.specs.States.{Live}
use Rattle.tx_core.specs.Commits.{body_limit, changes_in, prepared_view, IsRead}
use Rattle.tx_core.specs.declared.parts.Seat.{Seat}
use Rattle.tx_core.specs.inside.Committing.{HasBody, IsBodyOf, IsCommit}
use Rattle.tx_core.specs.inside.Standing.{IsSeat}

-- what holds of a result that isn't an error
pub ok_of : {A E P : Type 0} (r : Result A E) → is_err r ≡ false → OnOk r P → P
ok_of (Ok x) e ok = ok
ok_of (Err y) e ok = absurd (true≢false e)

-- a front and the next change have no more bytes than all
bytes_next : (x : Change) (xs : List Change) (n : ℕ) → n < length xs → x ≡ get_or xs n x → length (changes_bytes (take n xs) ++ change_bytes x) ≤ length (changes_bytes xs)
bytes_next x [] n l h = absurd (omega arith)
bytes_next x (d ∷ cs) zero l h =
    let here = ap (λ (e : Change). length (change_bytes e)) h in
    let whole = length-append (change_bytes d) (changes_bytes cs) in
    omega (arith, here, whole)
bytes_next x (d ∷ cs) (suc n) l h =
    let rest = bytes_next x cs n (omega (arith, l)) h in
    let outer = length-append (change_bytes d ++ changes_bytes (take n cs)) (change_bytes x) in
    let front = length-append (change_bytes d) (changes_bytes (take n cs)) in
    let inner = length-append (changes_bytes (take n cs)) (change_bytes x) in
    let whole = length-append (change_bytes d) (changes_bytes cs) in
    omega (arith, rest, outer, front, inner, whole)

is_less : (x y : ℕ) → x < y → nat_lt x y ≡ true
is_less x y less = grind (arith, nat_tests, less)

-- where a front and the next change have too many bytes, so have all
pub past_limit : (out body : List ℕ) (x : Change) (xs : List Change) (n : ℕ) → n < length xs → x ≡ get_or xs n x
    → out ≡ body ++ change_bytes x → body ≡ changes_bytes (take n xs) → body_limit < length out
    → nat_lt body_limit (length (changes_bytes xs)) ≡ true
past_limit out body x xs n within here wrote so_far over =
    let size = ap length (wrote ∙ ap (λ b. b ++ change_bytes x) so_far) in
    let next = bytes_next x xs n within here in
    is_less body_limit (length (changes_bytes xs)) (omega (arith, over, size, next))

-- what is said of a body's bytes one by one
pub body_is : {E : Type 0} (r : Result (List ℕ) E) (written all : List Change) → written ≡ all → IsChangeList all → IfOk r (λ body. body ≡ changes_bytes written)
    → IfOk r (λ body. changes_read body ≡ Some written) → IfOk r (λ body. length body ≤ body_limit) → IfOk r (λ body. IsBodyOf body all)
body_is (Ok body) written all same list bytes read short =
    record { list = list; bytes = bytes ∙ ap changes_bytes same; read = read ∙ ap Some same; short = short }
body_is (Err e) written all same list bytes read short = tt

-- ---- the body of a transaction

-- it is read as the transaction's changes
own_in : (seat : Seat) (body : List ℕ) → IsBodyOf body seat.own → changes_in body ≡ seat.own
own_in seat body is = ap (λ (o : Option (List Change)). unwrap_or o []) is.read

pub body_reads : (o : Option Seat) (body : List ℕ) → HasBody o body → IsRead body
body_reads None body is = elim is [ ]
body_reads (Some seat) body is = subst (λ (r : Option (List Change)). IsSome r) (sym is.read) refl

-- with a number it is a commit
pub body_commits : (o : Option Seat) (body : List ℕ) (n : ℕ) → HasBody o body → IsCommit n (prepared_view n body)
body_commits None body n is = elim is [ ]
body_commits (Some seat) body n is =
    let own = sym (own_in seat body is) in
    record {
      number = refl;
      list = subst IsChangeList own is.list;
      body = is.bytes ∙ ap changes_bytes own;
      read = is.read ∙ ap Some own;
      short = is.short;
    }

-- it is read as what the transaction's calls change
pub body_changes : {C : Type 0} (is_valid : C → Type 0) (m : CallMeaning C) (tree : Tree) (o : Option Seat) (body : List ℕ) (t : Live C) → HasBody o body → IsSeat is_valid m tree o (Some t)
    → changes_in body ≡ changes_of_calls m t.calls tree
body_changes is_valid m tree None body t is seated = elim is [ ]
body_changes is_valid m tree (Some seat) body t is seated = own_in seat body is ∙ seated.changes
