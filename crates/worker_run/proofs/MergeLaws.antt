-- How replies are put together, from the last line to the first.
use Rattle.std.proofs.Common.{◌≡◌, ◌∙◌, ◌<◌, ◌+◌, ◌==◌, ℕ, Bool, cond, true, false, zero, suc, refl, sym, ap, ap₂, subst, arith, List, [], ◌∷◌, ◌++◌, length, take, drop, append_assoc, append-nil, length-append, true≢false}
use Rattle.std.specs.Prelude.{reverse}
use Rattle.std.specs.List.{slice_index_or}
use Rattle.std.specs.Cmp.{unsigned_Decides}
use Rattle.std.proofs.lemmas.List.{reverse-append}
use Rattle.std.proofs.lemmas.List.Elements.{filter-append}
use Rattle.std.proofs.Math.Seq.{take-length, take-suc}
use Rattle.command_lines.specs.declared.command.Command.{Command}
use Rattle.command_lines.specs.declared.line_reply.LineReply.{LineReply}
use Rattle.worker_run.specs.Workers.{own_lines}
use Rattle.worker_run.specs.inside.Merging.{AllMerging, AreFull, AreMerged, Gave, GaveHere, HaveOneSeat, Lacks, LacksHere, Merging, Seat, own_replies, seats_of}
use Rattle.worker_run.proofs.WorkLaws.{next_line}

other_way : (a b : ℕ) (v : Bool) → (a == b) ≡ v → (b == a) ≡ v
other_way a b true e = (unsigned_Decides b a).1 (sym ((unsigned_Decides a b).0 e))
other_way a b false e = go (b == a) refl
  where
    go : (w : Bool) → (b == a) ≡ w → (b == a) ≡ false
    go false f = f
    go true f = absurd (true≢false (sym ((unsigned_Decides a b).1 (sym ((unsigned_Decides b a).0 f))) ∙ e))

-- ---- one more line at the front

last_line : (lines : List Command) (n : ℕ) (c : Command) → n < length lines → c ≡ slice_index_or lines n c → take (n + 1) lines ≡ take n lines ++ c ∷ []
last_line lines n c lt at =
    let one_more : n + 1 ≡ suc n = omega arith in
    ap (λ k. take k lines) one_more ∙ take-suc lines n c lt ∙ ap (λ x. take n lines ++ x ∷ []) (sym at)

lines_on : (lines : List Command) (n s : ℕ) (c : Command) → n < length lines → c ≡ slice_index_or lines n c
    → own_lines s (take (n + 1) lines) ≡ own_lines s (take n lines) ++ cond (c.session == s) (c ∷ []) []
lines_on lines n s c lt at = ap (own_lines s) (last_line lines n c lt at) ∙ filter-append (λ (x : Command). x.session == s) (take n lines) (c ∷ [])

count_own : (lines : List Command) (n s : ℕ) (c : Command) → n < length lines → c ≡ slice_index_or lines n c → (c.session == s) ≡ true
    → length (own_lines s (take (n + 1) lines)) ≡ length (own_lines s (take n lines)) + 1
count_own lines n s c lt at is = ap length (lines_on lines n s c lt at ∙ ap (λ b. own_lines s (take n lines) ++ cond b (c ∷ []) []) is) ∙ length-append (own_lines s (take n lines)) (c ∷ [])

count_other : (lines : List Command) (n s : ℕ) (c : Command) → n < length lines → c ≡ slice_index_or lines n c → (c.session == s) ≡ false
    → length (own_lines s (take (n + 1) lines)) ≡ length (own_lines s (take n lines))
count_other lines n s c lt at is = ap length (lines_on lines n s c lt at ∙ ap (λ b. own_lines s (take n lines) ++ cond b (c ∷ []) []) is ∙ append-nil (own_lines s (take n lines)))

replies_on : (lines : List Command) (n s : ℕ) (c : Command) (r : LineReply) (out : List LineReply) → n < length lines → c ≡ slice_index_or lines n c
    → own_replies s (drop n lines) (reverse (out ++ r ∷ [])) ≡ cond (c.session == s) (r ∷ own_replies s (drop (n + 1) lines) (reverse out)) (own_replies s (drop (n + 1) lines) (reverse out))
replies_on lines n s c r out lt at = ap₂ (own_replies s) (next_line lines n c lt at) (reverse-append out (r ∷ []))

module _ (lines : List Command) (n : ℕ) (out : List LineReply) (r : LineReply) (c : Command) (lt : n < length lines) (at : c ≡ slice_index_or lines n c) where
  -- the seat of another session
  other_seat : (x y z : Seat) → z.0 ≡ y.0 → z.1 ≡ y.1 → (y.0 == c.session) ≡ false → Merging lines (n + 1) out x y → Merging lines n (out ++ r ∷ []) x z
  other_seat x y z same kept apart m =
      let off : (c.session == x.0) ≡ false = ap (λ s. c.session == s) (sym m.same) ∙ other_way y.0 c.session false apart in
      record {
        same = same ∙ m.same;
        kept = m.kept ∙ ap₂ (λ a b. a ++ b) (sym kept) (sym (replies_on lines n x.0 c r out lt at
            ∙ ap (λ b. cond b (r ∷ own_replies x.0 (drop (n + 1) lines) (reverse out)) (own_replies x.0 (drop (n + 1) lines) (reverse out))) off));
        rest = ap length kept ∙ m.rest ∙ count_other lines n x.0 c lt at off;
      }

  -- the seat of the line's session
  here_seat : (x y z : Seat) → z.0 ≡ y.0 → y.1 ≡ z.1 ++ r ∷ [] → (y.0 == c.session) ≡ true → Merging lines (n + 1) out x y → Merging lines n (out ++ r ∷ []) x z
  here_seat x y z same took is m =
      let on : (c.session == x.0) ≡ true = ap (λ s. c.session == s) (sym m.same) ∙ other_way y.0 c.session true is in
      let more : length y.1 ≡ length z.1 + 1 = ap length took ∙ length-append z.1 (r ∷ []) in
      let fewer : length y.1 ≡ length (own_lines x.0 (take n lines)) + 1 = m.rest ∙ count_own lines n x.0 c lt at on in
      record {
        same = same ∙ m.same;
        kept = m.kept ∙ ap (λ a. a ++ own_replies x.0 (drop (n + 1) lines) (reverse out)) took ∙ append_assoc z.1 (r ∷ []) (own_replies x.0 (drop (n + 1) lines) (reverse out))
            ∙ ap (λ b. z.1 ++ b) (sym (replies_on lines n x.0 c r out lt at
            ∙ ap (λ b. cond b (r ∷ own_replies x.0 (drop (n + 1) lines) (reverse out)) (own_replies x.0 (drop (n + 1) lines) (reverse out))) on));
        rest = omega arith;
      }

  others : (xs ys : List Seat) → length (seats_of c.session ys) ≡ 0 → AllMerging lines (n + 1) out xs ys → AllMerging lines n (out ++ r ∷ []) xs ys
  others [] [] none m = tt
  others [] (y ∷ ys) none m = absurd m
  others (x ∷ xs) [] none m = absurd m
  others (x ∷ xs) (y ∷ ys) none m = go (y.0 == c.session) refl none (others xs ys)
    where
      go : (b : Bool) → (y.0 == c.session) ≡ b → length (cond b (y ∷ seats_of c.session ys) (seats_of c.session ys)) ≡ 0
          → (length (seats_of c.session ys) ≡ 0 → AllMerging lines (n + 1) out xs ys → AllMerging lines n (out ++ r ∷ []) xs ys)
          → AllMerging lines n (out ++ r ∷ []) (x ∷ xs) (y ∷ ys)
      go true e left further = absurd (omega arith)
      go false e left further = (other_seat x y y refl refl e m.0, further left m.1)

  pub merging_on : (xs ys zs : List Seat) → length (seats_of c.session ys) ≡ 1 → Gave c.session r ys zs → AllMerging lines (n + 1) out xs ys → AllMerging lines n (out ++ r ∷ []) xs zs
  merging_on xs [] zs one g m = absurd g
  merging_on xs (y ∷ ys) [] one g m = absurd g
  merging_on [] (y ∷ ys) (z ∷ zs) one g m = absurd m
  merging_on (x ∷ xs) (y ∷ ys) (z ∷ zs) one g m = go (y.0 == c.session) refl one g.1 (merging_on xs ys zs)
    where
      go : (b : Bool) → (y.0 == c.session) ≡ b → length (cond b (y ∷ seats_of c.session ys) (seats_of c.session ys)) ≡ 1
          → GaveHere c.session r y z ys zs (Gave c.session r ys zs) b
          → (length (seats_of c.session ys) ≡ 1 → Gave c.session r ys zs → AllMerging lines (n + 1) out xs ys → AllMerging lines n (out ++ r ∷ []) xs zs)
          → AllMerging lines n (out ++ r ∷ []) (x ∷ xs) (z ∷ zs)
      go true e single h further =
          let none : length (seats_of c.session ys) ≡ 0 = omega arith in
          (here_seat x y z g.0 h.0 e m.0, subst (AllMerging lines n (out ++ r ∷ []) xs) (sym h.1) (others xs ys none m.1))
      go false e single h further = (other_seat x y z g.0 h.0 e m.0, further single h.1 m.1)

module _ (lines : List Command) (n : ℕ) (out : List LineReply) (c : Command) (lt : n < length lines) (at : c ≡ slice_index_or lines n c) where
  -- ---- a line's session has a reply

  pub has_reply : (xs ys : List Seat) → length (seats_of c.session ys) ≡ 1 → AllMerging lines (n + 1) out xs ys → Lacks c.session ys → ⊥
  has_reply xs [] one m lacks = absurd (omega arith)
  has_reply [] (y ∷ ys) one m lacks = m
  has_reply (x ∷ xs) (y ∷ ys) one m lacks = go (y.0 == c.session) refl lacks one (has_reply xs ys)
    where
      go : (b : Bool) → (y.0 == c.session) ≡ b → LacksHere y (Lacks c.session ys) b → length (cond b (y ∷ seats_of c.session ys) (seats_of c.session ys)) ≡ 1
          → (length (seats_of c.session ys) ≡ 1 → AllMerging lines (n + 1) out xs ys → Lacks c.session ys → ⊥) → ⊥
      go true e none single further =
          let on : (c.session == x.0) ≡ true = ap (λ s. c.session == s) (sym m.0.same) ∙ other_way y.0 c.session true e in
          let some_left : length y.1 ≡ length (own_lines x.0 (take n lines)) + 1 = m.0.rest ∙ count_own lines n x.0 c lt at on in
          let nothing : length y.1 ≡ 0 = ap length none in
          absurd (omega arith)
      go false e l single further = further single m.1 l

-- ---- the seats' sessions stay

pub same_seats : (lines : List Command) (left s : ℕ) (out : List LineReply) (xs ys : List Seat) → AllMerging lines left out xs ys → length (seats_of s ys) ≡ length (seats_of s xs)
same_seats lines left s out [] [] m = refl
same_seats lines left s out [] (y ∷ ys) m = absurd m
same_seats lines left s out (x ∷ xs) [] m = absurd m
same_seats lines left s out (x ∷ xs) (y ∷ ys) m =
    ap (λ k. length (cond (k == s) (y ∷ seats_of s ys) (seats_of s ys))) m.0.same ∙ go (x.0 == s) (same_seats lines left s out xs ys m.1)
  where
    go : (b : Bool) → length (seats_of s ys) ≡ length (seats_of s xs) → length (cond b (y ∷ seats_of s ys) (seats_of s ys)) ≡ length (cond b (x ∷ seats_of s xs) (seats_of s xs))
    go true e = ap suc e
    go false e = e

-- ---- the begin and the end

nothing_beside : (s : ℕ) (lines : List Command) → own_replies s lines [] ≡ []
nothing_beside s [] = refl
nothing_beside s (c ∷ cs) = refl

pub merging_begins : (lines : List Command) (xs : List Seat) → AreFull lines xs → AllMerging lines (length lines) [] xs xs
merging_begins lines [] ready = tt
merging_begins lines (x ∷ xs) ready = (
  record {
    same = refl;
    kept = sym (append-nil x.1) ∙ ap (λ rs. x.1 ++ rs) (sym (nothing_beside x.0 (drop (length lines) lines)));
    rest = ready.0 ∙ ap (λ ls. length (own_lines x.0 ls)) (sym (take-length lines));
  },
  merging_begins lines xs ready.1,
)

empty : {A : Type 0} (xs : List A) → length xs ≡ 0 → xs ≡ []
empty [] e = refl
empty (x ∷ xs) e = absurd (omega arith)

pub merging_ends : (lines : List Command) (left : ℕ) (out : List LineReply) (xs ys : List Seat) → left ≡ 0 → AllMerging lines left out xs ys → AreMerged lines (reverse out) xs
merging_ends lines left out [] [] none m = tt
merging_ends lines left out [] (y ∷ ys) none m = absurd m
merging_ends lines left out (x ∷ xs) [] none m = absurd m
merging_ends lines left out (x ∷ xs) (y ∷ ys) none m =
    let gone : y.1 ≡ [] = empty y.1 (m.0.rest ∙ ap (λ k. length (own_lines x.0 (take k lines))) none) in (
      sym (m.0.kept ∙ ap (λ rs. rs ++ own_replies x.0 (drop left lines) (reverse out)) gone ∙ ap (λ k. own_replies x.0 (drop k lines) (reverse out)) none),
      merging_ends lines left out xs ys none m.1,
    )

pub one_seat_at : (lines : List Command) (xs : List Seat) (n : ℕ) (c : Command) → n < length lines → c ≡ slice_index_or lines n c → HaveOneSeat xs lines → length (seats_of c.session xs) ≡ 1
one_seat_at [] xs n c lt at one = absurd (omega arith)
one_seat_at (d ∷ ds) xs zero c lt at one = ap (λ (x : Command). length (seats_of x.session xs)) at ∙ one.0
one_seat_at (d ∷ ds) xs (suc n) c lt at one = one_seat_at ds xs n c (omega arith) at one.1
