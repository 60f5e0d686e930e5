-- Steps of a disk one after another: what they leave where they all write behind a place, and what a read gives after them.
use Rattle.std.proofs.Common.{◌≡◌, ◌⊎◌, inl, inr, ℕ, ◌+◌, ◌≤◌, ◌<◌, List, [], ◌∷◌, ◌++◌, length, get_or, take, drop, refl, sym, ◌∙◌, ap, subst, arith, append_assoc, length-append, take-append-drop, length-take}
use Rattle.std.proofs.lemmas.List.{take_at, drop_at, drop-drop, append-nil, ext_get_or, get_or-take, length-take-le}
use Rattle.outside_traits.specs.Disks.{DiskState, OpensRange, all_synced, put_at}
use Rattle.outside_traits.specs.CrashImages.{IsImage, Misses}
use Rattle.outside_traits.specs.Moments.{History, LeavesOnly}
use Rattle.outside_traits.proofs.MomentLaws.{goes_on, goes_wrong}
use Rattle.journal.specs.Steps.{DiskStep, Does, StopsIn}
use Rattle.journal.specs.Steps.DiskStep.{write, sync}

-- ---- steps, one after another

pub does-append : (xs ys : List DiskStep) (a b c : History) → Does xs a b → Does ys b c → Does (xs ++ ys) a c
does-append [] ys a b c first second = subst (λ (t : History). Does ys t c) first second
does-append (x ∷ xs) ys a b c first second = (first.0, first.1, does-append xs ys first.0 b c first.2 second)

pub stops-before : (xs ys : List DiskStep) (a c : History) → StopsIn xs a c → StopsIn (xs ++ ys) a c
stops-before [] ys a c stops = elim stops [ ]
stops-before (x ∷ xs) ys a c (inl fails) = inl fails
stops-before (x ∷ xs) ys a c (inr more) = inr (more.0, more.1, stops-before xs ys more.0 c more.2)

pub stops-behind : (xs ys : List DiskStep) (a b c : History) → Does xs a b → StopsIn ys b c → StopsIn (xs ++ ys) a c
stops-behind [] ys a b c first stops = subst (λ (t : History). StopsIn ys t c) first stops
stops-behind (x ∷ xs) ys a b c first stops = inr (first.0, first.1, stops-behind xs ys first.0 b c first.2 stops)

pub does-parts : (xs ys : List DiskStep) (a c : History) → Does (xs ++ ys) a c → (b : History) × Does xs a b × Does ys b c
does-parts [] ys a c does = (a, refl, does)
does-parts (x ∷ xs) ys a c does =
    let more = does-parts xs ys does.0 c does.2 in
    (more.0, (does.0, does.1, more.1), more.2)

pub stops-parts : (xs ys : List DiskStep) (a c : History) → StopsIn (xs ++ ys) a c → StopsIn xs a c ⊎ ((b : History) × Does xs a b × StopsIn ys b c)
stops-parts [] ys a c stops = inr (a, refl, stops)
stops-parts (x ∷ xs) ys a c (inl fails) = inl (inl fails)
stops-parts (x ∷ xs) ys a c (inr more) = elim (stops-parts xs ys more.0 c more.2) [
  | inl within ↦ inl (inr (more.0, more.1, within))
  | inr behind ↦ inr (behind.0, (more.0, more.1, behind.1), behind.2)
]

-- ---- writes that all lie behind a place

-- each of these ranges begins at this place or behind it
abbrev pub AllFrom : ℕ → List (ℕ × ℕ) → Type 0
AllFrom at [] = Unit {0}
AllFrom at (range ∷ ranges) = (at ≤ range.0) × AllFrom at ranges

-- these bytes were synced, and what was written since lies at this place or behind it
pub record Behind (at : ℕ) (bytes : List ℕ) (s : DiskState) : Type 0 where
  pub synced : s.synced ≡ bytes
  pub written : AllFrom at s.written

misses-before : (at i : ℕ) → i < at → (ranges : List (ℕ × ℕ)) → AllFrom at ranges → Misses ranges i
misses-before at i before [] all = tt
misses-before at i before (range ∷ ranges) all = (inl (omega (arith, before, all.0)), misses-before at i before ranges all.1)

pub behind-image : (at : ℕ) (bytes : List ℕ) (s : DiskState) → Behind at bytes s → at ≤ length bytes → (image : List ℕ) → IsImage s image → take at image ≡ take at bytes
behind-image at bytes s behind le image is =
    let long : length bytes ≤ length image = subst (λ (l : List ℕ). length l ≤ length image) behind.synced is.remains.no_shorter in
    let lengths : length (take at image) ≡ length (take at bytes) = omega (arith, length-take at image, length-take at bytes, long, le) in
    ext_get_or 0 (take at image) (take at bytes) lengths (λ i l.
    let below : i < at = omega (arith, l, length-take at image) in
    get_or-take at image i 0 below
    ∙ is.remains.kept i (subst (λ (b : List ℕ). i < length b) (sym behind.synced) (omega (arith, below, le))) (misses-before at i below s.written behind.written)
    ∙ ap (λ (b : List ℕ). get_or b i 0) behind.synced
    ∙ sym (get_or-take at bytes i 0 below))

behind-opens : (at : ℕ) (bytes : List ℕ) (s next : DiskState) (from n : ℕ) → Behind at bytes s → at ≤ from → OpensRange from n s next → Behind at bytes next
behind-opens at bytes s next from n behind le opens = record {
  synced = opens.synced ∙ behind.synced;
  written = subst (λ (r : List (ℕ × ℕ)). AllFrom at r) (sym opens.written) (le, behind.written);
}

pub behind-start : (at : ℕ) (bytes : List ℕ) (s : DiskState) → s ≡ all_synced bytes → Behind at bytes s
behind-start at bytes s is = record {
  synced = ap (λ (d : DiskState). d.synced) is;
  written = subst (λ (d : DiskState). AllFrom at d.written) (sym is) tt;
}

-- steps that are all writes, at this place or behind it
abbrev pub AreWritesFrom : ℕ → List DiskStep → Type 0
AreWritesFrom at [] = Unit {0}
AreWritesFrom at (write from bytes ∷ steps) = (at ≤ from) × AreWritesFrom at steps
AreWritesFrom at (sync ∷ steps) = ⊥

module _ (P : List ℕ → Type 0) (at : ℕ) (bytes : List ℕ) (le : at ≤ length bytes) (all : (image : List ℕ) → take at image ≡ take at bytes → P image) (t : History) where
  leaves-opens : (s next : DiskState) (from n : ℕ) → Behind at bytes s → at ≤ from → OpensRange from n s next → (image : List ℕ) → IsImage next image → P image
  leaves-opens s next from n behind far opens image is = all image (behind-image at bytes next (behind-opens at bytes s next from n behind far opens) le image is)

  pub writes-leave : (ws : List DiskStep) → AreWritesFrom at ws → (u v : History) → LeavesOnly P t u → Behind at bytes u.now → Does ws u v → LeavesOnly P t v × Behind at bytes v.now
  writes-leave [] far u v so_far behind does = (subst (λ (h : History). LeavesOnly P t h) (sym does) so_far, subst (λ (h : History). Behind at bytes h.now) (sym does) behind)
  writes-leave (write from b ∷ ws) far u v so_far behind does =
      writes-leave ws far.1 does.0 v
      (goes_on P _ t u does.0 so_far does.1 (leaves-opens u.now does.0.now from (length b) behind far.0 does.1.by.opens))
      (behind-opens at bytes u.now does.0.now from (length b) behind far.0 does.1.by.opens)
      does.2
  writes-leave (sync ∷ ws) far u v so_far behind does = elim far [ ]

  pub torn-leave : (ws : List DiskStep) → AreWritesFrom at ws → (u v : History) → LeavesOnly P t u → Behind at bytes u.now → StopsIn ws u v → LeavesOnly P t v
  torn-leave [] far u v so_far behind stops = elim stops [ ]
  torn-leave (write from b ∷ ws) far u v so_far behind (inl fails) =
      goes_wrong P _ t u v so_far fails (λ next opens. leaves-opens u.now next from (length b) behind far.0 opens)
  torn-leave (write from b ∷ ws) far u v so_far behind (inr more) =
      torn-leave ws far.1 more.0 v
      (goes_on P _ t u more.0 so_far more.1 (leaves-opens u.now more.0.now from (length b) behind far.0 more.1.by.opens))
      (behind-opens at bytes u.now more.0.now from (length b) behind far.0 more.1.by.opens)
      more.2
  torn-leave (sync ∷ ws) far u v so_far behind stops = elim far [ ]

-- what a read gives after these steps
abbrev pub reads_after : List DiskStep → List ℕ → List ℕ
reads_after [] bytes = bytes
reads_after (write from b ∷ steps) bytes = reads_after steps (put_at from b bytes)
reads_after (sync ∷ steps) bytes = reads_after steps bytes

pub does-reads : (steps : List DiskStep) (u v : History) → Does steps u v → v.now.reads ≡ reads_after steps u.now.reads
does-reads [] u v does = ap (λ (h : History). h.now.reads) does
does-reads (write from b ∷ steps) u v does = does-reads steps does.0 v does.2 ∙ ap (reads_after steps) does.1.by.reads
does-reads (sync ∷ steps) u v does = does-reads steps does.0 v does.2 ∙ ap (λ (s : DiskState). reads_after steps s.reads) does.1.by

pub reads_after-append : (xs ys : List DiskStep) (bytes : List ℕ) → reads_after (xs ++ ys) bytes ≡ reads_after ys (reads_after xs bytes)
reads_after-append [] ys bytes = refl
reads_after-append (write from b ∷ xs) ys bytes = reads_after-append xs ys (put_at from b bytes)
reads_after-append (sync ∷ xs) ys bytes = reads_after-append xs ys bytes

-- two writes side by side are one
pub put-put : (at : ℕ) (x y bytes : List ℕ) → at ≤ length bytes → put_at (at + length x) y (put_at at x bytes) ≡ put_at at (x ++ y) bytes
put-put at x y bytes le =
    let front = take at bytes ++ x in
    let rest = drop (at + length x) bytes in
    let place : length front ≡ at + length x = omega (arith, length-append (take at bytes) x, length-take-le at bytes le) in
    let sum : at + length x + length y ≡ at + length (x ++ y) = omega (arith, length-append x y) in
    let back : drop (at + length x + length y) (front ++ rest) ≡ drop (at + length (x ++ y)) bytes =
    sym (drop-drop (length y) (at + length x) (front ++ rest))
    ∙ ap (drop (length y)) (drop_at front rest (at + length x) place)
    ∙ drop-drop (length y) (at + length x) bytes
    ∙ ap (λ (n : ℕ). drop n bytes) sum in
    ap (λ (l : List ℕ). l ++ y ++ drop (at + length x + length y) (front ++ rest)) (take_at front rest (at + length x) place)
    ∙ ap (λ (l : List ℕ). front ++ y ++ l) back
    ∙ ap (λ (l : List ℕ). l ++ drop (at + length (x ++ y)) bytes) (append_assoc (take at bytes) x y)

pub put-nothing : (at : ℕ) (bytes : List ℕ) → put_at at [] bytes ≡ bytes
put-nothing at bytes = ap (λ (l : List ℕ). l ++ drop (at + 0) bytes) (append-nil (take at bytes)) ∙ ap (λ (n : ℕ). take at bytes ++ drop n bytes) (let e : at + 0 ≡ at = omega arith in e) ∙ take-append-drop at bytes

-- as many moments as steps
pub does-calls : (steps : List DiskStep) (u v : History) → Does steps u v → length v.past ≡ length steps + length u.past
does-calls [] u v does = omega (arith, ap (λ (h : History). length h.past) does)
does-calls (step ∷ steps) u v does = omega (arith, does-calls steps does.0 v does.2, ap length does.1.past)
