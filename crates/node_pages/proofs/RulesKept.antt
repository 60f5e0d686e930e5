-- No page before the one that is answered breaks a rule: what holds of pages that were gone through, whatever is behind them.
use Rattle.std.proofs.Common.{◌≡◌, ◌≤◌, ◌<◌, ◌==◌, ℕ, zero, suc, ◌+◌, ◌-◌, Bool, true, false, ◌&&◌, List, [], ◌∷◌, ◌++◌, length, Option, Some, None, refl, sym, ap, subst, ◌∙◌, arith}
use Rattle.std.proofs.Math.Nat.{min-le_left, min-le_right}
use Rattle.std.proofs.lemmas.Bool.{eqb-true}
use Rattle.std.specs.Option.{option_or}
use Rattle.std.specs.Ordering.{is_lt, is_eq}
use Rattle.std.specs.Prelude.{if◌then◌else◌, min, is_some, Result, Ok, Err}
use Rattle.tree_model.specs.Keys.{key_cmp}
use Rattle.tree_model.specs.declared.key.Key.{Key}
use Rattle.node_records.specs.Entries.{entry_bytes}
use Rattle.node_records.specs.Records.{record_of}
use Rattle.node_records.specs.declared.entries.Entry.{Entry}
use Rattle.node_records.proofs.ReadLaws.{both}
use Rattle.node_pages.specs.DirectoryPages.{Compared, at_end, none_compared}
use Rattle.node_pages.specs.EntryForm.{entry_behind, entry_read}
use Rattle.node_pages.specs.Filling.{last_behind, written}
use Rattle.node_pages.specs.PageRules.{follows, follows_on, AllFollow, EndsWell, IsWell, RecordsAreWell, has_entries, put_before, LeavesNoRoom, all_have_entries, entries_up_to, entry_before, KeepsDataRules}
use Rattle.node_pages.specs.PagesIn.{items_or_none, scanned}
use Rattle.node_pages.specs.Reading.{page_in}
use Rattle.node_pages.specs.Scanning.{Scanned, no_pages, least, broken, and_then, unless, goes_on, stays, rises, with_chunk, after_last, after_chunk, after_entry, after_entries, has_room, with_start, with_end, after_items, fault_at_end}
use Rattle.node_pages.specs.declared.scan.Part.{Part}

-- ---- tools

pub then_then : {A B C : Type 0} (r : Result A ℕ) (f : A → Result B ℕ) (g : B → Result C ℕ) → and_then (and_then r f) g ≡ and_then r (λ a. and_then (f a) g)
then_then (Ok a) f g = refl
then_then (Err n) f g = refl

-- a page comes before the one that is answered, if one is
abbrev pub IsBefore : {A : Type 0} → Result A ℕ → ℕ → Type 0
IsBefore (Ok a) n = Unit {0}
IsBefore (Err m) n = n < m

pub before_less : {A : Type 0} (r : Result A ℕ) (k n : ℕ) → k ≤ n → IsBefore r n → IsBefore r k
before_less (Ok a) k n le h = tt
before_less (Err m) k n le h = omega (arith, le, h)

pub least_within : (o : Option ℕ) (n : ℕ) → least o n ≤ n
least_within None n = omega arith
least_within (Some m) n = min-le_right m n

-- no page from the one that is answered on comes before it
pub not_before : {A : Type 0} (r : Result A ℕ) (o : Option ℕ) (k n : ℕ) → Err (least o k) ≡ r → k ≤ n → IsBefore r n → ⊥
not_before {A = A} r o k n is le h =
    let below : n < least o k = subst (λ (x : Result A ℕ). IsBefore x n) (sym is) h in
    let w = least_within o k in
    omega (arith, below, w, le)

-- ---- what the scan knows is told by the entry before

-- the last key and the record in hand, where this is the entry before
abbrev pub Tells : Option Key → Option Part → Option Entry → Type 0
Tells last part None = (last ≡ None) × (part ≡ None)
Tells last part (Some x) = (last ≡ Some x.key) × (x.last ≡ true → part ≡ None) × (x.last ≡ false → (p : Part) × (part ≡ Some p) × (p.chunks ≡ x.chunk + 1))

pub goes_as : (last : Option Key) (part : Option Part) (x e : Entry) (ends : Bool) → x.last ≡ ends → Tells last part (Some x) → goes_on last part e ≡ follows x e
goes_as last part x e true ends tells =
    (λ i. goes_on (tells.0 i) (tells.1 ends i) e)
    ∙ sym (ap (λ (b : Bool). if b then is_lt (key_cmp x.key e.key) && (e.chunk == 0) else is_eq (key_cmp x.key e.key) && (e.chunk == x.chunk + 1)) ends)
goes_as last part x e false ends tells =
    let hand = tells.2 ends in
    (λ i. goes_on (tells.0 i) (hand.1 i) e) ∙ ap (λ (c : ℕ). is_eq (key_cmp x.key e.key) && (e.chunk == c)) hand.2
    ∙ sym (ap (λ (b : Bool). if b then is_lt (key_cmp x.key e.key) && (e.chunk == 0) else is_eq (key_cmp x.key e.key) && (e.chunk == x.chunk + 1)) ends)

pub goes_told : (last : Option Key) (part : Option Part) (before : Option Entry) (e : Entry) → Tells last part before → goes_on last part e ≡ follows_on before e
goes_told last part None e tells = λ i. goes_on (tells.0 i) (tells.1 i) e
goes_told last part (Some x) e tells = goes_as last part x e x.last refl tells

-- a chunk behind others of its record isn't the first one
pub not_first : (x e : Entry) (p : Part) (part : Option Part) (last : Option Key) (ends : Bool) → x.last ≡ ends → part ≡ Some p → Tells last part (Some x) → follows x e ≡ true → e.chunk ≡ 0 → ⊥
not_first x e p part last true ends is tells go first = let none : None ≡ Some p = sym (tells.1 ends) ∙ is in cc
not_first x e p part last false ends is tells go first =
    let goes : (is_eq (key_cmp x.key e.key) && (e.chunk == x.chunk + 1)) ≡ true =
    ap (λ (b : Bool). if b then is_lt (key_cmp x.key e.key) && (e.chunk == 0) else is_eq (key_cmp x.key e.key) && (e.chunk == x.chunk + 1)) (sym ends) ∙ go in
    let next = eqb-true e.chunk (x.chunk + 1) (both (is_eq (key_cmp x.key e.key)) (e.chunk == x.chunk + 1) goes).1 in
    omega (arith, next, first)

-- the record in hand begins no later than on this page
abbrev pub BeginsWithin : ℕ → Option Part → Type 0
BeginsWithin n None = Unit {0}
BeginsWithin n (Some p) = p.page ≤ n

pub chunk_within : (n : ℕ) (part : Option Part) (bytes : List ℕ) → BeginsWithin n part → (with_chunk n part bytes).page ≤ n
chunk_within n None bytes within = omega arith
chunk_within n (Some p) bytes within = within

-- a chunk's number is how many stand before it
pub chunk_count : (n : ℕ) (last : Option Key) (part : Option Part) (e : Entry) → goes_on last part e ≡ true → (with_chunk n part e.bytes).chunks ≡ e.chunk + 1
chunk_count n last None e go = let first = eqb-true e.chunk 0 (both (rises last e.key) (e.chunk == 0) go).1 in omega (arith, first)
chunk_count n last (Some p) e go = let next = eqb-true e.chunk p.chunks (both (stays last e.key) (e.chunk == p.chunks) go).1 in omega (arith, next)

-- what is known behind a chunk that isn't its record's last, and behind a last one
pub told_open : (n : ℕ) (last : Option Key) (part : Option Part) (e : Entry) → goes_on last part e ≡ true → e.last ≡ false → Tells (Some e.key) (Some (with_chunk n part e.bytes)) (Some e)
told_open n last part e go ends = (refl, (λ (h : e.last ≡ true). let no : true ≡ false = sym h ∙ ends in absurd cc), (λ h. (with_chunk n part e.bytes, refl, chunk_count n last part e go)))

pub told_closed : (e : Entry) → e.last ≡ true → Tells (Some e.key) None (Some e)
told_closed e ends = (refl, (λ h. refl), (λ (h : e.last ≡ false). let no : true ≡ false = sym ends ∙ h in absurd cc))

-- ---- the record in hand, and a page with room

-- where P holds of the page on which the record in hand begins, the record is well with these entries behind it
abbrev pub HandIsWell : (ℕ → Type 0) → Bool → Option Part → Option Entry → List Entry → Type 0
HandIsWell P ended None before rest = Unit {0}
HandIsWell P ended (Some p) None rest = Unit {0}
HandIsWell P ended (Some p) (Some x) rest = P p.page → EndsWell ended p.bytes x rest

-- of the page with room, if one was found, P doesn't hold
abbrev pub NotOfRoomy : (ℕ → Type 0) → Option ℕ → Type 0
NotOfRoomy P None = Unit {0}
NotOfRoomy P (Some r) = P r → ⊥

-- ---- entries of a page

-- of entries that were gone through from this state on: what holds where P holds of their page, of the record in hand and of a page with room; Q is what holds of the pages behind
record EntriesKeep (P : ℕ → Type 0) (ended : Bool) (behind : List Entry) (Q : Type 0) (s : Scanned) (before : Option Entry) (es : List Entry) : Type 0 where
  follow : P s.next → AllFollow before es
  records : P s.next → RecordsAreWell ended behind es
  hand : HandIsWell P ended s.part before (es ++ behind)
  roomy : NotOfRoomy P s.roomy
  pages : Q

-- a state that was come to from another on the same page
record Reached (s t : Scanned) (before : Option Entry) : Type 0 where
  next : t.next ≡ s.next
  roomy : t.roomy ≡ s.roomy
  tells : Tells t.last t.part before
  within : BeginsWithin s.next t.part

-- what is owed of a record with one chunk more
abbrev pub OneMore : (ℕ → Type 0) → Bool → ℕ → Option Part → Entry → List Entry → Type 0
OneMore P ended n part e rest = P (with_chunk n part e.bytes).page → IsWell ended (with_chunk n part e.bytes).bytes e rest

begins_well : (P : ℕ → Type 0) (ended : Bool) (n : ℕ) (last : Option Key) (part : Option Part) (before : Option Entry) (e : Entry) (rest : List Entry) → Tells last part before → follows_on before e ≡ true
    → OneMore P ended n part e rest → P n → e.chunk ≡ 0 → IsWell ended e.bytes e rest
begins_well P ended n last None before e rest tells go more p first = more p
begins_well P ended n last (Some q) None e rest tells go more p first = let no : Some q ≡ None = tells.1 in absurd cc
begins_well P ended n last (Some q) (Some x) e rest tells go more p first = absurd (not_first x e q (Some q) last x.last refl refl tells go first)

goes_well : (P : ℕ → Type 0) (ended : Bool) (n : ℕ) (part : Option Part) (before : Option Entry) (e : Entry) (rest : List Entry) → OneMore P ended n part e rest → HandIsWell P ended part before (e ∷ rest)
goes_well P ended n None before e rest more = tt
goes_well P ended n (Some q) None e rest more = tt
goes_well P ended n (Some q) (Some x) e rest more = λ p go. more p

cut_off : (P : ℕ → Type 0) (ended : Bool) (part : Option Part) (before : Option Entry) (e : Entry) (rest : List Entry) → follows_on before e ≡ false → HandIsWell P ended part before (e ∷ rest)
cut_off P ended None before e rest stops = tt
cut_off P ended (Some q) None e rest stops = tt
cut_off P ended (Some q) (Some x) e rest stops = λ p (go : follows x e ≡ true). let no : true ≡ false = sym go ∙ stops in absurd cc

-- the page with room is the answer, or another one before it
not_roomy : {A : Type 0} (r : Result A ℕ) (o : Option ℕ) (k : ℕ) → Err (least o k) ≡ r → NotOfRoomy (IsBefore r) o
not_roomy {A = A} r None k is = tt
not_roomy {A = A} r (Some m) k is = λ h.
    let below : m < min m k = subst (λ (x : Result A ℕ). IsBefore x m) (sym is) h in
    let w = min-le_left m k in
    omega (arith, below, w)

module _ {A : Type 0} (r : Result A ℕ) (ended : Bool) (behind : List Entry) (Q : Type 0) where
  abbrev Keep : Scanned → Option Entry → List Entry → Type 0
  Keep s before es = EntriesKeep (IsBefore r) ended behind Q s before es

  module _ (s : Scanned) (before : Option Entry) (e : Entry) (es : List Entry) (f : Scanned → Result A ℕ) (tells : Tells s.last s.part before) (within : BeginsWithin s.next s.part)
      (nothing : (IsBefore r s.next → ⊥) → Q) (rest : (t : Scanned) → f t ≡ r → Reached s t (Some e) → Keep t (Some e) es) where
    abbrev part_now : Part
    part_now = with_chunk s.next s.part e.bytes

    abbrev state_now : Scanned
    state_now = record s { last = Some e.key }

    -- the answer is this page or one before
    stop : (k : ℕ) → Err (least s.roomy k) ≡ r → k ≤ s.next → HandIsWell (IsBefore r) ended s.part before (e ∷ (es ++ behind)) → Keep s before (e ∷ es)
    stop k is le hand = record {
      follow = λ p. absurd (not_before r s.roomy k s.next is le p);
      records = λ p. absurd (not_before r s.roomy k s.next is le p);
      hand = hand;
      roomy = not_roomy r s.roomy k is;
      pages = nothing (λ p. not_before r s.roomy k s.next is le p);
    }

    -- the entry goes on, and so do those behind it
    go_on : follows_on before e ≡ true → OneMore (IsBefore r) ended s.next s.part e (es ++ behind) → (t : Scanned) → t.next ≡ s.next → t.roomy ≡ s.roomy → Keep t (Some e) es → Keep s before (e ∷ es)
    go_on go more t next roomy kept = record {
      follow = λ p. (go, kept.follow (subst (λ (n : ℕ). IsBefore r n) (sym next) p));
      records = λ p. (begins_well (IsBefore r) ended s.next s.last s.part before e (es ++ behind) tells go more p, kept.records (subst (λ (n : ℕ). IsBefore r n) (sym next) p));
      hand = goes_well (IsBefore r) ended s.next s.part before e (es ++ behind) more;
      roomy = subst (λ (o : Option ℕ). NotOfRoomy (IsBefore r) o) roomy kept.roomy;
      pages = kept.pages;
    }

    record_done : (whole : Bool) → is_some (record_of part_now.bytes) ≡ whole → e.last ≡ true → goes_on s.last s.part e ≡ true → follows_on before e ≡ true
        → and_then (if whole then Ok (record state_now { part = None }) else broken state_now part_now.page) f ≡ r → Keep s before (e ∷ es)
    record_done true whole ends goes go is =
        let t : Scanned = record state_now { part = None } in
        go_on go (λ p. (λ h. whole, λ (h : e.last ≡ false). let no : true ≡ false = sym ends ∙ h in absurd cc)) t refl refl
        (rest t is (record { next = refl; roomy = refl; tells = told_closed e ends; within = tt }))
    record_done false whole ends goes go is =
        let le = chunk_within s.next s.part e.bytes within in
        stop part_now.page is le
        (goes_well (IsBefore r) ended s.next s.part before e (es ++ behind) (λ p. absurd (not_before r s.roomy part_now.page part_now.page is (omega arith) p)))

    chunk_done : (ends : Bool) → e.last ≡ ends → goes_on s.last s.part e ≡ true → follows_on before e ≡ true → and_then (if ends then after_last state_now part_now else Ok (record state_now { part = Some part_now })) f ≡ r → Keep s before (e ∷ es)
    chunk_done true ends goes go is = record_done (is_some (record_of part_now.bytes)) refl ends goes go is
    chunk_done false ends goes go is =
        let t : Scanned = record state_now { part = Some part_now } in
        let kept = rest t is (record { next = refl; roomy = refl; tells = told_open s.next s.last s.part e goes ends; within = chunk_within s.next s.part e.bytes within }) in
        go_on go (λ p. ((λ (h : e.last ≡ true). let no : true ≡ false = sym h ∙ ends in absurd cc), (λ h. kept.hand p))) t refl refl kept

    entry_done : (goes : Bool) → goes_on s.last s.part e ≡ goes → and_then (if goes then after_chunk state_now part_now e.last else broken s s.next) f ≡ r → Keep s before (e ∷ es)
    entry_done true goes is = chunk_done e.last refl goes (sym (goes_told s.last s.part before e tells) ∙ goes) is
    entry_done false goes is = stop s.next is (omega arith) (cut_off (IsBefore r) ended s.part before e (es ++ behind) (sym (goes_told s.last s.part before e tells) ∙ goes))

  reached_more : (s t u : Scanned) (a b : Option Entry) → Reached s t a → Reached t u b → Reached s u b
  reached_more s t u a b x y = record { next = y.next ∙ x.next; roomy = y.roomy ∙ x.roomy; tells = y.tells; within = subst (λ (n : ℕ). BeginsWithin n u.part) x.next y.within }

  entries_keep : (es : List Entry) (s : Scanned) (before : Option Entry) (f : Scanned → Result A ℕ) → and_then (after_entries s es) f ≡ r → Tells s.last s.part before → BeginsWithin s.next s.part
      → ((IsBefore r s.next → ⊥) → Q)
      → ((t : Scanned) → f t ≡ r → Reached s t (last_behind before es) → HandIsWell (IsBefore r) ended t.part (last_behind before es) behind × NotOfRoomy (IsBefore r) t.roomy × Q)
      → Keep s before es
  entries_keep [] s before f is tells within nothing ends =
      let at = ends s is (record { next = refl; roomy = refl; tells = tells; within = within }) in
      record { follow = λ p. tt; records = λ p. tt; hand = at.0; roomy = at.1; pages = at.2 }
  entries_keep (e ∷ es) s before f is tells within nothing ends =
      let g : Scanned → Result A ℕ = λ t. and_then (after_entries t es) f in
      let rest : (t : Scanned) → g t ≡ r → Reached s t (Some e) → Keep t (Some e) es = λ t at x.
      entries_keep es t (Some e) f at x.tells (subst (λ (n : ℕ). BeginsWithin n t.part) (sym x.next) x.within) (λ no. nothing (λ p. no (subst (λ (n : ℕ). IsBefore r n) (sym x.next) p)))
      (λ u end y. ends u end (reached_more s t u (Some e) (last_behind (Some e) es) x y)) in
      entry_done s before e es g tells within nothing rest (goes_on s.last s.part e) refl (sym (then_then (after_entry s e) (λ t. after_entries t es) f) ∙ is)

-- ---- pages

-- a page with room stands before this one
abbrev RoomyBefore : ℕ → Option ℕ → Type 0
RoomyBefore n None = Unit {0}
RoomyBefore n (Some m) = m + 1 ≤ n

roomy_further : (n k : ℕ) (o : Option ℕ) → n ≤ k → RoomyBefore n o → RoomyBefore k o
roomy_further n k None le at = tt
roomy_further n k (Some m) le at = omega (arith, le, at)

begins_further : (n k : ℕ) (part : Option Part) → n ≤ k → BeginsWithin n part → BeginsWithin k part
begins_further n k None le at = tt
begins_further n k (Some p) le at = omega (arith, le, at)

-- a page is the first with room, if there is one before it or it has room
abbrev pub first_roomy : Option ℕ → Bool → ℕ → Option ℕ
first_roomy o room k = option_or o (if room then Some k else None)

roomy_from : (P : ℕ → Type 0) (o : Option ℕ) (room : Bool) (k : ℕ) → NotOfRoomy P (first_roomy o room k) → NotOfRoomy P o
roomy_from P None room k not = tt
roomy_from P (Some m) room k not = not

roomy_next : (o : Option ℕ) (room : Bool) (n : ℕ) → 1 ≤ n → RoomyBefore n o → RoomyBefore n (first_roomy o room (n - 1))
roomy_next None true n some at = omega (arith, some)
roomy_next None false n some at = tt
roomy_next (Some m) room n some at = at

no_room_before : {A : Type 0} (r : Result A ℕ) (o : Option ℕ) (room : Bool) (n l : ℕ) → l + 1 ≡ n → RoomyBefore n o → NotOfRoomy (IsBefore r) (first_roomy o room (n - 1)) → IsBefore r l → room ≡ false
no_room_before r o false n l is at not p = refl
no_room_before r None true n l is at not p = let same : l ≡ n - 1 = omega (arith, is) in absurd (not (subst (λ (k : ℕ). IsBefore r k) same p))
no_room_before r (Some m) true n l is at not p = absurd (not (before_less r m l (omega (arith, at, is)) p))

pub next_before : (page : ℕ → List ℕ) (n : ℕ) (e : Entry) (es : List Entry) → 1 ≤ n → page_in entry_read (page n) ≡ Some (e ∷ es) → entry_before page (n + 1) ≡ last_behind (Some e) es
next_before page zero e es some is = absurd (omega arith)
next_before page (suc k) e es some is = let same : suc k + 1 ≡ suc (suc k) = omega arith in ap (λ (m : ℕ). entry_before page m) same ∙ ap (λ (o : Option (List Entry)). last_behind None (items_or_none o)) is

nothing_behind : (P : ℕ → Type 0) (part : Option Part) (before : Option Entry) → HandIsWell P false part before []
nothing_behind P None before = tt
nothing_behind P (Some p) None = tt
nothing_behind P (Some p) (Some x) = λ h. refl

at_the_end : {A : Type 0} (r : Result A ℕ) (part : Option Part) (roomy : Option ℕ) (a : A) (before : Option Entry) → unless (fault_at_end part roomy) a ≡ r
    → HandIsWell (IsBefore r) true part before [] × NotOfRoomy (IsBefore r) roomy
at_the_end r (Some p) roomy a None is = (tt, not_roomy r roomy p.page is)
at_the_end r (Some p) roomy a (Some x) is = ((λ h. absurd (not_before r roomy p.page p.page is (omega arith) h)), not_roomy r roomy p.page is)
at_the_end r None None a before is = (tt, tt)
at_the_end r None (Some m) a before is = (tt, λ h. let below : m < m = subst (λ x. IsBefore x m) (sym is) h in omega (arith, below))

module _ (page : ℕ → List ℕ) (count : ℕ) (r : Result Compared ℕ) where
  -- of so many pages from this one on, each that comes before the answer keeps its rules
  abbrev KeepFrom : ℕ → ℕ → Type 0
  KeepFrom n zero = Unit {0}
  KeepFrom n (suc left) = (IsBefore r n → KeepsDataRules page count n) × KeepFrom (n + 1) left

  none_from : (left n k : ℕ) → k ≤ n → (IsBefore r k → ⊥) → KeepFrom n left
  none_from zero n k le never = tt
  none_from (suc left) n k le never = ((λ p. absurd (never (before_less r k n le p))), none_from left (n + 1) k (omega (arith, le)) never)

  kept_at : (left n i : ℕ) → KeepFrom n left → i < left → IsBefore r (n + i) → KeepsDataRules page count (n + i)
  kept_at zero n i keep less p = absurd (omega arith)
  kept_at (suc left) n zero keep less p = let same : n + 0 ≡ n = omega arith in subst (λ (m : ℕ). KeepsDataRules page count m) (sym same) (keep.0 (subst (λ (m : ℕ). IsBefore r m) same p))
  kept_at (suc left) n (suc i) keep less p =
      let same : n + suc i ≡ (n + 1) + i = omega arith in
      subst (λ (m : ℕ). KeepsDataRules page count m) (sym same) (kept_at left (n + 1) i keep.1 (omega (arith, less)) (subst (λ (m : ℕ). IsBefore r m) same p))

  -- what holds of so many pages from this one on, where these are its entries
  record PagesKeep (n left : ℕ) (s : Scanned) (before : Option Entry) (o : Option (List Entry)) : Type 0 where
    keep : KeepFrom n left
    hand : HandIsWell (IsBefore r) (all_have_entries page n left) s.part before (entries_up_to page n left)
    roomy : NotOfRoomy (IsBefore r) s.roomy
    room : 0 < left → (l : ℕ) → l + 1 ≡ n → IsBefore r l → LeavesNoRoom s.used o

  module _ (left n : ℕ) (s : Scanned) (before : Option Entry) (next : s.next ≡ n) (some : 1 ≤ n) (all : n + suc left ≡ count + 1) (tells : Tells s.last s.part before) (within : BeginsWithin n s.part)
      (roomy_at : RoomyBefore n s.roomy) (first : entry_before page n ≡ before) where
    abbrev behind : List Entry
    behind = entries_up_to page (n + 1) left

    abbrev ended : Bool
    ended = all_have_entries page (n + 1) left

    -- what is known behind the page's entries
    abbrev Behind : (e : Entry) (es : List Entry) → Type 0
    Behind e es = (0 < left → IsBefore r n → LeavesNoRoom (Some (length (written entry_behind None (e ∷ es)))) (page_in entry_read (page (n + 1)))) × KeepFrom (n + 1) left

    not_read : (o : Option (List Entry)) → page_in entry_read (page n) ≡ o → has_entries o ≡ false → put_before o behind ≡ [] → LeavesNoRoom s.used o → Err (least s.roomy s.next) ≡ r → PagesKeep n (suc left) s before o
    not_read o is none no_entries no_room answer =
        let le : s.next ≤ n = omega (arith, next) in
        let no : IsBefore r n → ⊥ = λ p. not_before r s.roomy s.next n answer le p in
        record {
          keep = ((λ p. absurd (no p)), none_from left (n + 1) n (omega arith) no);
          hand =
              subst (λ (x : Option (List Entry)). HandIsWell (IsBefore r) (has_entries x && ended) s.part before (put_before x behind)) (sym is)
              (subst (λ (l : List Entry). HandIsWell (IsBefore r) (has_entries o && ended) s.part before l) (sym no_entries)
              (subst (λ (b : Bool). HandIsWell (IsBefore r) (b && ended) s.part before []) (sym none) (nothing_behind (IsBefore r) s.part before)));
          roomy = not_roomy r s.roomy s.next answer;
          room = λ h l e p. no_room;
        }

    was_read : (e : Entry) (es : List Entry) → page_in entry_read (page n) ≡ Some (e ∷ es) → EntriesKeep (IsBefore r) ended behind (Behind e es) (with_start s e) before (e ∷ es)
        → PagesKeep n (suc left) s before (Some (e ∷ es))
    was_read e es is kept =
        let here : IsBefore r n → IsBefore r s.next = λ p. subst (λ (m : ℕ). IsBefore r m) (sym next) p in
        let count_is : left ≡ count - n = omega (arith, all) in
        let at : s.next - 1 ≡ n - 1 = ap (λ (m : ℕ). m - 1) next in
        let room = has_room s.used (length (entry_bytes e)) in
        let roomy : NotOfRoomy (IsBefore r) (first_roomy s.roomy room (n - 1)) = subst (λ (m : ℕ). NotOfRoomy (IsBefore r) (first_roomy s.roomy room m)) at kept.roomy in
        record {
          keep = (
            (λ p. record {
              first = e;
              others = es;
              entries = is;
              no_room = λ less. kept.pages.0 (omega (arith, less, all)) p;
              follow = subst (λ (b : Option Entry). AllFollow b (e ∷ es)) (sym first) (kept.follow (here p));
              records = subst (λ (m : ℕ). RecordsAreWell (all_have_entries page (n + 1) m) (entries_up_to page (n + 1) m) (e ∷ es)) count_is (kept.records (here p));
            }),
            kept.pages.1,
          );
          hand = subst (λ (x : Option (List Entry)). HandIsWell (IsBefore r) (has_entries x && ended) s.part before (put_before x behind)) (sym is) kept.hand;
          roomy = roomy_from (IsBefore r) s.roomy room (n - 1) roomy;
          room = λ h l e p. no_room_before r s.roomy room n l e roomy_at roomy p;
        }

    with_page : (rest : (t : Scanned) (b : Option Entry) → and_then (scanned page (n + 1) left t) at_end ≡ r → t.next ≡ n + 1 → Tells t.last t.part b → BeginsWithin (n + 1) t.part → RoomyBefore (n + 1) t.roomy
        → entry_before page (n + 1) ≡ b → PagesKeep (n + 1) left t b (page_in entry_read (page (n + 1)))) (o : Option (List Entry)) → page_in entry_read (page n) ≡ o
        → and_then (and_then (after_items s o) (λ t. scanned page (n + 1) left t)) at_end ≡ r → PagesKeep n (suc left) s before o
    with_page rest None is answer = not_read None is refl refl tt answer
    with_page rest (Some []) is answer = not_read (Some []) is refl refl tt answer
    with_page rest (Some (e ∷ es)) is answer =
        let used = length (written entry_behind None (e ∷ es)) in
        let x : Result Scanned ℕ = after_entries (with_start s e) (e ∷ es) in
        let close : Scanned → Result Scanned ℕ = λ t. Ok (with_end used t) in
        let onward : Scanned → Result Scanned ℕ = λ t. scanned page (n + 1) left t in
        let to_end : Scanned → Result Compared ℕ = λ t. and_then (onward t) at_end in
        let f : Scanned → Result Compared ℕ = λ t. to_end (with_end used t) in
        let start = with_start s e in
        let here : s.next ≤ n = omega (arith, next) in
        let roomy_start : RoomyBefore n start.roomy =
        subst (λ (m : ℕ). RoomyBefore n (first_roomy s.roomy (has_room s.used (length (entry_bytes e))) m)) (sym (ap (λ (m : ℕ). m - 1) next))
        (roomy_next s.roomy (has_room s.used (length (entry_bytes e))) n some roomy_at) in
        was_read e es is
        (entries_keep r ended behind (Behind e es) (e ∷ es) start before f (sym (then_then x close to_end) ∙ sym (then_then (and_then x close) onward at_end) ∙ answer) tells
        (subst (λ (m : ℕ). BeginsWithin m s.part) (sym next) within)
        (λ no. let none : IsBefore r n → ⊥ = λ p. no (subst (λ (m : ℕ). IsBefore r m) (sym next) p) in ((λ h p. absurd (none p)), none_from left (n + 1) n (omega arith) none))
        (λ t end reached.
        let kept = rest (with_end used t) (last_behind (Some e) es) end (ap (λ (m : ℕ). m + 1) (reached.next ∙ next)) reached.tells
        (begins_further n (n + 1) t.part (omega arith) (subst (λ (m : ℕ). BeginsWithin m t.part) next reached.within))
        (roomy_further n (n + 1) t.roomy (omega arith) (subst (λ (q : Option ℕ). RoomyBefore n q) (sym reached.roomy) roomy_start)) (next_before page n e es some is) in
        (kept.hand, kept.roomy, ((λ h p. kept.room h n refl p), kept.keep))))

  pages_keep : (left n : ℕ) (s : Scanned) (before : Option Entry) → and_then (scanned page n left s) at_end ≡ r → s.next ≡ n → 1 ≤ n → n + left ≡ count + 1 → Tells s.last s.part before → BeginsWithin n s.part
      → RoomyBefore n s.roomy → entry_before page n ≡ before → PagesKeep n left s before (page_in entry_read (page n))
  pages_keep zero n s before is next some all tells within roomy_at first =
      let end = at_the_end r s.part s.roomy (none_compared s.next s.starts) before is in
      record { keep = tt; hand = end.0; roomy = end.1; room = λ h. absurd (omega (arith, h)) }
  pages_keep (suc left) n s before is next some all tells within roomy_at first =
      with_page left n s before next some all tells within roomy_at first
      (λ t b end next_is told begins roomy before_is. pages_keep left (n + 1) t b end next_is (omega arith) (omega (arith, all)) told begins roomy before_is)
      (page_in entry_read (page n)) refl is

  -- each data page before the answer keeps its rules
  pub data_kept : and_then (scanned page 1 count no_pages) at_end ≡ r → (n : ℕ) → 1 ≤ n → n ≤ count → IsBefore r n → KeepsDataRules page count n
  data_kept is n some within p =
      let kept = pages_keep count 1 no_pages None is refl (omega arith) (omega arith) (refl, refl) tt tt refl in
      let same : 1 + (n - 1) ≡ n = omega (arith, some) in
      subst (λ (m : ℕ). KeepsDataRules page count m) same (kept_at count 1 (n - 1) kept.keep (omega (arith, some, within)) (subst (λ (m : ℕ). IsBefore r m) (sym same) p))
