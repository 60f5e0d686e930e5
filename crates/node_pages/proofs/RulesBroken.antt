-- The page that is answered breaks a rule.
use Rattle.std.proofs.Common.{◌≡◌, ◌≤◌, ◌<◌, ◌==◌, ℕ, zero, suc, ◌+◌, ◌-◌, Bool, true, false, ◌&&◌, nat_le, List, [], ◌∷◌, ◌++◌, length, Option, Some, None, refl, sym, ap, subst, ◌∙◌, arith}
use Rattle.std.proofs.Math.Nat.{min-eq_left, min-eq_right}
use Rattle.std.proofs.lemmas.Bool.{eqb-true, leb-true, leb-false}
use Rattle.std.proofs.lemmas.Option.{same_Some}
use Rattle.std.specs.Prelude.{if◌then◌else◌, min, is_some, Result, Ok, Err}
use Rattle.tree_model.specs.declared.key.Key.{Key}
use Rattle.node_records.specs.Entries.{entry_bytes}
use Rattle.node_records.specs.Records.{record_of}
use Rattle.node_records.specs.declared.entries.Entry.{Entry}
use Rattle.node_records.proofs.ReadLaws.{both}
use Rattle.node_pages.specs.DirectoryPages.{Compared, at_end, none_compared}
use Rattle.node_pages.specs.EntryForm.{entry_behind, entry_read}
use Rattle.node_pages.specs.Filling.{last_behind, written}
use Rattle.node_pages.specs.PageRules.{AllFollow, IsWell, RecordsAreWell, has_entries, put_before, LeavesNoRoom, all_have_entries, entries_up_to, entry_before, KeepsDataRules}
use Rattle.node_pages.specs.PagesIn.{scanned}
use Rattle.node_pages.specs.Reading.{page_in}
use Rattle.node_pages.specs.Scanning.{Scanned, no_pages, least, broken, and_then, unless, rises, goes_on, with_chunk, after_last, after_chunk, after_entry, after_entries, has_room, with_start, with_end, after_items, fault_at_end}
use Rattle.node_pages.specs.declared.scan.Part.{Part}
use Rattle.node_pages.proofs.RulesKept.{then_then, first_roomy, Tells, goes_told, told_open, told_closed, next_before, HandIsWell, OneMore}

same_error : {A : Type 0} (a b : ℕ) (r : Result A ℕ) → Err a ≡ r → r ≡ Err b → a ≡ b
same_error a b r x y = let both_are : Err a ≡ Err b = x ∙ y in cc

-- a page is answered
abbrev Answers : Result Compared ℕ → ℕ → Type 0
Answers r m = r ≡ Err m

module _ (page : ℕ → List ℕ) (count : ℕ) where
  -- it is a data page that breaks a rule
  abbrev pub Breaks : ℕ → Type 0
  Breaks n = (1 ≤ n) × (n ≤ count) × (KeepsDataRules page count n → ⊥)

  abbrev RoomyBreaks : Option ℕ → Type 0
  RoomyBreaks None = Unit {0}
  RoomyBreaks (Some m) = Breaks m

  -- the record in hand begins on a data page
  abbrev BeginsAmong : Option Part → Type 0
  BeginsAmong None = Unit {0}
  BeginsAmong (Some p) = (1 ≤ p.page) × (p.page ≤ count)

  least_breaks : (o : Option ℕ) (k : ℕ) → RoomyBreaks o → Breaks k → Breaks (least o k)
  least_breaks None k roomy here = here
  least_breaks (Some m) k roomy here = (elim (nat_le m k) as (λ b. nat_le m k ≡ b → Breaks (min m k)) [
    | true ↦ λ h. subst Breaks (sym (min-eq_left (leb-true m k h))) roomy
    | false ↦ λ h. let less = leb-false m k h in subst Breaks (sym (min-eq_right {n = k} {m = m} (omega (arith, less)))) here
  ]) refl

  chunk_among : (n : ℕ) (part : Option Part) (bytes : List ℕ) → 1 ≤ n → n ≤ count → BeginsAmong part → (1 ≤ (with_chunk n part bytes).page) × ((with_chunk n part bytes).page ≤ count)
  chunk_among n None bytes some within at = (some, within)
  chunk_among n (Some p) bytes some within at = at

  abbrev Well : Bool → Option Part → Option Entry → List Entry → Type 0
  Well ended part before rest = HandIsWell (KeepsDataRules page count) ended part before rest

  -- where the page of its first chunk keeps the rules, a record with one chunk more is well
  one_more : (ended : Bool) (n : ℕ) (last : Option Key) (part : Option Part) (before : Option Entry) (e : Entry) (rest : List Entry) → Tells last part before → goes_on last part e ≡ true
      → Well ended part before (e ∷ rest) → (KeepsDataRules page count n → e.chunk ≡ 0 → IsWell ended e.bytes e rest) → OneMore (KeepsDataRules page count) ended n part e rest
  one_more ended n last None before e rest tells goes hand here = λ k. here k (eqb-true e.chunk 0 (both (rises last e.key) (e.chunk == 0) goes).1)
  one_more ended n last (Some q) None e rest tells goes hand here = let no : Some q ≡ None = tells.1 in absurd cc
  one_more ended n last (Some q) (Some x) e rest tells goes hand here = λ k. hand k (sym (goes_told last (Some q) (Some x) e tells) ∙ goes)

  module _ (m : ℕ) (ended : Bool) (behind : List Entry) where
    -- what is known of a state on a page that is gone through
    record Going (s : Scanned) (before : Option Entry) (es : List Entry) : Type 0 where
      tells : Tells s.last s.part before
      among : BeginsAmong s.part
      roomy : RoomyBreaks s.roomy
      some : 1 ≤ s.next
      within : s.next ≤ count
      hand : Well ended s.part before (es ++ behind)
      here : KeepsDataRules page count s.next → AllFollow before es × RecordsAreWell ended behind es

    -- a state at the end of the page
    record Gone (n : ℕ) (t : Scanned) (before : Option Entry) : Type 0 where
      next : t.next ≡ n
      tells : Tells t.last t.part before
      among : BeginsAmong t.part
      roomy : RoomyBreaks t.roomy
      hand : Well ended t.part before behind

    module _ (s : Scanned) (before : Option Entry) (e : Entry) (es : List Entry) (f : Scanned → Result Compared ℕ) (at : Going s before (e ∷ es))
        (rest : (t : Scanned) → f t ≡ Err m → t.next ≡ s.next → Going t (Some e) es → Breaks m) where
      abbrev part_now : Part
      part_now = with_chunk s.next s.part e.bytes

      abbrev state_now : Scanned
      state_now = record s { last = Some e.key }

      more : goes_on s.last s.part e ≡ true → OneMore (KeepsDataRules page count) ended s.next s.part e (es ++ behind)
      more goes = one_more ended s.next s.last s.part before e (es ++ behind) at.tells goes at.hand (λ k. (at.here k).1.0)

      onward : (part : Option Part) → Tells (Some e.key) part (Some e) → BeginsAmong part → Well ended part (Some e) (es ++ behind) → Going (record state_now { part = part }) (Some e) es
      onward part tells among hand = record { tells = tells; among = among; roomy = at.roomy; some = at.some; within = at.within; hand = hand; here = λ k. let h = at.here k in (h.0.1, h.1.1) }

      answered : (k : ℕ) → Answers (Err (least s.roomy k)) m → Breaks k → Breaks m
      answered k is here = let same : least s.roomy k ≡ m = cc in subst Breaks same (least_breaks s.roomy k at.roomy here)

      record_done : (whole : Bool) → is_some (record_of part_now.bytes) ≡ whole → e.last ≡ true → goes_on s.last s.part e ≡ true
          → and_then (if whole then Ok (record state_now { part = None }) else broken state_now part_now.page) f ≡ Err m → Breaks m
      record_done true whole ends goes is = rest (record state_now { part = None }) is refl (onward None (told_closed e ends) tt tt)
      record_done false whole ends goes is =
          let among = chunk_among s.next s.part e.bytes at.some at.within at.among in
          answered part_now.page is (among.0, among.1, (λ k. let no : false ≡ true = sym whole ∙ (more goes k).0 ends in absurd cc))

      chunk_done : (ends : Bool) → e.last ≡ ends → goes_on s.last s.part e ≡ true → and_then (if ends then after_last state_now part_now else Ok (record state_now { part = Some part_now })) f ≡ Err m → Breaks m
      chunk_done true ends goes is = record_done (is_some (record_of part_now.bytes)) refl ends goes is
      chunk_done false ends goes is =
          rest (record state_now { part = Some part_now }) is refl
          (onward (Some part_now) (told_open s.next s.last s.part e goes ends) (chunk_among s.next s.part e.bytes at.some at.within at.among) (λ k. (more goes k).1 ends))

      entry_done : (goes : Bool) → goes_on s.last s.part e ≡ goes → and_then (if goes then after_chunk state_now part_now e.last else broken s s.next) f ≡ Err m → Breaks m
      entry_done true goes is = chunk_done e.last refl goes is
      entry_done false goes is =
          answered s.next is (at.some, at.within, (λ k. let no : true ≡ false = sym (at.here k).0.0 ∙ sym (goes_told s.last s.part before e at.tells) ∙ goes in absurd cc))

    entries_break : (es : List Entry) (s : Scanned) (before : Option Entry) (f : Scanned → Result Compared ℕ) → and_then (after_entries s es) f ≡ Err m → Going s before es
        → ((t : Scanned) → f t ≡ Err m → Gone s.next t (last_behind before es) → Breaks m) → Breaks m
    entries_break [] s before f is at ends = ends s is (record { next = refl; tells = at.tells; among = at.among; roomy = at.roomy; hand = at.hand })
    entries_break (e ∷ es) s before f is at ends =
        let g : Scanned → Result Compared ℕ = λ t. and_then (after_entries t es) f in
        entry_done s before e es g at
        (λ t go next going. entries_break es t (Some e) f go going
        (λ u end gone. ends u end (record { next = gone.next ∙ next; tells = gone.tells; among = gone.among; roomy = gone.roomy; hand = gone.hand })))
        (goes_on s.last s.part e) refl (sym (then_then (after_entry s e) (λ t. after_entries t es) f) ∙ is)

  -- ---- pages

  roomy_breaks : (o : Option ℕ) (room : Bool) (k : ℕ) → RoomyBreaks o → (room ≡ true → Breaks k) → RoomyBreaks (first_roomy o room k)
  roomy_breaks None true k roomy here = here refl
  roomy_breaks None false k roomy here = tt
  roomy_breaks (Some n) room k roomy here = roomy

  -- what is known of a state before a page: its entries go on with the record in hand, and where the page has no room for its first entry, the page before does break a rule
  record Before (n left : ℕ) (s : Scanned) (before : Option Entry) : Type 0 where
    next : s.next ≡ n
    some : 1 ≤ n
    all : n + left ≡ count + 1
    tells : Tells s.last s.part before
    among : BeginsAmong s.part
    roomy : RoomyBreaks s.roomy
    first : entry_before page n ≡ before
    hand : Well (all_have_entries page n left) s.part before (entries_up_to page n left)
    room : 0 < left → (e : Entry) (es : List Entry) → page_in entry_read (page n) ≡ Some (e ∷ es) → has_room s.used (length (entry_bytes e)) ≡ true → Breaks (n - 1)

  end_breaks : (part : Option Part) (roomy : Option ℕ) (a : Compared) (last : Option Key) (before : Option Entry) (m : ℕ) → unless (fault_at_end part roomy) a ≡ Err m → Tells last part before → BeginsAmong part → RoomyBreaks roomy
      → Well true part before [] → Breaks m
  end_breaks (Some p) roomy a last None m is tells among rooms hand = let no : Some p ≡ None = tells.1 in absurd cc
  end_breaks (Some p) roomy a last (Some x) m is tells among rooms hand =
      let same : least roomy p.page ≡ m = cc in
      subst Breaks same (least_breaks roomy p.page rooms (among.0, among.1, (λ k. let no : true ≡ false = hand k in absurd cc)))
  end_breaks None (Some n) a last before m is tells among rooms hand = let same : n ≡ m = cc in subst Breaks same rooms
  end_breaks None None a last before m is tells among rooms hand = absurd cc

  -- a page that has no entries breaks a rule
  none_breaks : (o : Option (List Entry)) (n : ℕ) → page_in entry_read (page n) ≡ o → has_entries o ≡ false → KeepsDataRules page count n → ⊥
  none_breaks o n is none k = let some : has_entries o ≡ true = ap has_entries (sym is ∙ k.entries) in let no : true ≡ false = sym some ∙ none in absurd cc

  module _ (m left n : ℕ) (s : Scanned) (before : Option Entry) (at : Before n (suc left) s before)
      (rest : (t : Scanned) (b : Option Entry) → and_then (scanned page (n + 1) left t) at_end ≡ Err m → Before (n + 1) left t b → Breaks m) where
    abbrev behind : List Entry
    behind = entries_up_to page (n + 1) left

    abbrev ended : Bool
    ended = all_have_entries page (n + 1) left

    not_read : (o : Option (List Entry)) → page_in entry_read (page n) ≡ o → has_entries o ≡ false → Answers (Err (least s.roomy s.next)) m → Breaks m
    not_read o is none answer =
        let same : least s.roomy s.next ≡ m = cc in
        let all = at.all in
        let here : Breaks n = (at.some, omega (arith, all), none_breaks o n is none) in
        subst Breaks same (least_breaks s.roomy s.next at.roomy (subst Breaks (sym at.next) here))

    -- what the rules say of the entries of a page that keeps them
    page_rules : (e : Entry) (es : List Entry) → page_in entry_read (page n) ≡ Some (e ∷ es) → KeepsDataRules page count n → AllFollow before (e ∷ es) × RecordsAreWell ended behind (e ∷ es)
    page_rules e es is k =
        let all = at.all in
        let same : (k.first ∷ k.others) ≡ (e ∷ es) = same_Some (k.first ∷ k.others) (e ∷ es) (sym k.entries ∙ is) in
        let left_is : count - n ≡ left = omega (arith, all) in (
          subst (λ (l : List Entry). AllFollow before l) same (subst (λ (b : Option Entry). AllFollow b (k.first ∷ k.others)) at.first k.follow),
          subst (λ (l : List Entry). RecordsAreWell ended behind l) same
              (subst (λ (c : ℕ). RecordsAreWell (all_have_entries page (n + 1) c) (entries_up_to page (n + 1) c) (k.first ∷ k.others)) left_is k.records),
        )

    leaves_none : (used : ℕ) (o : Option (List Entry)) (e : Entry) (es : List Entry) → o ≡ Some (e ∷ es) → LeavesNoRoom (Some used) o → has_room (Some used) (length (entry_bytes e)) ≡ false
    leaves_none used o e es is none = subst (λ (x : Option (List Entry)). LeavesNoRoom (Some used) x) is none

    room_breaks : (e : Entry) (es : List Entry) → page_in entry_read (page n) ≡ Some (e ∷ es) → 0 < left → (f : Entry) (fs : List Entry) → page_in entry_read (page (n + 1)) ≡ Some (f ∷ fs)
        → has_room (Some (length (written entry_behind None (e ∷ es)))) (length (entry_bytes f)) ≡ true → Breaks ((n + 1) - 1)
    room_breaks e es is some f fs next room =
        let all = at.all in
        let same_page : n ≡ (n + 1) - 1 = omega arith in
        let here : Breaks n = (
          at.some,
          omega (arith, all),
          (λ k.
              let same : (k.first ∷ k.others) ≡ (e ∷ es) = same_Some (k.first ∷ k.others) (e ∷ es) (sym k.entries ∙ is) in
              let none = leaves_none (length (written entry_behind None (k.first ∷ k.others))) (page_in entry_read (page (n + 1))) f fs next (k.no_room (omega (arith, all, some))) in
              let no : true ≡ false = sym room ∙ subst (λ (l : List Entry). has_room (Some (length (written entry_behind None l))) (length (entry_bytes f)) ≡ false) same none in
              absurd cc),
        ) in
        subst Breaks same_page here

    with_page : (o : Option (List Entry)) → page_in entry_read (page n) ≡ o → and_then (and_then (after_items s o) (λ t. scanned page (n + 1) left t)) at_end ≡ Err m → Breaks m
    with_page None is answer = not_read None is refl answer
    with_page (Some []) is answer = not_read (Some []) is refl answer
    with_page (Some (e ∷ es)) is answer =
        let used = length (written entry_behind None (e ∷ es)) in
        let x : Result Scanned ℕ = after_entries (with_start s e) (e ∷ es) in
        let close : Scanned → Result Scanned ℕ = λ t. Ok (with_end used t) in
        let onward : Scanned → Result Scanned ℕ = λ t. scanned page (n + 1) left t in
        let to_end : Scanned → Result Compared ℕ = λ t. and_then (onward t) at_end in
        let f : Scanned → Result Compared ℕ = λ t. to_end (with_end used t) in
        let all = at.all in
        let next = at.next in
        let some = at.some in
        let going : Going m ended behind (with_start s e) before (e ∷ es) = record {
          tells = at.tells;
          among = at.among;
          roomy =
              subst (λ (k : ℕ). RoomyBreaks (first_roomy s.roomy (has_room s.used (length (entry_bytes e))) k)) (sym (ap (λ (k : ℕ). k - 1) next))
              (roomy_breaks s.roomy (has_room s.used (length (entry_bytes e))) (n - 1) at.roomy (λ room. at.room (omega arith) e es is room));
          some = omega (arith, next, some);
          within = omega (arith, next, all);
          hand = subst (λ (y : Option (List Entry)). Well (has_entries y && ended) s.part before (put_before y behind)) is at.hand;
          here = λ k. page_rules e es is (subst (λ (y : ℕ). KeepsDataRules page count y) next k);
        } in
        entries_break m ended behind (e ∷ es) (with_start s e) before f (sym (then_then x close to_end) ∙ sym (then_then (and_then x close) onward at_end) ∙ answer) going
        (λ t end gone. rest (with_end used t) (last_behind (Some e) es) end (record {
          next = ap (λ (k : ℕ). k + 1) (gone.next ∙ next);
          some = omega arith;
          all = omega (arith, all);
          tells = gone.tells;
          among = gone.among;
          roomy = gone.roomy;
          first = next_before page n e es some is;
          hand = gone.hand;
          room = λ h g gs is_next room. room_breaks e es is h g gs is_next room;
        }))

  pages_break : (m left n : ℕ) (s : Scanned) (before : Option Entry) → and_then (scanned page n left s) at_end ≡ Err m → Before n left s before → Breaks m
  pages_break m zero n s before is at = end_breaks s.part s.roomy (none_compared s.next s.starts) s.last before m is at.tells at.among at.roomy at.hand
  pages_break m (suc left) n s before is at = with_page m left n s before at (λ t b end known. pages_break m left (n + 1) t b end known) (page_in entry_read (page n)) refl is

  -- the answer among the data pages breaks a rule
  pub data_broken : (m : ℕ) → and_then (scanned page 1 count no_pages) at_end ≡ Err m → Breaks m
  data_broken m is = pages_break m count 1 no_pages None is (record {
    next = refl;
    some = omega arith;
    all = omega arith;
    tells = (refl, refl);
    among = tt;
    roomy = tt;
    first = refl;
    hand = tt;
    room = λ h e es read (room : false ≡ true). absurd cc;
  })
