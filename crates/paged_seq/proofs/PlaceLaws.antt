-- Places among the entries of data pages: where a page begins, what stands behind a place, and how a step changes it.
use Rattle.std.proofs.Common.{◌≡◌, ◌==◌, ◌<◌, ◌≤◌, ℕ, zero, suc, ◌+◌, ◌-◌, ◌*◌, Bool, true, false, ◌&&◌, not, cond, List, [], ◌∷◌, ◌++◌, length, get_or, take, drop, Option, Some, None, IfSome, option_and_then, inl, inr, Less, Equal, Greater, refl, sym, ap, subst, ◌∙◌, arith, append_assoc, length-take, length-drop}
use Rattle.std.proofs.lemmas.Bool.{eqb-true}
use Rattle.std.proofs.lemmas.List.{drop-drop}
use Rattle.std.proofs.lemmas.Option.{cond_some, none-some, same_Some}
use Rattle.std.specs.List.{AllByRecursion}
use Rattle.std.specs.Prelude.{if◌then◌else◌, is_some, IsSome, IsTrue, option_map}
use Rattle.byteorder.specs.Endian.{big_number}
use Rattle.tree_model.specs.declared.key.Key.{Key}
use Rattle.tree_model.specs.Keys.{key_cmp}
use Rattle.tree_model.proofs.Keys.{key_itself, key_total, key_tied, key_turned}
use Rattle.node_records.specs.declared.entries.Entry.{Entry}
use Rattle.node_records.specs.Entries.{flag_of, is_chunk}
use Rattle.page_store.specs.Pages.{page_of}
use Rattle.outside_traits.specs.Bytes.{IsBytes}
use Rattle.outside_traits.specs.Moments.{History}
use Rattle.node_records.proofs.EntryLaws.{entry_written}
use Rattle.node_records.proofs.ReadLaws.{bind_some}
use Rattle.node_pages.specs.Chunks.{whole_record}
use Rattle.node_pages.specs.EntryForm.{entry_read}
use Rattle.node_pages.specs.Filling.{joined, last_behind}
use Rattle.node_pages.specs.Following.{Runs, hand_after, NonePass, HeadPasses}
use Rattle.node_pages.specs.PageFiles.{EachHas, IsIndex, file_page}
use Rattle.node_pages.specs.PageStarts.{start_of, starts_from}
use Rattle.node_pages.specs.PagesIn.{items_or_none, data_pages_from, entries_from}
use Rattle.node_pages.specs.Reading.{are_zeros, items_in, items_and_zeros, page_in}
use Rattle.node_pages.specs.declared.page_start.PageStart.{PageStart}
use Rattle.node_pages.proofs.RunLaws.{IsFrom, all_mapped, hand_behind, keys_follow, keys_rise, last_key, runs_behind}
use Rattle.tree_model.specs.declared.record.Record.{Record}
use Rattle.node_records.specs.Records.{record_bytes}
use Rattle.paged_seq.specs.PagedMaps.{chunk_count, chunks_found, chunks_of_entry}
use Rattle.paged_seq.proofs.MapLaws.{IsSplit, to_last}
use Rattle.paged_seq.specs.Places.{comes, first_place, passes, NextPasses, LastFails, HasPassed, HasFound, FindsFrom, MayGoOn, Advances, read_or_none, rest_at, IsPlace, HasArrived, HasRead, IsFull, Parts, IsBehind, MayBeKept, EndsRecord}
use Rattle.paged_seq.specs.declared.place.Place.{Place}

-- ---- the items of a page

if_some : {A : Type 0} (b : Bool) (o : Option A) (y : A) → cond b o None ≡ Some y → o ≡ Some y
if_some true o y e = e
if_some false o y e = absurd (none-some y e)

-- a page's entries stand behind its count
pub page_start : (bytes : List ℕ) (es : List Entry) → page_in entry_read bytes ≡ Some es → (rest : List ℕ) × (items_in entry_read (big_number 2 bytes) None (drop 2 bytes) ≡ Some (es, rest))
unfolding page_in
page_start bytes es e =
    let n = big_number 2 bytes in
    let items = items_in entry_read n None (drop 2 bytes) in
    let p = if_some ((length bytes == 8_192) && not (n == 0)) (items_and_zeros entry_read n (drop 2 bytes)) es e in
    let q = bind_some items (λ xs. if are_zeros xs.1 then Some xs.0 else None) es p in
    let xs = q.0 in
    let z = cond_some (are_zeros xs.1) xs.0 es q.2 in
    (xs.1, q.1 ∙ ap (λ (l : List Entry). Some (l, xs.1)) z.1)

-- the first of some items
pub one_item : (n : ℕ) (before : Option Entry) (bytes : List ℕ) (x : Entry × ℕ) (here : List Entry) (rest : List ℕ) → items_in entry_read (suc n) before bytes ≡ Some (here, rest) → entry_read before bytes ≡ Some x
    → (more : List Entry) × (here ≡ x.0 ∷ more) × (items_in entry_read n (Some x.0) (drop x.1 bytes) ≡ Some (more, rest))
one_item n before bytes x here rest e is =
    let behind = λ (y : Entry × ℕ). option_and_then (λ ys. Some (y.0 ∷ ys.0, ys.1)) (items_in entry_read n (Some y.0) (drop y.1 bytes)) in
    let inner : behind x ≡ Some (here, rest) = sym (ap (λ (o : Option (Entry × ℕ)). option_and_then behind o) is) ∙ e in
    let p = bind_some (items_in entry_read n (Some x.0) (drop x.1 bytes)) (λ ys. Some (x.0 ∷ ys.0, ys.1)) (here, rest) inner in
    let ys = p.0 in
    let same = same_Some (x.0 ∷ ys.0, ys.1) (here, rest) p.2 in
    (ys.0, sym (ap (λ (z : List Entry × List ℕ). z.0) same), p.1 ∙ ap (λ (r : List ℕ). Some (ys.0, r)) (ap (λ (z : List Entry × List ℕ). z.1) same))

-- where there are items, the first is read
pub some_item : (n : ℕ) (before : Option Entry) (bytes : List ℕ) (y : List Entry × List ℕ) → items_in entry_read (suc n) before bytes ≡ Some y → (x : Entry × ℕ) × (entry_read before bytes ≡ Some x)
some_item n before bytes y e =
    let p = bind_some (entry_read before bytes) (λ x. option_and_then (λ ys. Some (x.0 ∷ ys.0, ys.1)) (items_in entry_read n (Some x.0) (drop x.1 bytes))) y e in
    (p.0, p.1)

no_items : (n : ℕ) (before : Option Entry) (bytes : List ℕ) (here : List Entry) (rest : List ℕ) → n ≡ 0 → items_in entry_read n before bytes ≡ Some (here, rest) → here ≡ []
no_items n before bytes here rest none e =
    let zero_items : items_in entry_read 0 before bytes ≡ Some (here, rest) = subst (λ (m : ℕ). items_in entry_read m before bytes ≡ Some (here, rest)) none e in
    let start : List Entry × List ℕ = ([], bytes) in
    sym (ap (λ (z : List Entry × List ℕ). z.0) (same_Some start (here, rest) zero_items))

-- ---- a search of one page

-- where it begins it has passed none
pub at_start : (test : Key → Bool) (bytes : List ℕ) (es : List Entry) (rest : List ℕ) (p : Place) → items_in entry_read p.left p.before (drop p.at bytes) ≡ Some (es, rest) → HasPassed test bytes p.before es p
at_start test bytes es rest p e = record { passed = []; ahead = es; rest = rest; parts = refl; none = tt; last = refl; items = e }

none_more : (test : Key → Bool) (xs : List Entry) (e : Entry) → NonePass test xs → test e.key ≡ false → NonePass test (xs ++ e ∷ [])
none_more test [] e none fails = (fails, tt)
none_more test (x ∷ xs) e none fails = (none.0, none_more test xs e none.1 fails)

last_more : {A : Type 0} (before : Option A) (xs : List A) (x : A) → last_behind before (xs ++ x ∷ []) ≡ Some x
last_more before [] x = refl
last_more before (y ∷ ys) x = last_more (Some y) ys x

drop_on : (n m : ℕ) (bytes : List ℕ) → drop m (drop n bytes) ≡ drop (n + m) bytes
drop_on n m bytes = drop-drop m n bytes

-- one entry more was passed
pub one_passed : (test : Key → Bool) (bytes : List ℕ) (before : Option Entry) (es : List Entry) (p q : Place) (x : Entry × ℕ) → HasPassed test bytes before es p → 0 < p.left → entry_read p.before (drop p.at bytes) ≡ Some x → test x.0.key ≡ false
    → q.at ≡ p.at + x.1 → q.left ≡ p.left - 1 → q.before ≡ Some x.0 → HasPassed test bytes before es q
one_passed test bytes before es p q x h some is fails at left now =
    let n = p.left - 1 in
    let count : p.left ≡ suc n = omega (arith, some) in
    let o = one_item n p.before (drop p.at bytes) x h.ahead h.rest (subst (λ (m : ℕ). items_in entry_read m p.before (drop p.at bytes) ≡ Some (h.ahead, h.rest)) count h.items) is in
    record {
      passed = h.passed ++ x.0 ∷ [];
      ahead = o.0;
      rest = h.rest;
      parts = h.parts ∙ ap (λ (l : List Entry). h.passed ++ l) o.1 ∙ sym (append_assoc h.passed (x.0 ∷ []) o.0);
      none = none_more test h.passed x.0 h.none fails;
      last = last_more before h.passed x.0 ∙ sym now;
      items = (λ i. items_in entry_read (left i) (now i) (drop (at i) bytes)) ∙ ap (λ (b : List ℕ). items_in entry_read n (Some x.0) b) (sym (drop_on p.at x.1 bytes)) ∙ o.2;
    }

-- the next entry, where one is left
pub next_entry : (test : Key → Bool) (bytes : List ℕ) (before : Option Entry) (es : List Entry) (p : Place) → HasPassed test bytes before es p → 0 < p.left → (x : Entry × ℕ) × (entry_read p.before (drop p.at bytes) ≡ Some x)
next_entry test bytes before es p h some =
    let n = p.left - 1 in
    let count : p.left ≡ suc n = omega (arith, some) in
    some_item n p.before (drop p.at bytes) (h.ahead, h.rest) (subst (λ (m : ℕ). items_in entry_read m p.before (drop p.at bytes) ≡ Some (h.ahead, h.rest)) count h.items)

-- it stops at one that passes
pub found_passing : (test : Key → Bool) (bytes : List ℕ) (before : Option Entry) (es : List Entry) (p : Place) (x : Entry × ℕ) → HasPassed test bytes before es p → 0 < p.left → entry_read p.before (drop p.at bytes) ≡ Some x → test x.0.key ≡ true → HasFound test bytes before es p
found_passing test bytes before es p x h some is passing =
    let n = p.left - 1 in
    let count : p.left ≡ suc n = omega (arith, some) in
    let o = one_item n p.before (drop p.at bytes) x h.ahead h.rest (subst (λ (m : ℕ). items_in entry_read m p.before (drop p.at bytes) ≡ Some (h.ahead, h.rest)) count h.items) is in
    record { reached = h; first = subst (HeadPasses test) (sym o.1) passing }

-- or at the page's end
pub found_end : (test : Key → Bool) (bytes : List ℕ) (before : Option Entry) (es : List Entry) (p : Place) → HasPassed test bytes before es p → p.left ≡ 0 → HasFound test bytes before es p
found_end test bytes before es p h none = record { reached = h; first = subst (HeadPasses test) (sym (no_items p.left p.before (drop p.at bytes) h.ahead h.rest none h.items)) tt }

-- ---- all pages

-- a page with entries is read
pub one_page : (o : Option (List Entry)) (ps : List (List Entry)) → EachHas (items_or_none o ∷ ps) → (e : Entry) × (es : List Entry) × (o ≡ Some (e ∷ es)) × EachHas ps
one_page None ps each = absurd each
one_page (Some []) ps each = absurd each
one_page (Some (e ∷ es)) ps each = (e, es, refl, each)

pub each_behind : (page : ℕ → List ℕ) (j m n : ℕ) → EachHas (data_pages_from page n (j + m)) → EachHas (data_pages_from page (n + j) m)
each_behind page zero m n each = let same : n + 0 ≡ n = omega arith in let count : 0 + m ≡ m = omega arith in subst (λ (k : ℕ). EachHas (data_pages_from page k m)) (sym same) (subst (λ (k : ℕ). EachHas (data_pages_from page n k)) count each)
each_behind page (suc j) m n each =
    let count : suc j + m ≡ suc (j + m) = omega arith in
    let p = one_page (page_in entry_read (page n)) (data_pages_from page (n + 1) (j + m)) (subst (λ (k : ℕ). EachHas (data_pages_from page n k)) count each) in
    let same : (n + 1) + j ≡ n + suc j = omega arith in
    subst (λ (k : ℕ). EachHas (data_pages_from page k m)) same (each_behind page j m (n + 1) p.3)

-- ---- steps

some_read : (o : Option (List Entry × List ℕ)) → is_some o ≡ true → (y : List Entry × List ℕ) × (o ≡ Some y)
some_read None h = cc
some_read (Some y) h = (y, refl)

-- at the place's page's end the next page is next
end_rest : (page : ℕ → List ℕ) (count : ℕ) (p : Place) → p.left ≡ 0 → rest_at page count p ≡ entries_from page (p.page + 1) (count - p.page)
end_rest page count p none = ap (λ (n : ℕ). read_or_none (items_in entry_read n p.before (drop p.at (page p.page))) ++ entries_from page (p.page + 1) (count - p.page)) none

pub arrived_here : (page : ℕ → List ℕ) (count : ℕ) (p : Place) → IsPlace page count p → 0 < p.left → HasArrived (rest_at page count p) true (rest_at page count p)
arrived_here page count p is some =
    let n = p.left - 1 in
    let left : p.left ≡ suc n = omega (arith, some) in
    let bytes = drop p.at (page p.page) in
    let y = some_read (items_in entry_read p.left p.before bytes) is.read in
    let x = some_item n p.before bytes y.0 (subst (λ (m : ℕ). items_in entry_read m p.before bytes ≡ Some y.0) left y.1) in
    let o = one_item n p.before bytes x.0 y.0.0 y.0.1 (subst (λ (m : ℕ). items_in entry_read m p.before bytes ≡ Some y.0) left y.1) x.1 in
    let rest : rest_at page count p ≡ x.0.0 ∷ (o.0 ++ entries_from page (p.page + 1) (count - p.page)) =
    ap (λ (z : Option (List Entry × List ℕ)). read_or_none z ++ entries_from page (p.page + 1) (count - p.page)) y.1 ∙ ap (λ (l : List Entry). l ++ entries_from page (p.page + 1) (count - p.page)) o.1 in
    subst (λ (l : List Entry). HasArrived l true l) (sym rest) (refl, refl)

has_some : (left : ℕ) (before : Option Entry) (bytes : List ℕ) (e : Entry) (es : List Entry) (rest : List ℕ) → items_in entry_read left before bytes ≡ Some (e ∷ es, rest) → 0 < left
has_some zero before bytes e es rest h = let none = no_items 0 before bytes (e ∷ es) rest refl h in cc (none)
has_some (suc n) before bytes e es rest h = omega arith

-- a page's start as a place
pub record Began (page : ℕ → List ℕ) (count : ℕ) (p q : Place) : Type 0 where
  pub some : 0 < q.left
  pub place : IsPlace page count q
  pub arrived : HasArrived (rest_at page count p) true (rest_at page count q)

pub began : (page : ℕ → List ℕ) (count : ℕ) (p q : Place) (bytes : List ℕ) → EachHas (data_pages_from page 1 count) → p.left ≡ 0 → p.page < count → q.page ≡ p.page + 1 → bytes ≡ page (p.page + 1)
    → q.at ≡ 2 → q.left ≡ big_number 2 bytes → q.before ≡ None → Began page count p q
began page count p q bytes each none less next are at left before =
    let m = count - (p.page + 1) in
    let here : List ℕ = page (p.page + 1) in
    let split : count ≡ p.page + suc m = omega (arith, less) in
    let from : 1 + p.page ≡ p.page + 1 = omega arith in
    let behind : EachHas (data_pages_from page (p.page + 1) (suc m)) = subst (λ (k : ℕ). EachHas (data_pages_from page k (suc m))) from (each_behind page p.page (suc m) 1 (subst (λ (k : ℕ). EachHas (data_pages_from page 1 k)) split each)) in
    let o = one_page (page_in entry_read here) (data_pages_from page (p.page + 1 + 1) m) behind in
    let e : Entry = o.0 in
    let es : List Entry = o.1 in
    let s = page_start here (e ∷ es) o.2 in
    let items : items_in entry_read q.left q.before (drop q.at (page q.page)) ≡ Some (e ∷ es, s.0) =
    (λ i. items_in entry_read (left i) (before i) (drop (at i) (page (next i)))) ∙ ap (λ (b : List ℕ). items_in entry_read (big_number 2 b) None (drop 2 here)) are ∙ s.1 in
    let others = entries_from page (p.page + 1 + 1) m in
    let after : rest_at page count q ≡ (e ∷ es) ++ others =
    (λ i. read_or_none (items i) ++ entries_from page (next i + 1) (count - next i)) in
    let more : count - p.page ≡ suc m = omega (arith, less) in
    let was : rest_at page count p ≡ (e ∷ es) ++ others =
    end_rest page count p none ∙ ap (λ (k : ℕ). entries_from page (p.page + 1) k) more ∙ ap (λ (x : Option (List Entry)). items_or_none x ++ others) o.2 in
    record {
      some = has_some q.left q.before (drop q.at (page q.page)) e es s.0 items;
      place = record { within = omega (arith, less, next); first = λ h. omega (arith, next); read = ap (λ (x : Option (List Entry × List ℕ)). is_some x) items };
      arrived = subst (λ (l : List Entry). HasArrived l true (rest_at page count q)) (sym was) (refl, after);
    }

read_of : (rest at : List Entry) (x : Entry) (more : List Entry) (read : Bool) (last : Option Entry) (after : List Entry) → HasArrived rest true at → at ≡ x ∷ more → read ≡ true → last ≡ Some x → after ≡ more
    → HasRead rest read last after
read_of [] at x more read last after arrived is r l a = cc (arrived)
read_of (e ∷ es) at x more read last after arrived is r l a =
    let same : e ∷ es ≡ x ∷ more = sym arrived.1 ∙ is in
    let first : e ≡ x = cc (same) in
    let others : es ≡ more = cc (same) in
    (r, l ∙ ap Some (sym first), a ∙ sym others)

-- the entry that was arrived at was read
pub entry_read_there : (page : ℕ → List ℕ) (count : ℕ) (rest : List Entry) (p q : Place) (read : Bool) → IsPlace page count p → 0 < p.left → HasArrived rest true (rest_at page count p) → q.page ≡ p.page
    → Advances (page p.page) p q read → HasRead rest read q.before (rest_at page count q) × IsPlace page count q
entry_read_there page count rest p q read is some arrived same advances =
    let n = p.left - 1 in
    let left : p.left ≡ suc n = omega (arith, some) in
    let bytes = drop p.at (page p.page) in
    let y = some_read (items_in entry_read p.left p.before bytes) is.read in
    let suc_items = subst (λ (m : ℕ). items_in entry_read m p.before bytes ≡ Some y.0) left y.1 in
    let x = some_item n p.before bytes y.0 suc_items in
    let o = one_item n p.before bytes x.0 y.0.0 y.0.1 suc_items x.1 in
    let others = entries_from page (p.page + 1) (count - p.page) in
    let here : items_in entry_read p.left p.before bytes ≡ Some (x.0.0 ∷ o.0, y.0.1) = y.1 ∙ ap (λ (l : List Entry). Some (l, y.0.1)) o.1 in
    let a = advances x.0.0 o.0 y.0.1 here in
    let items : items_in entry_read q.left q.before (drop q.at (page q.page)) ≡ Some (o.0, y.0.1) = ap (λ (k : ℕ). items_in entry_read q.left q.before (drop q.at (page k))) same ∙ a.2 in
    let at : rest_at page count p ≡ x.0.0 ∷ (o.0 ++ others) = ap (λ (z : Option (List Entry × List ℕ)). read_or_none z ++ others) here in
    let after : rest_at page count q ≡ o.0 ++ others = (λ i. read_or_none (items i) ++ entries_from page (same i + 1) (count - same i)) in (
      read_of rest (rest_at page count p) x.0.0 (o.0 ++ others) read q.before (rest_at page count q) arrived at a.0 a.1 after,
      record { within = let w = is.within in omega (arith, w, same); first = λ h. let f = is.first some in omega (arith, f, same); read = ap (λ (z : Option (List Entry × List ℕ)). is_some z) items },
    )

-- ---- where pages begin

pub head_passes : (test : Key → Bool) (n : ℕ) (ps : List (List Entry)) → EachHas ps → NextPasses test (starts_from n ps) → HeadPasses test (joined ps)
head_passes test n [] each next = tt
head_passes test n ([] ∷ ps) each next = absurd each
head_passes test n ((e ∷ es) ∷ ps) each next = next

-- among so many pages from n on, page k stands behind j and before so many others
record PageAt (page : ℕ → List ℕ) (n total j more k : ℕ) (before : Option PageStart) : Type 0 where
  e : Entry
  es : List Entry
  items : page_in entry_read (page k) ≡ Some (e ∷ es)
  parts : entries_from page n total ≡ entries_from page n j ++ ((e ∷ es) ++ entries_from page (k + 1) more)
  last : last_behind before (take (suc j) (starts_from n (data_pages_from page n total))) ≡ Some (start_of k e)
  next : drop (suc j) (starts_from n (data_pages_from page n total)) ≡ starts_from (k + 1) (data_pages_from page (k + 1) more)
  each : EachHas (data_pages_from page (k + 1) more)

first_page : (page : ℕ → List ℕ) (more n : ℕ) (before : Option PageStart) → EachHas (data_pages_from page n (suc more)) → PageAt page n (suc more) 0 more n before
first_page page more n before each =
    let others = data_pages_from page (n + 1) more in
    let o = one_page (page_in entry_read (page n)) others each in
    let e : Entry = o.0 in
    let es : List Entry = o.1 in
    record {
      e = e;
      es = es;
      items = o.2;
      parts = ap (λ (x : Option (List Entry)). items_or_none x ++ entries_from page (n + 1) more) o.2;
      last = ap (λ (x : Option (List Entry)). last_behind before (take 1 (starts_from n (items_or_none x ∷ others)))) o.2;
      next = ap (λ (x : Option (List Entry)). drop 1 (starts_from n (items_or_none x ∷ others))) o.2;
      each = o.3;
    }

page_at : (page : ℕ → List ℕ) (j more n total k : ℕ) (before : Option PageStart) → total ≡ j + suc more → k ≡ n + j → EachHas (data_pages_from page n total) → PageAt page n total j more k before
page_at page zero more n total k before sum is each =
    let t : total ≡ suc more = omega (arith, sum) in
    let same : k ≡ n = omega (arith, is) in
    subst (λ (x : ℕ). PageAt page n total 0 more x before) (sym same)
    (subst (λ (x : ℕ). PageAt page n x 0 more n before) (sym t) (first_page page more n before (subst (λ (x : ℕ). EachHas (data_pages_from page n x)) t each)))
page_at page (suc j) more n zero k before sum is each = absurd (omega (arith, sum))
page_at page (suc j) more n (suc total) k before sum is each =
    let others = data_pages_from page (n + 1) total in
    let o = one_page (page_in entry_read (page n)) others each in
    let first : PageStart = start_of n o.0 in
    let at = page_at page j more (n + 1) total k (Some first) (omega (arith, sum)) (omega (arith, is)) o.3 in
    let rest = (at.e ∷ at.es) ++ entries_from page (k + 1) more in
    let here = items_or_none (page_in entry_read (page n)) in
    record {
      e = at.e;
      es = at.es;
      items = at.items;
      parts = ap (λ (l : List Entry). here ++ l) at.parts ∙ sym (append_assoc here (entries_from page (n + 1) j) rest);
      last = ap (λ (x : Option (List Entry)). last_behind before (take (suc (suc j)) (starts_from n (items_or_none x ∷ others)))) o.2 ∙ at.last;
      next = ap (λ (x : Option (List Entry)). drop (suc (suc j)) (starts_from n (items_or_none x ∷ others))) o.2 ∙ at.next;
      each = at.each;
    }

-- ---- a key's place among all entries

mid_all : {A : Type 0} (P : A → Type 0) (xs : List A) (y : A) (ys : List A) → AllByRecursion P (xs ++ y ∷ ys) → P y
mid_all P [] y ys all = all.0
mid_all P (x ∷ xs) y ys all = mid_all P xs y ys all.1

fails_before : (k : Key) (b : Bool) (j i : Key) → IsFrom j i → passes k b i ≡ false → passes k b j ≡ false
fails_before k b j i (inr same) fails = ap (λ (x : Key). passes k b x) same ∙ fails
fails_before k b j i (inl less) fails = elim (key_cmp i k) as (λ o. key_cmp i k ≡ o → comes b o ≡ false → passes k b j ≡ false) [
  | Less ↦ λ h f. ap (comes b) (key_total.trans j i k less h)
  | Equal ↦ λ h f. ap (comes b) (subst (λ (x : Key). key_cmp j x ≡ Less) (key_tied i k h) less)
  | Greater ↦ λ h f. cc
] refl fails

-- before an entry whose key doesn't pass none does
pub none_before : (k : Key) (b : Bool) (xs : List Entry) (e : Entry) (es : List Entry) (last : Option Key) (h : Option (List ℕ × ℕ)) → Runs last h (xs ++ e ∷ es) → passes k b e.key ≡ false → NonePass (passes k b) xs
none_before k b [] e es last h runs fails = tt
none_before k b (x ∷ xs) e es last h runs fails = (
  fails_before k b x.key e.key (mid_all (λ f. IsFrom x.key f.key) xs e es (keys_follow x.key (hand_after h x.last x.bytes) (xs ++ e ∷ es) runs.2)) fails,
  none_before k b xs e es (Some x.key) (hand_after h x.last x.bytes) runs.2 fails,
)

none_both : (test : Key → Bool) (xs ys : List Entry) → NonePass test xs → NonePass test ys → NonePass test (xs ++ ys)
none_both test [] ys a b = b
none_both test (x ∷ xs) ys a b = (a.0, none_both test xs ys a.1 b)

head_both : (test : Key → Bool) (xs ys : List Entry) → HeadPasses test xs → HeadPasses test ys → HeadPasses test (xs ++ ys)
head_both test [] ys a b = b
head_both test (x ∷ xs) ys a b = a

last_both : (front xs : List Entry) (e : Entry) (es ahead : List Entry) (test : Key → Bool) (before : Option Entry) → e ∷ es ≡ xs ++ ahead → HeadPasses test ahead → test e.key ≡ false → (start : Option Entry)
    → last_behind start (front ++ xs) ≡ last_behind None xs
last_both [] [] e es ahead test before parts first fails start = let passing : test e.key ≡ true = subst (HeadPasses test) (sym parts) first in cc (passing, fails)
last_both [] (x ∷ xs) e es ahead test before parts first fails start = refl
last_both (f ∷ front) xs e es ahead test before parts first fails start = last_both front xs e es ahead test before parts first fails (Some f)

minus_none : (n : ℕ) → n - 0 ≡ n
minus_none n = omega arith

-- no page begins before the key
pub parts_at_start : (page : ℕ → List ℕ) (index : List PageStart) (test : Key → Bool) (p : Place) → IsIndex page index → NextPasses test index → p.page ≡ 0 → p.left ≡ 0 → p.before ≡ None
    → Parts page (length index) test p
parts_at_start page index test p is next at left before =
    let count = length index in
    let rest : rest_at page count p ≡ entries_from page 1 count =
    end_rest page count p left ∙ (λ i. entries_from page (at i + 1) (count - at i)) ∙ ap (λ (m : ℕ). entries_from page 1 m) (minus_none count) in
    let bytes = drop p.at (page p.page) in
    record {
      place = record { within = omega (arith, at); first = λ h. absurd (omega (arith, h, left)); read = ap (λ (m : ℕ). is_some (items_in entry_read m p.before bytes)) left };
      below = [];
      parts = sym rest;
      none = tt;
      first = subst (HeadPasses test) (sym rest) (head_passes test 1 (data_pages_from page 1 count) is.each (subst (NextPasses test) is.starts next));
      last = sym before;
    }

-- the pages behind this one begin with an entry that passes
head_behind : (page : ℕ → List ℕ) (index : List PageStart) (test : Key → Bool) (m : ℕ) → IsIndex page index → 0 < m → m ≤ length index → NextPasses test (drop m index) → HeadPasses test (entries_from page (m + 1) (length index - m))
head_behind page index test zero is some within next = absurd (omega (arith, some))
head_behind page index test (suc j) is some within next =
    let count = length index in
    let more = count - suc j in
    let here = page_at page j more 1 count (suc j) None (omega (arith, within)) (omega arith) is.each in
    head_passes test (suc j + 1) (data_pages_from page (suc j + 1) more) here.each (subst (NextPasses test) here.next (subst (λ (ss : List PageStart). NextPasses test (drop (suc j) ss)) is.starts next))

-- a page is the last one that begins before it
pub parts_on_page : (page : ℕ → List ℕ) (index : List PageStart) (k : Key) (b : Bool) (m : ℕ) (p : Place) → IsIndex page index → 0 < m → m ≤ length index
    → LastFails (passes k b) (take m index) → NextPasses (passes k b) (drop m index) → p.page ≡ m
    → FindsFrom (passes k b) (page m) (first_place m (page m)) p → Parts page (length index) (passes k b) p
parts_on_page page index k b zero p is some within last next at found = absurd (omega (arith, some))
parts_on_page page index k b (suc j) p is some within last next at found =
    let test = passes k b in
    let count = length index in
    let more = count - suc j in
    let here = page_at page j more 1 count (suc j) None (omega (arith, within)) (omega arith) is.each in
    let e : Entry = here.e in
    let es : List Entry = here.es in
    let fails : test e.key ≡ false =
    subst (λ (o : Option PageStart). IfSome o (λ s. test s.key ≡ false)) here.last (subst (λ (ss : List PageStart). LastFails test (take (suc j) ss)) is.starts last) in
    let s = page_start (page (suc j)) (e ∷ es) here.items in
    let f = found (e ∷ es) s.0 s.1 in
    let passed = f.reached.passed in
    let ahead = f.reached.ahead in
    let front = entries_from page 1 j in
    let behind = entries_from page (suc j + 1) more in
    let items : items_in entry_read p.left p.before (drop p.at (page p.page)) ≡ Some (ahead, f.reached.rest) = ap (λ (x : ℕ). items_in entry_read p.left p.before (drop p.at (page x))) at ∙ f.reached.items in
    let rest : rest_at page count p ≡ ahead ++ behind = (λ i. read_or_none (items i) ++ entries_from page (at i + 1) (count - at i)) in
    let whole : entries_from page 1 count ≡ front ++ (e ∷ (es ++ behind)) = here.parts in
    let others : HeadPasses test behind = head_behind page index test (suc j) is some within next in
    record {
      place = record { within = omega (arith, at, within); first = λ h. omega (arith, at); read = ap (λ (x : Option (List Entry × List ℕ)). is_some x) items };
      below = front ++ passed;
      parts =
          whole ∙ ap (λ (l : List Entry). front ++ (l ++ behind)) f.reached.parts ∙ ap (λ (l : List Entry). front ++ l) (append_assoc passed ahead behind)
          ∙ sym (append_assoc front passed (ahead ++ behind)) ∙ ap (λ (l : List Entry). (front ++ passed) ++ l) (sym rest);
      none = none_both test front passed (none_before k b front e (es ++ behind) None None (subst (Runs None None) whole is.runs) fails) f.reached.none;
      first = subst (HeadPasses test) (sym rest) (head_both test ahead behind f.first others);
      last = last_both front passed e es ahead test p.before f.reached.parts f.first fails None ∙ f.reached.last;
    }

-- ---- what the search of a page and of the starts stands on

pub advanced : (left at : ℕ) (before : Option Entry) (bytes : List ℕ) (y : Entry × ℕ) → 0 < left → entry_read before (drop at bytes) ≡ Some y
    → (x : Entry) (here : List Entry) (rest : List ℕ) → items_in entry_read left before (drop at bytes) ≡ Some (x ∷ here, rest)
    → (true ≡ true) × (Some y.0 ≡ Some x) × (items_in entry_read (left - 1) (Some y.0) (drop (at + y.1) bytes) ≡ Some (here, rest))
advanced left at before bytes y some is x here rest e =
    let n = left - 1 in
    let count : left ≡ suc n = omega (arith, some) in
    let o = one_item n before (drop at bytes) y (x ∷ here) rest (subst (λ (m : ℕ). items_in entry_read m before (drop at bytes) ≡ Some (x ∷ here, rest)) count e) is in
    let first : y.0 ≡ x = cc (o.1) in
    let others : o.0 ≡ here = cc (o.1) in
    (refl, ap Some first, ap (λ (b : List ℕ). items_in entry_read n (Some y.0) b) (sym (drop_on at y.1 bytes)) ∙ o.2 ∙ ap (λ (l : List Entry). Some (l, rest)) others)

pub never_none : (left : ℕ) (before : Option Entry) (bytes : List ℕ) (y : List Entry × List ℕ) → 0 < left → entry_read before bytes ≡ None → items_in entry_read left before bytes ≡ Some y → ⊥
never_none left before bytes y some none e =
    let count : left ≡ suc (left - 1) = omega (arith, some) in
    let x = some_item (left - 1) before bytes y (subst (λ (m : ℕ). items_in entry_read m before bytes ≡ Some y) count e) in
    none-some x.0 (sym none ∙ x.1)

pub full_entry : (before : Option Entry) (bytes : List ℕ) (y : Entry × ℕ) → IsBytes bytes → entry_read before bytes ≡ Some y → y.0.last ≡ false → length y.0.bytes ≡ 1_024
full_entry before bytes y are is more =
    let w = entry_written bytes y are is in
    eqb-true (length y.0.bytes) 1_024 (subst (λ (b : Bool). is_chunk (flag_of b) (length y.0.bytes) ≡ true) more w.1.bytes)

pub last_taken : (before : Option PageStart) (ss : List PageStart) (m : ℕ) (s : PageStart) → m < length ss → s ≡ get_or ss m s → last_behind before (take (suc m) ss) ≡ Some s
last_taken before [] m s less is = absurd (omega (arith, less))
last_taken before (x ∷ ss) zero s less is = ap Some (sym is)
last_taken before (x ∷ ss) (suc m) s less is = last_taken (Some x) ss m s (omega (arith, less)) is

pub next_there : (test : Key → Bool) (ss : List PageStart) (m : ℕ) (s : PageStart) → m < length ss → s ≡ get_or ss m s → test s.key ≡ true → NextPasses test (drop m ss)
next_there test [] m s less is passing = absurd (omega (arith, less))
next_there test (x ∷ ss) zero s less is passing = ap (λ (y : PageStart). test y.key) (sym is) ∙ passing
next_there test (x ∷ ss) (suc m) s less is passing = next_there test ss m s (omega (arith, less)) is passing

pub last_fails_there : (test : Key → Bool) (ss : List PageStart) (m n : ℕ) (s : PageStart) → m < length ss → n ≡ m + 1 → s ≡ get_or ss m s → test s.key ≡ false → LastFails test (take n ss)
last_fails_there test ss m n s less next is fails =
    let count : n ≡ suc m = omega (arith, next) in
    subst (λ (k : ℕ). LastFails test (take k ss)) (sym count) (subst (λ (o : Option PageStart). IfSome o (λ x. test x.key ≡ false)) (sym (last_taken None ss m s less is)) fails)

-- ---- pages of the file

-- a page that is whole lies within its file
pub whole_within : (n : ℕ) (file : List ℕ) → length (page_of n file) ≡ 8_192 → 8_192 * n + 8_192 ≤ length file
whole_within n file whole = omega (arith, whole, length-take 8_192 (drop (8_192 * n) file), length-drop (8_192 * n) file)

-- each data page is whole
pub data_whole : (page : ℕ → List ℕ) (index : List PageStart) (m : ℕ) → IsIndex page index → 0 < m → m ≤ length index → length (page m) ≡ 8_192
data_whole page index m is some within =
    let same : 1 + (m - 1) ≡ m = omega (arith, some) in
    ap (λ (k : ℕ). length (page k)) (sym same) ∙ is.whole (m - 1) (omega (arith, some, within))

-- what a search of a page found that began at its start
pub found_first : (test : Key → Bool) (bytes there : List ℕ) (m : ℕ) (start p : Place) → bytes ≡ there → start ≡ first_place m bytes → FindsFrom test bytes start p → FindsFrom test there (first_place m there) p
found_first test bytes there m start p same first found = subst (λ (b : List ℕ). FindsFrom test b (first_place m b) p) same (subst (λ (s : Place). FindsFrom test bytes s p) first found)

-- ---- a record that was begun

pub read_none : (rest : List Entry) (read : Bool) (last : Option Entry) (after : List Entry) → read ≡ false → HasRead rest read last after → rest ≡ []
read_none [] read last after none h = refl
read_none (e ∷ es) read last after none h = let some = h.0 in cc (none, some)

pub read_some : (rest : List Entry) (read : Bool) (before : Option Entry) (after : List Entry) (x : Entry) → read ≡ true → before ≡ Some x → HasRead rest read before after → rest ≡ x ∷ after
read_some [] read before after x some is h = cc (some, h)
read_some (e ∷ es) read before after x some is h = let same : e ≡ x = same_Some e x (sym h.1 ∙ is) in (λ i. same i ∷ sym h.2 i)

pub none_whole : (last : Bool) (bytes : List ℕ) (rest : List Entry) → last ≡ false → rest ≡ [] → whole_record last bytes rest ≡ None
none_whole last bytes rest more none = λ i. whole_record (more i) bytes (none i)

pub whole_on : (last : Bool) (bytes : List ℕ) (rest after : List Entry) (read : Bool) (before : Option Entry) (next : Entry) → last ≡ false → read ≡ true → HasRead rest read before after → before ≡ Some next
    → whole_record last bytes rest ≡ whole_record next.last (bytes ++ next.bytes) after
whole_on last bytes [] after read before next more some h is = cc (some, h)
whole_on last bytes (e ∷ es) after read before next more some h is =
    let same : e ≡ next = same_Some e next (sym h.1 ∙ is) in
    (λ i. whole_record (more i) bytes (e ∷ es)) ∙ (λ i. whole_record (same i).last (bytes ++ (same i).bytes) (sym h.2 i))

pub full_next : (before : Option Entry) (next : Entry) → IsFull before → before ≡ Some next → next.last ≡ false → length next.bytes ≡ 1_024
full_next before next full is = subst IsFull is full

-- ---- a place that parts all entries

pub split_of : (page : ℕ → List ℕ) (index : List PageStart) (k : Key) (b : Bool) (p : Place) → IsIndex page index → (s : Parts page (length index) (passes k b) p)
    → IsSplit k b (entries_from page 1 (length index)) s.below (rest_at page (length index) p)
split_of page index k b p is s = record { runs = is.runs; parts = s.parts; none = s.none; first = s.first }

-- ---- a place behind some of the entries

pub parts_behind : (page : ℕ → List ℕ) (count : ℕ) (test : Key → Bool) (p : Place) → Parts page count test p → IsBehind page count p
parts_behind page count test p s = record { place = s.place; below = s.below; parts = s.parts; last = s.last }

behind_read : (page : ℕ → List ℕ) (count : ℕ) (below rest : List Entry) (q : Place) (read : Bool) → read ≡ true → entries_from page 1 count ≡ below ++ rest → IsPlace page count q → HasRead rest read q.before (rest_at page count q) → IsBehind page count q
behind_read page count below [] q read some parts place h = cc (some, h)
behind_read page count below (e ∷ es) q read some parts place h = record {
  place = place;
  below = below ++ e ∷ [];
  parts = parts ∙ sym (append_assoc below (e ∷ []) es) ∙ ap (λ (l : List Entry). (below ++ e ∷ []) ++ l) (sym h.2);
  last = last_more None below e ∙ sym h.1;
}

-- the entry behind it was read
pub behind_on : (page : ℕ → List ℕ) (count : ℕ) (p q : Place) (read : Bool) → read ≡ true → IsBehind page count p → IsPlace page count q → HasRead (rest_at page count p) read q.before (rest_at page count q) → IsBehind page count q
behind_on page count p q read some b place h = behind_read page count b.below (rest_at page count p) q read some b.parts place h

last_key_of : (xs : List Entry) (start : Option Entry) (last : Option Key) (e : Entry) → last ≡ option_map (λ (x : Entry). x.key) start → last_behind start xs ≡ Some e → last_key last xs ≡ Some e.key
last_key_of [] start last e is found = is ∙ ap (λ (o : Option Entry). option_map (λ (x : Entry). x.key) o) found
last_key_of (x ∷ xs) start last e is found = last_key_of xs (Some x) (Some x.key) e refl found

-- behind a last chunk no record is in hand
no_hand : (xs : List Entry) (start : Option Entry) (h : Option (List ℕ × ℕ)) (e : Entry) → ((x : Entry) → start ≡ Some x → x.last ≡ true → h ≡ None) → last_behind start xs ≡ Some e → e.last ≡ true → hand_behind h xs ≡ None
no_hand [] start h e none is ends = none e is ends
no_hand (x ∷ xs) start h e none is ends =
    no_hand xs (Some x) (hand_after h x.last x.bytes) e (λ y same last. ap (λ (b : Bool). hand_after h b x.bytes) (ap (λ (z : Entry). z.last) (same_Some x y same) ∙ last)) is ends

head_rises : (k : Key) (rest : List Entry) (last : Option Key) (h : Option (List ℕ × ℕ)) → last ≡ Some k → h ≡ None → Runs last h rest → HeadPasses (passes k true) rest
head_rises k [] last h is none runs = tt
head_rises k (x ∷ xs) last h is none runs =
    let all = keys_rise k (x ∷ xs) (subst (λ (l : Option Key). Runs l None (x ∷ xs)) is (subst (λ (g : Option (List ℕ × ℕ)). Runs last g (x ∷ xs)) none runs)) in
    ap (comes true) (key_turned k x.key all.0)

-- where the entry before it doesn't pass, none of those that it is behind does
none_behind : (page : ℕ → List ℕ) (index : List PageStart) (k : Key) (b : Bool) (p : Place) (e : Entry) → IsIndex page index → (kept : IsBehind page (length index) p) → p.before ≡ Some e → passes k b e.key ≡ false
    → NonePass (passes k b) kept.below
none_behind page index k b p e is kept before fails =
    let rest = rest_at page (length index) p in
    let runs : Runs None None (kept.below ++ rest) = subst (Runs None None) kept.parts is.runs in
    all_mapped (λ (x : Entry). IsFrom x.key e.key) (λ (x : Entry). passes k b x.key ≡ false) (λ x from. fails_before k b x.key e.key from fails) kept.below
    (to_last kept.below rest None e None None runs (kept.last ∙ before))

last_on : (before : Option Entry) (xs ys : List Entry) → last_behind before (xs ++ ys) ≡ last_behind (last_behind before xs) ys
last_on before [] ys = refl
last_on before (x ∷ xs) ys = last_on (Some x) xs ys

-- the search of a page went on at a place behind others
pub parts_from : (page : ℕ → List ℕ) (index : List PageStart) (k : Key) (b : Bool) (m : ℕ) (start p : Place) → IsIndex page index → 0 < m → m ≤ length index → NextPasses (passes k b) (drop m index)
    → IsBehind page (length index) start → MayGoOn m (passes k b) start → p.page ≡ start.page → FindsFrom (passes k b) (page m) start p → Parts page (length index) (passes k b) p
parts_from page index k b m start p is some within next kept goes same found =
    let test = passes k b in
    let count = length index in
    let at : p.page ≡ m = same ∙ goes.on in
    let y = some_read (items_in entry_read start.left start.before (drop start.at (page start.page))) kept.place.read in
    let here : items_in entry_read start.left start.before (drop start.at (page m)) ≡ Some y.0 = ap (λ (n : ℕ). items_in entry_read start.left start.before (drop start.at (page n))) (sym goes.on) ∙ y.1 in
    let f = found y.0.0 y.0.1 here in
    let passed = f.reached.passed in
    let ahead = f.reached.ahead in
    let behind = entries_from page (m + 1) (count - m) in
    let items : items_in entry_read p.left p.before (drop p.at (page p.page)) ≡ Some (ahead, f.reached.rest) = ap (λ (n : ℕ). items_in entry_read p.left p.before (drop p.at (page n))) at ∙ f.reached.items in
    let from : rest_at page count start ≡ y.0.0 ++ behind = (λ i. read_or_none (y.1 i) ++ entries_from page (goes.on i + 1) (count - goes.on i)) in
    let rest : rest_at page count p ≡ ahead ++ behind = (λ i. read_or_none (items i) ++ entries_from page (at i + 1) (count - at i)) in
    record {
      place = record { within = omega (arith, at, within); first = λ h. omega (arith, at, some); read = ap (λ (x : Option (List Entry × List ℕ)). is_some x) items };
      below = kept.below ++ passed;
      parts =
          kept.parts ∙ ap (λ (l : List Entry). kept.below ++ l) (from ∙ ap (λ (l : List Entry). l ++ behind) f.reached.parts ∙ append_assoc passed ahead behind)
          ∙ sym (append_assoc kept.below passed (ahead ++ behind)) ∙ ap (λ (l : List Entry). (kept.below ++ passed) ++ l) (sym rest);
      none = none_both test kept.below passed (none_behind page index k b start goes.chunk is kept goes.before goes.fails) f.reached.none;
      first = subst (HeadPasses test) (sym rest) (head_both test ahead behind f.first (head_behind page index test m is some within next));
      last = last_on None kept.below passed ∙ ap (λ (o : Option Entry). last_behind o passed) kept.last ∙ f.reached.last;
    }

-- where the record at a key ends before it, it parts the entries beyond the key from the others
pub parts_behind_record : (page : ℕ → List ℕ) (index : List PageStart) (k : Key) (p : Place) → IsIndex page index → IsBehind page (length index) p → EndsRecord k p → Parts page (length index) (passes k true) p
parts_behind_record page index k p is b ends =
    let e : Entry = ends.chunk in
    let rest = rest_at page (length index) p in
    let last : last_behind None b.below ≡ Some e = b.last ∙ ends.before in
    let runs : Runs None None (b.below ++ rest) = subst (Runs None None) b.parts is.runs in
    let key : last_key None b.below ≡ Some k = last_key_of b.below None None e refl last ∙ ap Some ends.key in
    let none : hand_behind None b.below ≡ None = no_hand b.below None None e (λ x same ended. refl) last ends.last in
    let fails : passes k true e.key ≡ false = ap (λ (x : Key). passes k true x) ends.key ∙ ap (comes true) (key_itself k) in
    record {
      place = b.place;
      below = b.below;
      parts = b.parts;
      none = none_behind page index k true p e is b ends.before fails;
      first = head_rises k rest (last_key None b.below) (hand_behind None b.below) key none (runs_behind b.below rest None None runs);
      last = b.last;
    }

-- a place behind a record may be kept
pub may_keep : (is_known : Bool) (file : List ℕ) (count : ℕ) (kept : Option Place) (p : Place) (found : Option Record) → IfSome kept (λ q. (q ≡ p) × IsSome found) → p.at ≤ 8_192
    → (IsSome found → IsTrue is_known → IsBehind (file_page file) count p) → IfSome kept (MayBeKept is_known file count)
may_keep is_known file count None p found kept within behind = tt
may_keep is_known file count (Some q) p found kept within behind = subst (MayBeKept is_known file count) (sym kept.0) (record { within = within; behind = behind kept.1 })

-- what is kept of a file may be kept of one that is the same where it is known
pub kept_on : (is_known : Bool) (a b : History) (count : ℕ) (kept : Option Place) → (IsTrue is_known → b ≡ a) → IfSome kept (MayBeKept is_known a.now.reads count) → IfSome kept (MayBeKept is_known b.now.reads count)
kept_on is_known a b count None same may = tt
kept_on is_known a b count (Some p) same may = record { within = may.within; behind = λ known. subst (λ (h : History). IsBehind (file_page h.now.reads) count p) (sym (same known)) (may.behind known) }

-- what the chunks of a record cost behind so many reads
pub cost_of : (old mid new : ℕ) (found : Option Record) (r : Record) → mid ≤ old + 2 → found ≡ Some r → IfSome found (λ x. 1_024 * new ≤ 1_024 * mid + length (record_bytes x)) → new ≤ old + 2 + chunks_found found
cost_of old mid new found r before is cost =
    let some : 1_024 * new ≤ 1_024 * mid + length (record_bytes r) = subst (λ (o : Option Record). IfSome o (λ x. 1_024 * new ≤ 1_024 * mid + length (record_bytes x))) is cost in
    let chunks : new ≤ old + 2 + chunk_count (length (record_bytes r)) = omega (arith, some, before) in
    subst (λ (o : Option Record). new ≤ old + 2 + chunks_found o) (sym is) chunks

pub cost_above : (old mid new : ℕ) (at : Key) (found : Option Record) (r : Record) → mid ≤ old + 2 → found ≡ Some r → IfSome found (λ x. 1_024 * new ≤ 1_024 * mid + length (record_bytes x))
    → new ≤ old + 3 + chunks_of_entry (option_map (λ x. (at, x)) found)
cost_above old mid new at found r before is cost =
    let some : 1_024 * new ≤ 1_024 * mid + length (record_bytes r) = subst (λ (o : Option Record). IfSome o (λ x. 1_024 * new ≤ 1_024 * mid + length (record_bytes x))) is cost in
    let chunks : new ≤ old + 3 + chunk_count (length (record_bytes r)) = omega (arith, some, before) in
    subst (λ (o : Option Record). new ≤ old + 3 + chunks_of_entry (option_map (λ x. (at, x)) o)) (sym is) chunks

pub cost_below : (old new : ℕ) (at : Key) (found : Option Record) → new ≤ old + 3 + chunks_found found → new ≤ old + 3 + chunks_of_entry (option_map (λ x. (at, x)) found)
cost_below old new at None cost = cost
cost_below old new at (Some r) cost = cost
