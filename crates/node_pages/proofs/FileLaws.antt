-- Pages that break no rule: what is known of their entries, and of where each page begins.
use Rattle.std.proofs.Common.{◌≡◌, ◌==◌, ◌<◌, ℕ, zero, suc, ◌+◌, Bool, true, false, ◌&&◌, not, cond, List, [], ◌∷◌, ◌++◌, length, Option, Some, None, refl, sym, ap, subst, ◌∙◌, arith, append_assoc, append-nil}
use Rattle.std.proofs.lemmas.Bool.{eqb-true}
use Rattle.std.specs.Cmp.Lexicographic.{pointwise}
use Rattle.std.specs.Prelude.{is_some, nat_eq, drop, Result, Ok, Err}
use Rattle.byteorder.specs.Endian.{big_number}
use Rattle.tree_model.specs.declared.key.Key.{Key}
use Rattle.tree_model.specs.Entries.{Entries, Sorted}
use Rattle.node_records.specs.Records.{record_of}
use Rattle.node_records.specs.declared.entries.Entry.{Entry}
use Rattle.node_records.proofs.ReadLaws.{both}
use Rattle.node_pages.specs.Chunks.{records_in}
use Rattle.node_pages.specs.DirectoryPages.{Compared, none_compared, at_end, compared_with, after_directory_page, fault_of_few, at_directory_end}
use Rattle.node_pages.specs.EntryForm.{entry_behind, entry_read}
use Rattle.node_pages.specs.Filling.{written}
use Rattle.node_pages.specs.Following.{hand_of, hand_after, IsWhole, Runs}
use Rattle.node_pages.specs.PageFiles.{EachHas, IsIndex, file_page, contents_of_file, Index, index_behind, index_of_file}
use Rattle.node_pages.specs.PageStarts.{start_of, starts_from}
use Rattle.node_pages.specs.PageZero.{Header, header_in}
use Rattle.node_pages.specs.PagesIn.{items_or_none, scanned, compared, starts_in, data_pages_from, entries_from, read_behind, pages_in}
use Rattle.node_pages.specs.Reading.{items_and_zeros, page_in}
use Rattle.node_pages.specs.Scanning.{Scanned, no_pages, unless, fault_at_end, goes_on, with_chunk, after_chunk, after_entry, after_entries, with_start, with_end, after_items, after_page, and_then, least}
use Rattle.node_pages.specs.declared.page_start.PageStart.{PageStart}
use Rattle.node_pages.specs.declared.scan.Part.{Part}
use Rattle.node_pages.proofs.CutRuns.{goes_hand, chunk_bytes_hand, chunk_hand}
use Rattle.node_pages.proofs.RunLaws.{records_rise}

-- ---- steps that broke no rule

abbrev pub Gives : {A : Type 0} → Result A ℕ → A → Type 0
Gives r a = r ≡ Ok a

pub same_ok : {A : Type 0} (a b : A) → Gives (Ok a) b → a ≡ b
same_ok a b h = cc

pub then_ok : {A B : Type 0} (r : Result A ℕ) (f : A → Result B ℕ) (b : B) → and_then r f ≡ Ok b → (a : A) × (r ≡ Ok a) × (f a ≡ Ok b)
then_ok (Ok a) f b h = (a, refl, h)
then_ok (Err n) f b h = cc

if_ok : {A : Type 0} (test : Bool) (r : Result A ℕ) (n : ℕ) (a : A) → cond test r (Err n) ≡ Ok a → (test ≡ true) × (r ≡ Ok a)
if_ok true r n a h = (refl, h)
if_ok false r n a h = cc

pub unless_ok : {A : Type 0} (o : Option ℕ) (a b : A) → unless o a ≡ Ok b → (o ≡ None) × (a ≡ b)
unless_ok None a b h = (refl, same_ok a b h)
unless_ok (Some n) a b h = cc

-- ---- entries

-- the second state is behind these entries, which the first was before
record Back (s t : Scanned) (es : List Entry) : Type 0 where
  starts : t.starts ≡ s.starts
  next : t.next ≡ s.next
  runs : (more : List Entry) → Runs t.last (hand_of t.part) more → Runs s.last (hand_of s.part) (es ++ more)

chunk_back : (s : Scanned) (k : Key) (n : ℕ) (part : Option Part) (last : Bool) (bytes : List ℕ) (t : Scanned) → after_chunk (record s { last = Some k }) (with_chunk n part bytes) last ≡ Ok t
    → (t.starts ≡ s.starts) × (t.next ≡ s.next) × ((more : List Entry) → Runs t.last (hand_of t.part) more → IsWhole (hand_of part) last bytes × Runs (Some k) (hand_after (hand_of part) last bytes) more)
chunk_back s k n part true bytes t h =
    let p = with_chunk n part bytes in
    let u : Scanned = record s { last = Some k; part = None } in
    let ok = if_ok (is_some (record_of p.bytes)) (Ok u) (least s.roomy p.page) t h in
    let is : u ≡ t = same_ok u t ok.1 in (
      sym (ap (λ (x : Scanned). x.starts) is),
      sym (ap (λ (x : Scanned). x.next) is),
      λ more runs. (
        ap (λ (bs : List ℕ). is_some (record_of bs)) (sym (chunk_bytes_hand n part bytes)) ∙ ok.0,
        subst (λ (x : Scanned). Runs x.last (hand_of x.part) more) (sym is) runs,
      ),
    )
chunk_back s k n part false bytes t h =
    let p = with_chunk n part bytes in
    let u : Scanned = record s { last = Some k; part = Some p } in
    let is : u ≡ t = same_ok u t h in (
      sym (ap (λ (x : Scanned). x.starts) is),
      sym (ap (λ (x : Scanned). x.next) is),
      λ more runs. (
        tt,
        subst (λ (g : Option (List ℕ × ℕ)). Runs (Some k) g more) (chunk_hand n part bytes) (subst (λ (x : Scanned). Runs x.last (hand_of x.part) more) (sym is) runs),
      ),
    )

entry_back : (s : Scanned) (e : Entry) (t : Scanned) → after_entry s e ≡ Ok t → Back s t (e ∷ [])
entry_back s e t h =
    let p = with_chunk s.next s.part e.bytes in
    let ok = if_ok (goes_on s.last s.part e) (after_chunk (record s { last = Some e.key }) p e.last) (least s.roomy s.next) t h in
    let c = chunk_back s e.key s.next s.part e.last e.bytes t ok.1 in
    record {
      starts = c.0;
      next = c.1;
      runs = λ more runs. let w = c.2 more runs in (sym (goes_hand s.last s.part e) ∙ ok.0, w.0, w.1);
    }

entries_back : (es : List Entry) (s t : Scanned) → after_entries s es ≡ Ok t → Back s t es
entries_back [] s t h =
    let is : s ≡ t = same_ok s t h in
    record { starts = sym (ap (λ (x : Scanned). x.starts) is); next = sym (ap (λ (x : Scanned). x.next) is); runs = λ more runs. subst (λ (x : Scanned). Runs x.last (hand_of x.part) more) (sym is) runs }
entries_back (e ∷ es) s t h =
    let ok = then_ok (after_entry s e) (λ u. after_entries u es) t h in
    let a = entry_back s e ok.0 ok.1 in
    let b = entries_back es ok.0 t ok.2 in
    record { starts = b.starts ∙ a.starts; next = b.next ∙ a.next; runs = λ more runs. a.runs (es ++ more) (b.runs more runs) }

-- ---- pages

-- a page of entries, of which this is the first, lies between the two states
pub record PageBack (s t : Scanned) (o : Option (List Entry)) (e : Entry) (es : List Entry) : Type 0 where
  pub items : o ≡ Some (e ∷ es)
  pub starts : t.starts ≡ s.starts ++ start_of s.next e ∷ []
  pub next : t.next ≡ s.next + 1
  pub runs : (more : List Entry) → Runs t.last (hand_of t.part) more → Runs s.last (hand_of s.part) (e ∷ (es ++ more))

pub items_back : (s : Scanned) (o : Option (List Entry)) (t : Scanned) → after_items s o ≡ Ok t → (e : Entry) × (es : List Entry) × PageBack s t o e es
items_back s None t h = cc
items_back s (Some []) t h = cc
items_back s (Some (e ∷ es)) t h =
    let taken = length (written entry_behind None (e ∷ es)) in
    let ok = then_ok (after_entries (with_start s e) (e ∷ es)) (λ u. Ok (with_end taken u)) t h in
    let b = entries_back (e ∷ es) (with_start s e) ok.0 ok.1 in
    let is : with_end taken ok.0 ≡ t = same_ok (with_end taken ok.0) t ok.2 in (
      e,
      es,
      record {
        items = refl;
        starts = sym (ap (λ (x : Scanned). x.starts) is) ∙ b.starts;
        next = sym (ap (λ (x : Scanned). x.next) is) ∙ ap (λ (n : ℕ). n + 1) b.next;
        runs = λ more runs. b.runs more (subst (λ (x : Scanned). Runs x.last (hand_of x.part) more) (sym is) runs);
      },
    )

if_some : {A : Type 0} (b : Bool) (o : Option A) (y : A) → cond b o None ≡ Some y → b ≡ true
if_some true o y e = refl
if_some false o y e = cc

-- a page with entries has all its bytes
pub page_whole : (bytes : List ℕ) (es : List Entry) → page_in entry_read bytes ≡ Some es → length bytes ≡ 8_192
unfolding page_in
page_whole bytes es e =
    let n = big_number 2 bytes in
    eqb-true (length bytes) 8_192 (both (length bytes == 8_192) (not (n == 0)) (if_some ((length bytes == 8_192) && not (n == 0)) (items_and_zeros entry_read n (drop 2 bytes)) es e)).0

page_each : (page : ℕ → List ℕ) (n left : ℕ) → length (page n) ≡ 8_192 → ((k : ℕ) → k < left → length (page (n + 1 + k)) ≡ 8_192) → (k : ℕ) → k < suc left → length (page (n + k)) ≡ 8_192
page_each page n left first others zero less = let same : n + 0 ≡ n = omega arith in ap (λ (m : ℕ). length (page m)) same ∙ first
page_each page n left first others (suc k) less = let same : n + suc k ≡ n + 1 + k = omega arith in ap (λ (m : ℕ). length (page m)) same ∙ others k (omega (arith, less))

-- so many pages, of which the first has this number, lie between the two states
pub record PagesBack (page : ℕ → List ℕ) (n left : ℕ) (s t : Scanned) : Type 0 where
  pub starts : t.starts ≡ s.starts ++ starts_from n (data_pages_from page n left)
  pub each : EachHas (data_pages_from page n left)
  pub whole : (k : ℕ) → k < left → length (page (n + k)) ≡ 8_192
  pub runs : (more : List Entry) → Runs t.last (hand_of t.part) more → Runs s.last (hand_of s.part) (entries_from page n left ++ more)

pub pages_back : (page : ℕ → List ℕ) (left n : ℕ) (s t : Scanned) → s.next ≡ n → scanned page n left s ≡ Ok t → PagesBack page n left s t
pages_back page zero n s t next h =
    let is : s ≡ t = same_ok s t h in
    record {
      starts = sym (ap (λ (x : Scanned). x.starts) is) ∙ sym (append-nil s.starts);
      each = tt;
      whole = λ k less. absurd (omega arith);
      runs = λ more runs. subst (λ (x : Scanned). Runs x.last (hand_of x.part) more) (sym is) runs;
    }
pages_back page (suc left) n s t next h =
    let ok = then_ok (after_page s (page n)) (λ u. scanned page (n + 1) left u) t h in
    let a = items_back s (page_in entry_read (page n)) ok.0 ok.1 in
    let e : Entry = a.0 in
    let es : List Entry = a.1 in
    let b = pages_back page left (n + 1) ok.0 t (a.2.next ∙ ap (λ (m : ℕ). m + 1) next) ok.2 in
    let others = data_pages_from page (n + 1) left in
    let o = page_in entry_read (page n) in
    record {
      starts =
          b.starts ∙ ap (λ (ss : List PageStart). ss ++ starts_from (n + 1) others) a.2.starts ∙ append_assoc s.starts (start_of s.next e ∷ []) (starts_from (n + 1) others)
          ∙ ap (λ (m : ℕ). s.starts ++ (start_of m e ∷ starts_from (n + 1) others)) next
          ∙ ap (λ (p : Option (List Entry)). s.starts ++ starts_from n (items_or_none p ∷ others)) (sym a.2.items);
      each = subst (λ (p : Option (List Entry)). EachHas (items_or_none p ∷ others)) (sym a.2.items) b.each;
      whole = λ k less. page_each page n left (page_whole (page n) (e ∷ es) a.2.items) b.whole k less;
      runs = λ more runs.
          subst (λ (p : Option (List Entry)). Runs s.last (hand_of s.part) ((items_or_none p ++ entries_from page (n + 1) left) ++ more)) (sym a.2.items)
          (subst (λ (l : List Entry). Runs s.last (hand_of s.part) (e ∷ l)) (sym (append_assoc es (entries_from page (n + 1) left) more)) (a.2.runs (entries_from page (n + 1) left ++ more) (b.runs more runs)));
    }

-- ---- the directory

directory_back : (c : Compared) (wanted : List (List ℕ)) (bytes : List ℕ) (d : Compared) → compared_with c wanted bytes ≡ Ok d → d.starts ≡ c.starts
directory_back c [] bytes d h = cc
directory_back c (want ∷ wanted) bytes d h =
    let e : Compared = record c { wanted = wanted; next = c.next + 1; before = c.next } in
    let ok = if_ok (pointwise nat_eq bytes want) (Ok e) c.next d h in
    sym (ap (λ (x : Compared). x.starts) (same_ok e d ok.1))

compared_back : (page : ℕ → List ℕ) (left n : ℕ) (c d : Compared) → compared page n left c ≡ Ok d → d.starts ≡ c.starts
compared_back page zero n c d h = sym (ap (λ (x : Compared). x.starts) (same_ok c d h))
compared_back page (suc left) n c d h =
    let ok = then_ok (after_directory_page c (page n)) (λ u. compared page (n + 1) left u) d h in
    compared_back page left (n + 1) ok.0 d ok.2 ∙ directory_back c c.wanted (page n) ok.0 ok.1

none_at_end : (part : Option Part) (roomy : Option ℕ) → fault_at_end part roomy ≡ None → part ≡ None
none_at_end None roomy h = refl
none_at_end (Some p) roomy h = cc

-- ---- all pages

length-starts : (n : ℕ) (ps : List (List Entry)) → EachHas ps → length (starts_from n ps) ≡ length ps
length-starts n [] each = refl
length-starts n ([] ∷ ps) each = absurd each
length-starts n ((e ∷ es) ∷ ps) each = ap suc (length-starts (n + 1) ps each)

pub length-data_pages : (page : ℕ → List ℕ) (left n : ℕ) → length (data_pages_from page n left) ≡ left
length-data_pages page zero n = refl
length-data_pages page (suc left) n = ap suc (length-data_pages page left (n + 1))

index_is : (page : ℕ → List ℕ) (count : ℕ) (starts : List PageStart) → starts ≡ starts_from 1 (data_pages_from page 1 count) → EachHas (data_pages_from page 1 count)
    → ((n : ℕ) → n < count → length (page (1 + n)) ≡ 8_192) → Runs None None (entries_from page 1 count) → (length starts ≡ count) × IsIndex page starts
index_is page count starts is each whole runs =
    let long : length starts ≡ count = ap (λ (l : List PageStart). length l) is ∙ length-starts 1 (data_pages_from page 1 count) each ∙ length-data_pages page count 1 in (
      long,
      record {
        starts = subst (λ (m : ℕ). starts ≡ starts_from 1 (data_pages_from page 1 m)) (sym long) is;
        each = subst (λ (m : ℕ). EachHas (data_pages_from page 1 m)) (sym long) each;
        whole = subst (λ (m : ℕ). (n : ℕ) → n < m → length (page (1 + n)) ≡ 8_192) (sym long) whole;
        runs = subst (λ (m : ℕ). Runs None None (entries_from page 1 m)) (sym long) runs;
      },
    )

pub starts_back : (page : ℕ → List ℕ) (h : Header) (starts : List PageStart) → starts_in page h ≡ Ok starts → (length starts ≡ h.data_pages) × IsIndex page starts
starts_back page h starts ok =
    let a = then_ok (scanned page 1 h.data_pages no_pages) (λ s. and_then (at_end s) (λ c. and_then (compared page (1 + h.data_pages) h.directory_pages c) (λ d. at_directory_end d))) starts ok in
    let s : Scanned = a.0 in
    let b = then_ok (at_end s) (λ c. and_then (compared page (1 + h.data_pages) h.directory_pages c) (λ d. at_directory_end d)) starts a.2 in
    let c : Compared = b.0 in
    let d = then_ok (compared page (1 + h.data_pages) h.directory_pages c) (λ x. at_directory_end x) starts b.2 in
    let end = unless_ok (fault_at_end s.part s.roomy) (none_compared s.next s.starts) c b.1 in
    let few = unless_ok (fault_of_few d.0.wanted d.0.before) d.0.starts starts d.2 in
    let from : starts ≡ s.starts = sym few.1 ∙ compared_back page h.directory_pages (1 + h.data_pages) c d.0 d.1 ∙ sym (ap (λ (x : Compared). x.starts) end.1) in
    let all = pages_back page h.data_pages 1 no_pages s refl a.1 in
    let none : hand_of s.part ≡ None = ap hand_of (none_at_end s.part s.roomy end.0) in
    index_is page h.data_pages starts (from ∙ all.starts) all.each all.whole (subst (λ (l : List Entry). Runs None None l) (append-nil (entries_from page 1 h.data_pages)) (all.runs [] none))

-- ---- the file

-- what is known of a file with this index
pub record IsIndexed (file : List ℕ) (i : Index) : Type 0 where
  pub pages : IsIndex (file_page file) i.starts
  pub contents : contents_of_file file ≡ Ok (records_in (entries_from (file_page file) 1 (length i.starts)), i.base)

behind_indexed : (file : List ℕ) (o : Option Header) (i : Index) → index_behind file o ≡ Ok i
    → IsIndex (file_page file) i.starts × (read_behind (file_page file) o ≡ Ok (records_in (entries_from (file_page file) 1 (length i.starts)), i.base))
behind_indexed file None i h = cc
behind_indexed file (Some header) i h =
    let page = file_page file in
    let a = then_ok (starts_in page header) (λ starts. Ok (record { base = header.base; starts = starts })) i h in
    let j : Index = record { base = header.base; starts = a.0 } in
    let is : j ≡ i = same_ok j i a.2 in
    let b = starts_back page header a.0 a.1 in
    let of_count : ℕ → Result (Entries × ℕ) ℕ = λ m. Ok (records_in (entries_from page 1 m), header.base) in
    let of_index : Index → Result (Entries × ℕ) ℕ = λ x. Ok (records_in (entries_from page 1 (length x.starts)), x.base) in
    let read : read_behind page (Some header) ≡ Ok (records_in (entries_from page 1 header.data_pages), header.base) =
    ap (λ (r : Result (List PageStart) ℕ). and_then r (λ starts. Ok (records_in (entries_from page 1 header.data_pages), header.base))) a.1 in (
      subst (λ (x : Index). IsIndex page x.starts) is b.1,
      read ∙ ap of_count (sym b.0) ∙ ap of_index is,
    )

pub indexed : (file : List ℕ) (i : Index) → index_of_file file ≡ Ok i → IsIndexed file i
indexed [] i h =
    let j : Index = record { base = 0; starts = [] } in
    let is : j ≡ i = same_ok j i h in
    subst (IsIndexed []) is (record { pages = record { starts = refl; each = tt; whole = λ n less. absurd (omega arith); runs = refl }; contents = refl })
indexed (b ∷ bs) i h =
    let both_are = behind_indexed (b ∷ bs) (header_in (file_page (b ∷ bs) 0)) i h in
    record { pages = both_are.0; contents = both_are.1 }

broken_on : {A B C : Type 0} (r : Result A ℕ) (f : A → B) (g : A → C) (n : ℕ) → and_then r (λ a. Ok (f a)) ≡ Err n → and_then r (λ a. Ok (g a)) ≡ Err n
broken_on (Ok a) f g n h = cc
broken_on (Err m) f g n h = cc

behind_broken : (file : List ℕ) (o : Option Header) (n : ℕ) → index_behind file o ≡ Err n → read_behind (file_page file) o ≡ Err n
behind_broken file None n h = cc
behind_broken file (Some header) n h =
    let page = file_page file in
    broken_on (starts_in page header) (λ starts. let j : Index = record { base = header.base; starts = starts } in j) (λ starts. (records_in (entries_from page 1 header.data_pages), header.base)) n h

-- the first page that breaks a rule is the same for both
pub broken_same : (file : List ℕ) (n : ℕ) → index_of_file file ≡ Err n → contents_of_file file ≡ Err n
broken_same [] n h = cc
broken_same (b ∷ bs) n h = behind_broken (b ∷ bs) (header_in (file_page (b ∷ bs) 0)) n h

behind_sorted : (page : ℕ → List ℕ) (o : Option Header) (es : Entries) (base : ℕ) → read_behind page o ≡ Ok (es, base) → Sorted es
behind_sorted page None es base h = cc
behind_sorted page (Some header) es base h =
    let a = then_ok (starts_in page header) (λ starts. Ok (records_in (entries_from page 1 header.data_pages), header.base)) (es, base) h in
    let b = starts_back page header a.0 a.1 in
    let is : (records_in (entries_from page 1 header.data_pages), header.base) ≡ (es, base) = same_ok (records_in (entries_from page 1 header.data_pages), header.base) (es, base) a.2 in
    subst Sorted (ap (λ (m : ℕ). records_in (entries_from page 1 m)) b.0 ∙ ap (λ (p : Entries × ℕ). p.0) is) (records_rise (entries_from page 1 (length a.0)) None None b.1.runs)

-- pages that break no rule hold a map in the order of its keys
pub read_sorted : (page : ℕ → List ℕ) (es : Entries) (base : ℕ) → pages_in page ≡ Ok (es, base) → Sorted es
read_sorted page es base h = behind_sorted page (header_in (page 0)) es base h
