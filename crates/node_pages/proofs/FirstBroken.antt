-- The page that is answered is the first one that breaks a rule.
use Rattle.std.proofs.Common.{◌≡◌, ◌≤◌, ◌<◌, ℕ, zero, suc, ◌+◌, ◌-◌, Bool, true, false, List, [], ◌∷◌, drop, Option, Some, None, refl, sym, ap, subst, ◌∙◌, arith}
use Rattle.std.proofs.lemmas.Bool.{eqb-true, eq-eqb, and_from}
use Rattle.std.proofs.lemmas.Option.{same_Some}
use Rattle.std.specs.Cmp.Lexicographic.{pointwise}
use Rattle.std.specs.Prelude.{if◌then◌else◌, nat_eq, Result, Ok, Err}
use Rattle.tree_model.specs.Entries.{Entries}
use Rattle.node_records.proofs.ReadLaws.{both}
use Rattle.node_pages.specs.Chunks.{records_in}
use Rattle.node_pages.specs.DirectoryPages.{Compared, none_compared, directory_pages, at_end, compared_with, fault_of_few, at_directory_end}
use Rattle.node_pages.specs.PageFiles.{contents_of_file, file_page}
use Rattle.node_pages.specs.PageRules.{KeepsDataRules, DataPagesKeepRules, directory_for, KeepsDirectoryRules, KeepsRules}
use Rattle.node_pages.specs.PageZero.{Header, count_of, header_in}
use Rattle.node_pages.specs.EntryForm.{entry_read}
use Rattle.node_pages.specs.Reading.{page_in}
use Rattle.node_pages.specs.PagesIn.{scanned, compared, starts_in, entries_from, read_behind, pages_in}
use Rattle.node_pages.specs.Scanning.{Scanned, no_pages, and_then, unless, fault_at_end, after_page}
use Rattle.node_pages.specs.declared.page_start.PageStart.{PageStart}
use Rattle.node_pages.proofs.FileLaws.{same_ok, then_ok, unless_ok, items_back, pages_back}
use Rattle.node_pages.proofs.RulesKept.{then_then, IsBefore, data_kept}
use Rattle.node_pages.proofs.RulesBroken.{Breaks, data_broken}

bytes_same : (xs ys : List ℕ) → pointwise nat_eq xs ys ≡ true → xs ≡ ys
bytes_same [] [] h = refl
bytes_same [] (y ∷ ys) h = absurd cc
bytes_same (x ∷ xs) [] h = absurd cc
bytes_same (x ∷ xs) (y ∷ ys) h = let parts = both (nat_eq x y) (pointwise nat_eq xs ys) h in (λ i. eqb-true x y parts.0 i ∷ bytes_same xs ys parts.1 i)

same_bytes : (xs : List ℕ) → pointwise nat_eq xs xs ≡ true
same_bytes [] = refl
same_bytes (x ∷ xs) = and_from (nat_eq x x) (pointwise nat_eq xs xs) (eq-eqb x x refl) (same_bytes xs)

first_same : (x y : List ℕ) (xs ys : List (List ℕ)) → (x ∷ xs) ≡ (y ∷ ys) → x ≡ y
first_same x y xs ys h = cc

drop_next : (i : ℕ) (xs : List (List ℕ)) (y : List ℕ) (ys : List (List ℕ)) → drop i xs ≡ y ∷ ys → drop (suc i) xs ≡ ys
drop_next zero [] y ys h = absurd cc
drop_next zero (x ∷ xs) y ys h = cc
drop_next (suc i) [] y ys h = absurd cc
drop_next (suc i) (x ∷ xs) y ys h = drop_next i xs y ys h

before_then : {A B : Type 0} (r : Result A ℕ) (f : A → Result B ℕ) (n : ℕ) → IsBefore (and_then r f) n → IsBefore r n
before_then (Ok a) f n h = tt
before_then (Err m) f n h = h

-- no directory page is wanted behind the last one, unless the answer is not behind it
few_none : (xs wanted : List (List ℕ)) (starts : List PageStart) (last m : ℕ) → xs ≡ wanted → IsBefore (unless (fault_of_few wanted last) starts) m → last ≤ m → xs ≡ []
few_none xs [] starts last m is p le = is
few_none xs (w ∷ ws) starts last m is p le = absurd (omega (arith, p, le))

-- ---- the directory

module _ (page : ℕ → List ℕ) where
  -- each page before the answer is the one that is wanted there
  abbrev AreGiven : Result Compared ℕ → ℕ → ℕ → List (List ℕ) → Type 0
  AreGiven r n left wanted = (i : ℕ) → i < left → IsBefore r (n + i) → drop i wanted ≡ page (n + i) ∷ drop (suc i) wanted

  abbrev stepped : Compared → List (List ℕ) → Compared
  stepped c wanted = record c { wanted = wanted; next = c.next + 1; before = c.next }

  given_here : (r : Result Compared ℕ) (n left : ℕ) (want : List ℕ) (wanted : List (List ℕ)) → page n ≡ want → AreGiven r (n + 1) left wanted → AreGiven r n (suc left) (want ∷ wanted)
  given_here r n left want wanted same rest zero less p = let here : n ≡ n + 0 = omega arith in ap (λ (b : List ℕ). b ∷ wanted) (sym same ∙ ap page here)
  given_here r n left want wanted same rest (suc i) less p =
      let here : (n + 1) + i ≡ n + suc i = omega arith in
      subst (λ (k : ℕ). drop i wanted ≡ page k ∷ drop (suc i) wanted) here (rest i (omega (arith, less)) (subst (λ (k : ℕ). IsBefore r k) (sym here) p))

  given_none : (r : Result Compared ℕ) (n k left : ℕ) (wanted : List (List ℕ)) → Err k ≡ r → k ≡ n → AreGiven r n left wanted
  given_none r n k left wanted is same i less p = let below : n + i < k = subst (λ (x : Result Compared ℕ). IsBefore x (n + i)) (sym is) p in absurd (omega (arith, below, same))

  given_test : (b : Bool) (r : Result Compared ℕ) (n left : ℕ) (c : Compared) (want : List ℕ) (wanted : List (List ℕ)) → pointwise nat_eq (page n) want ≡ b
      → and_then (if b then Ok (stepped c wanted) else Err c.next) (λ d. compared page (n + 1) left d) ≡ r → c.next ≡ n
      → ((d : Compared) → compared page (n + 1) left d ≡ r → d.next ≡ n + 1 → AreGiven r (n + 1) left d.wanted) → AreGiven r n (suc left) (want ∷ wanted)
  given_test true r n left c want wanted test is next rest = given_here r n left want wanted (bytes_same (page n) want test) (rest (stepped c wanted) is (ap (λ (k : ℕ). k + 1) next))
  given_test false r n left c want wanted test is next rest = given_none r n c.next (suc left) (want ∷ wanted) is next

  given_step : (wanted : List (List ℕ)) (r : Result Compared ℕ) (n left : ℕ) (c : Compared) → and_then (compared_with c wanted (page n)) (λ d. compared page (n + 1) left d) ≡ r → c.next ≡ n
      → ((d : Compared) → compared page (n + 1) left d ≡ r → d.next ≡ n + 1 → AreGiven r (n + 1) left d.wanted) → AreGiven r n (suc left) wanted
  given_step [] r n left c is next rest = given_none r n c.next (suc left) [] is next
  given_step (want ∷ wanted) r n left c is next rest = given_test (pointwise nat_eq (page n) want) r n left c want wanted refl is next rest

  given : (left n : ℕ) (c : Compared) (r : Result Compared ℕ) → compared page n left c ≡ r → c.next ≡ n → AreGiven r n left c.wanted
  given zero n c r is next = λ i less p. absurd (omega arith)
  given (suc left) n c r is next = given_step c.wanted r n left c is next (λ d more further. given left (n + 1) d r more further)

  -- the page that is answered is another one than is wanted there
  record Differs (n left : ℕ) (wanted : List (List ℕ)) (m : ℕ) : Type 0 where
    from : n ≤ m
    within : m < n + left
    other : (behind : List (List ℕ)) → drop (m - n) wanted ≡ page m ∷ behind → ⊥

  -- no page is wanted here, or another one
  abbrev IsOther : ℕ → List (List ℕ) → Type 0
  IsOther n wanted = (behind : List (List ℕ)) → wanted ≡ page n ∷ behind → ⊥

  none_wanted : (n : ℕ) → IsOther n []
  none_wanted n behind h = absurd cc

  other_wanted : (n : ℕ) (want : List ℕ) (wanted : List (List ℕ)) → pointwise nat_eq (page n) want ≡ false → IsOther n (want ∷ wanted)
  other_wanted n want wanted test behind h =
      let yes : pointwise nat_eq (page n) want ≡ true = ap (λ (w : List ℕ). pointwise nat_eq (page n) w) (first_same want (page n) wanted behind h) ∙ same_bytes (page n) in
      let no : true ≡ false = sym yes ∙ test in absurd cc

  differs_here : (n left m k : ℕ) (wanted : List (List ℕ)) → k ≡ n → k ≡ m → IsOther n wanted → Differs n (suc left) wanted m
  differs_here n left m k wanted next is other =
      let here : m ≡ n = omega (arith, next, is) in
      let none : m - n ≡ 0 = omega (arith, here) in
      record {
        from = omega (arith, here);
        within = omega (arith, here);
        other = λ behind h. other behind (sym (ap (λ (i : ℕ). drop i wanted) none) ∙ h ∙ ap (λ (i : ℕ). page i ∷ behind) here);
      }

  differs_test : (b : Bool) (n left m : ℕ) (c : Compared) (want : List ℕ) (wanted : List (List ℕ)) → pointwise nat_eq (page n) want ≡ b
      → and_then (if b then Ok (stepped c wanted) else Err c.next) (λ d. compared page (n + 1) left d) ≡ Err m → c.next ≡ n
      → ((d : Compared) → compared page (n + 1) left d ≡ Err m → d.next ≡ n + 1 → Differs (n + 1) left d.wanted m) → Differs n (suc left) (want ∷ wanted) m
  differs_test true n left m c want wanted test is next rest =
      let far = rest (stepped c wanted) is (ap (λ (k : ℕ). k + 1) next) in
      let from = far.from in
      let within = far.within in
      let one : m - n ≡ suc (m - (n + 1)) = omega (arith, from) in
      record { from = omega (arith, from); within = omega (arith, within); other = λ behind h. far.other behind (sym (ap (λ (i : ℕ). drop i (want ∷ wanted)) one) ∙ h) }
  differs_test false n left m c want wanted test is next rest =
      let same : c.next ≡ m = cc in
      differs_here n left m c.next (want ∷ wanted) next same (other_wanted n want wanted test)

  differs_step : (wanted : List (List ℕ)) (n left m : ℕ) (c : Compared) → and_then (compared_with c wanted (page n)) (λ d. compared page (n + 1) left d) ≡ Err m → c.next ≡ n
      → ((d : Compared) → compared page (n + 1) left d ≡ Err m → d.next ≡ n + 1 → Differs (n + 1) left d.wanted m) → Differs n (suc left) wanted m
  differs_step [] n left m c is next rest = let same : c.next ≡ m = cc in differs_here n left m c.next [] next same (none_wanted n)
  differs_step (want ∷ wanted) n left m c is next rest = differs_test (pointwise nat_eq (page n) want) n left m c want wanted refl is next rest

  differs : (left n : ℕ) (c : Compared) (m : ℕ) → compared page n left c ≡ Err m → c.next ≡ n → Differs n left c.wanted m
  differs zero n c m is next = absurd cc
  differs (suc left) n c m is next = differs_step c.wanted n left m c is next (λ d more further. differs left (n + 1) d m more further)

  -- what is left to compare behind so many pages, and the last of them
  record Passed (n left : ℕ) (c d : Compared) (wanted : List (List ℕ)) : Type 0 where
    rest : d.wanted ≡ drop left wanted
    none : left ≡ 0 → d.before ≡ c.before
    last : 0 < left → d.before + 1 ≡ n + left

  last_of : (n k left : ℕ) (c d : Compared) (wanted : List (List ℕ)) → k ≡ n → (f : Compared) → f.before ≡ k → Passed (n + 1) left f d wanted → d.before + 1 ≡ n + suc left
  last_of n k zero c d wanted next f at passed = let same = passed.none refl in omega (arith, next, at, same)
  last_of n k (suc left) c d wanted next f at passed = let same = passed.last (omega arith) in omega (arith, same)

  passed_test : (b : Bool) (n left : ℕ) (c d : Compared) (want : List ℕ) (wanted : List (List ℕ)) → and_then (if b then Ok (stepped c wanted) else Err c.next) (λ e. compared page (n + 1) left e) ≡ Ok d → c.next ≡ n
      → ((e : Compared) → compared page (n + 1) left e ≡ Ok d → e.next ≡ n + 1 → Passed (n + 1) left e d e.wanted) → Passed n (suc left) c d (want ∷ wanted)
  passed_test true n left c d want wanted is next rest =
      let far = rest (stepped c wanted) is (ap (λ (k : ℕ). k + 1) next) in
      record { rest = far.rest; none = λ (h : suc left ≡ 0). absurd (omega (arith, h)); last = λ h. last_of n c.next left c d wanted next (stepped c wanted) refl far }
  passed_test false n left c d want wanted is next rest = absurd cc

  passed_step : (wanted : List (List ℕ)) (n left : ℕ) (c d : Compared) → and_then (compared_with c wanted (page n)) (λ e. compared page (n + 1) left e) ≡ Ok d → c.next ≡ n
      → ((e : Compared) → compared page (n + 1) left e ≡ Ok d → e.next ≡ n + 1 → Passed (n + 1) left e d e.wanted) → Passed n (suc left) c d wanted
  passed_step [] n left c d is next rest = absurd cc
  passed_step (want ∷ wanted) n left c d is next rest = passed_test (pointwise nat_eq (page n) want) n left c d want wanted is next rest

  passed : (left n : ℕ) (c d : Compared) → compared page n left c ≡ Ok d → c.next ≡ n → Passed n left c d c.wanted
  passed zero n c d is next =
      let same : c ≡ d = same_ok c d is in
      record { rest = sym (ap (λ (x : Compared). x.wanted) same); none = λ h. sym (ap (λ (x : Compared). x.before) same); last = λ h. absurd (omega (arith, h)) }
  passed (suc left) n c d is next = passed_step c.wanted n left c d is next (λ e more further. passed left (n + 1) e d more further)

-- ---- all pages

next_after : (page : ℕ → List ℕ) (left n : ℕ) (s t : Scanned) → scanned page n left s ≡ Ok t → s.next ≡ n → t.next ≡ n + left
next_after page zero n s t is next = let same : s ≡ t = same_ok s t is in sym (ap (λ (x : Scanned). x.next) same) ∙ next ∙ omega arith
next_after page (suc left) n s t is next =
    let ok = then_ok (after_page s (page n)) (λ u. scanned page (n + 1) left u) t is in
    let one = items_back s (page_in entry_read (page n)) ok.0 ok.1 in
    let here : ok.0.next ≡ n + 1 = one.2.next ∙ ap (λ (k : ℕ). k + 1) next in
    let same : (n + 1) + left ≡ n + suc left = omega arith in
    next_after page left (n + 1) ok.0 t ok.2 here ∙ same

module _ (page : ℕ → List ℕ) (h : Header) where
  -- behind the data pages
  abbrev data_part : Result Compared ℕ
  data_part = and_then (scanned page 1 h.data_pages no_pages) at_end

  abbrev directory_part : Compared → Result Compared ℕ
  directory_part c = compared page (1 + h.data_pages) h.directory_pages c

  record Begun (c : Compared) : Type 0 where
    wanted : c.wanted ≡ directory_for page h.data_pages
    next : c.next ≡ 1 + h.data_pages
    before : c.before ≡ 0

  begun : (c : Compared) → data_part ≡ Ok c → Begun c
  begun c is =
      let a = then_ok (scanned page 1 h.data_pages no_pages) at_end c is in
      let s : Scanned = a.0 in
      let end = unless_ok (fault_at_end s.part s.roomy) (none_compared s.next s.starts) c a.2 in
      let all = pages_back page h.data_pages 1 no_pages s refl a.1 in
      record {
        wanted = sym (ap (λ (x : Compared). x.wanted) end.1) ∙ ap directory_pages all.starts;
        next = sym (ap (λ (x : Compared). x.next) end.1) ∙ next_after page h.data_pages 1 no_pages s a.1 refl;
        before = sym (ap (λ (x : Compared). x.before) end.1);
      }

  -- what is answered behind the data pages
  abbrev behind_data : Compared → Result (List PageStart) ℕ
  behind_data c = and_then (directory_part c) (λ d. at_directory_end d)

  starts_are : starts_in page h ≡ and_then data_part behind_data
  starts_are = sym (then_then (scanned page 1 h.data_pages no_pages) at_end behind_data)

  -- ---- a page before the answer

  directory_enough : (r : Result Compared ℕ) (c : Compared) (m : ℕ) → Begun c → directory_part c ≡ r → IsBefore (and_then r (λ d. at_directory_end d)) m → h.data_pages < m → m + 1 ≡ count_of h
      → drop (suc (m - (1 + h.data_pages))) (directory_for page h.data_pages) ≡ []
  directory_enough (Err k) c m at is p less last =
      let far = differs page h.directory_pages (1 + h.data_pages) c k is at.next in
      let within = far.within in
      absurd (omega (arith, within, p, last))
  directory_enough (Ok d) c m at is p less last =
      let far = passed page h.directory_pages (1 + h.data_pages) c d is at.next in
      let end = far.last (omega (arith, less, last)) in
      let all : suc (m - (1 + h.data_pages)) ≡ h.directory_pages = omega (arith, less, last) in
      few_none (drop (suc (m - (1 + h.data_pages))) (directory_for page h.data_pages)) d.wanted d.starts d.before m
      (ap (λ (i : ℕ). drop i (directory_for page h.data_pages)) all ∙ ap (λ (w : List (List ℕ)). drop h.directory_pages w) (sym at.wanted) ∙ sym far.rest) p (omega (arith, end, last))

  directory_none : (r : Result Compared ℕ) (c : Compared) → Begun c → directory_part c ≡ r → IsBefore (and_then r (λ d. at_directory_end d)) 0 → h.directory_pages ≡ 0 → directory_for page h.data_pages ≡ []
  directory_none (Err k) c at is p none =
      let far = differs page h.directory_pages (1 + h.data_pages) c k is at.next in
      let within = far.within in
      let from = far.from in
      absurd (omega (arith, within, from, none))
  directory_none (Ok d) c at is p none =
      let far = passed page h.directory_pages (1 + h.data_pages) c d is at.next in
      let same = far.none none in
      let start = at.before in
      few_none (directory_for page h.data_pages) d.wanted d.starts d.before 0 (sym at.wanted ∙ ap (λ (i : ℕ). drop i c.wanted) (sym none) ∙ sym far.rest) p (omega (arith, same, start))

  -- the directory page of this number, where the data pages break no rule
  directory_kept : (r : Result Compared ℕ) (m : ℕ) → data_part ≡ r → IsBefore (and_then r behind_data) m → DataPagesKeepRules page h.data_pages → h.data_pages < m → m < count_of h → KeepsDirectoryRules page h m
  directory_kept (Err k) m is p all less within = let broken = data_broken page h.data_pages k is in absurd (broken.2 (all k broken.0 broken.1))
  directory_kept (Ok c) m is p all less within =
      let at = begun c is in
      let i = m - (1 + h.data_pages) in
      let here : (1 + h.data_pages) + i ≡ m = omega (arith, less) in
      let q = before_then (directory_part c) (λ d. at_directory_end d) m p in
      let one = given page h.directory_pages (1 + h.data_pages) c (directory_part c) refl at.next i (omega (arith, less, within)) (subst (λ (k : ℕ). IsBefore (directory_part c) k) (sym here) q) in
      record {
        behind = drop (suc i) (directory_for page h.data_pages);
        given = ap (λ (w : List (List ℕ)). drop i w) (sym at.wanted) ∙ one ∙ (λ j. page (here j) ∷ drop (suc i) (at.wanted j));
        enough = λ last. directory_enough (directory_part c) c m at refl p less last;
      }

  has_some : (r : Result Compared ℕ) (m : ℕ) → data_part ≡ r → IsBefore (and_then r behind_data) m → DataPagesKeepRules page h.data_pages → m ≡ 0 → h.directory_pages ≡ 0 → directory_for page h.data_pages ≡ []
  has_some (Err k) m is p all first none = let broken = data_broken page h.data_pages k is in absurd (broken.2 (all k broken.0 broken.1))
  has_some (Ok c) m is p all first none = directory_none (directory_part c) c (begun c is) refl (subst (λ (k : ℕ). IsBefore (and_then (directory_part c) (λ d. at_directory_end d)) k) first p) none

  keeps : (m : ℕ) → header_in (page 0) ≡ Some h → IsBefore (starts_in page h) m → KeepsRules page m
  keeps m said before =
      let p : IsBefore (and_then data_part behind_data) m = subst (λ (r : Result (List PageStart) ℕ). IsBefore r m) starts_are before in
      record {
        header = h;
        said = said;
        data_page = λ some within. data_kept page h.data_pages data_part refl m some within (before_then data_part behind_data m p);
        directory_page = λ all less within. directory_kept data_part m refl p all less within;
        has_directory = λ all first none. has_some data_part m refl p all first none;
      }

  -- ---- the answer

  end_answer : (wanted : List (List ℕ)) (starts : List PageStart) (last n : ℕ) → unless (fault_of_few wanted last) starts ≡ Err n → (last ≡ n) × (wanted ≡ [] → ⊥)
  end_answer [] starts last n is = absurd cc
  end_answer (w ∷ ws) starts last n is = (cc, λ none. cc)

  -- too few directory pages
  few_break : (directories : ℕ) (c d : Compared) (n : ℕ) → h.directory_pages ≡ directories → Begun c → Passed page (1 + h.data_pages) h.directory_pages c d c.wanted → d.before ≡ n → (d.wanted ≡ [] → ⊥)
      → DataPagesKeepRules page h.data_pages → (DataPagesKeepRules page h.data_pages → h.data_pages < n → n < count_of h → KeepsDirectoryRules page h n)
      → (DataPagesKeepRules page h.data_pages → n ≡ 0 → h.directory_pages ≡ 0 → directory_for page h.data_pages ≡ []) → ⊥
  few_break zero c d n count at far is some all given has =
      let same = far.none count in
      let start = at.before in
      some (far.rest ∙ ap (λ (i : ℕ). drop i c.wanted) count ∙ at.wanted ∙ has all (omega (arith, is, same, start)) count)
  few_break (suc more) c d n count at far is some all given has =
      let end = far.last (omega (arith, count)) in
      let rules = given all (omega (arith, is, end, count)) (omega (arith, is, end)) in
      let next : suc (n - (1 + h.data_pages)) ≡ h.directory_pages = omega (arith, is, end, count) in
      let behind = drop_next (n - (1 + h.data_pages)) (directory_for page h.data_pages) (page n) rules.behind rules.given in
      let none = rules.enough (omega (arith, is, end)) in
      some (far.rest ∙ ap (λ (w : List (List ℕ)). drop h.directory_pages w) at.wanted ∙ sym (ap (λ (i : ℕ). drop i (directory_for page h.data_pages)) next) ∙ behind ∙ none)

  directory_breaks : (r : Result Compared ℕ) (c : Compared) (n : ℕ) → directory_part c ≡ r → Begun c → and_then r (λ d. at_directory_end d) ≡ Err n → DataPagesKeepRules page h.data_pages
      → (DataPagesKeepRules page h.data_pages → h.data_pages < n → n < count_of h → KeepsDirectoryRules page h n)
      → (DataPagesKeepRules page h.data_pages → n ≡ 0 → h.directory_pages ≡ 0 → directory_for page h.data_pages ≡ []) → ⊥
  directory_breaks (Err k) c n is at answer all given has =
      let same : k ≡ n = cc in
      let far = differs page h.directory_pages (1 + h.data_pages) c k is at.next in
      let from = far.from in
      let within = far.within in
      let rules = given all (omega (arith, from, same)) (omega (arith, within, same)) in
      far.other rules.behind (ap (λ (w : List (List ℕ)). drop (k - (1 + h.data_pages)) w) at.wanted ∙ subst (λ (i : ℕ). drop (i - (1 + h.data_pages)) (directory_for page h.data_pages) ≡ page i ∷ rules.behind) (sym same) rules.given)
  directory_breaks (Ok d) c n is at answer all given has =
      let end = end_answer d.wanted d.starts d.before n answer in
      few_break h.directory_pages c d n refl at (passed page h.directory_pages (1 + h.data_pages) c d is at.next) end.0 end.1 all given has

  answer_breaks : (r : Result Compared ℕ) (n : ℕ) → data_part ≡ r → and_then r behind_data ≡ Err n → (1 ≤ n → n ≤ h.data_pages → KeepsDataRules page h.data_pages n)
      → (DataPagesKeepRules page h.data_pages → h.data_pages < n → n < count_of h → KeepsDirectoryRules page h n)
      → (DataPagesKeepRules page h.data_pages → n ≡ 0 → h.directory_pages ≡ 0 → directory_for page h.data_pages ≡ []) → ⊥
  answer_breaks (Err k) n is answer here given has =
      let same : k ≡ n = cc in
      let broken = subst (λ (i : ℕ). Breaks page h.data_pages i) same (data_broken page h.data_pages k is) in
      broken.2 (here broken.0 broken.1)
  answer_breaks (Ok c) n is answer here given has =
      let all : DataPagesKeepRules page h.data_pages = λ k some within. data_kept page h.data_pages (Ok c) is k some within tt in
      directory_breaks (directory_part c) c n refl (begun c is) answer all given has

-- ---- the file

error_then : {A B : Type 0} (r : Result A ℕ) (f : A → B) (n : ℕ) → and_then r (λ a. Ok (f a)) ≡ Err n → r ≡ Err n
error_then (Ok a) f n is = absurd cc
error_then (Err m) f n is = let same : m ≡ n = cc in ap Err same

behind_kept : (page : ℕ → List ℕ) (o : Option Header) (m : ℕ) → header_in (page 0) ≡ o → IsBefore (read_behind page o) m → KeepsRules page m
behind_kept page None m said p = absurd (omega (arith, p))
behind_kept page (Some h) m said p = keeps page h m said (before_then (starts_in page h) (λ starts. Ok (records_in (entries_from page 1 h.data_pages), h.base)) m p)

-- each page before the answer keeps its rules; all do where a map is answered
pub kept_before : (page : ℕ → List ℕ) (r : Result (Entries × ℕ) ℕ) (m : ℕ) → pages_in page ≡ r → IsBefore r m → KeepsRules page m
kept_before page r m is p = behind_kept page (header_in (page 0)) m refl (subst (λ (x : Result (Entries × ℕ) ℕ). IsBefore x m) (sym is) p)

behind_broken : (page : ℕ → List ℕ) (o : Option Header) (n : ℕ) → header_in (page 0) ≡ o → read_behind page o ≡ Err n → KeepsRules page n → ⊥
behind_broken page None n said is k = let no : None ≡ Some k.header = sym said ∙ k.said in absurd cc
behind_broken page (Some h) n said is k =
    let same : k.header ≡ h = same_Some k.header h (sym k.said ∙ said) in
    let answer : and_then (data_part page h) (behind_data page h) ≡ Err n = sym (starts_are page h) ∙ error_then (starts_in page h) (λ starts. (records_in (entries_from page 1 h.data_pages), h.base)) n is in
    answer_breaks page h (data_part page h) n refl answer
    (subst (λ (x : Header). 1 ≤ n → n ≤ x.data_pages → KeepsDataRules page x.data_pages n) same k.data_page)
    (subst (λ (x : Header). DataPagesKeepRules page x.data_pages → x.data_pages < n → n < count_of x → KeepsDirectoryRules page x n) same k.directory_page)
    (subst (λ (x : Header). DataPagesKeepRules page x.data_pages → n ≡ 0 → x.directory_pages ≡ 0 → directory_for page x.data_pages ≡ []) same k.has_directory)

-- the page that is answered breaks a rule
pub broken_there : (page : ℕ → List ℕ) (n : ℕ) → pages_in page ≡ Err n → KeepsRules page n → ⊥
broken_there page n is k = behind_broken page (header_in (page 0)) n refl is k

-- of a file it is the same page
pub file_broken : (file : List ℕ) (n : ℕ) → contents_of_file file ≡ Err n → pages_in (file_page file) ≡ Err n
file_broken [] n is = absurd cc
file_broken (b ∷ bs) n is = is
