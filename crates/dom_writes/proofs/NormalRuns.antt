-- Entries in runs: where they are cut, and what joining them keeps.
use Rattle.std.proofs.Common.{◌≡◌, ◌≤◌, ◌<◌, ◌-◌, Bool, true, false, cond, ◌&&◌, ◌==◌, nat_eq, ℕ, List, [], ◌∷◌, ◌++◌, length, length-append, take, drop, slice_index_or, true≢false, arith, Some, refl, sym, ap, subst, ◌∙◌, append_assoc, append-nil}
use Rattle.std.specs.List.{AllByRecursion}
use Rattle.dewey_labels.specs.Labels.{level}
use Rattle.dewey_labels.proofs.Codes.{eq_is, first_of_both, second_of_both}
use Rattle.tree_model.specs.declared.key.Key.{Key}
use Rattle.tree_model.specs.declared.record.Record.{Record}
use Rattle.tree_model.specs.Entries.{Entries, Above, Sorted}
use Rattle.tree_model.specs.NodeKinds.{is_text_record}
use Rattle.tree_model.proofs.Entries.{sorted_append, sorted_behind}
use Rattle.tree_model.proofs.Lists.{all_append, all_behind, all_before, all_on}
use Rattle.dom_reads.specs.inside.Gathered.{texts_in}
use Rattle.dom_writes.specs.inside.NormalTexts.{joins, joins_first, before_runs, runs, IsRun, joining, past_joining, first_run, behind_run, text_at, joined_run, joined_runs, joined}

-- ---- which entries join

-- what joins an entry joins the same entries
pub joins_on : (a b c : Key × Record) → joins a b ≡ true → joins b c ≡ joins a c
joins_on a b c h =
    let texts = first_of_both (is_text_record (Some a.1) && is_text_record (Some b.1)) (level a.0.label == level b.0.label) h in
    let levels : level a.0.label ≡ level b.0.label = eq_is (level a.0.label) (level b.0.label) (second_of_both (is_text_record (Some a.1) && is_text_record (Some b.1)) (level a.0.label == level b.0.label) h) in
    let both : is_text_record (Some b.1) ≡ is_text_record (Some a.1) = second_of_both (is_text_record (Some a.1)) (is_text_record (Some b.1)) texts ∙ sym (first_of_both (is_text_record (Some a.1)) (is_text_record (Some b.1)) texts) in
    λ i. (both i && is_text_record (Some c.1)) && (sym levels i == level c.0.label)

joins_first_on : (a b : Key × Record) (es : Entries) → joins a b ≡ true → joins_first b es ≡ joins_first a es
joins_first_on a b [] h = refl
joins_first_on a b (x ∷ es) h = joins_on a b x h

-- what is no text joins nothing
pub joins_no_text : (e : Key × Record) (es : Entries) → is_text_record (Some e.1) ≡ false → joins_first e es ≡ false
joins_no_text e [] h = refl
joins_no_text e (x ∷ es) h = λ i. (h i && is_text_record (Some x.1)) && (level e.0.label == level x.0.label)

-- ---- where entries are cut into runs

-- before what it doesn't join an entry is alone
pub alone_before : (e : Key × Record) (ys : Entries) → joins_first e ys ≡ false → before_runs e (runs ys) ≡ (e ∷ []) ∷ runs ys
alone_before e [] h = refl
alone_before e (x ∷ ys) h = by (runs ys)
  where
    by : (rs : List Entries) → before_runs e (before_runs x rs) ≡ (e ∷ []) ∷ before_runs x rs
    by [] = ap (λ b. cond b ((e ∷ x ∷ []) ∷ []) ((e ∷ []) ∷ (x ∷ []) ∷ [])) h
    by (r ∷ rs) = elim (joins_first x r) as (λ b. before_runs e (cond b ((x ∷ r) ∷ rs) ((x ∷ []) ∷ r ∷ rs)) ≡ (e ∷ []) ∷ cond b ((x ∷ r) ∷ rs) ((x ∷ []) ∷ r ∷ rs)) [
      | true ↦ ap (λ b. cond b ((e ∷ x ∷ r) ∷ rs) ((e ∷ []) ∷ (x ∷ r) ∷ rs)) h
      | false ↦ ap (λ b. cond b ((e ∷ x ∷ []) ∷ r ∷ rs) ((e ∷ []) ∷ (x ∷ []) ∷ r ∷ rs)) h
    ]

-- one run before what it doesn't join
pub run_before : (e : Key × Record) (r ys : Entries) → IsRun (e ∷ r) → joins_first e ys ≡ false → runs ((e ∷ r) ++ ys) ≡ (e ∷ r) ∷ runs ys
run_before e [] ys one h = alone_before e ys h
run_before e (x ∷ r) ys one h =
    ap (before_runs e) (run_before x r ys (all_on (λ y. joins e y ≡ true) (λ y. joins x y ≡ true) (λ y g. joins_on e x y one.0 ∙ g) r one.1) (joins_first_on e x ys one.0 ∙ h))
    ∙ ap (λ b. cond b ((e ∷ x ∷ r) ∷ runs ys) ((e ∷ []) ∷ (x ∷ r) ∷ runs ys)) one.0

-- entries of which none joins what follows
pub runs_apart : (xs ys : Entries) → AllByRecursion (λ x. joins_first x ys ≡ false) xs → runs (xs ++ ys) ≡ runs xs ++ runs ys
runs_apart [] ys h = refl
runs_apart (x ∷ xs) ys h = ap (before_runs x) (runs_apart xs ys h.1) ∙ by (runs xs)
  where
    by : (rs : List Entries) → before_runs x (rs ++ runs ys) ≡ before_runs x rs ++ runs ys
    by [] = alone_before x ys h.0
    by (r ∷ rs) = elim (joins_first x r) as (λ b. cond b ((x ∷ r) ∷ (rs ++ runs ys)) ((x ∷ []) ∷ r ∷ (rs ++ runs ys)) ≡ cond b ((x ∷ r) ∷ rs) ((x ∷ []) ∷ r ∷ rs) ++ runs ys) [ true ↦ refl | false ↦ refl ]

joined_runs-append : (rs qs : List Entries) → joined_runs (rs ++ qs) ≡ joined_runs rs ++ joined_runs qs
joined_runs-append [] qs = refl
joined_runs-append (r ∷ rs) qs = ap (λ v. joined_run r ++ v) (joined_runs-append rs qs) ∙ sym (append_assoc (joined_run r) (joined_runs rs) (joined_runs qs))

pub joined_before : (e : Key × Record) (r ys : Entries) → IsRun (e ∷ r) → joins_first e ys ≡ false → joined ((e ∷ r) ++ ys) ≡ joined_run (e ∷ r) ++ joined ys
joined_before e r ys one h = ap joined_runs (run_before e r ys one h)

pub joined_apart : (xs ys : Entries) → AllByRecursion (λ x. joins_first x ys ≡ false) xs → joined (xs ++ ys) ≡ joined xs ++ joined ys
joined_apart xs ys h = ap joined_runs (runs_apart xs ys h) ∙ joined_runs-append (runs xs) (runs ys)

-- what is no text stays
pub joined_no_text : (e : Key × Record) (es : Entries) → is_text_record (Some e.1) ≡ false → joined (e ∷ es) ≡ e ∷ joined es
joined_no_text e es h = joined_before e [] es tt (joins_no_text e es h) ∙ ap (λ b. cond b (text_at e.0 (texts_in (e ∷ []))) (e ∷ []) ++ joined es) h

-- ---- keys of joined entries

module _ (P : Key → Type 0) where
  all_before_runs : (e : Key × Record) (rs : List Entries) → P e.0 → AllByRecursion (AllByRecursion (λ x. P x.0)) rs
      → AllByRecursion (AllByRecursion (λ x. P x.0)) (before_runs e rs)
  all_before_runs e [] p h = ((p, tt), tt)
  all_before_runs e (r ∷ rs) p h = elim (joins_first e r) as (λ b. AllByRecursion (AllByRecursion (λ x. P x.0)) (cond b ((e ∷ r) ∷ rs) ((e ∷ []) ∷ r ∷ rs))) [
    | true ↦ ((p, h.0), h.1)
    | false ↦ ((p, tt), h)
  ]

  all_runs : (es : Entries) → AllByRecursion (λ x. P x.0) es → AllByRecursion (AllByRecursion (λ x. P x.0)) (runs es)
  all_runs [] h = tt
  all_runs (e ∷ es) h = all_before_runs e (runs es) h.0 (all_runs es h.1)

  all_joined_run : (r : Entries) → AllByRecursion (λ x. P x.0) r → AllByRecursion (λ x. P x.0) (joined_run r)
  all_joined_run [] h = tt
  all_joined_run (e ∷ es) h = elim (is_text_record (Some e.1)) as (λ b. AllByRecursion (λ x. P x.0) (cond b (text_at e.0 (texts_in (e ∷ es))) (e ∷ es))) [
    | true ↦ by (texts_in (e ∷ es))
    | false ↦ h
  ]
    where
      by : (d : List ℕ) → AllByRecursion (λ x. P x.0) (text_at e.0 d)
      by [] = tt
      by (b ∷ d) = (h.0, tt)

  all_joined_runs : (rs : List Entries) → AllByRecursion (AllByRecursion (λ x. P x.0)) rs → AllByRecursion (λ x. P x.0) (joined_runs rs)
  all_joined_runs [] h = tt
  all_joined_runs (r ∷ rs) h = all_append (λ x. P x.0) (joined_run r) (joined_runs rs) (all_joined_run r h.0) (all_joined_runs rs h.1)

  pub all_joined : (es : Entries) → AllByRecursion (λ x. P x.0) es → AllByRecursion (λ x. P x.0) (joined es)
  all_joined es h = all_joined_runs (runs es) (all_runs es h)

-- ---- and their order

abbrev all_of : List Entries → Entries
all_of [] = []
all_of (r ∷ rs) = r ++ all_of rs

all_of_before : (e : Key × Record) (rs : List Entries) → all_of (before_runs e rs) ≡ e ∷ all_of rs
all_of_before e [] = refl
all_of_before e (r ∷ rs) = elim (joins_first e r) as (λ b. all_of (cond b ((e ∷ r) ∷ rs) ((e ∷ []) ∷ r ∷ rs)) ≡ e ∷ (r ++ all_of rs)) [ true ↦ refl | false ↦ refl ]

all_of_runs : (es : Entries) → all_of (runs es) ≡ es
all_of_runs [] = refl
all_of_runs (e ∷ es) = all_of_before e (runs es) ∙ ap (λ v. e ∷ v) (all_of_runs es)

-- in a sorted list what comes first lies below the rest
pub parts_rise : (xs ys : Entries) → Sorted (xs ++ ys) → AllByRecursion (λ x. AllByRecursion (Above x.0) ys) xs
parts_rise [] ys s = tt
parts_rise (x ∷ xs) ys s = (all_behind (Above x.0) xs ys s.0, parts_rise xs ys s.1)

pub sorted_first : (xs ys : Entries) → Sorted (xs ++ ys) → Sorted xs
sorted_first [] ys s = tt
sorted_first (x ∷ xs) ys s = (all_before (Above x.0) xs ys s.0, sorted_first xs ys s.1)

sorted_joined_run : (r : Entries) → Sorted r → Sorted (joined_run r)
sorted_joined_run [] s = tt
sorted_joined_run (e ∷ es) s = elim (is_text_record (Some e.1)) as (λ b. Sorted (cond b (text_at e.0 (texts_in (e ∷ es))) (e ∷ es))) [ true ↦ by (texts_in (e ∷ es)) | false ↦ s ]
  where
    by : (d : List ℕ) → Sorted (text_at e.0 d)
    by [] = tt
    by (b ∷ d) = (tt, tt)

runs_of_all : (P : Key → Type 0) (rs : List Entries) → AllByRecursion (λ x. P x.0) (all_of rs) → AllByRecursion (AllByRecursion (λ x. P x.0)) rs
runs_of_all P [] h = tt
runs_of_all P (r ∷ rs) h = (all_before (λ x. P x.0) r (all_of rs) h, runs_of_all P rs (all_behind (λ x. P x.0) r (all_of rs) h))

sorted_joined_runs : (rs : List Entries) → Sorted (all_of rs) → Sorted (joined_runs rs)
sorted_joined_runs [] s = tt
sorted_joined_runs (r ∷ rs) s =
    sorted_append (joined_run r) (joined_runs rs) (sorted_joined_run r (sorted_first r (all_of rs) s)) (sorted_joined_runs rs (sorted_behind r (all_of rs) s))
    (all_joined_run (λ k. AllByRecursion (λ y. Rattle.tree_model.specs.Keys.key_cmp k y.0 ≡ Rattle.std.proofs.Common.Less) (joined_runs rs)) r
    (all_on (λ x. AllByRecursion (Above x.0) (all_of rs)) (λ x. AllByRecursion (Above x.0) (joined_runs rs))
    (λ x g. all_joined_runs (λ k. Rattle.tree_model.specs.Keys.key_cmp x.0 k ≡ Rattle.std.proofs.Common.Less) rs (runs_of_all (λ k. Rattle.tree_model.specs.Keys.key_cmp x.0 k ≡ Rattle.std.proofs.Common.Less) rs g)) r (parts_rise r (all_of rs) s)))

pub sorted_joined : (es : Entries) → Sorted es → Sorted (joined es)
sorted_joined es s = sorted_joined_runs (runs es) (subst Sorted (sym (all_of_runs es)) s)

-- ---- the first run

joining_past : (e : Key × Record) (es : Entries) → joining e es ++ past_joining e es ≡ es
joining_past e [] = refl
joining_past e (x ∷ es) = elim (joins e x) as (λ b. cond b (x ∷ joining e es) [] ++ cond b (past_joining e es) (x ∷ es) ≡ x ∷ es) [
  | true ↦ ap (λ v. x ∷ v) (joining_past e es)
  | false ↦ refl
]

-- it and what lies behind it are all
pub run_and_rest : (es : Entries) → first_run es ++ behind_run es ≡ es
run_and_rest [] = refl
run_and_rest (e ∷ es) = ap (λ v. e ∷ v) (joining_past e es)

pub joining_all : (e : Key × Record) (es : Entries) → AllByRecursion (λ x. joins e x ≡ true) (joining e es)
joining_all e [] = tt
joining_all e (x ∷ es) = elim (joins e x) as (λ b. joins e x ≡ b → AllByRecursion (λ x. joins e x ≡ true) (cond b (x ∷ joining e es) [])) [
  | true ↦ λ h. (h, joining_all e es)
  | false ↦ λ _. tt
] refl

-- it is one run
pub run_is_one : (es : Entries) → IsRun (first_run es)
run_is_one [] = tt
run_is_one (e ∷ es) = joining_all e es

-- what lies behind it doesn't join it
pub rest_apart : (e : Key × Record) (es : Entries) → joins_first e (past_joining e es) ≡ false
rest_apart e [] = refl
rest_apart e (x ∷ es) = elim (joins e x) as (λ b. joins e x ≡ b → joins_first e (cond b (past_joining e es) (x ∷ es)) ≡ false) [
  | true ↦ λ _. rest_apart e es
  | false ↦ λ h. h
] refl

past_shorter : (e : Key × Record) (es : Entries) → length (past_joining e es) ≤ length es
past_shorter e [] = omega arith
past_shorter e (x ∷ es) = elim (joins e x) as (λ b. length (cond b (past_joining e es) (x ∷ es)) ≤ length (x ∷ es)) [
  | true ↦ omega (arith, past_shorter e es)
  | false ↦ omega arith
]

-- fewer entries lie behind it than there were
pub behind_shorter : (es : Entries) → (length es == 0) ≡ false → length (behind_run es) < length es
behind_shorter [] h = absurd (true≢false h)
behind_shorter (e ∷ es) h = omega (arith, past_shorter e es)

-- ---- slices cut

take_front : (xs ys : Entries) → take (length xs) (xs ++ ys) ≡ xs
take_front [] ys = refl
take_front (x ∷ xs) ys = ap (λ v. x ∷ v) (take_front xs ys)

drop_front : (xs ys : Entries) → drop (length xs) (xs ++ ys) ≡ ys
drop_front [] ys = refl
drop_front (x ∷ xs) ys = drop_front xs ys

-- two parts are cut where the second one begins
record IsCut (xs ys zs : Entries) : Type 0 where
  front : take (length zs - length ys) zs ≡ xs
  back : drop (length zs - length ys) zs ≡ ys
  within : length ys ≤ length zs

cut_at : (xs ys : Entries) → IsCut xs ys (xs ++ ys)
cut_at xs ys =
    let here : length (xs ++ ys) - length ys ≡ length xs = omega (arith, length-append xs ys) in
    record {
      front = ap (λ n. take n (xs ++ ys)) here ∙ take_front xs ys;
      back = ap (λ n. drop n (xs ++ ys)) here ∙ drop_front xs ys;
      within = omega (arith, length-append xs ys);
    }

module _ (es : Entries) (x : Key × Record) (others behind : Entries) (whole : es ≡ x ∷ others) (is : behind ≡ past_joining x others) where
  run_cut : IsCut (first_run es) (behind_run es) es
  run_cut = subst (IsCut (first_run es) (behind_run es)) (run_and_rest es) (cut_at (first_run es) (behind_run es))

  behind_is : behind ≡ behind_run es
  behind_is = is ∙ ap behind_run (sym whole)

  pub cut_within : length behind ≤ length es
  cut_within = subst (λ v. length v ≤ length es) (sym behind_is) run_cut.within

  pub cut_front : take (length es - length behind) es ≡ first_run es
  cut_front = ap (λ v. take (length es - length v) es) behind_is ∙ run_cut.front

  pub cut_back : drop (length es - length behind) es ≡ behind_run es
  cut_back = ap (λ v. drop (length es - length v) es) behind_is ∙ run_cut.back
