-- The changes that join the texts of a run, and those of all runs, one after another.
use Rattle.std.proofs.Common.{◌≡◌, Bool, true, false, cond, ℕ, List, [], ◌∷◌, ◌++◌, map, Less, Greater, is_lt, is_eq, Result, Ok, Err, IfOk, ◌==◌, length, true≢false, Some, refl, sym, ap, subst, ◌∙◌, append_assoc, append-nil}
use Rattle.std.proofs.lemmas.Slice.Eq.{bytes_eq-Decides}
use Rattle.std.specs.List.{AllByRecursion}
use Rattle.tree_model.specs.declared.change.Change.{Change}
use Rattle.tree_model.specs.declared.key.Key.{Key}
use Rattle.tree_model.specs.declared.record.Record.{Record}
use Rattle.tree_model.specs.declared.record.Record.TheVariants.{Attr, Document, Element, Text}
use Rattle.tree_model.specs.Keys.{key_cmp}
use Rattle.tree_model.specs.Entries.{Entries, Above, Sorted, get, entries_below, entries_above}
use Rattle.tree_model.specs.Changes.{differences, drop_change, put_unless, same_record, stands}
use Rattle.tree_model.specs.NodeKinds.{is_text_record}
use Rattle.tree_model.proofs.Entries.{beyond_all, get_here, get_skip, sorted_behind}
use Rattle.tree_model.proofs.Keys.{key_itself, key_turned}
use Rattle.tree_model.proofs.Lists.{all_append, all_behind, all_before, all_on}
use Rattle.tree_changes.proofs.ChangeLists.{no_differences}
use Rattle.node_seq.specs.ChangeLists.{PutsValidEntry}
use Rattle.dom_reads.specs.inside.Gathered.{texts_in}
use Rattle.dom_writes.specs.inside.NormalTexts.{joins_first, IsRun, joining, past_joining, first_run, behind_run, text_at, joined_run, joined, IsValidText, run_changes}
use Rattle.dom_writes.proofs.NormalRuns.{all_joined, joined_before, joining_all, parts_rise, rest_apart, run_and_rest, sorted_first}

-- ---- the first entry of two maps

none_below : (k : Key) (es : Entries) → AllByRecursion (Above k) es → entries_below k es ≡ []
none_below k [] h = refl
none_below k (e ∷ es) h = ap (λ b. cond b (e ∷ entries_below k es) (entries_below k es)) (ap is_lt (key_turned k e.0 h.0)) ∙ none_below k es h.1

-- another record at the first key
pub first_put : (k : Key) (r q : Record) (es xs : Entries) → Sorted ((k, r) ∷ es)
    → differences ((k, r) ∷ es) ((k, q) ∷ xs) ≡ put_unless (same_record q r) (k, q) ++ differences es xs
first_put k r q es xs s = λ i. map drop_change (below i) ++ (put_unless (stands q (get_here (k, r) es i)) (k, q) ++ differences (above i) xs)
  where
    below : entries_below k ((k, r) ∷ es) ≡ []
    below = ap (λ o. cond (is_lt o) ((k, r) ∷ entries_below k es) (entries_below k es)) (key_itself k) ∙ none_below k es s.0

    above : entries_above k ((k, r) ∷ es) ≡ es
    above = ap (λ o. cond (is_lt o) ((k, r) ∷ entries_above k es) (entries_above k es)) (key_itself k) ∙ beyond_all k es s.0

-- the first entry is gone
pub first_gone : (e : Key × Record) (es xs : Entries) → AllByRecursion (Above e.0) xs → differences (e ∷ es) xs ≡ drop_change e ∷ differences es xs
first_gone e es [] h = refl
first_gone e es (x ∷ xs) h = λ i. map drop_change (below i) ++ (put_unless (stands x.1 (there i)) x ++ differences (above i) xs)
  where
    turned : key_cmp x.0 e.0 ≡ Greater
    turned = key_turned e.0 x.0 h.0

    below : entries_below x.0 (e ∷ es) ≡ e ∷ entries_below x.0 es
    below = ap (λ o. cond (is_lt o) (e ∷ entries_below x.0 es) (entries_below x.0 es)) h.0

    there : get x.0 (e ∷ es) ≡ get x.0 es
    there = get_skip x.0 e es (ap is_eq turned)

    above : entries_above x.0 (e ∷ es) ≡ entries_above x.0 es
    above = ap (λ o. cond (is_lt o) (e ∷ entries_above x.0 es) (entries_above x.0 es)) turned

-- all of a list are
pub all_gone : (r es xs : Entries) → AllByRecursion (λ e. AllByRecursion (Above e.0) xs) r → differences (r ++ es) xs ≡ map drop_change r ++ differences es xs
all_gone [] es xs h = refl
all_gone (e ∷ r) es xs h = first_gone e (r ++ es) xs h.0 ∙ ap (λ v. drop_change e ∷ v) (all_gone r es xs h.1)

-- ---- one run

text_run : (e : Key × Record) (r es xs : Entries) (d : List ℕ) → Sorted ((e ∷ r) ++ es) → AllByRecursion (λ x. AllByRecursion (Above x.0) xs) (e ∷ r)
    → differences ((e ∷ r) ++ es) (text_at e.0 d ++ xs) ≡ run_changes e r d ++ differences es xs
text_run e r es xs [] s h = all_gone (e ∷ r) es xs h
text_run e r es xs (b ∷ d) s h =
    let unless : List Change = put_unless (same_record (Text (b ∷ d)) e.1) (e.0, Text (b ∷ d)) in
    first_put e.0 e.1 (Text (b ∷ d)) (r ++ es) xs s ∙ ap (λ v. unless ++ v) (all_gone r es xs h.1) ∙ sym (append_assoc unless (map drop_change r) (differences es xs))

none_above : (es : Entries) → AllByRecursion (λ x. AllByRecursion (Above x.0) []) es
none_above [] = tt
none_above (e ∷ es) = (tt, none_above es)

-- by itself
pub run_alone : (e : Key × Record) (r : Entries) → Sorted (e ∷ r) → is_text_record (Some e.1) ≡ true → differences (e ∷ r) (joined_run (e ∷ r)) ≡ run_changes e r (texts_in (e ∷ r))
run_alone e r s t =
    let d : List ℕ = texts_in (e ∷ r) in
    ap (λ b. differences (e ∷ r) (cond b (text_at e.0 d) (e ∷ r))) t
    ∙ ap (λ v. differences v (text_at e.0 d)) (sym (append-nil (e ∷ r)))
    ∙ ap (differences ((e ∷ r) ++ [])) (sym (append-nil (text_at e.0 d)))
    ∙ text_run e r [] [] d (subst Sorted (sym (append-nil (e ∷ r))) s) (none_above (e ∷ r))
    ∙ append-nil (run_changes e r d)

same_record_itself : (r : Record) → same_record r r ≡ true
same_record_itself Document = refl
same_record_itself (Element n) = (bytes_eq-Decides n n).1 refl
same_record_itself (Text d) = (bytes_eq-Decides d d).1 refl
same_record_itself (Attr v) = (bytes_eq-Decides v v).1 refl

-- what both maps begin with doesn't differ
kept : (xs es fs : Entries) → Sorted (xs ++ es) → differences (xs ++ es) (xs ++ fs) ≡ differences es fs
kept [] es fs s = refl
kept (x ∷ xs) es fs s =
    first_put x.0 x.1 x.1 (xs ++ es) (xs ++ fs) s ∙ ap (λ b. put_unless b x ++ differences (xs ++ es) (xs ++ fs)) (same_record_itself x.1) ∙ kept xs es fs s.1

-- ---- one entry by itself

pub not_text : (r : Record) → ((d : List ℕ) → r ≡ Text d → ⊥) → is_text_record (Some r) ≡ false
not_text Document h = refl
not_text (Element n) h = refl
not_text (Text d) h = absurd (h d refl)
not_text (Attr v) h = refl

pub other_valid : (e : Key × Record) → is_text_record (Some e.1) ≡ false → AllByRecursion IsValidText (joined_run (e ∷ []))
other_valid e t = subst (λ b. AllByRecursion IsValidText (cond b (text_at e.0 (texts_in (e ∷ []))) (e ∷ []))) (sym t) (λ h. absurd (true≢false (sym h ∙ t)), tt)

pub other_alone : (e : Key × Record) → is_text_record (Some e.1) ≡ false → differences (e ∷ []) (joined_run (e ∷ [])) ≡ []
other_alone e t = ap (λ b. differences (e ∷ []) (cond b (text_at e.0 (texts_in (e ∷ []))) (e ∷ []))) t ∙ no_differences (e ∷ []) (tt, tt)

pub text_alone : (k : Key) (r : Record) (d : List ℕ) → r ≡ Text d → (length d == 0) ≡ false → differences ((k, r) ∷ []) (joined_run ((k, r) ∷ [])) ≡ []
text_alone k r d is h = ap (λ v. differences ((k, v) ∷ []) (joined_run ((k, v) ∷ []))) is ∙ by d h
  where
    by : (d : List ℕ) → (length d == 0) ≡ false → differences ((k, Text d) ∷ []) (joined_run ((k, Text d) ∷ [])) ≡ []
    by [] h = absurd (true≢false h)
    by (b ∷ d) h =
        run_alone (k, Text (b ∷ d)) [] (tt, tt) refl
        ∙ ap (run_changes (k, Text (b ∷ d)) []) (append-nil (b ∷ d))
        ∙ ap (λ t. put_unless t (k, Text (b ∷ d)) ++ []) (same_record_itself (Text (b ∷ d)))

-- before what it doesn't join
run_then : (e : Key × Record) (r ys : Entries) → Sorted ((e ∷ r) ++ ys) → IsRun (e ∷ r) → joins_first e ys ≡ false
    → differences ((e ∷ r) ++ ys) (joined ((e ∷ r) ++ ys)) ≡ differences (e ∷ r) (joined_run (e ∷ r)) ++ differences ys (joined ys)
run_then e r ys s one h = ap (differences ((e ∷ r) ++ ys)) (joined_before e r ys one h) ∙ by (is_text_record (Some e.1)) refl
  where
    first : Sorted (e ∷ r)
    first = sorted_first (e ∷ r) ys s

    rise : AllByRecursion (λ x. AllByRecursion (Above x.0) (joined ys)) (e ∷ r)
    rise = all_on (λ x. AllByRecursion (Above x.0) ys) (λ x. AllByRecursion (Above x.0) (joined ys)) (λ x g. all_joined (λ k. key_cmp x.0 k ≡ Less) ys g) (e ∷ r)
        (parts_rise (e ∷ r) ys s)

    by : (b : Bool) → is_text_record (Some e.1) ≡ b → differences ((e ∷ r) ++ ys) (joined_run (e ∷ r) ++ joined ys) ≡ differences (e ∷ r) (joined_run (e ∷ r)) ++ differences ys (joined ys)
    by true t =
        ap (λ b. differences ((e ∷ r) ++ ys) (cond b (text_at e.0 (texts_in (e ∷ r))) (e ∷ r) ++ joined ys)) t
        ∙ text_run e r ys (joined ys) (texts_in (e ∷ r)) s rise
        ∙ ap (λ v. v ++ differences ys (joined ys)) (sym (run_alone e r first t))
    by false t =
        ap (λ b. differences ((e ∷ r) ++ ys) (cond b (text_at e.0 (texts_in (e ∷ r))) (e ∷ r) ++ joined ys)) t
        ∙ kept (e ∷ r) ys (joined ys) s
        ∙ ap (λ v. v ++ differences ys (joined ys)) (sym (ap (λ b. differences (e ∷ r) (cond b (text_at e.0 (texts_in (e ∷ r))) (e ∷ r))) t ∙ no_differences (e ∷ r) first))

-- where its texts are valid, what is put is
pub run_puts : (r : Entries) → Sorted r → AllByRecursion IsValidText (joined_run r) → AllByRecursion PutsValidEntry (differences r (joined_run r))
run_puts [] s v = tt
run_puts (e ∷ r) s v = by (is_text_record (Some e.1)) refl
  where
    drops : (es : Entries) → AllByRecursion PutsValidEntry (map drop_change es)
    drops [] = tt
    drops (x ∷ es) = (tt, drops es)

    puts : (d : List ℕ) → AllByRecursion IsValidText (text_at e.0 d) → AllByRecursion PutsValidEntry (run_changes e r d)
    puts [] g = drops (e ∷ r)
    puts (b ∷ d) g = elim (same_record (Text (b ∷ d)) e.1) as (λ t. AllByRecursion PutsValidEntry (put_unless t (e.0, Text (b ∷ d)) ++ map drop_change r)) [
      | true ↦ drops r
      | false ↦ (g.0 refl, drops r)
    ]

    by : (b : Bool) → is_text_record (Some e.1) ≡ b → AllByRecursion PutsValidEntry (differences (e ∷ r) (joined_run (e ∷ r)))
    by true t = subst (AllByRecursion PutsValidEntry) (sym (run_alone e r s t)) (puts (texts_in (e ∷ r)) (subst (λ b. AllByRecursion IsValidText (cond b (text_at e.0 (texts_in (e ∷ r))) (e ∷ r))) t v))
    by false t = subst (AllByRecursion PutsValidEntry) (sym (ap (λ b. differences (e ∷ r) (cond b (text_at e.0 (texts_in (e ∷ r))) (e ∷ r))) t ∙ no_differences (e ∷ r) s)) tt

-- ---- all runs, one after another

-- the changes of all runs before the rest were made
pub record IsJoining (all rest : Entries) (out : List Change) : Type 0 where
  pub sorted : Sorted rest
  pub changes : differences all (joined all) ≡ out ++ differences rest (joined rest)
  pub fits : AllByRecursion IsValidText (joined all) → AllByRecursion IsValidText (joined rest)
  pub holds : AllByRecursion IsValidText (joined rest) → AllByRecursion IsValidText (joined all)
  pub puts : AllByRecursion PutsValidEntry out

pub begins : (all : Entries) → Sorted all → IsJoining all all []
begins all s = record { sorted = s; changes = refl; fits = λ v. v; holds = λ v. v; puts = tt }

-- the first run is sorted
pub run_sorted : (rest : Entries) → Sorted rest → Sorted (first_run rest)
run_sorted rest s = sorted_first (first_run rest) (behind_run rest) (subst Sorted (sym (run_and_rest rest)) s)

joined_cut : (rest : Entries) → joined rest ≡ joined_run (first_run rest) ++ joined (behind_run rest)
joined_cut [] = refl
joined_cut (e ∷ es) = ap joined (sym (run_and_rest (e ∷ es))) ∙ joined_before e (joining e es) (past_joining e es) (joining_all e es) (rest_apart e es)

differences_cut : (rest : Entries) → Sorted rest
    → differences rest (joined rest) ≡ differences (first_run rest) (joined_run (first_run rest)) ++ differences (behind_run rest) (joined (behind_run rest))
differences_cut [] s = refl
differences_cut (e ∷ es) s =
    ap (λ v. differences v (joined v)) (sym (run_and_rest (e ∷ es)))
    ∙ run_then e (joining e es) (past_joining e es) (subst Sorted (sym (run_and_rest (e ∷ es))) s) (joining_all e es) (rest_apart e es)

-- the first run of the rest is joined
pub goes : (all rest : Entries) (out new : List Change) → IsJoining all rest out → new ≡ out ++ differences (first_run rest) (joined_run (first_run rest))
    → AllByRecursion IsValidText (joined_run (first_run rest)) → IsJoining all (behind_run rest) new
goes all rest out new j is valid = record {
  sorted = sorted_behind (first_run rest) (behind_run rest) (subst Sorted (sym (run_and_rest rest)) j.sorted);
  changes =
      j.changes ∙ ap (λ v. out ++ v) (differences_cut rest j.sorted)
      ∙ sym (append_assoc out (differences (first_run rest) (joined_run (first_run rest))) (differences (behind_run rest) (joined (behind_run rest))))
      ∙ ap (λ v. v ++ differences (behind_run rest) (joined (behind_run rest))) (sym is);
  fits = λ v. all_behind IsValidText (joined_run (first_run rest)) (joined (behind_run rest)) (subst (AllByRecursion IsValidText) (joined_cut rest) (j.fits v));
  holds = λ v. j.holds (subst (AllByRecursion IsValidText) (sym (joined_cut rest)) (all_append IsValidText (joined_run (first_run rest)) (joined (behind_run rest)) valid v));
  puts = subst (AllByRecursion PutsValidEntry) (sym is)
      (all_append PutsValidEntry out (differences (first_run rest) (joined_run (first_run rest))) j.puts (run_puts (first_run rest) (run_sorted rest j.sorted) valid));
}

-- all entries fit only where those of the first run do
pub fails : (all rest : Entries) (out : List Change) → IsJoining all rest out → AllByRecursion IsValidText (joined all) → AllByRecursion IsValidText (joined_run (first_run rest))
fails all rest out j v = all_before IsValidText (joined_run (first_run rest)) (joined (behind_run rest)) (subst (AllByRecursion IsValidText) (joined_cut rest) (j.fits v))

-- nothing is left
pub ends : (all : Entries) (out : List Change) → IsJoining all [] out → out ≡ differences all (joined all)
ends all out j = sym (append-nil out) ∙ sym j.changes

-- ---- of one run, by what its function answers

-- a run of texts, by its first one and the others
pub into_changes : (run others : Entries) (k : Key) (r : Record) (d : List ℕ) → run ≡ (k, r) ∷ others → r ≡ Text d → Sorted run
    → run_changes (k, Text d) others (d ++ texts_in others) ≡ differences run (joined_run run)
into_changes run others k r d whole is s =
    let all : run ≡ (k, Text d) ∷ others = whole ∙ ap (λ v. (k, v) ∷ others) is in
    sym (run_alone (k, Text d) others (subst Sorted all s) refl) ∙ ap (λ v. differences v (joined_run v)) (sym all)

pub if_ok_on : {A E : Type 0} (P Q : A → Type 0) (result : Result A E) → ((a : A) → P a → Q a) → IfOk result P → IfOk result Q
if_ok_on P Q (Ok a) follows h = follows a h
if_ok_on P Q (Err e) follows h = tt
