-- What is kept of the catalogue that entries give, one after another.
use Rattle.std.proofs.Common.{◌≡◌, ℕ, zero, suc, ◌==◌, Bool, true, false, not, cond, ◌&&◌, List, [], ◌∷◌, ◌++◌, length, Option, Some, None, unwrap_or, is_some, Ordering, Less, Equal, Greater, is_eq, nat_cmp, refl, sym, ap, subst, ◌∙◌, arith, true≢false}
use Rattle.std.proofs.lemmas.Bool.Decides.{nat_tests}
use Rattle.std.proofs.lemmas.List.{append-nil}
use Rattle.std.specs.BTreeMap.{BTreeMap, get as get_in, is_at}
use Rattle.std.specs.Cmp.Lexicographic.{slice_cmp, nat_list_cmp_total}
use Rattle.std.specs.List.{AllByRecursion}
use Rattle.std.specs.Map.{lookup}
use Rattle.std.specs.Ordering.{ordering_reverse}
use Rattle.dewey_labels.specs.Labels.{IsLabel, Label, root}
use Rattle.dewey_labels.specs.Lists.{is_empty}
use Rattle.dewey_labels.proofs.Sides.{under_before}
use Rattle.tree_model.specs.Entries.{Below, Entries, Sorted, get}
use Rattle.tree_model.specs.Keys.{key_at, node_key}
use Rattle.tree_model.specs.Names.{Name, is_name}
use Rattle.tree_model.specs.Places.{is_root}
use Rattle.tree_model.specs.StoredTree.{catalogue_fits, catalogue_in, has_document, is_document_record, label_in, names_document, with_label}
use Rattle.tree_model.specs.Tree.{Catalogue}
use Rattle.tree_model.specs.ValidTrees.{entries_with, same_label}
use Rattle.tree_model.specs.declared.key.Key.{Key}
use Rattle.tree_model.specs.declared.record.Record.{Record}
use Rattle.tree_model.proofs.Entries.{sorted_below}
use Rattle.tree_model.proofs.Keys.{list_tied}
use Rattle.tree_model.proofs.StoredCatalogues.{NotRoot, catalogue_before, later_not_below, not_root_under, root_is, same_label_is}
use Rattle.tree_rules.specs.inside.Named.{HasNamed, Names, all_give_labels, gives_label, kept_name, whether_one}
use Rattle.tree_rules.proofs.PathLaws.{same_itself}
use Rattle.tree_rules.proofs.TakenLaws.{found_all, get_absent, get_attribute, get_node}

-- ---- one label more

-- the place of an entry among others doesn't matter
pub one_entry_more : (l : Label) (cat : Catalogue) (c : Name × Label) → entries_with l (cat ++ (c ∷ [])) ≡ cond (same_label l c.1) (suc (entries_with l cat)) (entries_with l cat)
one_entry_more l [] c = refl
one_entry_more l (d ∷ cat) c =
    ap (λ (n : ℕ). cond (same_label l d.1) (suc n) n) (one_entry_more l cat c) ∙ both (same_label l d.1) (same_label l c.1) (entries_with l cat)
  where
    both : (a b : Bool) (n : ℕ) → cond a (suc (cond b (suc n) n)) (cond b (suc n) n) ≡ cond b (suc (cond a (suc n) n)) (cond a (suc n) n)
    both true true n = refl
    both true false n = refl
    both false true n = refl
    both false false n = refl

-- one alone
pub one_alone : (n : ℕ) → unwrap_or (whether_one n) false ≡ (n == 1)
one_alone zero = refl
one_alone (suc zero) = refl
one_alone (suc (suc n)) = grind (arith, nat_tests)

first_of_them : (n : ℕ) → Some (not (is_some (whether_one n))) ≡ whether_one (suc n)
first_of_them zero = refl
first_of_them (suc zero) = refl
first_of_them (suc (suc n)) = refl

turned : (l m : Label) → is_eq (slice_cmp nat_cmp l m) ≡ is_eq (slice_cmp nat_cmp m l)
turned l m = ap is_eq (nat_list_cmp_total.antisymm l m) ∙ of_reverse (slice_cmp nat_cmp m l)
  where
    of_reverse : (o : Ordering) → is_eq (ordering_reverse o) ≡ is_eq o
    of_reverse Less = refl
    of_reverse Equal = refl
    of_reverse Greater = refl

eq_is_equal : (o : Ordering) → is_eq o ≡ true → o ≡ Equal
eq_is_equal Less h = cc
eq_is_equal Equal h = refl
eq_is_equal Greater h = cc

-- a map that takes one label more
pub one_name_more : (named new : BTreeMap Label Bool) (cat : Catalogue) (name : Name) (label : Label) (first : Bool) → Names named cat
    → first ≡ not (is_some (get_in (slice_cmp nat_cmp) named label))
    → ((l : Label) → get_in (slice_cmp nat_cmp) new l ≡ cond (is_eq (slice_cmp nat_cmp label l)) (Some first) (get_in (slice_cmp nat_cmp) named l))
    → Names new (cat ++ ((name, label) ∷ []))
one_name_more named new cat name label first names is_first updates l =
    updates l ∙ by_test (is_eq (slice_cmp nat_cmp label l)) refl ∙ ap whether_one (sym (one_entry_more l cat (name, label)))
  where
    flag : Some first ≡ whether_one (suc (entries_with label cat))
    flag = ap (λ (b : Bool). Some b) (is_first ∙ ap (λ (o : Option Bool). not (is_some o)) (names label)) ∙ first_of_them (entries_with label cat)

    by_test : (b : Bool) → is_eq (slice_cmp nat_cmp label l) ≡ b → cond b (Some first) (get_in (slice_cmp nat_cmp) named l) ≡ whether_one (cond (same_label l label) (suc (entries_with l cat)) (entries_with l cat))
    by_test true q =
        let same : label ≡ l = list_tied label l (eq_is_equal (slice_cmp nat_cmp label l) q) in
        flag ∙ ap (λ (m : Label). whether_one (suc (entries_with m cat))) same
        ∙ ap (λ (b : Bool). whether_one (cond b (suc (entries_with l cat)) (entries_with l cat))) (sym (turned l label ∙ q))
    by_test false q = names l ∙ ap (λ (b : Bool). whether_one (cond b (suc (entries_with l cat)) (entries_with l cat))) (sym (turned l label ∙ q))

-- ---- an entry of the root

with_more : (name : Name) (o : Option Label) (a b : Catalogue) → with_label name o (a ++ b) ≡ with_label name o a ++ b
with_more name None a b = refl
with_more name (Some l) a b = refl

catalogue_more : (es : Entries) (x : Key × Record) → is_root x.0.label ≡ true → catalogue_in (es ++ x ∷ []) ≡ catalogue_in es ++ with_label x.0.name (label_in x.1) []
catalogue_more [] x h = ap (λ (b : Bool). cond b (with_label x.0.name (label_in x.1) []) []) h
catalogue_more (e ∷ es) x h =
    let more : Catalogue = with_label x.0.name (label_in x.1) [] in
    ap (λ (c : Catalogue). cond (is_root e.0.label) (with_label e.0.name (label_in e.1) c) c) (catalogue_more es x h) ∙ by_test (is_root e.0.label) (catalogue_in es) more
  where
    by_test : (b : Bool) (c more : Catalogue) → cond b (with_label e.0.name (label_in e.1) (c ++ more)) (c ++ more) ≡ cond b (with_label e.0.name (label_in e.1) c) c ++ more
    by_test true c more = with_more e.0.name (label_in e.1) c more
    by_test false c more = refl

and_true : (b : Bool) → (b && true) ≡ b
and_true true = refl
and_true false = refl

and_on : (a b c : Bool) → (a && (b && c)) ≡ ((a && b) && c)
and_on true b c = refl
and_on false b c = refl

pub labels_more : (es : Entries) (x : Key × Record) → is_root x.0.label ≡ true → all_give_labels (es ++ x ∷ []) ≡ (all_give_labels es && gives_label x)
labels_more [] x h = ap (λ (b : Bool). cond b (gives_label x && true) true) h ∙ and_true (gives_label x)
labels_more (e ∷ es) x h = ap (λ (c : Bool). cond (is_root e.0.label) (gives_label e && c) c) (labels_more es x h) ∙ by_test (is_root e.0.label)
  where
    by_test : (b : Bool) → cond b (gives_label e && (all_give_labels es && gives_label x)) (all_give_labels es && gives_label x) ≡ (cond b (gives_label e && all_give_labels es) (all_give_labels es) && gives_label x)
    by_test true = and_on (gives_label e) (all_give_labels es) (gives_label x)
    by_test false = refl

pub labels_other : (es : Entries) (x : Key × Record) → NotRoot x.0.label → all_give_labels (es ++ x ∷ []) ≡ all_give_labels es
labels_other [] x h = ap (λ (b : Bool). cond b (gives_label x && true) true) h
labels_other (e ∷ es) x h = ap (λ (c : Bool). cond (is_root e.0.label) (gives_label e && c) c) (labels_other es x h)

catalogue_other : (es : Entries) (x : Key × Record) → NotRoot x.0.label → catalogue_in (es ++ x ∷ []) ≡ catalogue_in es
catalogue_other es x h = catalogue_before es (x ∷ []) (h, tt)

-- before an entry of the root stands no node but the root
before_root : (es : Entries) (x : Key × Record) (l : Label) (r : Record) → Sorted (es ++ x ∷ []) → AllByRecursion (λ e. IsLabel e.0.label) es → is_root x.0.label ≡ true → get (node_key l) es ≡ Some r → is_root l ≡ true
before_root es x l r s labels h is = elim (is_root l) as (λ b. is_root l ≡ b → b ≡ true) [
  | true ↦ λ _. refl
  | false ↦ λ q.
      let label : IsLabel l = found_all (λ e. IsLabel e.0.label) (node_key l) r es labels is in
      let low : Below x.0 (node_key l, r) = found_all (Below x.0) (node_key l) r es (sorted_below es [] x s) is in
      absurd (later_not_below root x.0.name (node_key l, r) (under_before root l (not_root_under l label.0 q)) (subst (λ (m : Label). Below (key_at m x.0.name) (node_key l, r)) (root_is x.0.label h) low))
] refl

-- so no document either
no_document : (es : Entries) (x : Key × Record) (l : Label) → Sorted (es ++ x ∷ []) → AllByRecursion (λ e. IsLabel e.0.label) es → is_root x.0.label ≡ true
    → ((l : Label) (r : Record) → get (node_key l) es ≡ Some r → is_root l ≡ false) → has_document es (Some l) ≡ false
no_document es x l s labels h inner = elim (get (node_key l) es) as (λ (o : Option Record). get (node_key l) es ≡ o → is_document_record o ≡ false) [
  | None ↦ λ _. refl
  | Some r ↦ λ q. absurd (true≢false (sym (before_root es x l r s labels h q) ∙ inner l r q))
] refl

more_names : (named new : BTreeMap Label Bool) (cat : Catalogue) (name : Name) (o : Option Label) → Names named cat → HasNamed o named new → Names new (cat ++ with_label name o [])
more_names named new cat name None names same l = ap (λ (m : BTreeMap Label Bool). get_in (slice_cmp nat_cmp) m l) same ∙ names l ∙ ap (λ (c : Catalogue). whether_one (entries_with l c)) (sym (append-nil cat))
more_names named new cat name (Some label) names more l = one_name_more named new cat name label (not (is_some (get_in (slice_cmp nat_cmp) named label))) names refl more l

-- behind an entry of the root
pub names_root : (named new : BTreeMap Label Bool) (es : Entries) (x : Key × Record) → Sorted (es ++ x ∷ []) → AllByRecursion (λ e. IsLabel e.0.label) es → is_root x.0.label ≡ true → is_empty x.0.name ≡ false
    → ((l : Label) (r : Record) → get (node_key l) es ≡ Some r → is_root l ≡ false) → ((l : Label) → get_in (slice_cmp nat_cmp) named l ≡ kept_name l es) → HasNamed (label_in x.1) named new
    → (l : Label) → get_in (slice_cmp nat_cmp) new l ≡ kept_name l (es ++ x ∷ [])
names_root named new es x s labels h empty inner names more l =
    let none : (m : Label) → has_document es (Some m) ≡ false = λ m. no_document es x m s labels h inner in
    let so_far : Names named (catalogue_in es) = λ m. names m ∙ ap (λ (b : Bool). cond b None (whether_one (entries_with m (catalogue_in es)))) (none m) in
    more_names named new (catalogue_in es) x.0.name (label_in x.1) so_far more l
    ∙ ap (λ (c : Catalogue). whether_one (entries_with l c)) (sym (catalogue_more es x h))
    ∙ sym (ap (λ (b : Bool). cond b None (whether_one (entries_with l (catalogue_in (es ++ x ∷ []))))) (ap is_document_record (get_attribute l x es empty) ∙ none l))

-- behind another attribute
pub names_attribute : (es : Entries) (x : Key × Record) (l : Label) → NotRoot x.0.label → is_empty x.0.name ≡ false → kept_name l es ≡ kept_name l (es ++ x ∷ [])
names_attribute es x l h empty =
    ap (λ (c : Catalogue). cond (has_document es (Some l)) None (whether_one (entries_with l c))) (sym (catalogue_other es x h))
    ∙ sym (ap (λ (o : Option Record). cond (is_document_record o) None (whether_one (entries_with l (catalogue_in (es ++ x ∷ []))))) (get_attribute l x es empty))

-- behind a node
pub names_node : (named new : BTreeMap Label Bool) (es : Entries) (l : Label) (r : Record) → Sorted (es ++ (node_key l, r) ∷ []) → NotRoot l → ((m : Label) → get_in (slice_cmp nat_cmp) named m ≡ kept_name m es)
    → ((m : Label) → get_in (slice_cmp nat_cmp) new m ≡ cond (is_document_record (Some r) && same_label l m) None (get_in (slice_cmp nat_cmp) named m))
    → (m : Label) → get_in (slice_cmp nat_cmp) new m ≡ kept_name m (es ++ (node_key l, r) ∷ [])
names_node named new es l r s h names taken m =
    taken m ∙ by_test (same_label m l) refl
    ∙ ap (λ (c : Catalogue). cond (is_document_record (cond (same_label m l) (Some r) (get (node_key m) es))) None (whether_one (entries_with m c))) (sym (catalogue_other es (node_key l, r) h))
    ∙ sym (ap (λ (o : Option Record). cond (is_document_record o) None (whether_one (entries_with m (catalogue_in (es ++ (node_key l, r) ∷ []))))) (get_node m l r es s))
  where
    here : (d : Bool) → m ≡ l → cond (d && true) None (get_in (slice_cmp nat_cmp) named m) ≡ cond d None (whether_one (entries_with m (catalogue_in es)))
    here true same = refl
    here false same = names m ∙ ap (λ (o : Option Record). cond (is_document_record o) None (whether_one (entries_with m (catalogue_in es)))) (ap (λ (k : Label). get (node_key k) es) same ∙ get_absent es (node_key l, r) s)

    apart : (d : Bool) → cond (d && false) None (get_in (slice_cmp nat_cmp) named m) ≡ get_in (slice_cmp nat_cmp) named m
    apart true = refl
    apart false = refl

    by_test : (b : Bool) → same_label m l ≡ b → cond (is_document_record (Some r) && same_label l m) None (get_in (slice_cmp nat_cmp) named m)
        ≡ cond (is_document_record (cond b (Some r) (get (node_key m) es))) None (whether_one (entries_with m (catalogue_in es)))
    by_test true q =
        ap (λ (b : Bool). cond (is_document_record (Some r) && b) None (get_in (slice_cmp nat_cmp) named m)) (turned l m ∙ q) ∙ here (is_document_record (Some r)) (same_label_is m l q)
    by_test false q =
        ap (λ (b : Bool). cond (is_document_record (Some r) && b) None (get_in (slice_cmp nat_cmp) named m)) (turned l m ∙ q) ∙ apart (is_document_record (Some r)) ∙ names m

-- whether a label that has no document yet is named once
pub named_once : (named : BTreeMap Label Bool) (es : Entries) (l : Label) (r : Record) → Sorted (es ++ (node_key l, r) ∷ []) → ((m : Label) → get_in (slice_cmp nat_cmp) named m ≡ kept_name m es)
    → unwrap_or (get_in (slice_cmp nat_cmp) named l) false ≡ (entries_with l (catalogue_in es) == 1)
named_once named es l r s names =
    ap (λ (o : Option Bool). unwrap_or o false) (names l ∙ ap (λ (o : Option Record). cond (is_document_record o) None (whether_one (entries_with l (catalogue_in es)))) (get_absent es (node_key l, r) s))
    ∙ one_alone (entries_with l (catalogue_in es))

-- ---- the whole catalogue

abbrev AllFound : Entries → Entries → Type 0
AllFound all es = (l : Label) → has_document all (Some l) ≡ false → entries_with l (catalogue_in es) ≡ 0

none_with : (l : Label) (c : Name × Label) (cat : Catalogue) → entries_with l (c ∷ cat) ≡ 0 → entries_with l cat ≡ 0
none_with l c cat h = elim (same_label l c.1) as (λ b. cond b (suc (entries_with l cat)) (entries_with l cat) ≡ 0 → entries_with l cat ≡ 0) [
  | true ↦ λ g. cc
  | false ↦ λ g. g
] h

found_then : (all : Entries) (l : Label) (cat : Catalogue) (name : Name) → (has_document all (Some l) ≡ false → entries_with l ((name, l) ∷ cat) ≡ 0) → has_document all (Some l) ≡ true
found_then all l cat name h = elim (has_document all (Some l)) as (λ b. has_document all (Some l) ≡ b → b ≡ true) [
  | true ↦ λ _. refl
  | false ↦ λ q. let clash : suc (entries_with l cat) ≡ 0 = sym (ap (λ (b : Bool). cond b (suc (entries_with l cat)) (entries_with l cat)) (same_itself l)) ∙ h q in cc
] refl

-- it fits where each of its entries gives a label, and each label has its document
one_fits : (all es : Entries) (name : Name) (o : Option Label) (n a : Bool) → ((l : Label) → has_document all (Some l) ≡ false → entries_with l (with_label name o (catalogue_in es)) ≡ 0)
    → (AllFound all es → a ≡ true → catalogue_fits all es ≡ true) → ((n && is_some o) && a) ≡ true → ((n && has_document all o) && catalogue_fits all es) ≡ true
one_fits all es name o false a f more g = cc
one_fits all es name None true a f more g = cc
one_fits all es name (Some l) true false f more g = cc
one_fits all es name (Some l) true true f more g = λ i. found_then all l (catalogue_in es) name (f l) i && more (λ m none. none_with m (name, l) (catalogue_in es) (f m none)) refl i

all_fit : (all es : Entries) → AllFound all es → all_give_labels es ≡ true → catalogue_fits all es ≡ true
all_fit all [] found gives = refl
all_fit all (e ∷ es) found gives = elim (is_root e.0.label) as (λ b. (((l : Label) → has_document all (Some l) ≡ false → entries_with l (cond b (with_label e.0.name (label_in e.1) (catalogue_in es)) (catalogue_in es)) ≡ 0)
    → cond b (gives_label e && all_give_labels es) (all_give_labels es) ≡ true → cond b (names_document all e && catalogue_fits all es) (catalogue_fits all es) ≡ true)) [
      | true ↦ λ f g. one_fits all es e.0.name (label_in e.1) (is_name e.0.name) (all_give_labels es) f (λ more gives. all_fit all es more gives) g
      | false ↦ λ f g. all_fit all es f g
    ] found gives

-- and there alone
one_gives : (all : Entries) (o : Option Label) (n c a : Bool) → (c ≡ true → a ≡ true) → ((n && has_document all o) && c) ≡ true → ((n && is_some o) && a) ≡ true
one_gives all o false c a more g = cc
one_gives all None true c a more g = cc
one_gives all (Some l) true c a more g = more (second (has_document all (Some l)) c g)
  where
    second : (p q : Bool) → (p && q) ≡ true → q ≡ true
    second true q k = k
    second false q k = cc

fit_gives : (all es : Entries) → catalogue_fits all es ≡ true → all_give_labels es ≡ true
fit_gives all [] h = refl
fit_gives all (e ∷ es) h = elim (is_root e.0.label) as (λ b. cond b (names_document all e && catalogue_fits all es) (catalogue_fits all es) ≡ true → cond b (gives_label e && all_give_labels es) (all_give_labels es) ≡ true) [
  | true ↦ λ g. one_gives all (label_in e.1) (is_name e.0.name) (catalogue_fits all es) (all_give_labels es) (λ fits. fit_gives all es fits) g
  | false ↦ λ g. fit_gives all es g
] h

-- a label without a document isn't among them
without : (all : Entries) (l m : Label) (name : Name) (cat : Catalogue) (d c : Bool) → has_document all (Some l) ≡ false → d ≡ has_document all (Some m) → (c ≡ true → entries_with l cat ≡ 0) → (d && c) ≡ true → entries_with l ((name, m) ∷ cat) ≡ 0
without all l m name cat false c none found more g = cc
without all l m name cat true false none found more g = cc
without all l m name cat true true none found more g = elim (same_label l m) as (λ b. same_label l m ≡ b → cond b (suc (entries_with l cat)) (entries_with l cat) ≡ 0) [
  | true ↦ λ q. absurd (true≢false (found ∙ ap (λ (k : Label). has_document all (Some k)) (sym (same_label_is l m q)) ∙ none))
  | false ↦ λ _. more refl
] refl

one_found : (all : Entries) (l : Label) (name : Name) (cat : Catalogue) (o : Option Label) (n c : Bool) → has_document all (Some l) ≡ false → (c ≡ true → entries_with l cat ≡ 0)
    → ((n && has_document all o) && c) ≡ true → entries_with l (with_label name o cat) ≡ 0
one_found all l name cat o false c none more g = cc
one_found all l name cat None true c none more g = cc
one_found all l name cat (Some m) true c none more g = without all l m name cat (has_document all (Some m)) c none refl more g

fit_found : (all es : Entries) → catalogue_fits all es ≡ true → AllFound all es
fit_found all [] h l none = refl
fit_found all (e ∷ es) h l none = elim (is_root e.0.label) as (λ b. cond b (names_document all e && catalogue_fits all es) (catalogue_fits all es) ≡ true
    → entries_with l (cond b (with_label e.0.name (label_in e.1) (catalogue_in es)) (catalogue_in es)) ≡ 0) [
      | true ↦ λ g. one_found all l e.0.name (catalogue_in es) (label_in e.1) (is_name e.0.name) (catalogue_fits all es) none (λ fits. fit_found all es fits l none) g
      | false ↦ λ g. fit_found all es g l none
    ] h

none_of : (n : ℕ) → whether_one n ≡ None → n ≡ 0
none_of zero h = refl
none_of (suc zero) h = cc
none_of (suc (suc n)) h = cc

-- nothing is left of it
empty_then : (named : BTreeMap Label Bool) (l : Label) → length named.entries ≡ 0 → get_in (slice_cmp nat_cmp) named l ≡ None
empty_then named l h = by_entries named.entries h
  where
    by_entries : (ns : List (Label × Bool)) → length ns ≡ 0 → lookup (is_at (slice_cmp nat_cmp l)) ns ≡ None
    by_entries [] g = refl
    by_entries (n ∷ ns) g = let clash : ⊥ = omega (arith, g) in absurd clash

none_left : (named : BTreeMap Label Bool) → ((l : Label) → get_in (slice_cmp nat_cmp) named l ≡ None) → length named.entries ≡ 0
none_left named h = by_entries named.entries (λ l. h l)
  where
    by_entries : (ns : List (Label × Bool)) → ((l : Label) → lookup (is_at (slice_cmp nat_cmp l)) ns ≡ None) → length ns ≡ 0
    by_entries [] g = refl
    by_entries (n ∷ ns) g =
        let clash : Some n.1 ≡ None = sym (ap (λ (b : Bool). cond b (Some n.1) (lookup (is_at (slice_cmp nat_cmp n.0)) ns)) (same_itself n.0)) ∙ g n.0 in cc

pub fits_whole : (named : BTreeMap Label Bool) (es : Entries) → ((l : Label) → get_in (slice_cmp nat_cmp) named l ≡ kept_name l es) → all_give_labels es ≡ true → length named.entries ≡ 0 → catalogue_fits es es ≡ true
fits_whole named es names gives empty = all_fit es es
    (λ l none. none_of (entries_with l (catalogue_in es)) (sym (names l ∙ ap (λ (b : Bool). cond b None (whether_one (entries_with l (catalogue_in es)))) none) ∙ empty_then named l empty))
    gives

pub whole_gives : (es : Entries) → catalogue_fits es es ≡ true → all_give_labels es ≡ true
whole_gives es h = fit_gives es es h

pub whole_empties : (named : BTreeMap Label Bool) (es : Entries) → ((l : Label) → get_in (slice_cmp nat_cmp) named l ≡ kept_name l es) → catalogue_fits es es ≡ true → length named.entries ≡ 0
whole_empties named es names h = none_left named (λ l. names l ∙ by_test l (has_document es (Some l)) refl)
  where
    by_test : (l : Label) (b : Bool) → has_document es (Some l) ≡ b → cond b None (whether_one (entries_with l (catalogue_in es))) ≡ None
    by_test l true q = refl
    by_test l false q = ap whether_one (fit_found es es h l q)
