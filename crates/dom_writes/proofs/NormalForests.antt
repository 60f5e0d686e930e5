-- The entries of a row of nodes, joined, are those of the row with its texts joined.
use Rattle.std.proofs.Common.{◌≡◌, ◌<◌, ◌+◌, ◌==◌, ◌&&◌, ℕ, true, false, List, [], ◌∷◌, ◌++◌, map, Option, Some, refl, sym, ap, ◌∙◌, append_assoc, append-nil, arith}
use Rattle.std.proofs.lemmas.Bool.Decides.{nat_tests}
use Rattle.std.specs.List.{AllByRecursion}
use Rattle.dewey_labels.specs.Labels.{Label, is_label, level}
use Rattle.dewey_labels.proofs.Labels.{child_label, level_of_child}
use Rattle.tree_model.specs.declared.key.Key.{Key}
use Rattle.tree_model.specs.declared.record.Record.{Record}
use Rattle.tree_model.specs.declared.record.Record.TheVariants.{Attr, Document, Element, Text}
use Rattle.tree_model.specs.Entries.{Entries}
use Rattle.tree_model.specs.Keys.{node_key}
use Rattle.tree_model.specs.NodeKinds.{is_text_node, is_text_record}
use Rattle.tree_model.specs.Texts.{join_text, normal}
use Rattle.tree_model.specs.Tree.{Attributes, Forest, none, node, attr_entry, own, entries_of}
use Rattle.tree_model.specs.ValidTrees.{KeysRise, KindsAllowed}
use Rattle.tree_model.proofs.Lists.{all_append, all_on}
use Rattle.dom_reads.specs.inside.Gathered.{texts_in}
use Rattle.dom_writes.specs.inside.NormalTexts.{joins, joins_first, IsRun, text_at, joined}
use Rattle.dom_writes.proofs.NormalRuns.{joined_before, joined_apart, joined_no_text}

-- ---- the texts that head a row, and the row behind them

abbrev lead_data : Forest → List ℕ
lead_data none = []
lead_data (node l (Text d) ats ch nx) = d ++ lead_data nx
lead_data (node l r ats ch nx) = []

abbrev lead_entries : Forest → Entries
lead_entries none = []
lead_entries (node l (Text d) ats ch nx) = (node_key l, Text d) ∷ lead_entries nx
lead_entries (node l r ats ch nx) = []

abbrev past_lead : Forest → Forest
past_lead none = none
past_lead (node l (Text d) ats ch nx) = past_lead nx
past_lead (node l r ats ch nx) = node l r ats ch nx

-- a text before a row, if it has data
abbrev led_by : Label → List ℕ → Forest → Forest
led_by l [] g = g
led_by l (b ∷ d) g = node l (Text (b ∷ d)) [] none g

texts_of_lead : (f : Forest) → texts_in (lead_entries f) ≡ lead_data f
texts_of_lead none = refl
texts_of_lead (node l (Text d) ats ch nx) = ap (λ v. d ++ v) (texts_of_lead nx)
texts_of_lead (node l Document ats ch nx) = refl
texts_of_lead (node l (Element n) ats ch nx) = refl
texts_of_lead (node l (Attr v) ats ch nx) = refl

entries_of_led : (l : Label) (d : List ℕ) (g : Forest) → entries_of (led_by l d g) ≡ text_at (node_key l) d ++ entries_of g
entries_of_led l [] g = refl
entries_of_led l (b ∷ d) g = refl

-- ---- texts joined into the first one

no_text_past : (f : Forest) → is_text_node (normal (past_lead f)) ≡ false
no_text_past none = refl
no_text_past (node l (Text d) ats ch nx) = no_text_past nx
no_text_past (node l Document ats ch nx) = refl
no_text_past (node l (Element n) ats ch nx) = refl
no_text_past (node l (Attr v) ats ch nx) = refl

-- before what is no text, one stays by itself
led_alone : (l : Label) (d : List ℕ) (g : Forest) → is_text_node g ≡ false → join_text l d g ≡ led_by l d g
led_alone l [] none h = refl
led_alone l (b ∷ d) none h = refl
led_alone l d (node m (Text e) ats ch nx) h = cc
led_alone l [] (node m Document ats ch nx) h = refl
led_alone l (b ∷ d) (node m Document ats ch nx) h = refl
led_alone l [] (node m (Element n) ats ch nx) h = refl
led_alone l (b ∷ d) (node m (Element n) ats ch nx) h = refl
led_alone l [] (node m (Attr v) ats ch nx) h = refl
led_alone l (b ∷ d) (node m (Attr v) ats ch nx) h = refl

-- a text joined to a led row
led_twice : (l m : Label) (d e : List ℕ) (g : Forest) → is_text_node g ≡ false → join_text l d (led_by m e g) ≡ led_by l (d ++ e) g
led_twice l m d [] g h = led_alone l d g h ∙ ap (λ v. led_by l v g) (sym (append-nil d))
led_twice l m [] (b ∷ e) g h = refl
led_twice l m (a ∷ d) (b ∷ e) g h = refl

leads : (l : Label) (d : List ℕ) (nx : Forest) → join_text l d (normal nx) ≡ led_by l (d ++ lead_data nx) (normal (past_lead nx))
leads l d none = led_alone l d none refl ∙ ap (λ v. led_by l v none) (sym (append-nil d))
leads l d (node m (Text e) ats ch nx) = ap (join_text l d) (leads m e nx) ∙ led_twice l m d (e ++ lead_data nx) (normal (past_lead nx)) (no_text_past nx)
leads l d (node m Document ats ch nx) = led_alone l d (normal (node m Document ats ch nx)) refl ∙ ap (λ v. led_by l v (normal (node m Document ats ch nx))) (sym (append-nil d))
leads l d (node m (Element n) ats ch nx) = led_alone l d (normal (node m (Element n) ats ch nx)) refl ∙ ap (λ v. led_by l v (normal (node m (Element n) ats ch nx))) (sym (append-nil d))
leads l d (node m (Attr v) ats ch nx) = led_alone l d (normal (node m (Attr v) ats ch nx)) refl ∙ ap (λ w. led_by l w (normal (node m (Attr v) ats ch nx))) (sym (append-nil d))

-- ---- the entries of a row

-- texts have neither attributes nor children
lead_first : (q : Option Record) (f : Forest) → KindsAllowed q f → entries_of f ≡ lead_entries f ++ entries_of (past_lead f)
lead_first q none k = refl
lead_first q (node l (Text d) [] none nx) k = ap (λ v. (node_key l, Text d) ∷ v) (lead_first q nx k.4)
lead_first q (node l (Text d) [] (node l2 r2 ats2 ch2 nx2) nx) k = let no : false ≡ true = k.3.0 in cc
lead_first q (node l (Text d) (x ∷ ats) ch nx) k = let no : false ≡ true = k.2 in cc
lead_first q (node l Document ats ch nx) k = refl
lead_first q (node l (Element n) ats ch nx) k = refl
lead_first q (node l (Attr v) ats ch nx) k = refl

-- a text on a level
record IsTextOn (n : ℕ) (e : Key × Record) : Type 0 where
  text : is_text_record (Some e.1) ≡ true
  here : level e.0.label ≡ n

lead_on_level : (p b : Label) (f : Forest) → is_label p ≡ true → KeysRise p b f → AllByRecursion (IsTextOn (level p + 1)) (lead_entries f)
lead_on_level p b none h w = tt
lead_on_level p b (node l (Text d) ats ch nx) h w = (record { text = refl; here = level_of_child p l h w.0 }, lead_on_level p l nx h w.5)
lead_on_level p b (node l Document ats ch nx) h w = tt
lead_on_level p b (node l (Element n) ats ch nx) h w = tt
lead_on_level p b (node l (Attr v) ats ch nx) h w = tt

same_level : (a b : ℕ) → a ≡ b → (a == b) ≡ true
same_level a b e = grind (arith, nat_tests)

other_level : (a b : ℕ) → b < a → (a == b) ≡ false
other_level a b h = grind (arith, nat_tests)

one_run : (p l : Label) (d : List ℕ) (es : Entries) → level l ≡ level p + 1 → AllByRecursion (IsTextOn (level p + 1)) es → IsRun ((node_key l, Text d) ∷ es)
one_run p l d es e h = all_on (IsTextOn (level p + 1)) (λ x. joins (node_key l, Text d) x ≡ true)
    (λ x g. (λ i. g.text i && (level l == level x.0.label)) ∙ same_level (level l) (level x.0.label) (e ∙ sym g.here)) es h

-- behind them no text comes first
none_joins : (x : Key × Record) (f : Forest) → joins_first x (entries_of (past_lead f)) ≡ false
none_joins x none = refl
none_joins x (node l (Text d) ats ch nx) = none_joins x nx
none_joins x (node l Document ats ch nx) = elim (is_text_record (Some x.1)) as (λ b. ((b && false) && (level x.0.label == level l)) ≡ false) [ true ↦ refl | false ↦ refl ]
none_joins x (node l (Element n) ats ch nx) = elim (is_text_record (Some x.1)) as (λ b. ((b && false) && (level x.0.label == level l)) ≡ false) [ true ↦ refl | false ↦ refl ]
none_joins x (node l (Attr v) ats ch nx) = elim (is_text_record (Some x.1)) as (λ b. ((b && false) && (level x.0.label == level l)) ≡ false) [ true ↦ refl | false ↦ refl ]

-- attributes stay
joined_attributes : (l : Label) (ats : Attributes) (es : Entries) → joined (map (attr_entry l) ats ++ es) ≡ map (attr_entry l) ats ++ joined es
joined_attributes l [] es = refl
joined_attributes l (a ∷ ats) es = joined_no_text (attr_entry l a) (map (attr_entry l) ats ++ es) refl ∙ ap (λ v. attr_entry l a ∷ v) (joined_attributes l ats es)

-- all of a row stands deeper than its parent
deeper : (p b : Label) (f : Forest) → is_label p ≡ true → KeysRise p b f → AllByRecursion (λ e. level p < level e.0.label) (entries_of f)
deeper p b none h w = tt
deeper p b (node l r ats ch nx) h w =
    let one = level_of_child p l h w.0 in
    all_append (λ e. level p < level e.0.label) (own l r ats ++ entries_of ch) (entries_of nx)
    (all_append (λ e. level p < level e.0.label) (own l r ats) (entries_of ch) (omega (arith, one), attributes ats)
    (all_on (λ e. level l < level e.0.label) (λ e. level p < level e.0.label) (λ e g. omega (arith, one, g)) (entries_of ch) (deeper l l ch (child_label p l h w.0) w.4)))
    (deeper p l nx h w.5)
  where
    attributes : (ats : Attributes) → AllByRecursion (λ e. level p < level e.0.label) (map (attr_entry l) ats)
    attributes [] = tt
    attributes (a ∷ ats) = (let one = level_of_child p l h w.0 in omega (arith, one), attributes ats)

-- so nothing below a node joins what comes behind it
below_apart : (p l : Label) (ch nx : Forest) → is_label p ≡ true → Rattle.dewey_labels.specs.Labels.is_child p l ≡ true → KeysRise l l ch → KeysRise p l nx
    → AllByRecursion (λ x. joins_first x (entries_of nx) ≡ false) (entries_of ch)
below_apart p l ch nx h c w v = all_on (λ e. level l < level e.0.label) (λ x. joins_first x (entries_of nx) ≡ false) (by nx v) (entries_of ch) (deeper l l ch (child_label p l h c) w)
  where
    by : (nx : Forest) → KeysRise p l nx → (x : Key × Record) → level l < level x.0.label → joins_first x (entries_of nx) ≡ false
    by none v x g = refl
    by (node m r ats ch2 nx2) v x g =
        let lower : level m < level x.0.label = (let one = level_of_child p l h c in let two = level_of_child p m h v.0 in omega (arith, one, two, g)) in
        elim (is_text_record (Some x.1) && is_text_record (Some r)) as (λ b. (b && (level x.0.label == level m)) ≡ false) [ true ↦ other_level (level x.0.label) (level m) lower | false ↦ refl ]

-- ---- a row joined

-- a row, and the row behind the texts that head it
record IsJoined (f : Forest) : Type 0 where
  row : joined (entries_of f) ≡ entries_of (normal f)
  past : joined (entries_of (past_lead f)) ≡ entries_of (normal (past_lead f))

-- a node that is no text
kept_node : (p l : Label) (r : Record) (ats : Attributes) (ch nx : Forest) → is_text_record (Some r) ≡ false → is_label p ≡ true → Rattle.dewey_labels.specs.Labels.is_child p l ≡ true
    → KeysRise l l ch → KeysRise p l nx → joined (entries_of ch) ≡ entries_of (normal ch) → joined (entries_of nx) ≡ entries_of (normal nx)
    → joined (entries_of (node l r ats ch nx)) ≡ entries_of (node l r ats (normal ch) (normal nx))
kept_node p l r ats ch nx t h c w v here behind =
    ap joined (append_assoc (own l r ats) (entries_of ch) (entries_of nx))
    ∙ joined_no_text (node_key l, r) (map (attr_entry l) ats ++ (entries_of ch ++ entries_of nx)) t
    ∙ ap (λ u. (node_key l, r) ∷ u) (joined_attributes l ats (entries_of ch ++ entries_of nx))
    ∙ ap (λ u. own l r ats ++ u) (joined_apart (entries_of ch) (entries_of nx) (below_apart p l ch nx h c w v) ∙ (λ i. here i ++ behind i))
    ∙ sym (append_assoc (own l r ats) (entries_of (normal ch)) (entries_of (normal nx)))

row_joined : (p b : Label) (q : Option Record) (f : Forest) → is_label p ≡ true → KeysRise p b f → KindsAllowed q f → IsJoined f
row_joined p b q none h w k = record { row = refl; past = refl }
row_joined p b q (node l (Text d) ats ch nx) h w k =
    let behind = (row_joined p l q nx h w.5 k.4).past in
    record {
      row =
          ap joined (lead_first q (node l (Text d) ats ch nx) k)
          ∙ joined_before (node_key l, Text d) (lead_entries nx) (entries_of (past_lead nx)) (one_run p l d (lead_entries nx) (level_of_child p l h w.0) (lead_on_level p l nx h w.5)) (none_joins (node_key l, Text d) nx)
          ∙ (λ i. text_at (node_key l) (d ++ texts_of_lead nx i) ++ behind i)
          ∙ sym (entries_of_led l (d ++ lead_data nx) (normal (past_lead nx)))
          ∙ ap entries_of (sym (leads l d nx));
      past = behind;
    }
row_joined p b q (node l Document ats ch nx) h w k =
    let all = kept_node p l Document ats ch nx refl h w.0 w.4 w.5 (row_joined l l (Some Document) ch (child_label p l h w.0) w.4 k.3).row (row_joined p l q nx h w.5 k.4).row in
    record { row = all; past = all }
row_joined p b q (node l (Element n) ats ch nx) h w k =
    let all = kept_node p l (Element n) ats ch nx refl h w.0 w.4 w.5 (row_joined l l (Some (Element n)) ch (child_label p l h w.0) w.4 k.3).row (row_joined p l q nx h w.5 k.4).row in
    record { row = all; past = all }
row_joined p b q (node l (Attr v) ats ch nx) h w k =
    let all = kept_node p l (Attr v) ats ch nx refl h w.0 w.4 w.5 (row_joined l l (Some (Attr v)) ch (child_label p l h w.0) w.4 k.3).row (row_joined p l q nx h w.5 k.4).row in
    record { row = all; past = all }

-- the entries of a row joined
pub entries_joined : (p b : Label) (q : Option Record) (f : Forest) → is_label p ≡ true → KeysRise p b f → KindsAllowed q f → joined (entries_of f) ≡ entries_of (normal f)
entries_joined p b q f h w k = (row_joined p b q f h w k).row
