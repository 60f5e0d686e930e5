-- The walk of `clap` over the words beside their reading.
use Rattle.std.proofs.Common.{◌≡◌, ◌∙◌, Bool, cond, true, false, refl, sym, ap, ap₂, subst, List, [], ◌∷◌, ◌++◌, Option, Some, None, true≢false, ◌&&◌, ◌||◌, append_assoc, append-nil}
use Rattle.std.specs.Prelude.{⊤, option_and_then}
use Rattle.std.specs.List.{AllByRecursion, fold}
use Rattle.std.specs.Str.{bytes_eq, IsUtf8}
use Rattle.std.proofs.lemmas.Slice.Eq.{bytes_eq-Decides}
use Rattle.clap.specs.Walk.{Held, has_row, Row, Rule, Text, Waiting, Walk, idle, option, positional, arg_by_long, long_word, settled, settled_rows, used, value, walked, word_met, subcommand_met}
use Rattle.clap.specs.Simple.{Shape}
use Rattle.clap.specs.Kinds.{Kinds, or_else}
use Rattle.clap.specs.Faults.{flags_fault, long_fault, settle_fault, turn_fault, use_fault, walk_fault, word_fault}
use Rattle.clap.specs.declared.error.kind.ErrorKind.{ErrorKind}
use Rattle.clap.specs.declared.error.kind.ErrorKind.TheVariants as kind
use Rattle.command_words.specs.Arguments.{Word, Kind, Parts, ends, sets, dashed, plain, kind_of, is_option, is_given, parts_from, with_plain, text_met, word_met as read_met, option_met}
use Rattle.command_words.specs.Arguments.{plain_id}
use Rattle.command_words.proofs.ClapRules.{plain_rule, option_rule, rules_of, built_shape, by_long, by_id, by_plain, by_index, by_short}
use Rattle.command_words.proofs.ClapRows.{Tells, tells_option, tells_plain}
use Rattle.command_words.proofs.ClapKinds.{Looks, looks}

-- the rows tell what was read where nothing failed, and nothing was read where something did
abbrev pub Same : Kinds → List Row → Option Parts → Type 0
Same [] rows (Some r) = Tells rows r
Same [] rows None = ⊥
Same (k ∷ ks) rows (Some r) = ⊥
Same (k ∷ ks) rows None = ⊤

abbrev pub Pending : Type 0
Pending = Option (Text × List Text)

abbrev pub held : List Row → Pending → Held
held rows pending = record { rows = rows; pending = pending; skip = 0 }

abbrev pub walk_at : List Row → Pending → Waiting → Bool → Walk
walk_at rows pending waiting trailing = record { held = held rows pending; waiting = waiting; position = 1; is_trailing = trailing; stopped = None }

-- something is refused
pub record Fails (ks : Kinds) : Type 0 where
  pub first : ErrorKind
  pub others : Kinds
  pub is : ks ≡ first ∷ others

-- no option waits for its text
abbrev pub IsFree : Waiting → Type 0
IsFree (option n) = ⊥
IsFree _ = ⊤

fails_on : (ks more : Kinds) → Fails ks → Fails (or_else ks more)
fails_on ks more f = record { first = f.first; others = f.others; is = ap (λ k. or_else k more) f.is }

fails_behind : (ks more : Kinds) → ks ≡ [] → Fails more → Fails (or_else ks more)
fails_behind ks more e f = record { first = f.first; others = f.others; is = ap (λ k. or_else k more) e ∙ f.is }

same_none : (ks : Kinds) (rows : List Row) → Fails ks → Same ks rows None
same_none ks rows f = subst (λ k. Same k rows None) (sym f.is) tt

no_subcommand : (waiting : Waiting) (w : Word) → subcommand_met [] waiting w ≡ None
no_subcommand idle w = refl
no_subcommand (option n) w = refl
no_subcommand positional w = refl

and_false : (b : Bool) → (b && false) ≡ false
and_false true = refl
and_false false = refl

module _ (names : List Word) (apart : is_option names plain_id ≡ false) where
  abbrev pub c : List Rule
  c = rules_of names

  abbrev pub s : Shape
  s = built_shape names

  -- where the walk over these words ends, beside what was read
  abbrev pub Ends : Walk → List Word → Option Parts → Type 0
  Ends w ws o = Same (or_else (walk_fault s [] w ws) (settle_fault c false (fold (walked c []) w ws).held)) (settled c (fold (walked c []) w ws).held).rows o

  on : (w v : Walk) (word : Word) (ws : List Word) (o : Option Parts) → turn_fault s [] w word ≡ [] → walked c [] w word ≡ v → Ends v ws o → Ends w (word ∷ ws) o
  unfolding walk_fault
  on w v word ws o passes goes rest =
      let there : Ends (walked c [] w word) ws o = subst (λ x. Ends x ws o) (sym goes) rest in
      subst (λ f. Same (or_else (or_else f (walk_fault s [] (walked c [] w word) ws)) (settle_fault c false (fold (walked c []) (walked c [] w word) ws).held))
      (settled c (fold (walked c []) (walked c [] w word) ws).held).rows o) (sym passes) there

  stops : (w : Walk) (word : Word) (ws : List Word) → Fails (turn_fault s [] w word) → Ends w (word ∷ ws) None
  unfolding walk_fault
  stops w word ws f = same_none _ _ (fails_on _ _ (fails_on _ _ f))

  -- ---- one word

  -- the word goes to the plain words
  turn_plain : (rows : List Row) (p : Pending) (waiting : Waiting) (trailing : Bool) (word : Word)
      → word_met c [] trailing waiting 1 word (held rows p) ≡ (held rows p, value) → word_fault s [] trailing waiting word (held rows p) ≡ []
      → turn_fault s [] (walk_at rows p waiting trailing) word ≡ settle_fault c false (held rows p)
  turn_plain rows p waiting trailing word met none = rw (met, none, by_index names) (ap (λ b. cond b [] (settle_fault c false (held rows p))) (and_false _))

  goes_plain : (rows : List Row) (p : Pending) (waiting : Waiting) (trailing : Bool) (word : Word)
      → word_met c [] trailing waiting 1 word (held rows p) ≡ (held rows p, value)
      → walked c [] (walk_at rows p waiting trailing) word ≡ walk_at (settled_rows c p rows) (Some (plain_id, word ∷ [])) positional (trailing || false)
  unfolding walked
  goes_plain rows p waiting trailing word met = rw (met, by_index names) (rw (and_false _) refl)

  -- ---- after `--`

  plain_passes : (rows : List Row) (word : Word) → settle_fault c false (held rows (Some (plain_id, word ∷ []))) ≡ []
  plain_passes rows word = rw (by_plain names apart) refl

  plain_settles : (rows : List Row) (word : Word) → settled_rows c (Some (plain_id, word ∷ [])) rows ≡ used plain_rule (word ∷ []) rows
  plain_settles rows word = rw (by_plain names apart) refl

  pub record Ready (rows : List Row) (p : Pending) (r : Parts) : Type 0 where
    pub passes : settle_fault c false (held rows p) ≡ []
    pub tells : Tells (settled_rows c p rows) r

  ready_plain : (rows : List Row) (p : Pending) (r : Parts) (word : Word) → Ready rows p r → Ready (settled_rows c p rows) (Some (plain_id, word ∷ [])) (with_plain (word ∷ []) r)
  ready_plain rows p r word at = record {
    passes = plain_passes (settled_rows c p rows) word;
    tells = subst (λ rs. Tells rs (with_plain (word ∷ []) r)) (sym (plain_settles (settled_rows c p rows) word)) (tells_plain (settled_rows c p rows) r word at.tells);
  }

  ends_ready : (rows : List Row) (p : Pending) (waiting : Waiting) (trailing : Bool) (r : Parts) → Ready rows p r → Ends (walk_at rows p waiting trailing) [] (Some r)
  unfolding walk_fault
  ends_ready rows p waiting trailing r at = subst (λ k. Same k (settled_rows c p rows) (Some r)) (sym at.passes) at.tells

  all_plain : (ws : List Word) (rows : List Row) (p : Pending) (waiting : Waiting) (r : Parts) → Ready rows p r → Ends (walk_at rows p waiting true) ws (Some (with_plain ws r))
  all_plain [] rows p waiting r at = subst (λ ws. Ends (walk_at rows p waiting true) [] (Some (record r { plain = ws }))) (sym (append-nil r.plain)) (ends_ready rows p waiting true r at)
  all_plain (w ∷ ws) rows p waiting r at =
      on (walk_at rows p waiting true) _ w ws _ (turn_plain rows p waiting true w refl refl ∙ at.passes) (goes_plain rows p waiting true w refl)
      (subst (λ more. Ends (walk_at (settled_rows c p rows) (Some (plain_id, w ∷ [])) positional true) ws (Some (record r { plain = more }))) (append_assoc r.plain (w ∷ []) ws)
      (all_plain ws (settled_rows c p rows) (Some (plain_id, w ∷ [])) positional (with_plain (w ∷ []) r) (ready_plain rows p r w at)))

  lost_behind : (ws : List Word) (rows : List Row) (p : Pending) (waiting : Waiting) → Fails (settle_fault c false (held rows p)) → Ends (walk_at rows p waiting true) ws None
  unfolding walk_fault
  lost_behind [] rows p waiting f = same_none _ _ f
  lost_behind (w ∷ ws) rows p waiting f =
      stops (walk_at rows p waiting true) w ws (subst Fails (sym (turn_plain rows p waiting true w refl refl)) f)

  -- ---- before `--`

  nothing_more : (ks : Kinds) → or_else ks [] ≡ ks
  nothing_more [] = refl
  nothing_more (k ∷ ks) = refl

  met_plain : (rows : List Row) (p : Pending) (waiting : Waiting) (w : Word) → IsFree waiting → Looks w plain → word_met c [] false waiting 1 w (held rows p) ≡ (held rows p, value)
  met_plain rows p idle w free l = rw (l.0, l.1, l.2) refl
  met_plain rows p (option n) w free l = absurd free
  met_plain rows p positional w free l = rw (l.0, l.1, l.2) refl

  fault_plain : (rows : List Row) (p : Pending) (waiting : Waiting) (w : Word) → Looks w plain → word_fault s [] false waiting w (held rows p) ≡ []
  fault_plain rows p waiting w l = rw (no_subcommand waiting w, l.0, l.1, l.2) refl

  fault_sets : (rows : List Row) (p : Pending) (waiting : Waiting) (w name : Word) (text : Option Word) → Looks w (sets name text)
      → word_fault s [] false waiting w (held rows p) ≡ long_fault c false (arg_by_long c name) text (held rows p)
  fault_sets rows p waiting w name text l = rw (no_subcommand waiting w, l.0, l.1) refl

  met_sets : (rows : List Row) (p : Pending) (waiting : Waiting) (w name : Word) (text : Option Word) → Looks w (sets name text)
      → word_met c [] false waiting 1 w (held rows p) ≡ long_word c waiting w name text (held rows p)
  met_sets rows p waiting w name text l = rw (no_subcommand waiting w, l.0, l.1) refl

  found : (name : Word) (b : Bool) → is_option names name ≡ b → arg_by_long c name ≡ cond b (Some (option_rule name)) None
  found name b e = by_long names name ∙ ap (λ x. cond x (Some (option_rule name)) None) e

  unknown_fails : (rows : List Row) (p : Pending) (waiting : Waiting) (w name : Word) (text : Option Word) → Looks w (sets name text) → is_option names name ≡ false
      → Fails (turn_fault s [] (walk_at rows p waiting false) w)
  unknown_fails rows p waiting w name text l e = fails_on _ _ (record {
    first = kind.UnknownArgument;
    others = [];
    is = fault_sets rows p waiting w name text l ∙ ap (λ a. long_fault c false a text (held rows p)) (found name false e);
  })

  fault_dashed : (rows : List Row) (p : Pending) (waiting : Waiting) (w : Word) → Looks w dashed → word_fault s [] false waiting w (held rows p) ≡ kind.UnknownArgument ∷ []
  unfolding flags_fault
  fault_dashed rows p waiting w l = rw (no_subcommand waiting w, l.0, l.1, l.2.short) (rw (l.2.char, by_short names l.2.first) refl)

  dashed_fails : (rows : List Row) (p : Pending) (waiting : Waiting) (w : Word) → Looks w dashed → Fails (turn_fault s [] (walk_at rows p waiting false) w)
  dashed_fails rows p waiting w l = fails_on _ _ (record { first = kind.UnknownArgument; others = []; is = fault_dashed rows p waiting w l })

  turn_ends : (rows : List Row) (p : Pending) (waiting : Waiting) (w : Word) → Looks w ends → turn_fault s [] (walk_at rows p waiting false) w ≡ []
  turn_ends rows p waiting w l = rw (no_subcommand waiting w, l) refl

  goes_ends : (rows : List Row) (p : Pending) (waiting : Waiting) (w : Word) → Looks w ends → walked c [] (walk_at rows p waiting false) w ≡ walk_at rows p waiting true
  unfolding walked
  goes_ends rows p waiting w l = rw (no_subcommand waiting w, l) refl

  -- `--NAME=TEXT`
  turn_text : (rows : List Row) (p : Pending) (waiting : Waiting) (w name v : Word) → Looks w (sets name (Some v)) → is_option names name ≡ true
      → turn_fault s [] (walk_at rows p waiting false) w ≡ or_else (settle_fault c false (held rows p)) (use_fault false (option_rule name) (v ∷ []) (settled_rows c p rows))
  turn_text rows p waiting w name v l e = rw (no_subcommand waiting w, l.0, l.1, found name true e) (nothing_more _)

  goes_text : (rows : List Row) (p : Pending) (waiting : Waiting) (w name v : Word) → Looks w (sets name (Some v)) → is_option names name ≡ true
      → walked c [] (walk_at rows p waiting false) w ≡ walk_at (used (option_rule name) (v ∷ []) (settled_rows c p rows)) None idle false
  unfolding walked
  goes_text rows p waiting w name v l e = rw (no_subcommand waiting w, l.0, l.1, found name true e) refl

  -- `--NAME`
  turn_name : (rows : List Row) (p : Pending) (waiting : Waiting) (w name : Word) → Looks w (sets name None) → is_option names name ≡ true
      → turn_fault s [] (walk_at rows p waiting false) w ≡ settle_fault c false (held rows p)
  turn_name rows p waiting w name l e = rw (no_subcommand waiting w, l.0, l.1, found name true e) (nothing_more _)

  goes_name : (rows : List Row) (p : Pending) (waiting : Waiting) (w name : Word) → Looks w (sets name None) → is_option names name ≡ true
      → walked c [] (walk_at rows p waiting false) w ≡ walk_at (settled_rows c p rows) (Some (name, [])) (option name) false
  unfolding walked
  goes_name rows p waiting w name l e = rw (no_subcommand waiting w, l.0, l.1, found name true e) refl

  -- where the pending option fails, so does each flag
  sets_fails : (rows : List Row) (p : Pending) (waiting : Waiting) (w name : Word) (text : Option Word) → Looks w (sets name text) → Fails (settle_fault c false (held rows p))
      → Fails (turn_fault s [] (walk_at rows p waiting false) w)
  sets_fails rows p waiting w name text l f = go (is_option names name) text refl l
    where
      go : (b : Bool) (t : Option Word) → is_option names name ≡ b → Looks w (sets name t) → Fails (turn_fault s [] (walk_at rows p waiting false) w)
      go false t e k = unknown_fails rows p waiting w name t k e
      go true None e k = subst Fails (sym (turn_name rows p waiting w name k e)) f
      go true (Some v) e k = subst Fails (sym (turn_text rows p waiting w name v k e)) (fails_on _ _ f)

  lost : (ws : List Word) (rows : List Row) (p : Pending) (waiting : Waiting) → IsFree waiting → AllByRecursion IsUtf8 ws → Fails (settle_fault c false (held rows p))
      → Ends (walk_at rows p waiting false) ws None
  unfolding walk_fault
  lost [] rows p waiting free u f = same_none _ _ f
  lost (w ∷ ws) rows p waiting free u f = go (kind_of w) (looks w u.0)
    where
      go : (k : Kind) → Looks w k → Ends (walk_at rows p waiting false) (w ∷ ws) None
      go ends l = on (walk_at rows p waiting false) _ w ws None (turn_ends rows p waiting w l) (goes_ends rows p waiting w l) (lost_behind ws rows p waiting f)
      go (sets name text) l = stops (walk_at rows p waiting false) w ws (sets_fails rows p waiting w name text l f)
      go dashed l = stops (walk_at rows p waiting false) w ws (dashed_fails rows p waiting w l)
      go plain l = stops (walk_at rows p waiting false) w ws
          (subst Fails (sym (turn_plain rows p waiting false w (met_plain rows p waiting w free l) (fault_plain rows p waiting w l))) f)

  -- ---- options

  apart_name : (name : Word) → is_option names name ≡ true → bytes_eq plain_id name ≡ false
  apart_name name known = go (bytes_eq plain_id name) refl
    where
      go : (b : Bool) → bytes_eq plain_id name ≡ b → bytes_eq plain_id name ≡ false
      go false e = e
      go true e = absurd (true≢false (sym known ∙ ap (is_option names) (sym ((bytes_eq-Decides plain_id name).0 e)) ∙ apart))

  name_apart : (name : Word) → is_option names name ≡ true → bytes_eq name plain_id ≡ false
  name_apart name known = go (bytes_eq name plain_id) refl
    where
      go : (b : Bool) → bytes_eq name plain_id ≡ b → bytes_eq name plain_id ≡ false
      go false e = e
      go true e = absurd (true≢false (sym known ∙ ap (is_option names) ((bytes_eq-Decides name plain_id).0 e) ∙ apart))

  use_new : (name v : Word) (rows : List Row) → has_row name rows ≡ false → use_fault false (option_rule name) (v ∷ []) rows ≡ []
  use_new name v rows e = rw e refl

  use_again : (name v : Word) (rows : List Row) → has_row name rows ≡ true → use_fault false (option_rule name) (v ∷ []) rows ≡ kind.ArgumentConflict ∷ []
  use_again name v rows e = rw e refl

  pending_fault : (name : Word) (vs rows : _) → is_option names name ≡ true → settle_fault c false (held rows (Some (name, vs))) ≡ use_fault false (option_rule name) vs rows
  pending_fault name vs rows known = rw (by_id names name known) refl

  pending_rows : (name : Word) (vs rows : _) → is_option names name ≡ true → settled_rows c (Some (name, vs)) rows ≡ used (option_rule name) vs rows
  pending_rows name vs rows known = rw (by_id names name known) refl

  -- the option with its text, beside its use
  abbrev pub Walks : List Word → Type 0
  Walks ws = (rows : List Row) (p : Pending) (waiting : Waiting) (r : Parts) → IsFree waiting → Ready rows p r → Ends (walk_at rows p waiting false) ws (parts_from names ws r None)

  abbrev pub Wants : List Word → Type 0
  Wants ws = (rows : List Row) (n : Word) (r : Parts) → is_option names n ≡ true → Tells rows r → Ends (walk_at rows (Some (n, [])) (option n) false) ws (parts_from names ws r (Some n))

  abbrev Losing : List Word → Type 0
  Losing ws = (rows : List Row) (p : Pending) (waiting : Waiting) → IsFree waiting → Fails (settle_fault c false (held rows p)) → Ends (walk_at rows p waiting false) ws None

  -- `--NAME=TEXT`
  with_text : (w : Word) (ws : List Word) (rows : List Row) (p : Pending) (waiting : Waiting) (r : Parts) (name v : Word) → Ready rows p r → Looks w (sets name (Some v)) → is_option names name ≡ true
      → Walks ws → Ends (walk_at rows p waiting false) (w ∷ ws) (option_met names name (Some v) r (parts_from names ws))
  with_text w ws rows p waiting r name v at l known walks = go (is_given name r) refl
    where
      go : (b : Bool) → is_given name r ≡ b → Ends (walk_at rows p waiting false) (w ∷ ws) (option_and_then (λ x. parts_from names ws x None) (cond b None (Some (record r { given = r.given ++ (name, v) ∷ [] }))))
      go true e = stops (walk_at rows p waiting false) w ws (subst Fails (sym (turn_text rows p waiting w name v l known))
          (fails_behind _ _ at.passes (record { first = kind.ArgumentConflict; others = []; is = use_again name v (settled_rows c p rows) (at.tells.given name (apart_name name known) ∙ e) })))
      go false e = on (walk_at rows p waiting false) _ w ws _
          (turn_text rows p waiting w name v l known ∙ ap₂ or_else at.passes (use_new name v (settled_rows c p rows) (at.tells.given name (apart_name name known) ∙ e)))
          (goes_text rows p waiting w name v l known)
          (walks (used (option_rule name) (v ∷ []) (settled_rows c p rows)) None idle (record r { given = r.given ++ (name, v) ∷ [] }) tt (record {
            passes = refl;
            tells = tells_option (settled_rows c p rows) r name v (name_apart name known) (apart_name name known) e at.tells;
          }))

  -- a word that isn't the text of an option
  one_word : (w : Word) (ws : List Word) (rows : List Row) (p : Pending) (waiting : Waiting) (r : Parts) → IsFree waiting → Ready rows p r → Walks ws → Wants ws
      → (k : Kind) → Looks w k → Ends (walk_at rows p waiting false) (w ∷ ws) (read_met names k w ws r (parts_from names ws))
  one_word w ws rows p waiting r free at walks wants ends l =
      on (walk_at rows p waiting false) _ w ws _ (turn_ends rows p waiting w l) (goes_ends rows p waiting w l) (all_plain ws rows p waiting r at)
  one_word w ws rows p waiting r free at walks wants dashed l = stops (walk_at rows p waiting false) w ws (dashed_fails rows p waiting w l)
  one_word w ws rows p waiting r free at walks wants plain l =
      on (walk_at rows p waiting false) _ w ws _ (turn_plain rows p waiting false w (met_plain rows p waiting w free l) (fault_plain rows p waiting w l) ∙ at.passes)
      (goes_plain rows p waiting false w (met_plain rows p waiting w free l))
      (walks (settled_rows c p rows) (Some (plain_id, w ∷ [])) positional (with_plain (w ∷ []) r) tt (ready_plain rows p r w at))
  one_word w ws rows p waiting r free at walks wants (sets name text) l = go (is_option names name) text refl l
    where
      go : (b : Bool) (t : Option Word) → is_option names name ≡ b → Looks w (sets name t)
          → Ends (walk_at rows p waiting false) (w ∷ ws) (cond b (option_met names name t r (parts_from names ws)) None)
      go false t e k = stops (walk_at rows p waiting false) w ws (unknown_fails rows p waiting w name t k e)
      go true (Some v) e k = with_text w ws rows p waiting r name v at k e walks
      go true None e k = on (walk_at rows p waiting false) _ w ws _ (turn_name rows p waiting w name k e ∙ at.passes) (goes_name rows p waiting w name k e)
          (wants (settled_rows c p rows) name r e at.tells)

  -- an option that has no text yet
  bare_fails : (rows : List Row) (n : Word) → is_option names n ≡ true → Fails (settle_fault c false (held rows (Some (n, []))))
  bare_fails rows n known = record { first = kind.InvalidValue; others = []; is = pending_fault n [] rows known }

  same_name : (n : Word) → bytes_eq n n ≡ true
  same_name n = (bytes_eq-Decides n n).1 refl

  turn_wanted : (rows : List Row) (n w : Word) → Looks w plain → is_option names n ≡ true → turn_fault s [] (walk_at rows (Some (n, [])) (option n) false) w ≡ []
  turn_wanted rows n w l known = rw (l.0, l.1, l.2) refl

  goes_wanted : (rows : List Row) (n w : Word) → Looks w plain → is_option names n ≡ true
      → walked c [] (walk_at rows (Some (n, [])) (option n) false) w ≡ walk_at rows (Some (n, w ∷ [])) idle false
  unfolding walked
  goes_wanted rows n w l known = rw (l.0, l.1, l.2, by_id names n known) (rw (same_name n) refl)

  one_text : (w : Word) (ws : List Word) (rows : List Row) (n : Word) (r : Parts) → is_option names n ≡ true → Tells rows r → Walks ws → Losing ws
      → (k : Kind) → Looks w k → Ends (walk_at rows (Some (n, [])) (option n) false) (w ∷ ws) (text_met names k n w r (parts_from names ws))
  one_text w ws rows n r known t walks losing ends l =
      on (walk_at rows (Some (n, [])) (option n) false) _ w ws None (turn_ends rows _ (option n) w l) (goes_ends rows _ (option n) w l)
      (lost_behind ws rows (Some (n, [])) (option n) (bare_fails rows n known))
  one_text w ws rows n r known t walks losing (sets name text) l = stops _ w ws (sets_fails rows (Some (n, [])) (option n) w name text l (bare_fails rows n known))
  one_text w ws rows n r known t walks losing dashed l = stops _ w ws (dashed_fails rows (Some (n, [])) (option n) w l)
  one_text w ws rows n r known t walks losing plain l = go (is_given n r) refl
    where
      go : (b : Bool) → is_given n r ≡ b → Ends (walk_at rows (Some (n, [])) (option n) false) (w ∷ ws) (option_and_then (λ x. parts_from names ws x None) (cond b None (Some (record r { given = r.given ++ (n, w) ∷ [] }))))
      go true e = on (walk_at rows (Some (n, [])) (option n) false) _ w ws None (turn_wanted rows n w l known) (goes_wanted rows n w l known)
          (losing rows (Some (n, w ∷ [])) idle tt (record {
            first = kind.ArgumentConflict;
            others = [];
            is = pending_fault n (w ∷ []) rows known ∙ use_again n w rows (t.given n (apart_name n known) ∙ e);
          }))
      go false e = on (walk_at rows (Some (n, [])) (option n) false) _ w ws _ (turn_wanted rows n w l known) (goes_wanted rows n w l known)
          (walks rows (Some (n, w ∷ [])) idle (record r { given = r.given ++ (n, w) ∷ [] }) tt (record {
            passes = pending_fault n (w ∷ []) rows known ∙ use_new n w rows (t.given n (apart_name n known) ∙ e);
            tells = subst (λ rs. Tells rs (record r { given = r.given ++ (n, w) ∷ [] })) (sym (pending_rows n (w ∷ []) rows known))
                (tells_option rows r n w (name_apart n known) (apart_name n known) e t);
          }))

  pub both : (ws : List Word) → AllByRecursion IsUtf8 ws → Walks ws × Wants ws
  unfolding parts_from walk_fault
  both [] u = (λ rows p waiting r free at. ends_ready rows p waiting false r at, λ rows n r known t. same_none _ _ (bare_fails rows n known))
  both (w ∷ ws) u =
      let more = both ws u.1 in (
        λ rows p waiting r free at. one_word w ws rows p waiting r free at more.0 more.1 (kind_of w) (looks w u.0),
        λ rows n r known t. one_text w ws rows n r known t more.0 (λ rs p waiting free f. lost ws rs p waiting free u.1 f) (kind_of w) (looks w u.0),
      )
