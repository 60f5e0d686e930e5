-- What `clap` reads of a command with these options and one positional that takes any number of words.
use Rattle.std.proofs.Common.{◌≡◌, ◌∙◌, ℕ, Bool, cond, true, false, refl, sym, ap, List, [], ◌∷◌, ◌++◌, map, Some, None, true≢false, ◌||◌, ◌&&◌}
use Rattle.std.proofs.lemmas.List.{map-append}
use Rattle.std.specs.Prelude.{count_by, not}
use Rattle.std.specs.List.{fold, list_any, list_all}
use Rattle.std.specs.Str.{bytes_eq}
use Rattle.std.specs.Option.{is_some}
use Rattle.std.proofs.lemmas.Slice.Eq.{bytes_eq-Decides}
use Rattle.clap.specs.Walk.{Rule, Row, arg_by_id, arg_by_long, arg_by_short, arg_by_index, with_default, has_row, is_early_multiple}
use Rattle.clap.specs.Simple.{App, Shape, with_rule, built, filled, filled_from, is_in_order, is_buildable, is_ready, is_ready_leaf}
use Rattle.clap.specs.Faults.{defaults_fault, is_free_app, is_simple_and_free}
use Rattle.clap.specs.Takes.{is_given}
use Rattle.command_words.specs.Arguments.{Word, is_option}
use Rattle.command_words.specs.inside.Apps.{bare, new_option, new_plain, new_rules, options_app, words_app}
use Rattle.command_words.specs.Arguments.{plain_id}

-- as building makes them
abbrev pub option_rule : Word → Rule
option_rule name = filled (new_option name)

abbrev pub plain_rule : Rule
plain_rule = record (filled new_plain) { index = Some 1 }

abbrev pub rules_of : List Word → List Rule
rules_of names = map option_rule names ++ plain_rule ∷ []

-- the command, as building makes it
abbrev pub built_shape : List Word → Shape
built_shape names = record bare { rules = rules_of names; disable_help_subcommand = true; is_built = true }

abbrev pub built_app : List Word → App
built_app names = record { top = built_shape names; subs = [] }

filled_rules : (names : List Word) → filled_from 1 (new_rules names) ≡ rules_of names
filled_rules [] = refl
filled_rules (n ∷ ns) = ap (λ rest. option_rule n ∷ rest) (filled_rules ns)

pub built_is : (names : List Word) → built (words_app names) ≡ built_app names
built_is names = ap (λ rules. record { top = record bare { rules = rules; disable_help_subcommand = true; is_built = true }; subs = [] }) (filled_rules names)

-- ---- finding

pub by_long : (names : List Word) (name : Word) → arg_by_long (rules_of names) name ≡ cond (is_option names name) (Some (option_rule name)) None
by_long [] name = refl
by_long (n ∷ ns) name = go (bytes_eq n name) refl (by_long ns name)
  where
    go : (b : Bool) → bytes_eq n name ≡ b → arg_by_long (rules_of ns) name ≡ cond (is_option ns name) (Some (option_rule name)) None → arg_by_long (rules_of (n ∷ ns)) name ≡ cond (is_option (n ∷ ns) name) (Some (option_rule name)) None
    go true e rest = rw e (ap (λ m. Some (option_rule m)) ((bytes_eq-Decides n name).0 e))
    go false e rest = rw e rest

pub by_id : (names : List Word) (name : Word) → is_option names name ≡ true → arg_by_id (rules_of names) name ≡ Some (option_rule name)
by_id [] name known = absurd (true≢false (sym known))
by_id (n ∷ ns) name known = go (bytes_eq n name) refl known (by_id ns name)
  where
    go : (b : Bool) → bytes_eq n name ≡ b → is_option (n ∷ ns) name ≡ true → (is_option ns name ≡ true → arg_by_id (rules_of ns) name ≡ Some (option_rule name))
        → arg_by_id (rules_of (n ∷ ns)) name ≡ Some (option_rule name)
    go true e k rest = rw e (ap (λ m. Some (option_rule m)) ((bytes_eq-Decides n name).0 e))
    go false e k rest = rw e (rest (rw e at k))

pub by_plain : (names : List Word) → is_option names plain_id ≡ false → arg_by_id (rules_of names) plain_id ≡ Some plain_rule
by_plain [] other = refl
by_plain (n ∷ ns) other = go (bytes_eq n plain_id) refl other (by_plain ns)
  where
    go : (b : Bool) → bytes_eq n plain_id ≡ b → is_option (n ∷ ns) plain_id ≡ false → (is_option ns plain_id ≡ false → arg_by_id (rules_of ns) plain_id ≡ Some plain_rule)
        → arg_by_id (rules_of (n ∷ ns)) plain_id ≡ Some plain_rule
    go true e k rest = absurd (true≢false (rw e at k))
    go false e k rest = rw e (rest (rw e at k))

pub by_index : (names : List Word) → arg_by_index (rules_of names) 1 ≡ Some plain_rule
by_index [] = refl
by_index (n ∷ ns) = by_index ns

pub by_short : (names : List Word) (x : ℕ) → arg_by_short (rules_of names) x ≡ None
by_short [] x = refl
by_short (n ∷ ns) x = by_short ns x

-- ---- what stands after the walk

either_way : (b : Bool) (rows : List Row) → cond b rows rows ≡ rows
either_way true rows = refl
either_way false rows = refl

pub no_defaults : (names : List Word) (rows : List Row) → fold with_default rows (rules_of names) ≡ rows
no_defaults [] rows = either_way (has_row plain_id rows) rows
no_defaults (n ∷ ns) rows = ap (λ rs. fold with_default rs (rules_of ns)) (either_way (has_row n rows) rows) ∙ no_defaults ns rows

or_true : (b : Bool) → (b || true) ≡ true
or_true true = refl
or_true false = refl

pub no_default_fault : (names : List Word) (rows : List Row) → defaults_fault rows (rules_of names) ≡ []
unfolding defaults_fault
no_default_fault [] rows = rw (or_true (has_row plain_id rows)) refl
no_default_fault (n ∷ ns) rows = rw (or_true (has_row n rows), either_way (has_row n rows) rows) (no_default_fault ns rows)

pub none_required : (names : List Word) (rows : List Row) → list_any (λ (a : Rule). a.required && not (is_given a.id rows)) (rules_of names) ≡ false
none_required [] rows = refl
none_required (n ∷ ns) rows = none_required ns rows

-- ---- the command is simple

all_simple : (names : List Word) → list_all (λ (a : Rule). a.is_simple) (new_rules names) ≡ true
all_simple [] = refl
all_simple (n ∷ ns) = all_simple ns

built_simple : (names : List Word) → list_all (λ (a : Rule). a.is_simple) (rules_of names) ≡ true
built_simple [] = refl
built_simple (n ∷ ns) = built_simple ns

built_free : (names : List Word) → list_all (λ (a : Rule). a.is_free) (rules_of names) ≡ true
built_free [] = refl
built_free (n ∷ ns) = built_free ns

one_index : (names : List Word) → count_by (λ (a : Rule). is_some a.index) (rules_of names) ≡ 1
one_index [] = refl
one_index (n ∷ ns) = one_index ns

none_early : (names : List Word) → list_any (is_early_multiple 1) (rules_of names) ≡ false
none_early [] = refl
none_early (n ∷ ns) = none_early ns

in_order : (names : List Word) → is_in_order (rules_of names) ≡ true
in_order names = rw (one_index names, none_early names) refl

pub is_simple : (names : List Word) → is_simple_and_free (words_app names) ≡ true
is_simple names = ap (λ (b : App). is_buildable (words_app names) && (is_ready b.top && list_all is_ready_leaf b.subs) && is_free_app b) (built_is names)
    ∙ rw (all_simple names, built_simple names, built_free names, in_order names) refl

-- ---- the command as it is made

-- one option more
pub with_one_option : (names : List Word) (name : Word) → with_rule (options_app names) (new_option name) ≡ options_app (names ++ name ∷ [])
with_one_option names name = ap (λ rules. record { top = record bare { rules = rules }; subs = [] }) (sym (map-append new_option names (name ∷ [])))
