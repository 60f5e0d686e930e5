-- A parse by `clap` is the reading of the words, both ways.
use Rattle.std.proofs.Common.{◌≡◌, ◌∙◌, Bool, true, false, refl, sym, ap, ap₂, subst, List, [], ◌∷◌, Option, Some, None, map, inl, inr, ◌&&◌}
use Rattle.std.specs.Prelude.{◌≢◌, ◌⊎◌, is_some, unwrap_or, String, string_bytes}
use Rattle.std.specs.List.{AllByRecursion}
use Rattle.std.proofs.lemmas.Str.{IsUtf8-string_bytes}
use Rattle.std.specs.Str.{IsUtf8}
use Rattle.clap.specs.Walk.{Row, Text, finished, nothing_held, walk, walk_from, settled, rows_of}
use Rattle.clap.specs.Simple.{App, HasMatchesOf, matches_of, entered, label_of}
use Rattle.clap.specs.Kinds.{IsAmong, Kinds, or_else}
use Rattle.clap.specs.declared.error.kind.ErrorKind.{ErrorKind}
use Rattle.clap.specs.declared.error.kind.ErrorKind.TheVariants.{OutOfMemory}
use Rattle.clap.specs.Faults.{built_fault, check_fault, entered_fault, fault_of, is_simple_and_free, level_fault, walk_fault, settle_fault}
use Rattle.clap.specs.Matches.{found_of}
use Rattle.clap.specs.declared.parser.matches.ArgMatches.{ArgMatches}
use Rattle.clap.proofs.WalkLemmas.{first_value-rows, raw_values-rows}
use Rattle.command_words.specs.Arguments.{Word, Parts, is_option, no_parts, parts_of, plain_id}
use Rattle.command_words.specs.Found.{HasParts, TellsParts}
use Rattle.command_words.specs.inside.Apps.{words_app}
use Rattle.command_words.proofs.ClapRules.{built_app, built_is, built_shape, no_defaults, no_default_fault, none_required, rules_of}
use Rattle.command_words.proofs.ClapRows.{Tells}
use Rattle.command_words.proofs.ClapWalk.{Same, both}

none_entered : (names : List Word) (stop : Option (Text × List Text)) → entered (built_app names) stop ≡ None
none_entered names None = refl
none_entered names (Some p) = refl

none_below : (names : List Word) (stop : Option (Text × List Text)) → entered_fault (built_app names) stop ≡ []
none_below names None = refl
none_below names (Some p) = refl

nothing_more : (ks : Kinds) → or_else ks [] ≡ ks
nothing_more [] = refl
nothing_more (k ∷ ks) = refl

module _ (names : List Word) (apart : is_option names plain_id ≡ false) where
  checks : (rows : List Row) → check_fault (built_shape names) rows false ≡ []
  checks rows = rw (none_required names rows) refl

  level : (ws : List Word) → level_fault (built_shape names) [] nothing_held ws false []
      ≡ or_else (walk_fault (built_shape names) [] (walk_from nothing_held) ws) (settle_fault (rules_of names) false (walk (rules_of names) [] nothing_held ws).held)
  level ws = rw (no_default_fault names (settled (rules_of names) (walk (rules_of names) [] nothing_held ws).held).rows, checks (finished (rules_of names) (walk (rules_of names) [] nothing_held ws).held))
      (ap (or_else (walk_fault (built_shape names) [] (walk_from nothing_held) ws)) (nothing_more _))

  faults : (ws : List Word) → fault_of (words_app names) ws
      ≡ or_else (walk_fault (built_shape names) [] (walk_from nothing_held) ws) (settle_fault (rules_of names) false (walk (rules_of names) [] nothing_held ws).held)
  faults ws = ap (λ (b : App). built_fault b nothing_held ws) (built_is names)
      ∙ ap₂ (λ e below. level_fault (built_shape names) [] nothing_held ws (is_some e) below)
      (none_entered names (walk (rules_of names) [] nothing_held ws).stopped) (none_below names (walk (rules_of names) [] nothing_held ws).stopped)
      ∙ level ws

  matches : (ws : List Word) → matches_of (words_app names) ws ≡ (settled (rules_of names) (walk (rules_of names) [] nothing_held ws).held).rows
  matches ws = ap (λ (b : App). Rattle.clap.specs.Walk.rows_after b.top.rules (Rattle.clap.specs.Simple.names_of b) ws) (built_is names)
      ∙ no_defaults names (settled (rules_of names) (walk (rules_of names) [] nothing_held ws).held).rows

  -- the faults and the rows of a parse, beside what the words are read as
  pub same : (ws : List Word) → AllByRecursion IsUtf8 ws → Same (fault_of (words_app names) ws) (matches_of (words_app names) ws) (parts_of names ws)
  same ws u = subst (λ rows. Same (fault_of (words_app names) ws) rows (parts_of names ws)) (sym (matches ws))
      (subst (λ ks. Same ks (settled (rules_of names) (walk (rules_of names) [] nothing_held ws).held).rows (parts_of names ws)) (sym (faults ws))
      ((both names apart ws u).0 [] None Rattle.clap.specs.Walk.idle no_parts tt
      (record { passes = refl; tells = record { plain = refl; text = λ n e. refl; given = λ n e. refl } })))

-- ---- what the clauses of a parse give

pub are_utf8 : {Z : Type 0} (words : List (String Z)) → AllByRecursion IsUtf8 (map string_bytes words)
are_utf8 [] = tt
are_utf8 (w ∷ ws) = (IsUtf8-string_bytes w, are_utf8 ws)

and_left : (a b : Bool) → (a && b) ≡ true → a ≡ true
and_left true b e = refl
and_left false b e = e

tells_parts : (m : ArgMatches) (r : Parts) → Tells (rows_of (found_of m)) r → TellsParts (record { found = m }) r
tells_parts m r t = record {
  plain = ap (λ o. unwrap_or o []) (raw_values-rows (found_of m) plain_id) ∙ t.plain;
  text = λ n e. first_value-rows (found_of m) n ∙ t.text n e;
}

module _ (names : List Word) (apart : is_option names plain_id ≡ false) (app : App) (is : app ≡ words_app names) (ws : List Word) (u : AllByRecursion IsUtf8 ws) where
  free : is_simple_and_free app ≡ true
  free = ap is_simple_and_free is ∙ Rattle.command_words.proofs.ClapRules.is_simple names

  beside : Same (fault_of app ws) (matches_of app ws) (parts_of names ws)
  beside = subst (λ a. Same (fault_of a ws) (matches_of a ws) (parts_of names ws)) (sym is) (same names apart ws u)

  pub ok_read : (m : ArgMatches) → HasMatchesOf app ws m → (is_simple_and_free app ≡ true → fault_of app ws ≡ []) → HasParts (parts_of names ws) (record { found = m })
  ok_read m has passes = go (parts_of names ws) refl (subst (λ ks. Same ks (matches_of app ws) (parts_of names ws)) (passes free) beside)
    where
      go : (o : Option Parts) → parts_of names ws ≡ o → Same [] (matches_of app ws) o → HasParts (parts_of names ws) (record { found = m })
      go None e t = absurd t
      go (Some r) e t = record { parts = r; is = e; tells = tells_parts m r (subst (λ rows. Tells rows r) (sym (has (and_left _ _ free)).0) t) }

  pub err_none : (kind : ErrorKind) → (is_simple_and_free app ≡ true → (kind ≡ OutOfMemory) ⊎ IsAmong kind (fault_of app ws)) → kind ≢ OutOfMemory → parts_of names ws ≡ None
  err_none kind kinds other = go (fault_of app ws) (parts_of names ws) (kinds free) beside
    where
      go : (ks : Kinds) (o : Option Parts) → (kind ≡ OutOfMemory) ⊎ IsAmong kind ks → Same ks (matches_of app ws) o → o ≡ None
      go ks o (inl e) t = absurd (other e)
      go [] o (inr among) t = absurd among
      go (k ∷ ks) None (inr among) t = refl
      go (k ∷ ks) (Some r) (inr among) t = absurd t
