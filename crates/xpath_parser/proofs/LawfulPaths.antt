-- What a text is read as is lawful.
use Rattle.std.proofs.Common.{◌≡◌, ℕ, true, List, Ok, Err, subst, rules}
use Rattle.std.proofs.lemmas.Bool.{and_from, le-leb}
use Rattle.std.specs.Str.{chars}
use Rattle.path_model.specs.Lawful.{is_formed_path, path_depth, is_lawful, most_nested}
use Rattle.path_model.specs.declared.path.XPath.{XPath}
use Rattle.xpath_parser.specs.Grammar.{whole}
use Rattle.xpath_parser.specs.Input.{Outcome}
use Rattle.xpath_parser.specs.Lex.{Text, skip}
use Rattle.xpath_parser.specs.Parse.{path_in, parsed}
use Rattle.xpath_parser.proofs.LawfulForms.{PathWithin}
use Rattle.xpath_parser.proofs.LawfulGives.{Gives}
use Rattle.xpath_parser.proofs.LawfulRules.{whole_keeps}

lawful_within : (p : XPath) → PathWithin most_nested p → is_lawful p ≡ true
lawful_within p h = and_from (is_formed_path p) _ h.formed (le-leb (path_depth p) most_nested h.shallow)

lawful_in : (z : Text) (o : Outcome XPath) (p : XPath) → Gives (PathWithin most_nested) o → path_in z o ≡ Ok p → is_lawful p ≡ true
lawful_in z (Ok q) p h is = let same : q.0 ≡ p = search rules in subst (λ x. is_lawful x ≡ true) same (lawful_within q.0 h)
lawful_in z (Err r) p h is = search rules

pub parsed_lawful : (text : List ℕ) (p : XPath) → parsed text ≡ Ok p → is_lawful p ≡ true
parsed_lawful text p is = lawful_in (chars text) (whole (skip (chars text))) p (whole_keeps (skip (chars text))) is
