use Rattle.std.proofs.Common.{rules, arith, ◌∙◌, ap, sym}
use Rattle.std.proofs.lemmas.Grind.{common_steps}
use Rattle.xpath_parser.specs.Grammar.{path, path_by, steps_on, inside}
use Rattle.xpath_parser.proofs.Otherwise.{other_path}
use Rattle.xpath_parser.proofs.Rules.{goes_on}
use Rattle.xpath_parser.proofs.grammar.Grammar.path.Goals as goal

pub returns-in_err-steps-in_default : goal.returns-in_err-steps-in_default
unfolding path
returns-in_err-steps-in_default g c =
    let room = c.args.self.now.room in
    let i = c.args.tokens.now in
    let as_seen = ap (λ kind. path_by room (inside room) c.args.call kind i) (sym c.peek.ensures) in
    let otherwise = ap (λ p. p i) (other_path room (inside room) c.args.call c.peek.result c.in_default.not-Slash c.in_default.not-DoubleSlash) in
    let e = as_seen ∙ otherwise in
    first_of (search rules, grind (arith, common_steps))

pub returns-in_ok-steps-in_default : goal.returns-in_ok-steps-in_default
unfolding path
returns-in_ok-steps-in_default g c =
    let room = c.args.self.now.room in
    let i = c.args.tokens.now in
    let as_seen = ap (λ kind. path_by room (inside room) c.args.call kind i) (sym c.peek.ensures) in
    let otherwise = ap (λ p. p i) (other_path room (inside room) c.args.call c.peek.result c.in_default.not-Slash c.in_default.not-DoubleSlash) in
    let e = as_seen ∙ otherwise in
    let found = ap (λ ss. steps_on room (inside room) c.args.call ss i) (sym c.new.ensures) in
    e ∙ goes_on _ _ _ (found ∙ c.in_ok-steps-in_default.ensures)
