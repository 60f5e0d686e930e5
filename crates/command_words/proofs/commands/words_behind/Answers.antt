use Rattle.std.proofs.Common.{◌≡◌, ◌∙◌, ap, sym, Ok, Err}
use Rattle.std.specs.Prelude.{Result, IsErrAnd, option_and_then}
use Rattle.command_words.specs.Commands.{of_parts}
use Rattle.command_words.specs.declared.words_error.WordsError.{WordsError}
use Rattle.command_words.specs.declared.words_error.WordsError.TheVariants.{Usage}
use Rattle.command_words.proofs.commands.words_behind.Goals as goal

-- the answer is the error that came
error_is : {T : Type 0} (r : Result T WordsError) (e f : WordsError) → IsErrAnd r (λ x. x ≡ e) → r ≡ Err f → e ≡ f
error_is (Err x) e f is it = cc
error_is (Ok x) e f is it = absurd is

pub returns-in_err-arguments-clause-usage : goal.returns-in_err-arguments-clause-usage
returns-in_err-arguments-clause-usage c = λ it.
    ap (option_and_then (of_parts c.args.word.now)) (c.in_err-arguments.ensures.usage (ap Err (error_is c.from_residual.result c.in_err-arguments.field-0.0 Usage c.from_residual.ensures.1 it)))

pub returns-in-Some-clause-words : goal.returns-in-Some-clause-words
returns-in-Some-clause-words c =
    let has = c.in_ok-arguments.ensures.ok in
    ap (option_and_then (of_parts c.args.word.now)) has.is ∙ sym (c.in-Some.ensures.words has.parts has.tells)

pub returns-clause-usage : goal.returns-clause-usage
returns-clause-usage c = λ it.
    let has = c.in_ok-arguments.ensures.ok in
    ap (option_and_then (of_parts c.args.word.now)) has.is ∙ sym (c.in-None.ensures.words has.parts has.tells)
