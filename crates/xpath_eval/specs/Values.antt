-- The values of the evaluation, as those of `path_model`.
use Rattle.std.specs.Prelude.{List, map, None, Some}
use Rattle.path_model.specs.Functions as path
use Rattle.path_model.specs.Values.{nodes, number, text, flag}
use Rattle.xpath_axes.specs.Positions.{all_plain}
use Rattle.xpath_eval.specs.declared.value.XValue.{XValue}
use Rattle.xpath_eval.specs.declared.value.XValue.TheVariants as value

-- the value that is meant
abbrev pub meant : XValue → path.Value
meant (value.Nodes ns) = nodes (all_plain ns.items)
meant (value.Number z) = number (Some z)
meant value.NotANumber = number None
meant (value.Chars s) = text s
meant (value.Flag b) = flag b

-- each of a list
abbrev pub all_meant : List XValue → List path.Value
all_meant vs = map meant vs
