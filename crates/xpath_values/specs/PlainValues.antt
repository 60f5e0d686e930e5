-- The values of the program as they are meant.
use Rattle.std.specs.Prelude.{None, Some}
use Rattle.path_model.specs.Values.{Strings, nodes, number, text, flag}
use Rattle.xpath_values.specs.declared.values.XStrings.{XStrings}
use Rattle.xpath_values.specs.declared.values.XStrings.TheVariants as value

abbrev pub plain : XStrings → Strings
plain (value.Nodes ss) = nodes ss
plain (value.Number z) = number (Some z)
plain value.NotANumber = number None
plain (value.Chars s) = text s
plain (value.Flag b) = flag b
