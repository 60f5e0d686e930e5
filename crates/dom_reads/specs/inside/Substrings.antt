-- A part of a text, in characters.
use Rattle.std.specs.Prelude.{List, drop, encode_utf8_all, if◌then◌else◌, take, ℕ}
use Rattle.std.specs.Str.{chars}
use Rattle.tree_model.specs.Outcomes.{index_size_err}
use Rattle.tree_model.specs.Texts.{is_past}
use Rattle.tree_model.specs.declared.refusal.Refusal.TheVariants.{Dom}
use Rattle.tree_model.specs.declared.reply.Reply.{Reply}
use Rattle.tree_model.specs.declared.reply.Reply.TheVariants.{Chars, Refused}

-- `substring` at a text: its characters from an offset on, at most a count of them
abbrev pub substring_in : ℕ → ℕ → List ℕ → Reply
substring_in offset count d = if is_past offset d then Refused (Dom index_size_err) else Chars (encode_utf8_all (take count (drop offset (chars d))))
