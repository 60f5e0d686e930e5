use Rattle.std.proofs.Common.{◌≡◌, drop}
use Rattle.serde_json.specs.Data.{no_members}
use Rattle.serde_json.specs.View.{members_view}
use Rattle.jsonml_io.specs.Written.{with_members}
use Rattle.command_lines.proofs.reply_values.members.Given as goal

-- the attributes left, put to the members so far, are all members
abbrev pub invariant-loop-name : goal.invariant-loop-name
invariant-loop-name l = with_members (members_view l.members.entries) (drop l.name-index l.name-items) ≡ with_members no_members l.name-items
