use Rattle.std.proofs.Common.{◌≡◌, ◌++◌, map, take}
use Rattle.serde_json.specs.View.{view}
use Rattle.jsonml_io.specs.Written.{json_of}
use Rattle.jsonml_io.proofs.writing.+to_value.Given as goal

-- behind what stands before the children are the values of the children so far
abbrev pub invariant-loop-child : goal.invariant-loop-child
invariant-loop-child l = map view l.items.items ≡ map view l.initial.items.items ++ map json_of (take l.child-index l.child-items)
