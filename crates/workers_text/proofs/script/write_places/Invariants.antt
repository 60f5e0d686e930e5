use Rattle.std.specs.Prelude.{flat_map}
use Rattle.std.proofs.Common.{◌≡◌, ◌++◌, drop}
use Rattle.command_lines.specs.Replies.{reply_text}
use Rattle.workers_text.specs.inside.Places.{HavePlaces, put_in}
use Rattle.workers_text.proofs.script.write_places.Given as goal

-- the text of the places that are left makes what is written whole
abbrev pub invariant-loop-place : goal.invariant-loop-place
invariant-loop-place l = record {
  text : l.out ++ flat_map reply_text (put_in (drop l.place-index l.places) l.rest) ≡ l.fn.out ++ flat_map reply_text (put_in l.places l.replies);
  there : HavePlaces (drop l.place-index l.places) l.rest;
}
