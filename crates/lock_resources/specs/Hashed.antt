-- What a resource feeds a hasher: a number for its kind, and then what names it.
use Rattle.std.specs.Prelude.{ℕ, ◌++◌}
use Rattle.std.specs.Hash as fed
use Rattle.std.specs.Hash.{HashWrites}
use Rattle.lock_resources.specs.declared.resource.Resource.{Resource}
use Rattle.lock_resources.specs.declared.resource.Resource.TheVariants.{Node, AttrRoot, Attr, Edge}
use Rattle.lock_resources.specs.declared.resource.Side.{Side}
use Rattle.lock_resources.specs.declared.resource.Side.TheVariants.{First, Last, Next, Prev}

-- the number of an edge's kind among those of resources
abbrev pub side_number : Side → ℕ
side_number First = 3
side_number Last = 4
side_number Next = 5
side_number Prev = 6

-- the writes for a resource
abbrev pub fed_resource : Resource → HashWrites
fed_resource (Node l) = fed.u8 0 ++ fed.slice fed.u32 l
fed_resource (AttrRoot l) = fed.u8 1 ++ fed.slice fed.u32 l
fed_resource (Attr l name) = fed.u8 2 ++ (fed.slice fed.u32 l ++ fed.str name)
fed_resource (Edge l side) = fed.u8 (side_number side) ++ fed.slice fed.u32 l
