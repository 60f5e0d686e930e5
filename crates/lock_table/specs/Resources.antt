-- The order and the equality of resources.
use Rattle.std.specs.Prelude.{Bool}
use Rattle.std.specs.declared.cmp.Ordering.{Ordering}
use Rattle.std.specs.Ordering.{is_eq}
use Rattle.lock_resources.specs.declared.resource.Resource.{Resource}
use Rattle.lock_resources.specs.contracts.resource.ResourceOrd.TheImpl as resource_ord

-- the order of resources
abbrev pub resource_cmp : Resource → Resource → Ordering
resource_cmp = (resource_ord.ghosts).cmp

-- the same resource
abbrev pub same_resource : Resource → Resource → Bool
same_resource r q = is_eq (resource_cmp r q)
