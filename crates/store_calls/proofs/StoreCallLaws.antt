-- The calls keep the laws of calls.
use Rattle.call_contract.specs.Calls.{CallLaws}
use Rattle.session_driver.specs.Asking.{BookCall}
use Rattle.store_calls.specs.StoreCalls.{store_meaning, IsValidStoreCall}
use Rattle.store_calls.specs.inside.KindLaws.{laws_of_kinds}

pub store_laws : CallLaws BookCall IsValidStoreCall store_meaning
store_laws = laws_of_kinds
