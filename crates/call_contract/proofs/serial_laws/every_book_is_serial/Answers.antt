use Rattle.call_contract.proofs.BookLaws.{serial_book}
use Rattle.call_contract.proofs.serial_laws.every_book_is_serial.Goals as goal

pub returns : goal.returns
returns g c = λ t n limit b is. serial_book g.C.TreeCall.is_valid g.C.TreeCall.meaning g.met.C.TreeCall.laws t n limit b is
