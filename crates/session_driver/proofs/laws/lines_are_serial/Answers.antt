use Rattle.session_driver.proofs.LegalBooks.{lines_legal, lines_serial}
use Rattle.session_driver.proofs.laws.lines_are_serial.Goals as goal

pub returns : goal.returns
returns g c = record {
  legal = λ t n limit lines is valid. lines_legal g.C.TreeCall.is_valid g.C.TreeCall.meaning t n limit lines is valid;
  serial = λ t n limit lines is valid. lines_serial g.C.TreeCall.is_valid g.C.TreeCall.meaning g.met.C.TreeCall.laws t n limit lines is valid;
}
