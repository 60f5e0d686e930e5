use Rattle.xpath_parser.proofs.RoundTrips.{read_back}
use Rattle.xpath_parser.proofs.laws.texts_of_paths_are_read_as_them.Goals as goal

pub returns : goal.returns
returns c = record { read_back = read_back }
