use Rattle.xpath_parser.proofs.LawfulPaths.{parsed_lawful}
use Rattle.xpath_parser.proofs.laws.parsed_paths_are_lawful.Goals as goal

pub returns : goal.returns
returns c = record { lawful = parsed_lawful }
