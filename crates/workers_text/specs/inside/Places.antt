-- How a script is kept: its commands apart from the places of its lines.
use Rattle.std.specs.Prelude.{◌≡◌, List, [], ◌∷◌}
use Rattle.std.specs.List.{AllByRecursion}
use Rattle.command_lines.specs.ValidCommands.{IsValidCommand}
use Rattle.command_lines.specs.declared.command.Command.{Command}
use Rattle.command_lines.specs.declared.line_reply.LineReply.{LineReply}
use Rattle.workers_text.specs.Entries.{HasSession}
use Rattle.workers_text.specs.declared.entry.Entry.{Entry}
use Rattle.workers_text.specs.declared.entry.Entry.TheVariants as entry
use Rattle.workers_text.specs.declared.script.Place.{Place}
use Rattle.workers_text.specs.declared.script.Place.TheVariants.{Command as ACommand, Bad}

-- the places, each of a command with the next of these commands
abbrev pub filled : List Place → List Command → List Entry
filled [] cs = []
filled (ACommand ∷ ps) [] = []
filled (ACommand ∷ ps) (c ∷ cs) = entry.Asked c ∷ filled ps cs
filled (Bad reply ∷ ps) cs = entry.Bad reply ∷ filled ps cs

-- there are just as many of these as places of commands
abbrev pub HavePlaces : {A : Type 0} → List Place → List A → Type 0
HavePlaces [] [] = Unit {0}
HavePlaces [] (x ∷ xs) = ⊥
HavePlaces (ACommand ∷ ps) [] = ⊥
HavePlaces (ACommand ∷ ps) (x ∷ xs) = HavePlaces ps xs
HavePlaces (Bad reply ∷ ps) xs = HavePlaces ps xs

-- a command may be done: what it asks is valid, and its session is there
pub record MayBeDone (c : Command) : Type 0 where
  pub valid : IsValidCommand c
  pub session : HasSession c

-- an entry's command, if it has one, may be done
abbrev pub IsDoable : Entry → Type 0
IsDoable (entry.Asked c) = MayBeDone c
IsDoable (entry.Bad reply) = Unit {0}

-- what a script keeps
pub record IsKept (ps : List Place) (cs : List Command) : Type 0 where
  pub places : HavePlaces ps cs
  pub doable : AllByRecursion MayBeDone cs

-- the replies in their places, where these are the commands'
abbrev pub put_in : List Place → List LineReply → List LineReply
put_in [] rs = []
put_in (Bad reply ∷ ps) rs = reply ∷ put_in ps rs
put_in (ACommand ∷ ps) [] = []
put_in (ACommand ∷ ps) (r ∷ rs) = r ∷ put_in ps rs

-- a place's reply is there: its own, or the first of these
abbrev pub HasReply : Place → List LineReply → Type 0
HasReply (Bad reply) rs = Unit {0}
HasReply ACommand [] = ⊥
HasReply ACommand (r ∷ rs) = Unit {0}

-- this is the place's reply
abbrev pub IsReplyAt : Place → List LineReply → LineReply → Type 0
IsReplyAt (Bad reply) rs r = r ≡ reply
IsReplyAt ACommand rs r = (rest : List LineReply) × (rs ≡ r ∷ rest)

-- the replies of the places behind
abbrev pub behind : Place → List LineReply → List LineReply
behind (Bad reply) rs = rs
behind ACommand [] = []
behind ACommand (r ∷ rs) = rs
