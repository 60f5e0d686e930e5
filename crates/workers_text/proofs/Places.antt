-- Commands apart from the places of their lines, put together again.
use Rattle.std.specs.Prelude.{flat_map, Result, Ok, Err, OnOk, OnErr}
use Rattle.std.specs.List.{AllByRecursion}
use Rattle.std.proofs.Common.{◌≡◌, ℕ, List, [], ◌∷◌, ◌++◌, length, refl, sym, ap, ◌∙◌, subst, arith, append_assoc, append-nil}
use Rattle.command_lines.specs.Replies.{reply_text}
use Rattle.command_lines.specs.ValidCommands.{IsValidCommand}
use Rattle.command_lines.specs.declared.command.Command.{Command}
use Rattle.command_lines.specs.declared.line_reply.LineReply.{LineReply}
use Rattle.workers_text.specs.Entries.{HasSession, commands_in, in_places}
use Rattle.workers_text.specs.declared.entry.Entry.{Entry}
use Rattle.workers_text.specs.declared.entry.Entry.TheVariants as entry
use Rattle.workers_text.specs.declared.script.Place.{Place}
use Rattle.workers_text.specs.declared.script.Place.TheVariants.{Command as ACommand, Bad}
use Rattle.workers_text.specs.inside.Places.{HasReply, HavePlaces, IsKept, IsReplyAt, MayBeDone, behind, filled, put_in}

-- ---- the commands

pub commands_back : (ps : List Place) (cs : List Command) → HavePlaces ps cs → commands_in (filled ps cs) ≡ cs
commands_back [] [] h = refl
commands_back [] (c ∷ cs) h = absurd h
commands_back (ACommand ∷ ps) [] h = absurd h
commands_back (ACommand ∷ ps) (c ∷ cs) h = ap (λ t. c ∷ t) (commands_back ps cs h)
commands_back (Bad r ∷ ps) cs h = commands_back ps cs h

pub all_valid : (cs : List Command) → AllByRecursion MayBeDone cs → AllByRecursion IsValidCommand cs
all_valid [] h = tt
all_valid (c ∷ cs) h = (h.0.valid, all_valid cs h.1)

pub all_have_sessions : (cs : List Command) → AllByRecursion MayBeDone cs → AllByRecursion HasSession cs
all_have_sessions [] h = tt
all_have_sessions (c ∷ cs) h = (h.0.session, all_have_sessions cs h.1)

-- ---- a line more

pub bad_more : (ps : List Place) (cs : List Command) (r : LineReply) → HavePlaces ps cs → filled (ps ++ Bad r ∷ []) cs ≡ filled ps cs ++ entry.Bad r ∷ []
bad_more [] [] r h = refl
bad_more [] (c ∷ cs) r h = absurd h
bad_more (ACommand ∷ ps) [] r h = absurd h
bad_more (ACommand ∷ ps) (c ∷ cs) r h = ap (λ t. entry.Asked c ∷ t) (bad_more ps cs r h)
bad_more (Bad b ∷ ps) cs r h = ap (λ t. entry.Bad b ∷ t) (bad_more ps cs r h)

bad_has_place : (ps : List Place) (cs : List Command) (r : LineReply) → HavePlaces ps cs → HavePlaces (ps ++ Bad r ∷ []) cs
bad_has_place [] [] r h = tt
bad_has_place [] (c ∷ cs) r h = absurd h
bad_has_place (ACommand ∷ ps) [] r h = absurd h
bad_has_place (ACommand ∷ ps) (c ∷ cs) r h = bad_has_place ps cs r h
bad_has_place (Bad b ∷ ps) cs r h = bad_has_place ps cs r h

pub bad_is_kept : (ps : List Place) (cs : List Command) (r : LineReply) → IsKept ps cs → IsKept (ps ++ Bad r ∷ []) cs
bad_is_kept ps cs r k = record { places = bad_has_place ps cs r k.places; doable = k.doable }

pub command_more : (ps : List Place) (cs : List Command) (d : Command) → HavePlaces ps cs → filled (ps ++ ACommand ∷ []) (cs ++ d ∷ []) ≡ filled ps cs ++ entry.Asked d ∷ []
command_more [] [] d h = refl
command_more [] (c ∷ cs) d h = absurd h
command_more (ACommand ∷ ps) [] d h = absurd h
command_more (ACommand ∷ ps) (c ∷ cs) d h = ap (λ t. entry.Asked c ∷ t) (command_more ps cs d h)
command_more (Bad b ∷ ps) cs d h = ap (λ t. entry.Bad b ∷ t) (command_more ps cs d h)

command_has_place : (ps : List Place) (cs : List Command) (d : Command) → HavePlaces ps cs → HavePlaces (ps ++ ACommand ∷ []) (cs ++ d ∷ [])
command_has_place [] [] d h = tt
command_has_place [] (c ∷ cs) d h = absurd h
command_has_place (ACommand ∷ ps) [] d h = absurd h
command_has_place (ACommand ∷ ps) (c ∷ cs) d h = command_has_place ps cs d h
command_has_place (Bad b ∷ ps) cs d h = command_has_place ps cs d h

one_more : (cs : List Command) (d : Command) → AllByRecursion MayBeDone cs → MayBeDone d → AllByRecursion MayBeDone (cs ++ d ∷ [])
one_more [] d h m = (m, tt)
one_more (c ∷ cs) d h m = (h.0, one_more cs d h.1 m)

pub command_is_kept : (ps : List Place) (cs : List Command) (d : Command) → IsKept ps cs → MayBeDone d → IsKept (ps ++ ACommand ∷ []) (cs ++ d ∷ [])
command_is_kept ps cs d k m = record { places = command_has_place ps cs d k.places; doable = one_more cs d k.doable m }

module _ {T E : Type 0} where
  -- a bad line was added, or nothing was
  pub bad_leaves : (r : Result T E) (ps new : List Place) (cs : List Command) (b : LineReply) → OnOk r (new ≡ ps ++ Bad b ∷ []) → OnErr r (new ≡ ps) → IsKept ps cs → IsKept new cs
  bad_leaves (Ok x) ps new cs b ok err k = subst (λ t. IsKept t cs) (sym ok) (bad_is_kept ps cs b k)
  bad_leaves (Err e) ps new cs b ok err k = subst (λ t. IsKept t cs) (sym err) k

  pub bad_adds : (r : Result T E) (ps new : List Place) (cs : List Command) (b : LineReply) (e : Entry) (es : List Entry) → e ≡ entry.Bad b → filled ps cs ≡ es → HavePlaces ps cs → OnOk r (new ≡ ps ++ Bad b ∷ [])
      → OnOk r (filled new cs ≡ es ++ e ∷ [])
  bad_adds (Ok x) ps new cs b e es is view h ok = ap (λ t. filled t cs) ok ∙ bad_more ps cs b h ∙ (λ j. view j ++ sym is j ∷ [])
  bad_adds (Err x) ps new cs b e es is view h ok = tt

  -- a command was added with its place, or neither was
  pub command_leaves : (r : Result T E) (ps new : List Place) (cs more : List Command) (d : Command) → OnOk r (more ≡ cs ++ d ∷ []) → OnOk r (new ≡ ps ++ ACommand ∷ []) → OnErr r ((more ≡ cs) × (new ≡ ps))
      → MayBeDone d → IsKept ps cs → IsKept new more
  command_leaves (Ok x) ps new cs more d commands places err m k = subst (λ t. IsKept t more) (sym places) (subst (IsKept (ps ++ ACommand ∷ [])) (sym commands) (command_is_kept ps cs d k m))
  command_leaves (Err x) ps new cs more d commands places err m k = subst (λ t. IsKept t more) (sym err.1) (subst (IsKept ps) (sym err.0) k)

  pub command_adds : (r : Result T E) (ps new : List Place) (cs more : List Command) (d : Command) (e : Entry) (es : List Entry) → e ≡ entry.Asked d → filled ps cs ≡ es → HavePlaces ps cs → OnOk r (more ≡ cs ++ d ∷ [])
      → OnOk r (new ≡ ps ++ ACommand ∷ []) → OnOk r (filled new more ≡ es ++ e ∷ [])
  command_adds (Ok x) ps new cs more d e es is view h commands places = (λ j. filled (places j) (commands j)) ∙ command_more ps cs d h ∙ (λ j. view j ++ sym is j ∷ [])
  command_adds (Err x) ps new cs more d e es is view h commands places = tt

-- ---- replies

-- as many replies as commands have the places of these
pub as_many : (ps : List Place) (cs : List Command) (rs : List LineReply) → HavePlaces ps cs → length rs ≡ length (commands_in (filled ps cs)) → HavePlaces ps rs
as_many [] [] [] h all = tt
as_many [] [] (r ∷ rs) h all = absurd (omega arith)
as_many [] (c ∷ cs) rs h all = absurd h
as_many (ACommand ∷ ps) [] rs h all = absurd h
as_many (ACommand ∷ ps) (c ∷ cs) [] h all = absurd (omega arith)
as_many (ACommand ∷ ps) (c ∷ cs) (r ∷ rs) h all = as_many ps cs rs h (omega arith)
as_many (Bad b ∷ ps) cs rs h all = as_many ps cs rs h all

pub same_places : (ps : List Place) (cs : List Command) (rs : List LineReply) → HavePlaces ps cs → put_in ps rs ≡ in_places (filled ps cs) rs
same_places [] [] rs h = refl
same_places [] (c ∷ cs) rs h = absurd h
same_places (ACommand ∷ ps) [] rs h = absurd h
same_places (ACommand ∷ ps) (c ∷ cs) [] h = refl
same_places (ACommand ∷ ps) (c ∷ cs) (r ∷ rs) h = ap (λ t. r ∷ t) (same_places ps cs rs h)
same_places (Bad b ∷ ps) cs rs h = ap (λ t. b ∷ t) (same_places ps cs rs h)

-- ---- places one after the other

pub reply_there : (p : Place) (ps : List Place) (rs : List LineReply) → HavePlaces (p ∷ ps) rs → HasReply p rs
reply_there (Bad b) ps rs h = tt
reply_there ACommand ps [] h = h
reply_there ACommand ps (r ∷ rs) h = tt

pub places_on : (p : Place) (ps : List Place) (rs : List LineReply) → HavePlaces (p ∷ ps) rs → HavePlaces ps (behind p rs)
places_on (Bad b) ps rs h = h
places_on ACommand ps [] h = absurd h
places_on ACommand ps (r ∷ rs) h = h

-- a reply's text was put behind `out`
wrote : (r b : LineReply) (rs : List LineReply) (out new all : List ℕ) → r ≡ b → new ≡ out ++ reply_text r → out ++ flat_map reply_text (b ∷ rs) ≡ all → new ++ flat_map reply_text rs ≡ all
wrote r b rs out new all is put so_far = ap (λ t. t ++ flat_map reply_text rs) (put ∙ ap (λ q. out ++ reply_text q) is) ∙ append_assoc out (reply_text b) (flat_map reply_text rs) ∙ so_far

pub text_on : (p : Place) (ps : List Place) (rs : List LineReply) (r : LineReply) (out new all : List ℕ) → HavePlaces (p ∷ ps) rs → IsReplyAt p rs r → new ≡ out ++ reply_text r
    → out ++ flat_map reply_text (put_in (p ∷ ps) rs) ≡ all → new ++ flat_map reply_text (put_in ps (behind p rs)) ≡ all
text_on (Bad b) ps rs r out new all h is put so_far = wrote r b (put_in ps rs) out new all is put so_far
text_on ACommand ps [] r out new all h is put so_far = absurd h
text_on ACommand ps (q ∷ rs) r out new all h is put so_far = let same : r ≡ q = cc (is.1) in wrote r q (put_in ps rs) out new all same put so_far

-- no place is left
pub text_whole : (rs : List LineReply) (out all : List ℕ) → out ++ flat_map reply_text (put_in [] rs) ≡ all → out ≡ all
text_whole rs out all so_far = sym (append-nil out) ∙ so_far
