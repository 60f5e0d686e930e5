-- What is done of all lines is done of the first of them.
use Rattle.std.proofs.Common.{◌≡◌, ℕ, sym, subst, List, [], ◌++◌, append-nil}
use Rattle.call_contract.specs.Books.{Book, last}
use Rattle.call_contract.specs.Calls.{CallMeaning}
use Rattle.call_contract.specs.States.{State}
use Rattle.session_driver.specs.Sessions.{Does, DoesSome, Ends, Printed, doings_of}

pub done_in_part : {C : Type 0} (m : CallMeaning C) (s : ℕ) (st : State C) (book : Book C) (ps : List (Printed C)) → Does m s st book ps → DoesSome m s st book (doings_of ps)
done_in_part m s st book ps d = record {
  entries = d.entries;
  broken = [];
  rest = d.rest;
  book = d.book;
  done = ps;
  left = [];
  all = sym (append-nil (doings_of ps));
  lines = d.lines;
  breaks = tt;
  ends = subst (λ es. Ends m s (last m st es) d.rest) (sym (append-nil d.entries)) d.ends;
}
