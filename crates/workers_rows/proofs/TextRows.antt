-- The worked text, by computation: each session's part of the book, and that other sessions have none.
use Rattle.std.proofs.Common.{◌≡◌, ◌==◌, ℕ, Bool, true, false, refl, sym, subst, [], ◌∷◌, ◌++◌, None}
use Rattle.std.proofs.Common.{inl}
use Rattle.std.specs.Cmp.{unsigned_Decides}
use Rattle.call_contract.specs.Books.{Book, next}
use Rattle.call_contract.specs.States.{State, start}
use Rattle.tree_model.specs.Tree.{empty_tree}
use Rattle.tree_model.specs.declared.dom_call.DomCall.{DomCall}
use Rattle.session_driver.specs.Sessions.{AreOthers, Meets, Part}
use Rattle.workers_text.specs.WorkersText.{WorkersText, printed_of}
use Rattle.workers_rows.specs.Rows.{book, docs_meaning, lines, order, replies}

first : Part docs_meaning 1 (start empty_tree 0 100) book None (printed_of 1 lines replies)
first = inl (refl, (refl, inl (inl (refl, (refl, inl (inl (inl (refl, (refl, tt)))))))))

second : Part docs_meaning 2 (start empty_tree 0 100) book None (printed_of 2 lines replies)
second = inl (inl (refl, (refl, inl (inl (refl, (refl, inl (refl, (refl, tt))))))))

-- a session without a line has no entry
idle : (s : ℕ) (ns : Book DomCall) (st : State DomCall) → AreOthers s ns → Part docs_meaning s st ns None []
idle s [] st o = tt
idle s (n ∷ ns) st o = subst (Meets docs_meaning s n [] (Part docs_meaning s (next docs_meaning st n) ns)) (sym o.0) (idle s ns (next docs_meaning st n) o.1)

others : (s : ℕ) → (1 == s) ≡ false → (2 == s) ≡ false → Part docs_meaning s (start empty_tree 0 100) book None []
others s e f = idle s book (start empty_tree 0 100) (e, (f, (e, (f, (f, (e, tt))))))

none_printed : (s : ℕ) → (1 == s) ≡ false → (2 == s) ≡ false → printed_of s lines replies ≡ []
none_printed s e f = rw (e, f) refl

part : (s : ℕ) (a b : Bool) → (1 == s) ≡ a → (2 == s) ≡ b → Part docs_meaning s (start empty_tree 0 100) book None (printed_of s lines replies)
part s true b e f = subst (λ k. Part docs_meaning k (start empty_tree 0 100) book None (printed_of k lines replies)) ((unsigned_Decides 1 s).0 e) first
part s false true e f = subst (λ k. Part docs_meaning k (start empty_tree 0 100) book None (printed_of k lines replies)) ((unsigned_Decides 2 s).0 f) second
part s false false e f = subst (Part docs_meaning s (start empty_tree 0 100) book None) (sym (none_printed s e f)) (others s e f)

pub second_commits_first : WorkersText docs_meaning empty_tree 0 100 lines (replies ++ order ∷ [])
second_commits_first = record {
  book = book;
  legal = record {
    run = (refl, (refl, (refl, (refl, (refl, (refl, tt))))));
    faults = (tt, (tt, (tt, (tt, (tt, (tt, tt))))));
  };
  replies = replies;
  text_is = refl;
  each = tt;
  does = λ s. record {
    entries = book;
    rest = [];
    book = refl;
    lines = part s (1 == s) (2 == s) refl refl;
    ends = refl;
  };
}
