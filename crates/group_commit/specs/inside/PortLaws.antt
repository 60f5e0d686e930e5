-- Ports go on as relations must: nothing done leaves a port, and two stretches of lines are one.
use Rattle.std.proofs.Common.{◌≡◌, ◌∙◌, ℕ, Bool, refl, sym, ap, subst, List, [], ◌∷◌, ◌++◌, Option, None, map, append_assoc, append-nil, true≢false}
use Rattle.std.specs.List.{AllByRecursion}
use Rattle.std.proofs.lemmas.List.{map-append}
use Rattle.tree_model.specs.Entries.{Entries}
use Rattle.tree_model.specs.Tree.{Tree}
use Rattle.call_contract.specs.Books.{Book, IsRun, last}
use Rattle.call_contract.specs.Calls.{CallMeaning}
use Rattle.call_contract.specs.States.{start}
use Rattle.call_contract.proofs.Appends.{last_append, run_first}
use Rattle.command_lines.specs.declared.command.StoreCall.{StoreCall}
use Rattle.shared_store.specs.Lists.{book_of}
use Rattle.shared_store.specs.Sessions.{SessionView, having_seen}
use Rattle.shared_store.specs.declared.desk.Entry.{Entry}
use Rattle.shared_store.specs.declared.desk.Entry.TheVariants as kind
use Rattle.shared_store.proofs.Done.{book_append}
use Rattle.group_commit.specs.Members.{MarksPass}
use Rattle.worker_run.specs.Ports.{Exchange}
use Rattle.group_commit.specs.OwnLines.{printed}
use Rattle.session_driver.specs.Sessions.{Part, Printed}
use Rattle.group_commit.specs.StorePorts.{GrewFor, HasPart, IsOnlyOf, IsOpenedOver, IsSamePass, PortView, store_ports}
use Rattle.session_driver.specs.inside.SessionLaws.{stretches}

pub all_append : {X : Type 0} (P : X → Type 0) (xs ys : List X) → AllByRecursion P xs → AllByRecursion P ys → AllByRecursion P (xs ++ ys)
all_append P [] ys a b = b
all_append P (x ∷ xs) ys a b = (a.0, all_append P xs ys a.1 b)

module _ {C B : Type 0} where
  -- ---- lists that go on

  abbrev pub grew_nothing : (has : List Bool) (s : ℕ) (xs : List (Entry C B)) → GrewFor has s xs xs
  grew_nothing has s xs = record { added = []; list = sym (append-nil xs); only = tt }

  abbrev pub grew_on : (has : List Bool) (s : ℕ) (xs ys zs : List (Entry C B)) → GrewFor has s xs ys → GrewFor has s ys zs → GrewFor has s xs zs
  grew_on has s xs ys zs a b = record {
    added = a.added ++ b.added;
    list = b.list ∙ ap (λ (l : List (Entry C B)). l ++ b.added) a.list ∙ append_assoc xs a.added b.added;
    only = all_append (IsOnlyOf has s) a.added b.added a.only b.only;
  }

  pub book_grew : (xs ys added : List (Entry C B)) → ys ≡ xs ++ added → book_of ys ≡ book_of xs ++ book_of added
  book_grew xs ys added e = ap book_of e ∙ book_append xs added

  -- ---- passes

  pub pass_itself : (p : MarksPass C B) → IsSamePass p p
  pass_itself p = record { lock = refl; has = refl; opening = refl }

  pub pass_on : (p q r : MarksPass C B) → IsSamePass p q → IsSamePass q r → IsSamePass p r
  pass_on p q r a b = record { lock = b.lock ∙ a.lock; has = b.has ∙ a.has; opening = b.opening ∙ a.opening }

  -- ---- openings

  -- a list that goes on is opened as before
  opened_longer : (told : B → Option Entries) (xs more : List (Entry C B)) (t : Tree) (n l : ℕ) → IsOpenedOver told xs t n l → IsOpenedOver told (xs ++ more) t n l
  opened_longer told [] more t n l is = absurd (true≢false (sym is.opened))
  opened_longer told (kind.Opening o k j b d ∷ xs) more t n l is = record { opened = refl; tree = is.tree; number = is.number; limit = is.limit }
  opened_longer told (kind.Noted k ∷ xs) more t n l is = absurd (true≢false (sym is.opened))
  opened_longer told (kind.Drained k ∷ xs) more t n l is = absurd (true≢false (sym is.opened))

  pub opened_on : (told : B → Option Entries) (xs ys added : List (Entry C B)) → ys ≡ xs ++ added → (t : Tree) (n l : ℕ) → IsOpenedOver told xs t n l → IsOpenedOver told ys t n l
  opened_on told xs ys added e t n l is = subst (λ (z : List (Entry C B)). IsOpenedOver told z t n l) (sym e) (opened_longer told xs added t n l is)

module _ {C B : Type 0} (told : B → Option Entries) (m : CallMeaning C) where
  -- the first part of a run is one
  pub run_before : (t : Tree) (n l : ℕ) (xs ys added : List (Entry C B)) → ys ≡ xs ++ added → IsRun m (start t n l) (book_of ys) → IsRun m (start t n l) (book_of xs)
  run_before t n l xs ys added e run = run_first m (start t n l) (book_of xs) (book_of added) (subst (λ (b : Book C). IsRun m (start t n l) b) (book_grew xs ys added e) run)

  -- ---- parts

  pub part_nothing : (has : List Bool) (s : ℕ) (xs : List (Entry C B)) → HasPart told m has s xs xs []
  part_nothing has s xs = record { grew = grew_nothing has s xs; part = λ t n l is run. tt }

  pub part_on : (has : List Bool) (s : ℕ) (xs ys zs : List (Entry C B)) (ps qs : List (Printed C)) → HasPart told m has s xs ys ps → HasPart told m has s ys zs qs → HasPart told m has s xs zs (ps ++ qs)
  part_on has s xs ys zs ps qs a b = record {
    grew = grew_on has s xs ys zs a.grew b.grew;
    part = λ t n l is run.
        let first = a.part t n l is (run_before t n l ys zs b.grew.added b.grew.list run) in
        let later_on = b.part t n l (opened_on told xs ys a.grew.added a.grew.list t n l is) run in
        let state = ap (last m (start t n l)) (book_grew xs ys a.grew.added a.grew.list) ∙ last_append m (start t n l) (book_of xs) (book_of a.grew.added) in
        subst (λ (bk : Book C). Part m s (last m (start t n l) (book_of xs)) bk None (ps ++ qs)) (sym (book_append a.grew.added b.grew.added))
        (stretches m s (book_of a.grew.added) (book_of b.grew.added) (last m (start t n l) (book_of xs)) ps qs first (subst (λ st. Part m s st (book_of b.grew.added) None qs) state later_on));
  }

  -- ---- ports

  module _ (made : StoreCall → C) where
    pub nothing_done : (p : PortView C B) → (store_ports told m made).did p [] p
    nothing_done p = (refl, part_nothing p.session.has p.session.under p.session.seen, pass_itself p.pass)

    pub done_on : (p q r : PortView C B) (xs ys : List Exchange) → (store_ports told m made).did p xs q → (store_ports told m made).did q ys r → (store_ports told m made).did p (xs ++ ys) r
    done_on p q r xs ys a b =
        let has : q.session.has ≡ p.session.has = ap (λ (v : SessionView C B). v.has) a.0 in
        let under : q.session.under ≡ p.session.under = ap (λ (v : SessionView C B). v.under) a.0 in
        let next = subst (λ (h : List Bool). HasPart told m h q.session.under q.session.seen r.session.seen (map (printed made) ys)) has b.1 in
        let later_on = subst (λ (u : ℕ). HasPart told m p.session.has u q.session.seen r.session.seen (map (printed made) ys)) under next in (
          b.0 ∙ ap (having_seen r.session.seen) a.0,
          subst (HasPart told m p.session.has p.session.under p.session.seen r.session.seen) (sym (map-append (printed made) xs ys))
              (part_on p.session.has p.session.under p.session.seen q.session.seen r.session.seen (map (printed made) xs) (map (printed made) ys) a.1 later_on),
          pass_on p.pass q.pass r.pass a.2 b.2,
        )
