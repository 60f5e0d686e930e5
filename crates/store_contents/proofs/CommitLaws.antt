-- What files stand for, when a commit is added and when other bytes are read as the same commits.
use Rattle.std.proofs.Common.{◌≡◌, ◌+◌, ℕ, true, List, [], ◌∷◌, ◌++◌, Some, None, Ok, refl, sym, ◌∙◌, ap}
use Rattle.std.proofs.lemmas.Bool.{eq-eqb}
use Rattle.tree_model.specs.Entries.{Entries, changed}
use Rattle.tree_model.specs.StoredTree.{broken_at}
use Rattle.journal.specs.Journals.{read}
use Rattle.journal.specs.Batches.{with_commits as with_commits_behind}
use Rattle.journal.specs.Groups.{with_commit}
use Rattle.journal.specs.declared.group.Group.{Group}
use Rattle.journal.specs.declared.group.Groups.{Groups}
use Rattle.store_contents.specs.Contents.{Contents, after_commits, last_of, with_commits, goes_on_from, contents_of_files}
use Rattle.store_contents.proofs.ContentsLaws.{commits_held, holds_commits, same_beside}

pub after_more : (groups : List Group) (group : Group) (es : Entries) → after_commits (groups ++ group ∷ []) es ≡ changed group.changes (after_commits groups es)
after_more [] group es = refl
after_more (g ∷ groups) group es = after_more groups group (changed g.changes es)

pub last_more : (groups : List Group) (group : Group) (number : ℕ) → last_of (groups ++ group ∷ []) number ≡ group.number
last_more [] group number = refl
last_more (g ∷ groups) group number = last_more groups group g.number

-- the commit that follows goes on, too
on_with : (groups : List Group) (group : Group) (base : ℕ) → goes_on_from (Some base) groups ≡ true → group.number ≡ last_of groups base + 1 → goes_on_from (Some base) (groups ++ group ∷ []) ≡ true
on_with [] group base on next = eq-eqb group.number (base + 1) next
on_with (g ∷ groups) group base on next = on

pub one_more : (journal longer pages : List ℕ) (groups : Groups) (group : Group) (contents : Contents)
    → read journal ≡ Ok groups → groups.images ≡ None → read longer ≡ Ok (with_commit groups group) → contents_of_files journal pages ≡ Ok contents
    → group.number ≡ contents.number + 1 → broken_at (changed group.changes contents.entries) ≡ None
    → contents_of_files longer pages ≡ Ok (record { entries = changed group.changes contents.entries; number = group.number })
one_more journal longer pages groups group contents before none after stood next keeps =
    let parts = holds_commits journal pages groups contents before none stood in
    let commits = groups.commits in
    let now : Contents = record { entries = changed group.changes contents.entries; number = group.number } in
    let is : now ≡ with_commits (commits ++ group ∷ []) parts.held =
    ap (λ (c : Contents). record { entries = changed group.changes c.entries; number = group.number }) parts.is
    ∙ (λ i. record { entries = sym (after_more commits group parts.held.0) i; number = sym (last_more commits group parts.held.1) i }) in
    commits_held longer pages (with_commit groups group) now after (record {
      held = parts.held;
      no_images = refl;
      pages_hold = parts.pages_hold;
      goes_on = on_with commits group parts.held.1 parts.goes_on (next ∙ ap (λ (c : Contents). c.number + 1) parts.is);
      is = is;
      keeps_rules = keeps;
    })

-- ---- many commits more

after_append : (groups more : List Group) (es : Entries) → after_commits (groups ++ more) es ≡ after_commits more (after_commits groups es)
after_append [] more es = refl
after_append (g ∷ groups) more es = after_append groups more (changed g.changes es)

last_append : (groups more : List Group) (number : ℕ) → last_of (groups ++ more) number ≡ last_of more (last_of groups number)
last_append [] more number = refl
last_append (g ∷ groups) more number = last_append groups more g.number

on_append : (groups more : List Group) (base : ℕ) → goes_on_from (Some base) groups ≡ true → goes_on_from (Some (last_of groups base)) more ≡ true → goes_on_from (Some base) (groups ++ more) ≡ true
on_append [] more base on next = next
on_append (g ∷ groups) more base on next = on

-- no bytes of the states between are needed, nor that their trees break no rule
pub many_more : (journal longer pages : List ℕ) (groups : Groups) (more : List Group) (contents : Contents)
    → read journal ≡ Ok groups → groups.images ≡ None → read longer ≡ Ok (with_commits_behind groups more) → contents_of_files journal pages ≡ Ok contents
    → goes_on_from (Some contents.number) more ≡ true → broken_at (after_commits more contents.entries) ≡ None
    → contents_of_files longer pages ≡ Ok (with_commits more (contents.entries, contents.number))
many_more journal longer pages groups more contents before none after stood next keeps =
    let parts = holds_commits journal pages groups contents before none stood in
    let commits = groups.commits in
    let is : with_commits more (contents.entries, contents.number) ≡ with_commits (commits ++ more) parts.held =
    ap (λ (c : Contents). with_commits more (c.entries, c.number)) parts.is
    ∙ (λ i. record { entries = sym (after_append commits more parts.held.0) i; number = sym (last_append commits more parts.held.1) i }) in
    commits_held longer pages (with_commits_behind groups more) (with_commits more (contents.entries, contents.number)) after (record {
      held = parts.held;
      no_images = refl;
      pages_hold = parts.pages_hold;
      goes_on = on_append commits more parts.held.1 parts.goes_on (ap (λ (c : Contents). goes_on_from (Some c.number) more) (sym parts.is) ∙ next);
      is = is;
      keeps_rules = keeps;
    })

pub same_groups : (journal other pages : List ℕ) (groups : Groups) → read journal ≡ Ok groups → read other ≡ Ok groups → contents_of_files other pages ≡ contents_of_files journal pages
same_groups journal other pages groups before after = same_beside pages other journal groups after before
