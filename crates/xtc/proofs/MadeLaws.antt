-- What the files hold where checkpoints were made behind the commits of a book.
use Rattle.std.proofs.Common.{◌≡◌, ℕ, ◌+◌, true, List, length, sym, ap, ◌∙◌, subst}
use Rattle.std.specs.Prelude.{Option, None, Some, IfSome, Ok}
use Rattle.tree_model.specs.Entries.{Entries}
use Rattle.tree_model.specs.Tree.{Tree, map_of}
use Rattle.node_pages.specs.PageFiles.{contents_of_file}
use Rattle.journal.specs.Journals.{read}
use Rattle.journal.specs.declared.group.Groups.{Groups}
use Rattle.store_contents.specs.Contents.{Contents, HoldsCommits, contents_of_files, goes_on_from, last_of}
use Rattle.store_contents.proofs.ContentsLaws.{holds_commits}
use Rattle.call_contract.specs.Books.{Book, commits}
use Rattle.session_driver.specs.Asking.{BookCall}
use Rattle.xtc.specs.Checkpoints.{AreMade, HoldFirst, MadeBehind, last_of_command, tree_after}
use Rattle.command_words.specs.Commands.{Command}

if_some : {A : Type 0} (P Q : A → Type 0) → ((a : A) → P a → Q a) → (o : Option A) → IfSome o P → IfSome o Q
if_some P Q leads None p = tt
if_some P Q leads (Some a) p = leads a p

same_held : (x y : Entries × ℕ) (pages : List ℕ) → contents_of_file pages ≡ Ok x → contents_of_file pages ≡ Ok y → x ≡ y
same_held x y pages one other = let both : Ok x ≡ Ok y = sym one ∙ other in cc

module _ (c : Command) (every : ℕ) (t : Tree) (n : ℕ) (book : Book BookCall) (journal pages : List ℕ) (groups : Groups) (reads : read journal ≡ Ok groups) (none : groups.images ≡ None)
    (entries : Entries) (opens : contents_of_files journal pages ≡ Ok (record { entries = entries; number = n + length (commits book) })) where
  parts : HoldsCommits pages groups (record { entries = entries; number = n + length (commits book) })
  parts = holds_commits journal pages groups _ reads none opens

  behind : (m : ℕ) → HoldFirst t n book m pages → MadeBehind t n book journal pages m
  behind m hold =
      let held : parts.held ≡ (map_of (tree_after t book m), n + m) = same_held parts.held (map_of (tree_after t book m), n + m) pages parts.pages_hold hold in
      record {
        hold = hold;
        groups = groups.commits;
        reads = reads ∙ (λ i. Ok (record { commits = groups.commits; images = none i }));
        goes_on = subst (λ (k : ℕ). goes_on_from (Some k) groups.commits ≡ true) (ap (λ (h : Entries × ℕ). h.1) held) parts.goes_on;
        last = ap (λ (k : ℕ). last_of groups.commits k) (sym (ap (λ (h : Entries × ℕ). h.1) held)) ∙ sym (ap (λ (c : Contents). c.number) parts.is);
      }

  -- where the pages hold what the last checkpoint has made of them, the journal has the commits behind it
  pub are_made : IfSome (last_of_command (Some c) every t n book) (λ m. HoldFirst t n book m pages) → AreMade (Some c) every t n book journal pages
  are_made held = if_some (λ m. HoldFirst t n book m pages) (MadeBehind t n book journal pages) behind (last_of_command (Some c) every t n book) held
