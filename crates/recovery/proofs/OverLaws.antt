-- What an opening answers over pages, by what was read of them.
use Rattle.std.proofs.Common.{◌≡◌, inl, inr, ℕ, ◌+◌, Bool, true, false, not, ◌&&◌, List, [], ◌∷◌, Option, Some, None, unwrap_or, Result, Ok, Err, IsTrue, if◌then◌else◌, refl, sym, ◌∙◌, ap, subst}
use Rattle.std.specs.Prelude.{is_some}
use Rattle.dewey_labels.specs.Lists.{is_empty}
use Rattle.outside_traits.specs.DiskPairs.{pair_of}
use Rattle.outside_traits.specs.Moments.{History}
use Rattle.tree_model.specs.Entries.{Entries, changed}
use Rattle.tree_model.specs.StoredTree.{IsStoredTree, broken_at}
use Rattle.tree_model.specs.declared.change.Change.{Change}
use Rattle.tree_model.proofs.UnbrokenTrees.{unbroken}
use Rattle.node_records.specs.declared.open_error.Place.{Place}
use Rattle.node_records.specs.declared.open_error.File.TheVariants.{Journal, Pages, Tree}
use Rattle.node_pages.specs.PageFiles.{contents_of_file, place_of_page}
use Rattle.journal.specs.Groups.{is_next, only_commits}
use Rattle.journal.specs.Heads.{first_gate}
use Rattle.journal.specs.Journals.{is_fresh, read}
use Rattle.journal.specs.Appends.{groups_read, last_number, number_of}
use Rattle.journal.specs.Openings.{TakesCommits}
use Rattle.journal.specs.Views.{JournalView}
use Rattle.journal.specs.declared.group.Group.{Group}
use Rattle.journal.specs.declared.group.Groups.{Groups}
use Rattle.journal.specs.declared.group.Images.{Images}
use Rattle.journal.proofs.FreshSteps.{fresh_reads}
use Rattle.overlays.specs.Views.{contents_after}
use Rattle.paged_seq.specs.PagedMaps.{entries_or_none, map_of_file, valid_entries}
use Rattle.store_contents.specs.Contents.{Contents, after_commits, base_of, checked, contents_beside, contents_from, first_broken, goes_on_from, last_of, over_pages, place_in, with_commits}
use Rattle.store_contents.proofs.ContentsLaws.{base_is, by_damage, by_groups, of_parts, over_commits}
use Rattle.store_contents.proofs.TreeLaws.{stand_for_one}
use Rattle.recovery.specs.Openings.{OpensPages, TakesBehind}
use Rattle.recovery.specs.inside.Nets.{IsMisfit, NetOf}
use Rattle.recovery.specs.inside.Over.{FollowsOver, IsRefusedAt, answer_before, answer_over, groups_before, groups_over, has_none}
use Rattle.recovery.proofs.AnswerLaws.{follows}

-- ---- groups

-- groups without images are their commits
pub commits_alone : (groups : Groups) → is_some groups.images ≡ false → groups ≡ only_commits groups.commits
commits_alone groups none = elim groups.images as (λ (o : Option Images). groups.images ≡ o → is_some o ≡ false → groups ≡ only_commits groups.commits) [
  | None ↦ λ is _. (λ i. record { commits = groups.commits; images = is i })
  | Some images ↦ λ is e. cc
] refl none

pub no_images : (groups : Groups) → groups ≡ only_commits groups.commits → groups.images ≡ None
no_images groups is = ap (λ (gs : Groups). gs.images) is

-- none at all
pub none_at_all : (groups : Groups) → has_none groups ≡ true → groups ≡ only_commits []
none_at_all groups h = elim groups.commits as (λ (l : List Group). groups.commits ≡ l → (is_empty l && not (is_some groups.images)) ≡ true → groups ≡ only_commits []) [
  | [] ↦ λ c e. elim groups.images as (λ (o : Option Images). groups.images ≡ o → not (is_some o) ≡ true → groups ≡ only_commits []) [
    | None ↦ λ is _. (λ i. record { commits = c i; images = is i })
    | Some images ↦ λ is f. cc
  ] refl e
  | (g ∷ gs) ↦ λ c e. cc
] refl h

-- no commit goes on from any base
none_goes_on : (base : Option ℕ) → goes_on_from base [] ≡ true
none_goes_on None = refl
none_goes_on (Some base) = refl

-- ---- what is answered of a journal, by its groups

pub answer_by_groups : (held : Entries × ℕ) (journal : List ℕ) (groups : Groups) → read journal ≡ Ok groups → answer_over held journal ≡ groups_over held groups
answer_by_groups held journal groups h = ap (λ (r : Result Groups ℕ). elim r as (λ _. Result Contents Place) [ Ok gs ↦ groups_over held gs | Err at ↦ Err (place_in Journal (first_broken (Some held.1) journal at)) ]) h

pub answer_by_damage : (held : Entries × ℕ) (journal : List ℕ) (at : ℕ) → read journal ≡ Err at → answer_over held journal ≡ Err (place_in Journal (first_broken (Some held.1) journal at))
answer_by_damage held journal at h = ap (λ (r : Result Groups ℕ). elim r as (λ _. Result Contents Place) [ Ok gs ↦ groups_over held gs | Err n ↦ Err (place_in Journal (first_broken (Some held.1) journal n)) ]) h

pub before_by_groups : (base : Option ℕ) (journal : List ℕ) (groups : Groups) → read journal ≡ Ok groups → answer_before base journal ≡ groups_before base groups
before_by_groups base journal groups h = ap (λ (r : Result Groups ℕ). elim r as (λ _. Option Place) [ Ok gs ↦ groups_before base gs | Err at ↦ Some (place_in Journal (first_broken base journal at)) ]) h

pub before_by_damage : (base : Option ℕ) (journal : List ℕ) (at : ℕ) → read journal ≡ Err at → answer_before base journal ≡ Some (place_in Journal (first_broken base journal at))
before_by_damage base journal at h = ap (λ (r : Result Groups ℕ). elim r as (λ _. Option Place) [ Ok gs ↦ groups_before base gs | Err n ↦ Some (place_in Journal (first_broken base journal n)) ]) h

-- a map with a record that breaks a rule of the tree
pub misfit_checked : (contents : Contents) (place : Place) → IsMisfit contents.entries place → checked contents ≡ Err place
misfit_checked contents place misfit = ap (λ (o : Option ℕ). elim o as (λ _. Result Contents Place) [ None ↦ Ok contents | Some at ↦ Err (place_in Tree at) ]) misfit.1 ∙ ap (λ (p : Place). Err p) (sym misfit.2)

-- of groups that go on from the base
pub groups_misfit : (records : Entries) (base : ℕ) (groups : Groups) (place : Place) → is_some groups.images ≡ false → goes_on_from (Some base) groups.commits ≡ true
    → IsMisfit (after_commits groups.commits records) place → groups_over (records, base) groups ≡ Err place
groups_misfit records base groups place none on misfit =
    ap (λ (b : Bool). if b then Err (place_in Pages 0) else if goes_on_from (Some base) groups.commits then checked (with_commits groups.commits (records, base)) else Err (place_in Journal first_gate)) none
    ∙ ap (λ (b : Bool). if b then checked (with_commits groups.commits (records, base)) else Err (place_in Journal first_gate)) on
    ∙ misfit_checked (with_commits groups.commits (records, base)) place misfit

pub groups_with_images : (held : Entries × ℕ) (groups : Groups) → is_some groups.images ≡ true → groups_over held groups ≡ Err (place_in Pages 0)
groups_with_images held groups some =
    ap (λ (b : Bool). if b then Err (place_in Pages 0) else if goes_on_from (Some held.1) groups.commits then checked (with_commits groups.commits held) else Err (place_in Journal first_gate)) some

pub groups_apart : (held : Entries × ℕ) (groups : Groups) → is_some groups.images ≡ false → goes_on_from (Some held.1) groups.commits ≡ false → groups_over held groups ≡ Err (place_in Journal first_gate)
groups_apart held groups none apart =
    ap (λ (b : Bool). if b then Err (place_in Pages 0) else if goes_on_from (Some held.1) groups.commits then checked (with_commits groups.commits held) else Err (place_in Journal first_gate)) none
    ∙ ap (λ (b : Bool). if b then checked (with_commits groups.commits held) else Err (place_in Journal first_gate)) apart

-- a fresh journal has none
pub fresh_misfit : (records : Entries) (base : ℕ) (journal : List ℕ) (place : Place) → is_fresh journal ≡ true → IsMisfit records place → answer_over (records, base) journal ≡ Err place
fresh_misfit records base journal place fresh misfit = answer_by_groups (records, base) journal (only_commits []) (fresh_reads journal fresh) ∙ misfit_checked (with_commits [] (records, base)) place misfit

-- ---- what two files stand for

abbrev place_told : Place → Result Contents Place → Place
place_told other (Ok contents) = other
place_told other (Err place) = place

-- beside pages that break no rule
module _ (pages journal : List ℕ) (held : Entries × ℕ) (hold : contents_of_file pages ≡ Ok held) where
  -- without images the commits are made on what they hold
  over_held : (groups : Groups) → groups.images ≡ None → contents_from pages groups ≡ (if goes_on_from (Some held.1) groups.commits then checked (with_commits groups.commits held) else Err (place_in Journal first_gate))
  over_held groups none =
      over_commits pages groups none
      ∙ ap (λ (o : Option ℕ). if goes_on_from o groups.commits then over_pages groups.commits (contents_of_file pages) else Err (place_in Journal first_gate)) (base_is pages held hold)
      ∙ ap (λ (r : Result (Entries × ℕ) ℕ). if goes_on_from (Some held.1) groups.commits then over_pages groups.commits r else Err (place_in Journal first_gate)) hold

  by_images : (groups : Groups) (place : Place) (o : Option Images) → groups.images ≡ o → read journal ≡ Ok groups
      → (if is_some o then Err (place_in Pages 0) else if goes_on_from (Some held.1) groups.commits then checked (with_commits groups.commits held) else Err (place_in Journal first_gate)) ≡ Err place
      → IsRefusedAt journal pages place
  by_images groups place None none h e = inl (by_groups pages journal groups h ∙ over_held groups none ∙ e)
  by_images groups place (Some images) some h e = inr (record { groups = groups; reads = h; has = ap is_some some }, sym (ap (place_told place) e))

  pub refused_over : (place : Place) → answer_over held journal ≡ Err place → IsRefusedAt journal pages place
  refused_over place = elim (read journal) as (λ (r : Result Groups ℕ). read journal ≡ r → elim r as (λ _. Result Contents Place) [ Ok groups ↦ groups_over held groups | Err at ↦ Err (place_in Journal (first_broken (Some held.1) journal at)) ] ≡ Err place → IsRefusedAt journal pages place) [
    | Ok groups ↦ λ h e. by_images groups place groups.images refl h e
    | Err at ↦ λ h e. inl (by_damage pages journal at h ∙ ap (λ (base : Option ℕ). Err (place_in Journal (first_broken base journal at))) (base_is pages held hold) ∙ e)
  ] refl

-- beside pages that break a rule
module _ (pages journal : List ℕ) (n : ℕ) (broken : contents_of_file pages ≡ Err n) where
  abbrev page : Place
  page = place_in Pages (place_of_page n)

  by_first : (groups : Groups) (b : Bool) → groups.images ≡ None → goes_on_from (base_of pages) groups.commits ≡ b → read journal ≡ Ok groups
      → IsRefusedAt journal pages (unwrap_or (if b then None else Some (place_in Journal first_gate)) page)
  by_first groups true none on h = inl (by_groups pages journal groups h ∙ over_commits pages groups none
      ∙ ap (λ (b : Bool). if b then over_pages groups.commits (contents_of_file pages) else Err (place_in Journal first_gate)) on ∙ ap (over_pages groups.commits) broken)
  by_first groups false none on h = inl (by_groups pages journal groups h ∙ over_commits pages groups none
      ∙ ap (λ (b : Bool). if b then over_pages groups.commits (contents_of_file pages) else Err (place_in Journal first_gate)) on)

  before_images : (groups : Groups) (o : Option Images) → groups.images ≡ o → read journal ≡ Ok groups
      → IsRefusedAt journal pages (unwrap_or (if is_some o then Some (place_in Pages 0) else if goes_on_from (base_of pages) groups.commits then None else Some (place_in Journal first_gate)) page)
  before_images groups None none h = by_first groups (goes_on_from (base_of pages) groups.commits) none refl h
  before_images groups (Some images) some h = inr (record { groups = groups; reads = h; has = ap is_some some }, refl)

  pub refused_before : IsRefusedAt journal pages (unwrap_or (answer_before (base_of pages) journal) page)
  refused_before = elim (read journal) as (λ (r : Result Groups ℕ). read journal ≡ r
      → IsRefusedAt journal pages (unwrap_or (elim r as (λ _. Option Place) [ Ok groups ↦ groups_before (base_of pages) groups | Err at ↦ Some (place_in Journal (first_broken (base_of pages) journal at)) ]) page)) [
        | Ok groups ↦ λ h. before_images groups groups.images refl h
        | Err at ↦ λ h. inl (by_damage pages journal at h)
      ] refl

  pub refused_fresh : is_fresh journal ≡ true → IsRefusedAt journal pages page
  refused_fresh fresh = inl (by_groups pages journal (only_commits []) (fresh_reads journal fresh)
      ∙ ap (λ (b : Bool). if b then over_pages [] (contents_of_file pages) else Err (place_in Journal first_gate)) (none_goes_on (base_of pages)) ∙ ap (over_pages []) broken)

-- ---- what an opened store stands for

tree_unbroken : (es : Entries) → IsStoredTree es → broken_at es ≡ None
tree_unbroken es stored = ap broken_at (sym stored.map) ∙ unbroken stored.tree stored.is_valid_tree

-- the commits that were followed
pub stands_over : (pages journal : List ℕ) (records : Entries) (base : ℕ) (commits : List Group) (changes : List Change) (number : ℕ)
    → contents_of_file pages ≡ Ok (records, base) → goes_on_from (Some base) commits ≡ true → NetOf records base commits changes number → read journal ≡ Ok (only_commits commits)
    → contents_beside pages journal ≡ Ok (record { entries = after_commits commits records; number = number })
stands_over pages journal records base commits changes number hold on net h =
    by_groups pages journal (only_commits commits) h
    ∙ of_parts pages (only_commits commits) (record { entries = after_commits commits records; number = number }) (record {
      held = (records, base);
      no_images = refl;
      pages_hold = hold;
      goes_on = on;
      is = λ i. record { entries = after_commits commits records; number = net.last i };
      keeps_rules = tree_unbroken (after_commits commits records) net.tree;
    })

-- base and layers tell a map only where the pages are known
pub is_told : (known : Bool) (file : List ℕ) (changes : List Change) (es : Entries) → contents_after changes (map_of_file known file) ≡ Some es → IsTrue known
is_told true file changes es e = refl
is_told false file changes es e = cc

-- and it is what the commits make of the records
pub told_map : (known : Bool) (file : List ℕ) (records : Entries) (base : ℕ) (commits : List Group) (changes : List Change) (number : ℕ) (es : Entries)
    → contents_of_file file ≡ Ok (records, base) → NetOf records base commits changes number → contents_after changes (map_of_file known file) ≡ Some es → after_commits commits records ≡ es
told_map false file records base commits changes number es hold net e = cc
told_map true file records base commits changes number es hold net e =
    sym net.map ∙ sym (ap (λ (r : Result (Entries × ℕ) ℕ). changed changes (valid_entries (entries_or_none r))) hold) ∙ ap (λ (o : Option Entries). unwrap_or o []) e

-- ---- the journal behind the commits

pub takes_behind : (before : ℕ) (groups : Groups) (journal : JournalView) (base number : ℕ) → TakesCommits before groups journal → groups ≡ only_commits groups.commits → number ≡ last_of groups.commits base → TakesBehind journal number
takes_behind before groups journal base number ready alone last = record {
  usable = record { unfailed = ready.usable; unheld = ready.has_images ∙ ap (λ (gs : Groups). is_some gs.images) alone };
  next =
      ap (λ (o : Option ℕ). is_next o (number + 1)) (ready.last ∙ ap number_of alone)
      ∙ ap (λ (n : ℕ). is_next (last_number None groups.commits) (n + 1)) last
      ∙ follows groups.commits base;
}

-- of a journal that was made
pub takes_first : (before : ℕ) (groups : Groups) (journal : JournalView) (number : ℕ) → TakesCommits before groups journal → groups ≡ only_commits [] → TakesBehind journal number
takes_first before groups journal number ready alone = record {
  usable = record { unfailed = ready.usable; unheld = ready.has_images ∙ ap (λ (gs : Groups). is_some gs.images) alone };
  next = ap (λ (o : Option ℕ). is_next o (number + 1)) (ready.last ∙ ap number_of alone);
}

-- a fresh file is read as no group
pub fresh_none : (journal : List ℕ) (groups : Groups) → is_fresh journal ≡ true → read journal ≡ Ok groups → has_none groups ≡ true
fresh_none journal groups fresh h = ap (λ (r : Result Groups ℕ). has_none (groups_read r)) (sym h ∙ fresh_reads journal fresh)

-- ---- a store that was opened over synced pages

-- the files stood for what base and layers make, and stand for it now
pub opened_over : (known : Bool) (old new pages : History) (records : Entries) (base : ℕ) (changes : List Change) (number : ℕ) (es : Entries)
    → contents_of_file pages.now.reads ≡ Ok (records, base) → (follows : FollowsOver true records base old new changes number)
    → contents_after changes (map_of_file known pages.now.reads) ≡ Some es
    → OpensPages (pair_of old pages) (pair_of new pages) es number
opened_over known old new pages records base changes number es hold follows told =
    let file = pages.now.reads in
    let commits = follows.commits in
    let map : after_commits commits records ≡ es = told_map known file records base commits changes number es hold follows.net told in
    let stood : contents_beside file old.now.reads ≡ Ok (record { entries = es; number = number }) =
    stands_over file old.now.reads records base commits changes number hold follows.goes_on follows.net (follows.opens refl).stood
    ∙ ap (λ (l : Entries). Ok (record { entries = l; number = number })) map in
    let stands : contents_beside file new.now.reads ≡ Ok (record { entries = es; number = number }) =
    stands_over file new.now.reads records base commits changes number hold follows.goes_on follows.net (follows.opens refl).stands
    ∙ ap (λ (l : Entries). Ok (record { entries = l; number = number })) map in
    record {
      stood = stood;
      stands = stands;
      alone = stand_for_one new.now.reads file es number stands (subst IsStoredTree map follows.net.tree);
    }

-- where its bytes are known
pub follows_known : (known : Bool) (records : Entries) (base : ℕ) (old new : History) (changes : List Change) (number : ℕ) → IsTrue known → FollowsOver known records base old new changes number → FollowsOver true records base old new changes number
follows_known known records base old new changes number is follows = record { commits = follows.commits; goes_on = follows.goes_on; net = follows.net; opens = λ _. follows.opens is }

pub opened_tree : (known : Bool) (file : List ℕ) (records : Entries) (base : ℕ) (commits : List Group) (changes : List Change) (number : ℕ) (es : Entries)
    → (IsTrue known → contents_of_file file ≡ Ok (records, base)) → NetOf records base commits changes number → contents_after changes (map_of_file known file) ≡ Some es → IsStoredTree es
opened_tree known file records base commits changes number es hold net told =
    subst IsStoredTree (told_map known file records base commits changes number es (hold (is_told known file changes es told)) net told) net.tree
