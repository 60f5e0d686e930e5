-- Open commits and a closed gate: whatever stands behind it.
use Rattle.std.proofs.Common.{◌≡◌, ℕ, ◌+◌, ◌≤◌, List, [], ◌∷◌, ◌++◌, length, take, drop, Ok, refl, sym, ◌∙◌, ap, arith, append_assoc, length-append, take-append-drop}
use Rattle.std.proofs.lemmas.List.{take_at}
use Rattle.outside_traits.specs.Moments.{History}
use Rattle.journal.specs.Groups.{only_commits}
use Rattle.journal.specs.Journals.{header, read}
use Rattle.journal.specs.Appends.{groups_in, groups_read}
use Rattle.journal.specs.inside.Settled.{Stands, bytes_of}
use Rattle.journal.specs.declared.group.Group.{Group}
use Rattle.journal.proofs.ReadLaws.{read-closed}

module _ (bytes : List ℕ) (at : ℕ) (gs : List Group) (stands : Stands bytes at gs) where
  abbrev pub prefix : List ℕ
  prefix = header ++ bytes_of stands.pieces

  pub place : length prefix ≡ at
  place = sym stands.place

  pub before : take (at + 1) bytes ≡ prefix ++ stands.gate ∷ []
  before = ap (λ (l : List ℕ). take (at + 1) l) (stands.split ∙ sym (append_assoc prefix (stands.gate ∷ []) stands.tail)) ∙ take_at (prefix ++ stands.gate ∷ []) stands.tail (at + 1) (omega (arith, place, length-append prefix (stands.gate ∷ [])))

  pub within : at + 1 ≤ length bytes
  within = omega (arith, ap length stands.split, length-append prefix (stands.gate ∷ stands.tail), place)

  -- whatever stands behind the closed gate
  pub closed_before : (image : List ℕ) → take (at + 1) image ≡ take (at + 1) bytes → read image ≡ Ok (only_commits gs)
  closed_before image same =
      let whole : image ≡ prefix ++ stands.gate ∷ drop (at + 1) image =
      sym (take-append-drop (at + 1) image) ∙ ap (λ (l : List ℕ). l ++ drop (at + 1) image) (same ∙ before) ∙ append_assoc prefix (stands.gate ∷ []) (drop (at + 1) image) in
      ap read whole ∙ read-closed stands.pieces stands.are_groups stands.gate (drop (at + 1) image) stands.closed ∙ ap (λ (l : List Group). Ok (only_commits l)) stands.all

  pub reads_groups : read bytes ≡ Ok (only_commits gs)
  reads_groups = closed_before bytes refl

-- a settled journal's groups are commits alone
pub found_commits : (t : History) (at : ℕ) → Stands t.now.reads at (groups_in t).commits → groups_in t ≡ only_commits (groups_in t).commits
found_commits t at stands = ap groups_read (reads_groups t.now.reads at (groups_in t).commits stands)

pub settled_groups : (t : History) (at : ℕ) → Stands t.now.reads at (groups_in t).commits → read t.now.reads ≡ Ok (groups_in t)
settled_groups t at stands = reads_groups t.now.reads at (groups_in t).commits stands ∙ ap Ok (sym (found_commits t at stands))
