-- What a crash leaves while the first gate is closed.
use Rattle.std.proofs.Common.{◌≡◌, ◌≢◌, inl, inr, ℕ, ◌≤◌, Bool, true, false, ◌==◌, List, [], ◌∷◌, ◌++◌, length, get_or, take, drop, Option, None, Result, Ok, refl, sym, ◌∙◌, ap, subst, arith, append_assoc, length-append, take-append-drop}
use Rattle.std.proofs.lemmas.List.{take_at, drop_at, drop_more, append-nil}
use Rattle.std.proofs.lemmas.Bool.{cases_eq, ne_eqb, cond-false}
use Rattle.outside_traits.specs.Disks.{DiskState, OpensRange, Wrote, Synced, Unsynced, all_synced, put_at}
use Rattle.outside_traits.specs.CrashImages.{IsImage}
use Rattle.outside_traits.specs.Moments.{History, TakesStep, Fails, LeavesOnly}
use Rattle.outside_traits.proofs.ImageLaws.{image-all_synced, image-before, image-after, image-unsynced}
use Rattle.outside_traits.proofs.MomentLaws.{started, goes_on, goes_wrong}
use Rattle.journal.specs.Groups.{only_commits}
use Rattle.journal.specs.Journals.{header, read}
use Rattle.journal.specs.Appends.{IsOneOf, groups_in, groups_read}
use Rattle.journal.specs.Resets.{Clears, LeavesGroupsOrNone}
use Rattle.journal.specs.Steps.{DiskStep, Does, StopsIn, reset_steps}
use Rattle.journal.specs.inside.Settled.{BeginsOpen, IsHeld, IsHolding, IsKept, IsSettled, IsUsable, Piece, Stands, bytes_of, groups_of}
use Rattle.journal.specs.declared.group.Group.{Group}
use Rattle.journal.specs.declared.group.Groups.{Groups}
use Rattle.journal.proofs.ReadLaws.{read-closed}
use Rattle.journal.proofs.StandLaws.{found_commits, reads_groups, settled_groups}

-- a closed gate that isn't the first one has an open first gate before it
begins_of : (pieces : List Piece) (gate : ℕ) (tail : List ℕ) (at : ℕ) → at ≡ length (header ++ bytes_of pieces) → at ≢ 8 → BeginsOpen ((header ++ bytes_of pieces) ++ gate ∷ tail) at
begins_of [] gate tail at place some = absurd (some place)
begins_of (p ∷ ps) gate tail at place some = record {
  behind = (p.bytes ++ bytes_of ps) ++ gate ∷ tail;
  opened = append_assoc header (1 ∷ (p.bytes ++ bytes_of ps)) (gate ∷ tail);
  past = omega (arith, place, length-append header (1 ∷ (p.bytes ++ bytes_of ps)));
}

pub stands_begin : (bytes : List ℕ) (at : ℕ) (gs : List Group) → Stands bytes at gs → at ≢ 8 → BeginsOpen bytes at
stands_begin bytes at gs stands some =
    subst (λ (l : List ℕ). BeginsOpen l at) (sym stands.split) (begins_of stands.pieces stands.gate stands.tail at stands.place some)

-- what a journal holds where its closed gate isn't the first: the same with images and without
pub begins : (t : History) (at : ℕ) (last : Option ℕ) → IsSettled t at last → at ≢ 8 → IsHolding t at
begins t at last settled some = record {
  synced = settled.synced;
  groups = settled_groups t at settled.stands;
  begins = stands_begin t.now.reads at (groups_in t).commits settled.stands some;
}

module _ (bytes : List ℕ) (at : ℕ) (before : Groups) (reads : read bytes ≡ Ok before) (open_first : BeginsOpen bytes at) where
  abbrev rest : List ℕ
  rest = open_first.behind

  long : 9 ≤ length bytes
  long = omega (arith, ap length open_first.opened, length-append header (1 ∷ rest))

  -- whatever the first gate is
  at_first : (image : List ℕ) → 9 ≤ length image → take 8 image ≡ take 8 bytes → drop 9 image ≡ drop 9 bytes → IsOneOf before (only_commits []) image
  at_first image enough same_front same_back =
      let gate = get_or image 8 0 in
      let front : take 8 image ≡ header = same_front ∙ ap (λ (l : List ℕ). take 8 l) open_first.opened ∙ take_at header (1 ∷ rest) 8 refl in
      let back : drop 9 image ≡ rest = same_back ∙ ap (λ (l : List ℕ). drop 9 l) (open_first.opened ∙ sym (append_assoc header (1 ∷ []) rest)) ∙ drop_at (header ++ 1 ∷ []) rest 9 refl in
      let whole : image ≡ header ++ gate ∷ rest =
      sym (take-append-drop 8 image) ∙ ap (λ (l : List ℕ). l ++ drop 8 image) front
      ∙ ap (λ (l : List ℕ). header ++ l) (drop_more image 8 0 (omega (arith, enough)) ∙ ap (λ (l : List ℕ). gate ∷ l) back) in
      elim (cases_eq gate 1) [
        | inl is_open ↦ inl (ap read (whole ∙ ap (λ (b : ℕ). header ++ b ∷ rest) is_open ∙ sym open_first.opened) ∙ reads)
        | inr shut ↦ inr (ap read (whole ∙ ap (λ (l : List ℕ). l ++ gate ∷ rest) (sym (append-nil header))) ∙ read-closed [] tt gate rest shut)
      ]

  abbrev closed : List ℕ
  closed = put_at 8 (0 ∷ []) bytes

  closed-is : closed ≡ (header ++ []) ++ 0 ∷ drop 9 bytes
  closed-is =
      let front : take 8 bytes ≡ header = ap (λ (l : List ℕ). take 8 l) open_first.opened ∙ take_at header (1 ∷ rest) 8 refl in
      ap (λ (l : List ℕ). (l ++ 0 ∷ []) ++ drop 9 bytes) front ∙ append_assoc header (0 ∷ []) (drop 9 bytes) ∙ ap (λ (l : List ℕ). l ++ 0 ∷ drop 9 bytes) (sym (append-nil header))

  closed_reads : read closed ≡ Ok (only_commits [])
  closed_reads = ap read closed-is ∙ read-closed [] tt 0 (drop 9 bytes) (omega arith)

  closed_stands : Stands closed 8 []
  closed_stands = record {
    pieces = [];
    are_groups = tt;
    all = refl;
    gate = 0;
    tail = drop 9 bytes;
    split = closed-is;
    closed = omega arith;
    place = refl;
  }

-- the two calls of a reset
module _ (t : History) (at : ℕ) (holds : IsHolding t at) where
  abbrev P : List ℕ → Type 0
  P = IsOneOf (groups_in t) (only_commits [])

  nine : 9 ≤ length t.now.reads
  nine = long t.now.reads at (groups_in t) holds.groups holds.begins

  opens : (s : DiskState) → OpensRange 8 1 t.now s → (image : List ℕ) → IsImage s image → P image
  opens s range image is =
      let on_rest = subst (λ (d : DiskState). OpensRange 8 1 d s) holds.synced range in
      at_first t.now.reads at (groups_in t) holds.groups holds.begins image
      (omega (arith, nine, subst (λ (l : List ℕ). length l ≤ length image) on_rest.synced is.remains.no_shorter))
      (image-before t.now.reads 8 1 s on_rest image is (omega (arith, nine)))
      (image-after t.now.reads 8 1 s on_rest image is nine)

  pub reset_ready : 8 ≤ length t.now.reads
  reset_ready = omega (arith, nine)

  pub reset_torn : (u : History) → Fails (OpensRange 8 1) t u → LeavesGroupsOrNone t u
  reset_torn u fails = goes_wrong P _ t t u (started P t) fails opens

  module _ (u : History) (wrote : TakesStep (Wrote 8 (0 ∷ [])) t u) where
    torn : LeavesOnly P t u
    torn = goes_on P _ t t u (started P t) wrote (opens u.now wrote.by.opens)

    pub reset_unsynced : (v : History) → Fails Unsynced u v → LeavesGroupsOrNone t v
    reset_unsynced v fails = goes_wrong P _ t u v torn fails (λ next same image is. opens u.now wrote.by.opens image (image-unsynced u.now next same image is))

    module _ (v : History) (kept : TakesStep Synced u v) where
      now : v.now ≡ all_synced (closed t.now.reads at (groups_in t) holds.groups holds.begins)
      now = kept.by ∙ ap all_synced wrote.by.reads

      reads : read v.now.reads ≡ Ok (only_commits [])
      reads = ap (λ (s : DiskState). read s.reads) now ∙ closed_reads t.now.reads at (groups_in t) holds.groups holds.begins

      rests : v.now ≡ all_synced v.now.reads
      rests = now ∙ ap all_synced (sym (ap (λ (s : DiskState). s.reads) now))

      each : (image : List ℕ) → IsImage v.now image → read image ≡ Ok (only_commits [])
      each image is = ap read (image-all_synced v.now.reads image (subst (λ (s : DiskState). IsImage s image) rests is)) ∙ reads

      pub reset_leaves : LeavesGroupsOrNone t v
      reset_leaves = goes_on P _ t u v torn kept (λ image is. inr (each image is))

      pub reset_clears : at ≢ 8 → Clears at t v
      reset_clears some = record {
        groups = reads;
        synced = rests;
        durable = each;
        steps = subst (λ (steps : List DiskStep). Does steps t v) (sym (cond-false (at == 8) _ _ (ne_eqb at 8 some))) (u, wrote, (v, kept, refl));
      }

      none_now : (groups_in v).commits ≡ []
      none_now = ap (λ (r : Result Groups ℕ). (groups_read r).commits) reads

      pub reset_settled : (last : Option ℕ) → IsSettled v 8 last
      reset_settled last = record {
        synced = rests;
        stands = subst (λ (l : List Group). Stands v.now.reads 8 l) (sym none_now) (subst (λ (b : List ℕ). Stands b 8 []) (sym (ap (λ (s : DiskState). s.reads) now)) (closed_stands t.now.reads at (groups_in t) holds.groups holds.begins));
        number = inr none_now;
      }

  pub reset_stops_first : (u : History) → at ≢ 8 → Fails (OpensRange 8 1) t u → StopsIn (reset_steps at) t u
  reset_stops_first u some fails = subst (λ (steps : List DiskStep). StopsIn steps t u) (sym (cond-false (at == 8) _ _ (ne_eqb at 8 some))) (inl fails)

  pub reset_stops_second : (u v : History) → at ≢ 8 → TakesStep (Wrote 8 (0 ∷ [])) t u → Fails Unsynced u v → StopsIn (reset_steps at) t v
  reset_stops_second u v some wrote fails = subst (λ (steps : List DiskStep). StopsIn steps t v) (sym (cond-false (at == 8) _ _ (ne_eqb at 8 some))) (inr (u, wrote, inl fails))

-- no group stands behind a first gate that is closed
none_before : (pieces : List Piece) → length (header ++ bytes_of pieces) ≡ 8 → groups_of pieces ≡ []
none_before [] is = refl
none_before (p ∷ ps) is = absurd (omega (arith, is, length-append header (1 ∷ (p.bytes ++ bytes_of ps))))

pub nothing_open : (t : History) (at : ℕ) (last : Option ℕ) → IsSettled t at last → at ≡ 8 → Clears at t t
nothing_open t at last settled first =
    let stands = settled.stands in
    let reads : read t.now.reads ≡ Ok (only_commits []) =
    reads_groups t.now.reads at (groups_in t).commits stands ∙ ap (λ (l : List Group). Ok (only_commits l)) (sym stands.all ∙ none_before stands.pieces (sym stands.place ∙ first)) in
    record {
      groups = reads;
      synced = settled.synced;
      durable = λ image is. ap read (image-all_synced t.now.reads image (subst (λ (s : DiskState). IsImage s image) settled.synced is)) ∙ reads;
      steps = subst (λ (n : ℕ). Does (reset_steps n) t t) (sym first) refl;
    }

-- images that are open stand behind the first gate
pub unheld_at_first : (is_known has_images : Bool) (t : History) (gate : ℕ) → (has_images ≡ true → IsHeld is_known t gate) → gate ≡ 8 → has_images ≡ false
unheld_at_first is_known true t gate held first = absurd (omega (arith, (held refl).past, first))
unheld_at_first is_known false t gate held first = refl

-- in either state a reset finds what it needs
pub holding : (is_known has_images : Bool) (t : History) (gate : ℕ) (last : Option ℕ) → (has_images ≡ false → IsKept is_known t gate last) → (has_images ≡ true → IsHeld is_known t gate)
    → is_known ≡ true → gate ≢ 8 → IsHolding t gate
holding is_known false t gate last kept held known some = begins t gate last ((kept refl).settled known) some
holding is_known true t gate last kept held known some = (held refl).holding known

-- what a journal keeps is synced, and read as groups
pub kept_synced : (is_known : Bool) (t : History) (gate : ℕ) (last : Option ℕ) (failed has_images : Bool) (capacity : ℕ) → IsUsable is_known t gate last failed has_images capacity → failed ≡ false → is_known ≡ true → t.now ≡ all_synced t.now.reads
kept_synced is_known t gate last failed false capacity keeps usable known = ((keeps.kept usable refl).settled known).synced
kept_synced is_known t gate last failed true capacity keeps usable known = ((keeps.held usable refl).holding known).synced

pub kept_groups : (is_known : Bool) (t : History) (gate : ℕ) (last : Option ℕ) (failed has_images : Bool) (capacity : ℕ) → IsUsable is_known t gate last failed has_images capacity → failed ≡ false → is_known ≡ true → read t.now.reads ≡ Ok (groups_in t)
kept_groups is_known t gate last failed false capacity keeps usable known = settled_groups t gate ((keeps.kept usable refl).settled known).stands
kept_groups is_known t gate last failed true capacity keeps usable known = ((keeps.held usable refl).holding known).groups

pub kept_commits : (is_known : Bool) (t : History) (gate : ℕ) (last : Option ℕ) (failed has_images : Bool) (capacity : ℕ) → IsUsable is_known t gate last failed has_images capacity → failed ≡ false → has_images ≡ false → is_known ≡ true
    → (groups_in t).images ≡ None
kept_commits is_known t gate last failed has_images capacity keeps usable unheld known = ap (λ (g : Groups). g.images) (found_commits t gate ((keeps.kept usable unheld).settled known).stands)
