-- Whatever is written behind the closed gate, one byte decides: what a crash leaves in each step of an append.
use Rattle.std.proofs.Common.{◌≡◌, inl, inr, ℕ, ◌+◌, ◌≤◌, List, [], ◌∷◌, ◌++◌, length, get_or, take, drop, Option, Ok, refl, sym, ◌∙◌, ap, subst, arith, append_assoc, length-append, take-append-drop}
use Rattle.std.proofs.lemmas.List.{take_at, drop_at, drop_more}
use Rattle.std.proofs.lemmas.Bool.{cases_eq}
use Rattle.outside_traits.specs.Disks.{DiskState, OpensRange, Wrote, Synced, Unsynced, all_synced, put_at}
use Rattle.outside_traits.specs.CrashImages.{IsImage}
use Rattle.outside_traits.specs.Moments.{History, TakesStep, Fails, LeavesOnly}
use Rattle.outside_traits.proofs.ImageLaws.{image-all_synced, image-before, image-after, image-unsynced}
use Rattle.outside_traits.proofs.MomentLaws.{started, goes_on, goes_wrong}
use Rattle.journal.specs.Groups.{only_commits}
use Rattle.journal.specs.Journals.{header, read}
use Rattle.journal.specs.Appends.{IsOneOf, groups_in}
use Rattle.journal.specs.Steps.{DiskStep, Does, StopsIn}
use Rattle.journal.specs.Steps.DiskStep.{write, sync}
use Rattle.journal.specs.inside.Settled.{Stands, IsSettled, bytes_of}
use Rattle.journal.specs.declared.group.Group.{Group}
use Rattle.journal.specs.declared.group.Groups.{Groups}
use Rattle.journal.proofs.ReadLaws.{read-closed}
use Rattle.journal.proofs.StandLaws.{closed_before, found_commits, within}
use Rattle.journal.proofs.StepRuns.{AreWritesFrom, Behind, behind-image, behind-start, does-parts, does-reads, reads_after, stops-parts, torn-leave, writes-leave}

-- ---- the bytes: commits, a closed gate, and anything behind it; these bytes are put there, which are read so where the gate is open

module _ (bytes : List ℕ) (at : ℕ) (gs : List Group) (stands : Stands bytes at gs) (q : List ℕ) (after : Groups)
    (opens : (left : List ℕ) → read ((header ++ bytes_of stands.pieces) ++ 1 ∷ (q ++ left)) ≡ Ok after) where
  abbrev prefix : List ℕ
  prefix = header ++ bytes_of stands.pieces

  place : length prefix ≡ at
  place = sym stands.place

  abbrev staged : List ℕ
  staged = put_at (at + 1) q bytes

  abbrev done : List ℕ
  done = put_at at (1 ∷ []) staged

  abbrev left : List ℕ
  left = drop (at + 1 + length q) bytes

  before : take (at + 1) bytes ≡ prefix ++ stands.gate ∷ []
  before = ap (λ (l : List ℕ). take (at + 1) l) (stands.split ∙ sym (append_assoc prefix (stands.gate ∷ []) stands.tail)) ∙ take_at (prefix ++ stands.gate ∷ []) stands.tail (at + 1) (omega (arith, place, length-append prefix (stands.gate ∷ [])))

  staged-is : staged ≡ prefix ++ stands.gate ∷ (q ++ left)
  staged-is = ap (λ (l : List ℕ). l ++ q ++ left) before ∙ append_assoc (prefix ++ stands.gate ∷ []) q left ∙ append_assoc prefix (stands.gate ∷ []) (q ++ left)

  staged_prefix : take at staged ≡ prefix
  staged_prefix = ap (λ (l : List ℕ). take at l) staged-is ∙ take_at prefix (stands.gate ∷ (q ++ left)) at place

  staged_back : drop (at + 1) staged ≡ q ++ left
  staged_back = ap (λ (l : List ℕ). drop (at + 1) l) (staged-is ∙ sym (append_assoc prefix (stands.gate ∷ []) (q ++ left)))
      ∙ drop_at (prefix ++ stands.gate ∷ []) (q ++ left) (at + 1) (omega (arith, place, length-append prefix (stands.gate ∷ [])))

  staged_within : at + 1 ≤ length staged
  staged_within = omega (arith, ap length staged-is, length-append prefix (stands.gate ∷ (q ++ left)), place)

  -- whatever the gate is
  at_gate : (image : List ℕ) → at + 1 ≤ length image → take at image ≡ take at staged → drop (at + 1) image ≡ drop (at + 1) staged → IsOneOf (only_commits gs) after image
  at_gate image long same_prefix same_back =
      let gate = get_or image at 0 in
      let whole : image ≡ prefix ++ gate ∷ (q ++ left) =
      sym (take-append-drop at image) ∙ ap (λ (l : List ℕ). l ++ drop at image) (same_prefix ∙ staged_prefix)
      ∙ ap (λ (l : List ℕ). prefix ++ l) (drop_more image at 0 (omega (arith, long)) ∙ ap (λ (l : List ℕ). gate ∷ l) (same_back ∙ staged_back)) in
      elim (cases_eq gate 1) [
        | inl is_open ↦ inr (ap read (whole ∙ ap (λ (b : ℕ). prefix ++ b ∷ (q ++ left)) is_open) ∙ opens left)
        | inr shut ↦ inl (ap read whole ∙ read-closed stands.pieces stands.are_groups gate (q ++ left) shut ∙ ap (λ (l : List Group). Ok (only_commits l)) stands.all)
      ]

  pub done-is : done ≡ prefix ++ 1 ∷ (q ++ left)
  done-is = ap (λ (l : List ℕ). l ++ (1 ∷ []) ++ drop (at + 1) staged) staged_prefix ∙ ap (λ (l : List ℕ). (prefix ++ 1 ∷ []) ++ l) staged_back ∙ append_assoc prefix (1 ∷ []) (q ++ left)

-- ---- the calls, from a settled journal on: any writes behind the gate that put these bytes there, and then the gate

module _ (t : History) (at : ℕ) (last : Option ℕ) (settled : IsSettled t at last) (q : List ℕ) (after : Groups)
    (opens : (left : List ℕ) → read ((header ++ bytes_of settled.stands.pieces) ++ 1 ∷ (q ++ left)) ≡ Ok after)
    (ws : List DiskStep) (far : AreWritesFrom (at + 1) ws) (puts : reads_after ws t.now.reads ≡ put_at (at + 1) q t.now.reads) where
  abbrev bytes : List ℕ
  bytes = t.now.reads

  abbrev gs : List Group
  gs = (groups_in t).commits

  abbrev P : List ℕ → Type 0
  P = IsOneOf (groups_in t) after

  abbrev tail_steps : List DiskStep
  tail_steps = sync ∷ write at (1 ∷ []) ∷ sync ∷ []

  abbrev first_bytes : List ℕ
  first_bytes = staged bytes at gs settled.stands q after opens

  long_enough : at + 1 ≤ length bytes
  long_enough = within bytes at gs settled.stands

  of_commits : (image : List ℕ) → IsOneOf (only_commits gs) after image → P image
  of_commits image = subst (λ (g : Groups). IsOneOf (only_commits gs) after image → IsOneOf g after image) (sym (found_commits t at settled.stands)) (λ is. is)

  closed : (image : List ℕ) → take (at + 1) image ≡ take (at + 1) bytes → P image
  closed image same = of_commits image (inl (closed_before bytes at gs settled.stands image same))

  at_start : Behind (at + 1) bytes t.now
  at_start = behind-start (at + 1) bytes t.now settled.synced

  torn : (v : History) → StopsIn ws t v → LeavesOnly P t v
  torn v stops = torn-leave P (at + 1) bytes long_enough closed t ws far t v (started P t) at_start stops

  module _ (u : History) (wrote : Does ws t u) where
    so_far : LeavesOnly P t u × Behind (at + 1) bytes u.now
    so_far = writes-leave P (at + 1) bytes long_enough closed t ws far t u (started P t) at_start wrote

    first_unsynced : (v : History) → Fails Unsynced u v → LeavesOnly P t v
    first_unsynced v fails = goes_wrong P _ t u v so_far.0 fails (λ next same image is. closed image (behind-image (at + 1) bytes u.now so_far.1 long_enough image (image-unsynced u.now next same image is)))

    module _ (v : History) (kept : TakesStep Synced u v) where
      at_rest : v.now ≡ all_synced first_bytes
      at_rest = kept.by ∙ ap all_synced (does-reads ws t u wrote ∙ puts)

      first_synced : LeavesOnly P t v
      first_synced = goes_on P _ t u v so_far.0 kept (λ image is.
          let same : image ≡ first_bytes = image-all_synced first_bytes image (subst (λ (s : DiskState). IsImage s image) at_rest is) in
          subst P (sym same) (of_commits first_bytes (at_gate bytes at gs settled.stands q after opens first_bytes (staged_within bytes at gs settled.stands q after opens) refl refl)))

      second_opens : (s : DiskState) → OpensRange at 1 v.now s → (image : List ℕ) → IsImage s image → P image
      second_opens s range image is =
          let on_rest = subst (λ (d : DiskState). OpensRange at 1 d s) at_rest range in
          let long = staged_within bytes at gs settled.stands q after opens in
          of_commits image (at_gate bytes at gs settled.stands q after opens image
          (omega (arith, long, subst (λ (l : List ℕ). length l ≤ length image) on_rest.synced is.remains.no_shorter))
          (image-before first_bytes at 1 s on_rest image is (omega (arith, long)))
          (image-after first_bytes at 1 s on_rest image is long))

      second_torn : (w : History) → Fails (OpensRange at 1) v w → LeavesOnly P t w
      second_torn w fails = goes_wrong P _ t v w first_synced fails second_opens

      module _ (w : History) (gate : TakesStep (Wrote at (1 ∷ [])) v w) where
        second : LeavesOnly P t w
        second = goes_on P _ t v w first_synced gate (second_opens w.now gate.by.opens)

        second_unsynced : (x : History) → Fails Unsynced w x → LeavesOnly P t x
        second_unsynced x fails = goes_wrong P _ t w x second fails (λ next same image is. second_opens w.now gate.by.opens image (image-unsynced w.now next same image is))

  -- one of the calls failed
  pub stopped : (x : History) → StopsIn (ws ++ tail_steps) t x → LeavesOnly P t x
  stopped x stops = elim (stops-parts ws tail_steps t x stops) [
    | inl first ↦ torn x first
    | inr more ↦ elim more.2 [
      | inl unsynced ↦ first_unsynced more.0 more.1 x unsynced
      | inr kept ↦ elim kept.2 [
        | inl in_gate ↦ second_torn more.0 more.1 kept.0 kept.1 x in_gate
        | inr gate ↦ elim gate.2 [
          | inl unsynced ↦ second_unsynced more.0 more.1 kept.0 kept.1 gate.0 gate.1 x unsynced
          | inr none ↦ elim none.2 [ ]
        ]
      ]
    ]
  ]

  -- all were done
  module _ (x : History) (does : Does (ws ++ tail_steps) t x) where
    abbrev parts : (u : History) × Does ws t u × Does tail_steps u x
    parts = does-parts ws tail_steps t x does

    abbrev u : History
    u = parts.0

    abbrev v : History
    v = parts.2.0

    abbrev w : History
    w = parts.2.2.0

    last_kept : TakesStep Synced w x
    last_kept = subst (λ (h : History). TakesStep Synced w h) (sym parts.2.2.2.2) parts.2.2.2.1

    all_done : x.now ≡ all_synced (done bytes at gs settled.stands q after opens)
    all_done = last_kept.by ∙ ap all_synced (parts.2.2.1.by.reads ∙ ap (λ (s : DiskState). put_at at (1 ∷ []) s.reads) (at_rest u parts.1 v parts.2.1))

    -- the bytes that are left
    pub now_bytes : x.now.reads ≡ (header ++ bytes_of settled.stands.pieces) ++ 1 ∷ (q ++ drop (at + 1 + length q) bytes)
    now_bytes = ap (λ (s : DiskState). s.reads) all_done ∙ done-is bytes at gs settled.stands q after opens

    pub all_read : read x.now.reads ≡ Ok after
    all_read = ap read now_bytes ∙ opens (drop (at + 1 + length q) bytes)

    pub now_rests : x.now ≡ all_synced x.now.reads
    now_rests = all_done ∙ ap all_synced (sym (ap (λ (s : DiskState). s.reads) all_done))

    pub each_image : (image : List ℕ) → IsImage x.now image → read image ≡ Ok after
    each_image image is = ap read (image-all_synced x.now.reads image (subst (λ (s : DiskState). IsImage s image) now_rests is)) ∙ all_read

    pub leaves : LeavesOnly P t x
    leaves = goes_on P _ t w x (second u parts.1 v parts.2.1 w parts.2.2.1) last_kept (λ image is. inr (each_image image is))
