-- An append of images, from a settled journal on.
use Rattle.std.proofs.Common.{◌≡◌, inl, inr, ℕ, ◌+◌, ◌<◌, ◌^◌, IsTrue, List, [], ◌∷◌, ◌++◌, length, drop, Option, Some, None, Ok, refl, sym, ◌∙◌, ap, subst, arith, append_assoc, length-append}
use Rattle.outside_traits.specs.Moments.{History}
use Rattle.journal.specs.Groups.{AreImages, images, images_behind_gate, is_last, with_images}
use Rattle.journal.specs.Journals.{header, read}
use Rattle.journal.specs.Appends.{groups_in, groups_read, last_number}
use Rattle.journal.specs.ImageAppends.{AddsImages, LeavesWithOrWithoutImages}
use Rattle.journal.specs.Steps.{DiskStep, Does, StopsIn, images_steps}
use Rattle.journal.specs.Steps.DiskStep.{write}
use Rattle.journal.specs.inside.Settled.{IsHolding, IsSettled, bytes_of, groups_of}
use Rattle.journal.specs.declared.group.Group.{Group}
use Rattle.journal.specs.declared.group.Groups.{Groups}
use Rattle.journal.proofs.GateSteps.{all_read, each_image, leaves, now_bytes, now_rests, stopped}
use Rattle.journal.proofs.GroupLaws.{images_at-images, length-of_kind, no_commit}
use Rattle.journal.proofs.ReadLaws.{first_open, read-images}

-- where no commit is open the images may have any number
now_last : (last now : Option ℕ) (number : ℕ) → IsTrue (is_last last number) → (now ≡ None) → IsTrue (is_last now number)
now_last last now number same none = subst (λ (o : Option ℕ). IsTrue (is_last o number)) (sym none) refl

module _ (t : History) (at : ℕ) (last : Option ℕ) (settled : IsSettled t at last) (number : ℕ) (body : List ℕ) (fits : number < 2 ^ 32) (are : AreImages last number body) where
  abbrev gs : List Group
  gs = (groups_in t).commits

  abbrev q : List ℕ
  q = images_behind_gate number body ++ 0 ∷ []

  abbrev prefix : List ℕ
  prefix = header ++ bytes_of settled.stands.pieces

  abbrev after : Groups
  after = with_images (groups_in t) (images number body)

  same : IsTrue (is_last (last_number None gs) number)
  same = elim settled.number [
    | inl is ↦ subst (λ (o : Option ℕ). IsTrue (is_last o number)) is are.same
    | inr none ↦ now_last last (last_number None gs) number are.same (ap (last_number None) none)
  ]

  opens : (left : List ℕ) → read (prefix ++ 1 ∷ (q ++ left)) ≡ Ok after
  opens left =
      let tail = images_behind_gate number body ++ 0 ∷ left in
      let now = last_number None (groups_of settled.stands.pieces) in
      let is_now : IsTrue (is_last now number) = subst (λ (l : List Group). IsTrue (is_last (last_number None l) number)) (sym settled.stands.all) same in
      ap (λ (l : List ℕ). read (prefix ++ 1 ∷ l)) (append_assoc (images_behind_gate number body) (0 ∷ []) left)
      ∙ read-images settled.stands.pieces settled.stands.are_groups tail _ (no_commit now tail refl) (images_at-images number body fits are.short now left is_now are.is_body)
      ∙ ap (λ (l : List Group). Ok (record { commits = l; images = Some (images number body) })) settled.stands.all

  abbrev one : List DiskStep
  one = write (at + 1) q ∷ []

  pub images_stopped : (x : History) → StopsIn (images_steps at number body) t x → LeavesWithOrWithoutImages number body t x
  images_stopped x stops = stopped t at last settled q after opens one (omega arith, tt) refl x stops

  module _ (x : History) (does : Does (images_steps at number body) t x) where
    pub images_leave : LeavesWithOrWithoutImages number body t x
    images_leave = leaves t at last settled q after opens one (omega arith, tt) refl x does

    reads : read x.now.reads ≡ Ok after
    reads = all_read t at last settled q after opens one (omega arith, tt) refl x does

    pub images_added : AddsImages at number body t x
    images_added = record {
      groups = reads;
      synced = now_rests t at last settled q after opens one (omega arith, tt) refl x does;
      durable = λ image is. each_image t at last settled q after opens one (omega arith, tt) refl x does image is;
      steps = does;
    }

    pub images_held : (n : ℕ) → 8 < n → IsHolding x n
    images_held n past =
        let front = first_open settled.stands.pieces (q ++ drop (at + 1 + length q) t.now.reads) in
        record {
          synced = now_rests t at last settled q after opens one (omega arith, tt) refl x does;
          groups = reads ∙ ap Ok (sym (ap groups_read reads));
          begins = record {
            behind = front.0;
            opened = now_bytes t at last settled q after opens one (omega arith, tt) refl x does ∙ front.1;
            past = past;
          };
        }

-- how many bytes are written
pub length-images : (number : ℕ) (body framed : List ℕ) → number < 2 ^ 32 → length body < 2 ^ 32 → framed ≡ images_behind_gate number body ++ 0 ∷ [] → length framed ≡ 10 + length body
length-images number body framed fits short framing = ap length framing ∙ omega (arith, length-append (images_behind_gate number body) (0 ∷ []), length-of_kind 1 number body fits short)
