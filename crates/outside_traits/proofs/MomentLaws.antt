-- How a run of disk calls goes on, and what a crash in it leaves.
use Rattle.std.proofs.Common.{◌≡◌, ⊎_elim, inl, inr, ℕ, List, [], ◌∷◌, ◌++◌, refl, sym, ◌∙◌, ap, subst, append_assoc}
use Rattle.std.proofs.lemmas.List.{append_cancel_right}
use Rattle.outside_traits.specs.Disks.{DiskState}
use Rattle.outside_traits.specs.CrashImages.{IsImage}
use Rattle.outside_traits.specs.Moments.{History, TakesStep, Fails, Since, AllImages, LeavesOnly, IsImageOfOne, IsImageSince, WasImage}

-- before the first call
pub started : (P : List ℕ → Type 0) (t : History) → LeavesOnly P t t
started P t = record { more = []; states = refl; images = tt }

-- one call more, after which a crash leaves what has P
pub goes_on : (P : List ℕ → Type 0) (step : DiskState → DiskState → Type 0) (old mid new : History) → LeavesOnly P old mid → TakesStep step mid new
    → ((image : List ℕ) → IsImage new.now image → P image) → LeavesOnly P old new
goes_on P step old mid new so_far goes here = record {
  more = new.now ∷ so_far.more;
  states = ap (λ (l : List DiskState). new.now ∷ l) (goes.past ∙ so_far.states);
  images = (here, so_far.images);
}

-- the same where the call failed
pub goes_wrong : (P : List ℕ → Type 0) (step : DiskState → DiskState → Type 0) (old mid new : History) → LeavesOnly P old mid → Fails step mid new
    → ((next : DiskState) → step mid.now next → (image : List ℕ) → IsImage next image → P image) → LeavesOnly P old new
goes_wrong P step old mid new so_far fails here = ⊎_elim
    (λ same. subst (λ (t : History). LeavesOnly P old t) (sym same) so_far)
    (λ goes. goes_on P step old mid new so_far goes (here new.now goes.by))
    fails

all_images-append : (P : List ℕ → Type 0) (xs ys : List DiskState) → AllImages P xs → AllImages P ys → AllImages P (xs ++ ys)
all_images-append P [] ys of_xs of_ys = of_ys
all_images-append P (x ∷ xs) ys of_xs of_ys = (of_xs.0, all_images-append P xs ys of_xs.1 of_ys)

all_images-map : (P Q : List ℕ → Type 0) → ((image : List ℕ) → P image → Q image) → (xs : List DiskState) → AllImages P xs → AllImages Q xs
all_images-map P Q leads [] of_xs = tt
all_images-map P Q leads (x ∷ xs) of_xs = ((λ image is. leads image (of_xs.0 image is)), all_images-map P Q leads xs of_xs.1)

-- one run after another
pub joined : (P : List ℕ → Type 0) (old mid new : History) → LeavesOnly P old mid → LeavesOnly P mid new → LeavesOnly P old new
joined P old mid new first second = record {
  more = second.more ++ first.more;
  states = second.states ∙ ap (λ (l : List DiskState). second.more ++ l) first.states ∙ sym (append_assoc second.more first.more (old.now ∷ old.past));
  images = all_images-append P second.more first.more second.images first.images;
}

-- and what it says may be weakened
pub weaker : (P Q : List ℕ → Type 0) (old new : History) → ((image : List ℕ) → P image → Q image) → LeavesOnly P old new → LeavesOnly Q old new
weaker P Q old new leads run = record { more = run.more; states = run.states; images = all_images-map P Q leads run.more run.images }

pub since_itself : (t : History) → Since t t
since_itself t = record { more = []; states = refl }

pub since_on : (a b c : History) → Since a b → Since b c → Since a c
since_on a b c first second = record {
  more = second.more ++ first.more;
  states = second.states ∙ ap (λ (l : List DiskState). second.more ++ l) first.states ∙ sym (append_assoc second.more first.more (a.now ∷ a.past));
}

of_one-right : (xs ys : List DiskState) (image : List ℕ) → IsImageOfOne ys image → IsImageOfOne (xs ++ ys) image
of_one-right [] ys image of_ys = of_ys
of_one-right (x ∷ xs) ys image of_ys = inr (of_one-right xs ys image of_ys)

-- a crash in a prefix of the calls is one in all of them
pub image-prefix : (old mid new : History) (image : List ℕ) → Since mid new → IsImageSince old mid image → IsImageSince old new image
unfolding since_on
image-prefix old mid new image more is = record {
  since = since_on old mid new is.since more;
  left = subst (λ (l : List DiskState). IsImageOfOne l image) (sym (append_assoc more.more is.since.more (old.now ∷ [])))
      (of_one-right more.more (is.since.more ++ old.now ∷ []) image is.left);
}

-- the moment at which one of these states stood
moment_of : (states : List DiskState) (old : History) (image : List ℕ) → IsImageOfOne (states ++ old.now ∷ []) image
    → (crash : History) × Since old crash × (later : List DiskState) × (states ++ (old.now ∷ old.past) ≡ later ++ (crash.now ∷ crash.past)) × IsImage crash.now image
moment_of [] old image (inr none) = elim none [ ]
moment_of [] old image (inl is) = (old, since_itself old, [], refl, is)
moment_of (s ∷ states) old image (inl is) = (record { now = s; past = states ++ (old.now ∷ old.past) }, record { more = s ∷ states; states = refl }, [], refl, is)
moment_of (s ∷ states) old image (inr is) =
    let found = moment_of states old image is in
    (found.0, found.1, s ∷ found.2, ap (λ (l : List DiskState). s ∷ l) found.3, found.4)

pub was_image : (old new : History) (image : List ℕ) → IsImageSince old new image → WasImage old new image
was_image old new image is =
    let found = moment_of is.since.more old image is.left in
    record { crash = found.0; since = found.1; before = record { more = found.2; states = is.since.states ∙ found.3 }; is = found.4 }

abbrev first_of : DiskState → List DiskState → DiskState
first_of other [] = other
first_of other (s ∷ states) = s

-- what a crash leaves now is among what one since an earlier moment could
last_of : (more : List DiskState) (old crash : History) (image : List ℕ) → crash.now ∷ crash.past ≡ more ++ (old.now ∷ old.past) → IsImage crash.now image → IsImageOfOne (more ++ old.now ∷ []) image
last_of [] old crash image states is = inl (subst (λ (s : DiskState). IsImage s image) (ap (first_of crash.now) states) is)
last_of (s ∷ more) old crash image states is = inl (subst (λ (s : DiskState). IsImage s image) (ap (first_of crash.now) states) is)

pub image_since : (old new : History) (image : List ℕ) → WasImage old new image → IsImageSince old new image
image_since old new image was = image-prefix old was.crash new image was.before
    (record { since = was.since; left = last_of was.since.more old was.crash image was.since.states was.is })

all_images-one : (P : List ℕ → Type 0) (states : List DiskState) → AllImages P states → (image : List ℕ) → IsImageOfOne states image → P image
all_images-one P [] all image none = elim none [ ]
all_images-one P (s ∷ states) all image (inl is) = all.0 image is
all_images-one P (s ∷ states) all image (inr is) = all_images-one P states all.1 image is

-- what each call leaves, and a crash at the start, is all that a crash since the start leaves
pub leaves_all : (P : List ℕ → Type 0) (old new : History) → LeavesOnly P old new → ((image : List ℕ) → IsImage old.now image → P image) → (image : List ℕ) → IsImageSince old new image → P image
leaves_all P old new leaves start image is =
    let same : is.since.more ≡ leaves.more = append_cancel_right _ _ (old.now ∷ old.past) (sym is.since.states ∙ leaves.states) in
    all_images-one P (leaves.more ++ old.now ∷ []) (all_images-append P leaves.more (old.now ∷ []) leaves.images (start, tt)) image
    (subst (λ (l : List DiskState). IsImageOfOne (l ++ old.now ∷ []) image) same is.left)
