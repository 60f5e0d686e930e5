-- The images that a journal is read with are whole pages with rising numbers.
use Rattle.std.proofs.Common.{◌≡◌, ◌<◌, ◌==◌, ◌&&◌, ℕ, zero, suc, ◌+◌, nat_lt, Bool, true, false, cond, List, [], ◌∷◌, length, take, drop, Option, Some, None, refl, ap, subst, arith}
use Rattle.std.proofs.lemmas.Bool.{ltb-false, ltb-true}
use Rattle.std.proofs.lemmas.List.{length-take, length-drop}
use Rattle.std.proofs.lemmas.Option.{same_Some, cond_some}
use Rattle.std.specs.List.{AllByRecursion, starts_with}
use Rattle.std.specs.Prelude.{nat_eq, Result, Ok, Err, option_and_then, option_map}
use Rattle.byteorder.specs.Endian.{big_number}
use Rattle.tree_model.proofs.Lists.{all_on}
use Rattle.node_records.proofs.ReadLaws.{both}
use Rattle.page_store.specs.Images.{Rising}
use Rattle.journal.specs.Groups.{body_at, frames_images, group_at, images_at, number_at, only_commits, only_images, size_at}
use Rattle.journal.specs.Journals.{groups_from, header, is_fresh, last_group, read, with_first}
use Rattle.journal.specs.PageImages.{images_in, images_of, numbers_rise}
use Rattle.journal.specs.declared.group.Group.{Group}
use Rattle.journal.specs.declared.group.Groups.{Groups}
use Rattle.journal.specs.declared.group.Images.{Images}
use Rattle.recovery.specs.inside.Finishing.{ArePages}

-- ---- a body

whole_more : (n : ℕ) (bytes : List ℕ) (images : List (ℕ × List ℕ)) → images_of n bytes ≡ Some images → AllByRecursion (λ image. length image.1 ≡ 8_192) images
unfolding images_of
whole_more zero [] images e = subst (AllByRecursion (λ (image : ℕ × List ℕ). length image.1 ≡ 8_192)) (same_Some [] images e) tt
whole_more zero (b ∷ bytes) images e = cc
whole_more (suc n) bytes images e = (elim (nat_lt (length bytes) 8_196) as (λ b. nat_lt (length bytes) 8_196 ≡ b
    → cond b None (option_map (λ (more : List (ℕ × List ℕ)). (big_number 4 bytes, take 8_192 (drop 4 bytes)) ∷ more) (images_of n (drop 8_196 bytes))) ≡ Some images
    → AllByRecursion (λ image. length image.1 ≡ 8_192) images) [
      | true ↦ λ h is. cc
      | false ↦ λ h is. (elim (images_of n (drop 8_196 bytes)) as (λ o. images_of n (drop 8_196 bytes) ≡ o
          → option_map (λ (more : List (ℕ × List ℕ)). (big_number 4 bytes, take 8_192 (drop 4 bytes)) ∷ more) o ≡ Some images → AllByRecursion (λ image. length image.1 ≡ 8_192) images) [
            | None ↦ λ g same. cc
            | Some more ↦ λ g same.
                let long = ltb-false (length bytes) 8_196 h in
                subst (AllByRecursion (λ (image : ℕ × List ℕ). length image.1 ≡ 8_192)) (same_Some ((big_number 4 bytes, take 8_192 (drop 4 bytes)) ∷ more) images same)
                (omega (arith, long, length-take 8_192 (drop 4 bytes), length-drop 4 bytes), whole_more n (drop 8_196 bytes) more g)
          ]) refl is
    ]) refl e

rising_above : (low : ℕ) (images : List (ℕ × List ℕ)) (first : ℕ × List ℕ) → low < first.0 → AllByRecursion (λ later. first.0 < later.0) images → AllByRecursion (λ later. low < later.0) images
rising_above low images first less above = all_on (λ (later : ℕ × List ℕ). first.0 < later.0) (λ (later : ℕ × List ℕ). low < later.0) (λ later more. omega (arith, less, more)) images above

rises : (images : List (ℕ × List ℕ)) → numbers_rise images ≡ true → Rising images
rises [] h = tt
rises (image ∷ []) h = (tt, tt)
rises (image ∷ next ∷ images) h =
    let parts = both (nat_lt image.0 next.0) (numbers_rise (next ∷ images)) h in
    let less = ltb-true image.0 next.0 parts.0 in
    let rest = rises (next ∷ images) parts.1 in
    ((less, rising_above image.0 images next less rest.0), rest)

body_pages : (body : List ℕ) (images : List (ℕ × List ℕ)) → images_in body ≡ Some images → ArePages images
unfolding images_in
body_pages body images e = (elim (nat_lt (length body) 4) as (λ b. cond b None (option_and_then (λ (found : List (ℕ × List ℕ)). cond (numbers_rise found) (Some found) None) (images_of (big_number 4 body) (drop 4 body))) ≡ Some images → ArePages images) [
  | true ↦ λ is. cc
  | false ↦ λ is. (elim (images_of (big_number 4 body) (drop 4 body)) as (λ o. images_of (big_number 4 body) (drop 4 body) ≡ o
      → option_and_then (λ (found : List (ℕ × List ℕ)). cond (numbers_rise found) (Some found) None) o ≡ Some images → ArePages images) [
        | None ↦ λ g same. cc
        | Some found ↦ λ g same.
            let parts = cond_some (numbers_rise found) found images same in
            subst ArePages parts.1 (record { whole = whole_more (big_number 4 body) (drop 4 body) found g; rising = rises found parts.0 })
      ]) refl is
]) e

-- ---- a group

abbrev images_told : Images × ℕ → Option (Images × ℕ) → Images × ℕ
images_told other None = other
images_told other (Some found) = found

group_pages : (last : Option ℕ) (rest : List ℕ) (found : Images × ℕ) → images_at last rest ≡ Some found → ArePages found.0.pages
unfolding images_at
group_pages last rest found e = (elim (frames_images last rest) as (λ b. cond b (option_map (λ (pages : List (ℕ × List ℕ)). (record { number = number_at rest; pages = pages }, size_at rest)) (images_in (body_at rest))) None ≡ Some found → ArePages found.0.pages) [
  | false ↦ λ is. cc
  | true ↦ λ is. (elim (images_in (body_at rest)) as (λ o. images_in (body_at rest) ≡ o
      → option_map (λ (pages : List (ℕ × List ℕ)). (record { number = number_at rest; pages = pages }, size_at rest)) o ≡ Some found → ArePages found.0.pages) [
        | None ↦ λ g same. cc
        | Some pages ↦ λ g same. subst (λ (x : Images × ℕ). ArePages x.0.pages) (ap (images_told found) same) (body_pages (body_at rest) pages g)
      ]) refl is
]) e

-- ---- a journal

abbrev HavePages : Groups → Type 0
HavePages groups = (images : Images) → groups.images ≡ Some images → ArePages images.pages

abbrev groups_told : Groups → Result Groups ℕ → Groups
groups_told other (Ok groups) = groups
groups_told other (Err at) = other

no_pages : (commits : List Group) → HavePages (only_commits commits)
no_pages commits images e = cc

last_pages : (at : ℕ) (last : Option ℕ) (rest : List ℕ) (groups : Groups) → last_group at last rest ≡ Ok groups → HavePages groups
last_pages at last rest groups e = (elim (images_at last rest) as (λ o. images_at last rest ≡ o
    → elim o as (λ _. Result Groups ℕ) [ None ↦ Err at | Some found ↦ Ok (only_images found.0) ] ≡ Ok groups → HavePages groups) [
      | None ↦ λ g is. cc
      | Some found ↦ λ g is. subst HavePages (ap (groups_told groups) is)
          (λ images same. let alike : found.0 ≡ images = same_Some found.0 images same in subst (λ (x : Images). ArePages x.pages) alike (group_pages last rest found g))
    ]) refl e

first_pages : (group : Group) (r : Result Groups ℕ) (groups : Groups) → ((found : Groups) → r ≡ Ok found → HavePages found) → with_first group r ≡ Ok groups → HavePages groups
first_pages group (Ok found) groups have e = subst HavePages (ap (groups_told groups) e) (have found refl)
first_pages group (Err at) groups have e = cc

gates_pages : (n at : ℕ) (last : Option ℕ) (bytes : List ℕ) (groups : Groups) → groups_from n at last bytes ≡ Ok groups → HavePages groups
unfolding groups_from
gates_pages zero at last bytes groups e = cc
gates_pages (suc n) at last [] groups e = cc
gates_pages (suc n) at last (gate ∷ rest) groups e = (elim (gate == 1) as (λ b. cond b
    (elim (group_at last rest) as (λ _. Result Groups ℕ) [ None ↦ last_group at last rest | Some found ↦ with_first found.0 (groups_from n (at + 1 + found.1) (Some found.0.number) (drop found.1 rest)) ])
    (Ok (only_commits [])) ≡ Ok groups → HavePages groups) [
      | false ↦ λ is. subst HavePages (ap (groups_told groups) is) (no_pages [])
      | true ↦ λ is. (elim (group_at last rest) as (λ o.
          elim o as (λ _. Result Groups ℕ) [ None ↦ last_group at last rest | Some found ↦ with_first found.0 (groups_from n (at + 1 + found.1) (Some found.0.number) (drop found.1 rest)) ] ≡ Ok groups
          → HavePages groups) [
            | None ↦ λ same. last_pages at last rest groups same
            | Some found ↦ λ same. first_pages found.0 (groups_from n (at + 1 + found.1) (Some found.0.number) (drop found.1 rest)) groups
                (λ more is_more. gates_pages n (at + 1 + found.1) (Some found.0.number) (drop found.1 rest) more is_more) same
          ]) is
    ]) e

pub read_pages : (journal : List ℕ) (groups : Groups) → read journal ≡ Ok groups → HavePages groups
unfolding read
read_pages journal groups e = (elim (is_fresh journal) as (λ b. cond b (Ok (only_commits [])) (cond (starts_with nat_eq journal header && nat_lt 8 (length journal)) (groups_from (length journal) 8 None (drop 8 journal)) (Err 0)) ≡ Ok groups → HavePages groups) [
  | true ↦ λ is. subst HavePages (ap (groups_told groups) is) (no_pages [])
  | false ↦ λ is. made (starts_with nat_eq journal header && nat_lt 8 (length journal)) is
]) e
  where
    made : (b : Bool) → cond b (groups_from (length journal) 8 None (drop 8 journal)) (Err 0) ≡ Ok groups → HavePages groups
    made true is = gates_pages (length journal) 8 None (drop 8 journal) groups is
    made false is = cc
