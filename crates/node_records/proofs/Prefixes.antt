-- What is left by a call that puts several parts at the end, one after another.
use Rattle.std.proofs.Common.{◌≡◌, ℕ, List, [], ◌∷◌, ◌++◌, length, take, drop, refl, sym, ap, ◌∙◌, append_assoc}
use Rattle.std.proofs.Math.Seq.{take-append_seam}
use Rattle.std.proofs.lemmas.List.{take-append-drop}
use Rattle.std.proofs.lemmas.List.Concat.{flat_map-append}
use Rattle.std.specs.List.{flat_map}
use Rattle.node_records.specs.Divisions.{division_bytes}
use Rattle.node_records.specs.Labels.{label_bytes}
use Rattle.dewey_labels.specs.Lists.{AppendsPrefix}

-- all of the first part was put
pub prefix_all : (a b old new : List ℕ) → new ≡ old ++ a → AppendsPrefix (a ++ b) old new
prefix_all a b old new h = record { prefix = a; rest = b; cut = refl; put = h }

-- a prefix of the first part was put
pub prefix_more : (a b old new : List ℕ) → AppendsPrefix a old new → AppendsPrefix (a ++ b) old new
prefix_more a b old new w = record { prefix = w.prefix; rest = w.rest ++ b; cut = ap (λ (x : List ℕ). x ++ b) w.cut ∙ append_assoc w.prefix w.rest b; put = w.put }

-- all of the first part was put, then a prefix of the second
pub prefix_after : (a b old mid new : List ℕ) → mid ≡ old ++ a → AppendsPrefix b mid new → AppendsPrefix (a ++ b) old new
prefix_after a b old mid new h w = record {
  prefix = a ++ w.prefix;
  rest = w.rest;
  cut = ap (λ (x : List ℕ). a ++ x) w.cut ∙ sym (append_assoc a w.prefix w.rest);
  put = w.put ∙ ap (λ (x : List ℕ). x ++ w.prefix) h ∙ append_assoc old a w.prefix;
}

-- the first divisions of a label were put
pub prefix_of_label : (l ds : List ℕ) (i : ℕ) (old mid new : List ℕ) → ds ≡ l → mid ≡ old ++ flat_map division_bytes (take i ds) → new ≡ mid → AppendsPrefix (label_bytes l) old new
prefix_of_label l ds i old mid new same before now =
    let first = flat_map division_bytes (take i ds) in
    let others = flat_map division_bytes (drop i ds) in
    record {
      prefix = first;
      rest = others ++ 0 ∷ [];
      cut = ap label_bytes (sym same ∙ sym (take-append-drop i ds)) ∙ ap (λ (x : List ℕ). x ++ 0 ∷ []) (flat_map-append division_bytes (take i ds) (drop i ds)) ∙ append_assoc first others (0 ∷ []);
      put = now ∙ before;
    }

-- what was put is cut off again
pub cut_back : (whole old mid new : List ℕ) (n : ℕ) → AppendsPrefix whole old mid → n ≡ length old → new ≡ take n mid → new ≡ old
cut_back whole old mid new n w is_length cut = cut ∙ (λ i. take (is_length i) (w.put i)) ∙ take-append_seam old w.prefix
