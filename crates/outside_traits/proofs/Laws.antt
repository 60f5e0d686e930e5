-- How what was given and what was taken follow each other.
use Rattle.std.proofs.Common.{ℕ, List, [], ◌++◌, refl, sym, ap, ◌∙◌, subst, append_assoc, append-nil}
use Rattle.std.specs.Prelude.{Option, Some, None}
use Rattle.std.specs.Option.{option_map}
use Rattle.outside_traits.specs.Bytes.{Gave, Took, TookAllBut, TookPrefix}

pub gave_none : (left : Option (List ℕ)) → Gave left left []
gave_none None = refl
gave_none (Some bytes) = refl

pub gave_on : (a b c : Option (List ℕ)) (x y : List ℕ) → Gave a b x → Gave b c y → Gave a c (x ++ y)
gave_on a b None x y p q = p ∙ ap (λ o. option_map (λ rest. x ++ rest) o) q
gave_on a b (Some rest) x y p q = p ∙ ap (λ o. option_map (λ bytes. x ++ bytes) o) q ∙ ap Some (sym (append_assoc x y rest))

pub took_none : (held : Option (List ℕ)) → Took held held []
took_none None = refl
took_none (Some bytes) = ap Some (sym (append-nil bytes))

pub took_on : (a b c : Option (List ℕ)) (x y : List ℕ) → Took a b x → Took b c y → Took a c (x ++ y)
took_on None b c x y p q = q ∙ ap (λ o. option_map (λ held. held ++ y) o) p
took_on (Some held) b c x y p q = q ∙ ap (λ o. option_map (λ bytes. bytes ++ y) o) p ∙ ap Some (append_assoc held x y)

-- a text that was taken whole
pub took_whole : (a b : Option (List ℕ)) (text : List ℕ) → Took a b text → TookAllBut a b text []
took_whole a b text took = record { prefix = text; took = took; all = append-nil text }

pub whole_took : (a b : Option (List ℕ)) (text : List ℕ) → TookAllBut a b text [] → Took a b text
whole_took a b text w = subst (Took a b) (sym (append-nil w.prefix) ∙ w.all) w.took

-- nothing was taken yet
pub took_nothing : (held : Option (List ℕ)) (text : List ℕ) → TookAllBut held held text text
took_nothing held text = record { prefix = []; took = took_none held; all = refl }

-- of what was left of a text, and then more, all but `rest` was taken
pub took_more : (a b c : Option (List ℕ)) (text left more rest : List ℕ) → TookAllBut a b text left → TookAllBut b c (left ++ more) rest → TookAllBut a c (text ++ more) rest
took_more a b c text left more rest p q = record {
  prefix = p.prefix ++ q.prefix;
  took = took_on a b c p.prefix q.prefix p.took q.took;
  all = append_assoc p.prefix q.prefix rest ∙ ap (λ t. p.prefix ++ t) q.all ∙ sym (append_assoc p.prefix left more) ∙ ap (λ t. t ++ more) p.all;
}

-- a prefix of a text is a prefix of what goes on after it
pub prefix_more : (a b : Option (List ℕ)) (text more : List ℕ) → TookPrefix a b text → TookPrefix a b (text ++ more)
prefix_more a b text more p = (
  p.0 ++ more,
  record {
    prefix = p.1.prefix;
    took = p.1.took;
    all = sym (append_assoc p.1.prefix p.0 more) ∙ ap (λ t. t ++ more) p.1.all;
  },
)
