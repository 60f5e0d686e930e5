-- Laws of joins, by the parts of the modes.
use Rattle.std.proofs.Common.{◌≡◌, Bool, false, ◌&&◌, Option, Some, None, refl, sym, ap, ◌∙◌, arith}
use Rattle.lock_modes.specs.declared.part.ReadPart.{ReadPart}
use Rattle.lock_modes.specs.declared.part.WritePart.{WritePart}
use Rattle.lock_modes.specs.declared.mode.Mode.{Mode}
use Rattle.lock_modes.specs.Parts.{greater_read, greater_write, admits}
use Rattle.lock_modes.specs.Modes.{Parts, parts, mode_of, greater_parts, join, go_together, compatible}

-- ---- each part, by trying all

read_associative : (r s t : ReadPart) → greater_read (greater_read r s) t ≡ greater_read r (greater_read s t)
read_associative r s t = grind arith

read_commutative : (r s : ReadPart) → greater_read r s ≡ greater_read s r
read_commutative r s = grind arith

write_associative : (r s t : WritePart) → greater_write (greater_write r s) t ≡ greater_write r (greater_write s t)
write_associative r s t = grind arith

write_commutative : (r s : WritePart) → greater_write r s ≡ greater_write s r
write_commutative r s = grind arith

-- a write part admits the greater of two read parts where it admits both
admits_greater_read : (w : WritePart) (r s : ReadPart) → admits w (greater_read r s) ≡ (admits w r && admits w s)
admits_greater_read w r s = grind arith

admits_greater_write : (w v : WritePart) (r : ReadPart) → admits (greater_write w v) r ≡ (admits w r && admits v r)
admits_greater_write w v r = grind arith

-- ---- both parts

parts_associative : (p q r : Option Parts) → greater_parts (greater_parts p q) r ≡ greater_parts p (greater_parts q r)
parts_associative None q r = refl
parts_associative (Some p) None r = refl
parts_associative (Some p) (Some q) None = refl
parts_associative (Some p) (Some q) (Some r) = λ i. Some (read_associative p.0 q.0 r.0 i, write_associative p.1 q.1 r.1 i)

parts_commutative : (p q : Option Parts) → greater_parts p q ≡ greater_parts q p
parts_commutative None None = refl
parts_commutative None (Some q) = refl
parts_commutative (Some p) None = refl
parts_commutative (Some p) (Some q) = λ i. Some (read_commutative p.0 q.0 i, write_commutative p.1 q.1 i)

-- four tests in two orders
regroup : (a b c d : Bool) → ((a && b) && (c && d)) ≡ ((a && c) && (b && d))
regroup a b c d = grind arith

none_with_any : (b : Bool) → (b && false) ≡ false
none_with_any b = grind arith

parts_together : (p q r : Option Parts) → go_together (greater_parts p q) r ≡ (go_together p r && go_together q r)
parts_together None q r = refl
parts_together (Some p) None None = refl
parts_together (Some p) None (Some r) = sym (none_with_any _)
parts_together (Some p) (Some q) None = refl
parts_together (Some p) (Some q) (Some r) =
    (λ i. admits_greater_write p.1 q.1 r.0 i && admits_greater_read r.1 p.0 q.0 i) ∙ regroup (admits p.1 r.0) (admits q.1 r.0) (admits r.1 p.0) (admits r.1 q.0)

-- ---- modes

-- the parts of a join are the greater of each
pub parts_of_join : (m k : Mode) → parts (join m k) ≡ greater_parts (parts m) (parts k)
parts_of_join m k = grind arith

pub join_associative : (m k l : Mode) → join (join m k) l ≡ join m (join k l)
join_associative m k l =
    ap (λ p. mode_of (greater_parts p (parts l))) (parts_of_join m k)
    ∙ ap mode_of (parts_associative (parts m) (parts k) (parts l))
    ∙ ap (λ p. mode_of (greater_parts (parts m) p)) (sym (parts_of_join k l))

pub join_commutative : (m k : Mode) → join m k ≡ join k m
join_commutative m k = ap mode_of (parts_commutative (parts m) (parts k))

pub join_idempotent : (m : Mode) → join m m ≡ m
join_idempotent m = grind arith

-- a join goes together with a mode exactly where both joined modes do
pub compatible_join : (m k l : Mode) → compatible (join m k) l ≡ (compatible m l && compatible k l)
compatible_join m k l = ap (λ p. go_together p (parts l)) (parts_of_join m k) ∙ parts_together (parts m) (parts k) (parts l)
