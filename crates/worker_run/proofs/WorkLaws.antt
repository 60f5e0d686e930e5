-- How a worker goes on line by line.
use Rattle.std.proofs.Common.{◌≡◌, ◌∙◌, ◌<◌, ◌≤◌, ◌+◌, ◌==◌, ℕ, cond, true, false, zero, suc, refl, sym, ap, subst, arith, List, [], ◌∷◌, ◌++◌, map, length, drop, None, Some, Ok, Err, append_assoc, append-nil, length-append, drop-cons, drop_of_length-le}
use Rattle.std.specs.List.{AllByRecursion, slice_index_or}
use Rattle.std.proofs.lemmas.List.{map-append}
use Rattle.command_lines.specs.declared.command.Command.{Command}
use Rattle.command_lines.specs.declared.line_reply.LineReply.{LineReply}
use Rattle.worker_run.specs.declared.port.PortFault.{PortFault}
use Rattle.worker_run.specs.Ports.{Ended, Exchange, LineDone, Ports}
use Rattle.worker_run.specs.Workers.{DoesLines, Went, own_lines}
use Rattle.worker_run.specs.inside.Working.{HasAnswered, RoomFor, HasServed, SoFar}

-- ---- the next line

pub next_line : (lines : List Command) (i : ℕ) (c : Command) → i < length lines → c ≡ slice_index_or lines i c → drop i lines ≡ c ∷ drop (i + 1) lines
next_line lines i c lt at =
    let one_more : suc i ≡ i + 1 = omega arith in
    drop-cons lines i c lt ∙ ap (λ x. x ∷ drop (suc i) lines) (sym at) ∙ ap (λ k. c ∷ drop k lines) one_more

-- what holds of each line holds of this one
pub line_at : (P : Command → Type 0) (lines : List Command) (i : ℕ) (c : Command) → i < length lines → c ≡ slice_index_or lines i c → AllByRecursion P lines → P c
line_at P lines i c lt at all = subst P (sym at) (go lines i lt all)
  where
    go : (ls : List Command) (k : ℕ) → k < length ls → AllByRecursion P ls → P (slice_index_or ls k c)
    go [] k less a = absurd (omega arith)
    go (l ∷ ls) zero less a = a.0
    go (l ∷ ls) (suc k) less a = go ls k (omega arith) a.1

own : (lines : List Command) (i s : ℕ) (c : Command) → i < length lines → c ≡ slice_index_or lines i c → (c.session == s) ≡ true
    → own_lines s (drop i lines) ≡ c ∷ own_lines s (drop (i + 1) lines)
own lines i s c lt at is = ap (own_lines s) (next_line lines i c lt at) ∙ ap (λ b. cond b (c ∷ own_lines s (drop (i + 1) lines)) (own_lines s (drop (i + 1) lines))) is

other : (lines : List Command) (i s : ℕ) (c : Command) → i < length lines → c ≡ slice_index_or lines i c → (c.session == s) ≡ false
    → own_lines s (drop i lines) ≡ own_lines s (drop (i + 1) lines)
other lines i s c lt at is = ap (own_lines s) (next_line lines i c lt at) ∙ ap (λ b. cond b (c ∷ own_lines s (drop (i + 1) lines)) (own_lines s (drop (i + 1) lines))) is

firsts : (gave : List Exchange) (c : Command) (reply : LineReply) (more : List Command) → map (λ (a : Exchange). a.0) (gave ++ (c, reply) ∷ []) ++ more ≡ map (λ (a : Exchange). a.0) gave ++ c ∷ more
firsts gave c reply more = ap (λ xs. xs ++ more) (map-append (λ (a : Exchange). a.0) gave ((c, reply) ∷ [])) ∙ append_assoc (map (λ (a : Exchange). a.0) gave) (c ∷ []) more

module _ {P : Type 0} (m : Ports P) where
  pub begun : (lines : List Command) (old : P) (before : List LineReply) → m.did old [] old → (m.told old).fault ≡ None → SoFar m lines 0 old old before before
  begun lines old before nothing usable = record {
    gave = [];
    did = nothing;
    kept = sym (append-nil before);
    session = refl;
    usable = usable;
    through = refl;
  }

  pub passed : (lines : List Command) (i : ℕ) (old now : P) (before replies : List LineReply) (c : Command) → i < length lines → c ≡ slice_index_or lines i c
      → (c.session == (m.told old).session) ≡ false → SoFar m lines i old now before replies → SoFar m lines (i + 1) old now before replies
  passed lines i old now before replies c lt at is f = record {
    gave = f.gave;
    did = f.did;
    kept = f.kept;
    session = f.session;
    usable = f.usable;
    through = ap (λ ls. map (λ (a : Exchange). a.0) f.gave ++ ls) (sym (other lines i (m.told old).session c lt at is)) ∙ f.through;
  }

  pub answered : (on : (p q r : P) (xs ys : List Exchange) → m.did p xs q → m.did q ys r → m.did p (xs ++ ys) r)
      → (lines : List Command) (i : ℕ) (old now next : P) (before replies : List LineReply) (c : Command) (reply : LineReply) → i < length lines → c ≡ slice_index_or lines i c
      → (c.session == (m.told old).session) ≡ true → SoFar m lines i old now before replies → LineDone m now c next (Ok reply) → SoFar m lines (i + 1) old next before (replies ++ reply ∷ [])
  answered on lines i old now next before replies c reply lt at is f d = record {
    gave = f.gave ++ (c, reply) ∷ [];
    did = on old now next f.gave ((c, reply) ∷ []) f.did d.0;
    kept = ap (λ xs. xs ++ reply ∷ []) f.kept ∙ append_assoc before (map (λ (a : Exchange). a.1) f.gave) (reply ∷ [])
        ∙ ap (λ xs. before ++ xs) (sym (map-append (λ (a : Exchange). a.1) f.gave ((c, reply) ∷ [])));
    session = d.2 ∙ f.session;
    usable = d.1;
    through = firsts f.gave c reply (own_lines (m.told old).session (drop (i + 1) lines))
        ∙ ap (λ ls. map (λ (a : Exchange). a.0) f.gave ++ ls) (sym (own lines i (m.told old).session c lt at is)) ∙ f.through;
  }

  pub failed : (lines : List Command) (i : ℕ) (old now next : P) (before replies : List LineReply) (c : Command) (fault : PortFault) → i < length lines → c ≡ slice_index_or lines i c
      → (c.session == (m.told old).session) ≡ true → SoFar m lines i old now before replies → LineDone m now c next (Err fault) → HasAnswered m lines old next before replies
  failed lines i old now next before replies c fault lt at is f d = record {
    gave = f.gave;
    kept = f.kept;
    session = d.2 ∙ f.session;
    went = subst (Went m (own_lines (m.told old).session lines) f.gave old next) (sym d.1) (record {
      before = now;
      did = f.did;
      at = c;
      met = d.0;
      rest = own_lines (m.told old).session (drop (i + 1) lines);
      prefix = ap (λ ls. map (λ (a : Exchange). a.0) f.gave ++ ls) (sym (own lines i (m.told old).session c lt at is)) ∙ f.through;
    });
  }

  pub all_done : (lines : List Command) (i : ℕ) (old now : P) (before replies : List LineReply) → length lines ≤ i → SoFar m lines i old now before replies → HasAnswered m lines old now before replies
  all_done lines i old now before replies past f = record {
    gave = f.gave;
    kept = f.kept;
    session = f.session;
    went = subst (Went m (own_lines (m.told old).session lines) f.gave old now) (sym f.usable) (record {
      did = f.did;
      all = sym (append-nil (map (λ (a : Exchange). a.0) f.gave))
          ∙ ap (λ ls. map (λ (a : Exchange). a.0) f.gave ++ own_lines (m.told old).session ls) (sym (drop_of_length-le lines past)) ∙ f.through;
    });
  }

  pub served_lines : (lines : List Command) (old last new : P) (before now : List LineReply) → (m.told old).fault ≡ None → HasAnswered m lines old last before now → Ended m last new → HasServed m lines old new before now
  served_lines lines old last new before now usable d e = record {
    worked = record {
      gave = d.gave;
      last = last;
      does = subst (DoesLines m lines d.gave old last) (sym usable) d.went;
      session = d.session;
      ended = e;
    };
    kept = d.kept;
  }

  pub served_nothing : (lines : List Command) (old new : P) (before : List LineReply) (fault : PortFault) → (m.told old).fault ≡ Some fault → Ended m old new → HasServed m lines old new before before
  served_nothing lines old new before fault told e = record {
    worked = record {
      gave = [];
      last = old;
      does = subst (DoesLines m lines [] old old) (sym told) (refl, refl);
      session = refl;
      ended = e;
    };
    kept = sym (append-nil before);
  }

-- ---- room

pub room_passed : (lines : List Command) (i s : ℕ) (replies : List LineReply) (capacity : ℕ) (c : Command) → i < length lines → c ≡ slice_index_or lines i c → (c.session == s) ≡ false
    → RoomFor lines i s replies capacity → RoomFor lines (i + 1) s replies capacity
room_passed lines i s replies capacity c lt at is room = rw (other lines i s c lt at is) at room

pub room_here : (lines : List Command) (i s : ℕ) (replies : List LineReply) (capacity : ℕ) (c : Command) → i < length lines → c ≡ slice_index_or lines i c → (c.session == s) ≡ true
    → RoomFor lines i s replies capacity → length replies < capacity
room_here lines i s replies capacity c lt at is room =
    let r : length replies + length (c ∷ own_lines s (drop (i + 1) lines)) ≤ capacity = rw (own lines i s c lt at is) at room in
    omega arith

pub room_answered : (lines : List Command) (i s : ℕ) (replies : List LineReply) (capacity more : ℕ) (c : Command) (reply : LineReply) → i < length lines → c ≡ slice_index_or lines i c → (c.session == s) ≡ true
    → capacity ≤ more → RoomFor lines i s replies capacity → RoomFor lines (i + 1) s (replies ++ reply ∷ []) more
room_answered lines i s replies capacity more c reply lt at is grows room =
    let r : length replies + length (c ∷ own_lines s (drop (i + 1) lines)) ≤ capacity = rw (own lines i s c lt at is) at room in
    rw (length-append replies (reply ∷ [])) (omega arith)
