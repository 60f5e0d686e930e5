-- What a run of a script leaves at each of its ends, for any machine.
use Rattle.std.proofs.Common.{◌≡◌, ℕ, suc, ◌+◌, ◌<◌, ◌≤◌, true, false, cond, eqb, List, [], ◌∷◌, ◌++◌, length, take, drop, refl, sym, ap, ◌∙◌, subst, arith, append_assoc, append-nil, length-append, take-append-drop, add-zero, inl, inr}
use Rattle.std.specs.Prelude.{Option, Some, None, Result, Ok, Err, IfSome}
use Rattle.std.proofs.Math.Seq.{take-append_seam, take-nil}
use Rattle.outside_traits.specs.Bytes.{Took, TookAllBut, TookPrefix}
use Rattle.outside_traits.specs.DiskPairs.{PairsHave, PairsLeave}
use Rattle.outside_traits.proofs.Laws.{took_more, took_none, took_nothing, took_on, took_whole, whole_took}
use Rattle.script_runs.specs.Lines.{ended, unended, last_line, lines_of, first_long, AllShort}
use Rattle.script_runs.specs.Machine.{Machine, IsSettled}
use Rattle.script_runs.specs.Texts.{answers, state_after, text_of, script_text}
use Rattle.script_runs.specs.inside.Feeding.{Script, with_state, start, IsNew, Standing, IsInLine, slack_of, stopped, DoneFrom, LeavesFrom, Leaves, EndsFrom, TakesFrom, Fed, Overran}
use Rattle.script_runs.specs.Runs.{HoldsFrom, slack_at, AskedLines, IsExact, IfAnswered, IfDone, IsPrompt, Ran}
use Rattle.script_runs.specs.declared.feeding.Stop.{Stop}
use Rattle.script_runs.specs.declared.feeding.Stop.TheVariants as stop
use Rattle.script_runs.specs.declared.running.End.{End}
use Rattle.script_runs.specs.declared.running.End.TheVariants.{Done, LineTooLong, ReadFault, WriteFault, Halted}
use Rattle.script_runs.specs.declared.halt.Halt.TheVariants.{NoMemory}
use Rattle.script_runs.proofs.LineEnds.{ltb_tells}
use Rattle.script_runs.proofs.FeedingLaws.{state_after_on, ended_on, unended_on, answers_on, short_on, ended_in_line, unended_in_line, fed_on}
use Rattle.script_runs.proofs.LogLaws.{does_on, does_still}

pub long_behind : (limit n : ℕ) (prefix lines : List (List ℕ)) → AllShort limit prefix → first_long limit n (prefix ++ lines) ≡ first_long limit (n + length prefix) lines
long_behind limit n [] lines h = ap (λ k. first_long limit k lines) (sym (add-zero n))
long_behind limit n (line ∷ prefix) lines h =
    let count : n + 1 + length prefix ≡ n + suc (length prefix) = omega arith in
    elim (ltb_tells limit (length line)) [ inl e ↦ absurd (omega (arith, h.0, e.1)) | inr e ↦ ap (λ v. cond v (Some n) (first_long limit (n + 1) (prefix ++ lines))) e.0 ∙ long_behind limit (n + 1) prefix lines h.1 ∙ ap (λ k. first_long limit k lines) count ]

-- the lines of bytes behind a beginning of a line
abbrev pub lines_from : List ℕ → List ℕ → List (List ℕ)
lines_from line bytes = ended line bytes ++ last_line (unended line bytes)

-- a line that is long already is long
still_long : (limit n : ℕ) (line bytes : List ℕ) → limit < length line → first_long limit n (lines_from line bytes) ≡ Some n
still_long limit n [] [] h = absurd (omega arith)
still_long limit n (x ∷ line) [] h = elim (ltb_tells limit (suc (length line))) [ inl e ↦ ap (λ v. cond v (Some n) None) e.0 | inr e ↦ absurd (omega (arith, e.1)) ]
still_long limit n line (b ∷ bytes) h =
    elim (eqb b 10) as (λ v. first_long limit n (cond v (line ∷ ended [] bytes) (ended (line ++ b ∷ []) bytes) ++ last_line (cond v (unended [] bytes) (unended (line ++ b ∷ []) bytes))) ≡ Some n) [
      | true ↦ elim (ltb_tells limit (length line)) [ inl e ↦ ap (λ v. cond v (Some n) (first_long limit (n + 1) (lines_from [] bytes))) e.0 | inr e ↦ absurd (omega (arith, e.1)) ]
      | false ↦ still_long limit n (line ++ b ∷ []) bytes (omega (arith, length-append line (b ∷ [])))
    ]

-- the lines of bytes are those that end in a prefix of them, and then the others
pub lines_on : (done more : List ℕ) → lines_of (done ++ more) ≡ ended [] done ++ lines_from (unended [] done) more
lines_on done more = (λ i. ended_on [] done more i ++ last_line (unended_on [] done more i)) ∙ append_assoc (ended [] done) (ended (unended [] done) more) _

lines_in_line : (line part more : List ℕ) → IsInLine part → lines_from line (part ++ more) ≡ lines_from (line ++ part) more
lines_in_line line part more h =
    (λ i. (ended_on line part more ∙ (λ j. ended_in_line line part h j ++ ended (unended_in_line line part h j) more)) i ++ last_line ((unended_on line part more ∙ ap (λ l. unended l more) (unended_in_line line part h)) i))

stopped_slack : (e : Stop) → (e ≡ stop.LineTooLong → ⊥) → slack_of (Err e) ≡ slack_at (stopped e)
stopped_slack stop.LineTooLong apart = absurd (apart refl)
stopped_slack stop.WriteFault apart = refl
stopped_slack (stop.Halted halt) apart = refl

short_off : (limit : ℕ) (xs ys : List (List ℕ)) → AllShort limit (xs ++ ys) → AllShort limit xs × AllShort limit ys
short_off limit [] ys p = (tt, p)
short_off limit (x ∷ xs) ys p = let parts = short_off limit xs ys p.1 in ((p.0, parts.0), parts.1)

-- the beginning of a line that isn't long isn't long
short_start : (limit : ℕ) (line bytes : List ℕ) → AllShort limit (lines_from line bytes) → length line ≤ limit
short_start limit [] [] h = omega arith
short_start limit (x ∷ line) [] h = h.0
short_start limit line (b ∷ bytes) h =
    elim (eqb b 10) as (λ v. AllShort limit (cond v (line ∷ ended [] bytes) (ended (line ++ b ∷ []) bytes) ++ last_line (cond v (unended [] bytes) (unended (line ++ b ∷ []) bytes))) → length line ≤ limit) [
      | true ↦ λ g. g.0
      | false ↦ λ g. let longer = short_start limit (line ++ b ∷ []) bytes g in omega (arith, longer, length-append line (b ∷ []))
    ] h

last_short : (limit : ℕ) (line : List ℕ) → length line ≤ limit → AllShort limit (last_line line)
last_short limit [] h = tt
last_short limit (b ∷ line) h = (h, tt)

stopped_answered : (e : Stop) → (e ≡ stop.LineTooLong → ⊥) → (P : Type 0) → IfAnswered (stopped e) P
stopped_answered stop.LineTooLong apart P = absurd (apart refl)
stopped_answered stop.WriteFault apart P = tt
stopped_answered (stop.Halted halt) apart P = tt

stopped_undone : (e : Stop) (P : Type 0) → IfDone (stopped e) P
stopped_undone stop.LineTooLong P = tt
stopped_undone stop.WriteFault P = tt
stopped_undone (stop.Halted halt) P = tt

module _ {M : Type 0} (m : Machine M) (limit : ℕ) where
  stopped_exact : (s : m.State) (e : Stop) → (e ≡ stop.LineTooLong → ⊥) → (read : List ℕ) (h i : Option (List ℕ)) (lines : List (List ℕ)) (done : ℕ) → IsExact m limit s (stopped e) read h i lines done
  stopped_exact s stop.LineTooLong apart read h i lines done = absurd (apart refl)
  stopped_exact s stop.WriteFault apart read h i lines done = tt
  stopped_exact s (stop.Halted halt) apart read h i lines done = tt

  -- a script that is new stands at the start
  at_start : (k : Script M) (s : m.State) → IsNew k → with_state m k s ≡ start m s
  at_start k s new = λ i. record { state = s; lines = new.lines i; unended = new.unended i; pending = new.pending i }

  script_is : (s : m.State) (read : List ℕ) → script_text m s read ≡ text_of m s (ended [] read) ++ answers m (state_after m s (ended [] read)) (0 + length (ended [] read)) (last_line (unended [] read))
  script_is s read = answers_on m s 0 (ended [] read) (last_line (unended [] read))

  -- a run from what its steps did
  ran_of : (s : m.State) (end : End) (read : List ℕ) (asked : ℕ) (rest h i j : Option (List ℕ)) (a : M) (b : Script M) (n : M) (lines : List (List ℕ)) (r : Result (Unit {0}) Stop) (d : DoneFrom m limit (start m s) h i a b lines r)
      → n ≡ b.machine → slack_of r ≡ slack_at end → AskedLines rest read lines → TookPrefix h j (text_of m s (take d.done lines)) → IsExact m limit s end read h j lines d.done → IsPrompt m limit s (take asked read) h j → (IsSettled m a s → IfAnswered end (m.settled b.machine)) → IfDone end (m.stands b.machine (state_after m s lines)) → Ran m limit s end read asked rest h j a n
  ran_of s end read asked rest h i j a b n lines r d same slack asked_for wrote exact prompt settles stands =
      subst (λ (x : M). Ran m limit s end read asked rest h j a x) (sym same) (record {
        lines = lines;
        asked_for = asked_for;
        done = d.done;
        within = d.within;
        short = d.short;
        valid = d.valid;
        wrote = wrote;
        exact = exact;
        prompt = prompt;
        any_moment = λ settled. subst (λ (k : ℕ). PairsLeave (HoldsFrom m 0 (d.done + k) s lines) (m.disks a) (m.disks b.machine)) slack (d.any_moment settled);
        left = λ settled. subst (λ (k : ℕ). PairsHave (HoldsFrom m d.done (d.done + k) s lines) (m.disks b.machine)) slack (d.left settled);
        settled = settles;
        fixed = d.fixed;
        stands = stands;
      })

  -- ---- where a read is asked for

  pub prompt_later : (s : m.State) (bytes : List ℕ) (h i j : Option (List ℕ)) (text : List ℕ) → IsPrompt m limit s bytes h i → TookPrefix i j text → IsPrompt m limit s bytes h j
  prompt_later s bytes h i j text p q = record {
    wrote = (p.wrote.0 ++ q.1.prefix, subst (Took h j) (append_assoc (text_of m s (ended [] bytes)) p.wrote.0 q.1.prefix) (took_on h i j _ q.1.prefix p.wrote.1 q.1.took));
    short = p.short;
  }

  pub prompt_nothing : (s : m.State) (asked : ℕ) (h : Option (List ℕ)) → IsPrompt m limit s (take asked []) h h
  prompt_nothing s asked h = subst (λ (bytes : List ℕ). IsPrompt m limit s bytes h h) (sym (take-nil asked)) (record { wrote = ([], took_none h); short = tt })

  -- all is written behind these bytes
  pub prompt_here : (s : m.State) (a : Script M) → IsNew a → (h : Option (List ℕ)) (read : List ℕ) (b : Script M) (i : Option (List ℕ)) → LeavesFrom m limit s a b h i read (Ok tt) → b.pending ≡ [] → length b.unended ≤ limit → IsPrompt m limit s read h i
  prompt_here s a new h read b i p written short =
      let fed : Fed m limit (start m s) (with_state m b p.comes.0) h i read = subst (λ (k : Standing m). Fed m limit k (with_state m b p.comes.0) h i read) (at_start a s new) p.comes.2 in
      let text : Took h i (text_of m s (ended [] read)) = whole_took h i _ (subst (λ k. TookAllBut h i (text_of m s (ended [] read)) k) written fed.wrote) in
      record {
        wrote = ([], subst (Took h i) (sym (append-nil _)) text);
        short = short_on limit (ended [] read) (last_line (unended [] read)) fed.short (last_short limit (unended [] read) (subst (λ (l : List ℕ). length l ≤ limit) fed.unended short));
      }

  -- what was so behind these bytes was so behind each beginning of them
  pub prompt_before : (s : m.State) (n : ℕ) (read : List ℕ) (h i : Option (List ℕ)) → IsPrompt m limit s read h i → IsPrompt m limit s (take n read) h i
  prompt_before s n read h i p =
      let x : List ℕ = take n read in
      let y : List ℕ = drop n read in
      let cut : x ++ y ≡ read = take-append-drop n read in
      let text : text_of m s (ended [] read) ≡ text_of m s (ended [] x) ++ answers m (state_after m s (ended [] x)) (0 + length (ended [] x)) (ended (unended [] x) y)
      = ap (λ (b : List ℕ). text_of m s (ended [] b)) (sym cut) ∙ ap (text_of m s) (ended_on [] x y) ∙ answers_on m s 0 (ended [] x) (ended (unended [] x) y) in
      let short : AllShort limit (ended [] x ++ lines_from (unended [] x) y) = subst (AllShort limit) (sym (ap lines_of cut) ∙ lines_on x y) p.short in
      let parts = short_off limit (ended [] x) (lines_from (unended [] x) y) short in
      record {
        wrote = (_, subst (Took h i) (ap (λ t. t ++ p.wrote.0) text ∙ append_assoc (text_of m s (ended [] x)) _ p.wrote.0) p.wrote.1);
        short = short_on limit (ended [] x) (last_line (unended [] x)) parts.0 (last_short limit (unended [] x) (short_start limit (unended [] x) y parts.1));
      }

  module _ (s : m.State) (a : Script M) (new : IsNew a) (h : Option (List ℕ)) (read : List ℕ) (asked : ℕ) where
    -- what was done from the start
    done_start : (b : Script M) (i : Option (List ℕ)) (r : Result (Unit {0}) Stop) → LeavesFrom m limit s a b h i read r → DoneFrom m limit (start m s) h i a.machine b (ended [] read) r
    done_start b i r p = subst (λ (k : Standing m). DoneFrom m limit k h i a.machine b (ended k.unended read) r) (at_start a s new) p.does

    fed_start : (b : Script M) (i : Option (List ℕ)) (p : LeavesFrom m limit s a b h i read (Ok tt)) → Fed m limit (start m s) (with_state m b p.comes.0) h i read
    fed_start b i p = subst (λ (k : Standing m). Fed m limit k (with_state m b p.comes.0) h i read) (at_start a s new) p.comes.2

    done_end : (b c : Script M) (i j : Option (List ℕ)) (r : Result (Unit {0}) Stop) (p : LeavesFrom m limit s a b h i read (Ok tt)) → EndsFrom m limit p.comes.0 b c i j r → DoneFrom m limit (start m s) h j a.machine c (lines_of read) r
    done_end b c i j r p q =
        let fed = fed_start b i p in
        subst (λ (l : List ℕ). DoneFrom m limit (start m s) h j a.machine c (ended [] read ++ last_line l) r) fed.unended
        (does_on m limit (start m s) (with_state m b p.comes.0) a.machine b c h i j (ended [] read) (last_line b.unended) r fed.state fed.lines fed.short fed.wrote (done_start b i (Ok tt) p) q.does)

    -- the input ended and all is written
    pub run_done : (b c : Script M) (i j rest : Option (List ℕ)) (p : TakesFrom m limit s a b h i read asked (Ok tt)) → EndsFrom m limit p.leaves.comes.0 b c i j (Ok tt) → IfSome rest (λ bytes. bytes ≡ []) → Ran m limit s Done read asked rest h j a.machine c.machine
    run_done b c i j rest p q ends =
        let fed = fed_start b i p.leaves in
        let d = done_end b c i j (Ok tt) p.leaves q in
        let same : answers m p.leaves.comes.0 b.lines (last_line b.unended) ≡ answers m (state_after m s (ended [] read)) (0 + length (ended [] read)) (last_line (unended [] read)) = λ k. answers m (fed.state k) (fed.lines k) (last_line (fed.unended k)) in
        let text : Took h j (script_text m s read) = subst (Took h j) (ap (λ t. text_of m s (ended [] read) ++ t) same ∙ sym (script_is s read)) (whole_took h j _ (took_more h i j (text_of m s (ended [] read)) b.pending _ [] fed.wrote q.wrote)) in
        let at_end : state_after m p.leaves.comes.0 (last_line b.unended) ≡ state_after m s (lines_of read) = (λ k. state_after m (fed.state k) (last_line (fed.unended k))) ∙ sym (state_after_on m s (ended [] read) (last_line (unended [] read))) in
        ran_of s Done read asked rest h j j a.machine c c.machine (lines_of read) (Ok tt) d refl refl (inr (ends, refl)) d.wrote (d.whole, refl, text) (prompt_later s (take asked read) h i j _ p.prompt q.does.wrote) d.kept
        (subst (m.stands c.machine) at_end q.stands)

    -- the input ended and its last line stopped the script
    pub run_end_stopped : (b c : Script M) (i j rest : Option (List ℕ)) (e : Stop) → (e ≡ stop.LineTooLong → ⊥) → (p : TakesFrom m limit s a b h i read asked (Ok tt)) → EndsFrom m limit p.leaves.comes.0 b c i j (Err e) → IfSome rest (λ bytes. bytes ≡ []) → Ran m limit s (stopped e) read asked rest h j a.machine c.machine
    run_end_stopped b c i j rest e apart p q ends =
        let d = done_end b c i j (Err e) p.leaves q in
        ran_of s (stopped e) read asked rest h j j a.machine c c.machine (lines_of read) (Err e) d refl (stopped_slack e apart) (inr (ends, refl)) d.wrote (stopped_exact s e apart read h j (lines_of read) d.done) (prompt_later s (take asked read) h i j _ p.prompt q.does.wrote) (λ settled. stopped_answered e apart _) (stopped_undone e _)

    -- the reading failed
    pub run_read_fault : (b : Script M) (i rest : Option (List ℕ)) → TakesFrom m limit s a b h i read asked (Ok tt) → b.pending ≡ [] → length b.unended ≤ limit → Ran m limit s ReadFault read asked rest h i a.machine b.machine
    run_read_fault b i rest p written short =
        let d = done_start b i (Ok tt) p.leaves in
        let now = prompt_here s a new h read b i p.leaves written short in
        let text : Took h i (text_of m s (ended [] read)) = whole_took h i _ (subst (λ k. TookAllBut h i (text_of m s (ended [] read)) k) written (fed_start b i p.leaves).wrote) in
        ran_of s ReadFault read asked rest h i i a.machine b b.machine (ended [] read) (Ok tt) d refl refl (inl refl) d.wrote (d.whole, refl, text, now.short) p.prompt d.kept tt

    -- a step stopped for good
    pub run_stopped : (b : Script M) (i rest : Option (List ℕ)) (e : Stop) → (e ≡ stop.LineTooLong → ⊥) → TakesFrom m limit s a b h i read asked (Err e) → Ran m limit s (stopped e) read asked rest h i a.machine b.machine
    run_stopped b i rest e apart p =
        let d = done_start b i (Err e) p.leaves in
        ran_of s (stopped e) read asked rest h i i a.machine b b.machine (ended [] read) (Err e) d refl (stopped_slack e apart) (inl refl) d.wrote (stopped_exact s e apart read h i (ended [] read) d.done) p.prompt (λ settled. stopped_answered e apart _) (stopped_undone e _)

    over_start : (b : Script M) (i : Option (List ℕ)) (p : LeavesFrom m limit s a b h i read (Err stop.LineTooLong)) → Overran m limit (start m s) (with_state m b p.comes.0) h i read
    over_start b i p = subst (λ (k : Standing m). Overran m limit k (with_state m b p.comes.0) h i read) (at_start a s new) p.comes.2

    -- the lines that were done are those before the long one
    long_lines : (b : Script M) (i : Option (List ℕ)) (t : m.State) (over : Overran m limit (start m s) (with_state m b t) h i read) (done : ℕ) → b.lines ≡ 0 + done → take done (ended [] read) ≡ ended [] over.done
    long_lines b i t over done count =
        let rest : List ℕ = over.part ++ over.more in
        let lines : ended [] read ≡ ended [] over.done ++ ended (unended [] over.done) rest = ap (ended []) (over.cut ∙ append_assoc over.done over.part over.more) ∙ ended_on [] over.done rest in
        let before : done ≡ length (ended [] over.done) = omega (arith, count, over.fed.lines) in
        (λ k. take (before k) (lines k)) ∙ take-append_seam (ended [] over.done) _

    -- a line is too long, and the answers before it are written
    pub run_too_long : (b c : Script M) (i j rest : Option (List ℕ)) (n : ℕ) → TakesFrom m limit s a b h i read asked (Err stop.LineTooLong) → Leaves m limit b c i j [] (Ok tt) → c.machine ≡ b.machine → c.pending ≡ [] → n ≡ b.lines + 1
        → Ran m limit s (LineTooLong n) read asked rest h j a.machine c.machine
    run_too_long b c i j rest n takes leaves same written number =
        let p = takes.leaves in
        let t = p.comes.0 in
        let d = done_start b i (Err stop.LineTooLong) p in
        let over = over_start b i p in
        let flush = leaves t p.comes.1 in
        let flushed = flush.comes in
        let before = long_lines b i t over d.done d.counted in
        let fed = fed_on m limit (start m s) (with_state m b t) (with_state m c flushed.0) h i j over.done [] over.fed flushed.2 in
        let took : Took h j (text_of m s (ended [] over.done)) = whole_took h j _ (subst (λ k. TookAllBut h j (text_of m s (ended [] over.done)) k) written (subst (λ x. TookAllBut h j (text_of m s (ended [] x)) c.pending) (append-nil over.done) fed.wrote)) in
        let text : Took h j (text_of m s (take d.done (ended [] read))) = subst (λ ls. Took h j (text_of m s ls)) (sym before) took in
        let more : List ℕ = over.part ++ over.more in
        let cut : read ≡ over.done ++ more = over.cut ∙ append_assoc over.done over.part over.more in
        let lines : lines_of read ≡ ended [] over.done ++ lines_from (unended [] over.done ++ over.part) over.more = ap lines_of cut ∙ lines_on over.done more ∙ ap (λ l. ended [] over.done ++ l) (lines_in_line (unended [] over.done) over.part over.more over.in_line) in
        let is_long : limit < length (unended [] over.done ++ over.part) = subst (λ l. limit < length (l ++ over.part)) over.fed.unended over.long in
        let count : 1 + length (ended [] over.done) ≡ n = omega (arith, over.fed.lines, number) in
        let long : first_long limit 1 (lines_of read) ≡ Some n = ap (first_long limit 1) lines ∙ long_behind limit 1 (ended [] over.done) _ over.fed.short ∙ still_long limit (1 + length (ended [] over.done)) (unended [] over.done ++ over.part) over.more is_long ∙ ap Some count in
        let numbered : n ≡ d.done + 1 = omega (arith, number, d.counted) in
        ran_of s (LineTooLong n) read asked rest h i j a.machine b c.machine (ended [] read) (Err stop.LineTooLong) d same refl (inl refl) ([], took_whole h j _ text) (numbered, long, text) (prompt_later s (take asked read) h i j _ takes.prompt flush.does.wrote) d.kept tt

    -- a line is too long, and the sink took a prefix of the answers before it
    pub run_too_long_unwritten : (b c : Script M) (i j rest : Option (List ℕ)) (e : Stop) → TakesFrom m limit s a b h i read asked (Err stop.LineTooLong) → Leaves m limit b c i j [] (Err e) → c.machine ≡ b.machine → Ran m limit s WriteFault read asked rest h j a.machine c.machine
    run_too_long_unwritten b c i j rest e takes leaves same =
        let p = takes.leaves in
        let t = p.comes.0 in
        let d = done_start b i (Err stop.LineTooLong) p in
        let over = over_start b i p in
        let before = long_lines b i t over d.done d.counted in
        let flush = (leaves t p.comes.1).does in
        let nothing : flush.done ≡ 0 = omega (arith, flush.within) in
        let began : TookPrefix i j (b.pending ++ []) = subst (λ k. TookPrefix i j (b.pending ++ answers m t b.lines (take k []))) nothing flush.wrote in
        let prefix : TookPrefix h j (text_of m s (ended [] over.done)) = subst (TookPrefix h j) (append-nil (text_of m s (ended [] over.done))) (began.0, took_more h i j (text_of m s (ended [] over.done)) b.pending [] began.0 over.fed.wrote began.1) in
        ran_of s WriteFault read asked rest h i j a.machine b c.machine (ended [] read) (Err stop.LineTooLong) d same refl (inl refl) (subst (λ ls. TookPrefix h j (text_of m s ls)) (sym before) prefix) tt (prompt_later s (take asked read) h i j _ takes.prompt flush.wrote) (λ settled. tt) tt

  -- nothing was read
  pub run_nothing : (s : m.State) (asked : ℕ) (rest h : Option (List ℕ)) (a : M) → Ran m limit s (Halted NoMemory) [] asked rest h h a a
  run_nothing s asked rest h a =
      let k : Script M = record { machine = a; lines = 0; unended = []; pending = [] } in
      let d = does_still m limit (start m s) h h a k [] (Err (stop.Halted NoMemory)) refl refl tt ([], took_nothing h []) in
      ran_of s (Halted NoMemory) [] asked rest h h h a k a [] (Err (stop.Halted NoMemory)) d refl refl (inl refl) d.wrote tt (prompt_nothing s asked h) (λ settled. tt) tt

  -- the same of what equals it
  pub run_as : (s : m.State) (read : List ℕ) (end end_now : End) (asked asked_now : ℕ) (rest rest_now h i i_now : Option (List ℕ)) (a a_now b b_now : M) → end ≡ end_now → asked ≡ asked_now → rest ≡ rest_now → i ≡ i_now → a ≡ a_now → b ≡ b_now
      → Ran m limit s end read asked rest h i a b → Ran m limit s end_now read asked_now rest_now h i_now a_now b_now
  run_as s read end end_now asked asked_now rest rest_now h i i_now a a_now b b_now of_end of_asked of_rest of_i of_a of_b p =
      subst (λ (e : End). Ran m limit s e read asked_now rest_now h i_now a_now b_now) of_end
      (subst (λ (n : ℕ). Ran m limit s end read n rest_now h i_now a_now b_now) of_asked
      (subst (λ (r : Option (List ℕ)). Ran m limit s end read asked r h i_now a_now b_now) of_rest
      (subst (λ (o : Option (List ℕ)). Ran m limit s end read asked rest h o a_now b_now) of_i
      (subst (λ (k : M). Ran m limit s end read asked rest h i k b_now) of_a
      (subst (λ (k : M). Ran m limit s end read asked rest h i a k) of_b p)))))
