-- Calls that hold a call which keeps the laws keep them.
use Rattle.call_contract.specs.Calls.{CallMeaning, CallLaws, held_meaning}

pub held_laws : {C D : Type 0} (call : D → C) (is_valid : C → Type 0) (m : CallMeaning C) → CallLaws C is_valid m → CallLaws D (λ d. is_valid (call d)) (held_meaning call m)
held_laws call is_valid m laws = record {
  form = λ d t. laws.form (call d) t;
  same_reply = λ d t u. laws.same_reply (call d) t u;
  same_written = λ d t u. laws.same_written (call d) t u;
  keeps_rest = λ d t. laws.keeps_rest (call d) t;
  same_next = λ d t u k. laws.same_next (call d) t u k;
  keeps_valid = λ d t. laws.keeps_valid (call d) t;
  refused_keeps = λ d t. laws.refused_keeps (call d) t;
}
