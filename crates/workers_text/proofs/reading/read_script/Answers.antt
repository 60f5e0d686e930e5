use Rattle.std.proofs.Common.{rules, ◌≡◌, ◌∙◌, ap, sym, subst}
use Rattle.std.specs.Prelude.{Err}
use Rattle.script_runs.specs.Counts.{CountedWhere}
use Rattle.workers_text.specs.Entries.{Script, entries_of}
use Rattle.workers_text.specs.Limits.{IsReadScript}
use Rattle.workers_text.specs.declared.script_error.ScriptError.TheVariants.{ReadFault}
use Rattle.workers_text.proofs.WhatWasRead.{counts_so, failed_so, read_so}
use Rattle.workers_text.proofs.reading.read_script.Goals as goal

pub returns-in_err-bytes-clause-read : goal.returns-in_err-bytes-clause-read
returns-in_err-bytes-clause-read g c =
    let r = c.in_err-bytes.ensures.read in
    let e = c.in_err-bytes.field-0.0 in
    let stop : c.from_residual.result ≡ Err e = search rules in
    (r.0, r.1, r.2, r.3, subst (IsReadScript r.0) (sym stop) (failed_so r.0 e _ r.4))

pub returns-in_err-bytes-clause-cause : goal.returns-in_err-bytes-clause-cause
returns-in_err-bytes-clause-cause g c =
    let e = c.in_err-bytes.field-0.0 in
    let stop : c.from_residual.result ≡ Err e = search rules in
    subst (λ r. CountedWhere (r ≡ Err ReadFault) (g.S.Source.faults c.args.source.now) (g.S.Source.faults c.read_input.new.source)) (sym stop) (counts_so _ Script e _ _ c.in_err-bytes.ensures.cause)

pub returns-clause-read : goal.returns-clause-read
returns-clause-read g c =
    let r = c.in_ok-bytes.ensures.read in
    (r.0, r.1, r.2, r.3, read_so r.0 c.in_ok-bytes.bytes.items c.in_ok-script_of.field-0 r.4.0 r.4.1 (c.in_ok-script_of.ensures ∙ ap entries_of c.deref.ensures.value))
