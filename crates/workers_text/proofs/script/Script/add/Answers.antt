use Rattle.std.proofs.Common.{ap, subst}
use Rattle.workers_text.specs.Entries.{Script}
use Rattle.workers_text.specs.inside.Places.{IsDoable}
use Rattle.workers_text.proofs.Places.{bad_adds, bad_leaves, command_adds, command_leaves}
use Rattle.workers_text.proofs.script.Script.add.Goals as goal

pub invariant_of-self : goal.invariant_of-self
invariant_of-self c =
    let i = c.self.inside in
    bad_leaves c.push.result i.places c.push.new.self i.commands c.in-Bad.reply c.push.ensures.ok c.push.ensures.err c.self.invariant

pub returns-in-Bad-clause-ok : goal.returns-in-Bad-clause-ok
returns-in-Bad-clause-ok c =
    let i = c.self.inside in
    bad_adds c.push.result i.places c.push.new.self i.commands c.in-Bad.reply c.args.entry c.args.self.now.entries c.in-Bad.is (ap (λ (s : Script). s.entries) c.self.view_is) c.self.invariant.places c.push.ensures.ok

pub invariant_of-self-in-Asked : goal.invariant_of-self-in-Asked
invariant_of-self-in-Asked c =
    let i = c.self.inside in
    let p = c.push_command in
    command_leaves p.result i.places p.new.places i.commands p.new.commands c.in-Asked.command p.ensures.commands p.ensures.places p.ensures.err (subst IsDoable c.in-Asked.is c.requires) c.self.invariant

pub returns-in-Asked-clause-ok : goal.returns-in-Asked-clause-ok
returns-in-Asked-clause-ok c =
    let i = c.self.inside in
    let p = c.push_command in
    let view = ap (λ (s : Script). s.entries) c.self.view_is in
    command_adds p.result i.places p.new.places i.commands p.new.commands c.in-Asked.command c.args.entry c.args.self.now.entries c.in-Asked.is view c.self.invariant.places p.ensures.commands p.ensures.places
