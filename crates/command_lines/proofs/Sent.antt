-- Commands and calls go to other threads, and threads share them: one fact for each type that holds the one before.
use mathlib.Core.List.{List, [], ◌∷◌}
use mir.Syntax.{w32}
use denote.RattleType.{RattleType}
use denote.Plain.{UInt}
use denote.Enum.Declared as E
use denote.Param.Send.{IsSend, IsSync, sendable, enum_send, enum_sync}
use Rattle.std.proofs.Crossing.{crosses}
use Rattle.std.proofs.option.Option.TheSendSync as option
use Rattle.std.specs.contracts.option.Option as Option
use Rattle.dewey_labels.proofs.label.Label.TheSendSync as label
use Rattle.dewey_labels.proofs.list.List.TheSendSync as list
use Rattle.dewey_labels.proofs.text.Text.TheSendSync as text
use Rattle.dewey_labels.specs.contracts.label.Label as Label
use Rattle.dewey_labels.specs.contracts.text.Text as Text
use Rattle.path_model.proofs.path.Axis.TheSendSync as axis
use Rattle.path_model.proofs.path.NodeTest.TheSendSync as node_test
use Rattle.path_model.proofs.path.Op.TheSendSync as op
use Rattle.path_model.proofs.path.Expr.TheLaws.TheKnot as path_knot
use Rattle.path_model.specs.contracts.path.XPath as XPath
use Rattle.tree_model.proofs.fragment.Fragment.TheLaws.TheKnot as knot
use Rattle.tree_model.specs.contracts.dom_call.DomCall as DomCall
use Rattle.tree_model.specs.contracts.fragment.Fragment as Fragment
use Rattle.command_lines.specs.contracts.command.Command as Command
use Rattle.command_lines.specs.contracts.command.StoreCall as StoreCall
use Rattle.command_lines.specs.contracts.command.What as What

fragment_send : IsSend (Fragment.the_field).row
fragment_send = search (sendable, crosses, list.the_send, text.the_send, knot.send-Fragment) depth 20

fragment_sync : IsSync (Fragment.the_field).row
fragment_sync = search (sendable, crosses, list.the_sync, text.the_sync, knot.sync-Fragment) depth 20

-- a fact of each type in each variant
abbrev AllHave : (RattleType → Type 0) → List RattleType → Type 0
AllHave H [] = Unit {0}
AllHave H (R ∷ Rs) = H R × AllHave H Rs

abbrev EachHas : (RattleType → Type 0) → List (List RattleType) → Type 0
EachHas H [] = Unit {0}
EachHas H (Rs ∷ Rss) = AllHave H Rs × EachHas H Rss

-- the calls by their arguments: labels, texts, numbers, fragments, and a label or a fragment that may be left out
each : (H : RattleType → Type 0) → H Label.the_row → H Text.the_row → H (UInt w32) → H (Fragment.the_field).row → H (Option.the_field Label.the_row).row → H (Option.the_field Fragment.the_row).row
    → EachHas H (E.shape DomCall.the_type).variants
each H l t n f ol of =
    (tt, ((t, tt), ((l, tt), ((l, tt), ((l, tt), ((l, tt), ((l, tt), ((l, tt), ((l, tt), ((l, (t, tt)), ((l, (t, tt)), ((l, tt), ((l, tt), ((l, (t, tt)), ((l, tt), ((l, tt), ((l, (n, (n, tt))), ((t, (of, tt)), ((t, tt), ((l, (f, tt)), ((l, (ol, (f, tt))), ((l, (l, (f, tt))), ((l, (l, tt)), ((l, (t, (t, tt))), ((l, (t, tt)), ((l, (t, tt)), ((l, (t, tt)), ((l, (t, tt)), ((l, (n, (t, tt))), ((l, (n, (n, tt))), ((l, (n, (n, (t, tt)))), ((l, (n, tt)), ((l, tt), ((l, (t, tt)), tt))))))))))))))))))))))))))))))))))

dom_call_send : IsSend (DomCall.the_field).row
dom_call_send =
    let n : IsSend (UInt w32) = search sendable in
    enum_send (E.shape DomCall.the_type) (each IsSend label.the_send text.the_send n fragment_send (search (sendable, label.the_send, option.the_field_send) depth 20) (search (sendable, fragment_send, option.the_field_send) depth 20))

dom_call_sync : IsSync (DomCall.the_field).row
dom_call_sync =
    let n : IsSync (UInt w32) = search sendable in
    enum_sync (E.shape DomCall.the_type) (each IsSync label.the_sync text.the_sync n fragment_sync (search (sendable, label.the_sync, option.the_field_sync) depth 20) (search (sendable, fragment_sync, option.the_field_sync) depth 20))

path_send : IsSend (XPath.the_field).row
path_send =
    path_knot.send-XPath (search sendable) (search (sendable, text.the_send) depth 20) (λ h s. search (sendable, crosses, list.the_send) depth 20) (search (sendable, crosses, list.the_send, op.the_field_send) depth 20)
    op.the_field_send axis.the_field_send (search (sendable, node_test.the_field_send) depth 20) (search sendable)

path_sync : IsSync (XPath.the_field).row
path_sync =
    path_knot.sync-XPath (search sendable) (search (sendable, text.the_sync) depth 20) (λ h s. search (sendable, crosses, list.the_sync) depth 20) (search (sendable, crosses, list.the_sync, op.the_field_sync) depth 20)
    op.the_field_sync axis.the_field_sync (search (sendable, node_test.the_field_sync) depth 20) (search sendable)

pub store_call_send : IsSend (StoreCall.the_field).row
store_call_send = search (sendable, dom_call_send, label.the_send, path_send) depth 20

pub store_call_sync : IsSync (StoreCall.the_field).row
store_call_sync = search (sendable, dom_call_sync, label.the_sync, path_sync) depth 20

what_send : IsSend (What.the_field).row
what_send = search (sendable, store_call_send) depth 20

what_sync : IsSync (What.the_field).row
what_sync = search (sendable, store_call_sync) depth 20

pub command_send : IsSend Command.the_row
command_send = search (sendable, what_send) depth 20

pub command_sync : IsSync Command.the_row
command_sync = search (sendable, what_sync) depth 20
