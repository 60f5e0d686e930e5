use Rattle.std.specs.Prelude.{flat_map}
use Rattle.std.proofs.Common.{◌≡◌, ◌∙◌, List, ℕ, [], ◌∷◌, ◌++◌, sym, ap, append-nil}
use Rattle.std.proofs.lemmas.Grind.{flat_map-append}
use Rattle.command_lines.specs.Replies.{reply_text}
use Rattle.command_lines.specs.declared.line_reply.LineReply.{LineReply}
use Rattle.workers_text.specs.Entries.{in_places}
use Rattle.workers_text.specs.declared.entry.Entry.{Entry}
use Rattle.workers_text.specs.WorkersText.{order_of}
use Rattle.xtc.proofs.answering.written.Goals as goal

-- the text of replies in their places, and of one line behind them
text_is : (es : List Entry) (given rs : List LineReply) (o : LineReply) (empty text all : List ℕ) → empty ≡ [] → text ≡ empty ++ flat_map reply_text (in_places es given) → given ≡ rs → all ≡ text ++ reply_text o
    → all ≡ flat_map reply_text (in_places es rs ++ o ∷ [])
text_is es given rs o empty text all new replies same order =
    order
    ∙ ap (λ t. t ++ reply_text o) (replies ∙ ap (λ e. e ++ flat_map reply_text (in_places es given)) new ∙ ap (λ q. flat_map reply_text (in_places es q)) same)
    ∙ ap (λ t. flat_map reply_text (in_places es rs) ++ t) (sym (append-nil (reply_text o)))
    ∙ sym (flat_map-append reply_text (in_places es rs) (o ∷ []))

pub returns : goal.returns
returns g c =
    c.into_vec.ensures
    ∙ text_is c.args.script.now.entries c.as_slice.result.now c.args.replies.now (order_of c.args.core.now.book) c.new-text.result c.write_replies.new.out c.write_order.new.out c.new-text.ensures c.in_ok-write_replies.ensures c.as_slice.ensures
    c.in_ok-write_order.ensures
