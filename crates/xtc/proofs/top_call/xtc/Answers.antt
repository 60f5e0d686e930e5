use Rattle.std.proofs.Common.{◌≡◌, ◌-◌, ◌∙◌, arith, ℕ, [], true, Option, refl, sym, ap, subst, add-zero, Some, Ok, Err}
use Rattle.outside_traits.specs.DiskPairs.{Pair, pair_of}
use Rattle.outside_traits.proofs.Laws.{gave_none}
use Rattle.node_seq.specs.Trees.{StandsFor}
use Rattle.overlays.specs.Views.{contents_after}
use Rattle.paged_seq.specs.PagedFiles.{PagedView}
use Rattle.paged_seq.specs.PagedMaps.{map_of_file}
use Rattle.store_contents.specs.StoredTrees.{LeaveWhatStood, StandFor}
use Rattle.recovery.specs.Openings.{AreOpened}
use Rattle.script_runs.specs.Counts.{Counts, DisksCountedWhere}
use Rattle.xtc.specs.declared.status.Status.TheVariants.{Done, Damaged, DiskFault}
use Rattle.command_words.specs.Commands.{Command, checkpoint_of, command_of, meant}
use Rattle.xtc.specs.Checkpoints.{every_of, may_lose}
use Rattle.xtc.specs.Commands.{reads_input}
use Rattle.xtc.specs.StoreMachine.{Held, pages_of, told}
use Rattle.xtc.specs.inside.CommandRuns.{StandSettled}
use Rattle.xtc.specs.TopCall.{Outcome, Leaves, OpenedStoreLeaves, IsOfOpened, IsSilent, tx_limit}
use Rattle.xtc.proofs.StatusLaws.{as_known, known_map, refused_leaves, refused_silent, refused_not, refused_as, words_usage, nothing_read, unopened_leaves, unopened_not_done, unopened_silent, opened_leaves, opened_unread, none_lost, opened_not_damaged, damaged_of, cause_of, no_fault}
use Rattle.xtc.proofs.top_call.xtc.Goals as goal

-- ---- the words gave no command

pub returns-in-Err-clause-leaves : goal.returns-in-Err-clause-leaves
returns-in-Err-clause-leaves g c = (
  [],
  gave_none _,
  sym (add-zero _),
  λ kj kp.
      let held = g.K.Sink.held c.args.sink.now in
      let files = pair_of (g.J.Disk.history c.args.journal) (g.P.Disk.history c.args.pages) in
      let o : Outcome = record {
        read = [];
        asked = g.S.Source.asked c.args.source.now - g.S.Source.given c.args.source.now;
        left = g.S.Source.left c.args.source.now;
        before = held;
        now = held;
        old = files;
        new = files;
      } in
      subst (λ status. Leaves tx_limit (command_of c.args.words.now.items) (every_of (checkpoint_of c.args.words.now.items)) status o) (sym c.from.ensures) (refused_leaves tx_limit (command_of c.args.words.now.items) (every_of (checkpoint_of c.args.words.now.items)) o c.in-Err.error refl refl refl),
)

pub returns-in-Err-clause-silent : goal.returns-in-Err-clause-silent
returns-in-Err-clause-silent g c =
    let held = g.K.Sink.held c.args.sink.now in
    subst (λ status. IsSilent (command_of c.args.words.now.items) (may_lose (command_of c.args.words.now.items) (every_of (checkpoint_of c.args.words.now.items)) g.P.Disk.is_known) status (held ≡ held)) (sym c.from.ensures) (refused_silent (command_of c.args.words.now.items) (may_lose (command_of c.args.words.now.items) (every_of (checkpoint_of c.args.words.now.items)) g.P.Disk.is_known) c.in-Err.error (held ≡ held) refl)

pub returns-in-Err-clause-input : goal.returns-in-Err-clause-input
returns-in-Err-clause-input g c = record {
  whole = λ reads done. absurd (refused_not c.in-Err.error Done refl (sym c.from.ensures ∙ done));
  unread = nothing_read (may_lose (command_of c.args.words.now.items) (every_of (checkpoint_of c.args.words.now.items)) g.P.Disk.is_known) c.from.result _ (refl, refl);
  bound = omega arith;
}

pub returns-in-Err-clause-damaged : goal.returns-in-Err-clause-damaged
returns-in-Err-clause-damaged g c = λ place is. absurd (refused_not c.in-Err.error (Damaged place) refl (sym c.from.ensures ∙ is))

pub returns-in-Err-clause-usage : goal.returns-in-Err-clause-usage
returns-in-Err-clause-usage g c = (
  λ is. c.in-Err.ensures.usage (ap Err (words_usage c.in-Err.error (sym c.from.ensures ∙ is))),
  λ none. (refused_as c.from.result c.in-Err.error c.from.ensures, refl, refl),
)

-- ---- the store wasn't opened

pub returns-in-Err-open_store-clause-leaves : goal.returns-in-Err-open_store-clause-leaves
returns-in-Err-open_store-clause-leaves g c = (
  [],
  gave_none _,
  sym (add-zero _),
  λ kj kp.
      let refused = c.in-Err-open_store.field-0 in
      let held = g.K.Sink.held c.args.sink.now in
      let o : Outcome = record {
        read = [];
        asked = g.S.Source.asked c.args.source.now - g.S.Source.given c.args.source.now;
        left = g.S.Source.left c.args.source.now;
        before = held;
        now = held;
        old = pair_of (g.J.Disk.history c.args.journal) (g.P.Disk.history c.args.pages);
        new = pair_of (g.J.Disk.history refused.journal) (g.P.Disk.history refused.pages);
      } in
      subst (λ status. Leaves tx_limit (command_of c.args.words.now.items) (every_of (checkpoint_of c.args.words.now.items)) status o) (sym c.from-in-Err-open_store.ensures) (unopened_leaves tx_limit (command_of c.args.words.now.items) (every_of (checkpoint_of c.args.words.now.items)) o refused.fault (record { read = refl; silent = refl; any_moment = (c.in-Err-open_store.ensures.any_moment kj kp).any_moment; left = (c.in-Err-open_store.ensures.any_moment kj kp).left })),
)

pub returns-in-Err-open_store-clause-silent : goal.returns-in-Err-open_store-clause-silent
returns-in-Err-open_store-clause-silent g c =
    let held = g.K.Sink.held c.args.sink.now in
    subst (λ status. IsSilent (command_of c.args.words.now.items) (may_lose (command_of c.args.words.now.items) (every_of (checkpoint_of c.args.words.now.items)) g.P.Disk.is_known) status (held ≡ held)) (sym c.from-in-Err-open_store.ensures) (unopened_silent (command_of c.args.words.now.items) (may_lose (command_of c.args.words.now.items) (every_of (checkpoint_of c.args.words.now.items)) g.P.Disk.is_known) c.in-Err-open_store.field-0.fault (held ≡ held) refl)

pub returns-in-Err-open_store-clause-input : goal.returns-in-Err-open_store-clause-input
returns-in-Err-open_store-clause-input g c = record {
  whole = λ reads done. absurd (unopened_not_done c.in-Err-open_store.field-0.fault (sym c.from-in-Err-open_store.ensures ∙ done));
  unread = nothing_read (may_lose (command_of c.args.words.now.items) (every_of (checkpoint_of c.args.words.now.items)) g.P.Disk.is_known) c.from-in-Err-open_store.result _ (refl, refl);
  bound = omega arith;
}

pub returns-in-Err-open_store-clause-damaged : goal.returns-in-Err-open_store-clause-damaged
returns-in-Err-open_store-clause-damaged g c = λ place is. damaged_of _ _ c.in-Err-open_store.field-0.fault place c.in-Err-open_store.ensures.reason (sym c.from-in-Err-open_store.ensures ∙ is)

-- ---- the script ran

pub run_command-requires-clause-tree : goal.run_command-requires-clause-tree
run_command-requires-clause-tree g c = λ _ _ kp.
    let store = c.in-Ok-open_store.field-0 in
    let history = g.P.Disk.history in
    let held : Held g.row.P.Denot = c.new-base.result in
    let told_is : told g.P.Disk.is_known history held ≡ contents_after store.layers.changes (map_of_file g.P.Disk.is_known (history store.base.disk).now.reads) =
    λ i. contents_after (c.new-base.ensures.layers i).changes (map_of_file g.P.Disk.is_known (history (c.new-base.ensures.base i).disk).now.reads) in
    let seen = known_map g.P.Disk.is_known kp store.layers.changes (history store.base.disk).now.reads in
    let stored = c.in-Ok-open_store.ensures.map.tree seen.0 seen.1 in
    record { tree = stored.tree; stands = record { valid = stored.is_valid_tree; map = told_is ∙ seen.1 ∙ ap Some (sym stored.map) } }

pub returns-in-Ok-open_store-clause-leaves : goal.returns-in-Ok-open_store-clause-leaves
returns-in-Ok-open_store-clause-leaves g c =
    let run = c.run_command.ensures.ran in (
      run.0,
      run.1,
      run.2,
      λ kj kp.
          let store = c.in-Ok-open_store.field-0 in
          let opened = c.in-Ok-open_store.ensures in
          let history = g.P.Disk.history in
          let status = c.run_command.result.status in
          let held : Held g.row.P.Denot = c.new-base.result in
          let base : held.base ≡ store.base = c.new-base.ensures.base in
          let told_is : told g.P.Disk.is_known history held ≡ contents_after store.layers.changes (map_of_file g.P.Disk.is_known (history store.base.disk).now.reads) =
          λ i. contents_after (c.new-base.ensures.layers i).changes (map_of_file g.P.Disk.is_known (history (base i).disk).now.reads) in
          let old : Pair = pair_of (g.J.Disk.history c.args.journal) (history c.args.pages) in
          let opening : Pair = pair_of store.journal.history (pages_of history held) in
          let opened_pair : Pair = pair_of store.journal.history (history store.base.disk) in
          let same_pair : opening ≡ opened_pair = λ i. pair_of store.journal.history (history (base i).disk) in
          let seen = known_map g.P.Disk.is_known kp store.layers.changes (history store.base.disk).now.reads in
          let opens = opened.map.opens kj kp seen.0 seen.1 in
          let stored = opened.map.tree seen.0 seen.1 in
          let t = stored.tree in
          let stand : StandFor old.journal.now.reads old.pages.now.reads t store.number = record { is_valid_tree = stored.is_valid_tree; opens = opens.stood ∙ ap (λ es. Ok (record { entries = es; number = store.number })) (sym stored.map) } in
          let is : StandsFor (told g.P.Disk.is_known history held) t = record { valid = stored.is_valid_tree; map = told_is ∙ seen.1 ∙ ap Some (sym stored.map) } in
          let files : StandSettled opening t store.number = subst (λ (p : Pair). StandSettled p t store.number) (sym same_pair) (record {
            journal = opened.ready.synced.journal kj;
            pages = opened.ready.synced.pages kp;
            stand = record { is_valid_tree = stored.is_valid_tree; opens = opens.stands ∙ ap (λ es. Ok (record { entries = es; number = store.number })) (sym stored.map) };
          }) in
          let o : Outcome = record {
            read = run.0;
            asked = g.S.Source.asked c.run_command.new.source - g.S.Source.given c.args.source.now;
            left = g.S.Source.left c.run_command.new.source;
            before = g.K.Sink.held c.args.sink.now;
            now = g.K.Sink.held c.run_command.new.sink;
            old = old;
            new = pair_of (g.J.Disk.history c.run_command.result.journal) (history c.run_command.result.pages);
          } in
          let with_them = run.3 kj kp t is files old in
          let leaves : OpenedStoreLeaves tx_limit (Some (meant c.in-Ok.read.command)) c.in-Ok.read.checkpoint status o = record {
            tree = t;
            number = store.number;
            stood = stand;
            opening = opening;
            until_open = subst (LeaveWhatStood old) (sym same_pair) (opened.any_moment kj kp);
            begins = λ _ _ none. subst (λ (p : Pair). AreOpened true true old p) (sym same_pair) (as_known g.J.Disk.is_known g.P.Disk.is_known kj kp old opened_pair (opened.ready.synced.same kj kp none));
            ran = with_them.ran;
            pages = with_them.pages;
            made = with_them.made;
          } in
          opened_leaves tx_limit (command_of c.args.words.now.items) (every_of (checkpoint_of c.args.words.now.items)) status o with_them.undamaged
          (subst (λ (x : Option Command × ℕ). OpenedStoreLeaves tx_limit x.0 x.1 status o) (λ i. (sym c.in-Ok.ensures.command i, every_of (sym c.in-Ok.ensures.checkpoint i))) leaves),
    )

pub returns-in-Ok-open_store-clause-input : goal.returns-in-Ok-open_store-clause-input
returns-in-Ok-open_store-clause-input g c = record {
  whole = λ reads. c.run_command.ensures.whole (ap reads_input (sym c.in-Ok.ensures.command) ∙ reads);
  unread = opened_unread (may_lose (command_of c.args.words.now.items) (every_of (checkpoint_of c.args.words.now.items)) g.P.Disk.is_known) c.run_command.result.status _ (subst (λ (x : Option Command × ℕ). IsOfOpened (may_lose x.0 x.1 g.P.Disk.is_known) c.run_command.result.status) (λ i. (sym c.in-Ok.ensures.command i, every_of (sym c.in-Ok.ensures.checkpoint i))) c.run_command.ensures.opened);
  bound = c.run_command.ensures.bound;
}

pub returns-in-Ok-open_store-clause-silent : goal.returns-in-Ok-open_store-clause-silent
returns-in-Ok-open_store-clause-silent g c =
    subst (λ (x : Option Command × ℕ). IsSilent x.0 (may_lose x.0 x.1 g.P.Disk.is_known) c.run_command.result.status (g.K.Sink.held c.run_command.new.sink ≡ g.K.Sink.held c.args.sink.now))
    (λ i. (sym c.in-Ok.ensures.command i, every_of (sym c.in-Ok.ensures.checkpoint i))) c.run_command.ensures.silent

pub returns-in-Ok-open_store-clause-damaged : goal.returns-in-Ok-open_store-clause-damaged
returns-in-Ok-open_store-clause-damaged g c = λ place is kj kp.
    absurd (opened_not_damaged _ c.run_command.result.status place c.run_command.ensures.opened (none_lost (Some (meant c.in-Ok.read.command)) c.in-Ok.read.checkpoint g.P.Disk.is_known kp) is)

-- ---- the counts of faults

pub returns-in-Err-open_store-clause-disk : goal.returns-in-Err-open_store-clause-disk
returns-in-Err-open_store-clause-disk g c =
    let later = c.in-Err-open_store.ensures.counts.later in
    let fault = c.in-Err-open_store.field-0.fault in
    record {
      counted = λ is. record { one = cause_of _ _ fault c.in-Err-open_store.ensures.reason (sym c.from-in-Err-open_store.ensures ∙ is); journal = later.0; pages = later.1 };
      exact = λ no. let same = no_fault fault _ (λ e. no (c.from-in-Err-open_store.ensures ∙ e)) c.in-Err-open_store.ensures.counts.uncounted in λ i. record { journal = same.0 i; pages = same.1 i };
    }

pub returns-in-Ok-open_store-clause-disk : goal.returns-in-Ok-open_store-clause-disk
returns-in-Ok-open_store-clause-disk g c =
    let run = c.run_command.ensures.disk in
    let store = c.in-Ok-open_store.field-0 in
    let opened = c.in-Ok-open_store.ensures.counts in
    let before : Counts = record { journal = g.J.Disk.faults c.args.journal; pages = g.P.Disk.faults c.args.pages } in
    let opening : Counts = record { journal = store.journal.faults; pages = g.P.Disk.faults c.new-base.result.base.disk } in
    let pages : g.P.Disk.faults c.new-base.result.base.disk ≡ g.P.Disk.faults c.args.pages = ap (λ (p : PagedView g.row.P.Denot). g.P.Disk.faults p.disk) c.new-base.ensures.base ∙ opened.1 in
    let same : opening ≡ before = λ i. record { journal = opened.0 i; pages = pages i } in
    subst (λ (counts : Counts). DisksCountedWhere (c.run_command.result.status ≡ DiskFault) counts (record { journal = g.J.Disk.faults c.run_command.result.journal; pages = g.P.Disk.faults c.run_command.result.pages })) same run
