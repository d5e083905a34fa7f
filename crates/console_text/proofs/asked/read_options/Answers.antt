use Rattle.std.proofs.Common.{◌≡◌, true, false, map, string_bytes, ap, rules, sym, ◌∙◌}
use Rattle.console_text.specs.CommandLine.{broadcasts_in, limit_in, meets_serve, network_in, replay_rows}
use Rattle.console_text.proofs.CommandLineLemmas.{kinds_of_line, refuses_so, taken_has_matches, taken_has_no_fault, taken_wants_memory}
use Rattle.console_text.proofs.asked.read_options.Goals as goal

-- the parser refuses a command line that it takes for lack of memory alone, and another for a fault of its words
pub returns-in-Err-clause-refused : goal.returns-in-Err-clause-refused
returns-in-Err-clause-refused c =
    let words = map string_bytes c.args.words.now in
    let line = c.in_ok-command_line.ensures in
    let refused = c.in-Err.ensures in
    refuses_so words c.in-Err.error (taken_wants_memory _ words c.in-Err.error line refused.passes refused.kinds)
    (kinds_of_line _ words c.in-Err.error line refused.kinds) c.no_run.result c.no_run.ensures.memory c.no_run.ensures.kind

-- words that are taken and whose network isn't one
pub returns-in_default-clause-refused : goal.returns-in_default-clause-refused
returns-in_default-clause-refused c =
    let words = map string_bytes c.args.words.now in
    let rows = ap replay_rows (sym (taken_has_matches _ words c.in-Ok.matches c.in_ok-command_line.ensures c.in-Ok.ensures.matches)) in
    let met = ap meets_serve (sym (taken_has_matches _ words c.in-Ok.matches c.in_ok-command_line.ensures c.in-Ok.ensures.matches)) in
    let other : c.asks_server.result ≡ false = search rules in
    (taken_has_no_fault _ words c.in_ok-command_line.ensures c.in-Ok.ensures.kinds, met ∙ (sym c.asks_server.ensures ∙ other), ap network_in rows ∙ (sym c.asked_plmn.ensures ∙ c.in_default.is))

-- or whose number of broadcasts isn't one
pub returns-in_default-asked_broadcasts-clause-refused : goal.returns-in_default-asked_broadcasts-clause-refused
returns-in_default-asked_broadcasts-clause-refused c =
    let words = map string_bytes c.args.words.now in
    let rows = ap replay_rows (sym (taken_has_matches _ words c.in-Ok.matches c.in_ok-command_line.ensures c.in-Ok.ensures.matches)) in
    let met = ap meets_serve (sym (taken_has_matches _ words c.in-Ok.matches c.in_ok-command_line.ensures c.in-Ok.ensures.matches)) in
    let other : c.asks_server.result ≡ false = search rules in
    (taken_has_no_fault _ words c.in_ok-command_line.ensures c.in-Ok.ensures.kinds, met ∙ (sym c.asks_server.ensures ∙ other), ap broadcasts_in rows ∙ (sym c.asked_broadcasts.ensures ∙ c.in_default-asked_broadcasts.is))

-- or whose number of entries isn't one
pub returns-in_default-asked_journal-clause-refused : goal.returns-in_default-asked_journal-clause-refused
returns-in_default-asked_journal-clause-refused c =
    let words = map string_bytes c.args.words.now in
    let rows = ap replay_rows (sym (taken_has_matches _ words c.in-Ok.matches c.in_ok-command_line.ensures c.in-Ok.ensures.matches)) in
    let met = ap meets_serve (sym (taken_has_matches _ words c.in-Ok.matches c.in_ok-command_line.ensures c.in-Ok.ensures.matches)) in
    let other : c.asks_server.result ≡ false = search rules in
    (taken_has_no_fault _ words c.in_ok-command_line.ensures c.in-Ok.ensures.kinds, met ∙ (sym c.asks_server.ensures ∙ other), ap limit_in rows ∙ (sym c.asked_journal.ensures.asked ∙ c.in_default-asked_journal.is))

-- words that are taken and ask for the server
pub returns-then-asks_server-clause-refused : goal.returns-then-asks_server-clause-refused
returns-then-asks_server-clause-refused c =
    let words = map string_bytes c.args.words.now in
    let rows = ap meets_serve (sym (taken_has_matches _ words c.in-Ok.matches c.in_ok-command_line.ensures c.in-Ok.ensures.matches)) in
    let asked : c.asks_server.result ≡ true = search rules in
    (taken_has_no_fault _ words c.in_ok-command_line.ensures c.in-Ok.ensures.kinds, rows ∙ (sym c.asks_server.ensures ∙ asked))

pub returns-clause-asked : goal.returns-clause-asked
returns-clause-asked c =
    let words = map string_bytes c.args.words.now in
    let rows = ap replay_rows (sym (taken_has_matches _ words c.in-Ok.matches c.in_ok-command_line.ensures c.in-Ok.ensures.matches)) in
    record {
      well_formed = taken_has_no_fault _ words c.in_ok-command_line.ensures c.in-Ok.ensures.kinds;
      code = ap network_in rows ∙ (sym c.asked_plmn.ensures ∙ c.in-Some.is);
      broadcasts = ap broadcasts_in rows ∙ (sym c.asked_broadcasts.ensures ∙ c.in-Some-asked_broadcasts.is);
      entries = ap limit_in rows ∙ (sym c.asked_journal.ensures.asked ∙ c.in-Some-asked_journal.is);
    }
