use Rattle.std.proofs.Common.{◌∙◌, ap, rules, sym}
use Rattle.std.specs.Prelude.{option_and_then, option_map}
use Rattle.std.specs.Result.{result_ok}
use Rattle.console_text.specs.CommandLine.{network_of}
use Rattle.console_text.proofs.CommandLineLemmas.{met_network}
use Rattle.console_text.proofs.asked.asked_plmn.Goals as goal

-- no value, no network
pub returns-in_err-get_str : goal.returns-in_err-get_str
returns-in_err-get_str c =
    c.from_residual-in_err-get_str.ensures ∙ ap (λ o. option_and_then network_of (option_map (λ s. s.now) o)) (sym c.in_err-get_str.was)
    ∙ met_network c.args.matches.now c.in_ok-replay.replay.now c.get_str.result (search rules) c.in_ok-replay.ensures.rows c.get_str.ensures

pub returns : goal.returns
returns c =
    c.ok.ensures.value ∙ ap result_ok c.from_hex.ensures
    ∙ ap (λ o. option_and_then network_of (option_map (λ s. s.now) o)) (sym c.in_ok-get_str.was)
    ∙ met_network c.args.matches.now c.in_ok-replay.replay.now c.get_str.result (search rules) c.in_ok-replay.ensures.rows c.get_str.ensures
