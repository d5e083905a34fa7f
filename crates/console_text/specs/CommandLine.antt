-- The command line: `cbc replay [--plmn HEX] [--broadcasts N] [--journal N]`, and `cbc serve` with these and options of its own.
use Rattle.std.specs.Prelude.{◌≡◌, ◌≢◌, ◌⊎◌, Bool, true, false, ℕ, List, [], ◌∷◌, Option, Some, None, codes, bytes_eq, option_and_then, if◌then◌else◌}
use Rattle.std.specs.Result.{result_ok}
use Rattle.std.specs.Str.Parse.{digits_value, without_leading_plus}
use Rattle.hex.specs.Hex.{decode_sized}
use Rattle.clap.specs.ValueTests.{accepts}
use Rattle.clap.specs.Words.{App, IsAmong, Row, Rule, Text, fault_of, first_of, new_app, new_rule, one_of, subcommand_of, takes, with_rule, with_subcommand}
use Rattle.clap.specs.declared.builder.action.ArgAction.TheVariants.{SetTrue}
use Rattle.clap.specs.declared.builder.value_parser.ValueParser.{ValueParser}
use Rattle.clap.specs.declared.builder.value_parser.ValueParser.TheVariants.{Unsigned}
use Rattle.clap.specs.declared.error.kind.ErrorKind.{ErrorKind}
use Rattle.clap.specs.declared.error.kind.ErrorKind.TheVariants as kind
use Rattle.centre_events.specs.declared.network.Network.{Network}
use Rattle.console_text.specs.declared.no_run.NoRun.{NoRun}
use Rattle.console_text.specs.declared.no_run.NoRun.TheVariants.{Help, Refused, Serve, BadPlmn, BadBroadcasts, BadJournal, Memory}

-- the most entries that a journal may hold, and the number where none is given
abbrev pub most_entries : ℕ
most_entries = 4000000

-- HEX is any text here
abbrev pub plmn_option : Rule
plmn_option = record (new_rule (codes "plmn")) { long = Some (codes "plmn"); value_names = 1; defaults = codes "00f110" ∷ [] }

-- N is a number from 0 to 65,535
abbrev pub broadcast_numbers : ValueParser
broadcast_numbers = Unsigned 0 65535

-- how many broadcasts a write requests
abbrev pub broadcasts_option : Rule
broadcasts_option = record (new_rule (codes "broadcasts")) { long = Some (codes "broadcasts"); value_names = 1; defaults = codes "0" ∷ []; parser = Some broadcast_numbers }

-- N is a number from 1 to 4,000,000
abbrev pub entry_numbers : ValueParser
entry_numbers = Unsigned 1 most_entries

-- how many entries the journal may hold
abbrev pub journal_option : Rule
journal_option = record (new_rule (codes "journal")) { long = Some (codes "journal"); value_names = 1; defaults = codes "4000000" ∷ []; parser = Some entry_numbers }

-- the options of both commands
abbrev pub with_common : App → App
with_common a = with_rule (with_rule (with_rule a plmn_option) broadcasts_option) journal_option

-- `replay`, with its three options
abbrev pub replay_command : App
replay_command = with_common (new_app (codes "replay"))

-- the address that is listened on
abbrev pub host_option : Rule
host_option = record (new_rule (codes "host")) { long = Some (codes "host"); value_names = 1; defaults = codes "127.0.0.1" ∷ [] }

-- the port of BSC 1, a number from 1 to 65,535
abbrev pub base_option : Rule
base_option = record (new_rule (codes "base")) { long = Some (codes "base"); value_names = 1; defaults = codes "48049" ∷ []; parser = Some (Unsigned 1 65535) }

-- how many BSCs may connect, a number from 1 to 256
abbrev pub links_option : Rule
links_option = record (new_rule (codes "links")) { long = Some (codes "links"); value_names = 1; defaults = codes "1" ∷ []; parser = Some (Unsigned 1 256) }

-- whether a simulated BSC connects to each port
abbrev pub sim_option : Rule
sim_option = record (new_rule (codes "sim")) { long = Some (codes "sim"); action = Some SetTrue }

-- the options by which BSCs connect, simulated ones too
abbrev pub with_ports : App → App
with_ports a = with_rule (with_rule (with_rule (with_rule a host_option) base_option) links_option) sim_option

-- after how many entries since the last checkpoint there is another, 1 or more
abbrev pub fold_option : Rule
fold_option = record (new_rule (codes "fold")) { long = Some (codes "fold"); value_names = 1; defaults = codes "100000" ∷ []; parser = Some (Unsigned 1 4294967295) }

-- whether each BSC that connects is sent a RESET first
abbrev pub reset_option : Rule
reset_option = record (new_rule (codes "reset")) { long = Some (codes "reset"); action = Some SetTrue }

-- a number of seconds, a day at most
abbrev pub seconds : ValueParser
seconds = Unsigned 0 86400

-- after how many seconds an order without a reply is said; 0 for never
abbrev pub reply_option : Rule
reply_option = record (new_rule (codes "reply-seconds")) { long = Some (codes "reply-seconds"); value_names = 1; defaults = codes "30" ∷ []; parser = Some seconds }

-- after how many seconds an order without a reply ends its link; 0 for never
abbrev pub cut_option : Rule
cut_option = record (new_rule (codes "cut-seconds")) { long = Some (codes "cut-seconds"); value_names = 1; defaults = codes "0" ∷ []; parser = Some seconds }

-- after how many seconds without a word a BSC is sent a KEEP ALIVE, two minutes at most; 0 for never
abbrev pub alive_option : Rule
alive_option = record (new_rule (codes "keep-alive-seconds")) { long = Some (codes "keep-alive-seconds"); value_names = 1; defaults = codes "0" ∷ []; parser = Some (Unsigned 0 120) }

-- after how many minutes a BSC is asked again how often a warning was broadcast, a day at most; 0 for never
abbrev pub query_option : Rule
query_option = record (new_rule (codes "query-minutes")) { long = Some (codes "query-minutes"); value_names = 1; defaults = codes "0" ∷ []; parser = Some (Unsigned 0 1440) }

-- how many such queries a second there are at most, a number from 1 to 256
abbrev pub pace_option : Rule
pace_option = record (new_rule (codes "queries-per-second")) { long = Some (codes "queries-per-second"); value_names = 1; defaults = codes "2" ∷ []; parser = Some (Unsigned 1 256) }

-- the file of the addresses that BSCs may connect from, where one is given; FILE is any text here
abbrev pub peers_option : Rule
peers_option = record (new_rule (codes "peers")) { long = Some (codes "peers"); value_names = 1 }

-- the file that the journal is kept in, where one is given; FILE is any text here
abbrev pub keep_option : Rule
keep_option = record (new_rule (codes "keep")) { long = Some (codes "keep"); value_names = 1 }

-- the socket file of consoles, where one is given; PATH is any text here
abbrev pub console_option : Rule
console_option = record (new_rule (codes "console")) { long = Some (codes "console"); value_names = 1 }

-- how many consoles there may be at once, a number from 1 to 64
abbrev pub consoles_option : Rule
consoles_option = record (new_rule (codes "consoles")) { long = Some (codes "consoles"); value_names = 1; defaults = codes "16" ∷ []; parser = Some (Unsigned 1 64) }

-- the options by which operators connect
abbrev pub with_consoles : App → App
with_consoles a = with_rule (with_rule a console_option) consoles_option

-- the address of the page for those who only look, where one is given; HOST:PORT is any text here
abbrev pub http_option : Rule
http_option = record (new_rule (codes "http")) { long = Some (codes "http"); value_names = 1 }

-- the option by which those connect who only look
abbrev pub with_watchers : App → App
with_watchers a = with_rule a http_option

-- the options of a link that are numbers of seconds
abbrev pub with_seconds : App → App
with_seconds a = with_rule (with_rule (with_rule a reply_option) cut_option) alive_option

-- the options for links that are lost, taken over, or without replies
abbrev pub with_link_rules : App → App
with_link_rules a = with_rule (with_seconds (with_rule a reset_option)) peers_option

-- the options for queries that no operator wished for
abbrev pub with_queries : App → App
with_queries a = with_rule (with_rule a query_option) pace_option

-- the options by which links go on
abbrev pub with_links : App → App
with_links a = with_queries (with_link_rules a)

-- the options of the journal
abbrev pub with_journal : App → App
with_journal a = with_rule (with_rule a fold_option) keep_option

-- `serve`, with its nineteen options
abbrev pub serve_command : App
serve_command = with_watchers (with_consoles (with_links (with_journal (with_ports (with_common (new_app (codes "serve")))))))

-- a program that is nothing without a command, but for help and for `--version`, which asks for its name and its version
abbrev pub program : App
program = let a = new_app (codes "cbc") in record a { top = record a.top { subcommand_required = true; has_version = true } }

-- the program, with its two commands
abbrev pub command_line : App
command_line = with_subcommand (with_subcommand program replay_command.top) serve_command.top

-- clap's rules find no fault in the words
abbrev pub HasNoFault : List Text → Type 0
HasNoFault words = fault_of command_line words ≡ []

-- clap's rules take the words, by either of their two tests
abbrev pub AreTaken : List Text → Type 0
AreTaken words = (takes command_line words ≡ true) ⊎ HasNoFault words

-- the matches of `replay`, where that is the command that is met
abbrev pub replay_rows : Option (Text × List Row) → List Row
replay_rows None = []
replay_rows (Some met) = if bytes_eq met.0 (codes "replay") then met.1 else []

-- the command that is met is `serve`
abbrev pub meets_serve : Option (Text × List Row) → Bool
meets_serve None = false
meets_serve (Some met) = bytes_eq met.0 (codes "serve")

-- the octets that the text spells in six hexadecimal digits, of either case
abbrev pub network_of : Text → Option (List ℕ)
network_of text = result_ok (decode_sized text 3)

-- the network code of the value of `--plmn`
abbrev pub network_in : List Row → Option (List ℕ)
network_in rows = option_and_then network_of (first_of (codes "plmn") rows)

-- the number of broadcasts that the text writes, if the option takes it
abbrev pub broadcasts_of : Text → Option ℕ
broadcasts_of text = if accepts false broadcast_numbers text then Some (digits_value 10 (without_leading_plus text)) else None

-- the number of the value of `--broadcasts`
abbrev pub broadcasts_in : List Row → Option ℕ
broadcasts_in rows = option_and_then broadcasts_of (one_of (codes "broadcasts") rows)

-- the number that the text writes, if the option takes it
abbrev pub limit_of : Text → Option ℕ
limit_of text = if accepts false entry_numbers text then Some (digits_value 10 (without_leading_plus text)) else None

-- the number of the value of `--journal`
abbrev pub limit_in : List Row → Option ℕ
limit_in rows = option_and_then limit_of (one_of (codes "journal") rows)

-- the network code that the words ask for, by the matches that clap's rules give; none where the value isn't six hexadecimal digits
abbrev pub asked_network : List Text → Option (List ℕ)
asked_network words = network_in (replay_rows (subcommand_of command_line words))

-- the number of broadcasts that they ask for; none where the value isn't a number from 0 to 65,535
abbrev pub asked_broadcasts : List Text → Option ℕ
asked_broadcasts words = broadcasts_in (replay_rows (subcommand_of command_line words))

-- the greatest number of entries that they ask for; none where the value isn't a number from 1 to 4,000,000
abbrev pub asked_limit : List Text → Option ℕ
asked_limit words = limit_in (replay_rows (subcommand_of command_line words))

-- the words ask for a script to be run with this network and this limit
pub record Asks (words : List Text) (network : Network) (limit : ℕ) : Type 0 where
  pub well_formed : HasNoFault words
  pub code : asked_network words ≡ Some network.plmn
  pub broadcasts : asked_broadcasts words ≡ Some network.broadcasts
  pub entries : asked_limit words ≡ Some limit

-- the words have no fault and don't ask for the server, and the value of `--plmn` isn't six hexadecimal digits
abbrev pub AsksBadPlmn : List Text → Type 0
AsksBadPlmn words = HasNoFault words × (meets_serve (subcommand_of command_line words) ≡ false) × (asked_network words ≡ None)

-- the words have no fault and don't ask for the server, and the value of `--broadcasts` isn't a number from 0 to 65,535
abbrev pub AsksBadBroadcasts : List Text → Type 0
AsksBadBroadcasts words = HasNoFault words × (meets_serve (subcommand_of command_line words) ≡ false) × (asked_broadcasts words ≡ None)

-- the words have no fault and don't ask for the server, and the value of `--journal` isn't a number from 1 to 4,000,000
abbrev pub AsksBadJournal : List Text → Type 0
AsksBadJournal words = HasNoFault words × (meets_serve (subcommand_of command_line words) ≡ false) × (asked_limit words ≡ None)

-- the words have no fault, and ask for the server
abbrev pub AsksServe : List Text → Type 0
AsksServe words = HasNoFault words × (meets_serve (subcommand_of command_line words) ≡ true)

-- clap's rules answer the words by help, or by a version
abbrev pub AsksHelp : List Text → Type 0
AsksHelp words = IsAmong kind.DisplayHelp (fault_of command_line words) ⊎ IsAmong kind.DisplayVersion (fault_of command_line words)

-- clap's rules find a mistake in the words
abbrev pub IsMistaken : List Text → Type 0
IsMistaken words = (k : ErrorKind) × IsAmong k (fault_of command_line words) × (k ≢ kind.DisplayHelp) × (k ≢ kind.DisplayVersion)

-- what the parser's error of this kind comes to: help is not a mistake
abbrev pub ComesTo : ErrorKind → NoRun → Type 0
ComesTo k (Help text) = (k ≡ kind.DisplayHelp) ⊎ (k ≡ kind.DisplayVersion)
ComesTo k (Refused text) = (k ≢ kind.DisplayHelp) × (k ≢ kind.DisplayVersion)
ComesTo k Serve = ⊥
ComesTo k BadPlmn = ⊥
ComesTo k BadBroadcasts = ⊥
ComesTo k BadJournal = ⊥
ComesTo k Memory = Unit {0}

-- what no script is run for: help is asked for, or the server, the words have a mistake, the network or one of the two numbers is bad, or memory ran out
abbrev pub Refuses : List Text → NoRun → Type 0
Refuses words (Help text) = (AreTaken words → ⊥) × AsksHelp words
Refuses words (Refused text) = (AreTaken words → ⊥) × IsMistaken words
Refuses words Serve = AsksServe words
Refuses words BadPlmn = AsksBadPlmn words
Refuses words BadBroadcasts = AsksBadBroadcasts words
Refuses words BadJournal = AsksBadJournal words
Refuses words Memory = Unit {0}
