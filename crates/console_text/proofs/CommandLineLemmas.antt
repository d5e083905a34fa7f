-- What the command line asks for, and the command lines that run no script.
use Rattle.std.proofs.Common.{◌≡◌, ◌⊎◌, ◌∙◌, ◌≤◌, inl, inr, subst, ℕ, Bool, true, false, List, [], Option, Some, None, Result, codes, refl, sym, ap, arith, option_map, cond}
use Rattle.std.specs.Prelude.{◌↔◌, IsSome, bytes_eq, option_and_then, Box}
use Rattle.std.specs.Option.{is_some}
use Rattle.std.specs.Borrow.{Bor}
use Rattle.std.specs.Box.{box_value}
use Rattle.std.specs.Str.Parse.{ExplainsUnsignedError, HasUnsignedDigitsIfOk, ParsesUnsigned, digits_value, without_leading_plus}
use Rattle.std.specs.declared.num.ParseIntError.{ParseIntError}
use Rattle.std.proofs.lemmas.Bool.{false_from_ne_true}
use Rattle.std.proofs.lemmas.Slice.Eq.{bytes_eq-Decides}
use Rattle.clap.specs.ValueTests.{accepts}
use Rattle.clap.proofs.ValueTestLemmas.{Accepts-accepts, accepts-Accepts}
use Rattle.clap.proofs.OnLiterals.{clap_on_literals}
use Rattle.clap.proofs.WalkLemmas.{first_value-rows, one_text-rows}
use Rattle.clap.specs.Words.{App, HasKind, HasMatchesOf, IsAmong, Kinds, ReadsOne, Row, Text, fault_of, first_value, found_of, is_simple, is_simple_and_free, kind_of, one_text, rows_of, subcommand_name_of, subcommand_of, subcommand_rows, subcommand_rows_of, takes}
use Rattle.clap.specs.declared.error.Error.{Error}
use Rattle.clap.specs.declared.error.kind.ErrorKind.TheVariants as kind
use Rattle.clap.specs.declared.error.kind.ErrorKind.TheVariants.{OutOfMemory}
use Rattle.clap.specs.declared.parser.matches.ArgMatches.{ArgMatches}
use Rattle.clap.specs.declared.parser.matches.ArgMatches.TheViews.{out-ArgMatches, out-SubCommand}
use Rattle.clap.specs.declared.parser.matches.SubCommand.{SubCommand}
use Rattle.console_text.specs.CommandLine.{broadcast_numbers, broadcasts_in, broadcasts_of, command_line, entry_numbers, limit_in, limit_of, meets_serve, most_entries, network_in, network_of, replay_rows, AreTaken, AsksHelp, ComesTo, HasNoFault, Refuses}
use Rattle.console_text.specs.declared.no_run.NoRun.{NoRun}
use Rattle.console_text.specs.declared.no_run.NoRun.TheVariants.{Help, Refused, Serve, BadPlmn, BadBroadcasts, BadJournal, Memory}

is_plain : is_simple command_line ≡ true
unfolding clap_on_literals
is_plain = refl

is_plain_and_free : is_simple_and_free command_line ≡ true
unfolding clap_on_literals
is_plain_and_free = refl

module _ (words : List Text) (e : Error) (taken : AreTaken words → kind_of e ≡ OutOfMemory) (kinds : HasKind (fault_of command_line words) e) where
  -- an error that isn't for lack of memory has one of the kinds that clap's rules give
  among : (r : NoRun) → (kind_of e ≡ OutOfMemory → r ≡ Memory) → (r ≡ Memory → ⊥) → IsAmong (kind_of e) (fault_of command_line words)
  among r memory other = elim kinds [ inl starved ↦ absurd (other (memory starved)) | inr found ↦ found ]

  asks_help : IsAmong (kind_of e) (fault_of command_line words) → (kind_of e ≡ kind.DisplayHelp) ⊎ (kind_of e ≡ kind.DisplayVersion) → AsksHelp words
  asks_help found (inl help) = inl (subst (λ k. IsAmong k (fault_of command_line words)) help found)
  asks_help found (inr version) = inr (subst (λ k. IsAmong k (fault_of command_line words)) version found)

  -- a command line that is taken is refused for lack of memory alone, and another for a fault of its words
  pub refuses_so : (r : NoRun) → (kind_of e ≡ OutOfMemory → r ≡ Memory) → ComesTo (kind_of e) r → Refuses words r
  refuses_so (Help text) memory comes =
      ((λ t. cc (memory (taken t))), asks_help (among (Help text) memory (λ same. cc same)) comes)
  refuses_so (Refused text) memory comes =
      ((λ t. cc (memory (taken t))), (kind_of e, among (Refused text) memory (λ same. cc same), comes.0, comes.1))
  refuses_so Serve memory comes = absurd comes
  refuses_so BadPlmn memory comes = absurd comes
  refuses_so BadBroadcasts memory comes = absurd comes
  refuses_so BadJournal memory comes = absurd comes
  refuses_so Memory memory comes = tt

-- the kinds that clap's rules give for the command line
pub kinds_of_line : (a : App) (words : List Text) (e : Error) → a ≡ command_line → (is_simple_and_free a ≡ true → HasKind (fault_of a words) e)
    → HasKind (fault_of command_line words) e
kinds_of_line a words e same kinds =
    subst (λ (ks : Kinds). HasKind ks e) (ap (λ (x : App). fault_of x words) same) (kinds (ap is_simple_and_free same ∙ is_plain_and_free))

pub taken_wants_memory : (a : App) (words : List Text) (e : Error) → a ≡ command_line → (takes a words ≡ true → kind_of e ≡ OutOfMemory)
    → (is_simple_and_free a ≡ true → HasKind (fault_of a words) e) → AreTaken words → kind_of e ≡ OutOfMemory
taken_wants_memory a words e same passes kinds (inl taken) = passes (ap (λ (x : App). takes x words) same ∙ taken)
taken_wants_memory a words e same passes kinds (inr none) =
    among (subst (λ (ks : Kinds). HasKind ks e) (ap (λ (x : App). fault_of x words) same ∙ none) (kinds (ap is_simple_and_free same ∙ is_plain_and_free)))
  where
    among : HasKind [] e → kind_of e ≡ OutOfMemory
    among (inl memory) = memory
    among (inr other) = absurd other

-- words that the parser takes have no fault
pub taken_has_no_fault : (a : App) (words : List Text) → a ≡ command_line → (is_simple_and_free a ≡ true → fault_of a words ≡ []) → HasNoFault words
taken_has_no_fault a words same taken = ap (λ (x : App). fault_of x words) (sym same) ∙ taken (ap is_simple_and_free same ∙ is_plain_and_free)

-- and the matches that clap's rules give
pub taken_has_matches : (a : App) (words : List Text) (m : ArgMatches) → a ≡ command_line → HasMatchesOf a words m → subcommand_rows_of m ≡ subcommand_of command_line words
taken_has_matches a words m same matched =
    (matched (ap is_simple same ∙ is_plain)).1 ∙ ap (λ (x : App). subcommand_of x words) same

-- what the reader of 32 bits answers for a text
abbrev pub Reads : List ℕ → Result ℕ ParseIntError → Type 0
Reads text r = ParsesUnsigned 32 10 text r × ExplainsUnsignedError 10 text r × HasUnsignedDigitsIfOk text r

-- a number that is read and that the option takes is the limit
pub limit_of_number : (o : Option Text) (r : Option ℕ) (n : ℕ) → (o ≡ None → r ≡ None) → ((t : Text) → o ≡ Some t → ReadsOne Reads t r)
    → r ≡ Some n → 1 ≤ n → n ≤ most_entries → Some n ≡ option_and_then limit_of o
limit_of_number None None n none value is least most = cc is
limit_of_number None (Some m) n none value is least most = cc (none refl)
limit_of_number (Some t) None n none value is least most = cc is
limit_of_number (Some t) (Some m) n none value is least most =
    let ok = (value t refl).0 in
    let same : m ≡ n = cc is in
    let taken : accepts false entry_numbers t ≡ true = Accepts-accepts false entry_numbers t (ok.0.0, omega (arith, ok.1, same), omega (arith, ok.1, same), omega (arith, ok.1, same)) in
    rw taken (ap Some (sym same ∙ ok.1))

-- and where no such number is read there is no limit
pub limit_of_none : (o : Option Text) (r : Option ℕ) → ((t : Text) → o ≡ Some t → ReadsOne Reads t r)
    → ((n : ℕ) → r ≡ Some n → 1 ≤ n → n ≤ most_entries → ⊥) → None ≡ option_and_then limit_of o
limit_of_none None r value out = refl
limit_of_none (Some t) r value out = go (accepts false entry_numbers t) refl r (value t refl) out
  where
    go : (b : Bool) → accepts false entry_numbers t ≡ b → (r : Option ℕ) → ReadsOne Reads t r → ((n : ℕ) → r ≡ Some n → 1 ≤ n → n ≤ most_entries → ⊥)
        → None ≡ cond b (Some (digits_value 10 (without_leading_plus t))) None
    go false e r read out = refl
    go true e (Some n) read out =
        let passed = accepts-Accepts false entry_numbers t e in
        absurd (out n refl (omega (arith, read.0.1, passed.2)) (omega (arith, read.0.1, passed.3)))
    go true e None read out =
        let passed = accepts-Accepts false entry_numbers t e in
        absurd (read.1.0 (passed.0, omega (arith, passed.3)))

-- what the reader of 16 bits answers for a text
abbrev pub ReadsHalf : List ℕ → Result ℕ ParseIntError → Type 0
ReadsHalf text r = ParsesUnsigned 16 10 text r × ExplainsUnsignedError 10 text r × HasUnsignedDigitsIfOk text r

-- what is read is the number of broadcasts, where there is one
pub broadcasts_read : (o : Option Text) (r : Option ℕ) → (o ≡ None → r ≡ None) → ((t : Text) → o ≡ Some t → ReadsOne ReadsHalf t r) → r ≡ option_and_then broadcasts_of o
broadcasts_read None r none value = none refl
broadcasts_read (Some t) r none value = go (accepts false broadcast_numbers t) refl r (value t refl)
  where
    go : (b : Bool) → accepts false broadcast_numbers t ≡ b → (r : Option ℕ) → ReadsOne ReadsHalf t r → r ≡ cond b (Some (digits_value 10 (without_leading_plus t))) None
    go true e (Some n) read = ap Some read.0.1
    go true e None read =
        let passed = accepts-Accepts false broadcast_numbers t e in
        absurd (read.1.0 (passed.0, omega (arith, passed.3)))
    go false e (Some n) read =
        let taken : accepts false broadcast_numbers t ≡ true =
        Accepts-accepts false broadcast_numbers t (read.0.0.0, omega (arith, read.0.0.1), omega (arith, read.0.0.1), omega (arith, read.0.0.1)) in
        cc (sym e ∙ taken)
    go false e None read = refl

-- the matches of the command that is met
met_rows : (met : Option (Text × List Row)) (rows : List Row) → option_map (λ p. p.0) met ≡ Some (codes "replay") → option_map (λ p. p.1) met ≡ Some rows → replay_rows met ≡ rows
met_rows None rows name is = cc is
met_rows (Some p) rows name is =
    let same : bytes_eq p.0 (codes "replay") ≡ true = (bytes_eq-Decides p.0 (codes "replay")).1 (cc name) in
    rw same (cc is)

name_of_met : {Z : Type 0} (s : Option (Box SubCommand Z)) → option_map (λ p. p.0) (subcommand_rows s) ≡ option_map (λ b. (out-SubCommand (box_value b)).name.now) s
name_of_met None = refl
name_of_met (Some b) = refl

-- the command that the parser met is `serve`, where its matches are found
serve_named : {A : Type 0} (met : Option (Text × List Row)) (found : Option A) → IsSome found ↔ (option_map (λ p. p.0) met ≡ Some (codes "serve")) → is_some found ≡ meets_serve met
serve_named None None is = refl
serve_named None (Some a) is = cc (is.0 refl)
serve_named (Some p) None is =
    sym (false_from_ne_true (bytes_eq p.0 (codes "serve")) (λ same. let there : false ≡ true = is.1 (ap Some ((bytes_eq-Decides p.0 (codes "serve")).0 same)) in cc there))
serve_named (Some p) (Some a) is = sym ((bytes_eq-Decides p.0 (codes "serve")).1 (cc (is.0 refl)))

pub met_serve : {A : Type 0} (m : ArgMatches) (found : Option A) → IsSome found ↔ (subcommand_name_of m ≡ Some (codes "serve")) → is_some found ≡ meets_serve (subcommand_rows_of m)
met_serve m found is =
    let named = name_of_met (out-ArgMatches m).subcommand in
    serve_named (subcommand_rows_of m) found (λ there. named ∙ is.0 there, λ same. is.1 (sym named ∙ same))

-- the command that the parser met is `replay`, with these matches
abbrev pub Met : ArgMatches → ArgMatches → Type 0
Met m replay = option_map (λ p. p.1) (subcommand_rows (out-ArgMatches m).subcommand) ≡ Some (rows_of (found_of replay))

replay_rows_met : (m replay : ArgMatches) → subcommand_name_of m ≡ Some (codes "replay") → Met m replay → replay_rows (subcommand_rows_of m) ≡ rows_of (found_of replay)
replay_rows_met m replay name rows =
    met_rows (subcommand_rows_of m) (rows_of (found_of replay)) (name_of_met (out-ArgMatches m).subcommand ∙ name) rows

-- the limit, the number of broadcasts and the network of the values that are read of it
pub met_limit : (m replay : ArgMatches) → subcommand_name_of m ≡ Some (codes "replay") → Met m replay
    → option_and_then limit_of (one_text (found_of replay) (codes "journal")) ≡ limit_in (replay_rows (subcommand_rows_of m))
met_limit m replay name rows =
    ap (option_and_then limit_of) (one_text-rows (found_of replay) (codes "journal")) ∙ ap limit_in (sym (replay_rows_met m replay name rows))

pub met_broadcasts : (m replay : ArgMatches) → subcommand_name_of m ≡ Some (codes "replay") → Met m replay
    → option_and_then broadcasts_of (one_text (found_of replay) (codes "broadcasts")) ≡ broadcasts_in (replay_rows (subcommand_rows_of m))
met_broadcasts m replay name rows =
    ap (option_and_then broadcasts_of) (one_text-rows (found_of replay) (codes "broadcasts")) ∙ ap broadcasts_in (sym (replay_rows_met m replay name rows))

pub met_network : (m replay : ArgMatches) (value : Option (Bor Text)) → subcommand_name_of m ≡ Some (codes "replay") → Met m replay
    → option_map (λ s. s.now) value ≡ first_value (found_of replay) (codes "plmn")
    → option_and_then network_of (option_map (λ s. s.now) value) ≡ network_in (replay_rows (subcommand_rows_of m))
met_network m replay value name rows read =
    ap (option_and_then network_of) (read ∙ first_value-rows (found_of replay) (codes "plmn")) ∙ ap network_in (sym (replay_rows_met m replay name rows))
