use Rattle.std.proofs.Common.{◌≡◌, ◌∙◌, Ok, Some, refl, sym, ap}
use Rattle.std.specs.Result.{result_ok}
use Rattle.hex.specs.Hex.{encode_lower}
use Rattle.journal_file.specs.First.{broadcasts_text}
use Rattle.journal_file.proofs.FirstLemmas.{length-network, network_reads}
use Rattle.journal_file.proofs.first_line.read_heading.Goals as goal

-- a first line has its parts
pub returns-in_err-digits-clause-read : goal.returns-in_err-digits-clause-read
returns-in_err-digits-clause-read c heading good is =
    absurd (rw c.in_err-digits.was at (c.parts_of.ensures (encode_lower heading.plmn) (broadcasts_text heading.broadcasts) (length-network heading.plmn good.0) is))

-- its network is read
pub returns-in_err-plmn-clause-read : goal.returns-in_err-plmn-clause-read
returns-in_err-plmn-clause-read c heading good is =
    let parts = c.in_ok-digits.ensures (encode_lower heading.plmn) (broadcasts_text heading.broadcasts) (length-network heading.plmn good.0) is in
    cc (sym c.in_err-plmn.was ∙ c.ok.ensures.value ∙ ap result_ok (c.from_hex.ensures ∙ network_reads c.in_ok-digits.digits.now heading.plmn good.0 parts.0))

-- and its number
pub returns-in_err-broadcasts-clause-read : goal.returns-in_err-broadcasts-clause-read
returns-in_err-broadcasts-clause-read c heading good is =
    let parts = c.in_ok-digits.ensures (encode_lower heading.plmn) (broadcasts_text heading.broadcasts) (length-network heading.plmn good.0) is in
    cc (sym c.in_err-broadcasts.was ∙ c.broadcasts_of.ensures heading.broadcasts good.1 parts.1)

pub returns-clause-read : goal.returns-clause-read
returns-clause-read c heading good is =
    let parts = c.in_ok-digits.ensures (encode_lower heading.plmn) (broadcasts_text heading.broadcasts) (length-network heading.plmn good.0) is in
    let plmn : c.in_ok-plmn.plmn ≡ heading.plmn =
    cc (sym c.in_ok-plmn.was ∙ c.ok.ensures.value ∙ ap result_ok (c.from_hex.ensures ∙ network_reads c.in_ok-digits.digits.now heading.plmn good.0 parts.0)) in
    let broadcasts : c.in_ok-broadcasts.broadcasts ≡ heading.broadcasts = cc (sym c.in_ok-broadcasts.was ∙ c.broadcasts_of.ensures heading.broadcasts good.1 parts.1) in
    rw (plmn, broadcasts) refl
