-- Which connection gets the link of a BSC.
use Rattle.std.specs.Prelude.{◌≡◌, ◌≢◌, Bool, true, false, Option, Some, None}
use Rattle.std.specs.declared.net.IpAddr.{IpAddr}
use Rattle.link_rules.specs.declared.verdict.Verdict.{Verdict}
use Rattle.link_rules.specs.declared.verdict.Verdict.TheVariants.{Take, TakePlace, CloseOther, CloseUnnamed}

-- by the address of the link that is up, that of the connection, and whether this is named for the BSC, where there is a list
abbrev pub IsVerdict : Option IpAddr → IpAddr → Option Bool → Verdict → Type 0
IsVerdict None from None verdict = verdict ≡ Take
IsVerdict (Some up) from None verdict = (up ≡ from → verdict ≡ TakePlace) × (up ≢ from → verdict ≡ CloseOther)
IsVerdict None from (Some true) verdict = verdict ≡ Take
IsVerdict (Some up) from (Some true) verdict = verdict ≡ TakePlace
IsVerdict up from (Some false) verdict = verdict ≡ CloseUnnamed
