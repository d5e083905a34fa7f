-- What the lines that were taken make of the office's centre.
use Rattle.std.proofs.Common.{◌≡◌, ℕ, ◌≤◌, List, [], ◌∷◌, ◌++◌, Option, Some, Result, Ok, Err, IfOk, IfErr, length, refl, sym, subst, arith}
use Rattle.centre_past.specs.Legal.{Known, all_entries}
use Rattle.journal_file.specs.Loads.{BreaksOff, Loads}
use Rattle.journal_file.specs.declared.heading.Heading.{Heading}
use Rattle.journal_file.specs.declared.load_fault.LoadFault.{LoadFault}
use Rattle.journal_file.specs.declared.loaded.Loaded.{Loaded}
use Rattle.journal_laws.specs.Starts.{IsLeft, IsStart, TakesLine}
use Rattle.journal_office.specs.Entered.{BreaksOffStart, EnteringState, Starts}
use Rattle.office.specs.Helds.{HeldState}
use Rattle.journal_laws.proofs.StartLemmas.{start_left, start_new, start_takes}

none_of : {X : Type 0} (xs : List X) → length xs ≤ 0 → xs ≡ []
none_of [] few = refl
none_of (x ∷ xs) few = absurd (omega (arith, few))

pub begins_if : (taken : List (List ℕ)) (centre : Known) (position : ℕ) → taken ≡ [] → position ≡ length (all_entries centre) → position ≤ 0 → IsStart taken centre
begins_if taken centre position none is few =
    subst (λ ls. IsStart ls centre) (sym none) (start_new centre (none_of (all_entries centre) (omega (arith, is, few))))

pub takes_if : (taken more lines : List (List ℕ)) (octets : List ℕ) (before old : HeldState) (new : Known) → old ≡ before → IsStart taken before.centre → lines ≡ octets ∷ [] → more ≡ taken ++ lines
    → TakesLine old.centre octets new → IsStart more new
takes_if taken more lines octets before old new same start alone is takes =
    subst (λ ls. IsStart ls new) (sym is) (subst (λ ls. IsStart (taken ++ ls) new) (sym alone)
    (start_takes taken octets old.centre new takes (subst (λ h. IsStart taken h.centre) (sym same) start)))

pub left_if : (taken : List (List ℕ)) (before old : HeldState) (new : Known) → old ≡ before → IsStart taken before.centre → IsLeft old.centre new → IsStart taken new
left_if taken before old new same start left = start_left taken old.centre new left (subst (λ h. IsStart taken h.centre) (sym same) start)

-- all of a file was entered, or a fault ended that
pub starts_if : (result : Result Loaded LoadFault) (heading : Heading) (given left : Option (List ℕ)) (old new : EnteringState) → IfOk result (Loads heading given left (Some old.taken) (Some new.taken)) → IsStart new.taken new.centre
    → IfOk result (Starts heading given left old new)
starts_if (Ok loaded) heading given left old new loads made = record { loads = loads; made = made }
starts_if (Err fault) heading given left old new loads made = loads

pub stops_if : (result : Result Loaded LoadFault) (heading : Heading) (given left : Option (List ℕ)) (old new : EnteringState) → IfErr result (BreaksOff heading given left (Some old.taken) (Some new.taken)) → IsStart new.taken new.centre
    → IfErr result (BreaksOffStart heading given left old new)
stops_if (Ok loaded) heading given left old new stops made = stops
stops_if (Err fault) heading given left old new stops made = record { stops = stops; made = made }
