-- A survey of a lawful centre that isn't stale has every warning in the book, with every area that it names.
use Rattle.std.proofs.Common.{◌≡◌, ℕ, true, false, ◌||◌, List, [], ◌∷◌, ◌++◌, Some, nat_eq, cond, map, refl, sym, ◌∙◌, ap, eq-eqb, ltb, arith}
use Rattle.std.specs.Prelude.{bytes_eq, find, if◌then◌else◌}
use Rattle.std.specs.List.{AllByRecursion, flat_map, list_all, list_any}
use Rattle.std.specs.Option.{option_map}
use Rattle.std.proofs.lemmas.Bool.{and_parts, or_right}
use Rattle.std.proofs.lemmas.Bool.Decides.{nat_tests}
use Rattle.std.proofs.lemmas.Slice.Eq.{bytes_eq-Decides}
use Rattle.common.specs.Order.{is_ascending}
use Rattle.centre_events.specs.Base.{Base}
use Rattle.centre_events.specs.Cover.{is_area}
use Rattle.centre_events.specs.Past.{Past}
use Rattle.centre_events.specs.Warnings.{warnings_of}
use Rattle.centre_events.specs.declared.settings.Settings.{Settings}
use Rattle.centre_past.specs.Legal.{Lawful, lasting, past}
use Rattle.centre_past.specs.Lists.{warning_row, warning_rows, warning_sheet}
use Rattle.centre_past.proofs.LineLemmas.{found_passes}
use Rattle.centre_past.proofs.LawfulLemmas.{whole}
use Rattle.centre_past.proofs.WarningLemmas.{legal_sound}
use Rattle.warning_book.specs.Book.{has_number, names, number_lt}
use Rattle.warning_book.specs.declared.warning.Warning.{Warning}
use Rattle.office_picture.specs.Laws.{SurveyHasAll, surveyed, surveyed_area}
use Rattle.centre_questions.specs.declared.area_numbers.AreaNumbers.{AreaNumbers}
use Rattle.centre_questions.specs.declared.surveyed_warning.SurveyedWarning.{SurveyedWarning}
use Rattle.centre_questions.specs.Surveys.{area_of, warning_at, warning_if, warnings_in}
use Rattle.office_picture.proofs.UseLemmas.{lawful_use}

-- each of the warnings is found by its number
abbrev AreFound : List Warning → List Warning → Type 0
AreFound l ws = AllByRecursion (λ (w : Warning). find (has_number w.number) l ≡ Some w) ws

-- a smaller number is another
another : (m n : ℕ) → ltb m n ≡ true → nat_eq m n ≡ false
another m n h = grind (arith, nat_tests)

-- those that are found behind a warning with a smaller number are found with it before them
behind : (v : Warning) (l ws : List Warning) → list_all (number_lt v) ws ≡ true → AreFound l ws → AreFound (v ∷ l) ws
behind v l [] less found = tt
behind v l (w ∷ ws) less found =
    let parts = and_parts (number_lt v w) (list_all (number_lt v) ws) less in
    (ap (λ t. cond t (Some v) (find (has_number w.number) l)) (another v.number w.number parts.0) ∙ found.0, behind v l ws parts.1 found.1)

-- in the order of their numbers each is found
all_found : (ws : List Warning) → is_ascending number_lt ws ≡ true → AreFound ws ws
all_found [] ordered = tt
all_found (v ∷ ws) ordered =
    let parts = and_parts (list_all (number_lt v) ws) (is_ascending number_lt ws) ordered in
    (ap (λ t. cond t (Some v) (find (has_number v.number) ws)) (eq-eqb v.number v.number refl), behind v ws ws parts.0 (all_found ws parts.1))

-- the book of a lawful past has each warning by its number
lawful_found : (settings : Settings) (past : Past) → Lawful settings past → AreFound (warnings_of past) (warnings_of past)
lawful_found settings past lawful =
    let w = whole settings past lawful in
    all_found (warnings_of past) (ap (λ (b : Base). is_ascending number_lt b.book.warnings) (sym w.same) ∙ (legal_sound (lasting settings.network) w.full w.legal).ordered)

-- an area that is there, and that a warning of the book names, is shown with its numbers
area_shown : (past : Past) (n : ℕ) (w : Warning) → find (has_number n) (warnings_of past) ≡ Some w → (a : List ℕ) → (names a w ≡ true) × (is_area past a ≡ true) → area_of past n a ≡ surveyed_area past w a ∷ []
area_shown past n w found a there = rw (there.1, found, there.0) refl

-- so is each of several
areas_shown : (past : Past) (n : ℕ) (w : Warning) → find (has_number n) (warnings_of past) ≡ Some w → (areas : List (List ℕ)) → ((a : List ℕ) → list_any (λ b. bytes_eq b a) areas ≡ true → (names a w ≡ true) × (is_area past a ≡ true)) → flat_map (area_of past n) areas ≡ map (surveyed_area past w) areas
areas_shown past n w found [] there = refl
areas_shown past n w found (a ∷ areas) there =
    ap (λ shown. shown ++ flat_map (area_of past n) areas) (area_shown past n w found a (there a (ap (λ t. t || list_any (λ b. bytes_eq b a) areas) ((bytes_eq-Decides a a).1 refl))))
    ∙ ap (λ rest. surveyed_area past w a ∷ rest) (areas_shown past n w found areas (λ x h. there x (or_right (bytes_eq a x) (list_any (λ b. bytes_eq b x) areas) h)))

-- a warning of the book is shown with each of its areas
warning_shown : (settings : Settings) (past : Past) → Lawful settings past → (w : Warning) → find (has_number w.number) (warnings_of past) ≡ Some w → warning_at past (warning_row past w) ≡ surveyed past w ∷ []
warning_shown settings past lawful w found =
    ap (λ o. warning_if past w.number (option_map (warning_sheet past) o)) found
    ∙ ap (λ (shown : List AreaNumbers). let one : SurveyedWarning = record { sheet = warning_sheet past w; areas = shown } in one ∷ [])
    (areas_shown past w.number w found w.areas (λ a named. (named, lawful_use settings past lawful a (found_passes (has_number w.number) (names a) (warnings_of past) w found named))))

-- so is each of several
warnings_shown : (settings : Settings) (past : Past) → Lawful settings past → (ws : List Warning) → AreFound (warnings_of past) ws → flat_map (warning_at past) (map (warning_row past) ws) ≡ map (surveyed past) ws
warnings_shown settings past lawful [] found = refl
warnings_shown settings past lawful (w ∷ ws) found =
    ap (λ shown. shown ++ flat_map (warning_at past) (map (warning_row past) ws)) (warning_shown settings past lawful w found.0)
    ∙ ap (λ rest. surveyed past w ∷ rest) (warnings_shown settings past lawful ws found.1)

pub survey_has_all : SurveyHasAll
survey_has_all centre lawful whole =
    ap (λ t. if t then [] else warnings_in (past centre) (warning_rows (past centre))) whole
    ∙ warnings_shown centre.settings (past centre) lawful (warnings_of (past centre)) (lawful_found centre.settings (past centre) lawful)
