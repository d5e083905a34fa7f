-- What keeps a stopped warning in the book is found from what is kept.
use Rattle.std.proofs.Common.{◌≡◌, arith, ℕ, ◌+◌, Bool, true, false, ◌&&◌, ◌||◌, not, nat_eq, ltb, List, [], ◌∷◌, Option, Some, None, refl, sym, ◌∙◌, ap}
use Rattle.std.specs.Prelude.{if◌then◌else◌}
use Rattle.std.specs.Cmp.{unsigned_Decides}
use Rattle.std.specs.List.{list_any}
use Rattle.std.specs.Option.{is_some}
use Rattle.std.proofs.lemmas.Bool.Decides.{nat_tests}
use Rattle.std.proofs.lemmas.Grind.{common_steps}
use Rattle.cell_register.specs.Register.{State, is_place}
use Rattle.common.specs.OnceLaws.{DecidesAll, any_turned}
use Rattle.common.specs.Sums.{one, sum_of}
use Rattle.common.specs.declared.cell.Cell.{Cell}
use Rattle.coverage_board.specs.Board.{total_of}
use Rattle.coverage_board.specs.Standings.{is_left, is_unwanted}
use Rattle.coverage_board.specs.declared.numbers.Numbers.{Numbers}
use Rattle.coverage_board.specs.declared.way.Way.TheVariants.{Left}
use Rattle.kept_tables.specs.Consistent.{Consistent}
use Rattle.kept_tables.specs.Tables.{Tables}
use Rattle.mirror.specs.Seen.{is_absent, is_the}
use Rattle.warning_book.specs.Book.{current_of, warning_of}
use Rattle.warning_book.specs.declared.version.Version.{Version}
use Rattle.warning_book.specs.declared.warning.Warning.{Warning}
use Rattle.centre_events.specs.Cover.{is_covered}
use Rattle.centre_past.specs.Facts.{facts}
use Rattle.centre_past.specs.Idle.{is_flying}
use Rattle.centre_events.specs.InFlight.{in_flight}
use Rattle.centre_past.specs.Links.{AreLinksOf, flight_in}
use Rattle.centre_events.specs.Kept.{IsRegisterOf}
use Rattle.centre_past.specs.Legal.{Legal}
use Rattle.centre_events.specs.Lines.{seen}
use Rattle.centre_events.specs.Links.{bscs, is_bsc}
use Rattle.centre_past.specs.Numbers.{number, number_at}
use Rattle.centre_events.specs.Past.{Past}
use Rattle.centre_events.specs.Places.{cells, place}
use Rattle.centre_events.specs.Plan.{wanted}
use Rattle.centre_events.specs.Presence.{presence}
use Rattle.centre_events.specs.Reported.{is_present, is_reported_in, is_reported_at, is_reported, flight_names, is_in_flight}
use Rattle.centre_events.specs.Warnings.{book_of}
use Rattle.centre_past.specs.declared.link.Link.{Link}
use Rattle.centre_events.specs.declared.in_flight.InFlight.{InFlight}
use Rattle.centre_events.specs.declared.settings.Settings.{Settings}
use Rattle.centre_past.proofs.AnyLemmas.{any_at, any_gives, any_same}
use Rattle.centre_answers.proofs.BoardLemmas.{board_is}
use Rattle.centre_past.proofs.BscLemmas.{bsc_named, flight_bsc}
use Rattle.centre_past.proofs.KnownLemmas.{legal_unfolded}
use Rattle.centre_events.proofs.PastLemmas.{any_image}

-- Lists.

-- of two tests each of which follows from the other both pass or none does
one_way : (t u : Bool) → (t ≡ true → u ≡ true) → (u ≡ true → t ≡ true) → t ≡ u
one_way true u f g = sym (f refl)
one_way false true f g = g refl
one_way false false f g = refl

-- what passes is in both of two lists, so one of them passes where one of the other does
pub any_both : {X : Type 0} (same : X → X → Bool) → DecidesAll same → (p : X → Bool) (xs ys : List X) → ((x : X) → p x ≡ true → list_any (same x) xs ≡ true) → ((x : X) → p x ≡ true → list_any (same x) ys ≡ true) → list_any p xs ≡ list_any p ys
any_both same d p xs ys first second =
    one_way (list_any p xs) (list_any p ys)
    (any_gives (list_any p ys) p (λ x e. any_at same d p x ys e (second x e)) xs)
    (any_gives (list_any p xs) p (λ x e. any_at same d p x xs e (first x e)) ys)

-- a sum is above 0 where one of its parts is
above_either : (m n : ℕ) → ltb 0 (m + n) ≡ (ltb 0 m || ltb 0 n)
above_either m n = grind (arith, nat_tests, common_steps)

above_one : (t : Bool) → ltb 0 (one t) ≡ t
above_one true = refl
above_one false = refl

sum_above : {X : Type 0} (f : X → ℕ) (xs : List X) → ltb 0 (sum_of f xs) ≡ list_any (λ x. ltb 0 (f x)) xs
sum_above f [] = refl
sum_above f (x ∷ xs) = above_either (f x) (sum_of f xs) ∙ ap (λ t. ltb 0 (f x) || t) (sum_above f xs)

-- What is reported.

-- nothing of a warning that is not active is wanted
none_wanted : (past : Past) (b : ℕ) (w : Warning) (c : Cell) → w.active ≡ false → wanted past b w c ≡ None
none_wanted past b w c h = ap (λ t. if t && (is_place (place past c) b && is_covered past w.areas c) then current_of w else None) h

-- so a version of it is left on each line on which one is on air, or may be
left_in : (past : Past) (b : ℕ) (w : Warning) (c : Cell) → w.active ≡ false → is_left (seen past b w c) ≡ is_reported_in past w b c
left_in past b w c h =
    any_image (is_unwanted (seen past b w c)) (λ (v : Version). v.serial) w.versions
    ∙ any_same (λ v. is_unwanted (seen past b w c) v.serial) (λ v. is_present past w b c v.serial) (λ v. ap (λ o. not (is_the o v.serial) && not (is_absent (presence past b c w.message_id v.serial))) (none_wanted past b w c h)) w.versions

-- so the number of its lines that are left is above 0 exactly where a version is on air anywhere, or may be
pub left_is : (past : Past) (w : Warning) → w.active ≡ false → ltb 0 (number past w Left) ≡ is_reported past w
left_is past w h =
    sum_above (number_at past w Left (cells past)) (bscs past)
    ∙ any_same (λ b. ltb 0 (number_at past w Left (cells past) b)) (is_reported_at past w) at (bscs past)
  where
    at : (b : ℕ) → ltb 0 (number_at past w Left (cells past) b) ≡ is_reported_at past w b
    at b =
        sum_above (λ c. one (is_left (seen past b w c))) (cells past)
        ∙ any_same (λ c. ltb 0 (one (is_left (seen past b w c)))) (is_reported_in past w b) (λ c. above_one (is_left (seen past b w c)) ∙ left_in past b w c h) (cells past)

-- and the board has that number
pub left_reported : (settings : Settings) (past : Past) → Legal settings past → (t : Tables) → Consistent t (facts past) → (w : Warning) → warning_of (book_of past) w.number ≡ Some w → w.active ≡ false → ltb 0 (total_of t.board w.number).left ≡ is_reported past w
left_reported settings past legal t is w found h =
    ap (λ (n : Numbers). ltb 0 n.left) (board_is settings past legal t is w.number w found) ∙ left_is past w h

-- What is in flight.

flight_there : (w : Warning) (o : Option InFlight) → flight_names w o ≡ true → is_some o ≡ true
flight_there w None h = cc
flight_there w (Some f) h = refl

-- what is in flight to the registered BSCs is what is in flight
pub flying_is : (settings : Settings) (past : Past) (r : State) (ls : List Link) (w : Warning) → Legal settings past → IsRegisterOf past r → AreLinksOf past ls → is_flying ls w r.bscs ≡ is_in_flight past w
flying_is settings past r ls w legal registered linked =
    any_same (λ b. flight_names w (flight_in ls b)) (λ b. flight_names w (in_flight past b)) (λ b. ap (flight_names w) (linked.flights b)) r.bscs
    ∙ any_both nat_eq unsigned_Decides (λ b. flight_names w (in_flight past b)) r.bscs (bscs past)
    (λ b h. any_turned nat_eq unsigned_Decides b r.bscs ∙ registered.bscs b ∙ registered_one b h)
    (λ b h. bsc_named past (legal_unfolded settings past legal) b (registered_one b h))
  where
    registered_one : (b : ℕ) → flight_names w (in_flight past b) ≡ true → is_bsc past b ≡ true
    registered_one b h = flight_bsc settings past legal b (flight_there w (in_flight past b) h)
