-- What is pending in the tables is what the past says is to be ordered.
use Rattle.std.proofs.Common.{◌≡◌, ℕ, Bool, true, false, ◌&&◌, ◌||◌, nat_eq, List, [], ◌∷◌, Option, Some, None, Result, Ok, Err, map, refl, sym, ◌∙◌, ap}
use Rattle.std.specs.Prelude.{find, OnErr}
use Rattle.std.specs.Cmp.{both_ways}
use Rattle.std.specs.List.{list_any}
use Rattle.std.specs.Option.{is_some}
use Rattle.std.proofs.Math.Bool.{and-true}
use Rattle.cell_register.specs.Register.{is_place}
use Rattle.common.specs.Cell.{cell_eq}
use Rattle.common.specs.Equality.{cell_decides}
use Rattle.common.specs.declared.cell.Cell.{Cell}
use Rattle.kept_tables.specs.Consistent.{Consistent, Owned, acts_by, deed_of, is_deed}
use Rattle.kept_tables.specs.ConsistentLaws.{pending_is}
use Rattle.kept_tables.specs.Facts.{deeds_of}
use Rattle.kept_tables.specs.FactsLaws.{deeds_of_none}
use Rattle.kept_tables.specs.Tables.{Tables}
use Rattle.kept_tables.specs.View.{key_of}
use Rattle.order_maker.specs.Actions.{in_cell, deeds}
use Rattle.order_maker.specs.Grouping.{first, kind_eq}
use Rattle.order_maker.specs.OrderingLaws.{action_decides}
use Rattle.order_maker.specs.Pending.{action_eq, is_listed, IsListOf}
use Rattle.order_maker.specs.declared.action.Action.{Action}
use Rattle.order_maker.specs.declared.deed.Deed.{Deed}
use Rattle.order_maker.specs.declared.order.Order.{Order}
use Rattle.warning_book.specs.Book.{has_number, numbers, warning_of}
use Rattle.warning_book.specs.declared.kind.Kind.TheVariants as kind
use Rattle.warning_book.specs.declared.warning.Warning.{Warning}
use Rattle.centre_events.specs.Down.{is_down}
use Rattle.centre_events.specs.Effects.{is_among}
use Rattle.centre_past.specs.Facts.{facts_of, facts}
use Rattle.centre_past.specs.Legal.{Legal}
use Rattle.centre_past.specs.LinkStates.{link_state}
use Rattle.centre_past.specs.declared.link_state.LinkState.{LinkState}
use Rattle.centre_events.specs.Lines.{seen}
use Rattle.centre_events.specs.Links.{is_up, last_link}
use Rattle.centre_events.specs.Past.{Past}
use Rattle.centre_events.specs.Pending.{actions, actions_in, all_actions, pending}
use Rattle.centre_events.specs.Places.{place, cells}
use Rattle.centre_events.specs.Warnings.{book_of, warnings_of}
use Rattle.centre_events.specs.declared.settings.Settings.{Settings}
use Rattle.centre_past.proofs.AnyLemmas.{and_none, any_flat, any_gives, any_pulled, any_same}
use Rattle.centre_past.proofs.BeginningLemmas.{at_cell, cell_outside, no_deeds}
use Rattle.centre_past.proofs.BookLemmas.{owned_by, owner_of}
use Rattle.centre_past.proofs.CountLemmas.{both_or_it}
use Rattle.centre_past.proofs.LineLemmas.{found_passes}
use Rattle.centre_past.proofs.NumberLemmas.{passes, each_found, any_by_number}
use Rattle.centre_past.proofs.OnceLemmas.{actions_once}
use Rattle.centre_past.proofs.OwnedLemmas.{owned}
use Rattle.centre_answers.proofs.SeenLemmas.{deeds_seen}
use Rattle.centre_past.proofs.UniqueLemmas.{unique}
use Rattle.centre_past.proofs.WarningLemmas.{legal_sound}

-- An action in the lists of what is to be ordered.

-- an action is one of those that do the deeds in a cell where it is in that cell, and does one of them
in_one_cell : (a : Action) (c : Cell) (ds : List Deed) → is_listed a (map (in_cell c) ds) ≡ (cell_eq a.cell c && is_deed (deed_of a) ds)
in_one_cell a c [] = sym (and_none (cell_eq a.cell c))
in_one_cell a c (d ∷ ds) =
    ap (λ t. action_eq a (in_cell c d) || t) (in_one_cell a c ds)
    ∙ table (kind_eq a.kind d.kind) (nat_eq a.message_id d.message_id) (nat_eq a.serial d.serial) (cell_eq a.cell c) (is_deed (deed_of a) ds)
  where
    table : (k m s x r : Bool) → ((k && (m && (s && x))) || (x && r)) ≡ (x && ((k && (m && s)) || r))
    table true true true true r = refl
    table true true true false r = refl
    table true true false x r = refl
    table true false s x r = refl
    table false m s x r = refl

-- what the action does is to be ordered of the warning in its cell
abbrev does_there : Past → ℕ → Action → Warning → Bool
does_there past b a w = is_deed (deed_of a) (deeds (seen past b w a.cell))

in_cells : (past : Past) (b : ℕ) (a : Action) (w : Warning) (cs : List Cell) → is_listed a (actions_in past b cs w) ≡ (does_there past b a w && is_among a.cell cs)
in_cells past b a w cs =
    any_flat (action_eq a) (actions past b w) cs
    ∙ any_same (λ c. is_listed a (actions past b w c)) (λ c. does_there past b a w && cell_eq a.cell c) (λ c. in_one_cell a c (deeds (seen past b w c)) ∙ at c (cell_eq a.cell c) refl) cs
    ∙ any_pulled (does_there past b a w) (cell_eq a.cell) cs
  where
    at : (c : Cell) (t : Bool) → cell_eq a.cell c ≡ t → (t && is_deed (deed_of a) (deeds (seen past b w c))) ≡ (does_there past b a w && t)
    at c true e = ap (λ d. is_deed (deed_of a) (deeds (seen past b w d))) (sym ((cell_decides a.cell c).0 e)) ∙ sym (and-true (does_there past b a w))
    at c false e = sym (and_none (does_there past b a w))

-- nothing is to be ordered in a cell that was never registered
ordered_cell : (settings : Settings) (past : Past) → Legal settings past → (b : ℕ) (a : Action) (w : Warning) → does_there past b a w ≡ true → is_among a.cell (cells past) ≡ true
ordered_cell settings past legal b a w h = step (is_among a.cell (cells past)) refl
  where
    step : (t : Bool) → is_among a.cell (cells past) ≡ t → t ≡ true
    step true e = refl
    step false e =
        let none : deeds (seen past b w a.cell) ≡ [] = no_deeds past b w a.cell (at_cell past b w a.cell (cell_outside settings past legal a.cell e)) in
        sym (ap (is_deed (deed_of a)) none) ∙ h

listed_there : (settings : Settings) (past : Past) → Legal settings past → (b : ℕ) (a : Action) → is_listed a (all_actions past b) ≡ list_any (does_there past b a) (warnings_of past)
listed_there settings past legal b a =
    any_flat (action_eq a) (actions_in past b (cells past)) (warnings_of past)
    ∙ any_same (λ w. is_listed a (actions_in past b (cells past) w)) (does_there past b a) (λ w. in_cells past b a w (cells past) ∙ sym (both_or_it (does_there past b a w) (is_among a.cell (cells past)) (ordered_cell settings past legal b a w))) (warnings_of past)

-- What is pending in the tables.

-- each message that is to be ordered is one of the warning in the book that has its key
pub owners : (settings : Settings) (past : Past) → Legal settings past → Owned (owner_of (warnings_of past)) (facts past)
owners settings past legal =
    owned settings past legal (warnings_of past) (λ n m s h. owned_by n m s (warnings_of past) (unique (book_of past) (legal_sound settings past legal) m s) h)

-- it acts by the line of the owner
abbrev acts : Past → ℕ → Action → Bool
acts past b a = acts_by (facts past) (owner_of (warnings_of past) a.message_id a.serial) b a

acts_from : (settings : Settings) (past : Past) → Legal settings past → (b : ℕ) (a : Action) → list_any (does_there past b a) (warnings_of past) ≡ true → acts past b a ≡ true
acts_from settings past legal b a h =
    any_gives (acts past b a) (λ n. passes (does_there past b a) (find (has_number n) (warnings_of past))) (λ n. step n (warning_of (book_of past) n) refl) (numbers (warnings_of past))
    (sym (any_by_number (does_there past b a) (warnings_of past) (warnings_of past) (each_found (warnings_of past) (legal_sound settings past legal).ordered)) ∙ h)
  where
    step : (n : ℕ) (o : Option Warning) → warning_of (book_of past) n ≡ o → passes (does_there past b a) o ≡ true → acts past b a ≡ true
    step n None e g = cc
    step n (Some w) e g =
        let here : is_deed (deed_of a) (deeds_of (facts past (key_of b a.cell n))) ≡ true = ap (is_deed (deed_of a)) (deeds_seen settings past legal (key_of b a.cell n) w e) ∙ g in
        ap (λ o. acts_by (facts past) o b a) ((owners settings past legal).owns (key_of b a.cell n) (deed_of a) here) ∙ here

acts_to : (settings : Settings) (past : Past) → Legal settings past → (b : ℕ) (a : Action) → acts past b a ≡ true → list_any (does_there past b a) (warnings_of past) ≡ true
acts_to settings past legal b a h = step (owner_of (warnings_of past) a.message_id a.serial) h
  where
    at : (n : ℕ) (o : Option Warning) → warning_of (book_of past) n ≡ o → is_deed (deed_of a) (deeds_of (facts_of past b a.cell o)) ≡ true → list_any (does_there past b a) (warnings_of past) ≡ true
    at n None e g =
        let no : false ≡ true = sym (ap (is_deed (deed_of a)) (deeds_of_none (is_down past kind.Cbs b a.cell) (is_place (place past a.cell) b))) ∙ g in cc
    at n (Some w) e g =
        found_passes (has_number n) (does_there past b a) (warnings_of past) w e
        (sym (ap (is_deed (deed_of a)) (deeds_seen settings past legal (key_of b a.cell n) w e)) ∙ ap (λ o. is_deed (deed_of a) (deeds_of (facts_of past b a.cell o))) e ∙ g)

    step : (o : Option ℕ) → acts_by (facts past) o b a ≡ true → list_any (does_there past b a) (warnings_of past) ≡ true
    step None g = cc
    step (Some n) g = at n (warning_of (book_of past) n) refl g

-- what is pending for a BSC is what is to be ordered for it
pub pending_list : (settings : Settings) (past : Past) → Legal settings past → (t : Tables) → Consistent t (facts past) → (b : ℕ) → IsListOf (all_actions past b) t.pending b
pending_list settings past legal t is b = record {
  once = actions_once settings past legal b action_eq (λ x y. (action_decides x y).0);
  same = λ a.
      listed_there settings past legal b a
      ∙ both_ways (list_any (does_there past b a) (warnings_of past)) (acts past b a) (acts_from settings past legal b a) (acts_to settings past legal b a)
      ∙ sym (pending_is t (facts past) (owner_of (warnings_of past)) (owners settings past legal) is b a);
}

-- what is told of a link is its state
pub link_told : (past : Past) (b : ℕ) {last : ℕ} {up has : Bool} → last ≡ last_link past b → up ≡ is_up past b → has ≡ is_some (first (pending past b)) → (let s : LinkState = record { last = last; is_up = up; has_pending = has } in s) ≡ link_state past b
link_told past b l u h = cc

-- nothing is pending where there is no first order
pub none_pending : (orders : List Order) → is_some (first orders) ≡ false → orders ≡ []
none_pending [] none = refl
none_pending (order ∷ orders) none = cc

-- what holds where memory runs out
pub where_starved : {A E : Type 0} (o : Result A E) (P : Type 0) → P → OnErr o P
where_starved (Ok a) P p = tt
where_starved (Err e) P p = p
