-- What the actions of a BSC touch, line by line.
use Rattle.std.proofs.Common.{◌≡◌, ℕ, Bool, true, false, ◌&&◌, ◌||◌, not, nat_eq, List, [], ◌∷◌, Option, Some, None, refl, sym, ◌∙◌, ap, cond, map, reverse, eqb-true}
use Rattle.std.specs.Prelude.{find, if◌then◌else◌}
use Rattle.std.proofs.lemmas.Bool.{and_parts, and_from, or_right, not-true, not_from_false}
use Rattle.std.proofs.lemmas.List.Folds.{list_any-append}
use Rattle.std.specs.Cmp.{unsigned_Decides}
use Rattle.std.specs.List.{list_any}
use Rattle.common.specs.Cell.{cell_eq}
use Rattle.common.specs.Equality.{cell_decides}
use Rattle.common.specs.OnceLaws.{turned}
use Rattle.common.specs.declared.cell.Cell.{Cell}
use Rattle.warning_book.specs.declared.warning.Warning.{Warning}
use Rattle.order_maker.specs.Actions.{in_cell, deed, needs, is_replaceable, newest, replaced, replaced_for, fresh_kind, fresh, is_to_kill, kills, deeds}
use Rattle.centre_events.specs.Effects.{is_among}
use Rattle.centre_past.specs.Headline.{clears_serial}
use Rattle.centre_events.specs.InFlight.{is_kill}
use Rattle.centre_events.specs.Lines.{seen}
use Rattle.centre_events.specs.Past.{Past}
use Rattle.centre_events.specs.Pending.{actions, actions_in, all_actions}
use Rattle.centre_events.specs.Places.{cells}
use Rattle.mirror.specs.Seen.{Seen, is_absent, is_on_air, is_the}
use Rattle.centre_events.specs.Warnings.{warnings_of}
use Rattle.mirror.specs.declared.presence.Presence.{Presence}
use Rattle.mirror.specs.declared.presence.Presence.TheVariants.{Absent, OnAir, Unknown}
use Rattle.order_maker.specs.declared.deed.Deed.{Deed}
use Rattle.order_maker.specs.declared.order_kind.OrderKind.{OrderKind}
use Rattle.order_maker.specs.declared.order_kind.OrderKind.TheVariants.{Kill}
use Rattle.centre_past.proofs.AnyLemmas.{or_none, and_none, and_over_or, any_same, any_never, any_flat, any_reverse}
use Rattle.order_maker.specs.GroupingLaws.{touches}
use Rattle.centre_events.proofs.PastLemmas.{any_image}

-- what the write does, by g
abbrev pub writes_by : (OrderKind → ℕ → Bool) → Seen → Option ℕ → Bool
writes_by g v None = false
writes_by g v (Some s) = needs v s && g (fresh_kind (replaced v s)) s

-- what the actions of the line do, by g
abbrev pub does : (OrderKind → ℕ → Bool) → Seen → Bool
does g v = writes_by g v v.wanted || list_any (λ t. is_to_kill v t && g Kill t) v.versions

-- what is done in one cell touches another cell's key
abbrev at_cell : (OrderKind → ℕ → Bool) → Cell → ℕ → Cell → Deed → Bool
at_cell g c m d e = touches g c m (in_cell d e)

-- an action at the cell is found there
alone_at : (x y g : Bool) → (((x && (y || false)) && g) || false) ≡ ((x && y) && g)
alone_at true true true = refl
alone_at true true false = refl
alone_at true false g = refl
alone_at false y g = refl

any_fresh : (g : OrderKind → ℕ → Bool) (c : Cell) (m : ℕ) (v : Seen) (d : Cell) (o : Option ℕ) → list_any (at_cell g c m d) (fresh v o) ≡ ((nat_eq v.message_id m && cell_eq c d) && writes_by g v o)
any_fresh g c m v d None = sym (and_none (nat_eq v.message_id m && cell_eq c d))
any_fresh g c m v d (Some s) = step (needs v s) refl
  where
    step : (t : Bool) → needs v s ≡ t → list_any (at_cell g c m d) (if t then deed v (fresh_kind (replaced v s)) s ∷ [] else []) ≡ ((nat_eq v.message_id m && cell_eq c d) && (t && g (fresh_kind (replaced v s)) s))
    step true h = alone_at (nat_eq v.message_id m) (cell_eq c d) (g (fresh_kind (replaced v s)) s)
    step false h = sym (and_none (nat_eq v.message_id m && cell_eq c d))

one_kill : (x y g r : Bool) → (((x && (y || false)) && g) || ((x && y) && r)) ≡ ((x && y) && (g || r))
one_kill true true g r = refl
one_kill true false g r = refl
one_kill false y g r = refl

any_kills : (g : OrderKind → ℕ → Bool) (c : Cell) (m : ℕ) (v : Seen) (d : Cell) (ts : List ℕ) → list_any (at_cell g c m d) (kills v ts) ≡ ((nat_eq v.message_id m && cell_eq c d) && list_any (λ t. is_to_kill v t && g Kill t) ts)
any_kills g c m v d [] = sym (and_none (nat_eq v.message_id m && cell_eq c d))
any_kills g c m v d (t ∷ ts) = step (any_kills g c m v d ts) (is_to_kill v t) refl
  where
    step : list_any (at_cell g c m d) (kills v ts) ≡ ((nat_eq v.message_id m && cell_eq c d) && list_any (λ u. is_to_kill v u && g Kill u) ts) → (k : Bool) → is_to_kill v t ≡ k → list_any (at_cell g c m d) (kills v (t ∷ ts)) ≡ ((nat_eq v.message_id m && cell_eq c d) && list_any (λ u. is_to_kill v u && g Kill u) (t ∷ ts))
    step rest true h =
        rw h (ap (λ u. at_cell g c m d (deed v Kill t) || u) rest
        ∙ one_kill (nat_eq v.message_id m) (cell_eq c d) (g Kill t) (list_any (λ u. is_to_kill v u && g Kill u) ts))
    step rest false h = rw h rest

pub any_deeds : (g : OrderKind → ℕ → Bool) (c : Cell) (m : ℕ) (v : Seen) (d : Cell) → list_any (touches g c m) (map (in_cell d) (deeds v)) ≡ ((nat_eq v.message_id m && cell_eq c d) && does g v)
any_deeds g c m v d =
    any_image (touches g c m) (in_cell d) (deeds v)
    ∙ list_any-append (at_cell g c m d) (fresh v v.wanted) (kills v v.versions)
    ∙ ap (λ t. t || list_any (at_cell g c m d) (kills v v.versions)) (any_fresh g c m v d v.wanted)
    ∙ ap (λ t. ((nat_eq v.message_id m && cell_eq c d) && writes_by g v v.wanted) || t) (any_kills g c m v d v.versions)
    ∙ and_over_or (nat_eq v.message_id m && cell_eq c d) (writes_by g v v.wanted) (list_any (λ t. is_to_kill v t && g Kill t) v.versions)

-- only the actions at the cell count
any_in : (g : OrderKind → ℕ → Bool) (c : Cell) (m : ℕ) (past : Past) (b : ℕ) (w : Warning) (cs : List Cell) → list_any (touches g c m) (actions_in past b cs w) ≡ (nat_eq w.message_id m && (is_among c cs && does g (seen past b w c)))
any_in g c m past b w [] = sym (and_none (nat_eq w.message_id m))
any_in g c m past b w (d ∷ ds) =
    list_any-append (touches g c m) (actions past b w d) (actions_in past b ds w)
    ∙ ap (λ t. t || list_any (touches g c m) (actions_in past b ds w)) (any_deeds g c m (seen past b w d) d)
    ∙ ap (λ t. ((nat_eq w.message_id m && cell_eq c d) && does g (seen past b w d)) || t) (any_in g c m past b w ds)
    ∙ step (cell_eq c d) refl
  where
    table : (x z e : Bool) → (((x && true) && e) || (x && (z && e))) ≡ (x && e)
    table true true true = refl
    table true true false = refl
    table true false true = refl
    table true false false = refl
    table false z e = refl

    other : (x z e f : Bool) → (((x && false) && e) || (x && (z && f))) ≡ (x && (z && f))
    other true z e f = refl
    other false z e f = refl

    step : (t : Bool) → cell_eq c d ≡ t → (((nat_eq w.message_id m && cell_eq c d) && does g (seen past b w d)) || (nat_eq w.message_id m && (is_among c ds && does g (seen past b w c)))) ≡ (nat_eq w.message_id m && ((cell_eq c d || is_among c ds) && does g (seen past b w c)))
    step true h =
        let same : c ≡ d = (cell_decides c d).0 h in
        ap (λ t. ((nat_eq w.message_id m && t) && does g (seen past b w d)) || (nat_eq w.message_id m && (is_among c ds && does g (seen past b w c)))) h
        ∙ ap (λ (k : Cell). ((nat_eq w.message_id m && true) && does g (seen past b w k)) || (nat_eq w.message_id m && (is_among c ds && does g (seen past b w c)))) (sym same)
        ∙ table (nat_eq w.message_id m) (is_among c ds) (does g (seen past b w c))
        ∙ ap (λ t. nat_eq w.message_id m && ((t || is_among c ds) && does g (seen past b w c))) (sym h)
    step false h =
        ap (λ t. ((nat_eq w.message_id m && t) && does g (seen past b w d)) || (nat_eq w.message_id m && (is_among c ds && does g (seen past b w c)))) h
        ∙ other (nat_eq w.message_id m) (is_among c ds) (does g (seen past b w d)) (does g (seen past b w c))
        ∙ ap (λ t. nat_eq w.message_id m && ((t || is_among c ds) && does g (seen past b w c))) (sym h)

-- the actions of a BSC touch the cell where those of one warning do
pub any_all : (g : OrderKind → ℕ → Bool) (c : Cell) (m : ℕ) (past : Past) (b : ℕ) → list_any (touches g c m) (all_actions past b) ≡ list_any (λ w. nat_eq w.message_id m && (is_among c (cells past) && does g (seen past b w c))) (warnings_of past)
any_all g c m past b =
    any_flat (touches g c m) (actions_in past b (cells past)) (warnings_of past)
    ∙ any_same (λ w. list_any (touches g c m) (actions_in past b (cells past) w)) (λ w. nat_eq w.message_id m && (is_among c (cells past) && does g (seen past b w c))) (λ w. any_in g c m past b w (cells past)) (warnings_of past)

-- an order puts the key of that serial number on air
abbrev pub airing : ℕ → OrderKind → ℕ → Bool
airing s kind t = not (is_kill kind) && nat_eq t s

-- an order takes the key of that serial number off the air
abbrev pub clearing : ℕ → OrderKind → ℕ → Bool
clearing s kind t = clears_serial kind t s

-- what is fresh is no kill
fresh_airs : (o : Option ℕ) (t s : ℕ) → (not (is_kill (fresh_kind o)) && nat_eq t s) ≡ nat_eq t s
fresh_airs None t s = refl
fresh_airs (Some old) t s = refl

writes_airing : (v : Seen) (s : ℕ) (o : Option ℕ) → writes_by (airing s) v o ≡ (is_the o s && needs v s)
writes_airing v s None = refl
writes_airing v s (Some t) = ap (λ u. needs v t && u) (fresh_airs (replaced v t) t s) ∙ step (nat_eq t s) refl
  where
    turn : (a : Bool) → (a && true) ≡ a
    turn true = refl
    turn false = refl

    step : (u : Bool) → nat_eq t s ≡ u → (needs v t && nat_eq t s) ≡ (nat_eq t s && needs v s)
    step true e = ap (λ u. needs v t && u) e ∙ turn (needs v t) ∙ ap (needs v) (eqb-true t s e) ∙ sym (ap (λ u. u && needs v s) e)
    step false e = ap (λ u. needs v t && u) e ∙ and_none (needs v t) ∙ sym (ap (λ u. u && needs v s) e)

-- the actions put the wanted key on air where it is to be written, and no other
pub does_airing : (v : Seen) (s : ℕ) → does (airing s) v ≡ (is_the v.wanted s && needs v s)
does_airing v s =
    ap (λ t. writes_by (airing s) v v.wanted || t)
    (any_same (λ t. is_to_kill v t && false) (λ t. false) (λ t. and_none (is_to_kill v t)) v.versions ∙ any_never v.versions)
    ∙ or_none (writes_by (airing s) v v.wanted)
    ∙ writes_airing v s v.wanted

-- the serial number is one of the list
abbrev pub has_serial : ℕ → List ℕ → Bool
has_serial s ts = list_any (λ t. nat_eq t s) ts

any_serial : (k : ℕ → Bool) (s : ℕ) (ts : List ℕ) → list_any (λ t. k t && nat_eq t s) ts ≡ (has_serial s ts && k s)
any_serial k s [] = refl
any_serial k s (t ∷ ts) = ap (λ u. (k t && nat_eq t s) || u) (any_serial k s ts) ∙ step (nat_eq t s) refl
  where
    table : (x r : Bool) → ((x && true) || (r && x)) ≡ x
    table true r = refl
    table false true = refl
    table false false = refl

    step : (u : Bool) → nat_eq t s ≡ u → ((k t && nat_eq t s) || (has_serial s ts && k s)) ≡ ((nat_eq t s || has_serial s ts) && k s)
    step true h =
        ap (λ u. (k t && u) || (has_serial s ts && k s)) h
        ∙ ap (λ n. (k n && true) || (has_serial s ts && k s)) (eqb-true t s h)
        ∙ table (k s) (has_serial s ts)
        ∙ ap (λ u. (u || has_serial s ts) && k s) (sym h)
    step false h =
        ap (λ u. (k t && u) || (has_serial s ts && k s)) h
        ∙ ap (λ u. u || (has_serial s ts && k s)) (and_none (k t))
        ∙ ap (λ u. (u || has_serial s ts) && k s) (sym h)

-- a fresh order clears what it replaces
fresh_clears : (o : Option ℕ) (t s : ℕ) → clears_serial (fresh_kind o) t s ≡ is_the o s
fresh_clears None t s = refl
fresh_clears (Some old) t s = refl

writes_clearing : (v : Seen) (s : ℕ) (o : Option ℕ) → writes_by (clearing s) v o ≡ is_the (replaced_for v o) s
writes_clearing v s None = refl
writes_clearing v s (Some t) = ap (λ u. needs v t && u) (fresh_clears (replaced v t) t s) ∙ step (needs v t)
  where
    step : (u : Bool) → (u && is_the (replaced v t) s) ≡ is_the (if u then replaced v t else None) s
    step true = refl
    step false = refl

-- what is found is one of the list, and passes
pub found_serial : (p : ℕ → Bool) (s : ℕ) (ts : List ℕ) → is_the (find p ts) s ≡ true → (has_serial s ts ≡ true) × (p s ≡ true)
found_serial p s [] h = cc
found_serial p s (t ∷ ts) h = step (found_serial p s ts) (p t) refl h
  where
    step : (is_the (find p ts) s ≡ true → (has_serial s ts ≡ true) × (p s ≡ true)) → (u : Bool) → p t ≡ u → is_the (cond u (Some t) (find p ts)) s ≡ true → ((nat_eq t s || has_serial s ts) ≡ true) × (p s ≡ true)
    step known true f g = (ap (λ u. u || has_serial s ts) g, ap p (sym (eqb-true t s g)) ∙ f)
    step known false f g = let rest = known g in (or_right (nat_eq t s) (has_serial s ts) rest.0, rest.1)

-- a version that is on air, or may be, is not wanted, and can be ordered off
abbrev pub is_surplus : Seen → ℕ → Bool
is_surplus v s = not v.down && (not (is_the v.wanted s) && (not (v.is_held s) && not (is_absent (v.presence s))))

on_air_present : (p : Presence) → is_on_air p ≡ true → is_absent p ≡ false
on_air_present Absent h = cc
on_air_present OnAir h = refl
on_air_present Unknown h = refl

-- what is replaced is another version, which is on air
replaced_is : (v : Seen) (s : ℕ) (o : Option ℕ) → v.wanted ≡ o → is_the (replaced_for v o) s ≡ true → (has_serial s v.versions ≡ true) × (is_surplus v s ≡ true)
replaced_is v s None w h = cc
replaced_is v s (Some t) w h = step (needs v t) refl (is_absent (v.presence t)) refl h
  where
    step : (n : Bool) → needs v t ≡ n → (a : Bool) → is_absent (v.presence t) ≡ a → is_the (if n then (if a then newest (is_replaceable v t) v.versions else None) else None) s ≡ true → (has_serial s v.versions ≡ true) × (is_surplus v s ≡ true)
    step true e true f g =
        let found = found_serial (is_replaceable v t) s (reverse v.versions) g in
        let up = (and_parts (not v.down) (not (v.is_held t) && not (is_on_air (v.presence t))) e).0 in
        let parts = and_parts (not (nat_eq s t)) (is_on_air (v.presence s) && not (v.is_held s)) found.1 in
        let there = and_parts (is_on_air (v.presence s)) (not (v.is_held s)) parts.1 in
        let present : is_absent (v.presence s) ≡ false = on_air_present (v.presence s) there.0 in
        let another : is_the v.wanted s ≡ false = ap (λ k. is_the k s) w ∙ turned nat_eq unsigned_Decides t s ∙ not-true (nat_eq s t) parts.0 in (
          sym (any_reverse (λ k. nat_eq k s) v.versions) ∙ found.0,
          and_from (not v.down) (not (is_the v.wanted s) && (not (v.is_held s) && not (is_absent (v.presence s)))) up
              (and_from (not (is_the v.wanted s)) (not (v.is_held s) && not (is_absent (v.presence s))) (not_from_false (is_the v.wanted s) another)
              (and_from (not (v.is_held s)) (not (is_absent (v.presence s))) there.1 (not_from_false (is_absent (v.presence s)) present))),
        )
    step true e false f g = cc
    step false e a f g = cc

-- the orders clear a version just where it is surplus, be it replaced or killed
pub does_clearing : (v : Seen) (s : ℕ) → does (clearing s) v ≡ (has_serial s v.versions && is_surplus v s)
does_clearing v s =
    ap (λ t. t || list_any (λ t. is_to_kill v t && nat_eq t s) v.versions) (writes_clearing v s v.wanted)
    ∙ ap (λ t. is_the (replaced_for v v.wanted) s || t) (any_serial (is_to_kill v) s v.versions)
    ∙ step (is_the (replaced_for v v.wanted) s) refl
  where
    last : (a : Bool) → (a && true) ≡ a
    last true = refl
    last false = refl

    -- where nothing is replaced there
    without : (x d n k p : Bool) → (x && (d && (n && (k && (p && true))))) ≡ (x && (d && (n && (k && p))))
    without x d n k p = ap (λ t. x && (d && (n && (k && t)))) (last p)

    -- where the version is replaced there
    here : (x y z : Bool) → x ≡ true → y ≡ true → (true || (x && z)) ≡ (x && y)
    here x y z e f = sym (ap (λ t. t && y) e ∙ f)

    step : (t : Bool) → is_the (replaced_for v v.wanted) s ≡ t → (is_the (replaced_for v v.wanted) s || (has_serial s v.versions && (not v.down && (not (is_the v.wanted s) && (not (v.is_held s) && (not (is_absent (v.presence s)) && not (is_the (replaced_for v v.wanted) s))))))) ≡ (has_serial s v.versions && is_surplus v s)
    step true e =
        let is = replaced_is v s v.wanted refl e in
        ap (λ t. t || (has_serial s v.versions && is_to_kill v s)) e ∙ here (has_serial s v.versions) (is_surplus v s) (is_to_kill v s) is.0 is.1
    step false e = rw e (without (has_serial s v.versions) (not v.down) (not (is_the v.wanted s)) (not (v.is_held s)) (not (is_absent (v.presence s))))
