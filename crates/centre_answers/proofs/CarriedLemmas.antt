-- What carries an order: what is written, or replaces something, is the current version of a warning in the book, and
-- what is killed is a version of one, so each has its content.
use Rattle.std.proofs.Common.{◌≡◌, ℕ, Bool, true, false, ◌||◌, nat_eq, List, [], ◌∷◌, ◌++◌, Option, Some, None, cond, is_some, map, refl, sym, ◌∙◌, ap, arith}
use Rattle.std.specs.Prelude.{find, IfSome, if◌then◌else◌}
use Rattle.std.specs.List.{list_any, list_all, flat_map}
use Rattle.std.specs.Option.{option_map}
use Rattle.std.proofs.lemmas.Bool.{and_parts, and_from, or_right}
use Rattle.std.proofs.lemmas.Grind.{common_steps}
use Rattle.std.proofs.lemmas.Bool.Decides.{nat_tests}
use Rattle.std.proofs.lemmas.List.Folds.{list_any-append}
use Rattle.common.specs.declared.cell.Cell.{Cell}
use Rattle.warning_book.specs.Book.{State, current_of, versions_if, versions_with, content_of}
use Rattle.warning_book.specs.VersionLaws.{current_among}
use Rattle.warning_book.specs.declared.content.Content.{Content}
use Rattle.warning_book.specs.declared.version.Version.{Version}
use Rattle.warning_book.specs.declared.warning.Warning.{Warning}
use Rattle.order_maker.specs.Actions.{in_cell, deed, needs, replaced, is_to_kill, fresh_kind, fresh, kills}
use Rattle.order_maker.specs.Grouping.{first}
use Rattle.centre_events.specs.Lines.{seen}
use Rattle.centre_events.specs.OrderMessage.{IsCarriable}
use Rattle.centre_events.specs.Past.{Past}
use Rattle.centre_events.specs.Pending.{actions, actions_in, pending}
use Rattle.centre_events.specs.Places.{cells}
use Rattle.centre_events.specs.Plan.{wants, wanted}
use Rattle.mirror.specs.Seen.{Seen}
use Rattle.centre_events.specs.Warnings.{book_of, warnings_of, serials}
use Rattle.order_maker.specs.declared.action.Action.{Action}
use Rattle.order_maker.specs.declared.order.Order.{Order}
use Rattle.order_maker.specs.declared.order_kind.OrderKind.{OrderKind}
use Rattle.order_maker.specs.declared.order_kind.OrderKind.TheVariants.{Kill}
use Rattle.centre_past.proofs.AnyLemmas.{all_joined}
use Rattle.centre_past.proofs.GroupingLemmas.{all_pending}
use Rattle.centre_events.proofs.PastLemmas.{map_joined}

-- contents of the book

mapped_find : {X Y : Type 0} (f : X → Y) (p : X → Bool) (xs : List X) → is_some (option_map f (find p xs)) ≡ list_any p xs
mapped_find f p [] = refl
mapped_find {X} {Y} f p (x ∷ xs) = step (mapped_find f p xs) (p x)
  where
    step : is_some (option_map f (find p xs)) ≡ list_any p xs → (t : Bool) → is_some (option_map f (cond t (Some x) (find p xs))) ≡ (t || list_any p xs)
    step rest true = refl
    step rest false = rest

abbrev has_content : List Warning → ℕ → ℕ → Bool
has_content ws m s = is_some (content_of m s ws)

-- with one more warning
content_more : (m s : ℕ) (w : Warning) (ws : List Warning) → has_content (w ∷ ws) m s ≡ (list_any (λ v. nat_eq v.serial s) (versions_if m w) || has_content ws m s)
content_more m s w ws =
    mapped_find (λ v. v.content) (λ v. nat_eq v.serial s) (versions_if m w ++ versions_with m ws)
    ∙ list_any-append (λ v. nat_eq v.serial s) (versions_if m w) (versions_with m ws)
    ∙ ap (λ t. list_any (λ v. nat_eq v.serial s) (versions_if m w) || t) (sym (mapped_find (λ v. v.content) (λ v. nat_eq v.serial s) (versions_with m ws)))

same_number : (n : ℕ) → nat_eq n n ≡ true
same_number n = grind (arith, nat_tests, common_steps)

-- what is so of the value, if there is one
abbrev all_some : (ℕ → Bool) → Option ℕ → Bool
all_some p None = true
all_some p (Some s) = p s

-- the content of a warning's current version, if it has one
abbrev current_has : List Warning → Warning → Bool
current_has ws w = all_some (λ s. has_content ws w.message_id s) (current_of w)

in_own : (w : Warning) (s : ℕ) → current_of w ≡ Some s → list_any (λ v. nat_eq v.serial s) (versions_if w.message_id w) ≡ true
in_own w s h = rw (same_number w.message_id) (current_among w s h)

own_has : (ws : List Warning) (w : Warning) (o : Option ℕ) → current_of w ≡ o → all_some (λ s. has_content (w ∷ ws) w.message_id s) o ≡ true
own_has ws w None e = refl
own_has ws w (Some s) e = content_more w.message_id s w ws ∙ ap (λ t. t || has_content ws w.message_id s) (in_own w s e)

still_has : (ws : List Warning) (w v : Warning) (o : Option ℕ) → all_some (λ s. has_content ws v.message_id s) o ≡ true → all_some (λ s. has_content (w ∷ ws) v.message_id s) o ≡ true
still_has ws w v None h = refl
still_has ws w v (Some s) h = content_more v.message_id s w ws ∙ or_right (list_any (λ u. nat_eq u.serial s) (versions_if v.message_id w)) (has_content ws v.message_id s) h

-- the current version of each warning in the book
each_has : (ws : List Warning) → list_all (current_has ws) ws ≡ true
each_has [] = refl
each_has (w ∷ ws) =
    and_from (current_has (w ∷ ws) w) (list_all (current_has (w ∷ ws)) ws) (own_has ws w (current_of w) refl) (still ws (each_has ws))
  where
    still : (vs : List Warning) → list_all (current_has ws) vs ≡ true → list_all (current_has (w ∷ ws)) vs ≡ true
    still [] h = refl
    still (v ∷ vs) h =
        let parts = and_parts (current_has ws v) (list_all (current_has ws) vs) h in
        and_from (current_has (w ∷ ws) v) (list_all (current_has (w ∷ ws)) vs) (still_has ws w v (current_of v) parts.0) (still vs parts.1)

-- the contents of a warning's versions

abbrev versions_have : List Warning → Warning → Bool
versions_have ws w = list_all (has_content ws w.message_id) (serials w)

all_or : (p q : ℕ → Bool) (xs : List ℕ) → list_all q xs ≡ true → list_all (λ x. p x || q x) xs ≡ true
all_or p q [] h = refl
all_or p q (x ∷ xs) h =
    let parts = and_parts (q x) (list_all q xs) h in
    and_from (p x || q x) (list_all (λ y. p y || q y) xs) (or_right (p x) (q x) parts.0) (all_or p q xs parts.1)

-- each version is among the versions
each_there : (vs : List Version) → list_all (λ s. list_any (λ v. nat_eq v.serial s) vs) (map (λ v. v.serial) vs) ≡ true
each_there [] = refl
each_there (v ∷ vs) =
    and_from (nat_eq v.serial v.serial || list_any (λ u. nat_eq u.serial v.serial) vs) (list_all (λ s. nat_eq v.serial s || list_any (λ u. nat_eq u.serial s) vs) (map (λ u. u.serial) vs))
    (ap (λ t. t || list_any (λ u. nat_eq u.serial v.serial) vs) (same_number v.serial))
    (all_or (λ s. nat_eq v.serial s) (λ s. list_any (λ u. nat_eq u.serial s) vs) (map (λ u. u.serial) vs) (each_there vs))

own_all : (ws : List Warning) (w : Warning) (ts : List ℕ) → list_all (λ s. list_any (λ v. nat_eq v.serial s) (versions_if w.message_id w)) ts ≡ true → list_all (has_content (w ∷ ws) w.message_id) ts ≡ true
own_all ws w [] h = refl
own_all ws w (t ∷ ts) h =
    let parts = and_parts (list_any (λ v. nat_eq v.serial t) (versions_if w.message_id w)) (list_all (λ s. list_any (λ v. nat_eq v.serial s) (versions_if w.message_id w)) ts) h in
    and_from (has_content (w ∷ ws) w.message_id t) (list_all (has_content (w ∷ ws) w.message_id) ts)
    (content_more w.message_id t w ws ∙ ap (λ u. u || has_content ws w.message_id t) parts.0) (own_all ws w ts parts.1)

own_versions : (ws : List Warning) (w : Warning) → versions_have (w ∷ ws) w ≡ true
own_versions ws w = own_all ws w (serials w) (rw (same_number w.message_id) (each_there w.versions))

still_all : (ws : List Warning) (w : Warning) (m : ℕ) (ts : List ℕ) → list_all (has_content ws m) ts ≡ true → list_all (has_content (w ∷ ws) m) ts ≡ true
still_all ws w m [] h = refl
still_all ws w m (t ∷ ts) h =
    let parts = and_parts (has_content ws m t) (list_all (has_content ws m) ts) h in
    and_from (has_content (w ∷ ws) m t) (list_all (has_content (w ∷ ws) m) ts)
    (content_more m t w ws ∙ or_right (list_any (λ u. nat_eq u.serial t) (versions_if m w)) (has_content ws m t) parts.0) (still_all ws w m ts parts.1)

-- the versions of each warning in the book
each_version : (ws : List Warning) → list_all (versions_have ws) ws ≡ true
each_version [] = refl
each_version (w ∷ ws) =
    and_from (versions_have (w ∷ ws) w) (list_all (versions_have (w ∷ ws)) ws) (own_versions ws w) (still ws (each_version ws))
  where
    still : (vs : List Warning) → list_all (versions_have ws) vs ≡ true → list_all (versions_have (w ∷ ws)) vs ≡ true
    still [] h = refl
    still (v ∷ vs) h =
        let parts = and_parts (versions_have ws v) (list_all (versions_have ws) vs) h in
        and_from (versions_have (w ∷ ws) v) (list_all (versions_have (w ∷ ws)) vs) (still_all ws w v.message_id (serials v) parts.0) (still vs parts.1)

-- an order has a content
abbrev carries : List Warning → OrderKind → ℕ → ℕ → Bool
carries ws kind m s = has_content ws m s

abbrev action_carries : List Warning → Action → Bool
action_carries ws a = carries ws a.kind a.message_id a.serial

abbrev order_carries : List Warning → Order → Bool
order_carries ws order = carries ws order.kind order.message_id order.serial

-- actions

kills_carry : (ws : List Warning) (v : Seen) (c : Cell) (ts : List ℕ) → list_all (has_content ws v.message_id) ts ≡ true → list_all (action_carries ws) (map (in_cell c) (kills v ts)) ≡ true
kills_carry ws v c [] h = refl
kills_carry ws v c (t ∷ ts) h = step (kills_carry ws v c ts parts.1) (is_to_kill v t)
  where
    parts : (has_content ws v.message_id t ≡ true) × (list_all (has_content ws v.message_id) ts ≡ true)
    parts = and_parts (has_content ws v.message_id t) (list_all (has_content ws v.message_id) ts) h

    step : list_all (action_carries ws) (map (in_cell c) (kills v ts)) ≡ true → (u : Bool) → list_all (action_carries ws) (map (in_cell c) ((if u then deed v Kill t ∷ [] else []) ++ kills v ts)) ≡ true
    step rest true = and_from (has_content ws v.message_id t) (list_all (action_carries ws) (map (in_cell c) (kills v ts))) parts.0 rest
    step rest false = rest

fresh_carry : (ws : List Warning) (v : Seen) (c : Cell) (o : Option ℕ) → all_some (λ s. has_content ws v.message_id s) o ≡ true → list_all (action_carries ws) (map (in_cell c) (fresh v o)) ≡ true
fresh_carry ws v c None h = refl
fresh_carry ws v c (Some s) h = step (needs v s)
  where
    step : (t : Bool) → list_all (action_carries ws) (map (in_cell c) (if t then deed v (fresh_kind (replaced v s)) s ∷ [] else [])) ≡ true
    step true = and_from (has_content ws v.message_id s) true h refl
    step false = refl

-- what is wanted is the current version
wanted_has : (ws : List Warning) (past : Past) (b : ℕ) (w : Warning) (c : Cell) → current_has ws w ≡ true → all_some (λ s. has_content ws w.message_id s) (wanted past b w c) ≡ true
wanted_has ws past b w c h = step (wants past b w c)
  where
    step : (t : Bool) → all_some (λ s. has_content ws w.message_id s) (if t then current_of w else None) ≡ true
    step true = h
    step false = refl

in_carry : (ws : List Warning) (past : Past) (b : ℕ) (w : Warning) (cs : List Cell) → current_has ws w ≡ true → versions_have ws w ≡ true → list_all (action_carries ws) (actions_in past b cs w) ≡ true
in_carry ws past b w [] h k = refl
in_carry ws past b w (c ∷ cs) h k =
    all_joined (action_carries ws) (actions past b w c) (actions_in past b cs w)
    (ap (list_all (action_carries ws)) (map_joined (in_cell c) (fresh (seen past b w c) (wanted past b w c)) (kills (seen past b w c) (serials w)))
    ∙ all_joined (action_carries ws) (map (in_cell c) (fresh (seen past b w c) (wanted past b w c))) (map (in_cell c) (kills (seen past b w c) (serials w)))
    (fresh_carry ws (seen past b w c) c (wanted past b w c) (wanted_has ws past b w c h)) (kills_carry ws (seen past b w c) c (serials w) k))
    (in_carry ws past b w cs h k)

of_carry : (ws : List Warning) (past : Past) (b : ℕ) (cs : List Cell) (vs : List Warning) → list_all (current_has ws) vs ≡ true → list_all (versions_have ws) vs ≡ true → list_all (action_carries ws) (flat_map (actions_in past b cs) vs) ≡ true
of_carry ws past b cs [] h k = refl
of_carry ws past b cs (w ∷ vs) h k =
    let parts = and_parts (current_has ws w) (list_all (current_has ws) vs) h in
    let own = and_parts (versions_have ws w) (list_all (versions_have ws) vs) k in
    all_joined (action_carries ws) (actions_in past b cs w) (flat_map (actions_in past b cs) vs) (in_carry ws past b w cs parts.0 own.0) (of_carry ws past b cs vs parts.1 own.1)

-- orders

pub pending_carry : (past : Past) (b : ℕ) → list_all (λ (order : Order). is_some (content_of order.message_id order.serial (warnings_of past))) (pending past b) ≡ true
pending_carry past b =
    all_pending (carries (warnings_of past)) past b
    (of_carry (warnings_of past) past b (cells past) (warnings_of past) (each_has (warnings_of past)) (each_version (warnings_of past)))

-- the order can be carried
carriable : (content : Option Content) → is_some content ≡ true → IsCarriable content
carriable (Some content) h = refl
carriable None h = cc

-- the first of the orders can be carried
first_carriable : (ws : List Warning) (orders : List Order) → list_all (order_carries ws) orders ≡ true → IfSome (first orders) (λ (o : Order). IsCarriable (content_of o.message_id o.serial ws))
first_carriable ws [] h = tt
first_carriable ws (order ∷ orders) h =
    carriable (content_of order.message_id order.serial ws) (and_parts (order_carries ws order) (list_all (order_carries ws) orders) h).0

pub sent_carriable : (past : Past) (b : ℕ) (st : State) (orders : List Order) (o : Option Order) → st ≡ book_of past → orders ≡ pending past b → o ≡ first orders → IfSome o (λ (x : Order). IsCarriable (content_of x.message_id x.serial st.warnings))
sent_carriable past b st orders o is all this =
    rw (this, all, is) (first_carriable (warnings_of past) (pending past b) (pending_carry past b))
