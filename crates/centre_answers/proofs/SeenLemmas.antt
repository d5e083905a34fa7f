-- What is read of a line in the tables and in the past: where the two say the same of each version of the warning, the
-- same is to be ordered on the line, and the same is counted of it.
use Rattle.std.proofs.Common.{◌≡◌, ℕ, ◌+◌, Bool, true, false, ◌&&◌, ◌||◌, not, nat_eq, List, [], ◌∷◌, ◌++◌, Option, Some, None, reverse, filter, cond, refl, sym, ◌∙◌, ap, eq-eqb}
use Rattle.std.specs.Prelude.{bytes_eq, find, if◌then◌else◌}
use Rattle.std.specs.List.{list_any}
use Rattle.std.specs.Option.{is_some}
use Rattle.std.proofs.Math.Bool.{and-true}
use Rattle.std.proofs.lemmas.Bool.{or_left, or_right}
use Rattle.std.proofs.lemmas.Slice.Eq.{bytes_eq-Decides}
use Rattle.cell_register.specs.Register.{is_place}
use Rattle.common.specs.OnceLaws.{any_filter_same}
use Rattle.common.specs.Sums.{one, sum_of}
use Rattle.common.specs.declared.cell.Cell.{Cell}
use Rattle.coverage_board.specs.Parts.{has_areas, has_area, without_left, part_where}
use Rattle.coverage_board.specs.Standings.{Stand, standing, is_unwanted, is_left, is_way, stands}
use Rattle.coverage_board.specs.declared.numbers.Numbers.{Numbers}
use Rattle.coverage_board.specs.declared.way.Way.{Way}
use Rattle.coverage_board.specs.declared.way.Way.TheVariants.{Awaited, OnAir, Failed, Left}
use Rattle.kept_tables.specs.Facts.{seen_of, stand_of, deeds_of, total_of_line, area_of_line}
use Rattle.kept_tables.specs.declared.line_facts.LineFacts.{LineFacts}
use Rattle.mirror.specs.Line.{state_of}
use Rattle.mirror.specs.Seen.{Seen, is_absent, is_on_air, is_the}
use Rattle.mirror.specs.declared.key_state.KeyState.{KeyState}
use Rattle.mirror.specs.declared.line_key.LineKey.{LineKey}
use Rattle.mirror.specs.declared.presence.Presence.{Presence}
use Rattle.order_maker.specs.Actions.{needs, is_replaceable, newest, replaced, replaced_for, fresh_kind, deed, fresh, is_to_kill, kills, deeds}
use Rattle.order_maker.specs.declared.order_kind.OrderKind.TheVariants.{Kill}
use Rattle.warning_book.specs.Book.{names, warning_of}
use Rattle.warning_book.specs.declared.warning.Warning.{Warning}
use Rattle.centre_events.specs.Counts.{count}
use Rattle.centre_events.specs.Cover.{covers, is_covered}
use Rattle.centre_events.specs.Facts.{key_state, line_of}
use Rattle.centre_past.specs.Facts.{facts_of, facts}
use Rattle.centre_past.specs.Legal.{Legal}
use Rattle.centre_events.specs.Lines.{seen, stand}
use Rattle.centre_past.specs.Numbers.{broadcasts_in, area_broadcasts_in}
use Rattle.centre_events.specs.Past.{Past}
use Rattle.centre_events.specs.Places.{place}
use Rattle.centre_events.specs.Presence.{presence, is_held}
use Rattle.centre_events.specs.Warnings.{book_of, serials}
use Rattle.centre_events.specs.declared.settings.Settings.{Settings}
use Rattle.centre_past.proofs.AnyLemmas.{and_none, any_implies, any_reverse}
use Rattle.centre_past.proofs.LineLemmas.{covered_by}
use Rattle.centre_past.proofs.OwnedLemmas.{turned_any, wanted_among}
use Rattle.centre_past.proofs.VersionLemmas.{legal_updates, version_state_is}

-- Two that say the same of each version.

-- with other presences and holds
abbrev pub with_keys : Seen → (ℕ → Presence) → (ℕ → Bool) → Seen
with_keys v p h = record v { presence = p; is_held = h }

-- of each version these presences and holds say what the first does; what is wanted is a version
pub record Agrees (v : Seen) (p : ℕ → Presence) (h : ℕ → Bool) : Type 0 where
  pub present : (s : ℕ) → list_any (nat_eq s) v.versions ≡ true → v.presence s ≡ p s
  pub held : (s : ℕ) → list_any (nat_eq s) v.versions ≡ true → v.is_held s ≡ h s
  pub among : (s : ℕ) → v.wanted ≡ Some s → list_any (nat_eq s) v.versions ≡ true

-- tests that agree on a list find the same
find_same : (p q : ℕ → Bool) (xs : List ℕ) → ((s : ℕ) → list_any (nat_eq s) xs ≡ true → p s ≡ q s) → find p xs ≡ find q xs
find_same p q [] e = refl
find_same p q (x ∷ xs) e =
    ap (λ t. cond t (Some x) (find p xs)) (e x (or_left (nat_eq x x) (list_any (nat_eq x) xs) (eq-eqb x x refl)))
    ∙ ap (λ o. cond (q x) (Some x) o) (find_same p q xs (λ s h. e s (or_right (nat_eq s x) (list_any (nat_eq s) xs) h)))

any_of : (p q : ℕ → Bool) (xs : List ℕ) → ((s : ℕ) → list_any (nat_eq s) xs ≡ true → p s ≡ q s) → list_any p xs ≡ list_any q xs
any_of p q [] e = refl
any_of p q (x ∷ xs) e =
    ap (λ t. t || list_any p xs) (e x (or_left (nat_eq x x) (list_any (nat_eq x) xs) (eq-eqb x x refl)))
    ∙ ap (λ t. q x || t) (any_of p q xs (λ s h. e s (or_right (nat_eq s x) (list_any (nat_eq s) xs) h)))

needs_same : (v : Seen) (p : ℕ → Presence) (h : ℕ → Bool) → Agrees v p h → (s : ℕ) → list_any (nat_eq s) v.versions ≡ true → needs v s ≡ needs (with_keys v p h) s
needs_same v p h is s there = λ i. not v.down && (not (is.held s there i) && not (is_on_air (is.present s there i)))

newest_same : (v : Seen) (p : ℕ → Presence) (h : ℕ → Bool) → Agrees v p h → (s : ℕ) → newest (is_replaceable v s) v.versions ≡ newest (is_replaceable (with_keys v p h) s) v.versions
newest_same v p h is s = find_same (is_replaceable v s) (is_replaceable (with_keys v p h) s) (reverse v.versions) (λ t g. each t (sym (any_reverse (nat_eq t) v.versions) ∙ g))
  where
    each : (t : ℕ) → list_any (nat_eq t) v.versions ≡ true → is_replaceable v s t ≡ is_replaceable (with_keys v p h) s t
    each t there = λ i. not (nat_eq t s) && (is_on_air (is.present t there i) && not (is.held t there i))

replaced_same : (v : Seen) (p : ℕ → Presence) (h : ℕ → Bool) → Agrees v p h → (s : ℕ) → list_any (nat_eq s) v.versions ≡ true → replaced v s ≡ replaced (with_keys v p h) s
replaced_same v p h is s there = λ i. if is_absent (is.present s there i) then newest_same v p h is s i else None

replaced_for_same : (v : Seen) (p : ℕ → Presence) (h : ℕ → Bool) → Agrees v p h → (o : Option ℕ) → ((s : ℕ) → o ≡ Some s → list_any (nat_eq s) v.versions ≡ true) → replaced_for v o ≡ replaced_for (with_keys v p h) o
replaced_for_same v p h is None among = refl
replaced_for_same v p h is (Some s) among = λ i. if needs_same v p h is s (among s refl) i then replaced_same v p h is s (among s refl) i else None

fresh_same : (v : Seen) (p : ℕ → Presence) (h : ℕ → Bool) → Agrees v p h → (o : Option ℕ) → ((s : ℕ) → o ≡ Some s → list_any (nat_eq s) v.versions ≡ true) → fresh v o ≡ fresh (with_keys v p h) o
fresh_same v p h is None among = refl
fresh_same v p h is (Some s) among =
    λ i. if needs_same v p h is s (among s refl) i then deed v (fresh_kind (replaced_same v p h is s (among s refl) i)) s ∷ [] else []

kill_same : (v : Seen) (p : ℕ → Presence) (h : ℕ → Bool) → Agrees v p h → (t : ℕ) → list_any (nat_eq t) v.versions ≡ true → is_to_kill v t ≡ is_to_kill (with_keys v p h) t
kill_same v p h is t there =
    λ i. not v.down && (not (is_the v.wanted t) && (not (is.held t there i) && (not (is_absent (is.present t there i)) && not (is_the (replaced_for_same v p h is v.wanted is.among i) t))))

kills_same : (v : Seen) (p : ℕ → Presence) (h : ℕ → Bool) → Agrees v p h → (ts : List ℕ) → ((t : ℕ) → list_any (nat_eq t) ts ≡ true → list_any (nat_eq t) v.versions ≡ true) → kills v ts ≡ kills (with_keys v p h) ts
kills_same v p h is [] among = refl
kills_same v p h is (t ∷ ts) among =
    λ i. (if kill_same v p h is t here i then deed v Kill t ∷ [] else []) ++ kills_same v p h is ts (λ s g. among s (or_right (nat_eq s t) (list_any (nat_eq s) ts) g)) i
  where
    here : list_any (nat_eq t) v.versions ≡ true
    here = among t (or_left (nat_eq t t) (list_any (nat_eq t) ts) (eq-eqb t t refl))

-- the same is to be ordered
pub deeds_same : (v : Seen) (p : ℕ → Presence) (h : ℕ → Bool) → Agrees v p h → deeds v ≡ deeds (with_keys v p h)
deeds_same v p h is =
    λ i. fresh_same v p h is v.wanted is.among i ++ kills_same v p h is v.versions (λ t g. g) i

standing_same : (v : Seen) (p : ℕ → Presence) (h : ℕ → Bool) → Agrees v p h → (o : Option ℕ) → ((s : ℕ) → o ≡ Some s → list_any (nat_eq s) v.versions ≡ true) → standing v o ≡ standing (with_keys v p h) o
standing_same v p h is None among = refl
standing_same v p h is (Some s) among =
    λ i. Some (if v.down then Failed else (if is_on_air (is.present s (among s refl) i) then OnAir else (if is.held s (among s refl) i then Failed else Awaited)))

left_same : (v : Seen) (p : ℕ → Presence) (h : ℕ → Bool) → Agrees v p h → is_left v ≡ is_left (with_keys v p h)
left_same v p h is = any_of (is_unwanted v) (is_unwanted (with_keys v p h)) v.versions (λ s there. λ i. not (is_the v.wanted s) && not (is_absent (is.present s there i)))

-- the line is counted in the same ways
pub stands_same : (v : Seen) (p : ℕ → Presence) (h : ℕ → Bool) → Agrees v p h → (t u : Stand) → t.seen ≡ v → u.seen ≡ with_keys v p h → (x : Way) → stands x t ≡ stands x u
stands_same v p h is t u e f Awaited = ap (λ k. is_way Awaited (standing k k.wanted)) e ∙ ap (is_way Awaited) (standing_same v p h is v.wanted is.among) ∙ sym (ap (λ k. is_way Awaited (standing k k.wanted)) f)
stands_same v p h is t u e f OnAir = ap (λ k. is_way OnAir (standing k k.wanted)) e ∙ ap (is_way OnAir) (standing_same v p h is v.wanted is.among) ∙ sym (ap (λ k. is_way OnAir (standing k k.wanted)) f)
stands_same v p h is t u e f Failed = ap (λ k. is_way Failed (standing k k.wanted)) e ∙ ap (is_way Failed) (standing_same v p h is v.wanted is.among) ∙ sym (ap (λ k. is_way Failed (standing k k.wanted)) f)
stands_same v p h is t u e f Left = ap is_left e ∙ left_same v p h is ∙ sym (ap is_left f)

-- The line of a warning in the book.

-- of each of its versions it says what the past does
state_seen : (settings : Settings) (past : Past) → Legal settings past → (n : ℕ) (w : Warning) → warning_of (book_of past) n ≡ Some w → (b : ℕ) (c : Cell) (s : ℕ) → list_any (nat_eq s) (serials w) ≡ true → state_of (line_of past b c w) s ≡ key_state past b c w.message_id s
state_seen settings past legal n w found b c s there = version_state_is past b c w s (legal_updates settings past legal n w found) (turned_any s w.versions ∙ there)

line_agrees : (settings : Settings) (past : Past) → Legal settings past → (n : ℕ) (w : Warning) → warning_of (book_of past) n ≡ Some w → (b : ℕ) (c : Cell) → Agrees (seen_of (facts_of past b c (Some w))) (presence past b c w.message_id) (is_held past b c w.message_id)
line_agrees settings past legal n w found b c = record {
  present = λ s there. ap (λ (k : KeyState). k.presence) (state_seen settings past legal n w found b c s there);
  held = λ s there. ap (λ (k : KeyState). is_some k.hold) (state_seen settings past legal n w found b c s there);
  among = wanted_among past b c w;
}

-- what is to be ordered on it
pub deeds_seen : (settings : Settings) (past : Past) → Legal settings past → (k : LineKey) (w : Warning) → warning_of (book_of past) k.warning ≡ Some w → deeds_of (facts past k) ≡ deeds (seen past k.bsc w k.cell)
deeds_seen settings past legal k w found =
    ap (λ o. deeds_of (facts_of past k.bsc k.cell o)) found
    ∙ deeds_same (seen_of (facts_of past k.bsc k.cell (Some w))) (presence past k.bsc k.cell w.message_id) (is_held past k.bsc k.cell w.message_id) (line_agrees settings past legal k.warning w found k.bsc k.cell)

-- the numbers of one line, by the past
abbrev pub counted : Past → ℕ → Warning → Cell → Numbers
counted past b w c = record {
  awaited = one (stands Awaited (stand past b w c));
  on_air = one (stands OnAir (stand past b w c));
  failed = one (stands Failed (stand past b w c));
  left = one (stands Left (stand past b w c));
  broadcasts = broadcasts_in past w b c;
}

-- functions that are equal on a list have one sum over it
sum_on : (f g : ℕ → ℕ) (xs : List ℕ) → ((s : ℕ) → list_any (nat_eq s) xs ≡ true → f s ≡ g s) → sum_of f xs ≡ sum_of g xs
sum_on f g [] e = refl
sum_on f g (x ∷ xs) e =
    λ i. e x (or_left (nat_eq x x) (list_any (nat_eq x) xs) (eq-eqb x x refl)) i + sum_on f g xs (λ s h. e s (or_right (nat_eq s x) (list_any (nat_eq s) xs) h)) i

total_of : (settings : Settings) (past : Past) → Legal settings past → (n : ℕ) (w : Warning) → warning_of (book_of past) n ≡ Some w → (b : ℕ) (c : Cell) → total_of_line (facts_of past b c (Some w)) ≡ counted past b w c
total_of settings past legal n w found b c =
    λ i. record { awaited = one (at Awaited i); on_air = one (at OnAir i); failed = one (at Failed i); left = one (at Left i); broadcasts = aired i }
  where
    f : LineFacts
    f = facts_of past b c (Some w)

    at : (x : Way) → stands x (stand_of f) ≡ stands x (stand past b w c)
    at x = stands_same (seen_of f) (presence past b c w.message_id) (is_held past b c w.message_id) (line_agrees settings past legal n w found b c) (stand_of f) (stand past b w c) refl refl x

    covered : has_areas f.areas ≡ is_covered past w.areas c
    covered = sym (covered_by (λ a. covers past a c) w.areas)

    sums : sum_of (λ s. (state_of f.line s).count) f.versions ≡ sum_of (count past b c w.message_id) (serials w)
    sums = sum_on (λ s. (state_of f.line s).count) (count past b c w.message_id) (serials w) (λ s there. ap (λ (k : KeyState). k.count) (state_seen settings past legal n w found b c s there))

    aired : (if f.here && has_areas f.areas then sum_of (λ s. (state_of f.line s).count) f.versions else 0) ≡ broadcasts_in past w b c
    aired = λ i. if is_place (place past c) b && covered i then sums i else 0

-- what it adds to the numbers of the warning
pub total_seen : (settings : Settings) (past : Past) → Legal settings past → (k : LineKey) (w : Warning) → warning_of (book_of past) k.warning ≡ Some w → total_of_line (facts past k) ≡ counted past k.bsc w k.cell
total_seen settings past legal k w found =
    ap (λ o. total_of_line (facts_of past k.bsc k.cell o)) found ∙ total_of settings past legal k.warning w found k.bsc k.cell

-- The numbers of one line and one area of the warning.

-- by the past
abbrev pub area_counted : Past → ℕ → Warning → List ℕ → Cell → Numbers
area_counted past b w a c = record {
  awaited = one (stands Awaited (stand past b w c) && covers past a c);
  on_air = one (stands OnAir (stand past b w c) && covers past a c);
  failed = one (stands Failed (stand past b w c) && covers past a c);
  left = 0;
  broadcasts = area_broadcasts_in past w a b c;
}

-- where the area covers the cell, one does
area_part_is : (t x y z l here covered : Bool) (n : ℕ) → (t ≡ true → covered ≡ true) → part_where t (without_left (record { awaited = one x; on_air = one y; failed = one z; left = one l; broadcasts = if here && covered then n else 0 })) ≡ (let p : Numbers = record { awaited = one (x && t); on_air = one (y && t); failed = one (z && t); left = 0; broadcasts = if here && t then n else 0 } in p)
area_part_is true x y z l here covered n is =
    λ i. record { awaited = one (sym (and-true x) i); on_air = one (sym (and-true y) i); failed = one (sym (and-true z) i); left = 0; broadcasts = if here && is refl i then n else 0 }
area_part_is false x y z l here covered n is =
    λ i. record { awaited = one (sym (and_none x) i); on_air = one (sym (and_none y) i); failed = one (sym (and_none z) i); left = 0; broadcasts = if sym (and_none here) i then n else 0 }

-- of the areas of a warning that cover the cell, the name is one where its area does
area_among : (past : Past) (w : Warning) (a : List ℕ) (c : Cell) → names a w ≡ true → has_area (filter (λ x. covers past x c) w.areas) a ≡ covers past a c
area_among past w a c named =
    any_filter_same bytes_eq bytes_eq-Decides (λ x. covers past x c) a w.areas ∙ ap (λ t. covers past a c && t) named ∙ and-true (covers past a c)

covered_one : (past : Past) (w : Warning) (a : List ℕ) (c : Cell) → names a w ≡ true → covers past a c ≡ true → is_covered past w.areas c ≡ true
covered_one past w a c named covers_it =
    any_implies (λ x. bytes_eq x a) (λ x. covers past x c) (λ x e. ap (λ y. covers past y c) ((bytes_eq-Decides x a).0 e) ∙ covers_it) w.areas named

-- what it adds to the numbers of the warning and one of its areas
pub area_seen : (settings : Settings) (past : Past) → Legal settings past → (k : LineKey) (w : Warning) → warning_of (book_of past) k.warning ≡ Some w → (a : List ℕ) → names a w ≡ true → area_of_line a (facts past k) ≡ area_counted past k.bsc w a k.cell
area_seen settings past legal k w found a named =
    ap (λ o. area_of_line a (facts_of past k.bsc k.cell o)) found
    ∙ ap (λ t. part_where t (without_left (total_of_line (facts_of past k.bsc k.cell (Some w))))) (area_among past w a k.cell named)
    ∙ ap (λ n. part_where (covers past a k.cell) (without_left n)) (total_of settings past legal k.warning w found k.bsc k.cell)
    ∙ area_part_is (covers past a k.cell) (stands Awaited (stand past k.bsc w k.cell)) (stands OnAir (stand past k.bsc w k.cell)) (stands Failed (stand past k.bsc w k.cell)) (stands Left (stand past k.bsc w k.cell)) (is_place (place past k.cell) k.bsc) (is_covered past w.areas k.cell) (sum_of (count past k.bsc k.cell w.message_id) (serials w)) (covered_one past w a k.cell named)
