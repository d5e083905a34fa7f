-- The pending orders, applied to what was reported, give the plan.
use Rattle.std.proofs.Common.{◌≡◌, ℕ, Bool, true, false, ◌&&◌, ◌||◌, not, nat_eq, List, [], ◌∷◌, Option, Some, None, refl, sym, ◌∙◌, ap, subst, cond, eqb-true}
use Rattle.std.specs.Prelude.{if◌then◌else◌}
use Rattle.std.proofs.lemmas.Bool.{and_parts, and_from}
use Rattle.std.specs.List.{list_any}
use Rattle.cell_register.specs.Register.{is_place}
use Rattle.common.specs.declared.cell.Cell.{Cell}
use Rattle.warning_book.specs.Book.{current_of, kind_of}
use Rattle.warning_book.specs.VersionLaws.{current_among}
use Rattle.warning_book.specs.declared.kind.Kind.{Kind}
use Rattle.warning_book.specs.declared.version.Version.{Version}
use Rattle.warning_book.specs.declared.warning.Warning.{Warning}
use Rattle.centre_events.specs.Base.{Base, empty_base}
use Rattle.centre_events.specs.Cover.{is_covered}
use Rattle.centre_events.specs.Down.{is_down}
use Rattle.centre_events.specs.Effects.{is_among}
use Rattle.centre_events.specs.Folding.{base_of}
use Rattle.centre_past.specs.Headline.{airs, clears, applied, Agrees, PendingGivesPlan}
use Rattle.centre_past.specs.Legal.{Legal, Lawful, Call, after_calls, lasting}
use Rattle.centre_events.specs.Lines.{seen}
use Rattle.centre_events.specs.Past.{Past, From, IsUnfolded}
use Rattle.centre_events.specs.Pending.{pending}
use Rattle.centre_events.specs.Places.{place, cells}
use Rattle.centre_events.specs.Plan.{wants, wanted, planned}
use Rattle.centre_events.specs.Presence.{presence, is_held}
use Rattle.mirror.specs.Seen.{is_absent, is_on_air, is_the}
use Rattle.centre_events.specs.Warnings.{book_of, warnings_of, is_version, has_key, is_key, key_kind}
use Rattle.centre_events.specs.declared.settings.Settings.{Settings}
use Rattle.mirror.specs.declared.presence.Presence.{Presence}
use Rattle.mirror.specs.declared.presence.Presence.TheVariants.{Absent, OnAir, Unknown}
use Rattle.centre_past.proofs.AnyLemmas.{and_none, any_same}
use Rattle.centre_past.proofs.ApplyingLemmas.{applied_airs, applied_clears}
use Rattle.centre_past.proofs.ActingLemmas.{does, any_all, airing, clearing, is_surplus, does_airing, does_clearing}
use Rattle.centre_past.proofs.GroupingLemmas.{any_pending}
use Rattle.centre_past.proofs.KindLemmas.{any_by_kind}
use Rattle.centre_past.proofs.MarkLemmas.{known_presence}
use Rattle.centre_past.proofs.KnownLemmas.{legal_unfolded, known_place}
use Rattle.centre_past.proofs.LawfulLemmas.{lawful_calls, whole}
use Rattle.centre_events.proofs.PastLemmas.{any_image}
use Rattle.centre_past.proofs.UniqueLemmas.{unique, one_other}
use Rattle.centre_past.proofs.WarningLemmas.{legal_sound}

-- the warning plans the key
abbrev pub plans : Past → ℕ → Cell → ℕ → ℕ → Warning → Bool
plans past b c m s w = nat_eq w.message_id m && is_the (wanted past b w c) s

-- the cell is up at the BSC for warnings of the kind, and nothing holds the key back
abbrev pub is_free_for : Past → Kind → ℕ → Cell → ℕ → ℕ → Bool
is_free_for past k b c m s = not (is_down past k b c) && not (is_held past b c m s)

-- so for those of the kind of the key's warning
abbrev pub is_free : Past → ℕ → Cell → ℕ → ℕ → Bool
is_free past b c m s = is_free_for past (key_kind past m s) b c m s

airs_at : (past : Past) (b : ℕ) (c : Cell) (m s : ℕ) (w : Warning) → (nat_eq w.message_id m && (is_among c (cells past) && does (airing s) (seen past b w c))) ≡ ((is_among c (cells past) && (is_free_for past (kind_of w) b c m s && not (is_on_air (presence past b c m s)))) && plans past b c m s w)
airs_at past b c m s w =
    ap (λ t. nat_eq w.message_id m && (is_among c (cells past) && t)) (does_airing (seen past b w c) s)
    ∙ step (nat_eq w.message_id m) refl
  where
    table : (k wd up free on : Bool) → (k && (wd && (up && (free && on)))) ≡ ((k && ((up && free) && on)) && wd)
    table true true true true true = refl
    table true true true true false = refl
    table true true true false on = refl
    table true true false free on = refl
    table true false up free on = sym (and_none ((up && free) && on))
    table false wd up free on = refl

    step : (t : Bool) → nat_eq w.message_id m ≡ t → (nat_eq w.message_id m && (is_among c (cells past) && (is_the (wanted past b w c) s && (not (is_down past (kind_of w) b c) && (not (is_held past b c w.message_id s) && not (is_on_air (presence past b c w.message_id s))))))) ≡ ((is_among c (cells past) && (is_free_for past (kind_of w) b c m s && not (is_on_air (presence past b c m s)))) && plans past b c m s w)
    step true e =
        let at_m : w.message_id ≡ m = eqb-true w.message_id m e in
        let here : (is_among c (cells past) && (is_the (wanted past b w c) s && (not (is_down past (kind_of w) b c) && (not (is_held past b c w.message_id s) && not (is_on_air (presence past b c w.message_id s)))))) ≡ ((is_among c (cells past) && (is_free_for past (kind_of w) b c m s && not (is_on_air (presence past b c m s)))) && is_the (wanted past b w c) s) =
        ap (λ (n : ℕ). is_among c (cells past) && (is_the (wanted past b w c) s && (not (is_down past (kind_of w) b c) && (not (is_held past b c n s) && not (is_on_air (presence past b c n s)))))) at_m
        ∙ table (is_among c (cells past)) (is_the (wanted past b w c) s) (not (is_down past (kind_of w) b c)) (not (is_held past b c m s)) (not (is_on_air (presence past b c m s))) in
        rw e here
    step false e = rw e (sym (and_none (is_among c (cells past) && (is_free_for past (kind_of w) b c m s && not (is_on_air (presence past b c m s))))))

clears_at : (past : Past) (b : ℕ) (c : Cell) (m s : ℕ) (w : Warning) → (nat_eq w.message_id m && (is_among c (cells past) && does (clearing s) (seen past b w c))) ≡ ((is_among c (cells past) && (is_free_for past (kind_of w) b c m s && not (is_absent (presence past b c m s)))) && (has_key m s w && not (plans past b c m s w)))
clears_at past b c m s w =
    ap (λ t. nat_eq w.message_id m && (is_among c (cells past) && t)) (does_clearing (seen past b w c) s)
    ∙ ap (λ t. nat_eq w.message_id m && (is_among c (cells past) && (t && is_surplus (seen past b w c) s))) (any_image (λ n. nat_eq n s) (λ (v : Version). v.serial) w.versions)
    ∙ step (nat_eq w.message_id m) refl
  where
    table : (k v up p free a : Bool) → (k && (v && (up && (p && (free && a))))) ≡ ((k && ((up && free) && a)) && (v && p))
    table true true true true true true = refl
    table true true true true true false = refl
    table true true true true false a = refl
    table true true true false free a = sym (and_none (free && a))
    table true true false p free a = refl
    table true false up p free a = sym (and_none ((up && free) && a))
    table false v up p free a = refl

    step : (t : Bool) → nat_eq w.message_id m ≡ t → (nat_eq w.message_id m && (is_among c (cells past) && (list_any (is_version s) w.versions && (not (is_down past (kind_of w) b c) && (not (is_the (wanted past b w c) s) && (not (is_held past b c w.message_id s) && not (is_absent (presence past b c w.message_id s)))))))) ≡ ((is_among c (cells past) && (is_free_for past (kind_of w) b c m s && not (is_absent (presence past b c m s)))) && (has_key m s w && not (plans past b c m s w)))
    step true e =
        let at_m : w.message_id ≡ m = eqb-true w.message_id m e in
        let here : (is_among c (cells past) && (list_any (is_version s) w.versions && (not (is_down past (kind_of w) b c) && (not (is_the (wanted past b w c) s) && (not (is_held past b c w.message_id s) && not (is_absent (presence past b c w.message_id s))))))) ≡ ((is_among c (cells past) && (is_free_for past (kind_of w) b c m s && not (is_absent (presence past b c m s)))) && (list_any (is_version s) w.versions && not (is_the (wanted past b w c) s))) =
        ap (λ (n : ℕ). is_among c (cells past) && (list_any (is_version s) w.versions && (not (is_down past (kind_of w) b c) && (not (is_the (wanted past b w c) s) && (not (is_held past b c n s) && not (is_absent (presence past b c n s))))))) at_m
        ∙ table (is_among c (cells past)) (list_any (is_version s) w.versions) (not (is_down past (kind_of w) b c)) (not (is_the (wanted past b w c) s)) (not (is_held past b c m s)) (not (is_absent (presence past b c m s))) in
        rw e here
    step false e = rw e (sym (and_none (is_among c (cells past) && (is_free_for past (kind_of w) b c m s && not (is_absent (presence past b c m s))))))

-- what is the serial number is there
pub the_some : (o : Option ℕ) (s : ℕ) → is_the o s ≡ true → o ≡ Some s
the_some None s h = cc
the_some (Some t) s h = ap (λ n. Some n) (eqb-true t s h)

-- what is wanted is a version
pub wanted_version : (past : Past) (b : ℕ) (w : Warning) (c : Cell) (s : ℕ) → is_the (wanted past b w c) s ≡ true → list_any (is_version s) w.versions ≡ true
wanted_version past b w c s h = step (wants past b w c) h
  where
    step : (t : Bool) → is_the (if t then current_of w else None) s ≡ true → list_any (is_version s) w.versions ≡ true
    step true g = current_among w s (the_some (current_of w) s g)
    step false g = cc

pub key_of_plan : (past : Past) (b : ℕ) (c : Cell) (m s : ℕ) (w : Warning) → plans past b c m s w ≡ true → has_key m s w ≡ true
key_of_plan past b c m s w h =
    let parts = and_parts (nat_eq w.message_id m) (is_the (wanted past b w c) s) h in
    and_from (nat_eq w.message_id m) (list_any (is_version s) w.versions) parts.0 (wanted_version past b w c s parts.1)

-- the pending orders put a key on air just where it is planned, free and not on air
pub airs_pending : (settings : Settings) (past : Past) → Legal settings past → (b : ℕ) (c : Cell) (m s : ℕ) → list_any (airs c m s) (pending past b) ≡ ((is_among c (cells past) && (is_free past b c m s && not (is_on_air (presence past b c m s)))) && planned past b c m s)
airs_pending settings past legal b c m s =
    any_pending (airing s) c m past b
    ∙ any_all (airing s) c m past b
    ∙ any_same (λ w. nat_eq w.message_id m && (is_among c (cells past) && does (airing s) (seen past b w c))) (λ w. (is_among c (cells past) && (is_free_for past (kind_of w) b c m s && not (is_on_air (presence past b c m s)))) && plans past b c m s w) (airs_at past b c m s) (warnings_of past)
    ∙ any_by_kind (λ k. is_among c (cells past) && (is_free_for past k b c m s && not (is_on_air (presence past b c m s)))) m s (plans past b c m s) (key_of_plan past b c m s) (warnings_of past) (unique (book_of past) (legal_sound settings past legal) m s)

-- and take a key of the book off just where it is not planned, free and not absent
pub clears_pending : (settings : Settings) (past : Past) → Legal settings past → (b : ℕ) (c : Cell) (m s : ℕ) → is_key past m s ≡ true → list_any (clears c m s) (pending past b) ≡ ((is_among c (cells past) && (is_free past b c m s && not (is_absent (presence past b c m s)))) && not (planned past b c m s))
clears_pending settings past legal b c m s key =
    any_pending (clearing s) c m past b
    ∙ any_all (clearing s) c m past b
    ∙ any_same (λ w. nat_eq w.message_id m && (is_among c (cells past) && does (clearing s) (seen past b w c))) (λ w. (is_among c (cells past) && (is_free_for past (kind_of w) b c m s && not (is_absent (presence past b c m s)))) && (has_key m s w && not (plans past b c m s w))) (clears_at past b c m s) (warnings_of past)
    ∙ any_by_kind (λ k. is_among c (cells past) && (is_free_for past k b c m s && not (is_absent (presence past b c m s)))) m s (λ w. has_key m s w && not (plans past b c m s w)) (λ w g. (and_parts (has_key m s w) (not (plans past b c m s w)) g).0) (warnings_of past) (unique (book_of past) (legal_sound settings past legal) m s)
    ∙ ap (λ t. (is_among c (cells past) && (is_free past b c m s && not (is_absent (presence past b c m s)))) && t) (one_other (has_key m s) (plans past b c m s) (key_of_plan past b c m s) (warnings_of past) (unique (book_of past) (legal_sound settings past legal) m s))
    ∙ ap (λ t. (is_among c (cells past) && (is_free past b c m s && not (is_absent (presence past b c m s)))) && (t && not (planned past b c m s))) key

-- a planned cell was registered
planned_known : (past : Past) → IsUnfolded past → (b : ℕ) (c : Cell) (m s : ℕ) (ws : List Warning) → list_any (plans past b c m s) ws ≡ true → is_among c (cells past) ≡ true
planned_known past unfolded b c m s [] h = cc
planned_known past unfolded b c m s (w ∷ ws) h = step (planned_known past unfolded b c m s ws) (nat_eq w.message_id m) w.active (is_place (place past c) b) refl (is_covered past w.areas c) h
  where
    step : (list_any (plans past b c m s) ws ≡ true → is_among c (cells past) ≡ true) → (t a p : Bool) → is_place (place past c) b ≡ p → (k : Bool) → ((t && is_the (if a && (p && k) then current_of w else None) s) || list_any (plans past b c m s) ws) ≡ true → is_among c (cells past) ≡ true
    step rest true true true e k g = known_place past unfolded b c e
    step rest true true false e k g = rest g
    step rest true false p e k g = rest g
    step rest false a p e k g = rest g

-- what the orders make of a key, by what was reported and whether it is planned
decided : (k : Bool) (p : Presence) (x y q : Bool) (after : Presence) → x ≡ ((k && not (is_on_air p)) && q) → y ≡ ((k && not (is_absent p)) && not q) → (q ≡ true → k ≡ true) → (is_absent p ≡ false → k ≡ true) → (y ≡ false → after ≡ cond x OnAir p) → (x ≡ false → after ≡ cond y Absent p) → Agrees after q
decided true p x y true after ex ey kq kp airs_it clears_it = on p x y ex ey airs_it
  where
    on : (r : Presence) (u v : Bool) → u ≡ ((true && not (is_on_air r)) && true) → v ≡ ((true && not (is_absent r)) && false) → (v ≡ false → after ≡ cond u OnAir r) → after ≡ OnAir
    on Absent u v e f g = g (f) ∙ ap (λ t. cond t OnAir Absent) e
    on OnAir u v e f g = g (f) ∙ ap (λ t. cond t OnAir OnAir) e
    on Unknown u v e f g = g (f) ∙ ap (λ t. cond t OnAir Unknown) e
decided false p x y true after ex ey kq kp airs_it clears_it = let no : false ≡ true = kq refl in cc
decided k p x y false after ex ey kq kp airs_it clears_it = off p x y ex ey kp clears_it
  where
    off : (r : Presence) (u v : Bool) → u ≡ ((k && not (is_on_air r)) && false) → v ≡ ((k && not (is_absent r)) && true) → (is_absent r ≡ false → k ≡ true) → (u ≡ false → after ≡ cond v Absent r) → after ≡ Absent
    off Absent u v e f known g = g (e ∙ and_none (k && true)) ∙ same v
      where
        same : (t : Bool) → cond t Absent Absent ≡ Absent
        same true = refl
        same false = refl
    off OnAir u v e f known g = g (e ∙ and_none (k && false)) ∙ ap (λ t. cond t Absent OnAir) (f ∙ ap (λ t. (t && true) && true) (known refl))
    off Unknown u v e f known g = g (e ∙ and_none (k && true)) ∙ ap (λ t. cond t Absent Unknown) (f ∙ ap (λ t. (t && true) && true) (known refl))

free_from : (past : Past) (b : ℕ) (c : Cell) (m s : ℕ) → is_down past (key_kind past m s) b c ≡ false → is_held past b c m s ≡ false → is_free past b c m s ≡ true
free_from past b c m s up free = and_from (not (is_down past (key_kind past m s) b c)) (not (is_held past b c m s)) (ap not up) (ap not free)

pub pending_gives_plan : (settings : Settings) (past : Past) → Legal settings past → PendingGivesPlan past
pending_gives_plan settings past legal = record {
  each = λ b c m s key up free.
      decided (is_among c (cells past)) (presence past b c m s) (list_any (airs c m s) (pending past b)) (list_any (clears c m s) (pending past b)) (planned past b c m s) (applied (pending past b) c m s (presence past b c m s))
      (airs_pending settings past legal b c m s ∙ ap (λ t. (is_among c (cells past) && (t && not (is_on_air (presence past b c m s)))) && planned past b c m s) (free_from past b c m s up free))
      (clears_pending settings past legal b c m s key ∙ ap (λ t. (is_among c (cells past) && (t && not (is_absent (presence past b c m s)))) && not (planned past b c m s)) (free_from past b c m s up free))
      (planned_known past (legal_unfolded settings past legal) b c m s (warnings_of past)) (known_presence settings past legal b c m s)
      (applied_airs (pending past b) c m s (presence past b c m s)) (applied_clears (pending past b) c m s (presence past b c m s));
}

-- what the headline says of each key
abbrev Gives : Past → Type 0
Gives past = (b : ℕ) (c : Cell) (m s : ℕ) → is_key past m s ≡ true → is_down past (key_kind past m s) b c ≡ false → is_held past b c m s ≡ false → Agrees (applied (pending past b) c m s (presence past b c m s)) (planned past b c m s)

-- what holds after a past holds after each past of the same base
carried : (p q : Past) → base_of p ≡ base_of q → PendingGivesPlan p → PendingGivesPlan q
carried p q same given = record { each = subst (λ (x : Base). Gives (From x)) same given.each }

-- so after every lawful past
pub pending_gives_plan_lawful : (settings : Settings) (past : Past) → Lawful settings past → PendingGivesPlan past
pending_gives_plan_lawful settings past lawful =
    let w = whole settings past lawful in
    carried w.full past w.same (pending_gives_plan (lasting settings.network) w.full w.legal)

pub plan_after_calls : (settings : Settings) (calls : List Call) → PendingGivesPlan (after_calls settings calls (From empty_base))
plan_after_calls settings calls = pending_gives_plan_lawful settings (after_calls settings calls (From empty_base)) (lawful_calls settings calls)
