-- What is to be ordered on a line is of a version of its warning, so that the warning owns it.
use Rattle.std.proofs.Common.{◌≡◌, ℕ, Bool, true, false, ◌&&◌, ◌||◌, nat_eq, List, [], ◌∷◌, ◌++◌, Option, Some, None, map, refl, sym, ◌∙◌, ap, eqb-true, eq-eqb, arith}
use Rattle.std.proofs.lemmas.Bool.Decides.{nat_tests}
use Rattle.std.proofs.lemmas.Grind.{common_steps}
use Rattle.common.specs.declared.cell.Cell.{Cell}
use Rattle.std.specs.Prelude.{if◌then◌else◌}
use Rattle.std.specs.List.{list_any}
use Rattle.std.proofs.lemmas.Bool.{and_parts, and_from, or_right}
use Rattle.std.proofs.lemmas.List.Folds.{list_any-append}
use Rattle.kept_tables.specs.Consistent.{Owned, deed_eq, is_deed}
use Rattle.kept_tables.specs.Facts.{deeds_of, seen_of}
use Rattle.kept_tables.specs.FactsLaws.{deeds_of_none}
use Rattle.mirror.specs.Seen.{Seen}
use Rattle.mirror.specs.declared.line_key.LineKey.{LineKey}
use Rattle.order_maker.specs.Actions.{needs, replaced, fresh_kind, deed, fresh, is_to_kill, kills, deeds}
use Rattle.order_maker.specs.declared.deed.Deed.{Deed}
use Rattle.order_maker.specs.declared.order_kind.OrderKind.{OrderKind}
use Rattle.order_maker.specs.declared.order_kind.OrderKind.TheVariants.{Kill}
use Rattle.order_maker.specs.Grouping.{kind_eq}
use Rattle.warning_book.specs.Book.{current_of, warning_of}
use Rattle.warning_book.specs.VersionLaws.{current_among}
use Rattle.warning_book.specs.declared.version.Version.{Version}
use Rattle.warning_book.specs.declared.kind.Kind.TheVariants as kind
use Rattle.warning_book.specs.declared.warning.Warning.{Warning}
use Rattle.centre_events.specs.Down.{is_down}
use Rattle.cell_register.specs.Register.{is_place}
use Rattle.centre_past.specs.Facts.{facts_of, facts}
use Rattle.centre_past.specs.Legal.{Legal}
use Rattle.centre_events.specs.Past.{Past}
use Rattle.centre_events.specs.Places.{place}
use Rattle.centre_events.specs.Plan.{wants, wanted}
use Rattle.centre_events.specs.Warnings.{book_of, warnings_of, is_version, has_key, serials}
use Rattle.centre_events.specs.declared.settings.Settings.{Settings}
use Rattle.centre_past.proofs.BookLemmas.{keyed, found_keyed, owner_of}
use Rattle.centre_past.proofs.WarningLemmas.{legal_sound}

-- the deed is of the message, and of one of the versions
abbrev is_of : Seen → Deed → Bool
is_of v d = nat_eq d.message_id v.message_id && list_any (nat_eq d.serial) v.versions

one_of : (v : Seen) (kind : OrderKind) (s : ℕ) (d : Deed) → list_any (nat_eq s) v.versions ≡ true → deed_eq d (deed v kind s) ≡ true → is_of v d ≡ true
one_of v kind s d among h =
    let parts = and_parts (kind_eq d.kind kind) (nat_eq d.message_id v.message_id && nat_eq d.serial s) h in
    let rest = and_parts (nat_eq d.message_id v.message_id) (nat_eq d.serial s) parts.1 in
    and_from (nat_eq d.message_id v.message_id) (list_any (nat_eq d.serial) v.versions) rest.0 (ap (λ k. list_any (nat_eq k) v.versions) (eqb-true d.serial s rest.1) ∙ among)

or_none : (t : Bool) → (t || false) ≡ true → t ≡ true
or_none true h = refl
or_none false h = h

fresh_of : (v : Seen) (o : Option ℕ) (d : Deed) → ((s : ℕ) → o ≡ Some s → list_any (nat_eq s) v.versions ≡ true) → is_deed d (fresh v o) ≡ true → is_of v d ≡ true
fresh_of v None d among h = cc
fresh_of v (Some s) d among h = step (needs v s) h
  where
    step : (t : Bool) → is_deed d (if t then deed v (fresh_kind (replaced v s)) s ∷ [] else []) ≡ true → is_of v d ≡ true
    step true g = one_of v (fresh_kind (replaced v s)) s d (among s refl) (or_none (deed_eq d (deed v (fresh_kind (replaced v s)) s)) g)
    step false g = cc

kills_of : (v : Seen) (ts : List ℕ) (d : Deed) → ((s : ℕ) → list_any (nat_eq s) ts ≡ true → list_any (nat_eq s) v.versions ≡ true) → is_deed d (kills v ts) ≡ true → is_of v d ≡ true
kills_of v [] d among h = cc
kills_of v (t ∷ ts) d among h = step (kills_of v ts d (λ s g. among s (or_right (nat_eq s t) (list_any (nat_eq s) ts) g))) (is_to_kill v t) h
  where
    both : (u : Bool) → (u || is_deed d (kills v ts)) ≡ true → (u ≡ true → is_of v d ≡ true) → (is_deed d (kills v ts) ≡ true → is_of v d ≡ true) → is_of v d ≡ true
    both true g f r = f refl
    both false g f r = r g

    step : (is_deed d (kills v ts) ≡ true → is_of v d ≡ true) → (u : Bool) → is_deed d ((if u then deed v Kill t ∷ [] else []) ++ kills v ts) ≡ true → is_of v d ≡ true
    step rest true g = both (deed_eq d (deed v Kill t)) g (λ e. one_of v Kill t d (among t (ap (λ x. x || list_any (nat_eq t) ts) (eq-eqb t t refl))) e) rest
    step rest false g = rest g

deeds_named : (v : Seen) (d : Deed) → ((s : ℕ) → v.wanted ≡ Some s → list_any (nat_eq s) v.versions ≡ true) → is_deed d (deeds v) ≡ true → is_of v d ≡ true
deeds_named v d among h = step (is_deed d (fresh v v.wanted)) refl (sym (list_any-append (deed_eq d) (fresh v v.wanted) (kills v v.versions)) ∙ h)
  where
    step : (t : Bool) → is_deed d (fresh v v.wanted) ≡ t → (is_deed d (fresh v v.wanted) || is_deed d (kills v v.versions)) ≡ true → is_of v d ≡ true
    step true e g = fresh_of v v.wanted d among e
    step false e g = kills_of v v.versions d (λ s i. i) (rw e at g)

pub turned_any : (s : ℕ) (vs : List Version) → list_any (λ (v : Version). nat_eq v.serial s) vs ≡ list_any (nat_eq s) (map (λ (v : Version). v.serial) vs)
turned_any s [] = refl
turned_any s (v ∷ vs) = ap (λ t. t || list_any (λ (x : Version). nat_eq x.serial s) vs) (swap v.serial s) ∙ ap (λ t. nat_eq s v.serial || t) (turned_any s vs)
  where
    swap : (a b : ℕ) → nat_eq a b ≡ nat_eq b a
    swap a b = grind (arith, nat_tests, common_steps)

pub wanted_among : (past : Past) (b : ℕ) (c : Cell) (w : Warning) (s : ℕ) → wanted past b w c ≡ Some s → list_any (nat_eq s) (serials w) ≡ true
wanted_among past b c w s h = step (wants past b w c) h
  where
    step : (t : Bool) → (if t then current_of w else None) ≡ Some s → list_any (nat_eq s) (serials w) ≡ true
    step true g = sym (turned_any s w.versions) ∙ current_among w s g
    step false g = cc

-- of each book whose keys the list has, the list owns what is to be ordered
pub owned : (settings : Settings) (past : Past) → Legal settings past → (ws : List Warning) → ((n m s : ℕ) → keyed n m s (warnings_of past) ≡ true → owner_of ws m s ≡ Some n) → Owned (owner_of ws) (facts past)
owned settings past legal ws wide = record { owns = λ k d h. step k d (warning_of (book_of past) k.warning) refl h }
  where
    step : (k : LineKey) (d : Deed) (o : Option Warning) → warning_of (book_of past) k.warning ≡ o → is_deed d (deeds_of (facts_of past k.bsc k.cell o)) ≡ true → owner_of ws d.message_id d.serial ≡ Some k.warning
    step k d None e h = absurd (let no : is_deed d [] ≡ true = sym (ap (is_deed d) (deeds_of_none (is_down past kind.Cbs k.bsc k.cell) (is_place (place past k.cell) k.bsc))) ∙ h in cc)
    step k d (Some w) e h =
        let named = deeds_named (seen_of (facts_of past k.bsc k.cell (Some w))) d (wanted_among past k.bsc k.cell w) h in
        let parts = and_parts (nat_eq d.message_id w.message_id) (list_any (nat_eq d.serial) (serials w)) named in
        let key : has_key d.message_id d.serial w ≡ true =
        and_from (nat_eq w.message_id d.message_id) (list_any (is_version d.serial) w.versions) (eq-eqb w.message_id d.message_id (sym (eqb-true d.message_id w.message_id parts.0))) (turned_any d.serial w.versions ∙ parts.1) in
        wide k.warning d.message_id d.serial (found_keyed (book_of past) k.warning w d.message_id d.serial (legal_sound settings past legal).ordered e key)
