-- At most one warning of a legal past's book has a key.
use Rattle.std.proofs.Common.{◌≡◌, ℕ, ◌+◌, ◌≤◌, Bool, true, false, ◌&&◌, ◌||◌, not, nat_eq, List, [], ◌∷◌, Option, Some, None, Ok, refl, sym, ◌∙◌, ap, map, eqb-true, eq-eqb, arith}
use Rattle.std.specs.List.{list_any, list_all}
use Rattle.std.proofs.lemmas.Bool.{and_parts, and_from, or_parts, not-true}
use Rattle.std.specs.Option.{option_map}
use Rattle.serials.specs.Serials.{scope_part, code_of}
use Rattle.warning_book.specs.Book.{State, current_of, code_in}
use Rattle.warning_book.specs.Sound.{shares_code, has_one_code, key_of, is_same_code, is_same_key, have_own_codes, IsSound}
use Rattle.warning_book.specs.declared.version.Version.{Version}
use Rattle.warning_book.specs.declared.warning.Warning.{Warning}
use Rattle.common.specs.Sums.{one, count_of}
use Rattle.centre_events.specs.Past.{Past}
use Rattle.centre_events.specs.Verdict.{verdict, answered, is_full}
use Rattle.centre_events.specs.Warnings.{has_key, is_version}
use Rattle.centre_events.specs.declared.answer.Answer.{Answer}
use Rattle.centre_events.specs.declared.event.Event.{Event}
use Rattle.centre_events.specs.declared.refusal.Refusal.TheVariants as refusal
use Rattle.centre_events.specs.declared.settings.Settings.{Settings}
use Rattle.centre_past.proofs.AnyLemmas.{any_implies}
use Rattle.centre_past.proofs.CheckLemmas.{unless_ok}

-- what is accepted was not refused because the journal is full
pub verdict_answered : (settings : Settings) (past : Past) (e : Event) (a : Answer) → verdict settings past e ≡ Ok a → answered settings.network past e ≡ Ok a
verdict_answered settings past e a h = unless_ok ((is_full settings past, refusal.JournalFull) ∷ []) (answered settings.network past e) a h

-- the count of what no element passes
pub count_none : {X : Type 0} (p : X → Bool) (xs : List X) → list_any p xs ≡ false → count_of p xs ≡ 0
count_none p [] h = refl
count_none p (x ∷ xs) h = step (count_none p xs) (p x) refl h
  where
    step : (list_any p xs ≡ false → count_of p xs ≡ 0) → (t : Bool) → p x ≡ t → (t || list_any p xs) ≡ false → one (p x) + count_of p xs ≡ 0
    step rest true e g = cc
    step rest false e g = let none : count_of p xs ≡ 0 = rest g in let here : one (p x) ≡ 0 = rw e refl in omega arith

-- what no element passes where the count is 0
pub any_none : {X : Type 0} (p : X → Bool) (xs : List X) → count_of p xs ≡ 0 → list_any p xs ≡ false
any_none p [] h = refl
any_none p (x ∷ xs) h = step (any_none p xs) (p x) refl h
  where
    step : (count_of p xs ≡ 0 → list_any p xs ≡ false) → (t : Bool) → p x ≡ t → one t + count_of p xs ≡ 0 → (p x || list_any p xs) ≡ false
    step rest true e g = absurd (omega arith)
    step rest false e g = rw e (rest (omega arith))

-- a version whose serial number passes has the code that all versions share
version_code : (o : Option ℕ) (p : ℕ → Bool) (code : ℕ) → ((s : ℕ) → p s ≡ true → code_of s ≡ code) → (vs : List Version) → list_all (shares_code o) vs ≡ true → list_any (λ (v : Version). p v.serial) vs ≡ true → is_same_code (option_map code_of o) (Some code) ≡ true
version_code o p code coded [] h g = cc
version_code o p code coded (v ∷ vs) h g = step (version_code o p code coded vs) (and_parts (shares_code o v) (list_all (shares_code o) vs) h) (p v.serial) refl g
  where
    shared : (k : Option ℕ) → shares_code k v ≡ true → p v.serial ≡ true → is_same_code (option_map code_of k) (Some code) ≡ true
    shared None e f = cc
    shared (Some k) e f =
        let parts = and_parts (nat_eq (scope_part v.serial) (scope_part k)) (nat_eq (code_of v.serial) (code_of k)) e in
        eq-eqb (code_of k) code (sym (eqb-true (code_of v.serial) (code_of k) parts.1) ∙ coded v.serial f)

    step : (list_all (shares_code o) vs ≡ true → list_any (λ (u : Version). p u.serial) vs ≡ true → is_same_code (option_map code_of o) (Some code) ≡ true) → (shares_code o v ≡ true) × (list_all (shares_code o) vs ≡ true) → (t : Bool) → p v.serial ≡ t → (t || list_any (λ (u : Version). p u.serial) vs) ≡ true → is_same_code (option_map code_of o) (Some code) ≡ true
    step rest parts true e f = shared o parts.0 e
    step rest parts false e f = rest parts.1 f

-- so has a warning one of whose versions passes
pub code_among : (w : Warning) (p : ℕ → Bool) (code : ℕ) → has_one_code w ≡ true → ((s : ℕ) → p s ≡ true → code_of s ≡ code) → list_any (λ (v : Version). p v.serial) w.versions ≡ true → is_same_code (code_in w) (Some code) ≡ true
code_among w p code shared coded h = version_code (current_of w) p code coded w.versions shared h

-- a warning with the key has the key's code
key_code : (m s : ℕ) (w : Warning) → has_one_code w ≡ true → has_key m s w ≡ true → is_same_key (key_of w) (m, Some (code_of s)) ≡ true
key_code m s w shared h =
    let parts = and_parts (nat_eq w.message_id m) (list_any (is_version s) w.versions) h in
    and_from (nat_eq w.message_id m) (is_same_code (code_in w) (Some (code_of s))) parts.0 (code_among w (λ t. nat_eq t s) (code_of s) shared (λ t e. ap code_of (eqb-true t s e)) parts.1)

same_code : (o : Option ℕ) (c : ℕ) → is_same_code o (Some c) ≡ true → o ≡ Some c
same_code None c h = cc
same_code (Some d) c h = ap (λ n. Some n) (eqb-true d c h)

-- two with one key are one
keys_meet : (j k : ℕ × Option ℕ) (m c : ℕ) → is_same_key j (m, Some c) ≡ true → is_same_key k (m, Some c) ≡ true → is_same_key j k ≡ true
keys_meet j k m c h g =
    let first = and_parts (nat_eq j.0 m) (is_same_code j.1 (Some c)) h in
    let second = and_parts (nat_eq k.0 m) (is_same_code k.1 (Some c)) g in
    let one_id : nat_eq j.0 k.0 ≡ true = eq-eqb j.0 k.0 (eqb-true j.0 m first.0 ∙ sym (eqb-true k.0 m second.0)) in
    let one_code : is_same_code j.1 k.1 ≡ true = rw (same_code j.1 c first.1, same_code k.1 c second.1) (eq-eqb c c refl) in
    and_from (nat_eq j.0 k.0) (is_same_code j.1 k.1) one_id one_code

-- a warning that passes has the message identifier and the code
abbrev AreOfCode : (Warning → Bool) → ℕ → ℕ → Type 0
AreOfCode p m code = (w : Warning) → has_one_code w ≡ true → p w ≡ true → is_same_key (key_of w) (m, Some code) ≡ true

-- where no other warning has the code, none passes
no_other : (p : Warning → Bool) (m code : ℕ) → AreOfCode p m code → (j : ℕ × Option ℕ) (ws : List Warning) → list_all has_one_code ws ≡ true → is_same_key j (m, Some code) ≡ true → list_any (is_same_key j) (map key_of ws) ≡ false → list_any p ws ≡ false
no_other p m code coded j [] shared h g = refl
no_other p m code coded j (w ∷ ws) shared h g =
    let whole = and_parts (has_one_code w) (list_all has_one_code ws) shared in
    let parts = or_parts (is_same_key j (key_of w)) (list_any (is_same_key j) (map key_of ws)) g in
    step (p w) refl whole.0 parts.0 (no_other p m code coded j ws whole.1 h parts.1)
  where
    step : (t : Bool) → p w ≡ t → has_one_code w ≡ true → is_same_key j (key_of w) ≡ false → list_any p ws ≡ false → (t || list_any p ws) ≡ false
    step true e whole differs rest = let meets : is_same_key j (key_of w) ≡ true = keys_meet j (key_of w) m code h (coded w whole e) in cc
    step false e whole differs rest = rest

unique_in : (p : Warning → Bool) (m code : ℕ) → AreOfCode p m code → (ws : List Warning) → list_all has_one_code ws ≡ true → have_own_codes ws ≡ true → count_of p ws ≤ 1
unique_in p m code coded [] shared codes = omega arith
unique_in p m code coded (w ∷ ws) shared codes =
    let whole = and_parts (has_one_code w) (list_all has_one_code ws) shared in
    let parts = and_parts (not (list_any (is_same_key (key_of w)) (map key_of ws))) (have_own_codes ws) codes in
    step (p w) refl whole.0 whole.1 (not-true (list_any (is_same_key (key_of w)) (map key_of ws)) parts.0) (unique_in p m code coded ws whole.1 parts.1)
  where
    step : (t : Bool) → p w ≡ t → has_one_code w ≡ true → list_all has_one_code ws ≡ true → list_any (is_same_key (key_of w)) (map key_of ws) ≡ false → count_of p ws ≤ 1 → one t + count_of p ws ≤ 1
    step true e own rest alone bound =
        let none : count_of p ws ≡ 0 = count_none p ws (no_other p m code coded (key_of w) ws rest (coded w own e) alone) in
        omega arith
    step false e own rest alone bound = omega arith

-- at most one warning of a sound book passes what one of a message identifier and a code alone can pass
pub unique_by : (p : Warning → Bool) (m code : ℕ) → ((w : Warning) → has_one_code w ≡ true → p w ≡ true → is_same_key (key_of w) (m, Some code) ≡ true) → (st : State) → IsSound st → count_of p st.warnings ≤ 1
unique_by p m code coded st sound = unique_in p m code coded st.warnings sound.codes sound.own_codes

-- at most one has a key
pub unique : (st : State) → IsSound st → (m s : ℕ) → count_of (has_key m s) st.warnings ≤ 1
unique st sound m s = unique_by (has_key m s) m (code_of s) (key_code m s) st sound

not_implied : {X : Type 0} (p q : X → Bool) → ((x : X) → p x ≡ true → q x ≡ true) → (x : X) → q x ≡ false → p x ≡ false
not_implied p q e x h = step (p x) refl
  where
    step : (t : Bool) → p x ≡ t → p x ≡ false
    step true g = let there : q x ≡ true = e x g in cc
    step false g = g

-- where at most one passes h, one that passes h and not p is there just where one passes h and none p
pub one_other : {X : Type 0} (h p : X → Bool) → ((x : X) → p x ≡ true → h x ≡ true) → (xs : List X) → count_of h xs ≤ 1 → list_any (λ x. h x && not (p x)) xs ≡ (list_any h xs && not (list_any p xs))
one_other {X = X} h p e [] bound = refl
one_other {X = X} h p e (x ∷ xs) bound = step (one_other h p e xs) (h x) refl bound
  where
    both_none : (k : X → Bool) → ((y : X) → k y ≡ true → h y ≡ true) → (t : Bool) → list_any k xs ≡ t → list_any h xs ≡ false → list_any k xs ≡ false
    both_none k f true g none = let there : list_any h xs ≡ true = any_implies k h f xs g in cc
    both_none k f false g none = g

    first : (a b : Bool) → (a && b) ≡ true → a ≡ true
    first true b g = refl
    first false b g = g

    table : (a : Bool) → ((true && not a) || false) ≡ ((true || false) && not (a || false))
    table true = refl
    table false = refl

    step : (count_of h xs ≤ 1 → list_any (λ x. h x && not (p x)) xs ≡ (list_any h xs && not (list_any p xs))) → (t : Bool) → h x ≡ t → one t + count_of h xs ≤ 1 → ((h x && not (p x)) || list_any (λ x. h x && not (p x)) xs) ≡ ((h x || list_any h xs) && not (p x || list_any p xs))
    step rest true g bound_x =
        let none : list_any h xs ≡ false = any_none h xs (omega arith) in
        let none_p : list_any p xs ≡ false = both_none p e (list_any p xs) refl none in
        let none_q : list_any (λ x. h x && not (p x)) xs ≡ false = both_none (λ x. h x && not (p x)) (λ y g. (and_parts (h y) (not (p y)) g).0) (list_any (λ x. h x && not (p x)) xs) refl none in
        rw (g, none_p, none_q) (table (p x))
    step rest false g bound_x =
        let other : p x ≡ false = not_implied p h e x g in
        rw (g, other) (rest (omega arith))
