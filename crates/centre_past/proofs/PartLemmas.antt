-- Lines with the same part in the tables: the same is kept of them, ordered on them and counted of them.
use Rattle.std.proofs.Common.{◌≡◌, ℕ, zero, suc, Bool, true, false, ◌&&◌, ◌||◌, not, List, [], ◌∷◌, ◌++◌, None, replicate, refl, sym, ◌∙◌, ap, subst}
use Rattle.std.specs.Prelude.{slice_index_or, if◌then◌else◌}
use Rattle.std.specs.List.{list_any, list_all}
use Rattle.std.proofs.lemmas.Bool.{and_parts, and_from}
use Rattle.common.specs.Sums.{one, sum_of}
use Rattle.common.specs.SumLaws.{sum_none}
use Rattle.coverage_board.specs.Numbers.{zero_numbers}
use Rattle.coverage_board.specs.Parts.{has_areas, has_area, without_left, part_where}
use Rattle.coverage_board.specs.Standings.{standing, is_way, is_unwanted, is_left}
use Rattle.coverage_board.specs.declared.numbers.Numbers.{Numbers}
use Rattle.coverage_board.specs.declared.way.Way.TheVariants.{Awaited, OnAir, Failed}
use Rattle.kept_tables.specs.Facts.{seen_of, deeds_of, total_of_line, area_of_line}
use Rattle.kept_tables.specs.Same.{SamePart}
use Rattle.kept_tables.specs.declared.line_facts.LineFacts.{LineFacts}
use Rattle.mirror.specs.Line.{blank, blank_line, state_of}
use Rattle.mirror.specs.Seen.{Seen, is_absent}
use Rattle.mirror.specs.declared.key_state.KeyState.{KeyState}
use Rattle.mirror.specs.declared.line.Line.{Line}
use Rattle.serials.specs.Serials.{update_of}
use Rattle.order_maker.specs.Actions.{is_to_kill, deed, fresh, kills}
use Rattle.order_maker.specs.declared.deed.Deed.{Deed}
use Rattle.order_maker.specs.declared.order_kind.OrderKind.TheVariants.{Kill}
use Rattle.std.specs.Option.{is_some}

-- whether the warning is active is in no part
pub same_when : (f g : LineFacts) → f.line ≡ g.line → f.message_id ≡ g.message_id → f.versions ≡ g.versions → f.wanted ≡ g.wanted → f.down ≡ g.down → f.areas ≡ g.areas → f.here ≡ g.here → SamePart f g
same_when f g line id versions wanted down areas here =
    subst (λ (h : LineFacts). SamePart f h) whole (record { line = refl; deeds = refl; total = refl; area = λ a. refl })
  where
    whole : record f { active = g.active } ≡ g
    whole = λ i. record { line = line i; message_id = id i; versions = versions i; wanted = wanted i; down = down i; areas = areas i; here = here i; active = g.active }

-- Where nothing is wanted.

-- what was broadcast there, where the cell is registered and covered
abbrev pub aired : LineFacts → ℕ
aired f = (total_of_line f).broadcasts

-- nothing of that is counted where the cell isn't registered there, or no area covers it
pub unaired : (f : LineFacts) → (f.here && has_areas f.areas) ≡ false → aired f ≡ 0
unaired f off = ap (λ t. if t then sum_of (λ s. (state_of f.line s).count) f.versions else 0) off

-- the version of that serial number is absent
abbrev pub is_gone : Line → ℕ → Bool
is_gone line s = is_absent (state_of line s).presence

-- what is read of a line on which nothing is wanted
abbrev unwanted : Line → ℕ → Bool → List ℕ → Seen
unwanted line id down versions = record {
  presence = λ s. (state_of line s).presence;
  is_held = λ s. is_some (state_of line s).hold;
  message_id = id;
  versions = versions;
  wanted = None;
  down = down;
}

-- the numbers of such a line
abbrev left_alone : Bool → Numbers
left_alone left = record { awaited = 0; on_air = 0; failed = 0; left = one left; broadcasts = 0 }

is_unwanted_line : (f : LineFacts) → f.wanted ≡ None → seen_of f ≡ unwanted f.line f.message_id f.down f.versions
is_unwanted_line f none = λ i. record {
  presence = λ s. (state_of f.line s).presence;
  is_held = λ s. is_some (state_of f.line s).hold;
  message_id = f.message_id;
  versions = f.versions;
  wanted = none i;
  down = f.down;
}

unwanted_total : (f : LineFacts) → f.wanted ≡ None → aired f ≡ 0 → total_of_line f ≡ left_alone (is_left (seen_of f))
unwanted_total f none off = λ i. record { awaited = awaited i; on_air = on_air i; failed = failed i; left = one (is_left (seen_of f)); broadcasts = off i }
  where
    awaited : one (is_way Awaited (standing (seen_of f) f.wanted)) ≡ 0
    awaited = ap (λ o. one (is_way Awaited (standing (seen_of f) o))) none

    on_air : one (is_way OnAir (standing (seen_of f) f.wanted)) ≡ 0
    on_air = ap (λ o. one (is_way OnAir (standing (seen_of f) o))) none

    failed : one (is_way Failed (standing (seen_of f) f.wanted)) ≡ 0
    failed = ap (λ o. one (is_way Failed (standing (seen_of f) o))) none

-- a part where the test holds is none where it is nothing
no_part : (t : Bool) → part_where t zero_numbers ≡ zero_numbers
no_part true = refl
no_part false = refl

unwanted_area : (a : List ℕ) (f : LineFacts) → f.wanted ≡ None → aired f ≡ 0 → area_of_line a f ≡ zero_numbers
unwanted_area a f none off =
    ap (λ n. part_where (has_area f.areas a) (without_left n)) (unwanted_total f none off) ∙ no_part (has_area f.areas a)

unwanted_deeds : (f : LineFacts) → f.wanted ≡ None → deeds_of f ≡ kills (unwanted f.line f.message_id f.down f.versions) f.versions
unwanted_deeds f none =
    ap (λ o. fresh (seen_of f) o ++ kills (seen_of f) f.versions) none
    ∙ ap (λ (v : Seen). kills v f.versions) (is_unwanted_line f none)

-- two such lines have the same part where the same is killed, and left
parted : (f g : LineFacts) → f.line ≡ g.line → f.wanted ≡ None → g.wanted ≡ None → aired f ≡ 0 → aired g ≡ 0 → kills (unwanted f.line f.message_id f.down f.versions) f.versions ≡ kills (unwanted g.line g.message_id g.down g.versions) g.versions → is_left (unwanted f.line f.message_id f.down f.versions) ≡ is_left (unwanted g.line g.message_id g.down g.versions) → SamePart f g
parted f g line none never off out killed left = record {
  line = line;
  deeds = unwanted_deeds f none ∙ killed ∙ sym (unwanted_deeds g never);
  total = unwanted_total f none off ∙ ap left_alone (ap is_left (is_unwanted_line f none) ∙ left ∙ sym (ap is_left (is_unwanted_line g never))) ∙ sym (unwanted_total g never out);
  area = λ a. unwanted_area a f none off ∙ sym (unwanted_area a g never out);
}

-- more versions, which are absent

not_killed : (down held gone : Bool) → gone ≡ true → (not down && (true && (not held && (not gone && true)))) ≡ false
not_killed true held gone h = refl
not_killed false true gone h = refl
not_killed false false gone h = ap (λ t. not t && true) h

kills_gone : (line : Line) (id : ℕ) (down : Bool) (versions ts : List ℕ) → list_all (is_gone line) ts ≡ true → kills (unwanted line id down versions) ts ≡ []
kills_gone line id down versions [] h = refl
kills_gone line id down versions (t ∷ ts) h =
    let parts = and_parts (is_gone line t) (list_all (is_gone line) ts) h in
    ap (λ u. (if u then deed (unwanted line id down versions) Kill t ∷ [] else []) ++ kills (unwanted line id down versions) ts) (not_killed down (is_some (state_of line t).hold) (is_gone line t) parts.0)
    ∙ kills_gone line id down versions ts parts.1

kills_more : (line : Line) (id : ℕ) (down : Bool) (few many : List ℕ) (vs more : List ℕ) → list_all (is_gone line) more ≡ true → kills (unwanted line id down few) vs ≡ kills (unwanted line id down many) (vs ++ more)
kills_more line id down few many [] more h = sym (kills_gone line id down many more h)
kills_more line id down few many (t ∷ vs) more h =
    ap (λ (rest : List Deed). (if is_to_kill (unwanted line id down few) t then deed (unwanted line id down few) Kill t ∷ [] else []) ++ rest) (kills_more line id down few many vs more h)

left_gone : (line : Line) (id : ℕ) (down : Bool) (versions ts : List ℕ) → list_all (is_gone line) ts ≡ true → list_any (is_unwanted (unwanted line id down versions)) ts ≡ false
left_gone line id down versions [] h = refl
left_gone line id down versions (t ∷ ts) h =
    let parts = and_parts (is_gone line t) (list_all (is_gone line) ts) h in
    ap (λ u. not u || list_any (is_unwanted (unwanted line id down versions)) ts) parts.0
    ∙ left_gone line id down versions ts parts.1

left_more : (line : Line) (id : ℕ) (down : Bool) (few many : List ℕ) (vs more : List ℕ) → list_all (is_gone line) more ≡ true → list_any (is_unwanted (unwanted line id down few)) vs ≡ list_any (is_unwanted (unwanted line id down many)) (vs ++ more)
left_more line id down few many [] more h = sym (left_gone line id down many more h)
left_more line id down few many (t ∷ vs) more h = ap (λ rest. not (is_gone line t) || rest) (left_more line id down few many vs more h)

-- where nothing is wanted, and nothing that was broadcast is counted, absent versions more and other areas are in no part
pub same_unwanted : (f g : LineFacts) (more : List ℕ) → f.line ≡ g.line → f.message_id ≡ g.message_id → f.down ≡ g.down → f.wanted ≡ None → g.wanted ≡ None → aired f ≡ 0 → aired g ≡ 0 → f.versions ++ more ≡ g.versions → list_all (is_gone f.line) more ≡ true → SamePart f g
same_unwanted f g more line id down none never off out versions gone =
    parted f g line none never off out
    (kills_more f.line f.message_id f.down f.versions (f.versions ++ more) f.versions more gone ∙ (λ i. kills (unwanted (line i) (id i) (down i) (versions i)) (versions i)))
    (left_more f.line f.message_id f.down f.versions (f.versions ++ more) f.versions more gone ∙ (λ i. list_any (is_unwanted (unwanted (line i) (id i) (down i) (versions i))) (versions i)))

-- A blank line.

blank_at : (n i : ℕ) → slice_index_or (replicate n blank) i blank ≡ blank
blank_at zero i = refl
blank_at (suc n) zero = refl
blank_at (suc n) (suc i) = blank_at n i

pub blank_state : (s : ℕ) → state_of blank_line s ≡ blank
blank_state s = blank_at 16 (update_of s)

all_gone : (ts : List ℕ) → list_all (is_gone blank_line) ts ≡ true
all_gone [] = refl
all_gone (t ∷ ts) = and_from (is_gone blank_line t) (list_all (is_gone blank_line) ts) (ap (λ (k : KeyState). is_absent k.presence) (blank_state t)) (all_gone ts)

-- blank lines on which nothing is wanted have no part, whatever else is read of them
pub same_blank : (f g : LineFacts) → f.line ≡ blank_line → g.line ≡ blank_line → f.wanted ≡ None → g.wanted ≡ None → SamePart f g
same_blank f g first second none never =
    parted f g (first ∙ sym second) none never (uncounted f first) (uncounted g second)
    (killed f.line f.message_id f.down f.versions first ∙ sym (killed g.line g.message_id g.down g.versions second))
    (left f.line f.message_id f.down f.versions first ∙ sym (left g.line g.message_id g.down g.versions second))
  where
    -- no version of a blank line was broadcast
    none_counted : (t : Bool) (n : ℕ) → n ≡ 0 → (if t then n else 0) ≡ 0
    none_counted true n e = e
    none_counted false n e = refl

    uncounted : (x : LineFacts) → x.line ≡ blank_line → aired x ≡ 0
    uncounted x e =
        none_counted (x.here && has_areas x.areas) (sum_of (λ s. (state_of x.line s).count) x.versions)
        (sum_none (λ s. (state_of x.line s).count) (λ s. ap (λ (l : Line). (state_of l s).count) e ∙ ap (λ (k : KeyState). k.count) (blank_state s)) x.versions)

    killed : (line : Line) (id : ℕ) (down : Bool) (vs : List ℕ) → line ≡ blank_line → kills (unwanted line id down vs) vs ≡ []
    killed line id down vs e = ap (λ l. kills (unwanted l id down vs) vs) e ∙ kills_gone blank_line id down vs vs (all_gone vs)

    left : (line : Line) (id : ℕ) (down : Bool) (vs : List ℕ) → line ≡ blank_line → is_left (unwanted line id down vs) ≡ false
    left line id down vs e = ap (λ l. is_left (unwanted l id down vs)) e ∙ left_gone blank_line id down vs vs (all_gone vs)
