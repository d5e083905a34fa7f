-- All items of a file, one after another.
use Rattle.std.proofs.Common.{ℕ, ◌≤◌, List, [], ◌∷◌, ◌++◌, inl, inr, codes, length, refl, sym, ap, subst, append-nil, arith}
use Rattle.std.specs.List.{AllByRecursion, flat_map}
use Rattle.centre_past.specs.Legal.{Known, new_centre}
use Rattle.console.specs.Replays.{new_session}
use Rattle.console.specs.Sessions.{Answers, SessionState}
use Rattle.console.specs.Text.{IsText}
use Rattle.console.proofs.TextLemmas.{text_append}
use Rattle.console.proofs.UniqueLemmas.{one_text}
use Rattle.console_text.specs.Lines.{lines_of, longest_line, without_return}
use Rattle.console_text.specs.Parts.{HasNone}
use Rattle.console_text.specs.Texts.{response_text}
use Rattle.console_text.specs.declared.response.Response.TheVariants as response
use Rattle.journal_text.proofs.WordLemmas.{has_none}
use Rattle.journal_laws.specs.Files.{AreLegal, AreLines, Checkpoint, Entered, IsItemLine, Item, after_item, after_items, file_of, item_answer, item_answers}
use Rattle.journal_laws.specs.Replayed.{JournalIsReplayed, answers_text}
use Rattle.journal_laws.proofs.CommentLemmas.{comment_short, comment_silent}
use Rattle.journal_laws.proofs.FileLemmas.{lines_of_file}
use Rattle.journal_laws.proofs.StepLemmas.{Mirrors, answered_item, mirrors_then, session_then}
use Rattle.centre_events.specs.declared.network.Network.{Network}

-- the session after items
abbrev pub session_of : SessionState → List Item → SessionState
session_of s [] = s
session_of s (item ∷ items) = session_of (session_then s item) items

-- the text of the answers to items
abbrev pub text_of : Known → List Item → List ℕ
text_of centre items = flat_map response_text (item_answers centre items)

item_short : (item : Item) (octets : List ℕ) → IsItemLine item octets → length (without_return octets) ≤ longest_line
item_short (Entered e) octets is = let same = ap length is.whole in omega (arith, same, is.short)
item_short Checkpoint octets is = let same = ap (λ (text : List ℕ). length (without_return text)) is in omega (arith, same)

item_single : (item : Item) (octets : List ℕ) → IsItemLine item octets → HasNone 10 octets
item_single (Entered e) octets is = is.single
item_single Checkpoint octets is = subst (HasNone 10) (sym is) (has_none 10 31 (codes "checkpoint") (omega arith) refl)

all_single : (items : List Item) (lines : List (List ℕ)) → AreLines items lines → AllByRecursion (HasNone 10) lines
all_single [] [] are = tt
all_single [] (line ∷ lines) are = (are.0.1, all_single [] lines are.1)
all_single (item ∷ items) [] are = absurd are
all_single (item ∷ items) (line ∷ lines) (inl are) = (are.0.1, all_single (item ∷ items) lines are.1)
all_single (item ∷ items) (line ∷ lines) (inr are) = (item_single item line are.0, all_single items lines are.1)

-- the lines are answered, one after another, and comments by nothing
told_items : (centre : Known) (s : SessionState) → Mirrors centre s → (items : List Item) (lines : List (List ℕ)) → AreLegal centre items → AreLines items lines
    → IsText s lines (session_of s items) (text_of centre items)
told_items centre s m [] [] legal are = (refl, refl)
told_items centre s m [] (line ∷ lines) legal are =
    (response.Silence, s, [], comment_short line are.0, comment_silent s line are.0, told_items centre s m [] lines legal are.1, refl)
told_items centre s m (item ∷ items) [] legal are = absurd are
told_items centre s m (item ∷ items) (line ∷ lines) legal (inl are) = (
  response.Silence,
  s,
  text_of centre (item ∷ items),
  comment_short line are.0,
  comment_silent s line are.0,
  told_items centre s m (item ∷ items) lines legal are.1,
  refl,
)
told_items centre s m (item ∷ items) (line ∷ lines) legal (inr are) = (
  item_answer centre item,
  session_then s item,
  text_of (after_item item centre) items,
  item_short item line are.0,
  answered_item centre s m item line legal.0 are.0,
  told_items (after_item item centre) (session_then s item) (mirrors_then centre s m item legal.0) items lines legal.1 are.1,
  refl,
)

pub mirrors_items : (centre : Known) (s : SessionState) → Mirrors centre s → (items : List Item) → AreLegal centre items → Mirrors (after_items items centre) (session_of s items)
mirrors_items centre s m [] legal = m
mirrors_items centre s m (item ∷ items) legal =
    mirrors_items (after_item item centre) (session_then s item) (mirrors_then centre s m item legal.0) items legal.1

-- where nothing has happened
pub mirrors_new : (network : Network) (limit : ℕ) → Mirrors (new_centre network limit) (new_session network limit)
mirrors_new network limit = record {
  same = refl;
  whole = refl;
  alike = record { base = refl; count = refl };
  kept = λ b up. absurd (cc up);
}

-- an empty line asks for nothing
pub told_nothing : (s : SessionState) → IsText s ([] ∷ []) s []
told_nothing s = (response.Silence, s, [], omega arith, (refl, refl), (refl, refl), refl)

pub journal_is_replayed : JournalIsReplayed
journal_is_replayed network limit items lines legal are =
    let start = new_session network limit in
    let centre = new_centre network limit in
    let mirrors = mirrors_new network limit in
    let session = session_of start items in
    let text = answers_text network limit items in
    let whole : IsText start (lines ++ [] ∷ []) session (text ++ []) =
    text_append Answers start session session lines ([] ∷ []) text [] (told_items centre start mirrors items lines legal are) (told_nothing session) in
    let told : IsText start (lines_of (file_of lines)) session text =
    subst (λ ls. IsText start ls session text) (sym (lines_of_file lines (all_single items lines are))) (subst (λ t. IsText start (lines ++ [] ∷ []) session t) (append-nil text) whole) in
    record {
      session = session;
      told = told;
      centre = (mirrors_items centre start mirrors items legal).same;
      only = λ other said is. one_text start (lines_of (file_of lines)) other session said text is told;
    }
