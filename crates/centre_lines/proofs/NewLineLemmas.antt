-- How the lines stand of a warning that isn't in the book: no line has to be read for it.
use Rattle.std.proofs.Common.{◌≡◌, ℕ, true, List, [], ◌∷◌, None, Option, sym, ◌∙◌, ap}
use Rattle.std.specs.List.{flat_map, list_any}
use Rattle.cell_register.specs.Register as register
use Rattle.cell_register.specs.Register.{is_place, place_in}
use Rattle.coverage_plan.specs.Plan.{State}
use Rattle.kept_tables.specs.Facts.{no_facts}
use Rattle.kept_tables.specs.Tables.{Tables}
use Rattle.kept_tables.specs.View.{key_at}
use Rattle.kept_tables.specs.declared.spot.Spot.{Spot}
use Rattle.mirror.specs.Table.{down_at, downs_of, is_that_place, line_at}
use Rattle.warning_book.specs.Book.{warning_of}
use Rattle.warning_book.specs.declared.kind.Kind.TheVariants as kind
use Rattle.warning_book.specs.declared.warning.Warning.{Warning}
use Rattle.centre_events.specs.Warnings.{kind_in}
use Rattle.centre_past.specs.Idle.{AsBefore}
use Rattle.centre_past.specs.State.{facts_from}
use Rattle.coverage_plan.specs.declared.edit.Edit.{Edit}
use Rattle.coverage_plan.specs.declared.edit.Edit.TheVariants as edit
use Rattle.centre_lines.specs.Following.{before_at, is_issue, line_before, lines_before}
use Rattle.centre_lines.specs.declared.line_before.LineBefore.{LineBefore}

-- the line at the spot of a warning that isn't in the book
abbrev pub new_line : register.State → Tables → ℕ → Spot → LineBefore
new_line r t n p = record { key = key_at p n; before = no_facts (down_at t.lines kind.Cbs p.bsc p.cell) (is_place (place_in r p.cell) p.bsc) }

-- as a list
abbrev pub new_at : register.State → Tables → ℕ → Spot → List LineBefore
new_at r t n p = new_line r t n p ∷ []

-- it stands so
new_before : (p : State) (t u : Tables) → AsBefore t u → (n : ℕ) → warning_of p.book n ≡ None → (q : Spot) → new_line p.register u n q ≡ line_before p t (key_at q n)
new_before p t u same n none q =
    ap (λ d. record { key = key_at q n; before = no_facts d (is_place (place_in p.register q.cell) q.bsc) }) (ap (λ ds. list_any (is_that_place q.bsc q.cell) (downs_of kind.Cbs ds)) same.downs)
    ∙ ap (λ (o : Option Warning). record { key = key_at q n; before = facts_from p.register p.areas (down_at t.lines (kind_in o) q.bsc q.cell) q.bsc q.cell (line_at t.lines q.bsc q.cell n) o }) (sym none)

-- an Issue passes over no line
issue_at : (e : Edit) → is_issue e ≡ true → (p : State) (t u : Tables) → AsBefore t u → (n : ℕ) → warning_of p.book n ≡ None → (q : Spot) → new_at p.register u n q ≡ before_at e p t (n ∷ []) q
issue_at (edit.Issue notice areas) issue p t u same n none q = ap (λ x. x ∷ []) (new_before p t u same n none q)
issue_at other issue p t u same n none q = cc

-- so at each of the spots
pub new_lines : (e : Edit) → is_issue e ≡ true → (p : State) (t u : Tables) → AsBefore t u → (n : ℕ) → warning_of p.book n ≡ None → (ps : List Spot) → flat_map (new_at p.register u n) ps ≡ lines_before e p t ps (n ∷ [])
new_lines e issue p t u same n none ps = λ i. flat_map (λ q. issue_at e issue p t u same n none q i) ps
