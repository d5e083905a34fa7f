use Rattle.std.proofs.Common.{◌≡◌, Bool, true, ◌&&◌, ◌||◌, sym, ◌∙◌, ap}
use Rattle.std.proofs.lemmas.Result.{on_ok_weaker}
use Rattle.std.specs.List.{list_any}
use Rattle.std.specs.Option.{option_copied}
use Rattle.kept_tables.specs.Changes.{change_of}
use Rattle.kept_tables.specs.View.{key_at}
use Rattle.kept_tables.specs.declared.step.Step.{Step}
use Rattle.mirror.specs.Table.{down_at, downs_of, is_that_place, line_at}
use Rattle.mirror.specs.declared.line_key.LineKey.{LineKey}
use Rattle.centre_events.specs.Down.{down_mark}
use Rattle.centre_events.specs.Warnings.{kind_in}
use Rattle.coverage_plan.specs.Plan.{State}
use Rattle.warning_book.specs.Book as book
use Rattle.warning_book.specs.Book.{warning_of}
use Rattle.centre_lines.specs.Following.{Happens, happens, is_idle, keeps_down, line_now, stays_so, step_to}
use Rattle.centre_past.specs.State.{facts_from}
use Rattle.centre_lines.proofs.StayLemmas.{stays_same}
use Rattle.centre_lines.proofs.WalkLemmas.{first_there, line_old, made_walked, next_step, stays_walked}
use Rattle.centre_lines.proofs.walking.walk_line.Goals as goal

pub returns-then-keeps_down-clause-walked : goal.returns-then-keeps_down-clause-walked
returns-then-keeps_down-clause-walked c =
    let h : Happens = happens c.args.h.now in
    let p : State = c.args.plan.now in
    let k : LineKey = key_at c.args.spot.now c.args.n in
    let line = c.read_line-line.result in
    let there : option_copied c.find-warning.result ≡ warning_of p.book c.args.n = c.find-warning.ensures ∙ ap (λ st. warning_of st c.args.n) c.book-book.ensures in
    let kinds : c.kind_in-kind.result ≡ kind_in (warning_of p.book c.args.n) = c.kind_in-kind.ensures ∙ ap kind_in there in
    let at : line ≡ line_at c.args.tables.now.lines k.bsc k.cell k.warning = c.read_line-line.ensures.line ∙ ap (λ (q : LineKey). line_at c.args.tables.now.lines q.bsc q.cell q.warning) c.key_at.ensures in
    let is : c.is_down-down.result ≡ down_at c.args.tables.now.lines (kind_in (warning_of p.book c.args.n)) k.bsc k.cell = c.is_down-down.ensures ∙ ap (λ downs. list_any (is_that_place k.bsc k.cell) (downs_of c.kind_in-kind.result downs)) c.read_line-line.ensures.downs ∙ ap (λ j. down_at c.args.tables.now.lines j k.bsc k.cell) kinds in
    let becomes : c.line_now-stepped.new.line ≡ line_now h p.book.warnings k.bsc k.cell (warning_of p.book c.args.n) line =
    c.line_now-stepped.ensures.line ∙ ap (λ ws. line_now h ws k.bsc k.cell (option_copied c.find-warning.result) line) (c.as_slice.ensures ∙ ap (λ (st : book.State). st.warnings) c.book-book.ensures) ∙ ap (λ o. line_now h p.book.warnings k.bsc k.cell o line) there in
    let idle : Bool = is_idle p.areas (option_copied c.find-warning.result) k.cell line in
    let keeps : keeps_down (down_mark (kind_in (option_copied c.find-warning.result)) k.bsc k.cell h.event h.answer) c.is_down-down.result ≡ true =
    ap (λ j. keeps_down (down_mark j k.bsc k.cell h.event h.answer) c.is_down-down.result) (sym c.kind_in-kind.ensures) ∙ sym c.keeps_down.ensures ∙ c.if-keeps_down.true in
    let stays : stays_so h p.areas k (option_copied c.find-warning.result) line c.line_now-stepped.new.line c.is_down-down.result ≡ true =
    ap (λ x. x && (keeps_down (down_mark (kind_in (option_copied c.find-warning.result)) k.bsc k.cell h.event h.answer) c.is_down-down.result || idle)) (sym c.is_left-is_left.ensures ∙ c.if-is_left.true) ∙ ap (λ x. x || idle) keeps in
    λ x.
    stays_walked x c.read_line-line.new.self c.read_line-line.ensures.same
    (stays_same x k line c.is_down-down.result (at ∙ line_old x k (first_there k)) (is ∙ x.downs (kind_in (warning_of p.book c.args.n)) k.bsc k.cell)
    (ap (λ y. stays_so h p.areas k (warning_of p.book c.args.n) line y c.is_down-down.result) (sym becomes) ∙ ap (λ o. stays_so h p.areas k o line c.line_now-stepped.new.line c.is_down-down.result) (sym there) ∙ stays))

pub take_step-requires : goal.take_step-requires
take_step-requires c =
    let h : Happens = happens c.args.h.now in
    let p : State = c.args.plan.now in
    let k : LineKey = key_at c.args.spot.now c.args.n in
    let line = c.read_line-line.result in
    let there : option_copied c.find-warning.result ≡ warning_of p.book c.args.n = c.find-warning.ensures ∙ ap (λ st. warning_of st c.args.n) c.book-book.ensures in
    let kinds : c.kind_in-kind.result ≡ kind_in (warning_of p.book c.args.n) = c.kind_in-kind.ensures ∙ ap kind_in there in
    next_step c.requires.walks c.read_line-line.new.self c.step_to.result line c.line_now-stepped.new.line c.is_down-down.result c.in_ok-before.before c.read_line-line.ensures.same
    (c.read_line-line.ensures.line ∙ ap (λ (q : LineKey). line_at c.args.tables.now.lines q.bsc q.cell q.warning) c.key_at.ensures)
    (c.is_down-down.ensures ∙ ap (λ downs. list_any (is_that_place k.bsc k.cell) (downs_of c.kind_in-kind.result downs)) c.read_line-line.ensures.downs ∙ ap (λ j. down_at c.args.tables.now.lines j k.bsc k.cell) kinds)
    (c.line_now-stepped.ensures.line ∙ ap (λ ws. line_now h ws k.bsc k.cell (option_copied c.find-warning.result) line) (c.as_slice.ensures ∙ ap (λ (st : book.State). st.warnings) c.book-book.ensures) ∙ ap (λ o. line_now h p.book.warnings k.bsc k.cell o line) there)
    (c.in_ok-before.ensures.facts ∙ ap (facts_from p.register p.areas c.is_down-down.result k.bsc k.cell line) there)
    (c.step_to.ensures ∙ ap (λ (q : LineKey). step_to h c.kind_in-kind.result q c.in_ok-before.before c.line_now-stepped.new.line) c.key_at-2.ensures ∙ ap (λ j. step_to h j k c.in_ok-before.before c.line_now-stepped.new.line) kinds)

pub returns-clause-walked : goal.returns-clause-walked
returns-clause-walked c =
    let h : Happens = happens c.args.h.now in
    let p : State = c.args.plan.now in
    let k : LineKey = key_at c.args.spot.now c.args.n in
    let line = c.read_line-line.result in
    let there : option_copied c.find-warning.result ≡ warning_of p.book c.args.n = c.find-warning.ensures ∙ ap (λ st. warning_of st c.args.n) c.book-book.ensures in
    let kinds : c.kind_in-kind.result ≡ kind_in (warning_of p.book c.args.n) = c.kind_in-kind.ensures ∙ ap kind_in there in
    let steps : c.step_to.result ≡ step_to h (kind_in (warning_of p.book c.args.n)) k c.in_ok-before.before c.line_now-stepped.new.line =
    c.step_to.ensures ∙ ap (λ (q : LineKey). step_to h c.kind_in-kind.result q c.in_ok-before.before c.line_now-stepped.new.line) c.key_at-2.ensures ∙ ap (λ j. step_to h j k c.in_ok-before.before c.line_now-stepped.new.line) kinds in
    on_ok_weaker c.take_step.result
    (λ done x.
    made_walked x c.take_step.new.self (change_of c.step_to.result) (ap (λ (y : Step). y.key) steps)
    (done
    (next_step x c.read_line-line.new.self c.step_to.result line c.line_now-stepped.new.line c.is_down-down.result c.in_ok-before.before c.read_line-line.ensures.same
    (c.read_line-line.ensures.line ∙ ap (λ (q : LineKey). line_at c.args.tables.now.lines q.bsc q.cell q.warning) c.key_at.ensures)
    (c.is_down-down.ensures ∙ ap (λ downs. list_any (is_that_place k.bsc k.cell) (downs_of c.kind_in-kind.result downs)) c.read_line-line.ensures.downs ∙ ap (λ j. down_at c.args.tables.now.lines j k.bsc k.cell) kinds)
    (c.line_now-stepped.ensures.line ∙ ap (λ ws. line_now h ws k.bsc k.cell (option_copied c.find-warning.result) line) (c.as_slice.ensures ∙ ap (λ (st : book.State). st.warnings) c.book-book.ensures) ∙ ap (λ o. line_now h p.book.warnings k.bsc k.cell o line) there)
    (c.in_ok-before.ensures.facts ∙ ap (facts_from p.register p.areas c.is_down-down.result k.bsc k.cell line) there)
    steps)))
    c.take_step.ensures.made
