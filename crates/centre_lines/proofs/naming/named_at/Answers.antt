use Rattle.std.proofs.Common.{◌∙◌, nat_eq, ltb, ap, sym}
use Rattle.std.specs.List.{list_any}
use Rattle.areas.specs.Areas.{areas_of}
use Rattle.common.specs.Order.{is_ascending}
use Rattle.warning_book.specs.Book as book
use Rattle.warning_book.specs.Book.{names_one_of, number_lt}
use Rattle.warning_book.proofs.QuestionLemmas.{numbers_ascend, numbers_passing}
use Rattle.centre_lines.proofs.naming.named_at.Goals as goal

pub returns-clause-which : goal.returns-clause-which
returns-clause-which c =
    λ n. ap (list_any (nat_eq n)) c.in_ok-named.ensures.all ∙ numbers_passing (names_one_of (areas_of c.args.plan.now.areas c.args.c)) n c.args.plan.now.book.warnings

pub returns-clause-order : goal.returns-clause-order
returns-clause-order c =
    ap (is_ascending ltb) c.in_ok-named.ensures.all
    ∙ numbers_ascend (names_one_of (areas_of c.args.plan.now.areas c.args.c)) c.args.plan.now.book.warnings (ap (λ (st : book.State). is_ascending number_lt st.warnings) (sym c.book.ensures) ∙ c.tell_soundness.ensures.ordered)
