use Rattle.std.proofs.Common.{◌≡◌, List, ℕ, ◌++◌, length, drop, ◌∙◌, sym, ap, append_assoc}
use Rattle.std.proofs.lemmas.Bool.Decides.{Decides-eqb}
use Rattle.std.proofs.lemmas.Slice.Eq.{starts_is}
use Rattle.journal_file.specs.First.{header_line}
use Rattle.journal_file.proofs.FirstLemmas.{shorter_front}
use Rattle.journal_file.proofs.CrashLemmas.{longer_begins}
use Rattle.journal_file.proofs.first_line.is_torn_header.Goals as goal

pub returns : goal.returns
returns c =
    let shown = c.without_zeros.result.now in
    let without = c.without_zeros.ensures in
    let is : c.as_slice.result.now ≡ header_line c.args.heading = c.as_slice.ensures.value ∙ c.header.ensures.line in
    let starts = starts_is Decides-eqb c.as_slice.result.now shown c.starts_with.result c.starts_with.ensures.value in (
      λ yes. record { shown = shown; zeros = without.zeros; more = drop (length shown) c.as_slice.result.now; octets_are = without.whole; header_is = sym is ∙ starts.0 yes },
      λ torn.
          let fits = shorter_front c.args.octets.now shown torn.shown torn.zeros without torn.octets_are in
          let begins = longer_begins torn.shown shown _ _ (sym torn.octets_are ∙ without.whole) fits in
          starts.1 (begins.0 ++ torn.more) (is ∙ torn.header_is ∙ ap (λ s. s ++ torn.more) begins.1 ∙ append_assoc shown begins.0 torn.more),
    )
