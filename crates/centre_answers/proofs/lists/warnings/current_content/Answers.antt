use Rattle.std.proofs.Common.{◌∙◌, ◌-◌, Some, ap, sym}
use Rattle.std.specs.Prelude.{length, slice_get}
use Rattle.std.specs.Option.{option_map}
use Rattle.warning_book.proofs.VersionLemmas.{last_at}
use Rattle.warning_book.specs.declared.content.Content.{Content}
use Rattle.warning_book.specs.declared.version.Version.{Version}
use Rattle.centre_answers.proofs.lists.warnings.current_content.Goals as goal

pub returns-in_ok-copied-in-Some : goal.returns-in_ok-copied-in-Some
returns-in_ok-copied-in-Some c =
    ap (λ (x : Content). Some x) c.in_ok-copied-in-Some.ensures
    ∙ ap (option_map (λ (v : Version). v.content)) (c.in-Some.ensures.value ∙ ap (λ vs. slice_get vs (length vs - 1)) c.versions.ensures ∙ sym (last_at c.args.w.now.versions))
