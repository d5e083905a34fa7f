use Rattle.std.proofs.Common.{◌≡◌, drop}
use Rattle.std.specs.Option.{option_map}
use Rattle.std.specs.Str.{encode_utf8_all}
use Rattle.std.specs.String.{string_bytes}
use Rattle.message_text.specs.Reading.{read_pages}
use Rattle.message_text.proofs.ReadingLemmas.{text_with}
use Rattle.message_text.proofs.reading.text_of.Given as goal

-- the letters so far and those to come are all
abbrev pub invariant-loop-page : goal.invariant-loop-page
invariant-loop-page l = text_with (string_bytes l.text) (read_pages l.coding (drop l.page-index l.pages)) ≡ option_map encode_utf8_all (read_pages l.coding l.pages)
