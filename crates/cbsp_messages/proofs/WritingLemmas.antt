-- The parts of a message that fits have room in their elements.
use Rattle.std.proofs.Common.{◌<◌, arith}
use Rattle.std.specs.Prelude.{IfSome}
use Rattle.cbsp_messages.specs.declared.message.Message.{Message}
use Rattle.cbsp_messages.specs.declared.message.Message.TheVariants as message
use Rattle.cbsp_messages.specs.Lent.{PartsFit}
use Rattle.cbsp_messages.specs.Parts.{parts_of}
use Rattle.cbsp_messages.specs.Spelling.{HasPages}
use Rattle.cbsp_messages.specs.Written.{Fits}

few_pages : (m : Message) → HasPages m → IfSome (parts_of m).page_count (λ count. count < 256)
few_pages (message.WriteReplace m) h = omega (arith, h.1)
few_pages other h = tt

pub PartsFit-Fits : (m : Message) → Fits m → PartsFit (parts_of m)
PartsFit-Fits m fits = record { cells = fits.cells; counts = fits.counts; failures = fits.failures; page_count = few_pages m fits.pages }
