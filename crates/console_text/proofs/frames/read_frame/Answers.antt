use Rattle.std.proofs.Common.{arith}
use Rattle.console_text.proofs.FrameLemmas.{no_frame_held, no_frame_too_long}
use Rattle.console_text.proofs.frames.read_frame.Goals as goal

pub returns-in-Err-TooLong : goal.returns-in-Err-TooLong
returns-in-Err-TooLong c =
    no_frame_too_long _ _ _ _ c.new-framer.ensures (rw c.in-Err-TooLong.field-0-is at c.in-Err-TooLong.ensures.refused)

pub returns-then-rest-ne0 : goal.returns-then-rest-ne0
returns-then-rest-ne0 c = no_frame_held _ _ _ c.new-framer.ensures c.in-Ok.ensures.taken (omega arith)
