use Rattle.std.proofs.Common.{length, ap, ◌∙◌, arith}
use Rattle.console_text.specs.Lines.{without_return}
use Rattle.console.proofs.console.Console.end_line.Goals as goal

-- the answer is that of the line that had begun, and a prefix of it was written
pub returns-clause-err : goal.returns-clause-err
returns-clause-err g c =
    let line = c.without_return-line.ensures ∙ ap without_return c.deref.ensures.value in
    rw (← c.self.view_is) (record {
      response = c.in_ok-response.response;
      session = c.answer.new.self;
      short = omega (arith, ap length line);
      answered = rw line at c.in_ok-response.ensures.answer;
      written = rw (c.as_bytes.ensures.value, c.in_ok-text.ensures) at c.in-Err.ensures.part;
    })
