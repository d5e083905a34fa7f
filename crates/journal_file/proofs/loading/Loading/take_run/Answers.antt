use Rattle.std.proofs.Common.{◌≡◌, ℕ, ◌+◌, ◌-◌, ◌≤◌, List, ◌++◌, length, take, refl, ◌∙◌, sym, ap, arith}
use Rattle.journal_file.specs.Lines.{kept_of}
use Rattle.journal_file.specs.Loading.{LoadingState}
use Rattle.journal_file.proofs.LineLemmas.{kept_run, kept_front}
use Rattle.journal_file.proofs.loading.Loading.take_run.Goals as goal
use Rattle.journal_file.proofs.loading.Loading.take_run.Goals.{then-run-room, else-run-room}

pub returns-clause-ok : goal.returns-clause-ok
returns-clause-ok c =
    let shown : c.self.inside.held.items ++ c.if-run-room.front.now ≡ kept_of (c.self.inside.held.items ++ c.args.run.now) =
    elim c.if-run-room.branch [
      | then-run-room w ↦
          let front : c.if-run-room.front.now ≡ take (600001 - c.len-room.result) c.args.run.now = rw w.front-is refl in
          let room : length c.self.inside.held.items + (600001 - c.len-room.result) ≡ 600001 = omega (arith, c.len-room.ensures, c.self.invariant.held_is) in
          ap (λ s. c.self.inside.held.items ++ s) front ∙ kept_front c.self.inside.held.items c.args.run.now (600001 - c.len-room.result) room
      | else-run-room w ↦
          let front : c.if-run-room.front.now ≡ c.args.run.now = rw w.front-is refl in
          let fits : length c.self.inside.held.items + length c.args.run.now ≤ 600001 = omega (arith, c.len-room.ensures, c.self.invariant.held_is, w.if-run-room.false) in
          ap (λ s. c.self.inside.held.items ++ s) front ∙ kept_run c.self.inside.held.items c.args.run.now fits
    ] in
    rw (← c.self.view_is) (ap (λ held. record { held = held; begun = c.self.inside.begun + length c.args.run.now; ended = c.self.inside.ended; octets = c.self.inside.octets + length c.args.run.now }) (c.in_ok-extend_from_slice.ensures.items ∙ shown))
