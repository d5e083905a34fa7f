-- Streams that come in pieces.
use Rattle.std.proofs.Common.{◌≡◌, ℕ, ◌<◌, List, [], ◌∷◌, ◌++◌, length, drop, refl, sym, ap, ◌∙◌, subst, arith, append_assoc, append-nil}
use Rattle.std.specs.Prelude.{option_to_list}
use Rattle.std.proofs.lemmas.List.{length-take-le, take-append-drop}
use Rattle.framing.specs.declared.frame.Frame.{Frame}
use Rattle.framing.specs.Streams.{Cuts, IsTooLong, announced}
use Rattle.cbsp_ie.specs.Frame.{longest_body}
use Rattle.framing.specs.Framers.{Framing, fresh}
use Rattle.framing.specs.Runs.{Step, Fed, Asked, Runs, fed, given, AnyPieces, RefusedStream, TakenStream, StaysTooLong}
use Rattle.framing.proofs.StreamLemmas.{one_cut, pieces_join, no_frame-nil, announced-append}

-- a piece more, of which some frames come behind those that are there
pub Cuts-more : (stream piece rest tail : List ℕ) (gave old more new : List Frame) → Cuts stream (gave ++ old) rest → Cuts (rest ++ piece) more tail
    → new ≡ old ++ more → Cuts (stream ++ piece) (gave ++ new) tail
Cuts-more stream piece rest tail gave old more new p q same =
    subst (λ fs. Cuts (stream ++ piece) fs tail) (append_assoc gave old more ∙ ap (λ fs. gave ++ fs) (sym same)) (pieces_join stream piece (gave ++ old) more rest tail p q)

-- from a framer that has cut a stream, and given some of its frames
pub runs_cut : (steps : List Step) (old now : Framing) (stream : List ℕ) (gave : List Frame) → Cuts stream (gave ++ old.frames) old.rest
    → Runs old steps now → Cuts (stream ++ fed steps) ((gave ++ given steps) ++ now.frames) now.rest
runs_cut [] old now stream gave cut same = rw (same, append-nil stream, append-nil gave) cut
runs_cut (Fed piece ∷ steps) old now stream gave cut run =
    let taken = run.1 in
    let one = Cuts-more stream piece old.rest run.0.rest gave old.frames taken.more run.0.frames cut taken.cuts taken.frames in
    subst (λ s. Cuts s ((gave ++ given steps) ++ now.frames) now.rest) (append_assoc stream piece (fed steps)) (runs_cut steps run.0 now (stream ++ piece) gave one run.2)
runs_cut (Asked frame ∷ steps) old now stream gave cut run =
    let some = option_to_list frame in
    let regrouped : gave ++ old.frames ≡ (gave ++ some) ++ run.0.frames = ap (λ fs. gave ++ fs) run.1.0 ∙ sym (append_assoc gave some run.0.frames) in
    let one : Cuts stream ((gave ++ some) ++ run.0.frames) run.0.rest = subst (λ r. Cuts stream ((gave ++ some) ++ run.0.frames) r) (sym run.1.1) (subst (λ fs. Cuts stream fs old.rest) regrouped cut) in
    subst (λ fs. Cuts (stream ++ fed steps) (fs ++ now.frames) now.rest) (append_assoc gave some (given steps)) (runs_cut steps run.0 now stream (gave ++ some) one run.2)

-- nothing is cut of nothing
Cuts-nil : Cuts [] [] []
Cuts-nil = record { whole = refl; each = tt; partial = no_frame-nil }

pub any_pieces : AnyPieces
any_pieces steps now run = runs_cut steps fresh now [] [] Cuts-nil run

pub refused_stream : RefusedStream
refused_stream steps now new piece n run ends =
    (ends.tail, Cuts-more (fed steps) piece now.rest ends.tail (given steps) now.frames ends.more new.frames (any_pieces steps now run) ends.cuts ends.frames, ends.too_long, ends.length_is)

pub taken_stream : TakenStream
taken_stream steps now new piece run takes frames n long =
    let cut = Cuts-more (fed steps) piece now.rest new.rest (given steps) now.frames takes.more new.frames (any_pieces steps now run) takes.cuts takes.frames in
    let same = one_cut (fed steps ++ piece) frames (given steps ++ new.frames) long.0 new.rest long.1 cut in
    takes.fits (subst IsTooLong same.1 long.2)

pub stays_too_long : StaysTooLong
stays_too_long old new piece n ends =
    let four : length new.rest ≡ 4 = ap length ends.rest ∙ length-take-le 4 ends.tail ends.too_long.0 in
    let same : announced new.rest ≡ announced ends.tail =
    sym (announced-append new.rest (drop 4 ends.tail) (omega arith)) ∙ ap (λ xs. announced (xs ++ drop 4 ends.tail)) ends.rest ∙ ap announced (take-append-drop 4 ends.tail) in
    ((omega arith, subst (λ k. longest_body < k) (sym same) ends.too_long.1), same ∙ sym ends.length_is, four)
