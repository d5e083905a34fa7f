-- The answer to a RESET (3GPP TS 48.049, 8.1.3).
use Rattle.std.specs.Prelude.{◌≡◌, ◌≢◌, ◌⊎◌, ℕ, Bool, true, List, [], ◌++◌, ◌∷◌, ◌||◌, Option, Some, None, nat_eq, if◌then◌else◌}
use Rattle.std.specs.List.{list_all, list_any}
use Rattle.std.specs.Option.{option_or}
use Rattle.cbsp_ie.specs.CellId.{names}
use Rattle.cbsp_ie.specs.Element.{IsElement}
use Rattle.cbsp_ie.specs.Identifications.{Identifications}
use Rattle.cbsp_ie.specs.declared.cell_id.CellId.{CellId}
use Rattle.cbsp_ie.specs.declared.element.Element.TheVariants as element
use Rattle.centre_past.specs.declared.lists.cell_row.CellRow.{CellRow}
use Rattle.common.specs.declared.cell.Cell.{Cell}
use Rattle.framing.specs.Streams.{Cuts}
use Rattle.framing.specs.declared.frame.Frame.{Frame}
use Rattle.link_resets.specs.declared.reset_answer.ResetAnswer.{ResetAnswer}
use Rattle.link_resets.specs.declared.reset_answer.ResetAnswer.TheVariants as answer

-- the frame, where it is of type 11, RESET COMPLETE, or 12, RESET FAILURE
abbrev pub answer_in : Frame → Option Frame
answer_in frame = if nat_eq frame.kind 17 || nat_eq frame.kind 18 then Some frame else None

-- the first answer in the frames
abbrev pub first_answer : List Frame → Option Frame
first_answer [] = None
first_answer (frame ∷ frames) = option_or (answer_in frame) (first_answer frames)

-- the octets came behind those of a frame that had begun: they make frames, whose first answer this is, and begin another
pub record Sees (begun octets : List ℕ) (answer : Option Frame) (rest : List ℕ) : Type 0 where
  pub frames : List Frame
  pub cuts : Cuts (begun ++ octets) frames rest
  pub first : answer ≡ first_answer frames

-- one of the identifications names the cell
abbrev pub is_named : List ℕ → List CellId → Cell → Bool
is_named plmn ids c = list_any (λ i. names plmn i c) ids

-- they name each of the cells
abbrev pub are_named : List ℕ → List CellId → List CellRow → Bool
are_named plmn ids cells = list_all (λ r. is_named plmn ids r.cell) cells

-- the body begins with a Cell List that names each of the cells
pub record ListsAll (plmn : List ℕ) (cells : List CellRow) (body : List ℕ) : Type 0 where
  pub text : List ℕ
  pub rest : List ℕ
  pub list : Identifications
  pub parts : body ≡ text ++ rest
  pub first : IsElement text (element.CellList list)
  pub named : are_named plmn list.ids cells ≡ true

-- a RESET COMPLETE with this body is of all the cells: it lists none, or each of them
abbrev pub IsOfAll : List ℕ → List CellRow → List ℕ → Type 0
IsOfAll plmn cells body = (body ≡ []) ⊎ ListsAll plmn cells body

-- what the frame comes to that a BSC with these cells sends as the answer
abbrev pub IsAnswer : List ℕ → List CellRow → Frame → ResetAnswer → Type 0
IsAnswer plmn cells frame answer.Complete = (frame.kind ≡ 17) × IsOfAll plmn cells frame.body
IsAnswer plmn cells frame answer.Partial = (frame.kind ≡ 17) × ¬ IsOfAll plmn cells frame.body
IsAnswer plmn cells frame answer.Failure = frame.kind ≢ 17
