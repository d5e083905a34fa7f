-- The steps that both walks share: how a history is made of a mark without octets.
use Rattle.std.proofs.Common.{List, [], ◌∷◌, refl}
use seplogic.Ra.Ura.{Ura}
use mir.Val.{Val, vstruct, vcons, vnil}
use types.Logic.{Logic}
use types.Kit.{Goal, Step, step, Item, ‵, ◌$◌, move, fjoin, fpack, feq_i}
use denote.RattleType.{RattleType, Valss}
use denote.Steps.{nothing}
use denote.Struct.Struct.{Struct, within}

-- a struct without fields, as the machine keeps it
abbrev pub no_fields : Val
no_fields = vstruct vnil

-- a struct of one field
abbrev pub one_field : Val → Val
one_field u = vstruct (vcons u vnil)

-- a struct of these fields; what it owns does not depend on its name
abbrev pub of_fields : List RattleType → RattleType
of_fields rows = Struct (record { name = []; args = []; types = []; fields = rows })

-- a struct is made of its one field
pub made_of_one : {M : Type 1} {𝓤 : Ura M} {𝓛 : Logic 𝓤} {K : Type 0} {Γ : List (Item 𝓤)} {G : Goal 𝓤 𝓛.H} → K → (row : RattleType) (x : row.Denot) (u : Val) → Step K 𝓛 (‵ ((of_fields (row ∷ [])).own_val (x, tt) (one_field u ∷ [])) ∷ Γ) G (‵ (row.own_val x (u ∷ [])) ∷ Γ) G
made_of_one t row x u = step (λ s.
    nothing t $ move t (1 ∷ 0 ∷ []) $ fjoin t $ feq_i t (List Val) (one_field u ∷ []) (one_field u ∷ []) refl $ fjoin t $
    fpack t (Valss (row ∷ [])) (within (record { name = []; args = []; types = []; fields = row ∷ [] }) (x, tt) (one_field u ∷ [])) (u ∷ [], tt) $ s)
