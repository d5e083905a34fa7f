-- Why an edit is refused: the first of its checks that holds. Each crate has refusals of its own.
use Rattle.std.specs.Prelude.{Bool, List, [], ◌∷◌, Option, Some, None, if◌then◌else◌}

-- the refusal of the first check that holds
abbrev pub first_refusal : {E : Type 0} → List (Bool × E) → Option E
first_refusal [] = None
first_refusal (check ∷ checks) = if check.0 then Some check.1 else first_refusal checks
