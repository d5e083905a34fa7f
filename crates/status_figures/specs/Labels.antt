-- The value of a label, in the text format of Prometheus: a backslash, a quote and an end of a line are escaped.
use Rattle.std.specs.Prelude.{ℕ, ◌==◌, List, [], ◌∷◌, codes, if◌then◌else◌}
use Rattle.std.specs.List.{flat_map}

-- an octet of a value
abbrev pub label_octet : ℕ → List ℕ
label_octet b =
    if b == 92 then codes "\\\\"
    else (if b == 34 then codes "\\\""
    else (if b == 10 then codes "\\n"
    else (b ∷ [])))

-- a value
abbrev pub label_text : List ℕ → List ℕ
label_text value = flat_map label_octet value
