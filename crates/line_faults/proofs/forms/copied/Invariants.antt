use Rattle.std.proofs.Common.{◌≡◌, ◌++◌, drop, map}
use Rattle.line_faults.proofs.forms.copied.Given as goal

-- the forms so far, and those ahead, are all of them
abbrev pub invariant-loop-form : goal.invariant-loop-form
invariant-loop-form l = l.names.items ++ map (λ form. form.now) (drop l.form-index l.forms) ≡ map (λ form. form.now) l.forms
