-- The message identifiers of public warnings, by their numbers (TS 23.041, 9.4.1.2.2).
use Rattle.std.specs.Prelude.{ℕ, List, [], ◌∷◌, codes}
use Rattle.message_identifiers.specs.declared.identifier.Identifier.{Identifier}
use Rattle.message_identifiers.specs.declared.usage.Usage.{Usage}
use Rattle.message_identifiers.specs.declared.usage.Usage.TheVariants.{Text, Emergency}

pub record Row : Type 0 where
  pub number : ℕ
  pub name : List ℕ
  pub usage : Usage

-- an identifier as a row of the table
abbrev pub row_for : Identifier → Row
row_for i = record { number = i.number; name = i.name.now; usage = i.usage }

-- an identifier of warnings with a text
abbrev pub text : ℕ → List ℕ → Row
text n called = record { number = n; name = called; usage = Text }

-- an identifier of emergency warnings
abbrev pub emergency : ℕ → List ℕ → Row
emergency n called = record { number = n; name = called; usage = Emergency }

-- the emergency warnings of the ETWS; the CMAS, whose first identifier is level 1 of EU-Alert, whose next two are its level 2, and
-- the six behind them its level 3; the same for additional languages, each 13 above; and what was added later
unfoldable pub table : List Row
table =
    emergency 4352 (codes "earthquake") ∷
    emergency 4353 (codes "tsunami") ∷
    emergency 4354 (codes "earthquake-and-tsunami") ∷
    emergency 4355 (codes "etws-test") ∷
    emergency 4356 (codes "etws-other") ∷
    text 4370 (codes "alert-1") ∷
    text 4371 (codes "alert-2") ∷
    text 4372 (codes "extreme-immediate-likely") ∷
    text 4373 (codes "alert-3") ∷
    text 4374 (codes "extreme-expected-likely") ∷
    text 4375 (codes "severe-immediate-observed") ∷
    text 4376 (codes "severe-immediate-likely") ∷
    text 4377 (codes "severe-expected-observed") ∷
    text 4378 (codes "severe-expected-likely") ∷
    text 4379 (codes "amber") ∷
    text 4380 (codes "test") ∷
    text 4381 (codes "exercise") ∷
    text 4382 (codes "operator") ∷
    text 4383 (codes "alert-1-language") ∷
    text 4384 (codes "alert-2-language") ∷
    text 4385 (codes "extreme-immediate-likely-language") ∷
    text 4386 (codes "alert-3-language") ∷
    text 4387 (codes "extreme-expected-likely-language") ∷
    text 4388 (codes "severe-immediate-observed-language") ∷
    text 4389 (codes "severe-immediate-likely-language") ∷
    text 4390 (codes "severe-expected-observed-language") ∷
    text 4391 (codes "severe-expected-likely-language") ∷
    text 4392 (codes "amber-language") ∷
    text 4393 (codes "test-language") ∷
    text 4394 (codes "exercise-language") ∷
    text 4395 (codes "operator-language") ∷
    text 4396 (codes "public-safety") ∷
    text 4397 (codes "public-safety-language") ∷
    text 4398 (codes "local-test") ∷
    text 4399 (codes "local-test-language") ∷
    []
