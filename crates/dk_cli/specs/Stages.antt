-- Stages that follow one another: each gives something to the next one, or refuses, and then nothing follows.
use Rattle.std.specs.Prelude.{◌≡◌, Ok, Err}
use Rattle.std.specs.declared.result.Result.{Result}
use Rattle.dk_cli.specs.declared.refusal.Refusal.{Refusal}
use Rattle.dk_cli.specs.declared.refusal.Refusal.TheVariants.{Memory}

-- what a call found, or the refusal that tells its fault
abbrev pub told_by : {A F : Type 0} → (F → Refusal) → Result A F → Result A Refusal
told_by tell (Ok found) = Ok found
told_by tell (Err fault) = Err (tell fault)

-- the answer of a call, with its fault told
abbrev pub IsToldBy : {A F : Type 0} → (F → Refusal) → (Result A F → Type 0) → Result A Refusal → Type 0
IsToldBy {A} {F} tell Is answer = (found : Result A F) × Is found × (answer ≡ told_by tell found)

-- the answer of the next stage, by that of the one before
abbrev pub Continues : {A B : Type 0} → (A → Result B Refusal → Type 0) → Result A Refusal → Result B Refusal → Type 0
Continues Next (Ok found) answer = Next found answer
Continues Next (Err refusal) answer = answer ≡ Err refusal

-- the answer of two stages
abbrev pub Follows : {A B : Type 0} → (Result A Refusal → Type 0) → (A → Result B Refusal → Type 0) → Result B Refusal → Type 0
Follows {A} First Next answer = (first : Result A Refusal) × First first × Continues Next first answer

-- A stage's answer, where memory may lack.
abbrev pub Answered : {A : Type 0} → (Result A Refusal → Type 0) → Result A Refusal → Type 0
Answered Is (Err Memory) = Unit {0}
Answered Is answer = Is answer
