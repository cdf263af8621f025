-- What the proofs on reading texts share.
use Rattle.std.proofs.Common.{◌≡◌, ℕ, suc, ◌-◌, ◌+◌, ◌<◌, ◌≤◌, ◌++◌, List, [], ◌∷◌, length, None, Result, Ok, Err, refl, sym, ap, ◌∙◌, append_assoc, arith}
use Rattle.std.proofs.lemmas.Grind.{common_steps}
use Rattle.lp_term.specs.declared.Command.{Command}
use Rattle.dedukti_read.specs.declared.fault.DkFault.{DkFault}
use Rattle.dedukti_read.specs.declared.fault.DkFault.TheVariants.{NotDk}
use Rattle.dedukti_read.specs.declared.state.Mode.{Mode}
use Rattle.dedukti_read.specs.declared.state.Place.{Place}
use Rattle.dedukti_read.specs.ReadingText.{◌then◌, commands_at, commands_from, followed, one_at, read_from, turn_at}
use Rattle.dedukti_read.specs.Scan.{skip}

pub read_layer : (n i : ℕ) (mode : Mode) (place : Place) (bytes : List ℕ) → i < n → read_from (n - i) mode place bytes ≡ followed (read_from (n - (i + 1))) (turn_at mode place (skip bytes))
unfolding read_from
read_layer n i mode place bytes lt = let e : n - i ≡ suc (n - (i + 1)) = omega arith in ap (λ (k : ℕ). read_from k mode place bytes) e

pub read_none : (n i : ℕ) (mode : Mode) (place : Place) (bytes : List ℕ) → n ≤ i → read_from (n - i) mode place bytes ≡ None
unfolding read_from
read_none n i mode place bytes le = let e : n - i ≡ 0 = omega arith in ap (λ (k : ℕ). read_from k mode place bytes) e

-- what was read before, and what is still read
abbrev pub with_commands : List Command → Result (List Command) DkFault → Result (List Command) DkFault
with_commands front (Ok commands) = Ok (front ++ commands)
with_commands front (Err fault) = Err fault

pub commands_layer : (total n i : ℕ) (bytes : List ℕ) → i < n → commands_at total (n - i) bytes ≡ commands_from total (commands_at total (n - (i + 1))) (skip bytes)
unfolding commands_at
commands_layer total n i bytes lt = let e : n - i ≡ suc (n - (i + 1)) = omega arith in ap (λ (k : ℕ). commands_at total k bytes) e

pub commands_none : (total n i : ℕ) (bytes : List ℕ) → n ≤ i → commands_at total (n - i) bytes ≡ Err (NotDk 0)
unfolding commands_at
commands_none total n i bytes le = let e : n - i ≡ 0 = omega arith in ap (λ (k : ℕ). commands_at total k bytes) e

pub front_command : (front : List Command) (first : Command) (read : Result (List Command) DkFault) → with_commands front (read then λ commands. Ok (first ∷ commands)) ≡ with_commands (front ++ first ∷ []) read
front_command front first (Ok commands) = ap (λ (all : List Command). Ok all) (simp append_assoc)
front_command front first (Err fault) = refl

pub commands_step : (total : ℕ) (more : List ℕ → Result (List Command) DkFault) (here : List ℕ) (command : Command) (after : List ℕ) → 0 < length here → one_at (total - length here) here ≡ Ok (command, after)
    → commands_from total more here ≡ (more after then λ commands. Ok (command ∷ commands))
unfolding commands_from
commands_step total more [] command after lt h = absurd (omega arith)
commands_step total more (b ∷ bytes) command after lt h = rw h refl

-- the loop goes on behind a command
pub goes_on : (total n i : ℕ) (bytes here : List ℕ) (front : List Command) (command : Command) (after : List ℕ) (whole : Result (List Command) DkFault)
    → i < n → here ≡ skip bytes → 0 < length here → one_at (total - length here) here ≡ Ok (command, after)
    → with_commands front (commands_at total (n - i) bytes) ≡ whole → with_commands (front ++ command ∷ []) (commands_at total (n - (i + 1)) after) ≡ whole
goes_on total n i bytes here front command after whole lt is some h so_far =
    let layer = commands_layer total n i bytes lt in
    let step = commands_step total (commands_at total (n - (i + 1))) here command after some h in
    sym (front_command front command (commands_at total (n - (i + 1)) after)) ∙ ap (with_commands front) (sym step ∙ ap (commands_from total (commands_at total (n - (i + 1)))) is ∙ sym layer) ∙ so_far

pub ruleset text_steps = (common_steps, read_layer, read_none, commands_layer, commands_none, front_command)
