-- What the reader of a text answers is the one answer of the text.
use Rattle.std.proofs.Common.{◌≡◌, ◌≢◌, ℕ, zero, suc, ◌+◌, ◌-◌, ◌≤◌, ◌<◌, true, false, List, [], ◌∷◌, length, Option, Some, None, Result, Ok, Err, inl, inr, refl, sym, ap, subst, ◌∙◌, append-nil, arith}
use Rattle.std.proofs.lemmas.Bool.{cases_Bool, ltb-true, ltb-false, lt-ltb}
use Rattle.lp_term.specs.declared.Command.{Command}
use Rattle.lp_term.specs.declared.Dev.{Dev}
use Rattle.dedukti_read.specs.declared.fault.DkFault.{DkFault}
use Rattle.dedukti_read.specs.declared.fault.DkFault.TheVariants.{NotDk, TooDeep, Memory}
use Rattle.dedukti_read.specs.declared.state.Mode.TheVariants as m
use Rattle.dedukti_read.specs.declared.state.Said.{Said}
use Rattle.dedukti_read.specs.Machine.{command_of, outside}
use Rattle.dedukti_read.specs.Matter.{Skips}
use Rattle.dedukti_read.specs.ReadingText.{◌then◌, Answers, as_development, commands_at, commands_from, is_too_deep, one_at, read_from, weighed}
use Rattle.dedukti_read.specs.Scan.{skip}
use Rattle.lp_read.specs.SideDepth.{IsTooDeep, command_depth}
use Rattle.dedukti_read.specs.Text.{BeginsCommand, IsShallow, AreCommands, NoCommand, CommandFirst, FaultAt, HasNoCommand, HasDeepCommand, IsReadDkAnswer}
use Rattle.dedukti_read.proofs.MatterLaws.{skips_only, skips_shorter, skips_so}
use Rattle.dedukti_read.proofs.TextLaws.{begins_only, begins_shorter, begins_so, not_some, same_said}
use Rattle.dedukti_read.proofs.TextSteps.{commands_step, with_commands}

-- ---- what is answered is so

-- the place of a fault from here on
record FaultFrom (Is : List ℕ → Type 0) (total : ℕ) (bytes : List ℕ) (at : ℕ) : Type 0 where
  commands : List Command
  here : List ℕ
  front : AreCommands IsShallow bytes commands here
  some : 0 < length here
  place : at ≡ total - length here
  is : Is here

-- what an answer says of the bytes from here on
abbrev Says : ℕ → List ℕ → Result (List Command) DkFault → Type 0
Says total bytes (Ok commands) = AreCommands IsShallow bytes commands []
Says total bytes (Err (NotDk at)) = FaultFrom HasNoCommand total bytes at
Says total bytes (Err (TooDeep at)) = FaultFrom HasDeepCommand total bytes at
Says total bytes (Err Memory) = ⊥

module _ (total : ℕ) (bytes here : List ℕ) (c : Command) (after : List ℕ) (s : Skips bytes here) (b : BeginsCommand here c after) (w : IsShallow c) where
  lift : (Is : List ℕ → Type 0) (at : ℕ) → FaultFrom Is total after at → FaultFrom Is total bytes at
  lift Is at f = record {
    commands = c ∷ f.commands;
    here = f.here;
    front = CommandFirst bytes here c after f.commands f.here s b w f.front;
    some = f.some;
    place = f.place;
    is = f.is;
  }

  lift_all : (r : Result (List Command) DkFault) → Says total after r → Says total bytes (r then λ commands. Ok (c ∷ commands))
  lift_all (Ok commands) h = CommandFirst bytes here c after commands [] s b w h
  lift_all (Err (NotDk at)) h = lift HasNoCommand at h
  lift_all (Err (TooDeep at)) h = lift HasDeepCommand at h
  lift_all (Err Memory) h = absurd h

deep_so : (c : Command) → is_too_deep c ≡ true → IsTooDeep c
deep_so c e = ltb-true 10000 (command_depth c) e

shallow_so : (c : Command) → is_too_deep c ≡ false → IsShallow c
shallow_so c e = λ deep. let few = ltb-false 10000 (command_depth c) e in absurd (omega (arith, few, deep))

module _ (total n : ℕ) (bytes here : List ℕ) (s : Skips bytes here) (some : 0 < length here) (le : length bytes ≤ n) (goes : (after : List ℕ) → length after < n → Says total after (commands_at total n after)) where
  fault_here : (Is : List ℕ → Type 0) → Is here → FaultFrom Is total bytes (total - length here)
  fault_here Is is = record { commands = []; here = here; front = NoCommand bytes here s; some = some; place = refl; is = is }

  says_read : (o : Option (Said × List ℕ)) → read_from (length here) m.Command outside here ≡ o → Says total bytes (weighed (total - length here) o then λ c. commands_at total n c.1 then λ commands. Ok (c.0 ∷ commands))
  says_read None e = fault_here HasNoCommand (λ c after b. not_some (sym e ∙ begins_only b))
  says_read (Some (whole, after)) e = elim (cases_Bool (is_too_deep (command_of whole))) [
    | inl deep ↦ rw deep (fault_here HasDeepCommand (command_of whole, after, begins_so here whole after e, deep_so (command_of whole) deep))
    | inr flat ↦
        let b = begins_so here whole after e in
        let less = begins_shorter b in let few = skips_shorter s in
        rw flat (lift_all total bytes here (command_of whole) after s b (shallow_so (command_of whole) flat) (commands_at total n after) (goes after (omega arith)))
  ]

says_from : (total n : ℕ) (bytes here : List ℕ) → Skips bytes here → length bytes ≤ n → ((after : List ℕ) → length after < n → Says total after (commands_at total n after)) → Says total bytes (commands_from total (commands_at total n) here)
unfolding commands_from one_at
says_from total n bytes [] s le goes = NoCommand bytes [] s
says_from total n bytes (b ∷ here) s le goes = says_read total n bytes (b ∷ here) s (omega arith) le goes (read_from (length (b ∷ here)) m.Command outside (b ∷ here)) refl

says : (total n : ℕ) (bytes : List ℕ) → length bytes < n → Says total bytes (commands_at total n bytes)
unfolding commands_at
says total zero bytes lt = absurd (omega arith)
says total (suc n) bytes lt = says_from total n bytes (skip bytes) (skips_so bytes) (omega arith) (says total n)

abbrev pub text_at : List ℕ → Result (List Command) DkFault
text_at bytes = commands_at (length bytes) (length bytes + 1) bytes

fault_of : {Is : List ℕ → Type 0} {bytes : List ℕ} {at : ℕ} → FaultFrom Is (length bytes) bytes at → FaultAt Is bytes at
fault_of f = record { commands = f.commands; here = f.here; front = f.front; some = f.some; place = f.place; is = f.is }

said_answer : (bytes : List ℕ) (r : Result (List Command) DkFault) → Says (length bytes) bytes r → IsReadDkAnswer bytes (as_development r)
said_answer bytes (Ok commands) h = h
said_answer bytes (Err (NotDk at)) h = fault_of h
said_answer bytes (Err (TooDeep at)) h = fault_of h
said_answer bytes (Err Memory) h = absurd h

-- what code answered is an answer of the text
pub answers : (bytes : List ℕ) (r : Result (List Command) DkFault) → Answers (λ x. x) r (text_at bytes) → IsReadDkAnswer bytes (as_development r)
answers bytes (Ok commands) e = said_answer bytes (Ok commands) (subst (Says (length bytes) bytes) e (says (length bytes) (length bytes + 1) bytes (omega arith)))
answers bytes (Err (NotDk at)) e = said_answer bytes (Err (NotDk at)) (subst (Says (length bytes) bytes) e (says (length bytes) (length bytes + 1) bytes (omega arith)))
answers bytes (Err (TooDeep at)) e = said_answer bytes (Err (TooDeep at)) (subst (Says (length bytes) bytes) e (says (length bytes) (length bytes + 1) bytes (omega arith)))
answers bytes (Err Memory) e = tt

-- ---- and whatever is so is answered

flat_test : (c : Command) → IsShallow c → is_too_deep c ≡ false
flat_test c w = elim (cases_Bool (is_too_deep c)) [ inl e ↦ absurd (w (deep_so c e)) | inr e ↦ e ]

one_ok : (at : ℕ) {here : List ℕ} {c : Command} {after : List ℕ} → BeginsCommand here c after → IsShallow c → one_at at here ≡ Ok (c, after)
unfolding one_at
one_ok at {here} {c} {after} b w = rw (begins_only b, same_said c, flat_test c w) refl

one_deep : (at : ℕ) {here : List ℕ} {c : Command} {after : List ℕ} → BeginsCommand here c after → IsTooDeep c → one_at at here ≡ Err (TooDeep at)
unfolding one_at
one_deep at {here} {c} {after} b deep = rw (begins_only b, same_said c, lt-ltb 10000 (command_depth c) deep) refl

one_none : (at : ℕ) (here : List ℕ) → HasNoCommand here → (o : Option (Said × List ℕ)) → read_from (length here) m.Command outside here ≡ o → weighed at o ≡ Err (NotDk at)
one_none at here none None e = refl
one_none at here none (Some (whole, after)) e = absurd (none (command_of whole) after (begins_so here whole after e))

fault_stands : (total : ℕ) (more : List ℕ → Result (List Command) DkFault) (here : List ℕ) (fault : DkFault) → 0 < length here → one_at (total - length here) here ≡ Err fault → commands_from total more here ≡ Err fault
unfolding commands_from
fault_stands total more [] fault some e = absurd (omega arith)
fault_stands total more (b ∷ here) fault some e = rw e refl

with_none : (r : Result (List Command) DkFault) → r ≡ with_commands [] r
with_none (Ok commands) = refl
with_none (Err fault) = refl

with_first : (c : Command) (cs : List Command) (r : Result (List Command) DkFault) → (with_commands cs r then λ commands. Ok (c ∷ commands)) ≡ with_commands (c ∷ cs) r
with_first c cs (Ok commands) = refl
with_first c cs (Err fault) = refl

some_here : {here : List ℕ} {c : Command} {after : List ℕ} → BeginsCommand here c after → 0 < length here
some_here b = let less = begins_shorter b in omega arith

front_reads : {bytes : List ℕ} {cs : List Command} {here : List ℕ} → AreCommands IsShallow bytes cs here → (total n : ℕ) → length bytes < n → (r : Result (List Command) DkFault)
    → ((more : List ℕ → Result (List Command) DkFault) → commands_from total more here ≡ r) → commands_at total n bytes ≡ with_commands cs r
unfolding commands_at
front_reads f total zero lt r reads = absurd (omega arith)
front_reads (NoCommand bytes here s) total (suc n) lt r reads = rw (skips_only s) (reads (commands_at total n) ∙ with_none r)
front_reads (CommandFirst bytes here c after cs there s b w f) total (suc n) lt r reads =
    let few = skips_shorter s in let less = begins_shorter b in
    rw (skips_only s)
    (commands_step total (commands_at total n) here c after (some_here b) (one_ok (total - length here) b w)
    ∙ ap (λ (x : Result (List Command) DkFault). x then λ commands. Ok (c ∷ commands)) (front_reads f total n (omega arith) r reads)
    ∙ with_first c cs r)

fault_only : (Is : List ℕ → Type 0) (bytes : List ℕ) (at : ℕ) (fault : ℕ → DkFault) (f : FaultAt Is bytes at) → one_at (length bytes - length f.here) f.here ≡ Err (fault (length bytes - length f.here)) → text_at bytes ≡ Err (fault at)
fault_only Is bytes at fault f e =
    front_reads f.front (length bytes) (length bytes + 1) (omega arith) (Err (fault (length bytes - length f.here))) (λ more. fault_stands (length bytes) more f.here (fault (length bytes - length f.here)) f.some e)
    ∙ ap (λ (k : ℕ). (let r : Result (List Command) DkFault = Err (fault k) in r)) (sym f.place)

at_end : (total : ℕ) (more : List ℕ → Result (List Command) DkFault) → commands_from total more [] ≡ Ok []
unfolding commands_from
at_end total more = refl

-- an answer as a list of commands
abbrev as_list : Result Dev DkFault → Result (List Command) DkFault
as_list (Ok development) = Ok development.commands
as_list (Err fault) = Err fault

text_only : (bytes : List ℕ) (r : Result Dev DkFault) → IsReadDkAnswer bytes r → r ≢ Err Memory → text_at bytes ≡ as_list r
unfolding one_at
text_only bytes (Ok development) h told = front_reads h (length bytes) (length bytes + 1) (omega arith) (Ok []) (λ more. at_end (length bytes) more) ∙ simp append-nil
text_only bytes (Err (NotDk at)) f told = fault_only HasNoCommand bytes at NotDk f (one_none (length bytes - length f.here) f.here f.is (read_from (length f.here) m.Command outside f.here) refl)
text_only bytes (Err (TooDeep at)) f told = fault_only HasDeepCommand bytes at TooDeep f (one_deep (length bytes - length f.here) f.is.2 f.is.3)
text_only bytes (Err Memory) f told = absurd (told refl)

answer_same : (r : Result (List Command) DkFault) (answer : Result Dev DkFault) → Answers (λ x. x) r (as_list answer) → Answers (λ x. x) (as_development r) answer
answer_same (Ok commands) (Ok development) e = let same : development.commands ≡ commands = cc in ap (λ (x : List Command). (let d : Result Dev DkFault = Ok (record { commands = x }) in d)) same
answer_same (Ok commands) (Err fault) e = absurd cc
answer_same (Err (NotDk at)) (Ok development) e = absurd cc
answer_same (Err (NotDk at)) (Err fault) e = let same : fault ≡ NotDk at = cc in ap (λ (x : DkFault). (let d : Result Dev DkFault = Err x in d)) same
answer_same (Err (TooDeep at)) (Ok development) e = absurd cc
answer_same (Err (TooDeep at)) (Err fault) e = let same : fault ≡ TooDeep at = cc in ap (λ (x : DkFault). (let d : Result Dev DkFault = Err x in d)) same
answer_same (Err Memory) answer e = tt

pub only_answer : (bytes : List ℕ) (r : Result (List Command) DkFault) (answer : Result Dev DkFault) → Answers (λ x. x) r (text_at bytes) → IsReadDkAnswer bytes answer → answer ≢ Err Memory → Answers (λ x. x) (as_development r) answer
only_answer bytes r answer e h told = answer_same r answer (subst (λ (x : Result (List Command) DkFault). Answers (λ y. y) r x) (text_only bytes answer h told) e)

-- ---- an answer is one

one_list : (one other : Result Dev DkFault) → as_list one ≡ as_list other → one ≡ other
one_list (Ok development) (Ok another) e = let same : development.commands ≡ another.commands = cc in ap (λ (x : List Command). (let d : Result Dev DkFault = Ok (record { commands = x }) in d)) same
one_list (Ok development) (Err fault) e = absurd cc
one_list (Err fault) (Ok development) e = absurd cc
one_list (Err fault) (Err another) e = let same : fault ≡ another = cc in ap (λ (x : DkFault). (let d : Result Dev DkFault = Err x in d)) same

-- bytes have one answer, unless memory ran out
pub one_reading : (bytes : List ℕ) (one other : Result Dev DkFault) → IsReadDkAnswer bytes one → IsReadDkAnswer bytes other → one ≢ Err Memory → other ≢ Err Memory → one ≡ other
one_reading bytes one other h k not_one not_other = one_list one other (sym (text_only bytes one h not_one) ∙ text_only bytes other k not_other)
