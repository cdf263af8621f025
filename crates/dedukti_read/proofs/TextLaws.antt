-- Reading a text gives the one answer that its definition has.
use Rattle.std.proofs.Common.{◌≡◌, ◌≢◌, ℕ, zero, suc, ◌≤◌, ◌<◌, List, [], ◌∷◌, length, Option, Some, None, refl, sym, ap, subst, ◌∙◌, arith}
use Rattle.lp_term.specs.declared.Command.{Command}
use Rattle.lp_term.specs.declared.Command.TheVariants as command
use Rattle.lp_term.specs.declared.Dev.{Dev}
use Rattle.dedukti_read.specs.declared.token.Token.{Token}
use Rattle.dedukti_read.specs.declared.state.Mode.{Mode}
use Rattle.dedukti_read.specs.declared.state.Mode.TheVariants as m
use Rattle.dedukti_read.specs.declared.state.Place.{Place}
use Rattle.dedukti_read.specs.declared.state.Said.{Said}
use Rattle.dedukti_read.specs.declared.state.Said.TheVariants as said
use Rattle.dedukti_read.specs.declared.state.Turn.{Turn}
use Rattle.dedukti_read.specs.declared.state.Turn.TheVariants.{On, End}
use Rattle.dedukti_read.specs.Grammar.{IsCommand}
use Rattle.dedukti_read.specs.Laws.{CommandsAreOne, ReadingIsOne, TokensAreOne}
use Rattle.dedukti_read.specs.Machine.{command_of, outside, run, said_of, step, turned}
use Rattle.dedukti_read.specs.Matter.{Skips}
use Rattle.dedukti_read.specs.ReadingText.{before, followed, read_from, token_turn, turn_at}
use Rattle.dedukti_read.specs.Scan.{skip, token_at}
use Rattle.dedukti_read.specs.Text.{BeginsCommand, IsAny, AreCommands, NoCommand, CommandFirst}
use Rattle.dedukti_read.specs.TokenLists.{AreTokens, NoToken, MoreTokens}
use Rattle.dedukti_read.specs.Tokens.{Stands}
use Rattle.dedukti_read.proofs.CompleteReading.{command_only}
use Rattle.dedukti_read.proofs.MatterLaws.{one_rest, skips_only, skips_shorter, skips_so}
use Rattle.dedukti_read.proofs.SoundReading.{command_sound}
use Rattle.dedukti_read.proofs.TokenLaws.{stands_read, stands_shorter, token_stands}

some_is : {A : Type 0} {x y : A} → Some x ≡ Some y → x ≡ y
some_is e = cc

pair_first : {A B : Type 0} {a c : A} {b d : B} → (let x : Option (A × B) = Some (a, b) in x) ≡ Some (c, d) → a ≡ c
pair_first {A} {B} e = ap (λ (x : A × B). x.0) (some_is e)

pair_last : {A B : Type 0} {a c : A} {b d : B} → (let x : Option (A × B) = Some (a, b) in x) ≡ Some (c, d) → b ≡ d
pair_last {A} {B} e = ap (λ (x : A × B). x.1) (some_is e)

pub not_some : {A C : Type 0} {a : A} → (let x : Option A = None in x) ≡ Some a → C
not_some e = absurd cc

-- ---- one token, one command

pub tokens_are_one : TokensAreOne
tokens_are_one bytes token other rest left h k = let e = sym (stands_read h) ∙ stands_read k in (pair_first e, pair_last e)

pub same_said : (c : Command) → command_of (said_of c) ≡ c
same_said (command.Constant name type) = refl
same_said (command.Symbol name type) = refl
same_said (command.Define name type body) = refl
same_said (command.Rule left right) = refl

said_again : (s : Said) → said_of (command_of s) ≡ s
said_again (said.Constant name type) = refl
said_again (said.Symbol name type) = refl
said_again (said.Define name type body) = refl
said_again (said.Rule left right) = refl

pub commands_are_one : CommandsAreOne
commands_are_one tokens one other rest left h k =
    let e = sym (command_only h) ∙ command_only k in
    (sym (same_said one) ∙ ap command_of (pair_first e) ∙ same_said other, pair_last e)

-- ---- the tokens of a command

record ReadTokens (mode : Mode) (place : Place) (bytes : List ℕ) (whole : Said) (after : List ℕ) : Type 0 where
  tokens : List Token
  are : AreTokens bytes tokens after
  ends : run mode place tokens ≡ Some (whole, [])

module _ (n : ℕ) (whole : Said) (after : List ℕ) (goes : (mode : Mode) (place : Place) (bytes : List ℕ) → read_from n mode place bytes ≡ Some (whole, after) → ReadTokens mode place bytes whole after) where
  behind_turn : (mode : Mode) (place : Place) (bytes : List ℕ) (token : Token) (rest : List ℕ) → token_at (skip bytes) ≡ Some (token, rest) → (o : Option (Turn × Place)) → step mode token place ≡ o
      → followed (read_from n) (before rest o) ≡ Some (whole, after) → ReadTokens mode place bytes whole after
  unfolding run
  behind_turn mode place bytes token rest e None s h = not_some h
  behind_turn mode place bytes token rest e (Some (On next, there)) s h =
      let k = goes next there rest h in
      record {
        tokens = token ∷ k.tokens;
        are = MoreTokens bytes (skip bytes) token rest k.tokens after (skips_so bytes) (token_stands (skip bytes) token rest e) k.are;
        ends = rw s k.ends;
      }
  behind_turn mode place bytes token rest e (Some (End other, there)) s h = record {
    tokens = token ∷ [];
    are = MoreTokens bytes (skip bytes) token rest [] after (skips_so bytes) (token_stands (skip bytes) token rest e) (subst (AreTokens rest []) (pair_last h) (NoToken rest));
    ends = rw s (ap (λ (x : Said). (let y : Option (Said × List Token) = Some (x, []) in y)) (pair_first h));
  }

  behind_token : (mode : Mode) (place : Place) (bytes : List ℕ) (o : Option (Token × List ℕ)) → token_at (skip bytes) ≡ o → followed (read_from n) (token_turn mode place o) ≡ Some (whole, after) → ReadTokens mode place bytes whole after
  behind_token mode place bytes None e h = not_some h
  behind_token mode place bytes (Some (token, rest)) e h = behind_turn mode place bytes token rest e (step mode token place) refl h

read_so : (n : ℕ) (whole : Said) (after : List ℕ) (mode : Mode) (place : Place) (bytes : List ℕ) → read_from n mode place bytes ≡ Some (whole, after) → ReadTokens mode place bytes whole after
unfolding read_from turn_at
read_so zero whole after mode place bytes e = not_some e
read_so (suc n) whole after mode place bytes e = behind_token n whole after (read_so n whole after) mode place bytes (token_at (skip bytes)) refl e

read_turn : (n : ℕ) (mode : Mode) (place : Place) (bytes here : List ℕ) (token : Token) (rest : List ℕ) → Skips bytes here → Stands here token rest → (o : Option (Turn × Place)) → step mode token place ≡ o
    → read_from (suc n) mode place bytes ≡ followed (read_from n) (before rest o)
unfolding read_from turn_at
read_turn n mode place bytes here token rest s l o e = rw (skips_only s, stands_read l, e) refl

none_behind : {rest after : List ℕ} {tokens : List Token} → AreTokens rest tokens after → tokens ≡ [] → rest ≡ after
none_behind (NoToken bytes) e = refl
none_behind (MoreTokens bytes here token rest tokens after s l h) e = absurd cc

turn_only : (n : ℕ) (mode : Mode) (place : Place) (bytes here : List ℕ) (token : Token) (rest : List ℕ) (tokens : List Token) (after : List ℕ) (whole : Said) → Skips bytes here → Stands here token rest → AreTokens rest tokens after
    → ((next : Mode) (there : Place) → run next there tokens ≡ Some (whole, []) → read_from n next there rest ≡ Some (whole, after))
    → (o : Option (Turn × Place)) → step mode token place ≡ o → turned (λ next there. run next there tokens) tokens o ≡ Some (whole, []) → read_from (suc n) mode place bytes ≡ Some (whole, after)
turn_only n mode place bytes here token rest tokens after whole s l h goes None e r = not_some r
turn_only n mode place bytes here token rest tokens after whole s l h goes (Some (On next, there)) e r = read_turn n mode place bytes here token rest s l (Some (On next, there)) e ∙ goes next there r
turn_only n mode place bytes here token rest tokens after whole s l h goes (Some (End other, there)) e r =
    read_turn n mode place bytes here token rest s l (Some (End other, there)) e
    ∙ ap (λ (x : Said). (let y : Option (Said × List ℕ) = Some (x, rest) in y)) (pair_first r) ∙ ap (λ (x : List ℕ). (let y : Option (Said × List ℕ) = Some (whole, x) in y)) (none_behind h (pair_last r))

read_only : {bytes : List ℕ} {tokens : List Token} {after : List ℕ} → AreTokens bytes tokens after → (mode : Mode) (place : Place) (whole : Said) → run mode place tokens ≡ Some (whole, []) → (n : ℕ) → length bytes ≤ n → read_from n mode place bytes ≡ Some (whole, after)
unfolding run
read_only (NoToken bytes) mode place whole r n le = not_some r
read_only (MoreTokens bytes here token rest tokens after s l h) mode place whole r zero le = absurd (let a = skips_shorter s in let b = stands_shorter l in omega arith)
read_only (MoreTokens bytes here token rest tokens after s l h) mode place whole r (suc n) le =
    let a = skips_shorter s in let b = stands_shorter l in let few : length rest ≤ n = omega arith in
    turn_only n mode place bytes here token rest tokens after whole s l h (λ next there k. read_only h next there whole k n few) (step mode token place) refl r

pub begins_so : (here : List ℕ) (whole : Said) (after : List ℕ) → read_from (length here) m.Command outside here ≡ Some (whole, after) → BeginsCommand here (command_of whole) after
begins_so here whole after e = let k = read_so (length here) whole after m.Command outside here e in record { tokens = k.tokens; are = k.are; is = command_sound k.tokens whole [] k.ends }

pub begins_only : {here : List ℕ} {c : Command} {after : List ℕ} → BeginsCommand here c after → read_from (length here) m.Command outside here ≡ Some (said_of c, after)
begins_only {here} {c} {after} h = read_only h.are m.Command outside (said_of c) (command_only h.is) (length here) (omega arith)

-- what a command leaves is shorter
tokens_shorter : {bytes : List ℕ} {tokens : List Token} {after : List ℕ} → AreTokens bytes tokens after → length after ≤ length bytes
tokens_shorter (NoToken bytes) = omega arith
tokens_shorter (MoreTokens bytes here token rest tokens after s l h) = let a = skips_shorter s in let b = stands_shorter l in let c = tokens_shorter h in omega arith

some_tokens : {bytes : List ℕ} {tokens : List Token} {after : List ℕ} → AreTokens bytes tokens after → tokens ≢ [] → length after < length bytes
some_tokens (NoToken bytes) some = absurd (some refl)
some_tokens (MoreTokens bytes here token rest tokens after s l h) some = let a = skips_shorter s in let b = stands_shorter l in let c = tokens_shorter h in omega arith

no_empty_command : {tokens : List Token} {c : Command} {rest : List Token} → IsCommand tokens c rest → tokens ≢ []
unfolding run
no_empty_command {tokens} {c} {rest} h e = not_some (ap (run m.Command outside) (sym e) ∙ command_only h)

pub begins_shorter : {here : List ℕ} {c : Command} {after : List ℕ} → BeginsCommand here c after → length after < length here
begins_shorter h = some_tokens h.are (no_empty_command h.is)

-- ---- one development

list_same : {bytes : List ℕ} {cs ds : List Command} {there other : List ℕ} → AreCommands IsAny bytes cs there → there ≡ [] → AreCommands IsAny bytes ds other → other ≡ [] → cs ≡ ds
list_same (NoCommand bytes here s) e (NoCommand _ other k) d = refl
list_same (NoCommand bytes here s) e (CommandFirst _ begin c after cs other k b w f) d =
    let same = one_rest s k in let less = begins_shorter b in let none : length begin ≡ 0 = ap length (sym same ∙ e) in absurd (omega arith)
list_same (CommandFirst bytes here c after cs there s b w f) e (NoCommand _ other k) d =
    let same = one_rest s k in let less = begins_shorter b in let none : length here ≡ 0 = ap length (same ∙ d) in absurd (omega arith)
list_same (CommandFirst bytes here c after cs there s b w f) e (CommandFirst _ begin d' after' ds other k b' w' f') d =
    let same = one_rest s k in
    let b'' : BeginsCommand here d' after' = subst (λ (x : List ℕ). BeginsCommand x d' after') (sym same) b' in
    let both = sym (begins_only b) ∙ begins_only b'' in
    let commands_same : c ≡ d' = sym (same_said c) ∙ ap command_of (pair_first both) ∙ same_said d' in
    let f'' : AreCommands IsAny after ds other = subst (λ (x : List ℕ). AreCommands IsAny x ds other) (sym (pair_last both)) f' in
    ap (λ (x : Command). x ∷ cs) commands_same ∙ ap (λ (xs : List Command). d' ∷ xs) (list_same f e f'' d)

pub reading_is_one : ReadingIsOne
reading_is_one bytes development other h k = ap (λ (xs : List Command). (let d : Dev = record { commands = xs } in d)) (list_same h refl k refl)
