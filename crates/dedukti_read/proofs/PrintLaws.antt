-- The text of a printable development is read as it.
use Rattle.std.proofs.Common.{◌≡◌, ◌≢◌, refl, sym, ap, subst, ◌∙◌, ℕ, zero, suc, ◌+◌, ◌-◌, ◌<◌, ◌^◌, Bool, true, false, ◌||◌, eqb, inl, inr, List, [], ◌∷◌, ◌++◌, length, Option, Some, None, codes, append_assoc, arith}
use Rattle.std.specs.Prelude.{◌==◌, All, is_some, nat_lt, not}
use Rattle.std.specs.List.{flat_map, list_all}
use Rattle.std.proofs.lemmas.Bool.{cases_Bool, and_parts, or_cases, eqb-true, ltb-true}
use Rattle.std.proofs.lemmas.List.Elements.{All-head, All-tail}
use Rattle.dedukti_text.specs.Patterns.{pattern_names}
use Rattle.dedukti_text.specs.Print.{abstraction_text, annotation_text, application_text, declaration_text, dk_command_text, dk_commands_text, dk_printed, dk_term_text, dk_text_of, let_text, names_text, printed_at, product_text}
use Rattle.lp_term.specs.Identifiers.{word_byte}
use Rattle.lp_term.specs.declared.Command.{Command}
use Rattle.lp_term.specs.declared.Command.TheVariants as command
use Rattle.lp_term.specs.declared.Lp.{Lp, fold-roll-Lp}
use Rattle.lp_term.specs.declared.Lp.TheOpen as layer
use Rattle.lp_term.specs.declared.Lp.TheVariants as lp
use Rattle.lp_term.specs.declared.Lp.TheVariants.{rolls-Sort, rolls-Sym, rolls-Var, rolls-Pat, rolls-App, rolls-Lam, rolls-Pi}
use Rattle.lp_term.specs.View.{term_of}
use Rattle.lp_term.proofs.ViewLaws.{lp_induction, view_App, view_Lam, view_Pat, view_Pi, view_Sym, view_Var}
use Rattle.lp_text.specs.Levels.{bodies_over, command_over, commands_over, over, over_at}
use Rattle.lp_text.specs.Print.{Parts, Printed, argument_text, operand_text, variable_text}
use Rattle.lp_read.specs.Scopes.{Scope, binder_of}
use Rattle.lp_read.proofs.PrintedNames.{IsCanonical, has_name, heads_same, symbol_found, variable_found, variable_identifier as lp_variable_identifier}
use Rattle.dedukti_read.specs.declared.token.Token.{Token}
use Rattle.dedukti_read.specs.declared.token.Token.TheVariants as t
use Rattle.dedukti_read.specs.Grammar as g
use Rattle.dedukti_read.specs.Grammar.{IsTerm, IsApplication, IsAtom, IsCommand, AreMore, AreNames}
use Rattle.dedukti_read.specs.Matter.{Skips, Nothing, White, IsFirm, is_white}
use Rattle.dedukti_read.specs.Printable.{ArePrintable, IsPrintable, IsPrintableCommand, IsSymbolName, PrintIsAnswered, PrintIsRead, PrintIsReadAlone}
use Rattle.dedukti_read.specs.Scopes.{is_listed, meaning, symbol_or, variable_or}
use Rattle.dedukti_read.specs.Text.{AreCommands, NoCommand, CommandFirst, IsAny, IsShallow}
use Rattle.dedukti_read.specs.TokenLists.{AreTokens, NoToken, MoreTokens}
use Rattle.dedukti_read.specs.Tokens.{IsIdentifier, IsToken, begins_with_word_byte, goes_on, spelling}
use Rattle.dedukti_read.proofs.TextLaws.{reading_is_one}

-- ---- tokens one behind the other

other_byte : (b n : ℕ) → word_byte b ≡ true → word_byte n ≡ false → eqb b n ≡ false
other_byte b n w dark = elim (cases_Bool (eqb b n)) [ inl e ↦ absurd (let c : true ≡ false = sym w ∙ ap word_byte (eqb-true b n e) ∙ dark in cc) | inr e ↦ e ]

word_firm : (b : ℕ) (bytes : List ℕ) → word_byte b ≡ true → IsFirm (b ∷ bytes)
word_firm b bytes w = (rw (other_byte b 32 w refl, other_byte b 9 w refl, other_byte b 10 w refl, other_byte b 13 w refl) refl, rw (other_byte b 40 w refl) refl)

name_firm : (name rest : List ℕ) → IsIdentifier name → IsFirm (name ++ rest)
name_firm [] rest h = absurd (h.grammar.not_empty refl)
name_firm (b ∷ name) rest h = word_firm b (name ++ rest) (and_parts (word_byte b) (list_all word_byte name) h.grammar.word_bytes).0

-- a bracket is none that begins a comment
abbrev pub IsPlain : Token → List ℕ → Type 0
IsPlain t.OpenBracket rest = IsFirm (40 ∷ rest)
IsPlain token rest = Unit {0}

token_firm : (token : Token) (rest : List ℕ) → IsToken token → IsPlain token rest → IsFirm (spelling token ++ rest)
token_firm (t.Name name) rest h plain = name_firm name rest h
token_firm t.OpenBracket rest h plain = plain
token_firm _ rest h plain = (refl, refl)

-- a token, and what stands behind it
then_token : (token : Token) {rest : List ℕ} {tokens : List Token} {after : List ℕ} → IsToken token → IsPlain token rest → goes_on token rest ≡ false → AreTokens rest tokens after → AreTokens (spelling token ++ rest) (token ∷ tokens) after
then_token token {rest} {tokens} {after} is plain whole h =
    MoreTokens (spelling token ++ rest) (spelling token ++ rest) token rest tokens after (Nothing (spelling token ++ rest) (token_firm token rest is plain)) (record { is = is; front = refl; whole = whole }) h

-- white space before a token
then_white : (b : ℕ) {rest : List ℕ} {token : Token} {tokens : List Token} {after : List ℕ} → is_white b ≡ true → AreTokens rest (token ∷ tokens) after → AreTokens (b ∷ rest) (token ∷ tokens) after
then_white b {rest} white (MoreTokens _ here token next tokens after s l h) = MoreTokens (b ∷ rest) here token next tokens after (White b rest here white s) l h

-- ---- texts of terms

-- no `;` is in front, which would begin a comment behind a bracket
abbrev NoSemicolon : List ℕ → Type 0
NoSemicolon [] = Unit {0}
NoSemicolon (b ∷ bytes) = eqb b 59 ≡ false

plain_bracket : (rest : List ℕ) → NoSemicolon rest → IsPlain t.OpenBracket rest
plain_bracket [] h = (refl, refl)
plain_bracket (b ∷ rest) h = (refl, rw h refl)

word_no_semicolon : (b : ℕ) → word_byte b ≡ true → eqb b 59 ≡ false
word_no_semicolon b w = other_byte b 59 w refl

name_front : (name rest : List ℕ) → IsIdentifier name → NoSemicolon (name ++ rest)
name_front [] rest h = absurd (h.grammar.not_empty refl)
name_front (b ∷ name) rest h = word_no_semicolon b (and_parts (word_byte b) (list_all word_byte name) h.grammar.word_bytes).0

-- the text is spelled by tokens that are the term, whatever stands behind
record Shown (P : List Token → Lp → List Token → Type 0) (text : List ℕ) (term : Lp) : Type 0 where
  first : Token
  others : List Token → List Token
  spelled : (rest : List ℕ) (more : List Token) (after : List ℕ) → begins_with_word_byte rest ≡ false → AreTokens rest more after → AreTokens (text ++ rest) (first ∷ others more) after
  front : (rest : List ℕ) → NoSemicolon (text ++ rest)
  is : (more : List Token) → P (first ∷ others more) term more

shown_as : {P Q : List Token → Lp → List Token → Type 0} {text : List ℕ} {term : Lp} → ((ts rest : List Token) → P ts term rest → Q ts term rest) → Shown P text term → Shown Q text term
shown_as weaker s = record { first = s.first; others = s.others; spelled = s.spelled; front = s.front; is = λ more. weaker (s.first ∷ s.others more) more (s.is more) }

-- brackets around a term
in_brackets : {patterns : List (List ℕ)} {scope : Scope} {text : List ℕ} {term : Lp} → Shown (IsTerm patterns scope) text term → Shown (IsAtom patterns scope) (40 ∷ (text ++ 41 ∷ [])) term
in_brackets {patterns} {scope} {text} {term} s = record {
  first = t.OpenBracket;
  others = λ more. s.first ∷ s.others (t.CloseBracket ∷ more);
  spelled = λ rest more after ends h.
      let same : 40 ∷ ((text ++ 41 ∷ []) ++ rest) ≡ 40 ∷ (text ++ 41 ∷ rest) = ap (λ (x : List ℕ). 40 ∷ x) (append_assoc text (41 ∷ []) rest) in
      subst (λ (x : List ℕ). AreTokens x (t.OpenBracket ∷ s.first ∷ s.others (t.CloseBracket ∷ more)) after) (sym same)
      (then_token t.OpenBracket tt (plain_bracket (text ++ 41 ∷ rest) (s.front (41 ∷ rest))) refl (s.spelled (41 ∷ rest) (t.CloseBracket ∷ more) after refl (then_token t.CloseBracket tt tt refl h)));
  front = λ rest. refl;
  is = λ more. g.InBrackets patterns scope (s.first ∷ s.others (t.CloseBracket ∷ more)) term more (s.is (t.CloseBracket ∷ more));
}

-- what an abstraction shows as a function
abbrev ShownFunction : List (List ℕ) → Scope → ℕ → Lp → Option Parts → Type 0
ShownFunction patterns scope level term None = Unit {0}
ShownFunction patterns scope level term (Some parts) = Shown (IsTerm patterns scope) (parts.domain level ++ (codes " =>\n" ++ parts.body (level + 1))) term

record AllShown (patterns : List (List ℕ)) (scope : Scope) (level : ℕ) (term : Lp) (p : Printed) : Type 0 where
  bare : Shown (IsTerm patterns scope) (p.bare level) term
  operand : Shown (IsApplication patterns scope) (operand_text p level) term
  argument : Shown (IsAtom patterns scope) (argument_text p level) term
  function : ShownFunction patterns scope level term p.parts

as_term : {patterns : List (List ℕ)} {scope : Scope} {text : List ℕ} {term : Lp} → Shown (IsApplication patterns scope) text term → Shown (IsTerm patterns scope) text term
as_term {patterns} {scope} {text} {term} s = shown_as (λ ts rest h. g.Applied patterns scope ts term rest h) s

as_application : {patterns : List (List ℕ)} {scope : Scope} {text : List ℕ} {term : Lp} → Shown (IsAtom patterns scope) text term → Shown (IsApplication patterns scope) text term
as_application {patterns} {scope} {text} {term} s = shown_as (λ ts rest h. g.OneAtom patterns scope ts term rest h) s

-- ---- atoms

one_token : {patterns : List (List ℕ)} {scope : Scope} (token : Token) (term : Lp) → IsToken token → ((rest : List ℕ) → begins_with_word_byte rest ≡ false → goes_on token rest ≡ false) → ((rest : List ℕ) → IsPlain token rest × NoSemicolon (spelling token ++ rest))
    → ((more : List Token) → IsAtom patterns scope (token ∷ more) term more) → Shown (IsAtom patterns scope) (spelling token) term
one_token token term is whole plain atom = record {
  first = token;
  others = λ more. more;
  spelled = λ rest more after ends h. then_token token is (plain rest).0 (whole rest ends) h;
  front = λ rest. (plain rest).1;
  is = atom;
}

one_name : {patterns : List (List ℕ)} {scope : Scope} (name : List ℕ) (term : Lp) → IsIdentifier name → meaning patterns scope name ≡ term → Shown (IsAtom patterns scope) name term
one_name {patterns} {scope} name term is same =
    one_token (t.Name name) term is (λ rest ends. ends) (λ rest. (tt, name_front name rest is))
    (λ more. subst (λ (x : Lp). IsAtom patterns scope (t.Name name ∷ more) x more) same (g.Identifier patterns scope name more))

atom_shown : {patterns : List (List ℕ)} {scope : Scope} {level : ℕ} {term : Lp} (bare : ℕ → List ℕ) (occurs : ℕ → Bool) → Shown (IsAtom patterns scope) (bare level) term
    → AllShown patterns scope level term (record { bare = bare; occurs = occurs; is_atom = true; is_operand = true; parts = None })
atom_shown bare occurs s = record { bare = as_term (as_application s); operand = as_application s; argument = s; function = tt }

-- ---- terms that stand bare only where nothing stands around them

wide_shown : {patterns : List (List ℕ)} {scope : Scope} {level : ℕ} {term : Lp} (p : Printed) → p.is_atom ≡ false → p.is_operand ≡ false → Shown (IsTerm patterns scope) (p.bare level) term → ShownFunction patterns scope level term p.parts → AllShown patterns scope level term p
wide_shown {patterns} {scope} {level} {term} p no_atom no_operand s f =
    let inside = in_brackets s in record {
      bare = s;
      operand = (rw no_operand (as_application inside));
      argument = (rw no_atom inside);
      function = f;
    }

-- ---- binders

-- no word of the grammar begins with `v`
no_word : (digits : List ℕ) (first : ℕ) (others : List ℕ) → eqb 118 first ≡ false → 118 ∷ digits ≢ first ∷ others
no_word digits first others differs e = let same = heads_same e in absurd (let c : eqb 118 118 ≡ false = subst (λ (n : ℕ). eqb 118 n ≡ false) (sym same) differs in cc)

variable_identifier : (level : ℕ) → level < 2 ^ 64 → IsIdentifier (variable_text level)
variable_identifier level small = record {
  grammar = (lp_variable_identifier level small).grammar;
  free = (no_word _ _ _ refl, (no_word _ _ _ refl, tt));
}

-- `v : domain` before a mark and a body, with one byte before the body
binder_shown : {patterns : List (List ℕ)} {scope : Scope} {level : ℕ} {domain body : Lp} {domain_text body_text : List ℕ} (mark : Token) (white : ℕ) (term : Lp) → IsToken mark → ((rest : List ℕ) → IsPlain mark (white ∷ rest)) → ((rest : List ℕ) → goes_on mark (white ∷ rest) ≡ false) → is_white white ≡ true → level < 2 ^ 32
    → Shown (IsApplication patterns scope) domain_text domain → Shown (IsTerm patterns (Some (variable_text level) ∷ scope)) body_text body
    → ((ts next rest : List Token) → IsApplication patterns scope ts domain (mark ∷ next) → IsTerm patterns (Some (variable_text level) ∷ scope) next body rest → IsTerm patterns scope (t.Name (variable_text level) ∷ t.Colon ∷ ts) term rest)
    → Shown (IsTerm patterns scope) (variable_text level ++ (codes " : " ++ (domain_text ++ (32 ∷ (spelling mark ++ (white ∷ body_text)))))) term
binder_shown {patterns} {scope} {level} {domain} {body} {domain_text} {body_text} mark white term is plain whole is_space small d b made = record {
  first = t.Name (variable_text level);
  others = λ more. t.Colon ∷ d.first ∷ d.others (mark ∷ b.first ∷ b.others more);
  spelled = λ rest more after ends h.
      let same : (variable_text level ++ (codes " : " ++ (domain_text ++ (32 ∷ (spelling mark ++ (white ∷ body_text)))))) ++ rest ≡ variable_text level ++ (codes " : " ++ (domain_text ++ (32 ∷ (spelling mark ++ (white ∷ (body_text ++ rest)))))) = simp append_assoc in
      subst (λ (x : List ℕ). AreTokens x (t.Name (variable_text level) ∷ t.Colon ∷ d.first ∷ d.others (mark ∷ b.first ∷ b.others more)) after) (sym same)
      (then_token (t.Name (variable_text level)) (variable_identifier level (omega arith)) tt refl (then_white 32 refl (then_token t.Colon tt tt refl (then_white 32 refl
      (d.spelled (32 ∷ (spelling mark ++ (white ∷ (body_text ++ rest)))) (mark ∷ b.first ∷ b.others more) after refl
      (then_white 32 refl (then_token mark is (plain (body_text ++ rest)) (whole (body_text ++ rest)) (then_white white is_space (b.spelled rest more after ends h)))))))));
  front = λ rest. refl;
  is = λ more. made (d.first ∷ d.others (mark ∷ b.first ∷ b.others more)) (b.first ∷ b.others more) more (d.is (mark ∷ b.first ∷ b.others more)) (b.is more);
}

-- domain -> body
arrow_shown : {patterns : List (List ℕ)} {scope : Scope} {domain body : Lp} {domain_text body_text : List ℕ} → Shown (IsApplication patterns scope) domain_text domain → Shown (IsTerm patterns (None ∷ scope)) body_text body
    → Shown (IsTerm patterns scope) (domain_text ++ (codes " -> " ++ body_text)) (lp.Pi domain body)
arrow_shown {patterns} {scope} {domain} {body} {domain_text} {body_text} d b = record {
  first = d.first;
  others = λ more. d.others (t.Arrow ∷ b.first ∷ b.others more);
  spelled = λ rest more after ends h.
      let same : (domain_text ++ (codes " -> " ++ body_text)) ++ rest ≡ domain_text ++ (codes " -> " ++ (body_text ++ rest)) = simp append_assoc in
      subst (λ (x : List ℕ). AreTokens x (d.first ∷ d.others (t.Arrow ∷ b.first ∷ b.others more)) after) (sym same)
      (d.spelled (codes " -> " ++ (body_text ++ rest)) (t.Arrow ∷ b.first ∷ b.others more) after refl
      (then_white 32 refl (then_token t.Arrow tt tt refl (then_white 32 refl (b.spelled rest more after ends h)))));
  front = λ rest.
      let same : (domain_text ++ (codes " -> " ++ body_text)) ++ rest ≡ domain_text ++ (codes " -> " ++ (body_text ++ rest)) = simp append_assoc in
      subst NoSemicolon (sym same) (d.front (codes " -> " ++ (body_text ++ rest)));
  is = λ more. g.Arrow patterns scope (d.first ∷ d.others (t.Arrow ∷ b.first ∷ b.others more)) domain (b.first ∷ b.others more) body more (d.is (t.Arrow ∷ b.first ∷ b.others more)) (b.is more);
}

-- function argument
spine_shown : {patterns : List (List ℕ)} {scope : Scope} {function argument : Lp} {function_text argument_text : List ℕ} → Shown (IsApplication patterns scope) function_text function → Shown (IsAtom patterns scope) argument_text argument
    → Shown (IsApplication patterns scope) (function_text ++ (codes " " ++ argument_text)) (lp.App function argument)
spine_shown {patterns} {scope} {function} {argument} {function_text} {argument_text} f a = record {
  first = f.first;
  others = λ more. f.others (a.first ∷ a.others more);
  spelled = λ rest more after ends h.
      let same : (function_text ++ (codes " " ++ argument_text)) ++ rest ≡ function_text ++ (codes " " ++ (argument_text ++ rest)) = simp append_assoc in
      subst (λ (x : List ℕ). AreTokens x (f.first ∷ f.others (a.first ∷ a.others more)) after) (sym same)
      (f.spelled (codes " " ++ (argument_text ++ rest)) (a.first ∷ a.others more) after refl (then_white 32 refl (a.spelled rest more after ends h)));
  front = λ rest.
      let same : (function_text ++ (codes " " ++ argument_text)) ++ rest ≡ function_text ++ (codes " " ++ (argument_text ++ rest)) = simp append_assoc in
      subst NoSemicolon (sym same) (f.front (codes " " ++ (argument_text ++ rest)));
  is = λ more. g.Argument patterns scope (f.first ∷ f.others (a.first ∷ a.others more)) function (a.first ∷ a.others more) argument more (f.is (a.first ∷ a.others more)) (a.is more);
}

-- an abstraction that is applied stands in brackets
let_shown : {patterns : List (List ℕ)} {scope : Scope} (level : ℕ) {function argument : Lp} (parts : Parts) (a : Printed) → Shown (IsTerm patterns scope) (parts.domain level ++ (codes " =>\n" ++ parts.body (level + 1))) function → Shown (IsAtom patterns scope) (argument_text a level) argument
    → Shown (IsApplication patterns scope) (let_text parts a level) (lp.App function argument)
let_shown {patterns} {scope} level {function} {argument} parts a s ha =
    let inner = parts.domain level ++ (codes " =>\n" ++ parts.body (level + 1)) in
    let same : (40 ∷ (inner ++ 41 ∷ [])) ++ (codes " " ++ argument_text a level) ≡ let_text parts a level = simp append_assoc in
    subst (λ (x : List ℕ). Shown (IsApplication patterns scope) x (lp.App function argument)) same (spine_shown (as_application (in_brackets s)) ha)

application_shown : {patterns : List (List ℕ)} {scope : Scope} {level : ℕ} {function argument : Lp} (f a : Printed) (parts : Option Parts) → f.parts ≡ parts → AllShown patterns scope level function f → AllShown patterns scope level argument a
    → AllShown patterns scope level (lp.App function argument) (record { bare = application_text parts f a; occurs = λ number. f.occurs number || a.occurs number; is_atom = false; is_operand = not (is_some parts); parts = None })
application_shown {patterns} {scope} {level} {function} {argument} f a None e hf ha =
    let s = spine_shown hf.operand ha.argument in record { bare = as_term s; operand = s; argument = in_brackets (as_term s); function = tt }
application_shown {patterns} {scope} {level} {function} {argument} f a (Some parts) e hf ha =
    let k : ShownFunction patterns scope level function (Some parts) = subst (ShownFunction patterns scope level function) e hf.function in
    wide_shown (record { bare = application_text (Some parts) f a; occurs = λ number. f.occurs number || a.occurs number; is_atom = false; is_operand = false; parts = None }) refl refl (as_term (let_shown level parts a k ha.argument)) tt

-- ---- the views of terms

dk_printed_Sort : dk_printed lp.Sort ≡ printed_at layer.Sort
dk_printed_Sort = ap dk_printed (sym rolls-Sort) ∙ fold-roll-Lp Printed printed_at layer.Sort

dk_printed_Sym : (name : List ℕ) → dk_printed (lp.Sym name) ≡ printed_at (layer.Sym name)
dk_printed_Sym name = ap dk_printed (sym (rolls-Sym name)) ∙ fold-roll-Lp Printed printed_at (layer.Sym name)

dk_printed_Var : (number : ℕ) → dk_printed (lp.Var number) ≡ printed_at (layer.Var number)
dk_printed_Var number = ap dk_printed (sym (rolls-Var number)) ∙ fold-roll-Lp Printed printed_at (layer.Var number)

dk_printed_Pat : (name : List ℕ) → dk_printed (lp.Pat name) ≡ printed_at (layer.Pat name)
dk_printed_Pat name = ap dk_printed (sym (rolls-Pat name)) ∙ fold-roll-Lp Printed printed_at (layer.Pat name)

dk_printed_App : (a b : Lp) → dk_printed (lp.App a b) ≡ printed_at (layer.App (dk_printed a) (dk_printed b))
dk_printed_App a b = ap dk_printed (sym (rolls-App a b)) ∙ fold-roll-Lp Printed printed_at (layer.App a b)

dk_printed_Lam : (a b : Lp) → dk_printed (lp.Lam a b) ≡ printed_at (layer.Lam (dk_printed a) (dk_printed b))
dk_printed_Lam a b = ap dk_printed (sym (rolls-Lam a b)) ∙ fold-roll-Lp Printed printed_at (layer.Lam a b)

dk_printed_Pi : (a b : Lp) → dk_printed (lp.Pi a b) ≡ printed_at (layer.Pi (dk_printed a) (dk_printed b))
dk_printed_Pi a b = ap dk_printed (sym (rolls-Pi a b)) ∙ fold-roll-Lp Printed printed_at (layer.Pi a b)

over_App : (a b : Lp) (level : ℕ) → bodies_over (lp.App a b) level ≡ bodies_over a level + bodies_over b level
over_App a b level = ap (λ (f : ℕ → ℕ). f level) (ap bodies_over (sym (rolls-App a b)) ∙ fold-roll-Lp (ℕ → ℕ) over_at (layer.App a b))

over_Lam : (a b : Lp) (level : ℕ) → bodies_over (lp.Lam a b) level ≡ bodies_over a level + (over (level + 1) + bodies_over b (level + 1))
over_Lam a b level = ap (λ (f : ℕ → ℕ). f level) (ap bodies_over (sym (rolls-Lam a b)) ∙ fold-roll-Lp (ℕ → ℕ) over_at (layer.Lam a b))

over_Pi : (a b : Lp) (level : ℕ) → bodies_over (lp.Pi a b) level ≡ bodies_over a level + (over (level + 1) + bodies_over b (level + 1))
over_Pi a b level = ap (λ (f : ℕ → ℕ). f level) (ap bodies_over (sym (rolls-Pi a b)) ∙ fold-roll-Lp (ℕ → ℕ) over_at (layer.Pi a b))

none_of_both : (a b : ℕ) → a + b ≡ 0 → (a ≡ 0) × (b ≡ 0)
none_of_both a b e = (omega arith, omega arith)

-- ---- what occurs has a name

abbrev HaveNames : Printed → Scope → Type 0
HaveNames p scope = (number : ℕ) → p.occurs number ≡ true → has_name scope number ≡ true

or_first : (a b : Bool) → a ≡ true → (a || b) ≡ true
or_first a b e = rw e refl

or_last : (a b : Bool) → b ≡ true → (a || b) ≡ true
or_last true b e = refl
or_last false b e = e

-- below a binder with a name
named_below : (domain body : Printed) (scope : Scope) (name : List ℕ) → ((number : ℕ) → (domain.occurs number || body.occurs (number + 1)) ≡ true → has_name scope number ≡ true) → HaveNames body (Some name ∷ scope)
named_below domain body scope name names zero e = refl
named_below domain body scope name names (suc number) e =
    let one : suc number ≡ number + 1 = omega arith in
    names number (or_last (domain.occurs number) (body.occurs (number + 1)) (ap body.occurs (sym one) ∙ e))

-- below an arrow
arrow_below : (domain body : Printed) (scope : Scope) → body.occurs 0 ≡ false → ((number : ℕ) → (domain.occurs number || body.occurs (number + 1)) ≡ true → has_name scope number ≡ true) → HaveNames body (None ∷ scope)
arrow_below domain body scope free names zero e = absurd cc
arrow_below domain body scope free names (suc number) e =
    let one : suc number ≡ number + 1 = omega arith in
    names number (or_last (domain.occurs number) (body.occurs (number + 1)) (ap body.occurs (sym one) ∙ e))

-- ---- the text of a term

-- what is to be shown of a term
abbrev IsShown : Lp → Type 0
IsShown term = (patterns : List (List ℕ)) (level : ℕ) (scope : Scope) → IsPrintable patterns level (term_of term) → bodies_over term level ≡ 0 → IsCanonical scope → length scope ≡ level → level < 2 ^ 33 → HaveNames (dk_printed term) scope
    → AllShown patterns scope level term (dk_printed term)

sort_shown : IsShown lp.Sort
sort_shown patterns level scope h few is long small names =
    subst (AllShown patterns scope level lp.Sort) (sym dk_printed_Sort)
    (atom_shown (λ l. codes "Type") (λ number. false) (one_token t.Sort lp.Sort tt (λ rest ends. ends) (λ rest. (tt, refl)) (λ more. g.Sort patterns scope more)))

-- what a name means that is no variable's
name_means : (patterns : List (List ℕ)) (scope : Scope) (name : List ℕ) (listed : Bool) → IsSymbolName name → length scope < 2 ^ 64 → IsCanonical scope → is_listed patterns name ≡ listed → meaning patterns scope name ≡ symbol_or listed name
name_means patterns scope name listed symbol small is e = rw (symbol_found scope name small is symbol.no_variable, e) refl

symbol_shown : (name : List ℕ) → IsShown (lp.Sym name)
symbol_shown name patterns level scope h few is long small names =
    let k : IsSymbolName name × (is_listed patterns name ≡ false) = subst (IsPrintable patterns level) (view_Sym name) h in
    subst (AllShown patterns scope level (lp.Sym name)) (sym (dk_printed_Sym name))
    (atom_shown (λ l. name) (λ number. false) (one_name name (lp.Sym name) k.0.identifier (name_means patterns scope name false k.0 (omega arith) is k.1)))

pattern_shown : (name : List ℕ) → IsShown (lp.Pat name)
pattern_shown name patterns level scope h few is long small names =
    let k : IsSymbolName name × (is_listed patterns name ≡ true) = subst (IsPrintable patterns level) (view_Pat name) h in
    subst (AllShown patterns scope level (lp.Pat name)) (sym (dk_printed_Pat name))
    (atom_shown (λ l. name) (λ number. false) (one_name name (lp.Pat name) k.0.identifier (name_means patterns scope name true k.0 (omega arith) is k.1)))

variable_shown : (number : ℕ) → IsShown (lp.Var number)
variable_shown number patterns level scope h few is long small names =
    let inside : number < level = subst (IsPrintable patterns level) (view_Var number) h in
    let named : has_name scope number ≡ true = names number (ap (λ (p : Printed). p.occurs number) (dk_printed_Var number) ∙ (grind arith)) in
    let name = variable_text (level - 1 - number) in
    let found : binder_of scope name ≡ Some number = subst (λ (l : ℕ). binder_of scope (variable_text (l - 1 - number)) ≡ Some number) long (variable_found scope number (omega arith) is named) in
    subst (AllShown patterns scope level (lp.Var number)) (sym (dk_printed_Var number))
    (atom_shown (λ l. variable_text (l - 1 - number)) (λ k. number == k) (one_name name (lp.Var number) (variable_identifier (level - 1 - number) (omega arith)) (ap (variable_or patterns name) found)))

apply_shown : (function argument : Lp) → IsShown function → IsShown argument → IsShown (lp.App function argument)
apply_shown function argument sf sa patterns level scope h few is long small names =
    let k : IsPrintable patterns level (term_of function) × IsPrintable patterns level (term_of argument) = subst (IsPrintable patterns level) (view_App function argument) h in
    let both = none_of_both (bodies_over function level) (bodies_over argument level) (sym (over_App function argument level) ∙ few) in
    let names' : (number : ℕ) → ((dk_printed function).occurs number || (dk_printed argument).occurs number) ≡ true → has_name scope number ≡ true = λ number e. names number (ap (λ (p : Printed). p.occurs number) (dk_printed_App function argument) ∙ e) in
    subst (AllShown patterns scope level (lp.App function argument)) (sym (dk_printed_App function argument))
    (application_shown (dk_printed function) (dk_printed argument) (dk_printed function).parts refl
    (sf patterns level scope k.0 both.0 is long small (λ number e. names' number (or_first ((dk_printed function).occurs number) ((dk_printed argument).occurs number) e)))
    (sa patterns level scope k.1 both.1 is long small (λ number e. names' number (or_last ((dk_printed function).occurs number) ((dk_printed argument).occurs number) e))))

record FewParts (domain body : Lp) (level : ℕ) : Type 0 where
  first : bodies_over domain level ≡ 0
  small : level + 1 < 2 ^ 32
  last : bodies_over body (level + 1) ≡ 0

within : (level : ℕ) → over level ≡ 0 → level < 2 ^ 32
within level e = elim (cases_Bool (nat_lt level (2 ^ 32))) [
  | inl less ↦ ltb-true level (2 ^ 32) less
  | inr not_less ↦ absurd (let one : over level ≡ 1 = rw not_less refl in omega arith)
]

few_parts : (domain body : Lp) (level : ℕ) → bodies_over domain level + (over (level + 1) + bodies_over body (level + 1)) ≡ 0 → FewParts domain body level
few_parts domain body level e =
    let p = none_of_both (bodies_over domain level) (over (level + 1) + bodies_over body (level + 1)) e in
    let q = none_of_both (over (level + 1)) (bodies_over body (level + 1)) p.1 in
    record { first = p.0; small = within (level + 1) q.0; last = q.1 }

lambda_shown : (domain body : Lp) → IsShown domain → IsShown body → IsShown (lp.Lam domain body)
lambda_shown domain body sd sb patterns level scope h few is long small names =
    let k : IsPrintable patterns level (term_of domain) × IsPrintable patterns (level + 1) (term_of body) = subst (IsPrintable patterns level) (view_Lam domain body) h in
    let parts = few_parts domain body level (sym (over_Lam domain body level) ∙ few) in
    let inside = parts.small in
    let less : level < 2 ^ 32 = omega arith in
    let names' : (number : ℕ) → ((dk_printed domain).occurs number || (dk_printed body).occurs (number + 1)) ≡ true → has_name scope number ≡ true = λ number e. names number (ap (λ (p : Printed). p.occurs number) (dk_printed_Lam domain body) ∙ e) in
    let d = sd patterns level scope k.0 parts.first is long small (λ number e. names' number (or_first ((dk_printed domain).occurs number) ((dk_printed body).occurs (number + 1)) e)) in
    let b = sb patterns (level + 1) (Some (variable_text level) ∷ scope) k.1 parts.last (ap variable_text (sym long), is) (omega arith) (omega arith) (named_below (dk_printed domain) (dk_printed body) scope (variable_text level) names') in
    let bound = λ (white : ℕ) (is_space : is_white white ≡ true). binder_shown t.Maps white (lp.Lam domain body) tt (λ rest. tt) (λ rest. refl) is_space less d.operand b.bare (λ ts next rest i j. g.Abstraction patterns scope (variable_text level) ts domain next body rest i j) in
    let around : (space : List ℕ) → variable_text level ++ (codes " : " ++ (operand_text (dk_printed domain) level ++ (codes " =>" ++ (space ++ (dk_printed body).bare (level + 1))))) ≡ annotation_text (dk_printed domain) level ++ (codes " =>" ++ (space ++ (dk_printed body).bare (level + 1))) = λ space. simp append_assoc in
    let s : Shown (IsTerm patterns scope) (abstraction_text (dk_printed domain) (dk_printed body) level) (lp.Lam domain body) = subst (λ (x : List ℕ). Shown (IsTerm patterns scope) x (lp.Lam domain body)) (around (32 ∷ [])) (bound 32 refl) in
    let f : Shown (IsTerm patterns scope) (annotation_text (dk_printed domain) level ++ (codes " =>\n" ++ (dk_printed body).bare (level + 1))) (lp.Lam domain body) = subst (λ (x : List ℕ). Shown (IsTerm patterns scope) x (lp.Lam domain body)) (around (10 ∷ [])) (bound 10 refl) in
    subst (AllShown patterns scope level (lp.Lam domain body)) (sym (dk_printed_Lam domain body))
    (wide_shown (printed_at (layer.Lam (dk_printed domain) (dk_printed body))) refl refl s f)

product_shown : (domain body : Lp) → IsShown domain → IsShown body → IsShown (lp.Pi domain body)
product_shown domain body sd sb patterns level scope h few is long small names =
    let k : IsPrintable patterns level (term_of domain) × IsPrintable patterns (level + 1) (term_of body) = subst (IsPrintable patterns level) (view_Pi domain body) h in
    let parts = few_parts domain body level (sym (over_Pi domain body level) ∙ few) in
    let inside = parts.small in
    let less : level < 2 ^ 32 = omega arith in
    let names' : (number : ℕ) → ((dk_printed domain).occurs number || (dk_printed body).occurs (number + 1)) ≡ true → has_name scope number ≡ true = λ number e. names number (ap (λ (p : Printed). p.occurs number) (dk_printed_Pi domain body) ∙ e) in
    let d = sd patterns level scope k.0 parts.first is long small (λ number e. names' number (or_first ((dk_printed domain).occurs number) ((dk_printed body).occurs (number + 1)) e)) in
    let same : variable_text level ++ (codes " : " ++ (operand_text (dk_printed domain) level ++ (codes " -> " ++ (dk_printed body).bare (level + 1)))) ≡ product_text true (dk_printed domain) (dk_printed body) level = simp append_assoc in
    subst (AllShown patterns scope level (lp.Pi domain body)) (sym (dk_printed_Pi domain body))
    (wide_shown (printed_at (layer.Pi (dk_printed domain) (dk_printed body))) refl refl
    (elim (cases_Bool ((dk_printed body).occurs 0)) [
      | inl there ↦ rw there (subst (λ (x : List ℕ). Shown (IsTerm patterns scope) x (lp.Pi domain body)) same
          (binder_shown t.Arrow 32 (lp.Pi domain body) tt (λ rest. tt) (λ rest. refl) refl less d.operand
          (sb patterns (level + 1) (Some (variable_text level) ∷ scope) k.1 parts.last (ap variable_text (sym long), is) (omega arith) (omega arith) (named_below (dk_printed domain) (dk_printed body) scope (variable_text level) names')).bare
          (λ ts next rest i j. g.Product patterns scope (variable_text level) ts domain next body rest i j)))
      | inr absent ↦ rw absent (arrow_shown d.operand (sb patterns (level + 1) (None ∷ scope) k.1 parts.last (tt, is) (omega arith) (omega arith) (arrow_below (dk_printed domain) (dk_printed body) scope absent names')).bare)
    ]) tt)

shown : (term : Lp) → IsShown term
shown = lp_induction IsShown sort_shown symbol_shown variable_shown pattern_shown apply_shown lambda_shown product_shown

-- ---- commands

-- only variables that are bound occur
abbrev Occurs : Lp → Type 0
Occurs term = (patterns : List (List ℕ)) (level : ℕ) → IsPrintable patterns level (term_of term) → (number : ℕ) → (dk_printed term).occurs number ≡ true → number < level

not_true : {A : Type 0} {b : Bool} → b ≡ false → b ≡ true → A
not_true e f = absurd cc

bound_inside : (term : Lp) → Occurs term
bound_inside = lp_induction Occurs
    (λ patterns level h number e. not_true (ap (λ (p : Printed). p.occurs number) dk_printed_Sort) e)
    (λ name patterns level h number e. not_true (ap (λ (p : Printed). p.occurs number) (dk_printed_Sym name)) e)
    (λ variable patterns level h number e.
    let inside : variable < level = subst (IsPrintable patterns level) (view_Var variable) h in
    let same = eqb-true variable number (sym (ap (λ (p : Printed). p.occurs number) (dk_printed_Var variable)) ∙ e) in
    omega arith)
    (λ name patterns level h number e. not_true (ap (λ (p : Printed). p.occurs number) (dk_printed_Pat name)) e)
    (λ function argument hf ha patterns level h number e.
    let k : IsPrintable patterns level (term_of function) × IsPrintable patterns level (term_of argument) = subst (IsPrintable patterns level) (view_App function argument) h in
    elim (or_cases ((dk_printed function).occurs number) ((dk_printed argument).occurs number) (sym (ap (λ (p : Printed). p.occurs number) (dk_printed_App function argument)) ∙ e)) [
      | inl a ↦ hf patterns level k.0 number a
      | inr b ↦ ha patterns level k.1 number b
    ])
    (λ domain body hd hb patterns level h number e.
    let k : IsPrintable patterns level (term_of domain) × IsPrintable patterns (level + 1) (term_of body) = subst (IsPrintable patterns level) (view_Lam domain body) h in
    elim (or_cases ((dk_printed domain).occurs number) ((dk_printed body).occurs (number + 1)) (sym (ap (λ (p : Printed). p.occurs number) (dk_printed_Lam domain body)) ∙ e)) [
      | inl a ↦ hd patterns level k.0 number a
      | inr b ↦ (let i = hb patterns (level + 1) k.1 (number + 1) b in omega arith)
    ])
    (λ domain body hd hb patterns level h number e.
    let k : IsPrintable patterns level (term_of domain) × IsPrintable patterns (level + 1) (term_of body) = subst (IsPrintable patterns level) (view_Pi domain body) h in
    elim (or_cases ((dk_printed domain).occurs number) ((dk_printed body).occurs (number + 1)) (sym (ap (λ (p : Printed). p.occurs number) (dk_printed_Pi domain body)) ∙ e)) [
      | inl a ↦ hd patterns level k.0 number a
      | inr b ↦ (let i = hb patterns (level + 1) k.1 (number + 1) b in omega arith)
    ])

-- a closed term's text
closed_shown : (patterns : List (List ℕ)) (term : Lp) → IsPrintable patterns 0 (term_of term) → bodies_over term 0 ≡ 0 → Shown (IsTerm patterns []) (dk_term_text term 0) term
closed_shown patterns term h few = (shown term patterns 0 [] h few tt refl (omega arith) (λ number e. absurd (let k = bound_inside term patterns 0 h number e in omega arith))).bare

-- the newline behind a command
newline : (rest : List ℕ) (here : List ℕ) → Skips rest here → Skips (10 ∷ rest) here
newline rest here s = White 10 rest here refl s

-- ---- the names before a rule

-- the names behind the first one, and the bracket
abbrev more_text : List (List ℕ) → List ℕ
more_text [] = codes "] "
more_text (name ∷ names) = codes ", " ++ (name ++ more_text names)

abbrev more_tokens : List (List ℕ) → List Token → List Token
more_tokens [] more = t.CloseSquare ∷ more
more_tokens (name ∷ names) more = t.Comma ∷ t.Name name ∷ more_tokens names more

abbrev names_tokens : List (List ℕ) → List Token → List Token
names_tokens [] more = t.CloseSquare ∷ more
names_tokens (name ∷ names) more = t.Name name ∷ more_tokens names more

more_are : (names : List (List ℕ)) (more : List Token) → AreMore (more_tokens names more) names more
more_are [] more = g.NoMore more
more_are (name ∷ names) more = g.OneMore name (more_tokens names more) names more (more_are names more)

names_are : (names : List (List ℕ)) (more : List Token) → AreNames (names_tokens names more) names more
names_are [] more = g.NoName more
names_are (name ∷ names) more = g.SomeNames name (more_tokens names more) names more (more_are names more)

more_ends : (names : List (List ℕ)) (rest : List ℕ) → begins_with_word_byte (more_text names ++ rest) ≡ false
more_ends [] rest = refl
more_ends (name ∷ names) rest = refl

-- the last bracket, and a space before what stands behind it
bracket_space : (rest : List ℕ) (more : List Token) (after : List ℕ) → AreTokens (32 ∷ rest) more after → AreTokens (codes "] " ++ rest) (t.CloseSquare ∷ more) after
bracket_space rest more after h = then_token t.CloseSquare tt tt refl h

more_spelled : (names : List (List ℕ)) → All IsSymbolName names → (rest : List ℕ) (more : List Token) (after : List ℕ) → AreTokens (32 ∷ rest) more after → AreTokens (more_text names ++ rest) (more_tokens names more) after
more_spelled [] are rest more after h = bracket_space rest more after h
more_spelled (name ∷ names) are rest more after h =
    let symbol = All-head IsSymbolName name names are in
    let same : more_text (name ∷ names) ++ rest ≡ codes ", " ++ (name ++ (more_text names ++ rest)) = simp append_assoc in
    subst (λ (x : List ℕ). AreTokens x (more_tokens (name ∷ names) more) after) (sym same)
    (then_token t.Comma tt tt refl (then_white 32 refl (then_token (t.Name name) symbol.identifier tt (more_ends names rest)
    (more_spelled names (All-tail IsSymbolName name names are) rest more after h))))

more_joined : (names : List (List ℕ)) → flat_map (λ (x : List ℕ). codes ", " ++ x) names ++ codes "] " ≡ more_text names
more_joined [] = refl
more_joined (name ∷ names) =
    let same : flat_map (λ (x : List ℕ). codes ", " ++ x) (name ∷ names) ++ codes "] " ≡ codes ", " ++ (name ++ (flat_map (λ (x : List ℕ). codes ", " ++ x) names ++ codes "] ")) = simp append_assoc in
    same ∙ ap (λ (x : List ℕ). codes ", " ++ (name ++ x)) (more_joined names)

names_joined : (name : List ℕ) (names : List (List ℕ)) → names_text (name ∷ names) ≡ codes "[" ++ (name ++ more_text names)
names_joined name names =
    let same : names_text (name ∷ names) ≡ codes "[" ++ (name ++ (flat_map (λ (x : List ℕ). codes ", " ++ x) names ++ codes "] ")) = simp append_assoc in
    same ∙ ap (λ (x : List ℕ). codes "[" ++ (name ++ x)) (more_joined names)

names_spelled : (names : List (List ℕ)) → All IsSymbolName names → (rest : List ℕ) (more : List Token) (after : List ℕ) → AreTokens (32 ∷ rest) more after → AreTokens (names_text names ++ rest) (t.OpenSquare ∷ names_tokens names more) after
names_spelled [] are rest more after h = then_token t.OpenSquare tt tt refl (bracket_space rest more after h)
names_spelled (name ∷ names) are rest more after h =
    let symbol = All-head IsSymbolName name names are in
    let same : names_text (name ∷ names) ++ rest ≡ codes "[" ++ (name ++ (more_text names ++ rest)) = ap (λ (x : List ℕ). x ++ rest) (names_joined name names) ∙ simp append_assoc in
    subst (λ (x : List ℕ). AreTokens x (t.OpenSquare ∷ names_tokens (name ∷ names) more) after) (sym same)
    (then_token t.OpenSquare tt tt refl (then_token (t.Name name) symbol.identifier tt (more_ends names rest)
    (more_spelled names (All-tail IsSymbolName name names are) rest more after h)))

-- ---- commands

-- what stands before the type, and the type, before the rest
declared_spelled : (name : List ℕ) (type : Lp) (s : Shown (IsTerm [] []) (dk_term_text type 0) type) (end : List ℕ) (more : List Token) (after : List ℕ) → IsIdentifier name → begins_with_word_byte end ≡ false → AreTokens end more after
    → AreTokens (declaration_text name type ++ end) (t.Name name ∷ t.Colon ∷ s.first ∷ s.others more) after
declared_spelled name type s end more after is ends h =
    let same : declaration_text name type ++ end ≡ name ++ (codes " : " ++ (dk_term_text type 0 ++ end)) = simp append_assoc in
    subst (λ (x : List ℕ). AreTokens x (t.Name name ∷ t.Colon ∷ s.first ∷ s.others more) after) (sym same)
    (then_token (t.Name name) is tt refl (then_white 32 refl (then_token t.Colon tt tt refl (then_white 32 refl (s.spelled end more after ends h)))))

record ShownCommand (text : List ℕ) (c : Command) : Type 0 where
  tokens : List Token
  spelled : (rest : List ℕ) → AreTokens (text ++ rest) tokens (10 ∷ rest)
  is : IsCommand tokens c []
  firm : (rest : List ℕ) → IsFirm (text ++ rest)

stop_end : (rest : List ℕ) → AreTokens (codes ".\n" ++ rest) (t.Stop ∷ []) (10 ∷ rest)
stop_end rest = then_token t.Stop tt tt refl (NoToken (10 ∷ rest))

command_shown : (c : Command) → IsPrintableCommand c → command_over c ≡ 0 → ShownCommand (dk_command_text c) c
command_shown (command.Constant name type) (symbol, h) few =
    let s = closed_shown [] type h few in record {
      tokens = t.Name name ∷ t.Colon ∷ s.first ∷ s.others (t.Stop ∷ []);
      spelled = λ rest.
          let same : dk_command_text (command.Constant name type) ++ rest ≡ declaration_text name type ++ (codes ".\n" ++ rest) = append_assoc (declaration_text name type) (codes ".\n") rest in
          subst (λ (x : List ℕ). AreTokens x (t.Name name ∷ t.Colon ∷ s.first ∷ s.others (t.Stop ∷ [])) (10 ∷ rest)) (sym same)
          (declared_spelled name type s (codes ".\n" ++ rest) (t.Stop ∷ []) (10 ∷ rest) symbol.identifier refl (stop_end rest));
      is = g.Constant name (s.first ∷ s.others (t.Stop ∷ [])) type [] (s.is (t.Stop ∷ []));
      firm = λ rest.
          let same : dk_command_text (command.Constant name type) ++ rest ≡ name ++ (codes " : " ++ (dk_term_text type 0 ++ (codes ".\n" ++ rest))) = simp append_assoc in
          subst IsFirm (sym same) (name_firm name _ symbol.identifier);
    }
command_shown (command.Symbol name type) (symbol, h) few =
    let s = closed_shown [] type h few in record {
      tokens = t.Def ∷ t.Name name ∷ t.Colon ∷ s.first ∷ s.others (t.Stop ∷ []);
      spelled = λ rest.
          let same : dk_command_text (command.Symbol name type) ++ rest ≡ codes "def" ++ (codes " " ++ (declaration_text name type ++ (codes ".\n" ++ rest))) = simp append_assoc in
          subst (λ (x : List ℕ). AreTokens x (t.Def ∷ t.Name name ∷ t.Colon ∷ s.first ∷ s.others (t.Stop ∷ [])) (10 ∷ rest)) (sym same)
          (then_token t.Def tt tt refl (then_white 32 refl (declared_spelled name type s (codes ".\n" ++ rest) (t.Stop ∷ []) (10 ∷ rest) symbol.identifier refl (stop_end rest))));
      is = g.Declaration name (s.first ∷ s.others (t.Stop ∷ [])) type [] (s.is (t.Stop ∷ []));
      firm = λ rest. (refl, refl);
    }
command_shown (command.Define name type body) (symbol, h, k) few =
    let both = none_of_both (bodies_over type 0) (bodies_over body 0) few in
    let s = closed_shown [] type h both.0 in
    let b = closed_shown [] body k both.1 in
    let middle : List Token = t.Defined ∷ b.first ∷ b.others (t.Stop ∷ []) in record {
      tokens = t.Def ∷ t.Name name ∷ t.Colon ∷ s.first ∷ s.others middle;
      spelled = λ rest.
          let end : List ℕ = codes " := " ++ (dk_term_text body 0 ++ (codes ".\n" ++ rest)) in
          let same : dk_command_text (command.Define name type body) ++ rest ≡ codes "def" ++ (codes " " ++ (declaration_text name type ++ end)) = simp append_assoc in
          subst (λ (x : List ℕ). AreTokens x (t.Def ∷ t.Name name ∷ t.Colon ∷ s.first ∷ s.others middle) (10 ∷ rest)) (sym same)
          (then_token t.Def tt tt refl (then_white 32 refl (declared_spelled name type s end middle (10 ∷ rest) symbol.identifier refl
          (then_white 32 refl (then_token t.Defined tt tt refl (then_white 32 refl (b.spelled (codes ".\n" ++ rest) (t.Stop ∷ []) (10 ∷ rest) refl (stop_end rest))))))));
      is = g.Definition name (s.first ∷ s.others middle) type (b.first ∷ b.others (t.Stop ∷ [])) body [] (s.is middle) (b.is (t.Stop ∷ []));
      firm = λ rest. (refl, refl);
    }
command_shown (command.Rule left right) (are, h, k) few =
    let both = none_of_both (bodies_over left 0) (bodies_over right 0) few in
    let names = pattern_names left in
    let s = closed_shown names left h both.0 in
    let b = closed_shown names right k both.1 in
    let middle : List Token = t.Rewrites ∷ b.first ∷ b.others (t.Stop ∷ []) in record {
      tokens = t.OpenSquare ∷ names_tokens names (s.first ∷ s.others middle);
      spelled = λ rest.
          let end : List ℕ = codes " --> " ++ (dk_term_text right 0 ++ (codes ".\n" ++ rest)) in
          let same : dk_command_text (command.Rule left right) ++ rest ≡ names_text names ++ (dk_term_text left 0 ++ end) = simp append_assoc in
          subst (λ (x : List ℕ). AreTokens x (t.OpenSquare ∷ names_tokens names (s.first ∷ s.others middle)) (10 ∷ rest)) (sym same)
          (names_spelled names are (dk_term_text left 0 ++ end) (s.first ∷ s.others middle) (10 ∷ rest) (then_white 32 refl (s.spelled end middle (10 ∷ rest) refl
          (then_white 32 refl (then_token t.Rewrites tt tt refl (then_white 32 refl (b.spelled (codes ".\n" ++ rest) (t.Stop ∷ []) (10 ∷ rest) refl (stop_end rest))))))));
      is = g.Rule (names_tokens names (s.first ∷ s.others middle)) names (s.first ∷ s.others middle) left (b.first ∷ b.others (t.Stop ∷ [])) right [] (names_are names (s.first ∷ s.others middle)) refl (s.is middle) (b.is (t.Stop ∷ []));
      firm = λ rest. (refl, refl);
    }

-- the newline behind a command before the others
behind_newline : {Allowed : Command → Type 0} (commands : List Command) (rest : List ℕ) → AreCommands Allowed rest commands [] → AreCommands Allowed (10 ∷ rest) commands []
behind_newline _ rest (NoCommand _ here s) = NoCommand (10 ∷ rest) here (newline rest here s)
behind_newline _ rest (CommandFirst _ here c after commands there s b w f) = CommandFirst (10 ∷ rest) here c after commands there (newline rest here s) b w f

commands_read : (Allowed : Command → Type 0) (commands : List Command) → ArePrintable commands → commands_over commands ≡ 0 → All Allowed commands → AreCommands Allowed (dk_commands_text commands) commands []
commands_read Allowed [] h few w = NoCommand [] [] (Nothing [] tt)
commands_read Allowed (c ∷ commands) h few w =
    let both = none_of_both (command_over c) (commands_over commands) few in
    let s = command_shown c (All-head IsPrintableCommand c commands h) both.0 in
    let rest = dk_commands_text commands in
    CommandFirst (dk_command_text c ++ rest) (dk_command_text c ++ rest) c (10 ∷ rest) commands [] (Nothing (dk_command_text c ++ rest) (s.firm rest))
    (record { tokens = s.tokens; are = s.spelled rest; is = s.is }) (All-head Allowed c commands w)
    (behind_newline commands rest (commands_read Allowed commands (All-tail IsPrintableCommand c commands h) both.1 (All-tail Allowed c commands w)))

pub print_is_read : PrintIsRead
print_is_read development h few = commands_read IsAny development.commands h few (λ k d lt. tt)

pub print_is_read_alone : PrintIsReadAlone
print_is_read_alone development other h few reads = reading_is_one (dk_text_of development) other development reads (print_is_read development h few)

pub print_is_answered : PrintIsAnswered
print_is_answered development h few w = commands_read IsShallow development.commands h few w
