-- The text of a printable development is read as it.
use Rattle.std.proofs.Common.{◌≡◌, refl, sym, ap, subst, ◌∙◌, ℕ, zero, suc, ◌+◌, ◌-◌, ◌<◌, ◌≤◌, ◌^◌, Bool, true, false, ◌&&◌, ◌||◌, eqb, inl, inr, List, [], ◌∷◌, ◌++◌, length, Option, Some, None, codes, append_assoc, append-nil, arith}
use Rattle.std.specs.Prelude.{◌==◌, All, IsTrue, is_some, nat_lt, not}
use Rattle.std.specs.List.{list_all}
use Rattle.std.proofs.lemmas.Bool.{cases_Bool, and_parts, or_cases, eqb-true, ltb-true}
use Rattle.std.proofs.lemmas.List.Elements.{All-head, All-tail}
use Rattle.lp_term.specs.Identifiers.{word_byte}
use Rattle.lp_term.specs.declared.Command.{Command}
use Rattle.lp_term.specs.declared.Command.TheVariants as command
use Rattle.lp_term.specs.declared.Dev.{Dev}
use Rattle.lp_term.specs.declared.Lp.{Lp, Lp-F, fold-roll-Lp, roll-Lp}
use Rattle.lp_term.specs.declared.Lp.TheOpen as layer
use Rattle.lp_term.specs.declared.Lp.TheVariants as lp
use Rattle.lp_term.specs.declared.Lp.TheVariants.{rolls-Sort, rolls-Sym, rolls-Var, rolls-Pat, rolls-App, rolls-Lam, rolls-Pi}
use Rattle.lp_term.specs.View.{term_of}
use Rattle.lp_term.proofs.ViewLaws.{lp_induction, view_App, view_Lam, view_Pat, view_Pi, view_Sym, view_Var}
use Rattle.lp_text.specs.Levels.{bodies_over, command_over, commands_over, over, over_at}
use Rattle.lp_text.specs.Print.{Parts, Printed, application_text, argument_text, arrow_text, binder_text, bracketed, command_text, commands_text, declaration_text, lambda_mark, let_text, operand_text, printed, printed_at, product_mark, product_text, term_text, text_of, variable_text}
use Rattle.lp_read.specs.declared.token.Token.{Token}
use Rattle.lp_read.specs.declared.token.Token.TheVariants as t
use Rattle.lp_read.specs.Grammar as g
use Rattle.lp_read.specs.Grammar.{IsTerm, IsApplication, IsAtom, IsCommand}
use Rattle.lp_read.specs.Matter.{Skips, Nothing, White, IsFirm, is_white}
use Rattle.lp_read.specs.Printable.{ArePrintable, IsPrintable, IsPrintableCommand, IsSymbolName, PrintIsAnswered, PrintIsRead, PrintIsReadAlone}
use Rattle.lp_read.specs.Scopes.{Scope, binder_of, meaning, variable_or}
use Rattle.lp_read.specs.Text.{AreCommands, NoCommand, CommandFirst, IsAny, IsShallow}
use Rattle.lp_read.specs.TokenLists.{AreTokens, NoToken, MoreTokens}
use Rattle.lp_read.specs.Tokens.{IsIdentifier, IsToken, begins_with_word_byte, is_word, spelling}
use Rattle.lp_read.proofs.PrintedNames.{IsCanonical, has_name, symbol_found, variable_found, variable_identifier}
use Rattle.lp_read.proofs.TextLaws.{reading_is_one}

-- ---- tokens one behind the other

other_byte : (b n : ℕ) → word_byte b ≡ true → word_byte n ≡ false → eqb b n ≡ false
other_byte b n w dark = elim (cases_Bool (eqb b n)) [ inl e ↦ absurd (let c : true ≡ false = sym w ∙ ap word_byte (eqb-true b n e) ∙ dark in cc) | inr e ↦ e ]

word_firm : (b : ℕ) (bytes : List ℕ) → word_byte b ≡ true → IsFirm (b ∷ bytes)
word_firm b bytes w = (rw (other_byte b 32 w refl, other_byte b 9 w refl, other_byte b 10 w refl, other_byte b 13 w refl) refl, rw (other_byte b 47 w refl) refl)

name_firm : (name rest : List ℕ) → IsIdentifier name → IsFirm (name ++ rest)
name_firm [] rest h = absurd (h.grammar.not_empty refl)
name_firm (b ∷ name) rest h = word_firm b (name ++ rest) (and_parts (word_byte b) (list_all word_byte name) h.grammar.word_bytes).0

token_firm : (token : Token) (rest : List ℕ) → IsToken token → IsFirm (spelling token ++ rest)
token_firm (t.Name name) rest h = name_firm name rest h
token_firm (t.Pattern name) rest h = (refl, refl)
token_firm _ rest h = (refl, refl)

-- a token, and what stands behind it
then_token : (token : Token) {rest : List ℕ} {tokens : List Token} {after : List ℕ} → IsToken token → (is_word token ≡ true → begins_with_word_byte rest ≡ false) → AreTokens rest tokens after → AreTokens (spelling token ++ rest) (token ∷ tokens) after
then_token token {rest} {tokens} {after} is whole h =
    MoreTokens (spelling token ++ rest) (spelling token ++ rest) token rest tokens after (Nothing (spelling token ++ rest) (token_firm token rest is)) (record { is = is; front = refl; whole = whole }) h

-- white space before a token
then_white : (b : ℕ) {rest : List ℕ} {token : Token} {tokens : List Token} {after : List ℕ} → is_white b ≡ true → AreTokens rest (token ∷ tokens) after → AreTokens (b ∷ rest) (token ∷ tokens) after
then_white b {rest} white (MoreTokens _ here token next tokens after s l h) = MoreTokens (b ∷ rest) here token next tokens after (White b rest here white s) l h

-- a mark, and what stands behind it
then_mark : (token : Token) {rest : List ℕ} {tokens : List Token} {after : List ℕ} → IsToken token → is_word token ≡ false → AreTokens rest tokens after → AreTokens (spelling token ++ rest) (token ∷ tokens) after
then_mark token is mark h = then_token token is (λ w. absurd cc) h

-- ---- texts of terms

-- the text is spelled by tokens that are the term, whatever stands behind
record Shown (P : List Token → Lp → List Token → Type 0) (text : List ℕ) (term : Lp) : Type 0 where
  first : Token
  others : List Token → List Token
  spelled : (rest : List ℕ) (more : List Token) (after : List ℕ) → begins_with_word_byte rest ≡ false → AreTokens rest more after → AreTokens (text ++ rest) (first ∷ others more) after
  is : (more : List Token) → P (first ∷ others more) term more

shown_as : {P Q : List Token → Lp → List Token → Type 0} {text : List ℕ} {term : Lp} → ((ts rest : List Token) → P ts term rest → Q ts term rest) → Shown P text term → Shown Q text term
shown_as weaker s = record { first = s.first; others = s.others; spelled = s.spelled; is = λ more. weaker (s.first ∷ s.others more) more (s.is more) }

-- brackets around a term
in_brackets : {patterns : Bool} {scope : Scope} {text : List ℕ} {term : Lp} → Shown (IsTerm patterns scope) text term → Shown (IsAtom patterns scope) (40 ∷ (text ++ 41 ∷ [])) term
in_brackets {patterns} {scope} {text} {term} s = record {
  first = t.OpenBracket;
  others = λ more. s.first ∷ s.others (t.CloseBracket ∷ more);
  spelled = λ rest more after ends h.
      let same : 40 ∷ ((text ++ 41 ∷ []) ++ rest) ≡ 40 ∷ (text ++ 41 ∷ rest) = ap (λ (x : List ℕ). 40 ∷ x) (append_assoc text (41 ∷ []) rest) in
      subst (λ (x : List ℕ). AreTokens x (t.OpenBracket ∷ s.first ∷ s.others (t.CloseBracket ∷ more)) after) (sym same)
      (then_mark t.OpenBracket tt refl (s.spelled (41 ∷ rest) (t.CloseBracket ∷ more) after refl (then_mark t.CloseBracket tt refl h)));
  is = λ more. g.InBrackets patterns scope (s.first ∷ s.others (t.CloseBracket ∷ more)) term more (s.is (t.CloseBracket ∷ more));
}

-- what an abstraction shows as the function of a `let`
abbrev ShownFunction : Bool → Scope → ℕ → Lp → Option Parts → Type 0
ShownFunction patterns scope level term None = Unit {0}
ShownFunction patterns scope level term (Some parts) =
    (domain : Lp) × (body : Lp) × (term ≡ lp.Lam domain body) × Shown (IsTerm patterns scope) (parts.domain level) domain × Shown (IsTerm patterns (Some (variable_text level) ∷ scope)) (parts.body (level + 1)) body × (level < 2 ^ 32)

record AllShown (patterns : Bool) (scope : Scope) (level : ℕ) (term : Lp) (p : Printed) : Type 0 where
  bare : Shown (IsTerm patterns scope) (p.bare level) term
  operand : Shown (IsApplication patterns scope) (operand_text p level) term
  argument : Shown (IsAtom patterns scope) (argument_text p level) term
  function : ShownFunction patterns scope level term p.parts

as_term : {patterns : Bool} {scope : Scope} {text : List ℕ} {term : Lp} → Shown (IsApplication patterns scope) text term → Shown (IsTerm patterns scope) text term
as_term {patterns} {scope} {text} {term} s = shown_as (λ ts rest h. g.Applied patterns scope ts term rest h) s

as_application : {patterns : Bool} {scope : Scope} {text : List ℕ} {term : Lp} → Shown (IsAtom patterns scope) text term → Shown (IsApplication patterns scope) text term
as_application {patterns} {scope} {text} {term} s = shown_as (λ ts rest h. g.OneAtom patterns scope ts term rest h) s

-- ---- atoms

one_token : {patterns : Bool} {scope : Scope} (token : Token) (term : Lp) → IsToken token → ((more : List Token) → IsAtom patterns scope (token ∷ more) term more) → Shown (IsAtom patterns scope) (spelling token) term
one_token token term is atom = record {
  first = token;
  others = λ more. more;
  spelled = λ rest more after ends h. then_token token is (λ _. ends) h;
  is = atom;
}

atom_shown : {patterns : Bool} {scope : Scope} {level : ℕ} {term : Lp} (bare : ℕ → List ℕ) (occurs : ℕ → Bool) → Shown (IsAtom patterns scope) (bare level) term
    → AllShown patterns scope level term (record { bare = bare; occurs = occurs; is_atom = true; is_operand = true; parts = None })
atom_shown bare occurs s = record { bare = as_term (as_application s); operand = as_application s; argument = s; function = tt }

-- ---- terms that stand bare only where nothing stands around them

wide_shown : {patterns : Bool} {scope : Scope} {level : ℕ} {term : Lp} (p : Printed) → p.is_atom ≡ false → p.is_operand ≡ false → Shown (IsTerm patterns scope) (p.bare level) term → ShownFunction patterns scope level term p.parts → AllShown patterns scope level term p
wide_shown {patterns} {scope} {level} {term} p no_atom no_operand s f =
    let inside = in_brackets s in record {
      bare = s;
      operand = (rw no_operand (as_application inside));
      argument = (rw no_atom inside);
      function = f;
    }

-- ---- binders

-- `(v : domain), body` behind a mark
binder_shown : {patterns : Bool} {scope : Scope} {level : ℕ} {domain body : Lp} {domain_text body_text : List ℕ} (mark : Token) (term : Lp) → IsToken mark → is_word mark ≡ false → level < 2 ^ 32
    → Shown (IsTerm patterns scope) domain_text domain → Shown (IsTerm patterns (Some (variable_text level) ∷ scope)) body_text body
    → ((ts next rest : List Token) → IsTerm patterns scope ts domain (t.CloseBracket ∷ t.Comma ∷ next) → IsTerm patterns (Some (variable_text level) ∷ scope) next body rest → IsTerm patterns scope (mark ∷ t.OpenBracket ∷ t.Name (variable_text level) ∷ t.Colon ∷ ts) term rest)
    → Shown (IsTerm patterns scope) (spelling mark ++ (codes " (" ++ (variable_text level ++ (codes " : " ++ (domain_text ++ (codes "), " ++ body_text)))))) term
binder_shown {patterns} {scope} {level} {domain} {body} {domain_text} {body_text} mark term is no_word small d b made = record {
  first = mark;
  others = λ more. t.OpenBracket ∷ t.Name (variable_text level) ∷ t.Colon ∷ d.first ∷ d.others (t.CloseBracket ∷ t.Comma ∷ b.first ∷ b.others more);
  spelled = λ rest more after ends h.
      let same : (spelling mark ++ (codes " (" ++ (variable_text level ++ (codes " : " ++ (domain_text ++ (codes "), " ++ body_text)))))) ++ rest ≡ spelling mark ++ (codes " (" ++ (variable_text level ++ (codes " : " ++ (domain_text ++ (codes "), " ++ (body_text ++ rest)))))) = simp append_assoc in
      subst (λ (x : List ℕ). AreTokens x (mark ∷ t.OpenBracket ∷ t.Name (variable_text level) ∷ t.Colon ∷ d.first ∷ d.others (t.CloseBracket ∷ t.Comma ∷ b.first ∷ b.others more)) after) (sym same)
      (then_mark mark is no_word (then_white 32 refl (then_mark t.OpenBracket tt refl
      (then_token (t.Name (variable_text level)) (variable_identifier level (omega arith)) (λ _. refl) (then_white 32 refl (then_mark t.Colon tt refl (then_white 32 refl
      (d.spelled (codes "), " ++ (body_text ++ rest)) (t.CloseBracket ∷ t.Comma ∷ b.first ∷ b.others more) after refl
      (then_mark t.CloseBracket tt refl (then_mark t.Comma tt refl (then_white 32 refl (b.spelled rest more after ends h))))))))))));
  is = λ more. made (d.first ∷ d.others (t.CloseBracket ∷ t.Comma ∷ b.first ∷ b.others more)) (b.first ∷ b.others more) more (d.is (t.CloseBracket ∷ t.Comma ∷ b.first ∷ b.others more)) (b.is more);
}

-- domain → body
arrow_shown : {patterns : Bool} {scope : Scope} {domain body : Lp} {domain_text body_text : List ℕ} → Shown (IsApplication patterns scope) domain_text domain → Shown (IsTerm patterns (None ∷ scope)) body_text body
    → Shown (IsTerm patterns scope) (domain_text ++ (codes " " ++ ((226 ∷ 134 ∷ 146 ∷ []) ++ (codes " " ++ body_text)))) (lp.Pi domain body)
arrow_shown {patterns} {scope} {domain} {body} {domain_text} {body_text} d b = record {
  first = d.first;
  others = λ more. d.others (t.Arrow ∷ b.first ∷ b.others more);
  spelled = λ rest more after ends h.
      let same : (domain_text ++ (codes " " ++ ((226 ∷ 134 ∷ 146 ∷ []) ++ (codes " " ++ body_text)))) ++ rest ≡ domain_text ++ (codes " " ++ ((226 ∷ 134 ∷ 146 ∷ []) ++ (codes " " ++ (body_text ++ rest)))) = simp append_assoc in
      subst (λ (x : List ℕ). AreTokens x (d.first ∷ d.others (t.Arrow ∷ b.first ∷ b.others more)) after) (sym same)
      (d.spelled (codes " " ++ ((226 ∷ 134 ∷ 146 ∷ []) ++ (codes " " ++ (body_text ++ rest)))) (t.Arrow ∷ b.first ∷ b.others more) after refl
      (then_white 32 refl (then_mark t.Arrow tt refl (then_white 32 refl (b.spelled rest more after ends h)))));
  is = λ more. g.Arrow patterns scope (d.first ∷ d.others (t.Arrow ∷ b.first ∷ b.others more)) domain (b.first ∷ b.others more) body more (d.is (t.Arrow ∷ b.first ∷ b.others more)) (b.is more);
}

-- let v : type ≔ value in, a newline, body
let_shown : {patterns : Bool} {scope : Scope} {level : ℕ} {type value body : Lp} {type_text value_text body_text : List ℕ} → level < 2 ^ 32
    → Shown (IsTerm patterns scope) type_text type → Shown (IsTerm patterns scope) value_text value → Shown (IsTerm patterns (Some (variable_text level) ∷ scope)) body_text body
    → Shown (IsTerm patterns scope) (codes "let " ++ (variable_text level ++ (codes " : " ++ (type_text ++ (codes " " ++ ((226 ∷ 137 ∷ 148 ∷ []) ++ (codes " " ++ (value_text ++ (codes " in\n" ++ body_text))))))))) (lp.App (lp.Lam type body) value)
let_shown {patterns} {scope} {level} {type} {value} {body} {type_text} {value_text} {body_text} small d v b = record {
  first = t.Let;
  others = λ more. t.Name (variable_text level) ∷ t.Colon ∷ d.first ∷ d.others (t.Defined ∷ v.first ∷ v.others (t.In ∷ b.first ∷ b.others more));
  spelled = λ rest more after ends h.
      let same : (codes "let " ++ (variable_text level ++ (codes " : " ++ (type_text ++ (codes " " ++ ((226 ∷ 137 ∷ 148 ∷ []) ++ (codes " " ++ (value_text ++ (codes " in\n" ++ body_text))))))))) ++ rest
      ≡ codes "let " ++ (variable_text level ++ (codes " : " ++ (type_text ++ (codes " " ++ ((226 ∷ 137 ∷ 148 ∷ []) ++ (codes " " ++ (value_text ++ (codes " in\n" ++ (body_text ++ rest))))))))) = simp append_assoc in
      subst (λ (x : List ℕ). AreTokens x (t.Let ∷ t.Name (variable_text level) ∷ t.Colon ∷ d.first ∷ d.others (t.Defined ∷ v.first ∷ v.others (t.In ∷ b.first ∷ b.others more))) after) (sym same)
      (then_token t.Let tt (λ _. refl) (then_white 32 refl (then_token (t.Name (variable_text level)) (variable_identifier level (omega arith)) (λ _. refl)
      (then_white 32 refl (then_mark t.Colon tt refl (then_white 32 refl
      (d.spelled (codes " " ++ ((226 ∷ 137 ∷ 148 ∷ []) ++ (codes " " ++ (value_text ++ (codes " in\n" ++ (body_text ++ rest)))))) (t.Defined ∷ v.first ∷ v.others (t.In ∷ b.first ∷ b.others more)) after refl
      (then_white 32 refl (then_mark t.Defined tt refl (then_white 32 refl
      (v.spelled (codes " in\n" ++ (body_text ++ rest)) (t.In ∷ b.first ∷ b.others more) after refl
      (then_white 32 refl (then_token t.In tt (λ _. refl) (then_white 10 refl (b.spelled rest more after ends h)))))))))))))));
  is = λ more. g.Let patterns scope (variable_text level) (d.first ∷ d.others (t.Defined ∷ v.first ∷ v.others (t.In ∷ b.first ∷ b.others more))) type (v.first ∷ v.others (t.In ∷ b.first ∷ b.others more)) value (b.first ∷ b.others more) body more
      (d.is (t.Defined ∷ v.first ∷ v.others (t.In ∷ b.first ∷ b.others more))) (v.is (t.In ∷ b.first ∷ b.others more)) (b.is more);
}

-- function argument
spine_shown : {patterns : Bool} {scope : Scope} {function argument : Lp} {function_text argument_text : List ℕ} → Shown (IsApplication patterns scope) function_text function → Shown (IsAtom patterns scope) argument_text argument
    → Shown (IsApplication patterns scope) (function_text ++ (codes " " ++ argument_text)) (lp.App function argument)
spine_shown {patterns} {scope} {function} {argument} {function_text} {argument_text} f a = record {
  first = f.first;
  others = λ more. f.others (a.first ∷ a.others more);
  spelled = λ rest more after ends h.
      let same : (function_text ++ (codes " " ++ argument_text)) ++ rest ≡ function_text ++ (codes " " ++ (argument_text ++ rest)) = simp append_assoc in
      subst (λ (x : List ℕ). AreTokens x (f.first ∷ f.others (a.first ∷ a.others more)) after) (sym same)
      (f.spelled (codes " " ++ (argument_text ++ rest)) (a.first ∷ a.others more) after refl (then_white 32 refl (a.spelled rest more after ends h)));
  is = λ more. g.Argument patterns scope (f.first ∷ f.others (a.first ∷ a.others more)) function (a.first ∷ a.others more) argument more (f.is (a.first ∷ a.others more)) (a.is more);
}

-- an application is a `let`, or none
application_shown : {patterns : Bool} {scope : Scope} {level : ℕ} {function argument : Lp} (f a : Printed) (parts : Option Parts) → f.parts ≡ parts → AllShown patterns scope level function f → AllShown patterns scope level argument a
    → AllShown patterns scope level (lp.App function argument) (record { bare = application_text parts f a; occurs = λ number. f.occurs number || a.occurs number; is_atom = false; is_operand = not (is_some parts); parts = None })
application_shown {patterns} {scope} {level} {function} {argument} f a None e hf ha =
    let s = spine_shown hf.operand ha.argument in record { bare = as_term s; operand = s; argument = in_brackets (as_term s); function = tt }
application_shown {patterns} {scope} {level} {function} {argument} f a (Some parts) e hf ha =
    let k : ShownFunction patterns scope level function (Some parts) = subst (ShownFunction patterns scope level function) e hf.function in
    let s : Shown (IsTerm patterns scope) (let_text parts a level) (lp.App function argument) = subst (λ (x : Lp). Shown (IsTerm patterns scope) (let_text parts a level) (lp.App x argument)) (sym k.2) (let_shown k.5 k.3 ha.bare k.4) in
    wide_shown (record { bare = application_text (Some parts) f a; occurs = λ number. f.occurs number || a.occurs number; is_atom = false; is_operand = false; parts = None }) refl refl s tt

-- ---- the views of terms

printed_Sort : printed lp.Sort ≡ printed_at layer.Sort
printed_Sort = ap printed (sym rolls-Sort) ∙ fold-roll-Lp Printed printed_at layer.Sort

printed_Sym : (name : List ℕ) → printed (lp.Sym name) ≡ printed_at (layer.Sym name)
printed_Sym name = ap printed (sym (rolls-Sym name)) ∙ fold-roll-Lp Printed printed_at (layer.Sym name)

printed_Var : (number : ℕ) → printed (lp.Var number) ≡ printed_at (layer.Var number)
printed_Var number = ap printed (sym (rolls-Var number)) ∙ fold-roll-Lp Printed printed_at (layer.Var number)

printed_Pat : (name : List ℕ) → printed (lp.Pat name) ≡ printed_at (layer.Pat name)
printed_Pat name = ap printed (sym (rolls-Pat name)) ∙ fold-roll-Lp Printed printed_at (layer.Pat name)

printed_App : (a b : Lp) → printed (lp.App a b) ≡ printed_at (layer.App (printed a) (printed b))
printed_App a b = ap printed (sym (rolls-App a b)) ∙ fold-roll-Lp Printed printed_at (layer.App a b)

printed_Lam : (a b : Lp) → printed (lp.Lam a b) ≡ printed_at (layer.Lam (printed a) (printed b))
printed_Lam a b = ap printed (sym (rolls-Lam a b)) ∙ fold-roll-Lp Printed printed_at (layer.Lam a b)

printed_Pi : (a b : Lp) → printed (lp.Pi a b) ≡ printed_at (layer.Pi (printed a) (printed b))
printed_Pi a b = ap printed (sym (rolls-Pi a b)) ∙ fold-roll-Lp Printed printed_at (layer.Pi a b)

over_App : (a b : Lp) (level : ℕ) → bodies_over (lp.App a b) level ≡ bodies_over a level + bodies_over b level
over_App a b level = ap (λ (f : ℕ → ℕ). f level) (ap bodies_over (sym (rolls-App a b)) ∙ fold-roll-Lp (ℕ → ℕ) over_at (layer.App a b))

over_Lam : (a b : Lp) (level : ℕ) → bodies_over (lp.Lam a b) level ≡ bodies_over a level + (over (level + 1) + bodies_over b (level + 1))
over_Lam a b level = ap (λ (f : ℕ → ℕ). f level) (ap bodies_over (sym (rolls-Lam a b)) ∙ fold-roll-Lp (ℕ → ℕ) over_at (layer.Lam a b))

over_Pi : (a b : Lp) (level : ℕ) → bodies_over (lp.Pi a b) level ≡ bodies_over a level + (over (level + 1) + bodies_over b (level + 1))
over_Pi a b level = ap (λ (f : ℕ → ℕ). f level) (ap bodies_over (sym (rolls-Pi a b)) ∙ fold-roll-Lp (ℕ → ℕ) over_at (layer.Pi a b))

none_of_both : (a b : ℕ) → a + b ≡ 0 → (a ≡ 0) × (b ≡ 0)
none_of_both a b e = (omega arith, omega arith)

-- ---- what occurs has a name

abbrev HaveNames : Printed → Scope → Type 0
HaveNames p scope = (number : ℕ) → p.occurs number ≡ true → has_name scope number ≡ true

or_first : (a b : Bool) → a ≡ true → (a || b) ≡ true
or_first a b e = rw e refl

or_last : (a b : Bool) → b ≡ true → (a || b) ≡ true
or_last true b e = refl
or_last false b e = e

-- below a binder with a name
named_below : (domain body : Printed) (scope : Scope) (name : List ℕ) → ((number : ℕ) → (domain.occurs number || body.occurs (number + 1)) ≡ true → has_name scope number ≡ true) → HaveNames body (Some name ∷ scope)
named_below domain body scope name names zero e = refl
named_below domain body scope name names (suc number) e =
    let one : suc number ≡ number + 1 = omega arith in
    names number (or_last (domain.occurs number) (body.occurs (number + 1)) (ap body.occurs (sym one) ∙ e))

-- below an arrow
arrow_below : (domain body : Printed) (scope : Scope) → body.occurs 0 ≡ false → ((number : ℕ) → (domain.occurs number || body.occurs (number + 1)) ≡ true → has_name scope number ≡ true) → HaveNames body (None ∷ scope)
arrow_below domain body scope free names zero e = absurd cc
arrow_below domain body scope free names (suc number) e =
    let one : suc number ≡ number + 1 = omega arith in
    names number (or_last (domain.occurs number) (body.occurs (number + 1)) (ap body.occurs (sym one) ∙ e))

-- ---- the text of a term

-- what is to be shown of a term
abbrev IsShown : Lp → Type 0
IsShown term = (patterns : Bool) (level : ℕ) (scope : Scope) → IsPrintable patterns level (term_of term) → bodies_over term level ≡ 0 → IsCanonical scope → length scope ≡ level → level < 2 ^ 33 → HaveNames (printed term) scope
    → AllShown patterns scope level term (printed term)

sort_shown : IsShown lp.Sort
sort_shown patterns level scope h few is long small names =
    subst (AllShown patterns scope level lp.Sort) (sym printed_Sort) (atom_shown (λ l. codes "TYPE") (λ number. false) (one_token t.Sort lp.Sort tt (λ more. g.Sort patterns scope more)))

symbol_shown : (name : List ℕ) → IsShown (lp.Sym name)
symbol_shown name patterns level scope h few is long small names =
    let symbol : IsSymbolName name = subst (IsPrintable patterns level) (view_Sym name) h in
    subst (AllShown patterns scope level (lp.Sym name)) (sym (printed_Sym name))
    (atom_shown (λ l. name) (λ number. false) (one_token (t.Name name) (lp.Sym name) symbol.identifier (λ more.
    subst (λ (x : Lp). IsAtom patterns scope (t.Name name ∷ more) x more) (ap (variable_or name) (symbol_found scope name (omega arith) is symbol.no_variable)) (g.Identifier patterns scope name more))))

variable_shown : (number : ℕ) → IsShown (lp.Var number)
variable_shown number patterns level scope h few is long small names =
    let inside : number < level = subst (IsPrintable patterns level) (view_Var number) h in
    let named : has_name scope number ≡ true = names number (ap (λ (p : Printed). p.occurs number) (printed_Var number) ∙ (grind arith)) in
    let name = variable_text (level - 1 - number) in
    let found : binder_of scope name ≡ Some number = subst (λ (l : ℕ). binder_of scope (variable_text (l - 1 - number)) ≡ Some number) long (variable_found scope number (omega arith) is named) in
    subst (AllShown patterns scope level (lp.Var number)) (sym (printed_Var number))
    (atom_shown (λ l. variable_text (l - 1 - number)) (λ k. number == k) (one_token (t.Name name) (lp.Var number) (variable_identifier (level - 1 - number) (omega arith)) (λ more.
    subst (λ (x : Lp). IsAtom patterns scope (t.Name name ∷ more) x more) (ap (variable_or name) found) (g.Identifier patterns scope name more))))

pattern_of : (patterns : Bool) (scope : Scope) (name : List ℕ) (more : List Token) → IsTrue patterns → IsAtom patterns scope (t.Pattern name ∷ more) (lp.Pat name) more
pattern_of true scope name more allowed = g.Pattern scope name more
pattern_of false scope name more allowed = absurd cc

pattern_shown : (name : List ℕ) → IsShown (lp.Pat name)
pattern_shown name patterns level scope h few is long small names =
    let k : IsTrue patterns × IsIdentifier name = subst (IsPrintable patterns level) (view_Pat name) h in
    subst (AllShown patterns scope level (lp.Pat name)) (sym (printed_Pat name)) (atom_shown (λ l. codes "$" ++ name) (λ number. false) (one_token (t.Pattern name) (lp.Pat name) k.1 (λ more. pattern_of patterns scope name more k.0)))

apply_shown : (function argument : Lp) → IsShown function → IsShown argument → IsShown (lp.App function argument)
apply_shown function argument sf sa patterns level scope h few is long small names =
    let k : IsPrintable patterns level (term_of function) × IsPrintable patterns level (term_of argument) = subst (IsPrintable patterns level) (view_App function argument) h in
    let both = none_of_both (bodies_over function level) (bodies_over argument level) (sym (over_App function argument level) ∙ few) in
    let names' : (number : ℕ) → ((printed function).occurs number || (printed argument).occurs number) ≡ true → has_name scope number ≡ true = λ number e. names number (ap (λ (p : Printed). p.occurs number) (printed_App function argument) ∙ e) in
    subst (AllShown patterns scope level (lp.App function argument)) (sym (printed_App function argument))
    (application_shown (printed function) (printed argument) (printed function).parts refl
    (sf patterns level scope k.0 both.0 is long small (λ number e. names' number (or_first ((printed function).occurs number) ((printed argument).occurs number) e)))
    (sa patterns level scope k.1 both.1 is long small (λ number e. names' number (or_last ((printed function).occurs number) ((printed argument).occurs number) e))))

record FewParts (domain body : Lp) (level : ℕ) : Type 0 where
  first : bodies_over domain level ≡ 0
  small : level + 1 < 2 ^ 32
  last : bodies_over body (level + 1) ≡ 0

within : (level : ℕ) → over level ≡ 0 → level < 2 ^ 32
within level e = elim (cases_Bool (nat_lt level (2 ^ 32))) [
  | inl less ↦ ltb-true level (2 ^ 32) less
  | inr not_less ↦ absurd (let one : over level ≡ 1 = rw not_less refl in omega arith)
]

few_parts : (domain body : Lp) (level : ℕ) → bodies_over domain level + (over (level + 1) + bodies_over body (level + 1)) ≡ 0 → FewParts domain body level
few_parts domain body level e =
    let p = none_of_both (bodies_over domain level) (over (level + 1) + bodies_over body (level + 1)) e in
    let q = none_of_both (over (level + 1)) (bodies_over body (level + 1)) p.1 in
    record { first = p.0; small = within (level + 1) q.0; last = q.1 }

lambda_shown : (domain body : Lp) → IsShown domain → IsShown body → IsShown (lp.Lam domain body)
lambda_shown domain body sd sb patterns level scope h few is long small names =
    let k : IsPrintable patterns level (term_of domain) × IsPrintable patterns (level + 1) (term_of body) = subst (IsPrintable patterns level) (view_Lam domain body) h in
    let parts = few_parts domain body level (sym (over_Lam domain body level) ∙ few) in
    let inside = parts.small in
    let less : level < 2 ^ 32 = omega arith in
    let names' : (number : ℕ) → ((printed domain).occurs number || (printed body).occurs (number + 1)) ≡ true → has_name scope number ≡ true = λ number e. names number (ap (λ (p : Printed). p.occurs number) (printed_Lam domain body) ∙ e) in
    let d = sd patterns level scope k.0 parts.first is long small (λ number e. names' number (or_first ((printed domain).occurs number) ((printed body).occurs (number + 1)) e)) in
    let b = sb patterns (level + 1) (Some (variable_text level) ∷ scope) k.1 parts.last (ap variable_text (sym long), is) (omega arith) (omega arith) (named_below (printed domain) (printed body) scope (variable_text level) names') in
    let s = binder_shown t.Lambda (lp.Lam domain body) tt refl less d.bare b.bare (λ ts next rest i j. g.Abstraction patterns scope (variable_text level) ts domain next body rest i j) in
    subst (AllShown patterns scope level (lp.Lam domain body)) (sym (printed_Lam domain body))
    (wide_shown (printed_at (layer.Lam (printed domain) (printed body))) refl refl s (domain, body, refl, d.bare, b.bare, less))

product_shown : (domain body : Lp) → IsShown domain → IsShown body → IsShown (lp.Pi domain body)
product_shown domain body sd sb patterns level scope h few is long small names =
    let k : IsPrintable patterns level (term_of domain) × IsPrintable patterns (level + 1) (term_of body) = subst (IsPrintable patterns level) (view_Pi domain body) h in
    let parts = few_parts domain body level (sym (over_Pi domain body level) ∙ few) in
    let inside = parts.small in
    let less : level < 2 ^ 32 = omega arith in
    let names' : (number : ℕ) → ((printed domain).occurs number || (printed body).occurs (number + 1)) ≡ true → has_name scope number ≡ true = λ number e. names number (ap (λ (p : Printed). p.occurs number) (printed_Pi domain body) ∙ e) in
    let d = sd patterns level scope k.0 parts.first is long small (λ number e. names' number (or_first ((printed domain).occurs number) ((printed body).occurs (number + 1)) e)) in
    subst (AllShown patterns scope level (lp.Pi domain body)) (sym (printed_Pi domain body))
    (wide_shown (printed_at (layer.Pi (printed domain) (printed body))) refl refl
    (elim (cases_Bool ((printed body).occurs 0)) [
      | inl there ↦ rw there (binder_shown t.Product (lp.Pi domain body) tt refl less d.bare
          (sb patterns (level + 1) (Some (variable_text level) ∷ scope) k.1 parts.last (ap variable_text (sym long), is) (omega arith) (omega arith) (named_below (printed domain) (printed body) scope (variable_text level) names')).bare
          (λ ts next rest i j. g.Product patterns scope (variable_text level) ts domain next body rest i j))
      | inr absent ↦ rw absent (arrow_shown d.operand (sb patterns (level + 1) (None ∷ scope) k.1 parts.last (tt, is) (omega arith) (omega arith) (arrow_below (printed domain) (printed body) scope absent names')).bare)
    ]) tt)

shown : (term : Lp) → IsShown term
shown = lp_induction IsShown sort_shown symbol_shown variable_shown pattern_shown apply_shown lambda_shown product_shown

-- ---- commands

-- only variables that are bound occur
abbrev Occurs : Lp → Type 0
Occurs term = (patterns : Bool) (level : ℕ) → IsPrintable patterns level (term_of term) → (number : ℕ) → (printed term).occurs number ≡ true → number < level

not_true : {A : Type 0} {b : Bool} → b ≡ false → b ≡ true → A
not_true e f = absurd cc

bound_inside : (term : Lp) → Occurs term
bound_inside = lp_induction Occurs
    (λ patterns level h number e. not_true (ap (λ (p : Printed). p.occurs number) printed_Sort) e)
    (λ name patterns level h number e. not_true (ap (λ (p : Printed). p.occurs number) (printed_Sym name)) e)
    (λ variable patterns level h number e.
    let inside : variable < level = subst (IsPrintable patterns level) (view_Var variable) h in
    let same = eqb-true variable number (sym (ap (λ (p : Printed). p.occurs number) (printed_Var variable)) ∙ e) in
    omega arith)
    (λ name patterns level h number e. not_true (ap (λ (p : Printed). p.occurs number) (printed_Pat name)) e)
    (λ function argument hf ha patterns level h number e.
    let k : IsPrintable patterns level (term_of function) × IsPrintable patterns level (term_of argument) = subst (IsPrintable patterns level) (view_App function argument) h in
    elim (or_cases ((printed function).occurs number) ((printed argument).occurs number) (sym (ap (λ (p : Printed). p.occurs number) (printed_App function argument)) ∙ e)) [
      | inl a ↦ hf patterns level k.0 number a
      | inr b ↦ ha patterns level k.1 number b
    ])
    (λ domain body hd hb patterns level h number e.
    let k : IsPrintable patterns level (term_of domain) × IsPrintable patterns (level + 1) (term_of body) = subst (IsPrintable patterns level) (view_Lam domain body) h in
    elim (or_cases ((printed domain).occurs number) ((printed body).occurs (number + 1)) (sym (ap (λ (p : Printed). p.occurs number) (printed_Lam domain body)) ∙ e)) [
      | inl a ↦ hd patterns level k.0 number a
      | inr b ↦ (let i = hb patterns (level + 1) k.1 (number + 1) b in omega arith)
    ])
    (λ domain body hd hb patterns level h number e.
    let k : IsPrintable patterns level (term_of domain) × IsPrintable patterns (level + 1) (term_of body) = subst (IsPrintable patterns level) (view_Pi domain body) h in
    elim (or_cases ((printed domain).occurs number) ((printed body).occurs (number + 1)) (sym (ap (λ (p : Printed). p.occurs number) (printed_Pi domain body)) ∙ e)) [
      | inl a ↦ hd patterns level k.0 number a
      | inr b ↦ (let i = hb patterns (level + 1) k.1 (number + 1) b in omega arith)
    ])

-- a closed term's text
closed_shown : (patterns : Bool) (term : Lp) → IsPrintable patterns 0 (term_of term) → bodies_over term 0 ≡ 0 → Shown (IsTerm patterns []) (term_text term 0) term
closed_shown patterns term h few = (shown term patterns 0 [] h few tt refl (omega arith) (λ number e. absurd (let k = bound_inside term patterns 0 h number e in omega arith))).bare

-- the newline behind a command
newline : (rest : List ℕ) (here : List ℕ) → Skips rest here → Skips (10 ∷ rest) here
newline rest here s = White 10 rest here refl s

-- A command's text but for its newline, before the rest: `declaration` is what stands before the type.
declared_spelled : (name : List ℕ) (type : Lp) (s : Shown (IsTerm false []) (term_text type 0) type) (end : List ℕ) (more : List Token) (after : List ℕ) → IsIdentifier name → begins_with_word_byte end ≡ false → AreTokens end more after
    → AreTokens (declaration_text name type ++ end) (t.Symbol ∷ t.Name name ∷ t.Colon ∷ s.first ∷ s.others more) after
declared_spelled name type s end more after is ends h =
    let same : declaration_text name type ++ end ≡ codes "symbol" ++ (codes " " ++ (name ++ (codes " : " ++ (term_text type 0 ++ end)))) = simp append_assoc in
    subst (λ (x : List ℕ). AreTokens x (t.Symbol ∷ t.Name name ∷ t.Colon ∷ s.first ∷ s.others more) after) (sym same)
    (then_token t.Symbol tt (λ _. refl) (then_white 32 refl (then_token (t.Name name) is (λ _. refl) (then_white 32 refl (then_mark t.Colon tt refl (then_white 32 refl (s.spelled end more after ends h)))))))

record ShownCommand (text : List ℕ) (c : Command) : Type 0 where
  tokens : List Token
  spelled : (rest : List ℕ) → AreTokens (text ++ rest) tokens (10 ∷ rest)
  is : IsCommand tokens c []
  firm : (rest : List ℕ) → IsFirm (text ++ rest)

semicolon_end : (rest : List ℕ) → AreTokens (codes ";\n" ++ rest) (t.Semicolon ∷ []) (10 ∷ rest)
semicolon_end rest = then_mark t.Semicolon tt refl (NoToken (10 ∷ rest))

command_shown : (c : Command) → IsPrintableCommand c → command_over c ≡ 0 → ShownCommand (command_text c) c
command_shown (command.Constant name type) (symbol, h) few =
    let s = closed_shown false type h few in record {
      tokens = t.Constant ∷ t.Symbol ∷ t.Name name ∷ t.Colon ∷ s.first ∷ s.others (t.Semicolon ∷ []);
      spelled = λ rest.
          let same : command_text (command.Constant name type) ++ rest ≡ codes "constant" ++ (codes " " ++ (declaration_text name type ++ (codes ";\n" ++ rest))) = simp append_assoc in
          subst (λ (x : List ℕ). AreTokens x (t.Constant ∷ t.Symbol ∷ t.Name name ∷ t.Colon ∷ s.first ∷ s.others (t.Semicolon ∷ [])) (10 ∷ rest)) (sym same)
          (then_token t.Constant tt (λ _. refl) (then_white 32 refl (declared_spelled name type s (codes ";\n" ++ rest) (t.Semicolon ∷ []) (10 ∷ rest) symbol.identifier refl (semicolon_end rest))));
      is = g.Constant name (s.first ∷ s.others (t.Semicolon ∷ [])) type [] (s.is (t.Semicolon ∷ []));
      firm = λ rest. (refl, refl);
    }
command_shown (command.Symbol name type) (symbol, h) few =
    let s = closed_shown false type h few in record {
      tokens = t.Symbol ∷ t.Name name ∷ t.Colon ∷ s.first ∷ s.others (t.Semicolon ∷ []);
      spelled = λ rest.
          let same : command_text (command.Symbol name type) ++ rest ≡ declaration_text name type ++ (codes ";\n" ++ rest) = append_assoc (declaration_text name type) (codes ";\n") rest in
          subst (λ (x : List ℕ). AreTokens x (t.Symbol ∷ t.Name name ∷ t.Colon ∷ s.first ∷ s.others (t.Semicolon ∷ [])) (10 ∷ rest)) (sym same)
          (declared_spelled name type s (codes ";\n" ++ rest) (t.Semicolon ∷ []) (10 ∷ rest) symbol.identifier refl (semicolon_end rest));
      is = g.Declaration name (s.first ∷ s.others (t.Semicolon ∷ [])) type [] (s.is (t.Semicolon ∷ []));
      firm = λ rest. (refl, refl);
    }
command_shown (command.Define name type body) (symbol, h, k) few =
    let both = none_of_both (bodies_over type 0) (bodies_over body 0) few in
    let s = closed_shown false type h both.0 in
    let b = closed_shown false body k both.1 in
    let middle : List Token = t.Defined ∷ b.first ∷ b.others (t.Semicolon ∷ []) in record {
      tokens = t.Symbol ∷ t.Name name ∷ t.Colon ∷ s.first ∷ s.others middle;
      spelled = λ rest.
          let end : List ℕ = codes " " ++ ((226 ∷ 137 ∷ 148 ∷ []) ++ (codes " " ++ (term_text body 0 ++ (codes ";\n" ++ rest)))) in
          let same : command_text (command.Define name type body) ++ rest ≡ declaration_text name type ++ end = simp append_assoc in
          subst (λ (x : List ℕ). AreTokens x (t.Symbol ∷ t.Name name ∷ t.Colon ∷ s.first ∷ s.others middle) (10 ∷ rest)) (sym same)
          (declared_spelled name type s end middle (10 ∷ rest) symbol.identifier refl
          (then_white 32 refl (then_mark t.Defined tt refl (then_white 32 refl (b.spelled (codes ";\n" ++ rest) (t.Semicolon ∷ []) (10 ∷ rest) refl (semicolon_end rest))))));
      is = g.Definition name (s.first ∷ s.others middle) type (b.first ∷ b.others (t.Semicolon ∷ [])) body [] (s.is middle) (b.is (t.Semicolon ∷ []));
      firm = λ rest. (refl, refl);
    }
command_shown (command.Rule left right) (h, k) few =
    let both = none_of_both (bodies_over left 0) (bodies_over right 0) few in
    let s = closed_shown true left h both.0 in
    let b = closed_shown true right k both.1 in
    let middle : List Token = t.Rewrites ∷ b.first ∷ b.others (t.Semicolon ∷ []) in record {
      tokens = t.Rule ∷ s.first ∷ s.others middle;
      spelled = λ rest.
          let end : List ℕ = codes " " ++ ((226 ∷ 134 ∷ 170 ∷ []) ++ (codes " " ++ (term_text right 0 ++ (codes ";\n" ++ rest)))) in
          let same : command_text (command.Rule left right) ++ rest ≡ codes "rule" ++ (codes " " ++ (term_text left 0 ++ end)) = simp append_assoc in
          subst (λ (x : List ℕ). AreTokens x (t.Rule ∷ s.first ∷ s.others middle) (10 ∷ rest)) (sym same)
          (then_token t.Rule tt (λ _. refl) (then_white 32 refl (s.spelled end middle (10 ∷ rest) refl
          (then_white 32 refl (then_mark t.Rewrites tt refl (then_white 32 refl (b.spelled (codes ";\n" ++ rest) (t.Semicolon ∷ []) (10 ∷ rest) refl (semicolon_end rest))))))));
      is = g.Rule (s.first ∷ s.others middle) left (b.first ∷ b.others (t.Semicolon ∷ [])) right [] (s.is middle) (b.is (t.Semicolon ∷ []));
      firm = λ rest. (refl, refl);
    }

-- the newline behind a command before the others
behind_newline : {Allowed : Command → Type 0} (commands : List Command) (rest : List ℕ) → AreCommands Allowed rest commands [] → AreCommands Allowed (10 ∷ rest) commands []
behind_newline _ rest (NoCommand _ here s) = NoCommand (10 ∷ rest) here (newline rest here s)
behind_newline _ rest (CommandFirst _ here c after commands there s b w f) = CommandFirst (10 ∷ rest) here c after commands there (newline rest here s) b w f

commands_read : (Allowed : Command → Type 0) (commands : List Command) → ArePrintable commands → commands_over commands ≡ 0 → All Allowed commands → AreCommands Allowed (commands_text commands) commands []
commands_read Allowed [] h few w = NoCommand [] [] (Nothing [] tt)
commands_read Allowed (c ∷ commands) h few w =
    let both = none_of_both (command_over c) (commands_over commands) few in
    let s = command_shown c (All-head IsPrintableCommand c commands h) both.0 in
    let rest = commands_text commands in
    CommandFirst (command_text c ++ rest) (command_text c ++ rest) c (10 ∷ rest) commands [] (Nothing (command_text c ++ rest) (s.firm rest))
    (record { tokens = s.tokens; are = s.spelled rest; is = s.is }) (All-head Allowed c commands w)
    (behind_newline commands rest (commands_read Allowed commands (All-tail IsPrintableCommand c commands h) both.1 (All-tail Allowed c commands w)))

pub print_is_read : PrintIsRead
print_is_read development h few = commands_read IsAny development.commands h few (λ k d lt. tt)

pub print_is_read_alone : PrintIsReadAlone
print_is_read_alone development other h few reads = reading_is_one (text_of development) other development reads (print_is_read development h few)

pub print_is_answered : PrintIsAnswered
print_is_answered development h few w = commands_read IsShallow development.commands h few w
