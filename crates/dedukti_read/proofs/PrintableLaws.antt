-- What is printable: the prelude, and terms whose variables are bound and whose symbols are declared.
use Rattle.std.proofs.Common.{◌≡◌, ◌≢◌, refl, sym, subst, ap, ◌∙◌, ℕ, suc, ◌+◌, true, false, eqb, List, [], ◌∷◌, ◌++◌, None, codes, arith}
use Rattle.std.specs.Prelude.{All}
use Rattle.std.specs.List.{list_all}
use Rattle.std.proofs.lemmas.List.Elements.{All-from_recursion}
use Rattle.dedukti_text.specs.Patterns.{pattern_names, patterns_at, patterns_in, with_names}
use Rattle.dk_syntax.specs.declared.Kind.{Kind}
use Rattle.dk_syntax.specs.declared.Kind.TheVariants.{Function, Predicate}
use Rattle.lp_term.specs.Identifiers.{kind_letter, word_byte}
use Rattle.lp_term.specs.LambdaPi.{Term, kind, pat}
use Rattle.lp_term.specs.Prelude.{prelude}
use Rattle.lp_term.specs.Scope.{Declared, VariablesBelow, below_type, below_kind, below_con, below_pat, below_var, below_app, below_lam, below_pi, declared_type, declared_var, declared_con, declared_app, declared_lam, declared_pi}
use Rattle.lp_term.specs.Typing.{Declaration, Declares}
use Rattle.lp_term.specs.View.{term_of}
use Rattle.lp_term.specs.declared.Command.TheVariants as command
use Rattle.lp_term.specs.declared.Lp.{Lp, fold-roll-Lp}
use Rattle.lp_term.specs.declared.Lp.TheOpen as layer
use Rattle.lp_term.specs.declared.Lp.TheVariants as lp
use Rattle.lp_term.specs.declared.Lp.TheVariants.{rolls-Sym, rolls-Pat, rolls-App}
use Rattle.lp_term.proofs.ViewLaws.{view_App, view_Pat, view_Pi, view_Sort, view_Sym, view_Var, view_arrow}
use Rattle.lp_read.proofs.PrintedNames.{heads_same}
use Rattle.dedukti_read.specs.Printable.{ArePrintable, DeclaredIsPrintable, IdentifiersAreNames, IsPrintable, IsPrintableCommand, IsSymbolName}
use Rattle.dedukti_read.specs.Scan.{is_name, reserved_at}
use Rattle.dedukti_read.proofs.TokenLaws.{name_so}

-- ---- names

-- a name of the grammar that doesn't begin with `v`
pub symbol_name : (first : ℕ) (others : List ℕ) → list_all word_byte (first ∷ others) ≡ true → reserved_at (first ∷ others) ≡ None → is_name (first ∷ others) ≡ true → eqb first 118 ≡ false → IsSymbolName (first ∷ others)
symbol_name first others words free named no_v = record {
  identifier = name_so (first ∷ others) words free named;
  no_variable = λ (digits, e, all).
      let same : first ≡ 118 = heads_same e in
      absurd (let c : eqb 118 118 ≡ false = subst (λ (n : ℕ). eqb n 118 ≡ false) same no_v in cc);
}

-- an identifier begins with the letter of its kind
pub identifiers_are_names : IdentifiersAreNames
identifiers_are_names symbol grammar free = record {
  identifier = record {
    grammar = grammar;
    free = (λ e. no_word symbol.kind 100 _ _ refl refl e, (λ e. no_word symbol.kind 84 _ _ refl refl e, tt));
  };
  no_variable = free.no_variable;
}
  where
    no_word : (kind : Kind) (letter : ℕ) (others rest : List ℕ) → eqb 102 letter ≡ false → eqb 112 letter ≡ false → kind_letter kind ∷ others ≢ letter ∷ rest
    no_word Function letter others rest no_f no_p e = let same : 102 ≡ letter = heads_same e in absurd (let c : eqb 102 102 ≡ false = subst (λ (n : ℕ). eqb 102 n ≡ false) (sym same) no_f in cc)
    no_word Predicate letter others rest no_f no_p e = let same : 112 ≡ letter = heads_same e in absurd (let c : eqb 112 112 ≡ false = subst (λ (n : ℕ). eqb 112 n ≡ false) (sym same) no_p in cc)

-- ---- declared symbols

no_kind : {sig : List Declaration} {t : Term} → Declared sig t → t ≡ kind → ⊥
no_kind declared_type e = absurd cc
no_kind (declared_var k) e = absurd cc
no_kind (declared_con h) e = absurd cc
no_kind (declared_app h k) e = absurd cc
no_kind (declared_lam h k) e = absurd cc
no_kind (declared_pi h k) e = absurd cc

no_pattern : {sig : List Declaration} {t : Term} {name : List ℕ} → Declared sig t → t ≡ pat name → ⊥
no_pattern declared_type e = absurd cc
no_pattern (declared_var k) e = absurd cc
no_pattern (declared_con h) e = absurd cc
no_pattern (declared_app h k) e = absurd cc
no_pattern (declared_lam h k) e = absurd cc
no_pattern (declared_pi h k) e = absurd cc

module _ (sig : List Declaration) (names : (name : List ℕ) (of : Term) → Declares sig name of → IsSymbolName name) where
  -- below one more binder
  deeper : (level : ℕ) (term : Term) → IsPrintable [] (suc level) term → IsPrintable [] (level + 1) term
  deeper level term h = subst (λ (l : ℕ). IsPrintable [] l term) (omega arith) h

  printable : {level : ℕ} {term : Term} → VariablesBelow level term → Declared sig term → IsPrintable [] level term
  printable (below_type n) d = tt
  printable (below_kind n) d = absurd (no_kind d refl)
  printable (below_con n s) (declared_con {a = a} h) = (names s a h, refl)
  printable (below_pat n s) d = absurd (no_pattern d refl)
  printable (below_var n k lt) d = lt
  printable (below_app h k) (declared_app d e) = (printable h d, printable k e)
  printable {level} (below_lam {t = t} h k) (declared_lam d e) = (printable h d, deeper level t (printable k e))
  printable {level} (below_pi {b = b} h k) (declared_pi d e) = (printable h d, deeper level b (printable k e))

pub declared_is_printable : DeclaredIsPrintable
declared_is_printable sig level term names below declared = printable sig names below declared

-- ---- the pattern variables of a left side

patterns_Sym : (name : List ℕ) → patterns_in (lp.Sym name) ≡ []
patterns_Sym name = ap patterns_in (sym (rolls-Sym name)) ∙ fold-roll-Lp (List (List ℕ)) patterns_at (layer.Sym name)

patterns_Pat : (name : List ℕ) → patterns_in (lp.Pat name) ≡ name ∷ []
patterns_Pat name = ap patterns_in (sym (rolls-Pat name)) ∙ fold-roll-Lp (List (List ℕ)) patterns_at (layer.Pat name)

patterns_App : (a b : Lp) → patterns_in (lp.App a b) ≡ patterns_in a ++ patterns_in b
patterns_App a b = ap patterns_in (sym (rolls-App a b)) ∙ fold-roll-Lp (List (List ℕ)) patterns_at (layer.App a b)

no_pattern_of : (proofs c : List ℕ) → pattern_names (lp.App (lp.Sym proofs) (lp.Sym c)) ≡ []
no_pattern_of proofs c =
    let found : patterns_in (lp.App (lp.Sym proofs) (lp.Sym c)) ≡ [] = patterns_App (lp.Sym proofs) (lp.Sym c) ∙ rw (patterns_Sym proofs, patterns_Sym c) refl in
    ap (with_names []) found

pattern_of : (proofs c name : List ℕ) → pattern_names (lp.App (lp.Sym proofs) (lp.App (lp.Sym c) (lp.Pat name))) ≡ name ∷ []
pattern_of proofs c name =
    let argument : patterns_in (lp.App (lp.Sym c) (lp.Pat name)) ≡ name ∷ [] = patterns_App (lp.Sym c) (lp.Pat name) ∙ rw (patterns_Sym c, patterns_Pat name) refl in
    let found : patterns_in (lp.App (lp.Sym proofs) (lp.App (lp.Sym c) (lp.Pat name))) ≡ name ∷ [] = patterns_App (lp.Sym proofs) (lp.App (lp.Sym c) (lp.Pat name)) ∙ rw (patterns_Sym proofs, argument) refl in
    ap (with_names []) found

-- of two, where the second is another
patterns_of : (proofs c : List ℕ) → pattern_names (lp.App (lp.Sym proofs) (lp.App (lp.App (lp.Sym c) (lp.Pat (codes "p"))) (lp.Pat (codes "q")))) ≡ codes "p" ∷ codes "q" ∷ []
patterns_of proofs c =
    let first : patterns_in (lp.App (lp.Sym c) (lp.Pat (codes "p"))) ≡ codes "p" ∷ [] = patterns_App (lp.Sym c) (lp.Pat (codes "p")) ∙ rw (patterns_Sym c, patterns_Pat (codes "p")) refl in
    let both_of = lp.App (lp.App (lp.Sym c) (lp.Pat (codes "p"))) (lp.Pat (codes "q")) in
    let argument : patterns_in both_of ≡ codes "p" ∷ codes "q" ∷ [] = patterns_App (lp.App (lp.Sym c) (lp.Pat (codes "p"))) (lp.Pat (codes "q")) ∙ rw (first, patterns_Pat (codes "q")) refl in
    let found : patterns_in (lp.App (lp.Sym proofs) both_of) ≡ codes "p" ∷ codes "q" ∷ [] = patterns_App (lp.Sym proofs) both_of ∙ rw (patterns_Sym proofs, argument) refl in
    ap (with_names []) found

rule : (left right : Lp) (names : List (List ℕ)) → pattern_names left ≡ names → All IsSymbolName names → IsPrintable names 0 (term_of left) → IsPrintable names 0 (term_of right) → IsPrintableCommand (command.Rule left right)
rule left right names e are h k =
    subst (λ (found : List (List ℕ)). All IsSymbolName found × IsPrintable found 0 (term_of left) × IsPrintable found 0 (term_of right)) (sym e) (are, h, k)

-- ---- the prelude

i : IsSymbolName (codes "I")
i = symbol_name _ _ refl refl refl refl

prop : IsSymbolName (codes "Prop")
prop = symbol_name _ _ refl refl refl refl

prf : IsSymbolName (codes "Prf")
prf = symbol_name _ _ refl refl refl refl

imp : IsSymbolName (codes "imp")
imp = symbol_name _ _ refl refl refl refl

and : IsSymbolName (codes "and")
and = symbol_name _ _ refl refl refl refl

or : IsSymbolName (codes "or")
or = symbol_name _ _ refl refl refl refl

iff : IsSymbolName (codes "iff")
iff = symbol_name _ _ refl refl refl refl

negation : IsSymbolName (codes "not")
negation = symbol_name _ _ refl refl refl refl

top : IsSymbolName (codes "top")
top = symbol_name _ _ refl refl refl refl

bot : IsSymbolName (codes "bot")
bot = symbol_name _ _ refl refl refl refl

all : IsSymbolName (codes "all")
all = symbol_name _ _ refl refl refl refl

ex : IsSymbolName (codes "ex")
ex = symbol_name _ _ refl refl refl refl

any : IsSymbolName (codes "any")
any = symbol_name _ _ refl refl refl refl

em : IsSymbolName (codes "em")
em = symbol_name _ _ refl refl refl refl

-- the pattern variables
p : IsSymbolName (codes "p")
p = symbol_name 112 [] refl refl refl refl

q : IsSymbolName (codes "q")
q = symbol_name 113 [] refl refl refl refl

f : IsSymbolName (codes "f")
f = symbol_name 102 [] refl refl refl refl

no_names : All IsSymbolName []
no_names = All-from_recursion IsSymbolName [] tt

only_p : All IsSymbolName (codes "p" ∷ [])
only_p = All-from_recursion IsSymbolName (codes "p" ∷ []) (p, tt)

only_f : All IsSymbolName (codes "f" ∷ [])
only_f = All-from_recursion IsSymbolName (codes "f" ∷ []) (f, tt)

both : All IsSymbolName (codes "p" ∷ codes "q" ∷ [])
both = All-from_recursion IsSymbolName (codes "p" ∷ codes "q" ∷ []) (p, (q, tt))

pub prelude_is_printable : ArePrintable prelude
prelude_is_printable = All-from_recursion IsPrintableCommand prelude (
  (i, simp view_Sort tt),
  (
    (prop, simp view_Sort tt),
    (
      (prf, simp (view_arrow, view_Sym, view_Sort) ((prop, refl), tt)),
      (
        (imp, simp (view_arrow, view_Sym) ((prop, refl), ((prop, refl), (prop, refl)))),
        (
          (and, simp (view_arrow, view_Sym) ((prop, refl), ((prop, refl), (prop, refl)))),
          (
            (or, simp (view_arrow, view_Sym) ((prop, refl), ((prop, refl), (prop, refl)))),
            (
              (iff, simp (view_arrow, view_Sym) ((prop, refl), ((prop, refl), (prop, refl)))),
              (
                (negation, simp (view_arrow, view_Sym) ((prop, refl), (prop, refl))),
                (
                  (top, simp view_Sym (prop, refl)),
                  (
                    (bot, simp view_Sym (prop, refl)),
                    (
                      (all, simp (view_arrow, view_Sym) (((i, refl), (prop, refl)), (prop, refl))),
                      (
                        (ex, simp (view_arrow, view_Sym) (((i, refl), (prop, refl)), (prop, refl))),
                        (
                          (any, simp view_Sym (i, refl)),
                          (
                            rule _ _ _ (patterns_of _ _) both (simp (view_App, view_Sym, view_Pat) ((prf, refl), (((imp, refl), (p, refl)), (q, refl)))) (simp (view_arrow, view_App, view_Sym, view_Pat) (((prf, refl), (p, refl)), ((prf, refl), (q, refl)))),
                            (
                              rule _ _ _ (pattern_of _ _ _) only_p (simp (view_App, view_Sym, view_Pat) ((prf, refl), ((negation, refl), (p, refl)))) (simp (view_arrow, view_App, view_Sym, view_Pat) (((prf, refl), (p, refl)), ((prf, refl), (bot, refl)))),
                              (
                                rule _ _ _ (pattern_of _ _ _) only_f (simp (view_App, view_Sym, view_Pat) ((prf, refl), ((all, refl), (f, refl)))) (simp (view_Pi, view_App, view_Sym, view_Pat, view_Var) ((i, refl), ((prf, refl), ((f, refl), omega arith)))),
                                (
                                  rule _ _ _ (no_pattern_of _ _) no_names (simp (view_App, view_Sym) ((prf, refl), (bot, refl))) (simp (view_Pi, view_App, view_Sym, view_Var) ((prop, refl), ((prf, refl), omega arith))),
                                  (
                                    rule _ _ _ (no_pattern_of _ _) no_names (simp (view_App, view_Sym) ((prf, refl), (top, refl))) (simp (view_arrow, view_Pi, view_App, view_Sym, view_Var) ((prop, refl), (((prf, refl), omega arith), ((prf, refl), omega arith)))),
                                    (
                                      rule _ _ _ (patterns_of _ _) both (simp (view_App, view_Sym, view_Pat) ((prf, refl), (((and, refl), (p, refl)), (q, refl)))) (simp (view_arrow, view_Pi, view_App, view_Sym, view_Pat, view_Var) ((prop, refl), ((((prf, refl), (p, refl)), (((prf, refl), (q, refl)), ((prf, refl), omega arith))), ((prf, refl), omega arith)))),
                                      (
                                        rule _ _ _ (patterns_of _ _) both (simp (view_App, view_Sym, view_Pat) ((prf, refl), (((or, refl), (p, refl)), (q, refl)))) (simp (view_arrow, view_Pi, view_App, view_Sym, view_Pat, view_Var) ((prop, refl), ((((prf, refl), (p, refl)), ((prf, refl), omega arith)), ((((prf, refl), (q, refl)), ((prf, refl), omega arith)), ((prf, refl), omega arith))))),
                                        (
                                          rule _ _ _ (pattern_of _ _ _) only_f (simp (view_App, view_Sym, view_Pat) ((prf, refl), ((ex, refl), (f, refl)))) (simp (view_arrow, view_Pi, view_App, view_Sym, view_Pat, view_Var) ((prop, refl), (((i, refl), (((prf, refl), ((f, refl), omega arith)), ((prf, refl), omega arith))), ((prf, refl), omega arith)))),
                                          (
                                            rule _ _ _ (patterns_of _ _) both (simp (view_App, view_Sym, view_Pat) ((prf, refl), (((iff, refl), (p, refl)), (q, refl)))) (simp (view_arrow, view_Pi, view_App, view_Sym, view_Pat, view_Var) ((prop, refl), (((((prf, refl), (p, refl)), ((prf, refl), (q, refl))), ((((prf, refl), (q, refl)), ((prf, refl), (p, refl))), ((prf, refl), omega arith))), ((prf, refl), omega arith)))),
                                            (
                                              (em, simp (view_Pi, view_App, view_Sym, view_Var) ((prop, refl), ((prf, refl), (((or, refl), omega arith), ((negation, refl), omega arith))))),
                                              (
                                                  tt),
                                            ),
                                          ),
                                        ),
                                      ),
                                    ),
                                  ),
                                ),
                              ),
                            ),
                          ),
                        ),
                      ),
                    ),
                  ),
                ),
              ),
            ),
          ),
        ),
      ),
    ),
  ),
)
