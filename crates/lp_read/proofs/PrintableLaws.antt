-- What is printable: the prelude, and terms whose variables are bound and whose symbols are declared.
use Rattle.std.proofs.Common.{◌≡◌, ◌≢◌, refl, sym, subst, ℕ, suc, ◌+◌, ◌<◌, Bool, true, false, eqb, List, [], ◌∷◌, ◌++◌, Option, None, codes, arith}
use Rattle.std.specs.Prelude.{All}
use Rattle.std.specs.List.{list_all}
use Rattle.std.proofs.lemmas.List.Elements.{All-from_recursion}
use Rattle.lp_term.specs.Identifiers.{word_byte}
use Rattle.lp_term.specs.LambdaPi.{Term, app, con, kind, lam, pat, pi, type, var}
use Rattle.lp_term.specs.Prelude.{prelude}
use Rattle.lp_term.specs.Reserved.{IsVariableName}
use Rattle.lp_term.specs.Scope.{Declared, VariablesBelow, below_type, below_kind, below_con, below_pat, below_var, below_app, below_lam, below_pi, declared_type, declared_var, declared_con, declared_app, declared_lam, declared_pi}
use Rattle.lp_term.specs.Typing.{Declaration, Declares}
use Rattle.lp_term.proofs.ViewLaws.{view_App, view_Pat, view_Pi, view_Sort, view_Sym, view_Var, view_arrow}
use Rattle.lp_read.specs.Printable.{ArePrintable, DeclaredIsPrintable, IdentifiersAreNames, IsPrintable, IsPrintableCommand, IsSymbolName}
use Rattle.lp_read.specs.Scan.{is_name, reserved_at}
use Rattle.lp_read.specs.Tokens.{IsIdentifier}
use Rattle.lp_read.proofs.PrintedNames.{heads_same}
use Rattle.lp_read.proofs.TokenLaws.{name_so}

-- ---- names

-- a name of the grammar that doesn't begin with `v`
pub symbol_name : (first : ℕ) (others : List ℕ) → list_all word_byte (first ∷ others) ≡ true → reserved_at (first ∷ others) ≡ None → is_name (first ∷ others) ≡ true → eqb first 118 ≡ false → IsSymbolName (first ∷ others)
symbol_name first others words free named no_v = record {
  identifier = name_so (first ∷ others) words free named;
  no_variable = λ (digits, e, all).
      let same : first ≡ 118 = heads_same e in
      absurd (let c : eqb 118 118 ≡ false = subst (λ (n : ℕ). eqb n 118 ≡ false) same no_v in cc);
}

pub identifiers_are_names : IdentifiersAreNames
identifiers_are_names name grammar free = record { identifier = record { grammar = grammar; free = free.no_reserved_word }; no_variable = free.no_variable }

-- ---- declared symbols

no_kind : {sig : List Declaration} {t : Term} → Declared sig t → t ≡ kind → ⊥
no_kind declared_type e = absurd cc
no_kind (declared_var k) e = absurd cc
no_kind (declared_con h) e = absurd cc
no_kind (declared_app h k) e = absurd cc
no_kind (declared_lam h k) e = absurd cc
no_kind (declared_pi h k) e = absurd cc

no_pattern : {sig : List Declaration} {t : Term} {name : List ℕ} → Declared sig t → t ≡ pat name → ⊥
no_pattern declared_type e = absurd cc
no_pattern (declared_var k) e = absurd cc
no_pattern (declared_con h) e = absurd cc
no_pattern (declared_app h k) e = absurd cc
no_pattern (declared_lam h k) e = absurd cc
no_pattern (declared_pi h k) e = absurd cc

module _ (sig : List Declaration) (names : (name : List ℕ) (of : Term) → Declares sig name of → IsSymbolName name) where
  -- below one more binder
  deeper : (level : ℕ) (term : Term) → IsPrintable false (suc level) term → IsPrintable false (level + 1) term
  deeper level term h = subst (λ (l : ℕ). IsPrintable false l term) (omega arith) h

  printable : {level : ℕ} {term : Term} → VariablesBelow level term → Declared sig term → IsPrintable false level term
  printable (below_type n) d = tt
  printable (below_kind n) d = absurd (no_kind d refl)
  printable (below_con n s) (declared_con {a = a} h) = names s a h
  printable (below_pat n s) d = absurd (no_pattern d refl)
  printable (below_var n k lt) d = lt
  printable (below_app h k) (declared_app d e) = (printable h d, printable k e)
  printable {level} (below_lam {t = t} h k) (declared_lam d e) = (printable h d, deeper level t (printable k e))
  printable {level} (below_pi {b = b} h k) (declared_pi d e) = (printable h d, deeper level b (printable k e))

pub declared_is_printable : DeclaredIsPrintable
declared_is_printable sig level term names below declared = printable sig names below declared

-- ---- the prelude

i : IsSymbolName (codes "I")
i = symbol_name _ _ refl refl refl refl

prop : IsSymbolName (codes "Prop")
prop = symbol_name _ _ refl refl refl refl

prf : IsSymbolName (codes "Prf")
prf = symbol_name _ _ refl refl refl refl

imp : IsSymbolName (codes "imp")
imp = symbol_name _ _ refl refl refl refl

and : IsSymbolName (codes "and")
and = symbol_name _ _ refl refl refl refl

or : IsSymbolName (codes "or")
or = symbol_name _ _ refl refl refl refl

iff : IsSymbolName (codes "iff")
iff = symbol_name _ _ refl refl refl refl

negation : IsSymbolName (codes "not")
negation = symbol_name _ _ refl refl refl refl

top : IsSymbolName (codes "top")
top = symbol_name _ _ refl refl refl refl

bot : IsSymbolName (codes "bot")
bot = symbol_name _ _ refl refl refl refl

all : IsSymbolName (codes "all")
all = symbol_name _ _ refl refl refl refl

ex : IsSymbolName (codes "ex")
ex = symbol_name _ _ refl refl refl refl

any : IsSymbolName (codes "any")
any = symbol_name _ _ refl refl refl refl

em : IsSymbolName (codes "em")
em = symbol_name _ _ refl refl refl refl

-- the pattern variables
p : IsPrintable true 0 (pat (codes "p"))
p = (refl, (symbol_name 112 [] refl refl refl refl).identifier)

q : IsPrintable true 0 (pat (codes "q"))
q = (refl, (symbol_name 113 [] refl refl refl refl).identifier)

f : IsPrintable true 0 (pat (codes "f"))
f = (refl, (symbol_name 102 [] refl refl refl refl).identifier)

pub prelude_is_printable : ArePrintable prelude
prelude_is_printable = All-from_recursion IsPrintableCommand prelude (
  (i, simp view_Sort tt),
  (
    (prop, simp view_Sort tt),
    (
      (prf, simp (view_arrow, view_Sym, view_Sort) (prop, tt)),
      (
        (imp, simp (view_arrow, view_Sym) (prop, (prop, prop))),
        (
          (and, simp (view_arrow, view_Sym) (prop, (prop, prop))),
          (
            (or, simp (view_arrow, view_Sym) (prop, (prop, prop))),
            (
              (iff, simp (view_arrow, view_Sym) (prop, (prop, prop))),
              (
                (negation, simp (view_arrow, view_Sym) (prop, prop)),
                (
                  (top, simp view_Sym prop),
                  (
                    (bot, simp view_Sym prop),
                    (
                      (all, simp (view_arrow, view_Sym) ((i, prop), prop)),
                      (
                        (ex, simp (view_arrow, view_Sym) ((i, prop), prop)),
                        (
                          (any, simp view_Sym i),
                          (
                            (simp (view_App, view_Sym, view_Pat) (prf, ((imp, p), q)), simp (view_arrow, view_App, view_Sym, view_Pat) ((prf, p), (prf, q))),
                            (
                              (simp (view_App, view_Sym, view_Pat) (prf, (negation, p)), simp (view_arrow, view_App, view_Sym, view_Pat) ((prf, p), (prf, bot))),
                              (
                                (simp (view_App, view_Sym, view_Pat) (prf, (all, f)), simp (view_Pi, view_App, view_Sym, view_Pat, view_Var) (i, (prf, (f, omega arith)))),
                                (
                                  (simp (view_App, view_Sym) (prf, bot), simp (view_Pi, view_App, view_Sym, view_Var) (prop, (prf, omega arith))),
                                  (
                                    (simp (view_App, view_Sym) (prf, top), simp (view_arrow, view_Pi, view_App, view_Sym, view_Var) (prop, ((prf, omega arith), (prf, omega arith)))),
                                    (
                                      (simp (view_App, view_Sym, view_Pat) (prf, ((and, p), q)), simp (view_arrow, view_Pi, view_App, view_Sym, view_Pat, view_Var) (prop, (((prf, p), ((prf, q), (prf, omega arith))), (prf, omega arith)))),
                                      (
                                        (simp (view_App, view_Sym, view_Pat) (prf, ((or, p), q)), simp (view_arrow, view_Pi, view_App, view_Sym, view_Pat, view_Var) (prop, (((prf, p), (prf, omega arith)), (((prf, q), (prf, omega arith)), (prf, omega arith))))),
                                        (
                                          (simp (view_App, view_Sym, view_Pat) (prf, (ex, f)), simp (view_arrow, view_Pi, view_App, view_Sym, view_Pat, view_Var) (prop, ((i, ((prf, (f, omega arith)), (prf, omega arith))), (prf, omega arith)))),
                                          (
                                            (simp (view_App, view_Sym, view_Pat) (prf, ((iff, p), q)), simp (view_arrow, view_Pi, view_App, view_Sym, view_Pat, view_Var) (prop, ((((prf, p), (prf, q)), (((prf, q), (prf, p)), (prf, omega arith))), (prf, omega arith)))),
                                            (
                                              (em, simp (view_Pi, view_App, view_Sym, view_Var) (prop, (prf, ((or, omega arith), (negation, omega arith))))),
                                              tt,
                                            ),
                                          ),
                                        ),
                                      ),
                                    ),
                                  ),
                                ),
                              ),
                            ),
                          ),
                        ),
                      ),
                    ),
                  ),
                ),
              ),
            ),
          ),
        ),
      ),
    ),
  ),
)
