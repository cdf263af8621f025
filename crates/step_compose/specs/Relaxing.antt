-- Images under some symbols: the first existentials are replaced by them, and the others are universals.
use Rattle.std.specs.Prelude.{ℕ, zero, suc, ◌+◌, nat_lt, List, [], ◌∷◌, length, cond}
use Rattle.dk_syntax.specs.declared.SymKey.{SymKey}
use Rattle.dk_syntax.specs.declared.Term.{Term}
use Rattle.dk_syntax.specs.declared.Term.TheVariants.{Var}
use Rattle.normal_form.specs.Forms.{all, and, ex, exs, Form, form_of, lit, nf_of, no, or, yes}
use Rattle.normal_form.specs.declared.form.Nf.{Nf}
use Rattle.step_compose.specs.Composing.{symbol_in}
use Rattle.step_compose.specs.FullImages.{downward}
use Rattle.step_compose.specs.declared.relaxed.Bound.{Bound}
use Rattle.step_compose.specs.declared.relaxed.Bound.TheVariants.{Kept, Replaced}
use Rattle.dk_syntax.specs.Terms.{instance}
use Rattle.step_skolem.specs.Substitutions.{applied, up, with_term}

-- how many universals stand among the quantifiers around
abbrev pub kept_in : List Bound → ℕ
kept_in [] = 0
kept_in (Kept ∷ around) = suc (kept_in around)
kept_in (Replaced e ∷ around) = kept_in around

-- the term for each variable inside these quantifiers, the inmost first
abbrev pub terms_in : List SymKey → List Bound → ℕ → Term
terms_in symbols [] = Var
terms_in symbols (Kept ∷ around) = up (terms_in symbols around)
terms_in symbols (Replaced e ∷ around) = with_term (applied (symbol_in symbols e) (downward (kept_in around))) (terms_in symbols around)

-- inside the quantifiers around, from the existential e on: the form with as many existentials replaced as there are
-- symbols, and the others made universals
abbrev pub relaxed_from : List SymKey → List Bound → ℕ → Form → Form
relaxed_from symbols around e yes = yes
relaxed_from symbols around e no = no
relaxed_from symbols around e (lit literal) = lit (instance (terms_in symbols around) literal)
relaxed_from symbols around e (and a b) = and (relaxed_from symbols around e a) (relaxed_from symbols around (exs a + e) b)
relaxed_from symbols around e (or a b) = or (relaxed_from symbols around e a) (relaxed_from symbols around (exs a + e) b)
relaxed_from symbols around e (all a) = all (relaxed_from symbols (Kept ∷ around) e a)
relaxed_from symbols around e (ex a) =
    cond (nat_lt e (length symbols)) (relaxed_from symbols (Replaced e ∷ around) (suc e) a) (all (relaxed_from symbols (Kept ∷ around) (suc e) a))

-- the form with the first existentials replaced by the symbols, and the others made universals
abbrev pub relaxed : List SymKey → Nf → Nf
relaxed symbols n = nf_of (relaxed_from symbols [] 0 (form_of n))

-- ---- terms, written at once

-- d numbers from c on, the greatest first
abbrev pub downward_from : ℕ → ℕ → List ℕ
downward_from c zero = []
downward_from c (suc d) = (d + c) ∷ downward_from c d

-- the term for a variable, with c universals between
abbrev pub found : List SymKey → ℕ → List Bound → ℕ → Term
found symbols c [] k = Var (k + c)
found symbols c (Kept ∷ around) zero = Var c
found symbols c (Kept ∷ around) (suc k) = found symbols (c + 1) around k
found symbols c (Replaced e ∷ around) zero = applied (symbol_in symbols e) (downward_from c (kept_in around))
found symbols c (Replaced e ∷ around) (suc k) = found symbols c around k
