-- What is in the grammar is read, where nothing follows that it could go on with.
use Rattle.std.proofs.Common.{◌≡◌, ℕ, zero, suc, ◌≤◌, ◌<◌, List, [], ◌∷◌, length, true, Some, None, refl, ap, ◌∙◌, arith}
use Rattle.tptp_tokens.specs.declared.Token.{Token}
use Rattle.tptp_tokens.specs.declared.Token.TheVariants as t
use Rattle.tptp_formulas.specs.declared.raw.Comparison.{Comparison}
use Rattle.tptp_formulas.specs.declared.raw.Comparison.TheVariants as comparison
use Rattle.tptp_formulas.specs.declared.raw.Connective.{Connective}
use Rattle.tptp_formulas.specs.declared.raw.Connective.TheVariants as connective
use Rattle.tptp_formulas.specs.declared.raw.Link.{Link}
use Rattle.tptp_formulas.specs.declared.raw.Link.TheVariants as link
use Rattle.tptp_formulas.specs.declared.raw.Prefix.{Prefix}
use Rattle.tptp_formulas.specs.declared.raw.Raw.{Raw}
use Rattle.tptp_formulas.specs.declared.raw.Raw.TheVariants as raw
use Rattle.tptp_formulas.specs.declared.raw.RawTerm.{RawTerm, RawTerm-F, out-RawTerm}
use Rattle.tptp_formulas.specs.declared.raw.RawTerm.TheOpen as layer
use Rattle.tptp_formulas.specs.declared.raw.RawTerm.TheVariants as term
use Rattle.tptp_formulas.specs.Grammar.{Application, Atom, Bare, Binary, Bracketed, Chain, Distinct, DollarAtom, DollarTerm, Equation, Existential, InBrackets, IsArguments, IsAtom, IsCore, IsFormula, IsName, IsPrefixes, IsTerm, IsTerms, IsUnit, IsUnits, IsVariables, LastTerm, LastUnit, LastVariable, LowerName, MoreTerms, MoreUnits, MoreVariables, Negated, NoArguments, NoPrefix, Number, OneUnit, Prefixed, QuotedName, Universal, Variable, comparison_mark, connective_mark, link_mark}
use Rattle.tptp_formulas.specs.Reading.{Reader, alone_at, args_at, atom_at, behind, binary_at, chained_at, closed_at, compared_at, comparison_at, connective_at, core_at, formula_at, formula_with, link_at, more_terms, more_units, prefix_at, prefix_more, prefixes_at, prefixes_with, tail_at, tail_with, term_at, term_with, terms_at, unit_at, units_at, vars_at}
use Rattle.tptp_formulas.specs.Written.{ends}

-- ---- terms

mutual
  term_shorter : {ts : List Token} {x : RawTerm} {rest : List Token} → IsTerm ts x rest → length rest < length ts
  term_shorter (Variable name rest) = omega arith
  term_shorter (Number name rest) = omega arith
  term_shorter (Distinct name rest) = omega arith
  term_shorter (Application w name ts args rest is h) = let k = args_shorter h in omega arith
  term_shorter (DollarTerm name ts args rest h) = let k = args_shorter h in omega arith

  args_shorter : {ts : List Token} {xs : List RawTerm} {rest : List Token} → IsArguments ts xs rest → length rest ≤ length ts
  args_shorter (NoArguments rest) = omega arith
  args_shorter (Bracketed ts args rest h) = let k = terms_shorter h in omega arith

  terms_shorter : {ts : List Token} {xs : List RawTerm} {rest : List Token} → IsTerms ts xs rest → length rest < length ts
  terms_shorter (LastTerm ts x rest h) = let k = term_shorter h in omega arith
  terms_shorter (MoreTerms ts x mid xs rest h hs) = let k = term_shorter h in let j = terms_shorter hs in omega arith

-- no arguments stand there
abbrev pub NoOpen : List Token → Type 0
NoOpen (t.OpenRound ∷ ts) = ⊥
NoOpen _ = Unit {0}

args_none : (one : Reader RawTerm) (rest : List Token) → NoOpen rest → args_at one rest ≡ Some ([], rest)
unfolding args_at
args_none one [] o = refl
args_none one (t.OpenRound ∷ ts) o = absurd o
args_none one (_ ∷ ts) o = refl

application_reads : (one : Reader RawTerm) (w : Token) (name : List ℕ) (ts : List Token) (args : List RawTerm) (rest : List Token) → IsName w name → args_at one ts ≡ Some (args, rest) → term_with one (w ∷ ts) ≡ Some (term.Apply name args, rest)
unfolding term_with
application_reads one _ _ ts args rest (LowerName name) e = rw e refl
application_reads one _ _ ts args rest (QuotedName name) e = rw e refl

mutual
  unfolding term_at term_with args_at terms_at more_terms

  pub term_only : {ts : List Token} {x : RawTerm} {rest : List Token} → IsTerm ts x rest → NoOpen rest → (n : ℕ) → length ts ≤ n → term_at n ts ≡ Some (x, rest)
  term_only (Variable name rest) o zero le = absurd (omega arith)
  term_only (Variable name rest) o (suc n) le = refl
  term_only (Number name rest) o zero le = absurd (omega arith)
  term_only (Number name rest) o (suc n) le = refl
  term_only (Distinct name rest) o zero le = absurd (omega arith)
  term_only (Distinct name rest) o (suc n) le = refl
  term_only (Application w name ts args rest is h) o zero le = absurd (omega arith)
  term_only (Application w name ts args rest is h) o (suc n) le = application_reads (term_at n) w name ts args rest is (args_only h o n (omega arith))
  term_only (DollarTerm name ts args rest h) o zero le = absurd (omega arith)
  term_only (DollarTerm name ts args rest h) o (suc n) le = rw (args_only h o n (omega arith)) refl

  pub args_only : {ts : List Token} {xs : List RawTerm} {rest : List Token} → IsArguments ts xs rest → NoOpen rest → (n : ℕ) → length ts ≤ suc n → args_at (term_at n) ts ≡ Some (xs, rest)
  args_only (NoArguments rest) o n le = args_none (term_at n) rest o
  args_only (Bracketed ts args rest h) o n le = terms_only h n (length ts) (omega arith) (omega arith)

  terms_only : {ts : List Token} {xs : List RawTerm} {rest : List Token} → IsTerms ts xs rest → (n k : ℕ) → length ts ≤ n → length ts ≤ k → terms_at k (term_at n) ts ≡ Some (xs, rest)
  terms_only (LastTerm ts x rest h) n zero a b = absurd (let s = term_shorter h in omega arith)
  terms_only (LastTerm ts x rest h) n (suc k) a b = rw (term_only h tt n a) refl
  terms_only (MoreTerms ts x mid xs rest h hs) n zero a b = absurd (let s = term_shorter h in omega arith)
  terms_only (MoreTerms ts x mid xs rest h hs) n (suc k) a b = let s = term_shorter h in rw (term_only h tt n a, terms_only hs n k (omega arith) (omega arith)) refl

-- ---- atoms

atom_shorter : {ts : List Token} {f : Raw} {rest : List Token} → IsAtom ts f rest → length rest < length ts
atom_shorter (Atom ts name args rest h) = term_shorter h
atom_shorter (DollarAtom ts name args rest h) = term_shorter h
atom_shorter (Equation c ts a mid b rest h k) = let i = term_shorter h in let j = term_shorter k in omega arith

-- neither arguments nor a comparison stand there
abbrev pub NoComparison : List Token → Type 0
NoComparison (t.OpenRound ∷ ts) = ⊥
NoComparison (t.Equal ∷ ts) = ⊥
NoComparison (t.Unequal ∷ ts) = ⊥
NoComparison _ = Unit {0}

no_open : (rest : List Token) → NoComparison rest → NoOpen rest
no_open [] e = tt
no_open (t.OpenRound ∷ ts) e = e
no_open (_ ∷ ts) e = tt

comparison_none : (rest : List Token) → NoComparison rest → comparison_at rest ≡ None
comparison_none [] e = refl
comparison_none (t.Equal ∷ ts) e = absurd e
comparison_none (t.Unequal ∷ ts) e = absurd e
comparison_none (_ ∷ ts) e = refl

mark_open : (c : Comparison) (mid : List Token) → NoOpen (comparison_mark c ∷ mid)
mark_open comparison.Equal mid = tt
mark_open comparison.Unequal mid = tt

comparison_read : (c : Comparison) (mid : List Token) → comparison_at (comparison_mark c ∷ mid) ≡ Some (c, mid)
comparison_read comparison.Equal mid = refl
comparison_read comparison.Unequal mid = refl

alone_reads : (x : RawTerm) (y : RawTerm-F RawTerm) (f : Raw) (rest : List Token) → out-RawTerm x ≡ y → alone_at y rest ≡ Some (f, rest) → alone_at (out-RawTerm x) rest ≡ Some (f, rest)
alone_reads x y f rest e k = ap (λ (z : RawTerm-F RawTerm). alone_at z rest) e ∙ k

pub atom_only : {ts : List Token} {f : Raw} {rest : List Token} → IsAtom ts f rest → NoComparison rest → atom_at ts ≡ Some (f, rest)
unfolding atom_at compared_at alone_at
atom_only (Atom ts name args rest h) o =
    rw (term_only h (no_open rest o) (length ts) (omega arith), comparison_none rest o)
    (alone_reads (term.Apply name args) (layer.Apply name args) (raw.Atom name args) rest (term.outs-Apply name args) refl)
atom_only (DollarAtom ts name args rest h) o =
    rw (term_only h (no_open rest o) (length ts) (omega arith), comparison_none rest o)
    (alone_reads (term.Dollar name args) (layer.Dollar name args) (raw.Dollar name args) rest (term.outs-Dollar name args) refl)
atom_only (Equation c ts a mid b rest h k) o = let s = term_shorter h in
    rw (term_only h (mark_open c mid) (length ts) (omega arith), comparison_read c mid, term_only k (no_open rest o) (length ts) (omega arith)) refl

-- ---- prefixes

vars_shorter : {ts : List Token} {names : List (List ℕ)} {rest : List Token} → IsVariables ts names rest → length rest < length ts
vars_shorter (LastVariable name rest) = omega arith
vars_shorter (MoreVariables name ts names rest h) = let k = vars_shorter h in omega arith

vars_only : {ts : List Token} {names : List (List ℕ)} {rest : List Token} → IsVariables ts names rest → vars_at ts ≡ Some (names, rest)
unfolding vars_at
vars_only (LastVariable name rest) = refl
vars_only (MoreVariables name ts names rest h) = rw (vars_only h) refl

prefixes_shorter : {ts : List Token} {ps : List Prefix} {rest : List Token} → IsPrefixes ts ps rest → length rest ≤ length ts
prefixes_shorter (NoPrefix rest) = omega arith
prefixes_shorter (Negated ts ps rest h) = let k = prefixes_shorter h in omega arith
prefixes_shorter (Universal ts names mid ps rest v h) = let j = vars_shorter v in let k = prefixes_shorter h in omega arith
prefixes_shorter (Existential ts names mid ps rest v h) = let j = vars_shorter v in let k = prefixes_shorter h in omega arith

prefixes_only : {ts : List Token} {ps : List Prefix} {rest : List Token} → IsPrefixes ts ps rest → prefix_at rest ≡ Some (None, rest) → 1 ≤ length rest → (k : ℕ) → length ts ≤ k → prefixes_at k ts ≡ Some (ps, rest)
unfolding prefixes_at prefixes_with prefix_at prefix_more
prefixes_only (NoPrefix rest) firm some zero le = absurd (omega arith)
prefixes_only (NoPrefix rest) firm some (suc k) le = rw firm refl
prefixes_only (Negated ts ps rest h) firm some zero le = absurd (omega arith)
prefixes_only (Negated ts ps rest h) firm some (suc k) le = rw (prefixes_only h firm some k (omega arith)) refl
prefixes_only (Universal ts names mid ps rest v h) firm some zero le = absurd (omega arith)
prefixes_only (Universal ts names mid ps rest v h) firm some (suc k) le = let s = vars_shorter v in rw (vars_only v, prefixes_only h firm some k (omega arith)) refl
prefixes_only (Existential ts names mid ps rest v h) firm some zero le = absurd (omega arith)
prefixes_only (Existential ts names mid ps rest v h) firm some (suc k) le = let s = vars_shorter v in rw (vars_only v, prefixes_only h firm some k (omega arith)) refl

-- ---- formulas

mutual
  formula_shorter : {ts : List Token} {f : Raw} {rest : List Token} → IsFormula ts f rest → length rest < length ts
  formula_shorter (OneUnit ts f rest h) = unit_shorter h
  formula_shorter (Binary c ts f mid g rest h hs) = let j = unit_shorter h in let k = unit_shorter hs in omega arith
  formula_shorter (Chain link ts f mid fs rest h hs) = let j = unit_shorter h in let k = units_shorter hs in omega arith

  units_shorter : {link : Link} {ts : List Token} {fs : List Raw} {rest : List Token} → IsUnits link ts fs rest → length rest < length ts
  units_shorter (LastUnit link ts f rest h) = unit_shorter h
  units_shorter (MoreUnits link ts f mid fs rest h hs) = let j = unit_shorter h in let k = units_shorter hs in omega arith

  unit_shorter : {ts : List Token} {f : Raw} {rest : List Token} → IsUnit ts f rest → length rest < length ts
  unit_shorter (Prefixed ts ps mid f rest p h) = let j = prefixes_shorter p in let k = core_shorter h in omega arith

  core_shorter : {ts : List Token} {f : Raw} {rest : List Token} → IsCore ts f rest → length rest < length ts
  core_shorter (Bare ts f rest h) = atom_shorter h
  core_shorter (InBrackets ts f rest h) = let k = formula_shorter h in omega arith

-- where a term begins there is no prefix and no bracket
name_firm : (w : Token) (name : List ℕ) (ts : List Token) → IsName w name → prefix_at (w ∷ ts) ≡ Some (None, w ∷ ts)
unfolding prefix_at
name_firm _ _ ts (LowerName name) = refl
name_firm _ _ ts (QuotedName name) = refl

term_firm : {ts : List Token} {x : RawTerm} {rest : List Token} → IsTerm ts x rest → prefix_at ts ≡ Some (None, ts)
unfolding prefix_at
term_firm (Variable name rest) = refl
term_firm (Number name rest) = refl
term_firm (Distinct name rest) = refl
term_firm (Application w name ts args rest is h) = name_firm w name ts is
term_firm (DollarTerm name ts args rest h) = refl

name_bare : (formula : Reader Raw) (w : Token) (name : List ℕ) (ts : List Token) → IsName w name → core_at formula (w ∷ ts) ≡ atom_at (w ∷ ts)
unfolding core_at
name_bare formula _ _ ts (LowerName name) = refl
name_bare formula _ _ ts (QuotedName name) = refl

term_bare : (formula : Reader Raw) {ts : List Token} {x : RawTerm} {rest : List Token} → IsTerm ts x rest → core_at formula ts ≡ atom_at ts
unfolding core_at
term_bare formula (Variable name rest) = refl
term_bare formula (Number name rest) = refl
term_bare formula (Distinct name rest) = refl
term_bare formula (Application w name ts args rest is h) = name_bare formula w name ts is
term_bare formula (DollarTerm name ts args rest h) = refl

atom_firm : {ts : List Token} {f : Raw} {rest : List Token} → IsAtom ts f rest → prefix_at ts ≡ Some (None, ts)
atom_firm (Atom ts name args rest h) = term_firm h
atom_firm (DollarAtom ts name args rest h) = term_firm h
atom_firm (Equation c ts a mid b rest h k) = term_firm h

atom_bare : (formula : Reader Raw) {ts : List Token} {f : Raw} {rest : List Token} → IsAtom ts f rest → core_at formula ts ≡ atom_at ts
atom_bare formula (Atom ts name args rest h) = term_bare formula h
atom_bare formula (DollarAtom ts name args rest h) = term_bare formula h
atom_bare formula (Equation c ts a mid b rest h k) = term_bare formula h

core_firm : {ts : List Token} {f : Raw} {rest : List Token} → IsCore ts f rest → prefix_at ts ≡ Some (None, ts)
unfolding prefix_at
core_firm (Bare ts f rest h) = atom_firm h
core_firm (InBrackets ts f rest h) = refl

-- nothing stands there that a formula could go on with
abbrev pub Ends : List Token → Type 0
Ends rest = ends rest ≡ true

ends_firm : (rest : List Token) → Ends rest → NoComparison rest
ends_firm [] e = tt
ends_firm (t.OpenRound ∷ ts) e = cc
ends_firm (t.Equal ∷ ts) e = cc
ends_firm (t.Unequal ∷ ts) e = cc
ends_firm (_ ∷ ts) e = tt

ends_behind : (link : Link) (rest : List Token) → Ends rest → behind link rest ≡ None
ends_behind link.And [] e = refl
ends_behind link.Or [] e = refl
ends_behind link.And (t.And ∷ ts) e = absurd cc
ends_behind link.Or (t.Or ∷ ts) e = absurd cc
ends_behind link.And (_ ∷ ts) e = refl
ends_behind link.Or (_ ∷ ts) e = refl

ends_link : (rest : List Token) → Ends rest → link_at rest ≡ None
ends_link [] e = refl
ends_link (t.And ∷ ts) e = absurd cc
ends_link (t.Or ∷ ts) e = absurd cc
ends_link (_ ∷ ts) e = refl

ends_connective : (rest : List Token) → Ends rest → connective_at rest ≡ None
ends_connective [] e = refl
ends_connective (t.Implies ∷ ts) e = absurd cc
ends_connective (t.ImpliedBy ∷ ts) e = absurd cc
ends_connective (t.Iff ∷ ts) e = absurd cc
ends_connective (t.Differs ∷ ts) e = absurd cc
ends_connective (t.Nor ∷ ts) e = absurd cc
ends_connective (t.Nand ∷ ts) e = absurd cc
ends_connective (_ ∷ ts) e = refl

tail_none : (unit : Reader Raw) (f : Raw) (rest : List Token) → Ends rest → tail_at unit f rest ≡ Some (f, rest)
unfolding tail_at tail_with binary_at
tail_none unit f rest e = rw (ends_link rest e, ends_connective rest e) refl

link_firm : (link : Link) (mid : List Token) → NoComparison (link_mark link ∷ mid)
link_firm link.And mid = tt
link_firm link.Or mid = tt

connective_firm : (c : Connective) (mid : List Token) → NoComparison (connective_mark c ∷ mid)
connective_firm connective.Implies mid = tt
connective_firm connective.ImpliedBy mid = tt
connective_firm connective.Iff mid = tt
connective_firm connective.Differs mid = tt
connective_firm connective.Nor mid = tt
connective_firm connective.Nand mid = tt

behind_mark : (link : Link) (mid : List Token) → behind link (link_mark link ∷ mid) ≡ Some mid
behind_mark link.And mid = refl
behind_mark link.Or mid = refl

link_read : (link : Link) (mid : List Token) → link_at (link_mark link ∷ mid) ≡ Some (link, mid)
link_read link.And mid = refl
link_read link.Or mid = refl

connective_no_link : (c : Connective) (mid : List Token) → link_at (connective_mark c ∷ mid) ≡ None
connective_no_link connective.Implies mid = refl
connective_no_link connective.ImpliedBy mid = refl
connective_no_link connective.Iff mid = refl
connective_no_link connective.Differs mid = refl
connective_no_link connective.Nor mid = refl
connective_no_link connective.Nand mid = refl

connective_read : (c : Connective) (mid : List Token) → connective_at (connective_mark c ∷ mid) ≡ Some (c, mid)
connective_read connective.Implies mid = refl
connective_read connective.ImpliedBy mid = refl
connective_read connective.Iff mid = refl
connective_read connective.Differs mid = refl
connective_read connective.Nor mid = refl
connective_read connective.Nand mid = refl

tail_chain : (unit : Reader Raw) (link : Link) (f : Raw) (mid : List Token) (fs : List Raw) (rest : List Token) → units_at (length mid) unit link mid ≡ Some (fs, rest) → tail_at unit f (link_mark link ∷ mid) ≡ Some (raw.Chain link f fs, rest)
unfolding tail_at tail_with
tail_chain unit link f mid fs rest e = rw (link_read link mid, e) refl

tail_binary : (unit : Reader Raw) (c : Connective) (f : Raw) (mid : List Token) (g : Raw) (rest : List Token) → unit mid ≡ Some (g, rest) → tail_at unit f (connective_mark c ∷ mid) ≡ Some (raw.Binary c f g, rest)
unfolding tail_at tail_with binary_at
tail_binary unit c f mid g rest e = rw (connective_no_link c mid, connective_read c mid, e) refl

mutual
  unfolding formula_at formula_with units_at more_units chained_at unit_at core_at closed_at

  pub formula_only : {ts : List Token} {f : Raw} {rest : List Token} → IsFormula ts f rest → Ends rest → (n : ℕ) → length ts ≤ n → formula_at n ts ≡ Some (f, rest)
  formula_only (OneUnit ts f rest h) e zero le = absurd (let s = unit_shorter h in omega arith)
  formula_only (OneUnit ts f rest h) e (suc n) le = rw (unit_only h (ends_firm rest e) n le) (tail_none (unit_at (formula_at n)) f rest e)
  formula_only (Binary c ts f mid g rest h hs) e zero le = absurd (let s = unit_shorter h in omega arith)
  formula_only (Binary c ts f mid g rest h hs) e (suc n) le = let s = unit_shorter h in
      rw (unit_only h (connective_firm c mid) n le) (tail_binary (unit_at (formula_at n)) c f mid g rest (unit_only hs (ends_firm rest e) n (omega arith)))
  formula_only (Chain link ts f mid fs rest h hs) e zero le = absurd (let s = unit_shorter h in omega arith)
  formula_only (Chain link ts f mid fs rest h hs) e (suc n) le = let s = unit_shorter h in
      rw (unit_only h (link_firm link mid) n le) (tail_chain (unit_at (formula_at n)) link f mid fs rest (units_only hs (ends_behind link rest e) (ends_firm rest e) n (length mid) (omega arith) (omega arith)))

  units_only : {link : Link} {ts : List Token} {fs : List Raw} {rest : List Token} → IsUnits link ts fs rest → behind link rest ≡ None → NoComparison rest → (n k : ℕ) → length ts ≤ suc n → length ts ≤ k → units_at k (unit_at (formula_at n)) link ts ≡ Some (fs, rest)
  units_only (LastUnit link ts f rest h) b o n zero le lk = absurd (let s = unit_shorter h in omega arith)
  units_only (LastUnit link ts f rest h) b o n (suc k) le lk = rw (unit_only h o n le, b) refl
  units_only (MoreUnits link ts f mid fs rest h hs) b o n zero le lk = absurd (let s = unit_shorter h in omega arith)
  units_only (MoreUnits link ts f mid fs rest h hs) b o n (suc k) le lk = let s = unit_shorter h in
      rw (unit_only h (link_firm link mid) n le, behind_mark link mid, units_only hs b o n k (omega arith) (omega arith)) refl

  unit_only : {ts : List Token} {f : Raw} {rest : List Token} → IsUnit ts f rest → NoComparison rest → (n : ℕ) → length ts ≤ suc n → unit_at (formula_at n) ts ≡ Some (f, rest)
  unit_only (Prefixed ts ps mid f rest p h) o n le = let s = core_shorter h in let q = prefixes_shorter p in
      rw (prefixes_only p (core_firm h) (omega arith) (length ts) (omega arith), core_only h o n (omega arith)) refl

  core_only : {ts : List Token} {f : Raw} {rest : List Token} → IsCore ts f rest → NoComparison rest → (n : ℕ) → length ts ≤ suc n → core_at (formula_at n) ts ≡ Some (f, rest)
  core_only (Bare ts f rest h) o n le = atom_bare (formula_at n) h ∙ atom_only h o
  core_only (InBrackets ts f rest h) o n le = rw (formula_only h refl n (omega arith)) refl
