-- What is read is in the grammar.
use Rattle.std.proofs.Common.{◌≡◌, ℕ, zero, suc, List, [], ◌∷◌, length, Option, Some, None, refl, sym, subst}
use Rattle.tptp_tokens.specs.declared.Token.{Token}
use Rattle.tptp_tokens.specs.declared.Token.TheVariants as t
use Rattle.tptp_formulas.specs.declared.raw.Comparison.{Comparison}
use Rattle.tptp_formulas.specs.declared.raw.Connective.{Connective}
use Rattle.tptp_formulas.specs.declared.raw.Link.{Link}
use Rattle.tptp_formulas.specs.declared.raw.Link.TheVariants as link
use Rattle.tptp_formulas.specs.declared.raw.Prefix.{Prefix}
use Rattle.tptp_formulas.specs.declared.raw.Raw.{Raw}
use Rattle.tptp_formulas.specs.declared.raw.RawTerm.{RawTerm, RawTerm-F, out-RawTerm, roll-RawTerm, the_lemmas as of_terms}
use Rattle.tptp_formulas.specs.declared.raw.RawTerm.TheOpen as layer
use Rattle.tptp_formulas.specs.declared.raw.RawTerm.TheVariants as term
use Rattle.tptp_formulas.specs.Grammar as g
use Rattle.tptp_formulas.specs.Grammar.{IsArguments, IsAtom, IsCore, IsFormula, IsName, IsPrefixes, IsTerm, IsTerms, IsUnit, IsUnits, IsVariables, comparison_mark, connective_mark, link_mark}
use Rattle.tptp_formulas.specs.Reading.{◌>>=◌, Reader, alone_at, args_at, atom_at, behind, binary_at, chained_at, closed_at, compared_at, comparison_at, connective_at, core_at, formula_at, formula_with, link_at, more_terms, more_units, prefix_at, prefix_more, prefixes_at, prefixes_with, tail_at, tail_with, term_at, term_with, terms_at, unit_at, units_at, vars_at}

-- what was read is so by the relation
abbrev pub Sound : {A : Type 0} → (List Token → A → List Token → Type 0) → List Token → Option (A × List Token) → Type 0
Sound Is ts None = Unit {0}
Sound Is ts (Some x) = Is ts x.0 x.1

abbrev pub IsSoundReader : {A : Type 0} → (List Token → A → List Token → Type 0) → Reader A → Type 0
IsSoundReader Is reader = (ts : List Token) → Sound Is ts (reader ts)

-- a step after another
then_sound : {A B : Type 0} (First : List Token → A → List Token → Type 0) (Whole : List Token → B → List Token → Type 0) (ts mid : List Token) (o : Option (A × List Token)) (f : A × List Token → Option (B × List Token))
    → Sound First mid o → ((x : A) (rest : List Token) → First mid x rest → Sound Whole ts (f (x, rest))) → Sound Whole ts (o >>= f)
then_sound First Whole ts mid None f h k = tt
then_sound First Whole ts mid (Some x) f h k = k x.0 x.1 h

then_some : {A : Type 0} (First : List Token → A → List Token → Type 0) (Whole : List Token → A → List Token → Type 0) (mid ts : List Token) (o : Option (A × List Token))
    → Sound First mid o → ((x : A) (rest : List Token) → First mid x rest → Whole ts x rest) → Sound Whole ts o
then_some First Whole mid ts None h k = tt
then_some First Whole mid ts (Some x) h k = k x.0 x.1 h

-- ---- terms

more_terms_sound : (others : Reader (List RawTerm)) → IsSoundReader IsTerms others → (ts : List Token) (x : RawTerm) (after : List Token) → IsTerm ts x after → Sound IsTerms ts (more_terms others x after)
unfolding more_terms
more_terms_sound others sound ts x [] h = tt
more_terms_sound others sound ts x (t.Comma ∷ mid) h = then_sound IsTerms IsTerms ts mid (others mid) _ (sound mid) (λ xs rest r. g.MoreTerms ts x mid xs rest h r)
more_terms_sound others sound ts x (t.CloseRound ∷ rest) h = g.LastTerm ts x rest h
more_terms_sound others sound ts x (_ ∷ rest) h = tt

terms_sound : (k : ℕ) (one : Reader RawTerm) → IsSoundReader IsTerm one → IsSoundReader IsTerms (terms_at k one)
unfolding terms_at
terms_sound zero one sound ts = tt
terms_sound (suc k) one sound ts = then_sound IsTerm IsTerms ts ts (one ts) _ (sound ts) (λ x rest h. more_terms_sound (terms_at k one) (terms_sound k one sound) ts x rest h)

args_sound : (one : Reader RawTerm) → IsSoundReader IsTerm one → IsSoundReader IsArguments (args_at one)
unfolding args_at
args_sound one sound [] = g.NoArguments []
args_sound one sound (t.OpenRound ∷ ts) = then_some IsTerms IsArguments ts (t.OpenRound ∷ ts) (terms_at (length ts) one ts) (terms_sound (length ts) one sound ts) (λ xs rest h. g.Bracketed ts xs rest h)
args_sound one sound (w ∷ ts) = g.NoArguments (w ∷ ts)

application_sound : (one : Reader RawTerm) → IsSoundReader IsTerm one → (w : Token) (name : List ℕ) (ts : List Token) → IsName w name → Sound IsTerm (w ∷ ts) (args_at one ts >>= λ args. Some (term.Apply name args.0, args.1))
application_sound one sound w name ts is = then_sound IsArguments IsTerm (w ∷ ts) ts (args_at one ts) _ (args_sound one sound ts) (λ args rest h. g.Application w name ts args rest is h)

term_with_sound : (one : Reader RawTerm) → IsSoundReader IsTerm one → IsSoundReader IsTerm (term_with one)
unfolding term_with
term_with_sound one sound [] = tt
term_with_sound one sound (t.Upper name ∷ ts) = g.Variable name ts
term_with_sound one sound (t.Number name ∷ ts) = g.Number name ts
term_with_sound one sound (t.Distinct name ∷ ts) = g.Distinct name ts
term_with_sound one sound (t.Lower name ∷ ts) = application_sound one sound (t.Lower name) name ts (g.LowerName name)
term_with_sound one sound (t.Quoted name ∷ ts) = application_sound one sound (t.Quoted name) name ts (g.QuotedName name)
term_with_sound one sound (t.Dollar name ∷ ts) = then_sound IsArguments IsTerm (t.Dollar name ∷ ts) ts (args_at one ts) _ (args_sound one sound ts) (λ args rest h. g.DollarTerm name ts args rest h)
term_with_sound one sound (_ ∷ ts) = tt

pub term_sound : (n : ℕ) → IsSoundReader IsTerm (term_at n)
unfolding term_at
term_sound zero ts = tt
term_sound (suc n) ts = term_with_sound (term_at n) (term_sound n) ts

-- ---- atoms

-- what is found is behind the mark
abbrev HasMark : {A : Type 0} → (A → Token) → List Token → Option (A × List Token) → Type 0
HasMark mark ts None = Unit {0}
HasMark mark ts (Some found) = ts ≡ mark found.0 ∷ found.1

comparison_is : (ts : List Token) → HasMark comparison_mark ts (comparison_at ts)
comparison_is (t.Equal ∷ ts) = refl
comparison_is (t.Unequal ∷ ts) = refl
comparison_is _ = tt

alone_sound : (ts : List Token) (y : RawTerm-F RawTerm) (rest : List Token) → IsTerm ts (roll-RawTerm y) rest → Sound IsAtom ts (alone_at y rest)
unfolding alone_at
alone_sound ts (layer.Variable name) rest h = tt
alone_sound ts (layer.Apply name args) rest h = g.Atom ts name args rest (subst (λ (x : RawTerm). IsTerm ts x rest) (term.rolls-Apply name args) h)
alone_sound ts (layer.Number name) rest h = tt
alone_sound ts (layer.Distinct name) rest h = tt
alone_sound ts (layer.Dollar name args) rest h = g.DollarAtom ts name args rest (subst (λ (x : RawTerm). IsTerm ts x rest) (term.rolls-Dollar name args) h)

roll_out : (x : RawTerm) → x ≡ roll-RawTerm (out-RawTerm x)
roll_out x = search of_terms

compared_sound : (one : Reader RawTerm) → IsSoundReader IsTerm one → (ts : List Token) (left : RawTerm) (after : List Token) (o : Option (Comparison × List Token)) → HasMark comparison_mark after o → IsTerm ts left after → Sound IsAtom ts (compared_at one left after o)
unfolding compared_at
compared_sound one sound ts left after None b h = alone_sound ts (out-RawTerm left) after (subst (λ (x : RawTerm). IsTerm ts x after) (roll_out left) h)
compared_sound one sound ts left after (Some found) b h = then_sound IsTerm IsAtom ts found.1 (one found.1) _ (sound found.1)
    (λ right rest r. g.Equation found.0 ts left found.1 right rest (subst (λ (x : List Token). IsTerm ts left x) b h) r)

atom_sound : IsSoundReader IsAtom atom_at
unfolding atom_at
atom_sound ts = then_sound IsTerm IsAtom ts ts (term_at (length ts) ts) _ (term_sound (length ts) ts)
    (λ left rest h. compared_sound (term_at (length ts)) (term_sound (length ts)) ts left rest (comparison_at rest) (comparison_is rest) h)

-- ---- formulas

vars_sound : IsSoundReader IsVariables vars_at
unfolding vars_at
vars_sound (t.Upper name ∷ t.Comma ∷ ts) = then_sound IsVariables IsVariables (t.Upper name ∷ t.Comma ∷ ts) ts (vars_at ts) _ (vars_sound ts) (λ names rest h. g.MoreVariables name ts names rest h)
vars_sound (t.Upper name ∷ t.CloseSquare ∷ t.Colon ∷ ts) = g.LastVariable name ts
vars_sound _ = tt

-- what is in front of the prefixes behind a first one
abbrev IsOnePrefix : List Token → Option Prefix → List Token → Type 0
IsOnePrefix ts None rest = ts ≡ rest
IsOnePrefix ts (Some p) rest = (ps : List Prefix) (after : List Token) → IsPrefixes rest ps after → IsPrefixes ts (p ∷ ps) after

prefix_sound : IsSoundReader IsOnePrefix prefix_at
unfolding prefix_at
prefix_sound (t.Not ∷ ts) = λ ps after h. g.Negated ts ps after h
prefix_sound (t.ForAll ∷ t.OpenSquare ∷ ts) = then_sound IsVariables IsOnePrefix (t.ForAll ∷ t.OpenSquare ∷ ts) ts (vars_at ts) _ (vars_sound ts) (λ names mid v ps after h. g.Universal ts names mid ps after v h)
prefix_sound (t.Exists ∷ t.OpenSquare ∷ ts) = then_sound IsVariables IsOnePrefix (t.Exists ∷ t.OpenSquare ∷ ts) ts (vars_at ts) _ (vars_sound ts) (λ names mid v ps after h. g.Existential ts names mid ps after v h)
prefix_sound _ = refl

prefix_more_sound : (more : Reader (List Prefix)) → IsSoundReader IsPrefixes more → (ts : List Token) (p : Option Prefix) (mid : List Token) → IsOnePrefix ts p mid → Sound IsPrefixes ts (prefix_more more p mid)
unfolding prefix_more
prefix_more_sound more sound ts None mid h = subst (λ (x : List Token). IsPrefixes x [] mid) (sym h) (g.NoPrefix mid)
prefix_more_sound more sound ts (Some p) mid h = then_sound IsPrefixes IsPrefixes ts mid (more mid) _ (sound mid) (λ ps rest r. h ps rest r)

prefixes_sound : (k : ℕ) → IsSoundReader IsPrefixes (prefixes_at k)
unfolding prefixes_at prefixes_with
prefixes_sound zero ts = tt
prefixes_sound (suc k) ts = then_sound IsOnePrefix IsPrefixes ts ts (prefix_at ts) _ (prefix_sound ts) (λ p mid h. prefix_more_sound (prefixes_at k) (prefixes_sound k) ts p mid h)

closed_sound : (ts : List Token) (f : Raw) (after : List Token) → IsFormula ts f after → Sound IsCore (t.OpenRound ∷ ts) (closed_at f after)
unfolding closed_at
closed_sound ts f [] h = tt
closed_sound ts f (t.CloseRound ∷ rest) h = g.InBrackets ts f rest h
closed_sound ts f (_ ∷ rest) h = tt

bare_sound : (ts : List Token) → Sound IsCore ts (atom_at ts)
bare_sound ts = then_some IsAtom IsCore ts ts (atom_at ts) (atom_sound ts) (λ f rest h. g.Bare ts f rest h)

core_sound : (formula : Reader Raw) → IsSoundReader IsFormula formula → IsSoundReader IsCore (core_at formula)
unfolding core_at
core_sound formula sound [] = bare_sound []
core_sound formula sound (t.OpenRound ∷ ts) = then_sound IsFormula IsCore (t.OpenRound ∷ ts) ts (formula ts) _ (sound ts) (λ f rest h. closed_sound ts f rest h)
core_sound formula sound (w ∷ ts) = bare_sound (w ∷ ts)

unit_sound : (formula : Reader Raw) → IsSoundReader IsFormula formula → IsSoundReader IsUnit (unit_at formula)
unfolding unit_at
unit_sound formula sound ts = then_sound IsPrefixes IsUnit ts ts (prefixes_at (length ts) ts) _ (prefixes_sound (length ts) ts)
    (λ ps mid p. then_sound IsCore IsUnit ts mid (core_at formula mid) _ (core_sound formula sound mid) (λ f rest h. g.Prefixed ts ps mid f rest p h))

-- what `behind` finds is behind the mark
abbrev Behind : Link → List Token → Option (List Token) → Type 0
Behind link ts None = Unit {0}
Behind link ts (Some next) = ts ≡ link_mark link ∷ next

behind_is : (link : Link) (ts : List Token) → Behind link ts (behind link ts)
behind_is link.And (t.And ∷ ts) = refl
behind_is link.Or (t.Or ∷ ts) = refl
behind_is _ _ = tt

link_is : (ts : List Token) → HasMark link_mark ts (link_at ts)
link_is (t.And ∷ ts) = refl
link_is (t.Or ∷ ts) = refl
link_is _ = tt

connective_is : (ts : List Token) → HasMark connective_mark ts (connective_at ts)
connective_is (t.Implies ∷ ts) = refl
connective_is (t.ImpliedBy ∷ ts) = refl
connective_is (t.Iff ∷ ts) = refl
connective_is (t.Differs ∷ ts) = refl
connective_is (t.Nor ∷ ts) = refl
connective_is (t.Nand ∷ ts) = refl
connective_is _ = tt

chained_sound : (others : Reader (List Raw)) (link : Link) → IsSoundReader (IsUnits link) others → (ts : List Token) (f : Raw) (after : List Token) (o : Option (List Token)) → Behind link after o → IsUnit ts f after → Sound (IsUnits link) ts (chained_at others f after o)
unfolding chained_at
chained_sound others link sound ts f after None b h = g.LastUnit link ts f after h
chained_sound others link sound ts f after (Some mid) b h = then_sound (IsUnits link) (IsUnits link) ts mid (others mid) _ (sound mid) (λ fs rest r. g.MoreUnits link ts f mid fs rest (subst (λ (x : List Token). IsUnit ts f x) b h) r)

units_sound : (k : ℕ) (unit : Reader Raw) (link : Link) → IsSoundReader IsUnit unit → IsSoundReader (IsUnits link) (units_at k unit link)
unfolding units_at more_units
units_sound zero unit link sound ts = tt
units_sound (suc k) unit link sound ts = then_sound IsUnit (IsUnits link) ts ts (unit ts) _ (sound ts) (λ f rest h. chained_sound (units_at k unit link) link (units_sound k unit link sound) ts f rest (behind link rest) (behind_is link rest) h)

binary_sound : (unit : Reader Raw) → IsSoundReader IsUnit unit → (ts : List Token) (f : Raw) (after : List Token) (o : Option (Connective × List Token)) → HasMark connective_mark after o → IsUnit ts f after → Sound IsFormula ts (binary_at unit f after o)
unfolding binary_at
binary_sound unit sound ts f after None b h = g.OneUnit ts f after h
binary_sound unit sound ts f after (Some found) b h = then_sound IsUnit IsFormula ts found.1 (unit found.1) _ (sound found.1)
    (λ second rest r. g.Binary found.0 ts f found.1 second rest (subst (λ (x : List Token). IsUnit ts f x) b h) r)

tail_with_sound : (unit : Reader Raw) → IsSoundReader IsUnit unit → (ts : List Token) (f : Raw) (after : List Token) (o : Option (Link × List Token)) → HasMark link_mark after o → IsUnit ts f after → Sound IsFormula ts (tail_with unit f after o)
unfolding tail_with
tail_with_sound unit sound ts f after None b h = binary_sound unit sound ts f after (connective_at after) (connective_is after) h
tail_with_sound unit sound ts f after (Some found) b h = then_sound (IsUnits found.0) IsFormula ts found.1 (units_at (length found.1) unit found.0 found.1) _ (units_sound (length found.1) unit found.0 sound found.1)
    (λ others rest r. g.Chain found.0 ts f found.1 others rest (subst (λ (x : List Token). IsUnit ts f x) b h) r)

tail_sound : (unit : Reader Raw) → IsSoundReader IsUnit unit → (ts : List Token) (f : Raw) (after : List Token) → IsUnit ts f after → Sound IsFormula ts (tail_at unit f after)
unfolding tail_at
tail_sound unit sound ts f after h = tail_with_sound unit sound ts f after (link_at after) (link_is after) h

pub formula_sound : (n : ℕ) → IsSoundReader IsFormula (formula_at n)
unfolding formula_at formula_with
formula_sound zero ts = tt
formula_sound (suc n) ts = then_sound IsUnit IsFormula ts ts (unit_at (formula_at n) ts) _ (unit_sound (formula_at n) (formula_sound n) ts)
    (λ f rest h. tail_sound (unit_at (formula_at n)) (unit_sound (formula_at n) (formula_sound n)) ts f rest h)
