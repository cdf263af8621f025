-- The name of each word's symbol.
use Rattle.std.proofs.Common.{◌≡◌, ℕ, List, bytes_eq, if◌then◌else◌, codes, Bool, true, false, refl, Decides}
use Rattle.std.proofs.lemmas.Slice.Eq.{bytes_eq-Decides}
use Rattle.lp_term.specs.Names.{i_name, prop_name, prf_name, imp_name, and_name, or_name, iff_name, not_name, top_name, bot_name, all_name, ex_name}
use Rattle.lp_exact.specs.declared.word.Word.{Word}
use Rattle.lp_exact.specs.declared.word.Word.TheVariants.{Individuals, Propositions, Prf, Imp, And, Or, Iff, Not, Top, Bot, All, Ex, Other}
use Rattle.lp_exact.specs.Words.{word_of}

-- the symbol of that word has this name
abbrev pub IsNamed : Word → List ℕ → Type 0
IsNamed Individuals name = name ≡ i_name
IsNamed Propositions name = name ≡ prop_name
IsNamed Prf name = name ≡ prf_name
IsNamed Imp name = name ≡ imp_name
IsNamed And name = name ≡ and_name
IsNamed Or name = name ≡ or_name
IsNamed Iff name = name ≡ iff_name
IsNamed Not name = name ≡ not_name
IsNamed Top name = name ≡ top_name
IsNamed Bot name = name ≡ bot_name
IsNamed All name = name ≡ all_name
IsNamed Ex name = name ≡ ex_name
IsNamed Other name = Unit {0}

-- what a test decides
from_test : {b : Bool} {P : Type 0} → Decides b P → b ≡ true → P
from_test d t = d.0 t

-- the word by one test
chosen : (name : List ℕ) (b : Bool) (w e : Word) → (b ≡ true → IsNamed w name) → IsNamed e name → IsNamed (if b then w else e) name
chosen name true w e h k = h refl
chosen name false w e h k = k

tested : (name other : List ℕ) (w e : Word) → (name ≡ other → IsNamed w name) → IsNamed e name → IsNamed (if bytes_eq name other then w else e) name
tested name other w e h k = chosen name (bytes_eq name other) w e (λ t. h (from_test (bytes_eq-Decides name other) t)) k

pub named : (name : List ℕ) → IsNamed (word_of name) name
named name =
    tested name (codes "I") Individuals _ (λ e. e) (
    tested name (codes "Prop") Propositions _ (λ e. e) (
    tested name (codes "Prf") Prf _ (λ e. e) (
    tested name (codes "imp") Imp _ (λ e. e) (
    tested name (codes "and") And _ (λ e. e) (
    tested name (codes "or") Or _ (λ e. e) (
    tested name (codes "iff") Iff _ (λ e. e) (
    tested name (codes "not") Not _ (λ e. e) (
    tested name (codes "top") Top _ (λ e. e) (
    tested name (codes "bot") Bot _ (λ e. e) (
    tested name (codes "all") All _ (λ e. e) (
    tested name (codes "ex") Ex _ (λ e. e) (
    tt))))))))))))
