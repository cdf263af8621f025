-- The prelude of every development: its types, its connectives, their rules and the excluded middle.
use Rattle.std.specs.Prelude.{ℕ, List, [], ◌∷◌, ◌++◌, codes}
use Rattle.lp_term.specs.Terms.{individuals, propositions, apply_two, proof_of, negation_of, arrow_of}
use Rattle.lp_term.specs.declared.command.Command.{Command}
use Rattle.lp_term.specs.declared.command.Command.TheVariants.{Constant, Symbol, Rule}
use Rattle.lp_term.specs.declared.lp.Lp.{Lp}
use Rattle.lp_term.specs.declared.lp.Lp.TheVariants.{Sort, Sym, Var, Pat, App, Pi}

-- `a → b`; both sides name a variable by one number
infixr 20 ◌⇒◌
abbrev pub ◌⇒◌ : Lp → Lp → Lp
a ⇒ b = arrow_of a b

-- `Prop → Prop`, `Prop → Prop → Prop` and `(I → Prop) → Prop`
abbrev pub unary_type : Lp
unary_type = propositions ⇒ propositions

abbrev pub binary_type : Lp
binary_type = propositions ⇒ propositions ⇒ propositions

abbrev pub quantifier_type : Lp
quantifier_type = (individuals ⇒ propositions) ⇒ propositions

-- `$p`, `$q` and `$f`
abbrev pub p : Lp
p = Pat (codes "p")

abbrev pub q : Lp
q = Pat (codes "q")

abbrev pub f : Lp
f = Pat (codes "f")

-- `top` and `bot`
abbrev pub top : Lp
top = Sym (codes "top")

abbrev pub bot : Lp
bot = Sym (codes "bot")

-- `Π (v0 : Prop), a`, in which `v0` is variable 0
abbrev pub each_proposition : Lp → Lp
each_proposition a = Pi propositions a

-- `Prf v0`, where the nearest binder is that of `v0`
abbrev pub goal : Lp
goal = proof_of (Var 0)

-- `NAME $p $q` and `NAME $f`
abbrev pub of_two : List ℕ → Lp
of_two name = apply_two (Sym name) p q

abbrev pub of_family : List ℕ → Lp
of_family name = App (Sym name) f

-- rule Prf (imp $p $q) ↪ Prf $p → Prf $q;
abbrev pub rule_of_imp : Command
rule_of_imp = Rule (proof_of (of_two (codes "imp"))) (proof_of p ⇒ proof_of q)

-- rule Prf (not $p) ↪ Prf $p → Prf bot;
abbrev pub rule_of_not : Command
rule_of_not = Rule (proof_of (negation_of p)) (proof_of p ⇒ proof_of bot)

-- rule Prf (all $f) ↪ Π (v0 : I), Prf ($f v0);
abbrev pub rule_of_all : Command
rule_of_all = Rule (proof_of (of_family (codes "all"))) (Pi individuals (proof_of (App f (Var 0))))

-- rule Prf bot ↪ Π (v0 : Prop), Prf v0;
abbrev pub rule_of_bot : Command
rule_of_bot = Rule (proof_of bot) (each_proposition goal)

-- rule Prf top ↪ Π (v0 : Prop), Prf v0 → Prf v0;
abbrev pub rule_of_top : Command
rule_of_top = Rule (proof_of top) (each_proposition (goal ⇒ goal))

-- rule Prf (and $p $q) ↪ Π (v0 : Prop), (Prf $p → Prf $q → Prf v0) → Prf v0;
abbrev pub rule_of_and : Command
rule_of_and = Rule (proof_of (of_two (codes "and"))) (each_proposition ((proof_of p ⇒ proof_of q ⇒ goal) ⇒ goal))

-- rule Prf (or $p $q) ↪ Π (v0 : Prop), (Prf $p → Prf v0) → (Prf $q → Prf v0) → Prf v0;
abbrev pub rule_of_or : Command
rule_of_or = Rule (proof_of (of_two (codes "or"))) (each_proposition ((proof_of p ⇒ goal) ⇒ (proof_of q ⇒ goal) ⇒ goal))

-- `Π (v1 : I), Prf ($f v1) → Prf v0`: below this binder `v1` is variable 0 and `v0` is variable 1
abbrev pub each_witness : Lp
each_witness = Pi individuals (proof_of (App f (Var 0)) ⇒ proof_of (Var 1))

-- rule Prf (ex $f) ↪ Π (v0 : Prop), (Π (v1 : I), Prf ($f v1) → Prf v0) → Prf v0;
abbrev pub rule_of_ex : Command
rule_of_ex = Rule (proof_of (of_family (codes "ex"))) (each_proposition (each_witness ⇒ goal))

-- rule Prf (iff $p $q) ↪ Π (v0 : Prop), ((Prf $p → Prf $q) → (Prf $q → Prf $p) → Prf v0) → Prf v0;
abbrev pub rule_of_iff : Command
rule_of_iff = Rule (proof_of (of_two (codes "iff"))) (each_proposition (((proof_of p ⇒ proof_of q) ⇒ (proof_of q ⇒ proof_of p) ⇒ goal) ⇒ goal))

-- symbol em : Π (v0 : Prop), Prf (or v0 (not v0));
abbrev pub excluded_middle : Command
excluded_middle = Symbol (codes "em") (each_proposition (proof_of (apply_two (Sym (codes "or")) (Var 0) (negation_of (Var 0)))))

-- the types, the connectives and the quantifiers
abbrev pub constants : List Command
constants =
    Constant (codes "I") Sort
    ∷ Constant (codes "Prop") Sort
    ∷ Symbol (codes "Prf") (propositions ⇒ Sort)
    ∷ Constant (codes "imp") binary_type
    ∷ Constant (codes "and") binary_type
    ∷ Constant (codes "or") binary_type
    ∷ Constant (codes "iff") binary_type
    ∷ Constant (codes "not") unary_type
    ∷ Constant (codes "top") propositions
    ∷ Constant (codes "bot") propositions
    ∷ Constant (codes "all") quantifier_type
    ∷ Constant (codes "ex") quantifier_type
    ∷ Constant (codes "any") individuals
    ∷ []

abbrev pub rules : List Command
rules =
    rule_of_imp
    ∷ rule_of_not
    ∷ rule_of_all
    ∷ rule_of_bot
    ∷ rule_of_top
    ∷ rule_of_and
    ∷ rule_of_or
    ∷ rule_of_ex
    ∷ rule_of_iff
    ∷ []

-- the 23 commands
abbrev pub prelude : List Command
prelude = constants ++ (rules ++ excluded_middle ∷ [])
