-- The words in which the prelude and the theorems write terms.
use Rattle.std.specs.Prelude.{codes}
use Rattle.lp_term.specs.Substitution.{lifted}
use Rattle.lp_term.specs.declared.lp.Lp.{Lp}
use Rattle.lp_term.specs.declared.lp.Lp.TheVariants.{Sym, App, Pi}

-- `I`
abbrev pub individuals : Lp
individuals = Sym (codes "I")

-- `Prop`
abbrev pub propositions : Lp
propositions = Sym (codes "Prop")

-- `f a b`
abbrev pub apply_two : Lp → Lp → Lp → Lp
apply_two f a b = App (App f a) b

-- `Prf p`
abbrev pub proof_of : Lp → Lp
proof_of p = App (Sym (codes "Prf")) p

-- `not p`
abbrev pub negation_of : Lp → Lp
negation_of p = App (Sym (codes "not")) p

-- `a → b`: a product whose variable doesn't occur, so that `b` stands below one more binder
abbrev pub arrow_of : Lp → Lp → Lp
arrow_of a b = Pi a (lifted 1 b 0)
