-- Values and quantifiers by levels, which no quantifier shifts, and the walk over a form and a map that keeps them.
use Rattle.std.specs.Prelude.{◌≡◌, ℕ, zero, suc, ◌+◌, ◌-◌, nat_eq, List, [], ◌∷◌, cond, drop, length, map, reverse}
use Rattle.dk_syntax.specs.Terms.{instance}
use Rattle.dk_syntax.specs.declared.Kind.TheVariants.{Function}
use Rattle.dk_syntax.specs.declared.Term.{Term}
use Rattle.dk_syntax.specs.declared.Term.TheVariants.{Var}
use Rattle.normal_form.specs.Forms.{all, alls, and, ex, exs, Form, lit, no, or, yes}
use Rattle.step_skolem.specs.Images.{after_first, existential, starts_at, universal, with_left}
use Rattle.step_skolem.specs.Images as image
use Rattle.step_skolem.specs.Substitutions.{applied}
use Rattle.step_skolem.specs.declared.map.SkEntry.{SkEntry}
use Rattle.step_skolem.specs.declared.walk.Quantifier.{Quantifier}
use Rattle.step_skolem.specs.declared.walk.Quantifier.TheVariants.{Existential, Universal}
use Rattle.step_skolem.specs.declared.walk.Replacement.{Replacement}
use Rattle.step_skolem.specs.declared.walk.Value.{Value}
use Rattle.step_skolem.specs.declared.walk.Value.TheVariants.{Kept, Replaced}
use Rattle.step_skolem.specs.declared.walk.Walk.{Walk}

-- ---- values and quantifiers by levels

-- the variable of a level under so many quantifiers; levels count from the outermost
abbrev pub index : ℕ → ℕ → ℕ
index depth level = depth - suc level

-- the term of a value
abbrev pub term_of : ℕ → Value → Term
term_of depth (Kept level) = Var (index depth level)
term_of depth (Replaced replacement) = applied replacement.symbol (map (index depth) replacement.levels)

-- what stands for a variable of the form, under so many quantifiers of the image; the inmost value comes first
abbrev pub denoted : ℕ → List Value → ℕ → Term
denoted depth [] k = Var (k + depth)
denoted depth (value ∷ values) zero = term_of depth value
denoted depth (value ∷ values) (suc k) = denoted depth values k

-- what stands for the variables where the walk stands
abbrev pub values_of : Walk → ℕ → Term
values_of walk = denoted (length walk.kept.items) (reverse walk.values.items)

-- the quantifier as images have it
abbrev pub kept_of : Quantifier → image.Kept
kept_of (Universal number) = universal number
kept_of Existential = existential

-- the level of the kept universal with that number, those around listed with the inmost first
abbrev pub level_in : List Quantifier → ℕ → ℕ
level_in [] n = 0
level_in (Universal number ∷ kept) n = cond (nat_eq number n) (length kept) (level_in kept n)
level_in (Existential ∷ kept) n = level_in kept n

-- the entry's symbol with the levels of its universals
abbrev pub replacement_in : List Quantifier → SkEntry → Replacement
replacement_in kept one = record { symbol = one.symbol; levels = map (level_in kept) one.args }

-- the same of the first entry
abbrev pub first_replacement : List Quantifier → List SkEntry → Replacement
first_replacement kept [] = record { symbol = record { name = []; arity = 0; kind = Function }; levels = [] }
first_replacement kept (one ∷ rest) = replacement_in kept one

-- ---- the walk

-- the image, and the entries that are left; quantifiers and values are listed with the inmost first
abbrev pub ran : List Quantifier → List Value → ℕ → ℕ → Form → List SkEntry → Form × List SkEntry
ran kept values u e yes m = (yes, m)
ran kept values u e no m = (no, m)
ran kept values u e (lit literal) m = (lit (instance (denoted (length kept) values) literal), m)
ran kept values u e (and a b) m = with_left (and (ran kept values u e a m).0) (ran kept values (alls a + u) (exs a + e) b (ran kept values u e a m).1)
ran kept values u e (or a b) m = with_left (or (ran kept values u e a m).0) (ran kept values (alls a + u) (exs a + e) b (ran kept values u e a m).1)
ran kept values u e (all a) m = with_left all (ran (Universal u ∷ kept) (Kept (length kept) ∷ values) (suc u) e a m)
ran kept values u e (ex a) m =
    cond (starts_at e m) (ran kept (Replaced (first_replacement kept m) ∷ values) u (suc e) a (after_first m))
    (with_left ex (ran (Existential ∷ kept) (Kept (length kept) ∷ values) u (suc e) a m))

-- the same from where the walk stands
abbrev pub ran_from : Walk → Form → List SkEntry → Form × List SkEntry
ran_from walk n entries = ran (reverse walk.kept.items) (reverse walk.values.items) walk.next_all walk.next_ex n (drop walk.taken entries)

-- the walk stands behind the form, with the quantifiers and values that were around
pub record Passes (old new : Walk) (n : Form) : Type 0 where
  pub kept : new.kept.items ≡ old.kept.items
  pub values : new.values.items ≡ old.values.items
  pub next_all : new.next_all ≡ alls n + old.next_all
  pub next_ex : new.next_ex ≡ exs n + old.next_ex

-- under one quantifier more that is kept
abbrev pub ran_under : Walk → Quantifier → Form → List SkEntry → Form × List SkEntry
ran_under walk quantifier a entries =
    ran (quantifier ∷ reverse walk.kept.items) (Kept (length walk.kept.items) ∷ reverse walk.values.items) walk.next_all walk.next_ex a (drop walk.taken entries)

-- under an existential that is replaced by the next entry
abbrev pub ran_replaced : Walk → Form → List SkEntry → Form × List SkEntry
ran_replaced walk a entries =
    ran (reverse walk.kept.items) (Replaced (first_replacement (reverse walk.kept.items) (drop walk.taken entries)) ∷ reverse walk.values.items) walk.next_all walk.next_ex a
    (after_first (drop walk.taken entries))
