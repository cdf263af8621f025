-- Terms and literals over a list of symbols, and what keeps them so.
use Rattle.std.proofs.Common.{◌≡◌, ℕ, Bool, true, false, ◌&&◌, List, [], ◌∷◌, length, map, refl, sym, ap₂, ◌∙◌, subst}
use Rattle.std.proofs.lemmas.List.{length-map}
use Rattle.dk_syntax.proofs.ListLaws.{for_each, ForEach}
use Rattle.dk_syntax.proofs.SubstitutionLaws.{substituted-Any, substituted-App, substituted-Var}
use Rattle.dk_syntax.proofs.TermLaws.{occurrences-Any, occurrences-App, occurrences-Var, term_induction}
use Rattle.dk_syntax.proofs.WellFormedLaws.{well_formed-Any, well_formed-App, well_formed-Var}
use Rattle.dk_syntax.specs.Lists.{all_true, Every, every_cons, every_nil}
use Rattle.dk_syntax.specs.Symbols.{joined, term_occurrences}
use Rattle.dk_syntax.specs.Terms.{instance, substituted}
use Rattle.dk_syntax.specs.WellFormed.{fits_symbol, well_formed_term}
use Rattle.dk_syntax.specs.declared.clause.Literal.{Literal}
use Rattle.dk_syntax.specs.declared.symbol.Kind.TheVariants.{Function, Predicate}
use Rattle.dk_syntax.specs.declared.symbol.SymKey.{SymKey}
use Rattle.dk_syntax.specs.declared.term.Term.{Term}
use Rattle.dk_syntax.specs.declared.term.Term.TheVariants.{Any, App, Var}
use Rattle.plan_symbols.proofs.EveryLaws.{every_back, every_both, every_front, every_head, every_tail}
use Rattle.plan_symbols.specs.Over.{IsListed, IsLiteralOver, IsTermOver}

-- ---- tests

pub both : (a b : Bool) → a ≡ true → b ≡ true → (a && b) ≡ true
both a b h k = ap₂ (λ x y. x && y) h k

pub both_true : (a b : Bool) → (a && b) ≡ true → (a ≡ true) × (b ≡ true)
both_true true b h = (refl, h)
both_true false b h = absurd cc

module _ (symbols : List SymKey) where
  abbrev Over : Term → Type 0
  Over t = IsTermOver symbols t

  -- ---- terms by kinds

  pub var_over : (n : ℕ) → IsTermOver symbols (Var n)
  var_over n = record { formed = well_formed-Var n; listed = subst (Every (IsListed symbols)) (sym (occurrences-Var n)) every_nil }

  pub any_over : IsTermOver symbols Any
  any_over = record { formed = well_formed-Any; listed = subst (Every (IsListed symbols)) (sym occurrences-Any) every_nil }

  pub args_apart : (args : List Term) → all_true (map well_formed_term args) ≡ true → Every (IsListed symbols) (joined (map term_occurrences args)) → Every (IsTermOver symbols) args
  args_apart [] w h = every_nil
  args_apart (t ∷ args) w h =
      let parts = both_true (well_formed_term t) (all_true (map well_formed_term args)) w in
      every_cons (record { formed = parts.0; listed = every_front (term_occurrences t) (joined (map term_occurrences args)) h })
      (args_apart args parts.1 (every_back (term_occurrences t) (joined (map term_occurrences args)) h))

  pub args_formed : {args : List Term} → Every (IsTermOver symbols) args → all_true (map well_formed_term args) ≡ true
  args_formed every_nil = refl
  args_formed (every_cons {a = t} {l = args} w ws) = both (well_formed_term t) (all_true (map well_formed_term args)) w.formed (args_formed ws)

  pub args_listed : {args : List Term} → Every (IsTermOver symbols) args → Every (IsListed symbols) (joined (map term_occurrences args))
  args_listed every_nil = every_nil
  args_listed (every_cons w ws) = every_both w.listed (args_listed ws)

  -- an application, by its symbol and its arguments
  pub record IsAppOver (f : SymKey) (args : List Term) : Type 0 where
    pub fits : fits_symbol Function f (length args) ≡ true
    pub listed : IsListed symbols f
    pub each : Every (IsTermOver symbols) args

  pub app_apart : (f : SymKey) (args : List Term) → IsTermOver symbols (App f args) → IsAppOver f args
  app_apart f args h =
      let parts = both_true (fits_symbol Function f (length args)) (all_true (map well_formed_term args)) (sym (well_formed-App f args) ∙ h.formed) in
      let all = subst (Every (IsListed symbols)) (occurrences-App f args) h.listed in
      record { fits = parts.0; listed = every_head all; each = args_apart args parts.1 (every_tail all) }

  pub app_over : (f : SymKey) (args : List Term) → IsAppOver f args → IsTermOver symbols (App f args)
  app_over f args h = record {
    formed = well_formed-App f args ∙ both (fits_symbol Function f (length args)) (all_true (map well_formed_term args)) h.fits (args_formed h.each);
    listed = subst (Every (IsListed symbols)) (sym (occurrences-App f args)) (every_cons h.listed (args_listed h.each));
  }

  -- a literal, by its predicate and its arguments
  pub record IsAtomOver (pred : SymKey) (args : List Term) : Type 0 where
    pub fits : fits_symbol Predicate pred (length args) ≡ true
    pub listed : IsListed symbols pred
    pub each : Every (IsTermOver symbols) args

  pub literal_apart : (l : Literal) → IsLiteralOver symbols l → IsAtomOver l.pred l.args
  literal_apart l h =
      let parts = both_true (fits_symbol Predicate l.pred (length l.args)) (all_true (map well_formed_term l.args)) h.formed in
      record { fits = parts.0; listed = every_head h.listed; each = args_apart l.args parts.1 (every_tail h.listed) }

  pub literal_over : (l : Literal) → IsAtomOver l.pred l.args → IsLiteralOver symbols l
  literal_over l h = record {
    formed = both (fits_symbol Predicate l.pred (length l.args)) (all_true (map well_formed_term l.args)) h.fits (args_formed h.each);
    listed = every_cons h.listed (args_listed h.each);
  }

  -- ---- what keeps applications

  module _ (change : Term → Term) (at_var : (n : ℕ) → IsTermOver symbols (change (Var n))) (at_app : (f : SymKey) (args : List Term) → change (App f args) ≡ App f (map change args)) (at_any : change Any ≡ Any) where
    abbrev Kept : Term → Type 0
    Kept t = IsTermOver symbols t → IsTermOver symbols (change t)

    args_kept : (args : List Term) → ForEach Kept args → Every (IsTermOver symbols) args → Every (IsTermOver symbols) (map change args)
    args_kept [] known h = every_nil
    args_kept (t ∷ args) known (every_cons w ws) = every_cons (known.0 w) (args_kept args known.1 ws)

    pub term_kept : (t : Term) → IsTermOver symbols t → IsTermOver symbols (change t)
    term_kept = term_induction Kept
        (λ n h. at_var n)
        (λ f args known h.
        let parts = app_apart f args h in
        subst Over (sym (at_app f args)) (app_over f (map change args) (record {
          fits = subst (λ n. fits_symbol Function f n ≡ true) (sym (length-map args change)) parts.fits;
          listed = parts.listed;
          each = args_kept args known parts.each;
        })))
        (λ h. subst Over (sym at_any) any_over)

    pub terms_kept : (args : List Term) → Every (IsTermOver symbols) args → Every (IsTermOver symbols) (map change args)
    terms_kept args h = args_kept args (for_each Kept term_kept args) h

    pub atom_kept : (pred : SymKey) (args : List Term) → IsAtomOver pred args → IsAtomOver pred (map change args)
    atom_kept pred args h = record {
      fits = subst (λ n. fits_symbol Predicate pred n ≡ true) (sym (length-map args change)) h.fits;
      listed = h.listed;
      each = terms_kept args h.each;
    }

  -- ---- substitutions

  module _ (s : ℕ → Term) (values : (k : ℕ) → IsTermOver symbols (s k)) where
    at_variable : (n : ℕ) → IsTermOver symbols (substituted s (Var n))
    at_variable n = subst Over (sym (substituted-Var s n)) (values n)

    pub substituted_over : (t : Term) → IsTermOver symbols t → IsTermOver symbols (substituted s t)
    substituted_over t h = term_kept (substituted s) at_variable (substituted-App s) (substituted-Any s) t h

    pub instance_over : (l : Literal) → IsLiteralOver symbols l → IsLiteralOver symbols (instance s l)
    instance_over l h =
        literal_over (instance s l) (atom_kept (substituted s) at_variable (substituted-App s) (substituted-Any s) l.pred l.args (literal_apart l h))
