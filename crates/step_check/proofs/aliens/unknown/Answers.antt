use Rattle.std.proofs.Common.{◌≡◌, Bool, true, false, not, cond, List, [], ◌∷◌, ◌++◌, ap, refl, rules, sym, ◌∙◌}
use Rattle.std.specs.Prelude.{filter}
use Rattle.std.proofs.lemmas.List.Elements.{filter-append}
use Rattle.dk_syntax.specs.declared.SymKey.{SymKey}
use Rattle.step_check.specs.Steps.{stands_in}
use Rattle.step_check.proofs.aliens.unknown.Goals as goal

-- the filtered list, one symbol longer
kept_or_not : (test : SymKey → Bool) (seen : List SymKey) (x : SymKey) (old : List SymKey) → old ≡ filter test seen → old ++ cond (test x) (x ∷ []) [] ≡ filter test (seen ++ x ∷ [])
kept_or_not test seen x old h = ap (λ (l : List SymKey). l ++ cond (test x) (x ∷ []) []) h ∙ sym (filter-append test seen (x ∷ []))

nil_right : (l : List SymKey) → l ++ [] ≡ l
nil_right [] = refl
nil_right (x ∷ l) = ap (λ (r : List SymKey). x ∷ r) (nil_right l)

one_kept : (test : SymKey → Bool) (seen : List SymKey) (x : SymKey) (old new : List SymKey) → old ≡ filter test seen → test x ≡ true → new ≡ old ++ x ∷ [] → new ≡ filter test (seen ++ x ∷ [])
one_kept test seen x old new h passes made =
    made ∙ (ap (λ b. old ++ cond b (x ∷ []) []) (sym passes) ∙ kept_or_not test seen x old h)

none_kept : (test : SymKey → Bool) (seen : List SymKey) (x : SymKey) (old : List SymKey) → old ≡ filter test seen → test x ≡ false → old ≡ filter test (seen ++ x ∷ [])
none_kept test seen x old h fails =
    sym (nil_right old) ∙ (ap (λ b. old ++ cond b (x ∷ []) []) (sym fails) ∙ kept_or_not test seen x old h)

pub loop-symbol-preserved-in-Continue-1 : goal.loop-symbol-preserved-in-Continue-1
loop-symbol-preserved-in-Continue-1 c =
    one_kept (λ symbol. not (stands_in c.args.known.now.keys symbol)) c.loop-symbol.yielded c.in-Some.symbol c.loop-symbol.aliens c.push.new.self c.loop-symbol.invariant
    (ap not (sym c.is_known.ensures ∙ c.if-not-is_known.true)) (search rules)

pub loop-symbol-preserved : goal.loop-symbol-preserved
loop-symbol-preserved c =
    none_kept (λ symbol. not (stands_in c.args.known.now.keys symbol)) c.loop-symbol.yielded c.in-Some.symbol c.loop-symbol.aliens c.loop-symbol.invariant
    (ap not (sym c.is_known.ensures ∙ c.if-not-is_known.false))
