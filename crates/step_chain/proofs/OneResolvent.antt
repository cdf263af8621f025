-- From numbered clauses there is one resolvent by a link.
use Rattle.std.proofs.Common.{◌≡◌, ◌<◌, ℕ, zero, suc, Bool, true, false, List, [], ◌∷◌, ◌++◌, map, Some, slice_get, refl, sym, ap, ap₂, ◌∙◌, subst, arith}
use Rattle.std.specs.List.{All}
use Rattle.dk_syntax.proofs.ListLaws.{ForEach}
use Rattle.dk_syntax.specs.declared.Clause.{Clause}
use Rattle.dk_syntax.specs.declared.Literal.{Literal}
use Rattle.dk_syntax.specs.declared.Term.{Term}
use Rattle.normal_form.specs.ClauseLists.{clause_over, quants_of}
use Rattle.step_clause.specs.Justifications.{IsNumbered}
use Rattle.step_clause.specs.declared.justification.Justification.{Justification}
use Rattle.dk_syntax.proofs.SubstitutionLaws.{after, agree}
use Rattle.std.proofs.lemmas.Bool.{or_left, or_right}
use Rattle.dk_syntax.specs.Terms.{any_true, EachBelow, has_variable, instance, substituted}
use Rattle.step_chain.proofs.BackAndForth.{new, Returns}
use Rattle.step_chain.proofs.Items.{same_some}
use Rattle.step_chain.proofs.SameLiterals.{clause_new, each_join, length_map, LitReturns, map_join, once_each, once_new, one_place, quants_back, quants_new, terms_new, with_args}
use Rattle.step_chain.specs.Resolvents.{ArePicks, IsOnce, IsResolvent, left_over, Link, resolution_by, kept, closed_terms_over}

-- ---- numbered literals

abbrev Below : ℕ → Literal → Type 0
Below v l = EachBelow v l.args

each_below : {X : Type 0} (P : X → Type 0) (xs : List X) → All P xs → ForEach P xs
each_below P [] h = tt
each_below P (x ∷ xs) h = (h zero x (omega arith), each_below P xs (λ k d less. h (suc k) d (omega arith)))

each_rest : (P : Literal → Type 0) (lits : List Literal) (taken : List Bool) → ForEach P lits → ForEach P (kept lits taken)
each_rest P [] taken h = tt
each_rest P (l ∷ lits) [] h = tt
each_rest P (l ∷ lits) (true ∷ taken) h = each_rest P lits taken h.1
each_rest P (l ∷ lits) (false ∷ taken) h = (h.0, each_rest P lits taken h.1)

module _ (v : ℕ) (r t t' : ℕ → Term) (to : (j : ℕ) → j < v → t' j ≡ substituted r (t j)) where
  args_move : (args : List Term) → EachBelow v args → map (substituted r) (map (substituted t) args) ≡ map (substituted t') args
  args_move [] h = refl
  args_move (a ∷ args) h =
      ap₂ (λ x y. x ∷ y)
      (after r t a ∙ agree (λ k. substituted r (t k)) t' a (λ k w. sym (to k (h k (or_left (has_variable k a) (any_true (map (has_variable k) args)) w)))))
      (args_move args (λ k w. h k (or_right (has_variable k a) (any_true (map (has_variable k) args)) w)))

  lit_moves : (l : Literal) → Below v l → instance r (instance t l) ≡ instance t' l
  lit_moves l h = ap (with_args l) (args_move l.args h)

  lits_move : (lits : List Literal) → ForEach (Below v) lits → map (instance r) (map (instance t) lits) ≡ map (instance t') lits
  lits_move [] h = refl
  lits_move (l ∷ lits) h = ap₂ (λ x y. x ∷ y) (lit_moves l h.0) (lits_move lits h.1)

module _ (v : ℕ) (r b t t' : ℕ → Term) (to : (j : ℕ) → j < v → t' j ≡ substituted r (t j)) (from : (j : ℕ) → j < v → t j ≡ substituted b (t' j)) where
  lit_returns : (l : Literal) → Below v l → LitReturns r b (instance t l)
  lit_returns l h = ap (instance b) (lit_moves v r t t' to l h) ∙ lit_moves v b t' t from l h

  lits_return : (lits : List Literal) → ForEach (Below v) lits → ForEach (LitReturns r b) (map (instance t) lits)
  lits_return [] h = tt
  lits_return (l ∷ lits) h = (lit_returns l h.0, lits_return lits h.1)

  term_returns : (j : ℕ) → j < v → Returns r b (t j)
  term_returns j less = ap (substituted b) (sym (to j less)) ∙ sym (from j less)

  -- a literal that comes back stands where its image does
  back_at : (lits : List Literal) (k : ℕ) (z : Literal) → ForEach (LitReturns r b) lits → LitReturns r b z → slice_get (map (instance r) lits) k ≡ Some (instance r z) → slice_get lits k ≡ Some z
  back_at [] k z h w at = cc
  back_at (l ∷ lits) zero z h w at =
      ap Some (sym h.0 ∙ ap (instance b) (same_some (Some (instance r l)) (instance r l) (instance r z) refl at) ∙ w)
  back_at (l ∷ lits) (suc k) z h w at = back_at lits k z h.1 w at

  one_picks : {whole : List Literal} (lits : List Literal) → IsOnce [] whole lits → ForEach (LitReturns r b) lits → (clause : List Literal) (taken : List Bool) (ps qs : List ℕ) → ForEach (Below v) clause
      → ArePicks lits t clause taken ps → ArePicks (map (instance r) lits) t' clause taken qs → qs ≡ ps
  one_picks lits once ret [] taken [] [] h p q = refl
  one_picks lits once ret [] taken [] (k ∷ qs) h p q = absurd q
  one_picks lits once ret [] taken (k ∷ ps) qs h p q = absurd p
  one_picks lits once ret (l ∷ clause) taken [] qs h p q = absurd p
  one_picks lits once ret (l ∷ clause) taken (k ∷ ps) [] h p q = absurd q
  one_picks lits once ret (l ∷ clause) [] (k ∷ ps) (j ∷ qs) h p q = absurd p
  one_picks lits once ret (l ∷ clause) (true ∷ taken) (k ∷ ps) (j ∷ qs) h p q =
      ap₂ (λ x y. x ∷ y) (q.0 ∙ length_map (instance r) lits ∙ sym p.0) (one_picks lits once ret clause taken ps qs h.1 p.1 q.1)
  one_picks lits once ret (l ∷ clause) (false ∷ taken) (k ∷ ps) (j ∷ qs) h p q =
      ap₂ (λ x y. x ∷ y)
      (one_place once (instance t l) j k (back_at lits j (instance t l) ret (lit_returns l h.0) (q.0 ∙ ap Some (sym (lit_moves v r t t' to l h.0)))) p.0)
      (one_picks lits once ret clause taken ps qs h.1 p.1 q.1)

-- ---- the resolvent

pub one_resolvent : (number : ℕ) (c d : Clause) (link : Link) (m m' : Clause) (step step' : Justification) → IsNumbered c → IsNumbered d
    → IsResolvent number c d link m step → IsResolvent number c d link m' step' → (m ≡ m') × (step ≡ step')
one_resolvent number c d link m m' step step' nc nd x y =
    let there = x.general.1 y.t y.u y.general.0 in
    let back = y.general.1 x.t x.u x.general.0 in
    let r = there.0 in
    let b = back.0 in
    let below = each_below (Below c.vars) c.lits nc in
    let below' = each_below (Below d.vars) d.lits nd in
    let rest = each_rest (Below c.vars) c.lits link.taken below in
    let rest' = each_rest (Below d.vars) d.lits link.others below' in
    let ones = kept c.lits link.taken in
    let others = kept d.lits link.others in
    let ret : ForEach (LitReturns r b) (left_over c d link.taken link.others x.t x.u) =
    each_join (LitReturns r b) (map (instance x.t) ones) (map (instance x.u) others) (lits_return c.vars r b x.t y.t there.2 back.2 ones rest) (lits_return d.vars r b x.u y.u there.3 back.3 others rest') in
    let moves : map (instance r) (left_over c d link.taken link.others x.t x.u) ≡ left_over c d link.taken link.others y.t y.u =
    map_join (instance r) (map (instance x.t) ones) (map (instance x.u) others)
    ∙ ap₂ (λ p q. p ++ q) (lits_move c.vars r x.t y.t there.2 ones rest) (lits_move d.vars r x.u y.u there.3 others rest') in
    let lits_is : y.lits ≡ map (instance r) x.lits = once_new (instance r) (instance b) x.once y.lits (subst (λ z. IsOnce [] z y.lits) (sym moves) y.once) tt ret in
    let ret_x : ForEach (LitReturns r b) x.lits = once_each (LitReturns r b) x.once ret in
    let q = quants_of x.lits in
    let qb = quants_back r b x.lits ret_x in
    let quants : quants_of y.lits ≡ map (new r b) q = ap quants_of lits_is ∙ quants_new r b x.lits ret_x in
    let terms : closed_terms_over (quants_of y.lits) c.vars y.t ≡ closed_terms_over q c.vars x.t =
    ap (λ z. closed_terms_over z c.vars y.t) quants ∙ terms_new r b q qb c.vars x.t y.t there.2 (term_returns c.vars r b x.t y.t there.2 back.2) in
    let terms' : closed_terms_over (quants_of y.lits) d.vars y.u ≡ closed_terms_over q d.vars x.u =
    ap (λ z. closed_terms_over z d.vars y.u) quants ∙ terms_new r b q qb d.vars x.u y.u there.3 (term_returns d.vars r b x.u y.u there.3 back.3) in
    let picks : y.picks ≡ x.picks =
    one_picks c.vars r b x.t y.t there.2 back.2 x.lits x.once ret_x c.lits link.taken x.picks y.picks below x.picked (subst (λ z. ArePicks z y.t c.lits link.taken y.picks) lits_is y.picked) in
    let picks' : y.other_picks ≡ x.other_picks =
    one_picks d.vars r b x.u y.u there.3 back.3 x.lits x.once ret_x d.lits link.others x.other_picks y.other_picks below' x.other_picked
    (subst (λ z. ArePicks z y.u d.lits link.others y.other_picks) lits_is y.other_picked) in (
      x.clause ∙ sym (clause_new r b x.lits ret_x) ∙ ap (λ z. clause_over (quants_of z) z) (sym lits_is) ∙ sym y.clause,
      x.justified ∙ sym (y.justified
          ∙ ap₂ (λ p s. resolution_by link.sign number link.number p y.other_picks s (closed_terms_over (quants_of y.lits) d.vars y.u)) picks terms
          ∙ ap₂ (λ p s. resolution_by link.sign number link.number x.picks p (closed_terms_over q c.vars x.t) s) picks' terms'),
    )
