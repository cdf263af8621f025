use Rattle.std.proofs.Common.{◌≡◌, ◌<◌, ◌+◌, ◌*◌, ◌∷◌, Some, refl, ap, sym, ◌∙◌, arith, subst, length, true, map, get_or, slice_get, ◌≤◌}
use Rattle.std.proofs.lemmas.Grind.{common_steps}
use Rattle.std.proofs.lemmas.Option.{slice_get_read}
use Rattle.dk_syntax.specs.Terms.{EachBelow, substituted}
use Rattle.step_clause.specs.Justifications.{LiteralsBelow}
use Rattle.unifier.specs.Outcomes.{Outcome}
use Rattle.step_clause.proofs.Choices.{below_first, below_rest, below_item, below_after, atoms_found, after_signs, first_found, none_more, none_at_literal, pivot_first, pivot_again, at_some, at_pivot}
use Rattle.step_clause.proofs.SymbolLaws.{none_allowed_after, none_comes}
use Rattle.step_clause.specs.Search.{FitsAfter, IsFound, PivotsBelow, SlotsBelow}
use Rattle.step_clause.proofs.search.+search.Goals as goal

pub search-search_literals-requires : goal.search-search_literals-requires
search-search_literals-requires t c =
    let h = c.in-Some.ensures.cases in
    let a = c.decreases in
    let m : 4 * length c.in-Some.rest.now + 3 < 4 * length c.args.slots.now = omega arith in (
      omega arith,
      (
        c.requires.sound,
        (
          c.requires.below_target,
          (
            c.requires.below_pivots,
            (
              below_first _ c.args.slots.now c.in-Some.slot.now c.in-Some.rest.now h.0 c.requires.below_slots,
              below_rest _ c.args.slots.now c.in-Some.slot.now c.in-Some.rest.now h.0 c.requires.below_slots,
            ),
          ),
        ),
      ),
    )

pub search-search_pivot-requires : goal.search-search_pivot-requires
search-search_pivot-requires t c =
    let h = c.in-Some.ensures.cases in
    let a = c.decreases in
    let m : 4 * length c.in-Some.rest.now + 2 < 4 * length c.args.slots.now = omega arith in (
      omega arith,
      (
        c.requires.sound,
        (
          c.requires.below_target,
          (
            c.requires.below_pivots,
            (
              below_first _ c.args.slots.now c.in-Some.slot.now c.in-Some.rest.now h.0 c.requires.below_slots,
              below_rest _ c.args.slots.now c.in-Some.slot.now c.in-Some.rest.now h.0 c.requires.below_slots,
            ),
          ),
        ),
      ),
    )

pub search-returns-then-not-pivots_may_come : goal.search-returns-then-not-pivots_may_come
search-returns-then-not-pivots_may_come t c =
    none_comes c.args.target.now.vars c.args.target.now.lits c.args.pivots.now c.args.slots.now c.args.s.now.terms
    (λ h. let a = c.pivots_may_come.ensures.1 h in let b = c.if-not-pivots_may_come.true in cc)

pub search-returns-in-Some-found : goal.search-returns-in-Some-found
search-returns-in-Some-found t c =
    at_some c.args.target.now.vars c.args.target.now.lits c.args.pivots.now c.args.slots.now c.in-Some.slot.now c.in-Some.rest.now c.args.s.now.terms
    c.in_ok-found-in-Some.found c.in-Some-found.f c.in-Some.ensures.cases.0 c.in-Some-found.is c.in_ok-found-in-Some.ensures

pub search-returns-in_ok-all-in-Some-cut : goal.search-returns-in_ok-all-in-Some-cut
search-returns-in_ok-all-in-Some-cut t c =
    at_pivot c.args.target.now.vars c.args.target.now.lits c.args.pivots.now c.args.slots.now c.in-Some.slot.now c.in-Some.rest.now c.args.s.now.terms
    c.in_ok-found-in-Some.found c.in_ok-cut-in-None-found.cut c.in-Some-cut.g c.in_ok-all-in-Some-cut.all
    c.in-Some.ensures.cases.0 c.in-None-found.is c.in-Some-cut.is
    (c.in_ok-all-in-Some-cut.ensures.picks ∙ ap (λ z. z ∷ c.in-Some-cut.g.picks) c.len.ensures) c.in_ok-all-in-Some-cut.ensures.bindings
    c.in_ok-found-in-Some.ensures c.in_ok-cut-in-None-found.ensures

pub search_atom-extend_terms-requires-clause-below_xs : goal.search_atom-extend_terms-requires-clause-below_xs
search_atom-extend_terms-requires-clause-below_xs t c =
    subst (λ z. EachBelow (length c.in_ok-tried.tried.terms) z) (sym c.as_slice.ensures)
    (subst (λ z. EachBelow (length z) c.args.c.now.args) (sym c.in_ok-tried.ensures) c.requires.below_c)

pub search_atom-extend_terms-requires-clause-below_ys : goal.search_atom-extend_terms-requires-clause-below_ys
search_atom-extend_terms-requires-clause-below_ys t c =
    subst (λ z. EachBelow (length c.in_ok-tried.tried.terms) z) (sym c.as_slice-2.ensures)
    (subst (λ z. EachBelow (length z) c.args.d.now.args) (sym c.in_ok-tried.ensures) c.requires.below_d)

pub search_atom-search-requires : goal.search_atom-search-requires
search_atom-search-requires t c =
    let a = c.decreases in
    let o : Outcome c.args.target.now.vars (λ r. map (substituted r) c.as_slice.result.now ≡ map (substituted r) c.as_slice-2.result.now) c.in_ok-tried.tried.terms c.extend_terms.new.bindings.terms true =
    subst (λ w. Outcome c.args.target.now.vars (λ r. map (substituted r) c.as_slice.result.now ≡ map (substituted r) c.as_slice-2.result.now) c.in_ok-tried.tried.terms c.extend_terms.new.bindings.terms w) c.if-not-same-2.false c.in_ok-same.ensures in
    let e : length c.args.s.now.terms ≡ length c.extend_terms.new.bindings.terms = ap length (sym c.in_ok-tried.ensures) ∙ sym o.0 in (
      omega arith,
      (
        o.1,
        (
          subst (λ n. LiteralsBelow n c.args.target.now.lits) e c.requires.below_target,
          (
            subst (λ n. PivotsBelow n c.args.pivots.now.first) e c.requires.below_pivots,
            subst (λ n. SlotsBelow n c.args.rest.now) e c.requires.below_rest,
          ),
        ),
      ),
    )

pub search_atom-returns : goal.search_atom-returns
search_atom-returns t c =
    atoms_found c.args.target.now.vars c.args.target.now.lits c.args.pivots.now c.args.c.now c.args.d.now c.args.rest.now c.args.s.now.terms c.in_ok-tried.tried.terms c.extend_terms.new.bindings.terms
    c.as_slice.result.now c.as_slice-2.result.now c.in_ok-found.found (grind (arith, common_steps, c.same.ensures)) c.in_ok-tried.ensures c.as_slice.ensures c.as_slice-2.ensures
    (subst (λ w. Outcome c.args.target.now.vars (λ r. map (substituted r) c.as_slice.result.now ≡ map (substituted r) c.as_slice-2.result.now) c.in_ok-tried.tried.terms c.extend_terms.new.bindings.terms w) c.if-not-same-2.false c.in_ok-same.ensures)
    c.in_ok-found.ensures

pub search_literal-returns : goal.search_literal-returns
search_literal-returns t c =
    after_signs c.args.target.now.vars c.args.target.now.lits c.args.pivots.now c.args.c.now c.args.d.now c.args.rest.now c.args.s.now.terms c.in_ok-found.found
    (grind (arith, common_steps)) c.in_ok-found.ensures

pub search_literals-search_literal-requires : goal.search_literals-search_literal-requires
search_literals-search_literal-requires t c =
    let a = c.decreases in (
      omega arith,
      (
        c.requires.sound,
        (
          c.requires.below_target,
          (
            c.requires.below_pivots,
            (
              c.requires.below_slot,
              (
                below_item _ c.args.target.now.lits c.loop-p.p c.index-ds-p.result (c.index-ds-p.is ∙ ap (λ z. get_or z c.loop-p.p c.index-ds-p.result) c.as_slice-ds.ensures)
                    (subst (λ z. c.loop-p.p < length z) c.as_slice-ds.ensures c.loop-p-test.true) c.requires.below_target,
                c.requires.below_rest,
              ),
            ),
          ),
        ),
      ),
    )

pub search_literals-returns-in-Some : goal.search_literals-returns-in-Some
search_literals-returns-in-Some t c =
    first_found c.args.target.now.vars c.args.target.now.lits c.args.pivots.now c.args.slot.now c.args.rest.now c.args.s.now.terms
    c.loop-p.p c.index-ds-p.result c.in-Some.f c.in_ok-all.all c.in_ok-all.ensures.picks c.in_ok-all.ensures.bindings
    (subst (λ z. slice_get z c.loop-p.p ≡ Some c.index-ds-p.result) c.as_slice-ds.ensures
    (slice_get_read c.as_slice-ds.result.now (length c.as_slice-ds.result.now) c.loop-p.p c.index-ds-p.result refl c.loop-p-test.true c.index-ds-p.is))
    c.loop-p.invariant
    (subst (IsFound c.args.target.now.vars (FitsAfter c.args.target.now.lits c.args.pivots.now c.args.slot.now.literal c.index-ds-p.result c.args.rest.now) c.args.s.now.terms) c.in-Some.is c.in_ok-found.ensures)

pub search_literals-loop-p-preserved : goal.search_literals-loop-p-preserved
search_literals-loop-p-preserved t c =
    none_more c.args.target.now.vars c.args.target.now.lits c.args.pivots.now c.args.slot.now c.args.rest.now c.args.s.now.terms
    c.loop-p.p c.index-ds-p.result
    (subst (λ z. slice_get z c.loop-p.p ≡ Some c.index-ds-p.result) c.as_slice-ds.ensures
    (slice_get_read c.as_slice-ds.result.now (length c.as_slice-ds.result.now) c.loop-p.p c.index-ds-p.result refl c.loop-p-test.true c.index-ds-p.is))
    c.loop-p.invariant
    (subst (IsFound c.args.target.now.vars (FitsAfter c.args.target.now.lits c.args.pivots.now c.args.slot.now.literal c.index-ds-p.result c.args.rest.now) c.args.s.now.terms) c.in_default.is c.in_ok-found.ensures)

pub search_literals-returns : goal.search_literals-returns
search_literals-returns t c =
    none_at_literal c.args.target.now.vars c.args.target.now.lits c.args.pivots.now c.args.slot.now c.args.rest.now c.args.s.now.terms
    c.loop-p.p (subst (λ z. length z ≤ c.loop-p.p) c.as_slice-ds.ensures c.loop-p-test.false) c.loop-p.invariant

pub search_pivot-returns-in-Some : goal.search_pivot-returns-in-Some
search_pivot-returns-in-Some t c =
    pivot_again c.args.target.now.vars c.args.target.now.lits c.args.pivots.now c.in_ok-next.next c.args.slot.now c.in-Some.first c.args.rest.now c.args.s.now.terms c.in_ok-found-in-Some.found
    c.if-not-slot.false c.in-Some.is c.in_ok-next.ensures c.in_ok-found-in-Some.ensures

pub search_pivot-returns-then-not-may_fit : goal.search_pivot-returns-then-not-may_fit
search_pivot-returns-then-not-may_fit t c =
    none_allowed_after c.args.target.now.vars c.args.target.now.lits c.args.pivots.now c.in_ok-next.next c.args.slot.now c.args.rest.now c.args.s.now.terms c.in_ok-next.ensures
    (λ h. let a = c.may_fit.ensures.1 h in let b = c.if-not-may_fit.true in cc)

pub search_pivot-search-requires : goal.search_pivot-search-requires
search_pivot-search-requires t c =
    let a = c.decreases in (
      omega arith,
      (
        c.requires.sound,
        (
          c.requires.below_target,
          (
            subst (λ z. PivotsBelow (length c.args.s.now.terms) z.first) (sym c.in_ok-next.ensures) (below_after _ c.args.pivots.now c.args.slot.now.literal c.requires.below_pivots c.requires.below_slot),
            c.requires.below_rest,
          ),
        ),
      ),
    )

pub search_pivot-returns : goal.search_pivot-returns
search_pivot-returns t c =
    pivot_first c.args.target.now.vars c.args.target.now.lits c.args.pivots.now c.in_ok-next.next c.args.slot.now c.args.rest.now c.args.s.now.terms c.in_ok-found-in-None.found
    c.if-not-slot.false c.in-None.is c.in_ok-next.ensures c.in_ok-found-in-None.ensures
