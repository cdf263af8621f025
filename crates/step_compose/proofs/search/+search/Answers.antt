use Rattle.std.proofs.Common.{◌∷◌, ◌∙◌, [], ap, arith, length, length-append, subst, sym}
use Rattle.step_compose.proofs.SearchLaws.{first_found, fits_more, none_among, none_follows}
use Rattle.step_compose.specs.Searching.{Fits}
use Rattle.step_compose.proofs.search.+search.Goals as goal

pub search-returns-in-Some : goal.search-returns-in-Some
search-returns-in-Some t c =
    first_found c.args.from.now c.args.aliens.now c.args.targets.now.rows c.args.places.now c.loop-k.k c.in_ok-place.place c.in_ok-found-2.found c.in-Some.composed
    c.in_ok-place.ensures c.loop-k.invariant c.in_ok-found-2.ensures c.in-Some.is

pub search-returns : goal.search-returns
search-returns t c =
    none_among c.args.from.now c.args.aliens.now c.args.targets.now.rows c.args.arguments.now c.args.places.now c.loop-k.k c.requires.arguments c.requires.fits.short
    c.if-places-arguments.false c.loop-k-test.false c.loop-k.invariant

pub search_place-returns-then-not-can_follow : goal.search_place-returns-then-not-can_follow
search_place-returns-then-not-can_follow t c =
    none_follows c.args.from.now c.args.aliens.now c.args.targets.now.rows c.args.arguments.now c.args.places.now c.args.place c.requires.arguments
    (λ h. let a = c.can_follow.ensures.1 h in let b = c.if-not-can_follow.true in cc)

pub search_place-search-requires : goal.search_place-search-requires
search_place-search-requires t c =
    let same = c.as_slice.ensures.value ∙ c.in_ok-all.ensures in
    let one_more = ap length same ∙ length-append c.args.places.now (c.args.place ∷ []) in
    let next = c.requires.next in
    let fits = fits_more c.args.aliens.now c.args.arguments.now c.args.places.now c.args.place c.requires.fits c.requires.next c.requires.place
    (c.can_follow.ensures.0 c.if-not-can_follow.false) in (
      omega arith,
      (
        c.requires.from,
        (
          c.requires.arguments,
          (c.requires.functions, (c.requires.exactly, (c.requires.targets, (subst (Fits c.args.aliens.now c.args.arguments.now) (sym same) fits, c.requires.closed)))),
        ),
      ),
    )
