use Rattle.std.proofs.Common.{◌≡◌, ◌+◌, ℕ, List, [], ◌∷◌, length, reverse, sym, ap, ◌∙◌, subst, arith, length-append}
use Rattle.std.proofs.lemmas.List.{length-reverse}
use Rattle.step_check.proofs.Climbs.{ends_push, grow_on, hang_on, parent_stands, path_short, reversed_push}
use Rattle.step_check.specs.Notes.{case_given, EndsIn, IsPath}
use Rattle.step_check.proofs.climbing.climb.Goals as goal

pub returns-in-None-clause-path : goal.returns-in-None-clause-path
returns-in-None-clause-path c =
    let case = case_given c.args.given.now in let path = c.loop.invariant.path in
    subst (λ (l : List ℕ). IsPath case c.open.new.forms c.args.images.now l) (sym path.1) (
      record { stands = c.loop.invariant.stands; opened = c.in_ok-open.ensures.opened; parent = c.in-None.ensures },
      hang_on case c.loop.forms c.open.new.forms c.loop.step path.0 c.in_ok-open.ensures.grown path.2,
    )

pub loop-preserved : goal.loop-preserved
loop-preserved c =
    let case = case_given c.args.given.now in let path = c.loop.invariant.path in let forms = c.open.new.forms in
    let step = c.loop.step in let parent = c.in-Some.parent in let opened = c.in_ok-open.ensures in
    let turned = reversed_push c.loop.path.items c.push-in-Some.new.self.items parent c.in_ok-push-in-Some.ensures.items in record {
      right = opened.right;
      grown = grow_on c.args.forms.now c.loop.forms forms c.loop.invariant.grown opened.grown;
      stands = parent_stands case forms step parent c.requires.sound opened.right c.in-Some.ensures;
      path = (
        step ∷ path.0,
        turned ∙ ap (λ (l : List ℕ). parent ∷ l) path.1,
        (record { stands = c.loop.invariant.stands; opened = opened.opened; hangs = c.in-Some.ensures }, hang_on case c.loop.forms forms step path.0 opened.grown path.2),
      );
      ends = subst (λ (l : List ℕ). EndsIn l c.args.number) (sym turned) (ends_push c.loop.path.items step parent c.args.number path.0 path.1 c.loop.invariant.ends);
      long = ap length c.in_ok-push-in-Some.ensures.items ∙ (length-append c.loop.path.items (parent ∷ []) ∙ ap (λ n. n + 1) c.loop.invariant.long);
    }

pub unreachable-requires : goal.unreachable-requires
unreachable-requires c =
    let case = case_given c.args.given.now in let path = c.loop.invariant.path in
    let short = path_short case c.loop.forms c.requires.sound c.loop.invariant.right c.loop.step path.0 c.loop.invariant.stands path.2 in
    let same : length c.loop.path.items ≡ length (c.loop.step ∷ path.0) = sym (length-reverse c.loop.path.items) ∙ ap length path.1 in
    let long = c.loop.invariant.long in let past = c.loop-test.false in omega arith
