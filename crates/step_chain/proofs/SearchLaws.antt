-- The steps of the search for the least chain.
use Rattle.std.proofs.Common.{◌≡◌, ℕ, zero, suc, ◌+◌, nat_eq, Bool, true, false, not, List, [], ◌∷◌, ◌++◌, map, take, drop, length, Option, Some, None, slice_get, refl, sym, ap, ap₂, ◌∙◌, subst, arith}
use Rattle.std.proofs.lemmas.Bool.{eq-eqb, eqb-true}
use Rattle.dk_syntax.specs.Symbols.{joined}
use Rattle.dk_syntax.specs.declared.Clause.{Clause}
use Rattle.normal_form.specs.declared.ClauseList.{ClauseList}
use Rattle.step_clause.specs.Candidates.{IsListBefore}
use Rattle.step_clause.specs.Justifications.{AreNumbered, IsJustification, IsNumbered, IsNumberedList}
use Rattle.step_clause.specs.declared.justification.Justification.{Justification}
use Rattle.step_chain.proofs.LeastLaws.{least_along}
use Rattle.step_chain.proofs.LinkKeys.{taken_long}
use Rattle.step_chain.proofs.Numbered.{over_numbered}
use Rattle.step_chain.proofs.OneResolvent.{one_resolvent}
use Rattle.step_chain.proofs.PairLaws.{back, beside, front, unified_at}
use Rattle.step_chain.proofs.Resolved.{slots_long}
use Rattle.step_chain.proofs.Taking.{chosen_at, chosen_prefix}
use Rattle.step_chain.specs.Chains.{alone, bit, IsContinuation, ends, goes, IsChain, IsChainAnswer, link_key, Way, way_key}
use Rattle.step_chain.specs.Pairs.{AreChosen, IsTaken, pair_of, slots_of_both}
use Rattle.step_chain.specs.Resolvents.{AreUnified, IsResolvent, Link, signed}
use Rattle.step_chain.specs.Resolving.{IsPair, IsResolventOf, link_of}
use Rattle.step_chain.specs.Search.{ByNumber, chain_with, HasBranchOf, HasChoice, HasContinuation, HasLink, HasSignedLink, IsLeastOf, link_with}
use Rattle.step_chain.specs.declared.chain.Chain.{Chain}
use Rattle.step_chain.specs.declared.pair.Pair.{Pair}
use Rattle.step_chain.specs.declared.resolvent.Resolvent.{Resolvent}

-- ---- the last list

no_rest : (target : Clause) (number : ℕ) (middle : Clause) (links : List Link) (mids : List Clause) (steps : List Justification) → IsContinuation target number middle [] links mids steps → ⊥
no_rest target number middle links mids steps h = elim h [ ]

pub nothing_left : (target : Clause) (number : ℕ) (middle : Clause) → IsLeastOf (HasContinuation target number middle []) None
nothing_left target number middle key chain h = no_rest target number middle h.0 chain.mids chain.steps h.2

last_is : (target : Clause) (number : ℕ) (middle : Clause) (last : ClauseList) (links : List Link) (mids : List Clause) (steps : List Justification) → IsContinuation target number middle (last ∷ []) links mids steps
    → (step : Justification) × IsJustification target (alone middle ∷ last ∷ []) (Some step)
last_is target number middle last _ _ _ (ends _ _ _ step is) = (step, is)
last_is target number middle last _ _ _ (goes _ _ _ _ link links row resolvent mids step steps at is more) = elim more [ ]

pub last_none : (target middle : Clause) (last : ClauseList) → ((other : Option Justification) → IsJustification target (alone middle ∷ last ∷ []) other → other ≡ None)
    → (number : ℕ) → IsLeastOf (HasContinuation target number middle (last ∷ [])) None
last_none target middle last one number key chain h = let w = last_is target number middle last h.0 chain.mids chain.steps h.2 in let e = one (Some w.0) w.1 in cc

pub last_some : (target middle : Clause) (last : ClauseList) (step : Justification) (chain : Chain) → chain ≡ chain_with [] (step ∷ []) → IsJustification target (alone middle ∷ last ∷ []) (Some step)
    → (number : ℕ) → IsLeastOf (HasContinuation target number middle (last ∷ [])) (Some chain)
last_some target middle last step chain e is number = (
  [],
  ([], refl, subst (λ z. IsContinuation target number middle (last ∷ []) [] z.mids z.steps) (sym e) (ends number middle last step is)),
  nothing_before,
)
  where
    nothing_before : (other : List ℕ) (that : Chain) → HasContinuation target number middle (last ∷ []) other that → IsListBefore other [] → ⊥
    nothing_before [] that h before = before
    nothing_before (n ∷ other) that h before = before

-- ---- a list that is not the last

module _ (target : Clause) (number : ℕ) (middle : Clause) (next second : ClauseList) (later : List ClauseList) where
  abbrev Rows : List ℕ → Chain → Type 0
  Rows = ByNumber (λ other row. HasLink target (second ∷ later) number middle other row.clause) next.rows

  bits_join : (taken others : List Bool) (ns : List ℕ) → (map bit taken ++ map bit others) ++ ns ≡ map bit (taken ++ others) ++ ns
  bits_join [] others ns = refl
  bits_join (b ∷ taken) others ns = ap (λ z. bit b ∷ z) (bits_join taken others ns)

  bits_size : (taken others : List Bool) → length (taken ++ others) ≡ length taken + length others
  bits_size [] others = omega arith
  bits_size (b ∷ taken) others = let e = bits_size taken others in omega arith

  not_not : (b : Bool) → b ≡ not (not b)
  not_not true = refl
  not_not false = refl

  goes_there : (links : List Link) (mids : List Clause) (steps : List Justification) → IsContinuation target number middle (next ∷ second ∷ later) links mids steps → Rows (joined (map link_key links)) (chain_with mids steps)
  goes_there _ _ _ (goes _ _ _ _ link links row resolvent mids step steps at is more) = (
    row,
    at,
    (
      not link.sign,
      refl,
      subst (λ sign. HasSignedLink target (second ∷ later) number middle link.number row.clause sign ((map bit link.taken ++ map bit link.others) ++ joined (map link_key links)) (chain_with (resolvent ∷ mids) (step ∷ steps)))
          (not_not link.sign) (record {
            more = link.taken ++ link.others;
            rest = joined (map link_key links);
            whole = bits_join link.taken link.others (joined (map link_key links));
            all = sizes link row.clause is.t is.u is.general.0;
            holds = record {
              taken = link.taken;
              others = link.others;
              whole = refl;
              resolvent = resolvent;
              step = step;
              resolved = is;
              mids = mids;
              steps = steps;
              is = refl;
              continues = (links, refl, more);
            };
          }),
    ),
  )
    where
      sizes : (link : Link) (other : Clause) (t u : ℕ → _) → AreUnified link.sign middle other link.taken link.others t u → 0 + length (link.taken ++ link.others) ≡ length middle.lits + length other.lits
      sizes link other t u h =
          let a = taken_long t (signed link.sign h.0 h.1) middle.lits link.taken h.2 in
          let b = taken_long u (signed (not link.sign) h.0 h.1) other.lits link.others h.3 in
          let c = bits_size link.taken link.others in omega arith

  rows_there : (key : List ℕ) (chain : Chain) → HasContinuation target number middle (next ∷ second ∷ later) key chain → Rows key chain
  rows_there key chain h = subst (λ z. Rows z chain) (sym h.1) (goes_there h.0 chain.mids chain.steps h.2)

  rows_back : (key : List ℕ) (chain : Chain) → Rows key chain → HasContinuation target number middle (next ∷ second ∷ later) key chain
  rows_back [] chain h = absurd h
  rows_back (n ∷ []) chain h = absurd h.2
  rows_back (n ∷ m ∷ key) chain (row, at, (b, e, h)) =
      let it = h.holds in
      let link = link_with n (not b) it.taken it.others in (
        link ∷ it.continues.0,
        ap (λ z. n ∷ z) (ap₂ (λ x y. x ∷ y) (e ∙ ap bit (not_not b))
            (h.whole ∙ ap (λ z. map bit z ++ h.rest) it.whole ∙ sym (bits_join it.taken it.others h.rest) ∙ ap (λ z. (map bit it.taken ++ map bit it.others) ++ z) it.continues.1)),
        subst (λ z. IsContinuation target number middle (next ∷ second ∷ later) (link ∷ it.continues.0) z.mids z.steps) (sym it.is)
            (goes number middle next (second ∷ later) link it.continues.0 row it.resolvent it.mids it.step it.steps at it.resolved it.continues.2),
      )

  pub by_rows : (answer : Option Chain) → IsLeastOf Rows answer → IsLeastOf (HasContinuation target number middle (next ∷ second ∷ later)) answer
  by_rows answer h = least_along Rows (HasContinuation target number middle (next ∷ second ∷ later)) answer rows_back rows_there h

pub empty_is : (later : List ClauseList) (b : Bool) → b ≡ nat_eq (length later) 0 → b ≡ true → later ≡ []
empty_is [] b e t = refl
empty_is (x ∷ later) b e t = let w : suc (length later) ≡ 0 = eqb-true (suc (length later)) 0 (sym e ∙ t) in absurd (omega arith)

pub at_last : (target : Clause) (number : ℕ) (middle : Clause) (rest : List ClauseList) (next : ClauseList) (later : List ClauseList) (answer : Option Chain) → rest ≡ next ∷ later → later ≡ []
    → IsLeastOf (HasContinuation target number middle (next ∷ [])) answer → IsLeastOf (HasContinuation target number middle rest) answer
at_last target number middle rest next later answer e none h = subst (λ z. IsLeastOf (HasContinuation target number middle z) answer) (sym (e ∙ ap (λ z. next ∷ z) none)) h

pub at_rows : (target : Clause) (number : ℕ) (middle : Clause) (rest : List ClauseList) (next : ClauseList) (later : List ClauseList) (answer : Option Chain) (b : Bool) → rest ≡ next ∷ later → b ≡ nat_eq (length later) 0 → b ≡ false
    → IsLeastOf (ByNumber (λ other row. HasLink target later number middle other row.clause) next.rows) answer → IsLeastOf (HasContinuation target number middle rest) answer
at_rows target number middle rest next [] answer b e is t h = absurd (let w : true ≡ false = sym (eq-eqb 0 0 refl) ∙ sym is ∙ t in cc)
at_rows target number middle rest next (second ∷ later) answer b e is t h =
    subst (λ z. IsLeastOf (HasContinuation target number middle z) answer) (sym e) (by_rows target number middle next second later answer h)

alone_numbered : (middle : Clause) → IsNumbered middle → IsNumberedList (alone middle)
alone_numbered middle n zero d less = n
alone_numbered middle n (suc k) d less = absurd (omega arith)

pub pair_numbered : (middle : Clause) (last : ClauseList) → IsNumbered middle → IsNumberedList last → AreNumbered (alone middle ∷ last ∷ [])
pair_numbered middle last n n' zero d less = alone_numbered middle n
pair_numbered middle last n n' (suc zero) d less = n'
pair_numbered middle last n n' (suc (suc k)) d less = absurd (omega arith)

pub sign_found : (target : Clause) (later : List ClauseList) (number : ℕ) (first : Clause) (other : ℕ) (second : Clause) (sign : Bool) (pair : Pair) (taken : List Bool) (answer : Option Chain)
    → pair ≡ pair_of number first other second sign → taken ≡ [] → IsLeastOf (HasChoice (HasBranchOf target later first second pair) (length pair.slots) taken) answer
    → IsLeastOf (HasSignedLink target later number first other second sign) answer
sign_found target later number first other second sign pair taken answer e none h =
    let size = slots_long first second pair (subst (IsPair first second) (sym e) refl) in
    let a = subst (λ z. IsLeastOf (HasChoice (HasBranchOf target later first second pair) z taken) answer) size h in
    let b = subst (λ z. IsLeastOf (HasChoice (HasBranchOf target later first second pair) (length first.lits + length second.lits) z) answer) none a in
    subst (λ z. IsLeastOf (HasChoice (HasBranchOf target later first second z) (length first.lits + length second.lits) []) answer) e b

-- ---- one resolvent

module _ (target first second : Clause) (later : List ClauseList) (pair : Pair) (bits : List Bool) where
  pub branch_none : IsResolventOf first second pair bits None → IsLeastOf (HasBranchOf target later first second pair bits) None
  branch_none none key chain h = none h.taken h.others h.whole h.resolved.t h.resolved.u h.resolved.general.0

  same_link : (taken others taken' others' : List Bool) → bits ≡ taken ++ others → bits ≡ taken' ++ others' → length taken ≡ length first.lits → length taken' ≡ length first.lits
      → link_with pair.other pair.sign taken' others' ≡ link_with pair.other pair.sign taken others
  same_link taken others taken' others' e e' long long' =
      ap₂ (link_with pair.other pair.sign)
      (sym (front taken' others' (length first.lits) long') ∙ ap (take (length first.lits)) (sym e' ∙ e) ∙ front taken others (length first.lits) long)
      (sym (back taken' others' (length first.lits) long') ∙ ap (drop (length first.lits)) (sym e' ∙ e) ∙ back taken others (length first.lits) long)

  same_resolvent : (it : Resolvent) → IsNumbered first → IsNumbered second → (is : IsResolventOf first second pair bits (Some it)) → (key : List ℕ) (chain : Chain) → (h : HasBranchOf target later first second pair bits key chain)
      → (h.resolvent ≡ it.clause) × (h.step ≡ it.step)
  same_resolvent it n n' is key chain h =
      let w = is.3 in
      let long = taken_long w.t (signed pair.sign w.general.0.0 w.general.0.1) first.lits is.0 w.general.0.2 in
      let long' = taken_long h.resolved.t (signed pair.sign h.resolved.general.0.0 h.resolved.general.0.1) first.lits h.taken h.resolved.general.0.2 in
      let e = same_link is.0 is.1 h.taken h.others is.2 h.whole long long' in
      one_resolvent pair.number first second (link_of pair is.0 is.1) h.resolvent it.clause h.step it.step n n'
      (subst (λ z. IsResolvent pair.number first second z h.resolvent h.step) e h.resolved) w

  pub branch_nothing : (it : Resolvent) → IsNumbered first → IsNumbered second → IsResolventOf first second pair bits (Some it) → IsLeastOf (HasContinuation target 0 it.clause later) None → IsLeastOf (HasBranchOf target later first second pair bits) None
  branch_nothing it n n' is none key chain h =
      none key (chain_with h.mids h.steps) (subst (λ z. HasContinuation target 0 z later key (chain_with h.mids h.steps)) (same_resolvent it n n' is key chain h).0 h.continues)

  pub branch_some : (it : Resolvent) (chain all : Chain) → IsNumbered first → IsNumbered second → IsResolventOf first second pair bits (Some it) → IsLeastOf (HasContinuation target 0 it.clause later) (Some chain)
      → all ≡ chain_with (it.clause ∷ chain.mids) (it.step ∷ chain.steps) → IsLeastOf (HasBranchOf target later first second pair bits) (Some all)
  branch_some it chain all n n' is least e = (
    least.0,
    record {
      taken = is.0;
      others = is.1;
      whole = is.2;
      resolvent = it.clause;
      step = it.step;
      resolved = is.3;
      mids = chain.mids;
      steps = chain.steps;
      is = e;
      continues = least.1;
    },
    λ other that h before. least.2 other (chain_with h.mids h.steps) (subst (λ z. HasContinuation target 0 z later other (chain_with h.mids h.steps)) (same_resolvent it n n' is other that h).0 h.continues) before,
  )

  -- where the next literal can't be taken, nothing goes on by taking it
  pub take_none : IsNumbered first → IsNumbered second → IsPair first second pair → IsTaken pair.slots bits None → (size : ℕ) → IsLeastOf (HasChoice (HasBranchOf target later first second pair) size (bits ++ true ∷ [])) None
  take_none n n' is none size key chain h =
      let it = h.holds in
      let g = it.resolved.general.0 in
      let long = taken_long it.resolved.t (signed pair.sign g.0 g.1) first.lits it.taken g.2 in
      let at = unified_at first second pair.sign it.taken it.others it.resolved.t it.resolved.u n n' g long in
      let r = beside first.vars it.resolved.t it.resolved.u in
      let slots = slots_of_both first second pair.sign in
      let all : AreChosen slots ((bits ++ true ∷ []) ++ h.more) r =
      subst (λ z. AreChosen slots z r) (sym it.whole) (chosen_at r slots g.0 g.1 (it.taken ++ it.others) at) in
      none r (subst (λ z. AreChosen z (bits ++ true ∷ []) r) (sym is) (chosen_prefix r slots (bits ++ true ∷ []) h.more all))

pub resolvent_numbered : (first second : Clause) (pair : Pair) (bits : List Bool) (it : Resolvent) → IsResolventOf first second pair bits (Some it) → IsNumbered it.clause
resolvent_numbered first second pair bits it is = subst IsNumbered (sym is.3.clause) (over_numbered is.3.lits)

-- ---- all parents

module _ (target : Clause) (first : ClauseList) (rest : List ClauseList) where
  abbrev pub Starts : List ℕ → Chain → Type 0
  Starts = ByNumber (λ start row. HasContinuation target start row.clause rest) first.rows

  first_is : (a b : ClauseList) (xs ys : List ClauseList) → a ∷ xs ≡ b ∷ ys → (b ≡ a) × (ys ≡ xs)
  first_is a b xs ys h = (cc, cc)

  start_of : (way : Way) (chain : Chain) → IsChain target (first ∷ rest) way chain → Starts (way_key way) chain
  start_of way chain h =
      let e = first_is first h.first rest h.rest h.whole in (
        h.row,
        subst (λ z. slice_get z.rows way.start ≡ Some h.row) e.0 h.at,
        (way.links, refl, subst (λ z. IsContinuation target way.start h.row.clause z way.links chain.mids chain.steps) e.1 h.continues),
      )

  chain_of_start : (key : List ℕ) (chain : Chain) → Starts key chain → (way : Way) × (way_key way ≡ key) × IsChain target (first ∷ rest) way chain
  chain_of_start [] chain h = absurd h
  chain_of_start (n ∷ key) chain (row, at, (links, e, h)) = (
    record { start = n; links = links },
    ap (λ z. n ∷ z) (sym e),
    record { first = first; rest = rest; whole = refl; row = row; at = at; continues = h },
  )

  pub by_starts : (answer : Option Chain) → IsLeastOf Starts answer → IsChainAnswer target (first ∷ rest) answer
  by_starts None h = λ way chain is. h (way_key way) chain (start_of way chain is)
  by_starts (Some chain) h =
      let w = chain_of_start h.0 chain h.1 in
      (w.0, w.2, λ other that is before. h.2 (way_key other) that (start_of other that is) (subst (IsListBefore (way_key other)) w.1 before))
