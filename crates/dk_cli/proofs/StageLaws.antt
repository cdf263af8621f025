-- Stages that follow one another: what answers them, that their answer is one, and what it can be.
use Rattle.std.proofs.Common.{◌≡◌, ◌≢◌, Ok, Err, refl, sym, ◌∙◌, ap, subst}
use Rattle.std.specs.declared.result.Result.{Result}
use Rattle.dk_cli.specs.Stages.{Answered, Continues, Follows, IsToldBy, told_by}
use Rattle.dk_cli.specs.declared.refusal.Refusal.{Refusal}
use Rattle.dk_cli.specs.declared.refusal.Refusal.TheVariants.{Memory}

-- ---- what the code finds

pub answered : {A : Type 0} (Is : Result A Refusal → Type 0) (answer : Result A Refusal) → Is answer → Answered Is answer
answered Is (Ok found) h = h
answered Is (Err Memory) h = tt
answered Is (Err refusal) h = h

-- the first stage refuses
pub stops : {A B : Type 0} (First : Result A Refusal → Type 0) (Next : A → Result B Refusal → Type 0) (first : Result A Refusal) (refusal : Refusal) (answer : Result B Refusal)
    → first ≡ Err refusal → answer ≡ Err refusal → Answered First first → Answered (Follows First Next) answer
stops {A} {B} First Next first refusal answer was is h =
    subst (Answered (Follows First Next)) (sym is) (at_refusal refusal (subst (Answered First) was h))
  where
    at_refusal : (why : Refusal) → Answered First (Err why) → Answered (Follows First Next) (Err why)
    at_refusal Memory k = tt
    at_refusal why k = (Err why, k, refl)

-- the first stage gives something, and the next one answers
pub goes_on : {A B : Type 0} (First : Result A Refusal → Type 0) (Next : A → Result B Refusal → Type 0) (first : Result A Refusal) (found : A) (answer : Result B Refusal)
    → first ≡ Ok found → Answered First first → Answered (Next found) answer → Answered (Follows First Next) answer
goes_on First Next first found answer was h k = at_answer answer (subst (Answered First) was h) k
  where
    at_answer : (end : Result _ Refusal) → First (Ok found) → Answered (Next found) end → Answered (Follows First Next) end
    at_answer (Ok given) i j = (Ok found, i, j)
    at_answer (Err Memory) i j = tt
    at_answer (Err why) i j = (Ok found, i, j)

-- ---- one answer

-- where memory does not lack, two answers are one
abbrev pub IsOne : {A F : Type 0} → F → (Result A F → Type 0) → Type 0
IsOne {A} {F} memory Is = (one other : Result A F) → Is one → Is other → one ≢ Err memory → other ≢ Err memory → one ≡ other

-- both find something, or both refuse the same
abbrev pub AreSame : {A : Type 0} → Result A Refusal → Result A Refusal → Type 0
AreSame (Ok x) (Ok y) = Unit {0}
AreSame (Ok x) (Err why) = ⊥
AreSame (Err why) (Ok y) = ⊥
AreSame (Err why) (Err another) = why ≡ another

-- where memory does not lack, a refusal is one
abbrev pub RefusesOne : {A : Type 0} → (Result A Refusal → Type 0) → Type 0
RefusesOne {A} Is = (one other : Result A Refusal) → Is one → Is other → one ≢ Err Memory → other ≢ Err Memory → AreSame one other

module _ {A F : Type 0} (tell : F → Refusal) (memory : F) (keeps : (fault : F) → fault ≡ memory → tell fault ≡ Memory) (Is : Result A F → Type 0) where
  -- a call that doesn't lack memory is told so
  definite : (found : Result A F) (answer : Result A Refusal) → answer ≡ told_by tell found → answer ≢ Err Memory → found ≢ Err memory
  definite (Ok x) answer is not e = cc
  definite (Err fault) answer is not e =
      let same : fault ≡ memory = fault_same fault e in
      not (is ∙ ap Err (keeps fault same))
    where
      fault_of : Result A F → F
      fault_of (Ok x) = memory
      fault_of (Err f) = f

      fault_same : (f : F) → (let x : Result A F = Err f in x) ≡ Err memory → f ≡ memory
      fault_same f e = ap fault_of e

  pub one_told : IsOne memory Is → IsOne Memory (IsToldBy tell Is)
  one_told unique one other (found, h, e) (another, k, d) not_one not_other =
      e ∙ ap (told_by tell) (unique found another h k (definite found one e not_one) (definite another other d not_other)) ∙ sym d

module _ {A B : Type 0} (First : Result A Refusal → Type 0) (Next : A → Result B Refusal → Type 0) where
  -- no stage before lacks memory
  first_definite : (first : Result A Refusal) (answer : Result B Refusal) → Continues Next first answer → answer ≢ Err Memory → first ≢ Err Memory
  first_definite (Ok x) answer k not e = cc
  first_definite (Err why) answer k not e = not (k ∙ ap Err (ap (why_of why) e))
    where
      why_of : Refusal → Result A Refusal → Refusal
      why_of other (Ok x) = other
      why_of other (Err r) = r

  continued : ((x : A) → First (Ok x) → IsOne Memory (Next x)) → (first : Result A Refusal) (one other : Result B Refusal) → First first
      → Continues Next first one → Continues Next first other → one ≢ Err Memory → other ≢ Err Memory → one ≡ other
  continued unique (Ok x) one other found h k not_one not_other = unique x found one other h k not_one not_other
  continued unique (Err why) one other found h k not_one not_other = h ∙ sym k

  -- the next stage's answer is one where it goes on from what the first one finds
  pub one_of_found : IsOne Memory First → ((x : A) → First (Ok x) → IsOne Memory (Next x)) → IsOne Memory (Follows First Next)
  one_of_found first_unique next_unique one other (first, h, k) (second, i, j) not_one not_other =
      let same : first ≡ second =
      first_unique first second h i (first_definite first one k not_one) (first_definite second other j not_other) in
      continued next_unique first one other h k (subst (λ x. Continues Next x other) (sym same) j) not_one not_other

  -- the same where the next stage finds several things, of which each is refused alike
  refusing_continued : ((x : A) → First (Ok x) → RefusesOne (Next x)) → (first : Result A Refusal) (one other : Result B Refusal) → First first
      → Continues Next first one → Continues Next first other → one ≢ Err Memory → other ≢ Err Memory → AreSame one other
  refusing_continued next (Ok x) one other found h k not_one not_other = next x found one other h k not_one not_other
  refusing_continued next (Err why) one other found h k not_one not_other = subst (AreSame one) (sym k) (subst (λ a. AreSame a (Err why)) (sym h) refl)

  pub refusing_of_found : IsOne Memory First → ((x : A) → First (Ok x) → RefusesOne (Next x)) → RefusesOne (Follows First Next)
  refusing_of_found first_unique next one other (first, h, k) (second, i, j) not_one not_other =
      let same : first ≡ second =
      first_unique first second h i (first_definite first one k not_one) (first_definite second other j not_other) in
      refusing_continued next first one other h k (subst (λ x. Continues Next x other) (sym same) j) not_one not_other

  -- what the next stage finds from the one or the other is one
  abbrev pub AreAlike : Type 0
  AreAlike = (x y : A) → First (Ok x) → First (Ok y) → (one other : Result B Refusal) → Next x one → Next y other → one ≢ Err Memory → other ≢ Err Memory → one ≡ other

  any_continued : AreAlike → (first second : Result A Refusal) (one other : Result B Refusal) → First first → First second → AreSame first second
      → Continues Next first one → Continues Next second other → one ≢ Err Memory → other ≢ Err Memory → one ≡ other
  any_continued each (Ok x) (Ok y) one other h i same k j not_one not_other = each x y h i one other k j not_one not_other
  any_continued each (Ok x) (Err why) one other h i same k j not_one not_other = absurd same
  any_continued each (Err why) (Ok y) one other h i same k j not_one not_other = absurd same
  any_continued each (Err why) (Err another) one other h i same k j not_one not_other = k ∙ ap Err same ∙ sym j

  -- what the first stage finds may be several things that give the next one's answer alike
  pub one_of_refusing : RefusesOne First → AreAlike → IsOne Memory (Follows First Next)
  one_of_refusing refuses each one other (first, h, k) (second, i, j) not_one not_other =
      any_continued each first second one other h i (refuses first second h i (first_definite first one k not_one) (first_definite second other j not_other)) k j not_one not_other

  pub one_of_two : IsOne Memory First → ((x : A) → IsOne Memory (Next x)) → IsOne Memory (Follows First Next)
  one_of_two first_unique next_unique = one_of_found first_unique (λ x found. next_unique x)

-- ---- what an answer can be

-- the refusal, where there is one, is of some kind
abbrev pub Only : {A : Type 0} → (Refusal → Type 0) → Result A Refusal → Type 0
Only Q (Ok found) = Unit {0}
Only Q (Err refusal) = Q refusal

pub only_follows : {A B : Type 0} (Q : Refusal → Type 0) (First : Result A Refusal → Type 0) (Next : A → Result B Refusal → Type 0)
    → ((first : Result A Refusal) → First first → Only Q first) → ((x : A) (answer : Result B Refusal) → Next x answer → Only Q answer)
    → (answer : Result B Refusal) → Follows First Next answer → Only Q answer
only_follows Q First Next one two answer (Ok x, h, k) = two x answer k
only_follows Q First Next one two answer (Err why, h, k) = subst (Only Q) (sym k) (one (Err why) h)

pub only_told : {A F : Type 0} (Q : Refusal → Type 0) (tell : F → Refusal) (Is : Result A F → Type 0) → ((fault : F) → Q (tell fault))
    → (answer : Result A Refusal) → IsToldBy tell Is answer → Only Q answer
only_told Q tell Is each answer (Ok x, h, e) = subst (Only Q) (sym e) tt
only_told Q tell Is each answer (Err fault, h, e) = subst (Only Q) (sym e) (each fault)

-- ---- what was found where nothing is refused

pub follows_found : {A B : Type 0} (First : Result A Refusal → Type 0) (Next : A → Result B Refusal → Type 0) (given : B)
    → Follows First Next (Ok given) → (x : A) × First (Ok x) × Next x (Ok given)
follows_found First Next given (Ok x, h, k) = (x, h, k)
follows_found First Next given (Err why, h, k) = absurd cc

pub found_same : {A F : Type 0} (x y : A) → (let r : Result A F = Ok x in r) ≡ Ok y → x ≡ y
found_same {A} {F} x y e = ap found_of e
  where
    found_of : Result A F → A
    found_of (Ok z) = z
    found_of (Err f) = x

pub told_found : {A F : Type 0} (tell : F → Refusal) (Is : Result A F → Type 0) (x : A) → IsToldBy tell Is (Ok x) → Is (Ok x)
told_found tell Is x (Ok y, h, e) = subst (λ z. Is (Ok z)) (sym (found_same x y e)) h
told_found tell Is x (Err fault, h, e) = absurd cc
