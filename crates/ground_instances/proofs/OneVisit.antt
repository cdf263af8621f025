-- What an instance needs is one list, and so is what the root needs.
use Rattle.std.proofs.Common.{◌≡◌, ℕ, List, [], ◌∷◌, ◌++◌, Option, Some, slice_get, length, refl, sym, ap, ◌∙◌, subst}
use Rattle.step_check.specs.declared.verdict.Verdict.{Verdict}
use Rattle.step_check.specs.declared.verdict.Verdict.TheVariants.{Chained, Clausal, Composes, Structural}
use Rattle.step_skolem.specs.declared.map.SkMap.{SkMap}
use Rattle.ground_instances.specs.Keys.{Has, IsBase, IsLeafBase, IsLeafVerdict, IsOwnBase, itself, Judged, Key, key, parents_at, through, verdict_in}
use Rattle.ground_instances.specs.Needs.{by_base, by_chain, by_clauses, by_image, by_leaf, by_parent, by_stage, by_thin, done, fresh, named_by, Needs, of_image, of_parents, of_stage, seen, Visits}

pub same_some : {A : Type 0} (x : Option A) (a b : A) → x ≡ Some a → x ≡ Some b → a ≡ b
same_some x a b h k = cc

pub same_item : (l : List ℕ) (q p : ℕ) → l ≡ q ∷ [] → l ≡ p ∷ [] → q ≡ p
same_item l q p h k = cc

module _ (judged : Judged) where
  pub one_has : (i : ℕ) (v w : Verdict) → Has judged i v → Has judged i w → v ≡ w
  one_has i v w h k = same_some (verdict_in judged.verdicts i) v w h k

  pub not_own : (i : ℕ) (v : Verdict) (m : SkMap) → Has judged i v → Has judged i (Structural m) → IsOwnBase v → ⊥
  not_own i v m h k own = subst IsOwnBase (one_has i v (Structural m) h k) own

  pub one_base : {i b : ℕ} → IsBase judged i b → (c : ℕ) → IsBase judged i c → b ≡ c
  one_base (itself i v h own) _ (itself _ w k own') = refl
  one_base (itself i v h own) c (through _ q _ m k parent base) = absurd (not_own i v m h k own)
  one_base (through i q b m h parent base) _ (itself _ w k own) = absurd (not_own i w m k h own)
  one_base (through i q b m h parent base) c (through _ p _ m' k parent' base') =
      one_base base c (subst (λ x. IsBase judged x c) (same_item (parents_at judged i) p q parent' parent) base')

  -- a step with a verdict of its own has a leaf for a base only where it is one
  pub own_leaf : (i : ℕ) (v : Verdict) → Has judged i v → IsOwnBase v → IsLeafBase judged i → IsLeafVerdict v
  own_leaf i v h own (b, w, base, at, leaf) =
      subst IsLeafVerdict (one_has i w v (subst (λ x. Has judged x w) (one_base base i (itself i v h own)) at) h) leaf

  pub one_needs : {one : Key} {xs : List Key} → Needs judged one xs → (ys : List Key) → Needs judged one ys → xs ≡ ys
  one_needs (by_leaf i c terms leaf) _ (by_leaf _ _ _ other) = refl
  one_needs (by_leaf i c terms leaf) _ (by_base _ base _ _ m h none b) = absurd (none leaf)
  one_needs (by_leaf i c terms leaf) _ (by_clauses _ _ _ steps step h at) = absurd (own_leaf i (Clausal steps) h tt leaf)
  one_needs (by_leaf i c terms leaf) _ (by_chain _ _ _ chains chain step h is at) = absurd (own_leaf i (Chained chains) h tt leaf)
  one_needs (by_leaf i c terms leaf) _ (by_image _ _ _ composed step h at) = absurd (own_leaf i (Composes composed) h tt leaf)
  one_needs (by_base i base c terms m h none b) _ (by_leaf _ _ _ leaf) = absurd (none leaf)
  one_needs (by_base i base c terms m h none b) _ (by_base _ base' _ _ m' h' none' b') = ap (λ x. key x 0 c terms ∷ []) (one_base b base' b')
  one_needs (by_base i base c terms m h none b) _ (by_clauses _ _ _ steps step k at) = absurd (not_own i (Clausal steps) m k h tt)
  one_needs (by_base i base c terms m h none b) _ (by_chain _ _ _ chains chain step k is at) = absurd (not_own i (Chained chains) m k h tt)
  one_needs (by_base i base c terms m h none b) _ (by_image _ _ _ composed step k at) = absurd (not_own i (Composes composed) m k h tt)
  one_needs (by_clauses i c terms steps step h at) _ (by_leaf _ _ _ leaf) = absurd (own_leaf i (Clausal steps) h tt leaf)
  one_needs (by_clauses i c terms steps step h at) _ (by_base _ base _ _ m k none b) = absurd (not_own i (Clausal steps) m h k tt)
  one_needs (by_clauses i c terms steps step h at) _ (by_clauses _ _ _ steps' step' h' at') =
      let e = one_has i (Clausal steps) (Clausal steps') h h' in
      let l : steps ≡ steps' = cc in
      ap (named_by (of_parents judged i) terms) (same_some (slice_get steps' c) step step' (subst (λ x. slice_get x c ≡ Some step) l at) at')
  one_needs (by_clauses i c terms steps step h at) _ (by_chain _ _ _ chains chain step' k is at') = let e = one_has i (Clausal steps) (Chained chains) h k in cc
  one_needs (by_clauses i c terms steps step h at) _ (by_image _ _ _ composed step' k at') = let e = one_has i (Clausal steps) (Composes composed) h k in cc
  one_needs (by_stage i j c terms chains chain step h is at) _ (by_stage _ _ _ _ chains' chain' step' h' is' at') =
      let e = one_has i (Chained chains) (Chained chains') h h' in
      let l : chains ≡ chains' = cc in
      let d : chain ≡ chain' = same_some (slice_get chains' c) chain chain' (subst (λ x. slice_get x c ≡ Some chain) l is) is' in
      ap (named_by (of_stage judged i c j) terms) (same_some (slice_get chain'.steps j) step step' (subst (λ x. slice_get x.steps j ≡ Some step) d at) at')
  one_needs (by_stage i _ c terms chains chain step h is at) _ (by_thin _ q _ _ composed k parent leaf) = let e = one_has i (Chained chains) (Composes composed) h k in cc
  one_needs (by_stage i _ c terms chains chain step h is at) _ (by_parent _ q base _ _ composed k parent none b) = let e = one_has i (Chained chains) (Composes composed) h k in cc
  one_needs (by_chain i c terms chains chain step h is at) _ (by_leaf _ _ _ leaf) = absurd (own_leaf i (Chained chains) h tt leaf)
  one_needs (by_chain i c terms chains chain step h is at) _ (by_base _ base _ _ m k none b) = absurd (not_own i (Chained chains) m h k tt)
  one_needs (by_chain i c terms chains chain step h is at) _ (by_clauses _ _ _ steps step' k at') = let e = one_has i (Chained chains) (Clausal steps) h k in cc
  one_needs (by_chain i c terms chains chain step h is at) _ (by_chain _ _ _ chains' chain' step' h' is' at') =
      let e = one_has i (Chained chains) (Chained chains') h h' in
      let l : chains ≡ chains' = cc in
      let d : chain ≡ chain' = same_some (slice_get chains' c) chain chain' (subst (λ x. slice_get x c ≡ Some chain) l is) is' in
      let s : step ≡ step' = same_some (slice_get chain'.steps (length chain'.mids)) step step' (subst (λ x. slice_get x.steps (length x.mids) ≡ Some step) d at) at' in
      ap (λ x. named_by (of_stage judged i c (length x.mids)) terms step) d ∙ ap (named_by (of_stage judged i c (length chain'.mids)) terms) s
  one_needs (by_chain i c terms chains chain step h is at) _ (by_image _ _ _ composed step' k at') = let e = one_has i (Chained chains) (Composes composed) h k in cc
  one_needs (by_image i c terms composed step h at) _ (by_leaf _ _ _ leaf) = absurd (own_leaf i (Composes composed) h tt leaf)
  one_needs (by_image i c terms composed step h at) _ (by_base _ base _ _ m k none b) = absurd (not_own i (Composes composed) m h k tt)
  one_needs (by_image i c terms composed step h at) _ (by_clauses _ _ _ steps step' k at') = let e = one_has i (Composes composed) (Clausal steps) h k in cc
  one_needs (by_image i c terms composed step h at) _ (by_chain _ _ _ chains chain step' k is at') = let e = one_has i (Composes composed) (Chained chains) h k in cc
  one_needs (by_image i c terms composed step h at) _ (by_image _ _ _ composed' step' h' at') =
      let e = one_has i (Composes composed) (Composes composed') h h' in
      let l : composed ≡ composed' = cc in
      ap (named_by (of_image judged i) terms) (same_some (slice_get composed'.steps c) step step' (subst (λ x. slice_get x.steps c ≡ Some step) l at) at')
  one_needs (by_thin i q c terms composed h parent leaf) _ (by_stage _ _ _ _ chains chain step k is at) = let e = one_has i (Chained chains) (Composes composed) k h in cc
  one_needs (by_thin i q c terms composed h parent leaf) _ (by_thin _ p _ _ other k parent' leaf') = refl
  one_needs (by_thin i q c terms composed h parent leaf) _ (by_parent _ p base _ _ other k parent' none b) =
      absurd (none (subst (λ x. IsLeafBase judged x) (same_item (parents_at judged i) q p parent parent') leaf))
  one_needs (by_parent i q base c terms composed h parent none b) _ (by_stage _ _ _ _ chains chain step k is at) = let e = one_has i (Chained chains) (Composes composed) k h in cc
  one_needs (by_parent i q base c terms composed h parent none b) _ (by_thin _ p _ _ other k parent' leaf) =
      absurd (none (subst (λ x. IsLeafBase judged x) (same_item (parents_at judged i) p q parent' parent) leaf))
  one_needs (by_parent i q base c terms composed h parent none b) _ (by_parent _ p base' _ _ other k parent' none' b') =
      ap (λ x. key x 0 c terms ∷ []) (one_base b base' (subst (λ x. IsBase judged x base') (same_item (parents_at judged i) p q parent' parent) b'))

  pub one_visit : {list ks xs : List Key} → Visits judged list ks xs → (ys : List Key) → Visits judged list ks ys → xs ≡ ys
  one_visit (done l) _ (done _) = refl
  one_visit (seen l k ks xs there v) ys (seen _ _ _ _ there' w) = one_visit v ys w
  one_visit (seen l k ks xs there v) ys (fresh _ _ _ needs middle _ new has first w) = absurd (new there)
  one_visit (fresh l k ks needs middle xs new has first v) ys (seen _ _ _ _ there w) = absurd (new there)
  one_visit (fresh l k ks needs middle xs new has first v) ys (fresh _ _ _ needs' middle' _ new' has' first' w) =
      let n = one_needs has needs' has' in
      let e = one_visit first middle' (subst (λ z. Visits judged l z middle') (sym n) first') in
      one_visit v ys (subst (λ z. Visits judged (z ++ k ∷ []) ks ys) (sym e) w)
