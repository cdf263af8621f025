-- The body of goal has its type.
use Rattle.std.proofs.Common.{◌≡◌, ℕ, zero, suc, List, [], ◌∷◌, ◌++◌, map, length, refl, sym, ap, ap₂, ◌∙◌, subst, append_assoc, append-nil}
use Rattle.lp_term.specs.LambdaPi.{Term, app, rename, shift, type, under_binder, under_renaming, var}
use Rattle.lp_term.specs.Connectives.{arrow, bot, individuals, neg, proof_of}
use Rattle.lp_term.specs.Typing.{Declaration, HasType}
use Rattle.lp_term.specs.Signature.{Extends}
use Rattle.lp_term.proofs.SubstitutionLaws.{ext}
use Rattle.lp_term.proofs.TypingLaws.{retype}
use Rattle.lp_term.proofs.ConnectiveRules.{arrow_lam, arrow_type, contradict_types, last, prf_type}
use Rattle.lp_term.proofs.QuantifierRules.{any_con, any_declared, bot_app, rename_arrow, weakened}
use Rattle.dk_syntax.specs.Lists.{Each, Entry, Every, each_nil, entry_here, entry_later, every_cons, every_nil}
use Rattle.nd_term.specs.Formulas.{Formula, GroundTerm, Literal, eigenvariable, extended, unassigned}
use Rattle.nd_term.specs.Translation.{literal_type, sentence, translated, translated_ground}
use Rattle.nd_term.specs.Symbols.{FormulaOver, GroundOver, over_ground_symbol}
use Rattle.nd_term.specs.Eigenvariables.{Eigenvariable, origin_body, witness_at, witness_formula}
use Rattle.nd_term.specs.Consumers.{lift}
use Rattle.nd_term.specs.Drinkers.{negative_drinker_type, positive_drinker_type}
use Rattle.nd_term.specs.Instances.{clause_type}
use Rattle.nd_term.specs.Bindings.{Bindings}
use Rattle.dk_syntax.proofs.ListLaws.{each_map, each_snoc, entry_end, every_at, every_chosen, every_middle}
use Rattle.nd_term.proofs.ListLaws.{each_at}
use Rattle.nd_term.proofs.TranslationLaws.{individuals_shift, individuals_under, literal_shift, literal_sort, origin_shift, sentence_shift, sentence_types, translated_ground_shift, translated_ground_types, translated_shift, translated_types, witness_at_shift, witness_shift}
use Rattle.nd_term.proofs.DrinkerTypes.{drinker_types, negative_drinker_sort, negative_drinker_types, positive_drinker_sort, positive_drinker_types}
use Rattle.nd_term.proofs.ConsumerTypes.{consumer_types, place_shift}
use Rattle.nd_term.proofs.InstanceTypes.{applied_to_types, resolution_types, subsumption_types, clause_prop, clause_shift, let_types, literal_proofs_cover, literal_proofs_deeper}
use Rattle.nd_term.specs.Symbols.{ClauseOver}
use Rattle.nd_term.specs.Bindings.{LiteralProofs}
use Rattle.assemble.specs.Justification.{Instance, Reason, Right, Works, clauses, works_denied, works_leaf, works_resolve, works_same, works_subsume}
use Rattle.assemble.specs.Origins.{Among, InTurn, among_applied, among_eigenvariable, among_symbol}
use Rattle.assemble.specs.Places.{Place, deeper, first_place, put, with_eigenvariable, with_instance}
use Rattle.assemble.specs.Body.{body_under, goal_body, goal_type, inside, instance_abstractions, instance_proof, lets, nest, reason_proof}
use Rattle.assemble.proofs.InstanceLaws.{clauses_snoc, each_last, every_clauses}

pub goal_shift : (hs : List Formula) (c : Formula) → shift (goal_type hs c) ≡ goal_type hs c
goal_shift [] c = ap proof_of (sentence_shift c)
goal_shift (h ∷ hs) c =
    rename_arrow (λ n. suc n) (proof_of (sentence h)) (goal_type hs c) ∙ ap₂ arrow (ap proof_of (sentence_shift h)) (goal_shift hs c)

-- one more element at the end
snoc_case : (p : ℕ → Eigenvariable → Type 0) (front : List Eigenvariable) (o : Eigenvariable) → ((k : ℕ) (a : Eigenvariable) → Entry front k a → p k a) → p (length front) o → (k : ℕ) (a : Eigenvariable) → Entry (front ++ o ∷ []) k a → p k a
snoc_case p [] o old base k a (entry_here _ _) = base
snoc_case p [] o old base k a (entry_later _ i) = elim i [ ]
snoc_case p (b ∷ front) o old base k a (entry_here _ _) = old zero b (entry_here b front)
snoc_case p (b ∷ front) o old base k a (entry_later {k = j} _ i) = snoc_case (λ m d. p (suc m) d) front o (λ m d l. old (suc m) d (entry_later b l)) base j a i

length_snoc : (a : Eigenvariable) (front : List Eigenvariable) → length (front ++ a ∷ []) ≡ suc (length front)
length_snoc a [] = refl
length_snoc a (b ∷ front) = ap (λ n. suc n) (length_snoc a front)

put_same : (n : ℕ) (x : ℕ → Term) (t : Term) → put n x t n ≡ t
put_same zero x t = refl
put_same (suc n) x t = put_same n (λ j. x (suc j)) t

put_other : {front : List Eigenvariable} {k : ℕ} {o : Eigenvariable} (x : ℕ → Term) (t : Term) → Entry front k o → put (length front) x t k ≡ x k
put_other x t (entry_here a l) = refl
put_other x t (entry_later b i) = put_other (λ j. x (suc j)) t i

among_ground : {front : List Eigenvariable} {u : GroundTerm} (x : ℕ → Term) (t : Term) → Among front u → translated_ground (put (length front) x t) u ≡ translated_ground x u
among_ground x t (among_eigenvariable i) = put_other x t i
among_ground x t (among_symbol c) = refl
among_ground x t (among_applied i j) = ap₂ app (among_ground x t i) (among_ground x t j)

entry_left : {l : List Eigenvariable} {k : ℕ} {a : Eigenvariable} (o : Eigenvariable) → Entry l k a → Entry (l ++ o ∷ []) k a
entry_left o (entry_here a l) = entry_here a (l ++ o ∷ [])
entry_left o (entry_later b i) = entry_later b (entry_left o i)

among_snoc : {front : List Eigenvariable} {u : GroundTerm} (o : Eigenvariable) → Among front u → Among (front ++ o ∷ []) u
among_snoc o (among_eigenvariable i) = among_eigenvariable (entry_left o i)
among_snoc o (among_symbol c) = among_symbol c
among_snoc o (among_applied i j) = among_applied (among_snoc o i) (among_snoc o j)

cons_agree : {front : List Eigenvariable} {k : ℕ} {o : Eigenvariable} (x : ℕ → Term) (t : Term) → Entry front k o → ((n : ℕ) → Among front (o.puts n)) → (n : ℕ) → translated_ground x (extended (eigenvariable k) o.puts n) ≡ translated_ground (put (length front) x t) (extended (eigenvariable k) o.puts n)
cons_agree x t i am zero = sym (put_other x t i)
cons_agree x t i am (suc n) = sym (among_ground x t (am n))

wit_agree : {front : List Eigenvariable} {k : ℕ} {o : Eigenvariable} (x : ℕ → Term) (t : Term) → Entry front k o → ((n : ℕ) → Among front (o.puts n)) → witness_formula x k o ≡ witness_formula (put (length front) x t) k o
wit_agree {o = o} x t i am =
    ap₂ (λ u v. witness_at o.positive (translated (under_binder u) o.body) (translated v o.body)) (ext (λ n. sym (among_ground x t (am n)))) (ext (cons_agree x t i am))

-- a ground term two binders further in, where the next eigenvariable is bound
ground_two : {front : List Eigenvariable} {u : GroundTerm} (x : ℕ → Term) (t : Term) → Among front u → shift (shift (translated_ground x u)) ≡ translated_ground (put (length front) (lift (lift x)) t) u
ground_two {u = u} x t am = ap shift (translated_ground_shift x u) ∙ translated_ground_shift (lift x) u ∙ sym (among_ground (lift (lift x)) t am)

new_body : (front : List Eigenvariable) (x : ℕ → Term) (o : Eigenvariable) → ((n : ℕ) → Among front (o.puts n)) → (n : ℕ) → shift (under_binder (λ m. translated_ground x (o.puts m)) n) ≡ translated_ground (put (length front) (lift (lift x)) (var 1)) (extended (eigenvariable (length front)) o.puts n)
new_body front x o am zero = sym (put_same (length front) (lift (lift x)) (var 1))
new_body front x o am (suc n) = ground_two x (var 1) (am n)

wit_new : (front : List Eigenvariable) (x : ℕ → Term) (o : Eigenvariable) → ((n : ℕ) → Among front (o.puts n)) → shift (witness_at o.positive (rename (under_renaming (λ k. suc k)) (origin_body x o)) (origin_body x o)) ≡ witness_formula (put (length front) (lift (lift x)) (var 1)) (length front) o
wit_new front x o am =
    witness_at_shift o.positive (rename (under_renaming (λ k. suc k)) (origin_body x o)) (origin_body x o)
    ∙ ap₂ (witness_at o.positive)
    (ap (rename (under_renaming (λ k. suc k))) (origin_shift x o) ∙ origin_shift (lift x) o ∙ ap (λ u. translated (under_binder u) o.body) (ext (λ n. sym (among_ground (lift (lift x)) (var 1) (am n)))))
    (translated_shift (under_binder (λ n. translated_ground x (o.puts n))) o.body ∙ ap (λ v. translated v o.body) (ext (new_body front x o am)))

module _ (sig : List Declaration) (e : Extends sig) where
  put_each : {g : List Term} {t : Term} (n : ℕ) (x : ℕ → Term) → ((k : ℕ) → HasType sig g (x k) individuals) → HasType sig g t individuals → (k : ℕ) → HasType sig g (put n x t k) individuals
  put_each zero x h i zero = i
  put_each zero x h i (suc k) = h (suc k)
  put_each (suc n) x h i zero = h zero
  put_each (suc n) x h i (suc k) = put_each n (λ j. x (suc j)) (λ j. h (suc j)) i k

  pub goal_prop : {g : List Term} {hs : List Formula} {c : Formula} → Every (λ f. FormulaOver sig f) hs → FormulaOver sig c → HasType sig g (goal_type hs c) type
  goal_prop every_nil o = prf_type sig e (sentence_types sig e o)
  goal_prop (every_cons w ws) o = arrow_type sig e (prf_type sig e (sentence_types sig e w)) (goal_prop ws o)

  module _ (es : List Eigenvariable) (hs : List Formula) (c : Formula) (ho : Every (λ f. FormulaOver sig f) hs) (co : FormulaOver sig c) where
    -- what the place has bound has its types, where these clauses are known
    pub record PlaceHolds (known : List (List Literal)) (g : List Term) (v : Place) : Type 0 where
      pub place : Bindings sig es g v.eigenvariables v.witnesses
      pub of_hyps : Each (λ f t. HasType sig g t (proof_of (sentence f))) hs v.hypotheses
      pub of_denied : HasType sig g v.denied (proof_of (neg (sentence c)))
      pub of_done : Each (λ d t. HasType sig g t (clause_type v.eigenvariables d)) known v.done

    hyps_shift : {g : List Term} {fs : List Formula} {hv : List Term} (a : Term) → Each (λ f t. HasType sig g t (proof_of (sentence f))) fs hv → Each (λ f t. HasType sig (a ∷ g) t (proof_of (sentence f))) fs (map shift hv)
    hyps_shift a h = each_map shift (λ f t k. retype (ap proof_of (sentence_shift f)) (weakened sig e a k)) h

    pub holds_deeper : {known : List (List Literal)} {g : List Term} {v : Place} (a : Term) → PlaceHolds known g v → PlaceHolds known (a ∷ g) (deeper v)
    holds_deeper {v = v} a h =
        record {
          place = place_shift sig e a h.place;
          of_hyps = hyps_shift a h.of_hyps;
          of_denied = retype (ap (λ y. proof_of (neg y)) (sentence_shift c)) (weakened sig e a h.of_denied);
          of_done = each_map shift (λ d t k. retype (clause_shift v.eigenvariables d) (weakened sig e a k)) h.of_done;
        }

    holds_done : {known : List (List Literal)} {g : List Term} {v : Place} (d : List Literal) → PlaceHolds known g v → PlaceHolds (known ++ d ∷ []) (clause_type v.eigenvariables d ∷ g) (with_instance v)
    holds_done {v = v} d h =
        let a = clause_type v.eigenvariables d in
        let w = holds_deeper a h in
        record {
          place = w.place;
          of_hyps = w.of_hyps;
          of_denied = w.of_denied;
          of_done = each_snoc w.of_done (retype (clause_shift v.eigenvariables d) (last sig e a));
        }

    start_ok : (n : ℕ) → GroundOver sig individuals 0 (unassigned n)
    start_ok n = over_ground_symbol 0 (any_declared sig e)

    pub reason_types : {known : List (List Literal)} {g : List Term} {v : Place} {d : List Literal} {lv : List Term} {r : Reason} → PlaceHolds known g v → Every (ClauseOver sig) known → Works sig es hs c known d r → LiteralProofs sig g v.eigenvariables d lv → HasType sig g (reason_proof v lv r) (proof_of bot)
    reason_types {v = v} {lv = lv} h o (works_leaf n i) k =
        consumer_types sig e v.eigenvariables v.witnesses lv _ i (every_at ho n) start_ok h.place (literal_proofs_cover sig e k) (each_at h.of_hyps n)
    reason_types {v = v} {lv = lv} h o (works_denied i) k =
        consumer_types sig e v.eigenvariables v.witnesses lv _ i co start_ok h.place (literal_proofs_cover sig e k) h.of_denied
    reason_types h o (works_same n) k = applied_to_types sig e (each_at h.of_done n) k
    reason_types h o (works_subsume n i) k = subsumption_types sig e (each_at h.of_done n) k i
    reason_types {v = v} {d = d} h o (works_resolve _ _ np nq ip iq kp kq) k =
        let pivot = every_chosen ip kp (entry_end d) (every_at o np) in
        resolution_types sig e v.eigenvariables h.place.inds pivot (each_at h.of_done np) (each_at h.of_done nq) k ip iq

    lams_types : {known : List (List Literal)} {g : List Term} {v : Place} {d : List Literal} {lv : List Term} {r : Reason} (front back : List Literal) → d ≡ front ++ back → ClauseOver sig back → PlaceHolds known g v → Every (ClauseOver sig) known → Works sig es hs c known d r → LiteralProofs sig g v.eigenvariables front lv → HasType sig g (instance_abstractions back v lv r) (clause_type v.eigenvariables back)
    lams_types {g = g} {v = v} {lv = lv} front [] q bo h o w k =
        reason_types h o w (subst (λ f. LiteralProofs sig g v.eigenvariables f lv) (sym (q ∙ append-nil front)) k)
    lams_types {v = v} front (l ∷ back) q (every_cons lo bo) h o w k =
        let x = v.eigenvariables in
        let a = literal_type x l in
        arrow_lam sig e (literal_sort sig e x h.place.inds l lo) (clause_prop sig e x h.place.inds bo)
        (retype (sym (clause_shift x back)) (lams_types (front ++ l ∷ []) back (q ∙ sym (append_assoc front (l ∷ []) back)) bo (holds_deeper a h) o w (each_snoc (literal_proofs_deeper sig e a k) (retype (literal_shift x l) (last sig e a)))))

    -- an instance's term has the instance's type
    pub instance_types : {known : List (List Literal)} {g : List Term} {v : Place} (i : Instance) → ClauseOver sig i.clause → PlaceHolds known g v → Every (ClauseOver sig) known → Works sig es hs c known i.clause i.by → HasType sig g (instance_proof v i) (clause_type v.eigenvariables i.clause)
    instance_types i io h o w = lams_types [] i.clause refl io h o w each_nil

    pub lets_types : {g : List Term} {v : Place} {list : List Instance} (front back : List Instance) → list ≡ front ++ back → Right sig es hs c list → PlaceHolds (clauses front) g v → HasType sig g (lets v back c) (proof_of (sentence c))
    lets_types {g = g} {v = v} front [] q r h =
        let f = r.ends.0 in
        let i = r.ends.1 in
        let ends : clauses front ≡ clauses f ++ [] ∷ [] = ap clauses (sym (q ∙ append-nil front) ∙ r.ends.2) ∙ clauses_snoc f i ∙ ap (λ y. clauses f ++ y ∷ []) r.ends.3 in
        let d = subst (λ y. Each (λ d t. HasType sig g t (clause_type v.eigenvariables d)) y v.done) ends h.of_done in
        bot_app sig e (each_last (clauses f) d) (sentence_types sig e co)
    lets_types {g = g} {v = v} front (i ∷ back) q r h =
        let symbols = subst (λ y. Every (λ j. ClauseOver sig j.clause) y) q r.symbols in
        let io = every_middle front back symbols in
        let ko = every_clauses front (i ∷ back) symbols in
        let a = clause_type v.eigenvariables i.clause in
        let ta = clause_prop sig e v.eigenvariables h.place.inds io in
        let t = instance_types i io h ko (r.works front back i q) in
        let next = subst (λ y. PlaceHolds y (a ∷ g) (with_instance v)) (sym (clauses_snoc front i)) (holds_done i.clause h) in
        let_types sig e ta (prf_type sig e (sentence_types sig e co)) t
        (retype (sym (ap proof_of (sentence_shift c))) (lets_types (front ++ i ∷ []) back (q ∙ sym (append_assoc front (i ∷ []) back)) r next))

    -- what the place has bound before the lets, where these needed Skolem terms are bound
    pub record Start (front : List Eigenvariable) (g : List Term) (v : Place) : Type 0 where
      pub at_inds : (k : ℕ) → HasType sig g (v.eigenvariables k) individuals
      pub at_wits : (k : ℕ) (o : Eigenvariable) → Entry front k o → HasType sig g (v.witnesses k) (proof_of (witness_formula v.eigenvariables k o)) × ((n : ℕ) → Among front (o.puts n))
      pub at_hyps : Each (λ f t. HasType sig g t (proof_of (sentence f))) hs v.hypotheses
      pub at_denied : HasType sig g v.denied (proof_of (neg (sentence c)))
      pub at_done : v.done ≡ []

    start_deeper : {front : List Eigenvariable} {g : List Term} {v : Place} (a : Term) → Start front g v → Start front (a ∷ g) (deeper v)
    start_deeper {v = v} a h =
        record {
          at_inds = individuals_shift sig e a h.at_inds;
          at_wits = λ k o n. let m = h.at_wits k o n in (retype (ap proof_of (witness_shift v.eigenvariables k o)) (weakened sig e a m.0), m.1);
          at_hyps = hyps_shift a h.at_hyps;
          at_denied = retype (ap (λ y. proof_of (neg y)) (sentence_shift c)) (weakened sig e a h.at_denied);
          at_done = ap (map shift) h.at_done;
        }

    -- an origin formula, after one more eigenvariable is bound
    start_bind : {g : List Term} {v : Place} (front : List Eigenvariable) (o : Eigenvariable) → ((n : ℕ) → Among front (o.puts n)) → Start front g v
        → Start (front ++ o ∷ []) (proof_of (witness_at o.positive (rename (under_renaming (λ k. suc k)) (origin_body v.eigenvariables o)) (origin_body v.eigenvariables o)) ∷ individuals ∷ g) (with_eigenvariable (length front) v)
    start_bind {g = g} {v = v} front o am h =
        let b = origin_body v.eigenvariables o in
        let w = proof_of (witness_at o.positive (rename (under_renaming (λ k. suc k)) b) b) in
        let two = start_deeper w (start_deeper individuals h) in
        let x2 = lift (lift v.eigenvariables) in
        let w2 = lift (lift v.witnesses) in
        let n = length front in
        record {
          at_inds = put_each n x2 two.at_inds (weakened sig e w (last sig e {g = g} individuals));
          at_wits = snoc_case (λ k p. HasType sig (w ∷ individuals ∷ g) (put n w2 (var 0) k) (proof_of (witness_formula (put n x2 (var 1)) k p)) × ((m : ℕ) → Among (front ++ o ∷ []) (p.puts m))) front o
              (λ k p i. let old = two.at_wits k p i in (
                subst (λ y. HasType sig (w ∷ individuals ∷ g) y (proof_of (witness_formula (put n x2 (var 1)) k p))) (sym (put_other w2 (var 0) i))
                    (retype (ap proof_of (wit_agree x2 (var 1) i old.1)) old.0),
                λ m. among_snoc o (old.1 m),
              )) (
                subst (λ y. HasType sig (w ∷ individuals ∷ g) y (proof_of (witness_formula (put n x2 (var 1)) n o))) (sym (put_same n w2 (var 0)))
                    (retype (ap proof_of (wit_new front v.eigenvariables o am)) (last sig e w)),
                λ m. among_snoc o (am m),
              );
          at_hyps = two.at_hyps;
          at_denied = two.at_denied;
          at_done = ap (map shift) (ap (map shift) h.at_done);
        }

    start_lets : {g : List Term} {v : Place} {list : List Instance} → Right sig es hs c list → Start es g v → HasType sig g (lets v list c) (proof_of (sentence c))
    start_lets {g = g} {v = v} {list = list} r h =
        let holds : PlaceHolds [] g v = record { place = record { inds = h.at_inds; wits = λ k o n. (h.at_wits k o n).0 }; of_hyps = h.at_hyps; of_denied = h.at_denied; of_done = subst (λ y. Each (λ d t. HasType sig g t (clause_type v.eigenvariables d)) [] y) (sym h.at_done) each_nil } in
        lets_types [] list refl r holds

    nest_types : {g : List Term} {v : Place} {list : List Instance} {dp dn : Term} (front back : List Eigenvariable) → es ≡ front ++ back → Every (λ o. (n : ℕ) → GroundOver sig individuals 0 (o.puts n)) back → Every (λ o. FormulaOver sig o.body) back → InTurn sig es → Right sig es hs c list → Start front g v
        → HasType sig g dp positive_drinker_type → HasType sig g dn negative_drinker_type → HasType sig g (nest back (length front) dp dn v list c) (proof_of (sentence c))
    nest_types {g = g} {v = v} front [] q gs bs tn r h hp hn =
        start_lets r (subst (λ l. Start l g v) (sym (q ∙ append-nil front)) h)
    nest_types {g = g} {v = v} {list = list} {dp = dp} {dn = dn} front (o ∷ back) q (every_cons go gs) (every_cons bo bs) tn r h hp hn =
        let b = origin_body v.eigenvariables o in
        let w = proof_of (witness_at o.positive (rename (under_renaming (λ k. suc k)) b) b) in
        let hb = translated_types sig e (under_binder (λ n. translated_ground v.eigenvariables (o.puts n))) (individuals_under sig e (λ n. translated_ground v.eigenvariables (o.puts n)) (λ n. translated_ground_types sig e v.eigenvariables h.at_inds (go n))) bo in
        let next = start_bind front o (tn.earlier front back o q) h in
        let one = nest_types (front ++ o ∷ []) back (q ∙ sym (append_assoc front (o ∷ []) back)) gs bs tn r next (weakened sig e w (weakened sig e individuals hp)) (weakened sig e w (weakened sig e individuals hn)) in
        let two = subst (λ n. HasType sig (w ∷ individuals ∷ g) (nest back n (shift (shift dp)) (shift (shift dn)) (with_eigenvariable (length front) v) list c) (proof_of (sentence c))) (length_snoc o front) one in
        drinker_types sig e o.positive hp hn hb (sentence_types sig e co)
        (retype (sym (ap (λ y. proof_of (shift y)) (sentence_shift c) ∙ ap proof_of (sentence_shift c))) two)

    inside_types : {g : List Term} {v : Place} {list : List Instance} (l : List Eigenvariable) → es ≡ l → InTurn sig es → Right sig es hs c list → Start [] g v → HasType sig g (inside l v list c) (proof_of (sentence c))
    inside_types {g = g} {v = v} [] q tn r h = start_lets r (subst (λ y. Start y g v) (sym q) h)
    inside_types {g = g} {v = v} (o ∷ l) q tn r h =
        let hc = prf_type sig e (sentence_types sig e co) in
        let gs = subst (λ y. Every (λ o. (n : ℕ) → GroundOver sig individuals 0 (o.puts n)) y) q tn.grounds in
        let bs = subst (λ y. Every (λ o. FormulaOver sig o.body) y) q tn.bodies in
        let inner = nest_types [] (o ∷ l) q gs bs tn r (start_deeper negative_drinker_type (start_deeper positive_drinker_type h)) (weakened sig e negative_drinker_type (last sig e {g = g} positive_drinker_type)) (last sig e {g = positive_drinker_type ∷ g} negative_drinker_type) in
        let_types sig e (positive_drinker_sort sig e g) hc (positive_drinker_types sig e g)
        (retype (sym (ap proof_of (sentence_shift c))) (let_types sig e (negative_drinker_sort sig e (positive_drinker_type ∷ g)) (prf_type sig e (sentence_types sig e co)) (negative_drinker_types sig e (positive_drinker_type ∷ g))
        (retype (sym (ap proof_of (sentence_shift c))) inner)))

    body_types : {g : List Term} {hv : List Term} {list : List Instance} (front back : List Formula) → hs ≡ front ++ back → Every (λ f. FormulaOver sig f) back → Right sig es hs c list → InTurn sig es → Each (λ f t. HasType sig g t (proof_of (sentence f))) front hv → HasType sig g (body_under back hv es c list) (goal_type back c)
    body_types {g = g} {hv = hv} {list = list} front [] q bo r tn h =
        let n = proof_of (neg (sentence c)) in
        let hypotheses = subst (λ y. Each (λ f t. HasType sig (n ∷ g) t (proof_of (sentence f))) y (map shift hv)) (sym (q ∙ append-nil front)) (hyps_shift n h) in
        let start_at : Start [] (n ∷ g) (first_place hv) =
        record {
          at_inds = λ k. any_con sig e (n ∷ g);
          at_wits = λ k o m. elim m [ ];
          at_hyps = hypotheses;
          at_denied = retype (ap (λ y. proof_of (neg y)) (sentence_shift c)) (last sig e n);
          at_done = refl;
        } in
        contradict_types sig e (sentence_types sig e co)
        (retype (sym (ap proof_of (sentence_shift c))) (inside_types es refl tn r start_at))
    body_types front (f ∷ back) q (every_cons fo bo) r tn h =
        let a = proof_of (sentence f) in
        arrow_lam sig e (prf_type sig e (sentence_types sig e fo)) (goal_prop bo co)
        (retype (sym (goal_shift back c)) (body_types (front ++ f ∷ []) back (q ∙ sym (append_assoc front (f ∷ []) back)) bo r tn (each_snoc (hyps_shift a h) (retype (ap proof_of (sentence_shift f)) (last sig e a)))))

    pub body_typed : {list : List Instance} → InTurn sig es → Right sig es hs c list → HasType sig [] (goal_body hs es c list) (goal_type hs c)
    body_typed tn r = body_types [] hs refl ho r tn each_nil
