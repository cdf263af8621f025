-- The symbols of regrouped forms and of images, and of the entries of maps.
use Rattle.std.proofs.Common.{ℕ, zero, suc, nat_lt, Bool, true, false, List, [], ◌∷◌, ◌++◌, cond, map, sym, ap, ◌∙◌, subst}
use Rattle.dk_syntax.proofs.ListLaws.{ForEach}
use Rattle.dk_syntax.proofs.SubstitutionLaws.{substituted-Any, substituted-App, substituted-Var}
use Rattle.dk_syntax.proofs.TermLaws.{occurrences-App, occurrences-Var, term_induction}
use Rattle.dk_syntax.specs.Lists.{Every, every_cons, every_nil}
use Rattle.dk_syntax.specs.Symbols.{joined, term_occurrences}
use Rattle.dk_syntax.specs.Terms.{instance, substituted}
use Rattle.dk_syntax.specs.declared.clause.Literal.{Literal}
use Rattle.dk_syntax.specs.declared.symbol.SymKey.{SymKey}
use Rattle.dk_syntax.specs.declared.term.Term.{Term}
use Rattle.dk_syntax.specs.declared.term.Term.TheVariants.{Var}
use Rattle.normal_form.specs.Forms.{Form, form_of}
use Rattle.normal_form.specs.Sorting.{existentials, Regrouped, sorted_form, universals}
use Rattle.normal_form.specs.Sorting as s
use Rattle.normal_form.specs.declared.form.Nf.{Nf}
use Rattle.plan_symbols.proofs.EveryLaws.{every_back, every_both, every_front, every_head, every_tail}
use Rattle.plan_symbols.proofs.FormSymbols.{form_occurrences}
use Rattle.plan_symbols.specs.Over.{literal_occurrences}
use Rattle.step_skolem.specs.Carrying.{across, by_number, carried, placed, renumbered}
use Rattle.step_skolem.specs.Images.{i_all, i_and, i_keep, i_lit, i_no, i_or, i_put, i_yes, Image, IsImage, Kept}
use Rattle.step_skolem.specs.Substitutions.{applied, up, with_term}
use Rattle.step_skolem.specs.declared.map.SkEntry.{SkEntry}

module _ (K : SymKey → Type 0) where
  -- ---- regrouped forms

  abbrev HasAll : Form → Type 0
  HasAll a = Every K (form_occurrences a)

  abbrev swap : (l m : List SymKey) → Every K (l ++ m) → Every K (m ++ l)
  swap l m h = every_both (every_back l m h) (every_front l m h)

  abbrev turn : (l m n : List SymKey) → Every K ((l ++ m) ++ n) → Every K (l ++ (m ++ n))
  turn l m n h = let k = every_front (l ++ m) n h in every_both (every_front l m k) (every_both (every_back l m k) (every_back (l ++ m) n h))

  abbrev turn_back : (l m n : List SymKey) → Every K (l ++ (m ++ n)) → Every K ((l ++ m) ++ n)
  turn_back l m n h = let k = every_back l (m ++ n) h in every_both (every_both (every_front l (m ++ n) h) (every_front m n k)) (every_back m n k)

  abbrev inside : (l m n o : List SymKey) → (Every K l → Every K n) → (Every K m → Every K o) → Every K (l ++ m) → Every K (n ++ o)
  inside l m n o p q h = every_both (p (every_front l m h)) (q (every_back l m h))

  -- a form that differs by order and grouping alone has the same symbols
  pub regrouped_has : {a b : Form} → Regrouped a b → HasAll a → HasAll b
  regrouped_has (s.stay a) h = h
  regrouped_has (s.chain a b c p q) h = regrouped_has q (regrouped_has p h)
  regrouped_has (s.swap_and a b) h = swap (form_occurrences a) (form_occurrences b) h
  regrouped_has (s.turn_and a b c) h = turn (form_occurrences a) (form_occurrences b) (form_occurrences c) h
  regrouped_has (s.in_and a b c d p q) h = inside (form_occurrences a) (form_occurrences b) (form_occurrences c) (form_occurrences d) (regrouped_has p) (regrouped_has q) h
  regrouped_has (s.swap_or a b) h = swap (form_occurrences a) (form_occurrences b) h
  regrouped_has (s.turn_or a b c) h = turn (form_occurrences a) (form_occurrences b) (form_occurrences c) h
  regrouped_has (s.in_or a b c d p q) h = inside (form_occurrences a) (form_occurrences b) (form_occurrences c) (form_occurrences d) (regrouped_has p) (regrouped_has q) h
  regrouped_has (s.in_all a b p) h = regrouped_has p h
  regrouped_has (s.in_ex a b p) h = regrouped_has p h

  -- ---- terms under substitutions

  -- each symbol of the term has the property
  abbrev pub TermHas : Term → Type 0
  TermHas t = Every K (term_occurrences t)

  abbrev StaysIn : (ℕ → Term) → Term → Type 0
  StaysIn r t = TermHas t → TermHas (substituted r t)

  args_stay : (r : ℕ → Term) (ts : List Term) → ForEach (StaysIn r) ts → Every K (joined (map term_occurrences ts)) → Every K (joined (map term_occurrences (map (substituted r) ts)))
  args_stay r [] known h = every_nil
  args_stay r (t ∷ ts) known h =
      let front = every_front (term_occurrences t) (joined (map term_occurrences ts)) h in
      let back = every_back (term_occurrences t) (joined (map term_occurrences ts)) h in
      every_both (known.0 front) (args_stay r ts known.1 back)

  pub term_stays : (r : ℕ → Term) → ((k : ℕ) → TermHas (r k)) → (t : Term) → StaysIn r t
  term_stays r values = term_induction (StaysIn r)
      (λ n h. subst TermHas (sym (substituted-Var r n)) (values n))
      (λ f args known h.
      let whole = subst (Every K) (occurrences-App f args) h in
      subst (Every K) (sym (ap term_occurrences (substituted-App r f args) ∙ occurrences-App f (map (substituted r) args)))
      (every_cons (every_head whole) (args_stay r args known (every_tail whole))))
      (λ h. subst TermHas (sym (substituted-Any r)) h)

  terms_stay : (r : ℕ → Term) → ((k : ℕ) → TermHas (r k)) → (ts : List Term) → Every K (joined (map term_occurrences ts)) → Every K (joined (map term_occurrences (map (substituted r) ts)))
  terms_stay r values [] h = every_nil
  terms_stay r values (t ∷ ts) h =
      every_both (term_stays r values t (every_front (term_occurrences t) (joined (map term_occurrences ts)) h))
      (terms_stay r values ts (every_back (term_occurrences t) (joined (map term_occurrences ts)) h))

  pub literal_stays : (r : ℕ → Term) → ((k : ℕ) → TermHas (r k)) → (l : Literal) → Every K (literal_occurrences l) → Every K (literal_occurrences (instance r l))
  literal_stays r values l h = every_cons (every_head h) (terms_stay r values l.args (every_tail h))

  pub variable_has : (n : ℕ) → TermHas (Var n)
  variable_has n = subst (Every K) (sym (occurrences-Var n)) every_nil

  variables_have : (ns : List ℕ) → Every K (joined (map term_occurrences (map Var ns)))
  variables_have [] = every_nil
  variables_have (n ∷ ns) = every_both (variable_has n) (variables_have ns)

  pub applied_has : (symbol : SymKey) (ns : List ℕ) → K symbol → TermHas (applied symbol ns)
  applied_has symbol ns h = subst (Every K) (sym (occurrences-App symbol (map Var ns))) (every_cons h (variables_have ns))

  abbrev pub ValuesHave : (ℕ → Term) → Type 0
  ValuesHave r = (k : ℕ) → TermHas (r k)

  up_has : (r : ℕ → Term) → ValuesHave r → ValuesHave (up r)
  up_has r h zero = variable_has 0
  up_has r h (suc k) = term_stays (λ j. Var (suc j)) (λ j. variable_has (suc j)) (r k) (h k)

  with_has : (t : Term) (r : ℕ → Term) → TermHas t → ValuesHave r → ValuesHave (with_term t r)
  with_has t r h k zero = h
  with_has t r h k (suc n) = k n

  -- ---- images

  -- the symbols of the entries
  abbrev pub EntriesHave : List SkEntry → Type 0
  EntriesHave entries = Every (λ (one : SkEntry). K one.symbol) entries

  image_has : {g : List Kept} {r : ℕ → Term} {u e : ℕ} {n : Form} {m : List SkEntry} {d : Form} → Image g r u e n m d → ValuesHave r → EntriesHave m → HasAll n → HasAll d
  image_has (i_yes g r u e) v w h = h
  image_has (i_no g r u e) v w h = h
  image_has (i_lit g r u e l) v w h = literal_stays r v l h
  image_has (i_and g r u e a b m n c d p q) v w h =
      every_both (image_has p v (every_front m n w) (every_front (form_occurrences a) (form_occurrences b) h)) (image_has q v (every_back m n w) (every_back (form_occurrences a) (form_occurrences b) h))
  image_has (i_or g r u e a b m n c d p q) v w h =
      every_both (image_has p v (every_front m n w) (every_front (form_occurrences a) (form_occurrences b) h)) (image_has q v (every_back m n w) (every_back (form_occurrences a) (form_occurrences b) h))
  image_has (i_all g r u e b m d p) v w h = image_has p (up_has r v) w h
  image_has (i_keep g r u e b m d p) v w h = image_has p (up_has r v) w h
  image_has (i_put g r u e b m d symbol args ys fits p) v w h =
      image_has p (with_has (applied symbol ys) r (applied_has symbol ys (every_head w)) v) (every_tail w) h

  -- each symbol of an image has what those of the form and of the map's entries have
  pub image_symbols : (n n' : Nf) (m : List SkEntry) → IsImage n m n' → EntriesHave m → HasAll (form_of n) → HasAll (form_of n')
  image_symbols n n' m h w k = image_has h variable_has w k

  -- ---- carried entries

  from_placed : (one : SkEntry) (l : List SkEntry) → EntriesHave (placed one l) → K one.symbol × EntriesHave l
  from_placed one [] h = (every_head h, every_nil)
  from_placed one (other ∷ l) h = by_test (nat_lt other.ex one.ex) h (λ k. from_placed one l k)
    where
      by_test : (b : Bool) → EntriesHave (cond b (other ∷ placed one l) (one ∷ other ∷ l)) → (EntriesHave (placed one l) → K one.symbol × EntriesHave l) → K one.symbol × EntriesHave (other ∷ l)
      by_test true k more = let r = more (every_tail k) in (r.0, every_cons (every_head k) r.1)
      by_test false k more = (every_head k, every_tail k)

  from_numbered : (l : List SkEntry) → EntriesHave (by_number l) → EntriesHave l
  from_numbered [] h = h
  from_numbered (one ∷ l) h = let r = from_placed one (by_number l) h in every_cons r.0 (from_numbered l r.1)

  from_renumbered : (a b : ℕ → ℕ) (l : List SkEntry) → EntriesHave (map (renumbered a b) l) → EntriesHave l
  from_renumbered a b [] h = every_nil
  from_renumbered a b (one ∷ l) h = every_cons (every_head h) (from_renumbered a b l (every_tail h))

  -- a map has the symbols of the carried one
  pub from_carried : (n r : Nf) (entries : List SkEntry) → EntriesHave (carried n r entries) → EntriesHave entries
  from_carried n r entries h =
      let a = across (universals (sorted_form n)) (universals (sorted_form r)) in
      let b = across (existentials (sorted_form n)) (existentials (sorted_form r)) in
      from_renumbered a b entries (from_numbered (map (renumbered a b) entries) h)
