-- A row of an image's clause list leads through the form to the row's literals.
use Rattle.std.proofs.Common.{◌≡◌, ◌+◌, ℕ, zero, suc, Bool, true, ◌&&◌, List, [], ◌∷◌, ◌++◌, map, refl, sym, ap, ap₂, ◌∙◌, subst, append_assoc}
use Rattle.std.proofs.lemmas.Bool.{or_left, or_right}
use Rattle.dk_syntax.proofs.SubstitutionLaws.{after, agree, substituted-App, substituted-Var}
use Rattle.dk_syntax.proofs.WellFormedLaws.{closed-App}
use Rattle.dk_syntax.specs.Lists.{Every, all_true}
use Rattle.dk_syntax.specs.Terms.{substituted, instance}
use Rattle.dk_syntax.specs.WellFormed.{IsGround, term_closed_under}
use Rattle.dk_syntax.specs.declared.Literal.{Literal}
use Rattle.dk_syntax.specs.declared.SymKey.{SymKey}
use Rattle.dk_syntax.specs.declared.Term.{Term}
use Rattle.dk_syntax.specs.declared.Term.TheVariants.{App, Var}
use Rattle.expansion.proofs.Everywhere.{every_back, every_front, every_head, every_tail, map_both}
use Rattle.expansion.proofs.InstanceLaws.{instance_after, instance_agree, instance_renamed}
use Rattle.expansion.specs.Choices.{chosen, chosen_as, then_chosen, with_existential, with_universal}
use Rattle.expansion.specs.ThinTrees.{IsListed, IsSkolemTerm, IsThinTree, at_all, at_ex, at_left, at_lit, at_no, at_or, at_right}
use Rattle.normal_form.specs.Forms.{Form, all, alls, ex, exs, free, lit, or}
use Rattle.normal_form.specs.Renaming.{owner, renamed_literal}
use Rattle.normal_form.specs.RowFacts.{HasChoice, both, inside, left, none, one, right}
use Rattle.normal_form.specs.Sorting.{numbered_from}
use Rattle.step_skolem.specs.Images.{Image, Kept, binder, i_all, i_and, i_keep, i_lit, i_no, i_or, i_put, i_yes, universal}
use Rattle.step_skolem.specs.Substitutions.{applied, up, with_term}
use Rattle.step_skolem.specs.declared.SkEntry.{SkEntry}

-- ---- the image's universals are the form's

pub alls_image : {g : List Kept} {s : ℕ → Term} {u e : ℕ} {n : Form} {m : List SkEntry} {d : Form} → Image g s u e n m d → alls d ≡ alls n
alls_image (i_yes g s u e) = refl
alls_image (i_no g s u e) = refl
alls_image (i_lit g s u e l) = refl
alls_image (i_and g s u e a b m n c d p q) = ap₂ (λ x y. x + y) (alls_image p) (alls_image q)
alls_image (i_or g s u e a b m n c d p q) = ap₂ (λ x y. x + y) (alls_image p) (alls_image q)
alls_image (i_all g s u e b m d p) = ap suc (alls_image p)
alls_image (i_keep g s u e b m d p) = alls_image p
alls_image (i_put g s u e b m d symbol args ys fits p) = alls_image p

-- the image's variables of universals have these as their owners
abbrev pub Owned : List Kept → List ℕ → Type 0
Owned g around = (y n : ℕ) → binder g y ≡ universal n → owner around y ≡ n

pub owned_more : (u : ℕ) (g : List Kept) (around : List ℕ) → Owned g around → Owned (universal u ∷ g) (u ∷ around)
owned_more u g around w zero n h = let e : u ≡ n = cc in e
owned_more u g around w (suc y) n h = w y n h

-- ---- values

-- with v for the universals around, what s puts for the form's variables is t
abbrev pub Agrees : (ℕ → Term) → List ℕ → (ℕ → Term) → Form → (ℕ → Term) → Type 0
Agrees v around s n t = (k : ℕ) → free k n ≡ true → substituted (λ j. v (owner around j)) (s k) ≡ t k

pub agrees_all : (v : ℕ → Term) (around : List ℕ) (s : ℕ → Term) (a : Form) (t : ℕ → Term) (u : ℕ)
    → Agrees v around s (all a) t → Agrees v (u ∷ around) (up s) a (with_term (v u) t)
agrees_all v around s a t u w zero h = substituted-Var (λ j. v (owner (u ∷ around) j)) 0
agrees_all v around s a t u w (suc k) h =
    after (λ j. v (owner (u ∷ around) j)) (λ n. Var (suc n)) (s k)
    ∙ agree (λ n. substituted (λ j. v (owner (u ∷ around) j)) (Var (suc n))) (λ j. v (owner around j)) (s k) (λ n i. substituted-Var (λ j. v (owner (u ∷ around) j)) (suc n))
    ∙ w k h

pub agrees_put : (v : ℕ → Term) (around : List ℕ) (s : ℕ → Term) (a : Form) (t : ℕ → Term) (put there : Term)
    → substituted (λ j. v (owner around j)) put ≡ there → Agrees v around s (ex a) t → Agrees v around (with_term put s) a (with_term there t)
agrees_put v around s a t put there e w zero h = e
agrees_put v around s a t put there e w (suc k) h = w k h

first_kept : (x y : Kept) (l m : List Kept) → x ∷ l ≡ y ∷ m → x ≡ y
first_kept x y l m h = cc

rest_kept : (x y : Kept) (l m : List Kept) → x ∷ l ≡ y ∷ m → l ≡ m
rest_kept x y l m h = cc

args_there : (v : ℕ → Term) (around : List ℕ) (g : List Kept) → Owned g around → (ys args : List ℕ) → map (binder g) ys ≡ map universal args
    → map (substituted (λ j. v (owner around j))) (map Var ys) ≡ map v args
args_there v around g o [] [] h = refl
args_there v around g o [] (n ∷ args) h = cc
args_there v around g o (y ∷ ys) [] h = cc
args_there v around g o (y ∷ ys) (n ∷ args) h =
    ap₂ (λ a l. a ∷ l)
    (substituted-Var (λ j. v (owner around j)) y ∙ ap v (o y n (first_kept (binder g y) (universal n) (map (binder g) ys) (map universal args) h)))
    (args_there v around g o ys args (rest_kept (binder g y) (universal n) (map (binder g) ys) (map universal args) h))

pub term_there : (v : ℕ → Term) (around : List ℕ) (g : List Kept) → Owned g around → (f : SymKey) (ys args : List ℕ) → map (binder g) ys ≡ map universal args
    → substituted (λ j. v (owner around j)) (applied f ys) ≡ App f (map v args)
term_there v around g o f ys args h = substituted-App (λ j. v (owner around j)) f (map Var ys) ∙ ap (App f) (args_there v around g o ys args h)

-- the literal of the row at v is that of the form at t
pub literal_there : (v : ℕ → Term) (around : List ℕ) (s t : ℕ → Term) (l : Literal) → Agrees v around s (lit l) t
    → instance v (renamed_literal (owner around) (instance s l)) ≡ instance t l
literal_there v around s t l w =
    instance_renamed v (owner around) (instance s l) ∙ instance_after (λ j. v (owner around j)) s l
    ∙ instance_agree (λ k. substituted (λ j. v (owner around j)) (s k)) t l w

all_ground : (v : ℕ → Term) → ((n : ℕ) → IsGround (v n)) → (args : List ℕ) → all_true (map (term_closed_under 0) (map v args)) ≡ true
all_ground v w [] = refl
all_ground v w (n ∷ args) = ap₂ (λ a b. a && b) (w n) (all_ground v w args)

-- ---- the thin tree

-- the existential's term is the entry's symbol at the terms of the entry's universals, and a Skolem term
abbrev pub IsServed : List SymKey → (ℕ → Term) → (ℕ → Term) → SkEntry → Type 0
IsServed symbols v w known = (w known.ex ≡ App known.symbol (map v known.args)) × IsListed symbols known.symbol

-- the choices with these sides, whatever sides come after them, are those of a thin tree that leads to these ends
pub record IsMade (symbols : List SymKey) (v w t : ℕ → Term) (u e : ℕ) (n : Form) (picks : List Bool) (ends : List Literal) : Type 0 where
  pub terms : List Term
  pub skolems : List Term
  pub same : (rest : List Bool) → chosen v w u e n (picks ++ rest) ≡ chosen_as terms skolems rest
  pub tree : IsThinTree symbols t n picks terms skolems ends

module _ (symbols : List SymKey) (v w : ℕ → Term) (grounds : (n : ℕ) → IsGround (v n)) where
  skolem_there : (f : SymKey) (args : List ℕ) (t : Term) → t ≡ App f (map v args) → IsListed symbols f → IsSkolemTerm symbols t
  skolem_there f args t e h = record {
    ground = ap (term_closed_under 0) e ∙ closed-App f (map v args) 0 ∙ all_ground v grounds args;
    symbol = f;
    args = map v args;
    headed = e;
    listed = h;
  }

  -- a choice of the image leads through the form to the choice's literals
  pub image_made : {g : List Kept} {s : ℕ → Term} {u e : ℕ} {n : Form} {m : List SkEntry} {d : Form} → Image g s u e n m d
      → (f : ℕ) (around : List ℕ) (t : ℕ → Term) (lits : List Literal) (picks : List Bool) → Owned g around → Agrees v around s n t → Every (IsServed symbols v w) m
      → HasChoice around (numbered_from u f d) lits picks → IsMade symbols v w t u e n picks (map (instance v) lits)
  image_made (i_yes g s u e) f around t lits picks o a h r = elim r [ ]
  image_made (i_no g s u e) f around t _ _ o a h (none _) = record { terms = []; skolems = []; same = λ rest. refl; tree = at_no t }
  image_made (i_lit g s u e l) f around t _ _ o a h (one _ _) = record {
    terms = [];
    skolems = [];
    same = λ rest. refl;
    tree = subst (λ x. IsThinTree symbols t (lit l) [] [] [] (x ∷ [])) (sym (literal_there v around s t l a)) (at_lit t l);
  }
  image_made (i_and g s u e a b m n c d p q) f around t _ _ o z h (left _ _ _ lits picks r) =
      let i = image_made p f around t lits picks o (λ k j. z k (or_left (free k a) (free k b) j)) (every_front m n h) r in
      record { terms = i.terms; skolems = i.skolems; same = i.same; tree = at_left t a b picks i.terms i.skolems (map (instance v) lits) i.tree }
  image_made (i_and g s u e a b m n c d p q) f around t _ _ o z h (right _ _ _ lits picks r) =
      let i = image_made q (exs c + f) around t lits picks o (λ k j. z k (or_right (free k a) (free k b) j)) (every_back m n h)
      (subst (λ j. HasChoice around (numbered_from (j + u) (exs c + f) d) lits picks) (alls_image p) r) in
      record { terms = i.terms; skolems = i.skolems; same = i.same; tree = at_right t a b picks i.terms i.skolems (map (instance v) lits) i.tree }
  image_made (i_or g s u e a b m n c d p q) f around t _ _ o z h (both _ _ _ lits more picks sides r k) =
      let i = image_made p f around t lits picks o (λ k j. z k (or_left (free k a) (free k b) j)) (every_front m n h) r in
      let j = image_made q (exs c + f) around t more sides o (λ k j. z k (or_right (free k a) (free k b) j)) (every_back m n h)
      (subst (λ j. HasChoice around (numbered_from (j + u) (exs c + f) d) more sides) (alls_image p) k) in
      record {
        terms = i.terms ++ j.terms;
        skolems = i.skolems ++ j.skolems;
        same = λ rest.
            ap (chosen v w u e (or a b)) (append_assoc picks sides rest)
            ∙ ap (λ x. then_chosen x (chosen v w (alls a + u) (exs a + e) b)) (i.same (sides ++ rest))
            ∙ ap (λ x. chosen_as (i.terms ++ x.terms) (i.skolems ++ x.skolems) x.left) (j.same rest);
        tree = subst (IsThinTree symbols t (or a b) (picks ++ sides) (i.terms ++ j.terms) (i.skolems ++ j.skolems)) (sym (map_both (instance v) lits more))
            (at_or t a b picks sides i.terms j.terms i.skolems j.skolems (map (instance v) lits) (map (instance v) more) i.tree j.tree);
      }
  image_made (i_all g s u e b m d p) f around t _ _ o z h (inside _ _ _ lits picks r) =
      let i = image_made p f (u ∷ around) (with_term (v u) t) lits picks (owned_more u g around o) (agrees_all v around s b t u z) h r in
      record {
        terms = v u ∷ i.terms;
        skolems = i.skolems;
        same = λ rest. ap (with_universal (v u)) (i.same rest);
        tree = at_all t b (v u) picks i.terms i.skolems (map (instance v) lits) (grounds u) i.tree;
      }
  image_made (i_keep g s u e b m d p) f around t lits picks o z h r = elim r [ ]
  image_made (i_put g s u e b m d symbol args ys fits p) f around t lits picks o z h r =
      let here = every_head h in
      let put = term_there v around g o symbol ys args fits.universals ∙ sym here.0 in
      let i = image_made p f around (with_term (w e) t) lits picks o (agrees_put v around s b t (applied symbol ys) (w e) put z) (every_tail h) r in
      record {
        terms = i.terms;
        skolems = w e ∷ i.skolems;
        same = λ rest. ap (with_existential (w e)) (i.same rest);
        tree = at_ex t b (w e) picks i.terms i.skolems (map (instance v) lits) (skolem_there symbol args (w e) here.0 here.1) i.tree;
      }
