-- Symbols looked up in a map, and names that are declared once.
use Rattle.std.proofs.Common.{◌≡◌, ℕ, ◌&&◌, ◌==◌, Bool, true, false, not, nat_eq, cond, if◌then◌else◌, List, [], ◌∷◌, ◌++◌, Option, Some, None, is_some, bytes_eq, refl, sym, ap, ap₂, ◌∙◌, append_assoc, Vec, Global}
use Rattle.std.proofs.lemmas.Slice.Eq.{bytes_eq-Decides}
use Rattle.std.specs.Cmp.Lexicographic.{bytes_decides, pointwise}
use Rattle.std.specs.Map.{lookup}
use Rattle.std.specs.Option.{option_map}
use Rattle.lp_term.specs.LambdaPi.{Term}
use Rattle.lp_term.specs.Signature.{declaration, declarations, prelude_declarations}
use Rattle.lp_term.specs.Typing.{Declaration}
use Rattle.lp_term.specs.View.{term_of}
use Rattle.lp_term.specs.declared.command.Command.{Command}
use Rattle.lp_term.specs.declared.lp.Lp.{Lp}
use Rattle.lp_kernel.specs.Checking.{declared, is_declared}
use Rattle.lp_kernel.specs.Signatures.{are_distinct, declarations_of}
use Rattle.lp_kernel.proofs.AnswerLaws.{both_true}
use Rattle.lp_kernel.proofs.DevelopmentLaws.{declarations_append}
use Rattle.lp_kernel.proofs.ProgramLaws.{same_as}

-- a key's test is the test of names
same_test : (key name : List ℕ) → bytes_eq key name ≡ pointwise nat_eq name key
same_test key name =
    same_as (bytes_eq key name) (pointwise nat_eq name key) (λ e. (bytes_decides name key).1 (sym ((bytes_eq-Decides key name).0 e)))
    (λ e. (bytes_eq-Decides key name).1 (sym ((bytes_decides name key).0 e)))

chosen : (b : Bool) (x : Lp) (o : Option Lp) → (if b then Some (term_of x) else option_map term_of o) ≡ option_map term_of (cond b (Some x) o)
chosen true x o = refl
chosen false x o = refl

-- what the map has at the name
pub declared_at : (es : List (Vec ℕ Global × Lp)) (name : List ℕ) → declared (declarations_of es) name ≡ option_map term_of (lookup (λ (key : Vec ℕ Global). pointwise nat_eq name key.items) es)
declared_at [] name = refl
declared_at (e ∷ es) name =
    ap₂ (λ b o. if b then Some (term_of e.1) else o) (same_test e.0.items name) (declared_at es name) ∙ chosen (pointwise nat_eq name e.0.items) e.1 (lookup (λ (key : Vec ℕ Global). pointwise nat_eq name key.items) es)

some_mapped : (o : Option Lp) → is_some (option_map term_of o) ≡ is_some o
some_mapped (Some x) = refl
some_mapped None = refl

pub is_declared_at : (es : List (Vec ℕ Global × Lp)) (name : List ℕ) → is_some (lookup (λ (key : Vec ℕ Global). pointwise nat_eq name key.items) es) ≡ is_declared (declarations_of es) name
is_declared_at es name = sym (ap is_some (declared_at es name) ∙ some_mapped (lookup (λ (key : Vec ℕ Global). pointwise nat_eq name key.items) es))

none_of : (o : Option Lp) → is_some o ≡ false → o ≡ None
none_of (Some x) e = absurd cc
none_of None e = refl

-- a name that is not declared has no entry
pub none_at : (es : List (Vec ℕ Global × Lp)) (key : Vec ℕ Global) (name : List ℕ) → key.items ≡ name → is_declared (declarations_of es) name ≡ false → lookup (λ (b : Vec ℕ Global). pointwise nat_eq key.items b.items) es ≡ None
none_at es key name e h =
    none_of (lookup (λ (b : Vec ℕ Global). pointwise nat_eq key.items b.items) es) (is_declared_at es key.items ∙ ap (is_declared (declarations_of es)) e ∙ h)

pub declarations_last : (es : List (Vec ℕ Global × Lp)) (key : Vec ℕ Global) (of : Lp) → declarations_of (es ++ (key, of) ∷ []) ≡ declarations_of es ++ (declaration key.items (term_of of) ∷ [])
declarations_last [] key of = refl
declarations_last (e ∷ es) key of = ap (λ l. declaration e.0.items (term_of e.1) ∷ l) (declarations_last es key of)

-- ---- names once

not_true : (b : Bool) → not b ≡ true → b ≡ false
not_true true e = cc
not_true false e = refl

front_by : (b : Bool) (a : Term) (o p : Option Term) → (is_some o ≡ false → is_some p ≡ false) → is_some (if b then Some a else o) ≡ false → is_some (if b then Some a else p) ≡ false
front_by true a o p f k = k
front_by false a o p f k = f k

-- what is declared in a list's front is declared in the list
declared_front : (l r : List Declaration) (x : List ℕ) → is_declared (l ++ r) x ≡ false → is_declared l x ≡ false
declared_front [] r x h = refl
declared_front (e ∷ l) r x h = front_by (bytes_eq e.name x) e.of (declared (l ++ r) x) (declared l x) (declared_front l r x) h

-- a list's front has names once
pub distinct_front : (l r : List Declaration) → are_distinct (l ++ r) ≡ true → are_distinct l ≡ true
distinct_front [] r h = refl
distinct_front (e ∷ l) r h =
    let i = both_true (not (is_declared (l ++ r) e.name)) (are_distinct (l ++ r)) h in
    ap₂ (λ a b. not a && b) (declared_front l r e.name (not_true (is_declared (l ++ r) e.name) i.0)) (distinct_front l r i.1)

no_name : (e x : List ℕ) (o : Option Term) (a : Term) → is_some (if bytes_eq x e then Some a else o) ≡ false → bytes_eq e x ≡ false
no_name e x o a h = by (bytes_eq x e) (bytes_eq e x) refl refl h
  where
    by : (b c : Bool) → bytes_eq x e ≡ b → bytes_eq e x ≡ c → is_some (if b then Some a else o) ≡ false → c ≡ false
    by b false i j k = refl
    by true true i j k = cc
    by false true i j k = let m = (bytes_eq-Decides x e).1 (sym ((bytes_eq-Decides e x).0 j)) in cc

apart_by : (x name : List ℕ) (b : Bool) (a : Term) (o : Option Term) → (is_some o ≡ false → bytes_eq x name ≡ false) → is_some (if b then Some a else o) ≡ false → bytes_eq x name ≡ false
apart_by x name true a o f k = absurd cc
apart_by x name false a o f k = f k

-- a name that is not declared is not the last one
apart : (m : List Declaration) (d : Declaration) (x : List ℕ) → is_declared (m ++ (d ∷ [])) x ≡ false → bytes_eq x d.name ≡ false
apart [] d x k = no_name x d.name None d.of k
apart (f ∷ m) d x k = apart_by x d.name (bytes_eq f.name x) f.of (declared (m ++ (d ∷ [])) x) (apart m d x) k

name_by : (b : Bool) (a : Term) (o : Option Term) → b ≡ false → is_some o ≡ false → is_some (if b then Some a else o) ≡ false
name_by true a o q k = absurd cc
name_by false a o q k = k

-- a name that comes after is not declared before
pub new_name : (l : List Declaration) (d : Declaration) → are_distinct (l ++ (d ∷ [])) ≡ true → is_declared l d.name ≡ false
new_name [] d h = refl
new_name (e ∷ l) d h =
    let i = both_true (not (is_declared (l ++ (d ∷ [])) e.name)) (are_distinct (l ++ (d ∷ []))) h in
    name_by (bytes_eq e.name d.name) e.of (declared l d.name) (apart l d e.name (not_true (is_declared (l ++ (d ∷ [])) e.name) i.0)) (new_name l d i.1)

-- the next command's names are new
pub distinct_first : (s d : List Declaration) (c : Command) (l : List Command) → s ++ declarations (c ∷ l) ≡ d → are_distinct d ≡ true → are_distinct (s ++ declarations (c ∷ [])) ≡ true
distinct_first s d c l e h =
    let i : (s ++ declarations (c ∷ [])) ++ declarations l ≡ d = append_assoc s (declarations (c ∷ [])) (declarations l) ∙ ap (λ m. s ++ m) (sym (declarations_append (c ∷ []) l)) ∙ e in
    distinct_front (s ++ declarations (c ∷ [])) (declarations l) (ap are_distinct i ∙ h)

-- the prelude declares no name twice
pub prelude_distinct : are_distinct prelude_declarations ≡ true
prelude_distinct = refl
