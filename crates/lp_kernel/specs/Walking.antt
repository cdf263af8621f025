-- What the program finds, as the judgement has it; and what frames do with it.
use Rattle.std.specs.Prelude.{ℕ, ◌+◌, ◌≡◌, ◌<◌, List, [], ◌∷◌, ◌++◌, Result, Ok, Err, if◌then◌else◌, Option, Some, None, ⊤}
use Rattle.lp_term.specs.LambdaPi.{Term, con, lam, pi}
use Rattle.lp_term.specs.View.{term_of}
use Rattle.lp_term.specs.Typing.{Declaration}
use Rattle.lp_term.specs.declared.lp.Lp.{Lp, size-Lp}
use Rattle.lp_kernel.specs.Answering.{want_of}
use Rattle.lp_kernel.specs.Developments.{Failure, bad_goal, bad_prelude, bad_symbol, in_goal}
use Rattle.lp_kernel.specs.declared.finding.Rejection.{Rejection}
use Rattle.lp_kernel.specs.declared.finding.Rejection.TheVariants.{BadPrelude, BadSymbol, BadGoal, InGoal}
use Rattle.lp_kernel.specs.declared.finding.Refusal.{Refusal}
use Rattle.lp_kernel.specs.declared.finding.Refusal.TheVariants.{UnknownName, OutOfFragment, IllTyped}
use Rattle.lp_kernel.specs.declared.finding.Finding.{Finding}
use Rattle.lp_kernel.specs.declared.finding.Finding.TheVariants.{Typed, Refused}
use Rattle.lp_kernel.specs.declared.finding.Opening.{Opening}
use Rattle.lp_kernel.specs.declared.finding.Opening.TheVariants.{Opened, Closed}
use Rattle.lp_kernel.specs.declared.finding.Frame.{Frame}
use Rattle.lp_kernel.specs.declared.finding.Frame.TheVariants.{Body, Within, Last}
use Rattle.lp_kernel.specs.declared.finding.Step.{Step}
use Rattle.lp_kernel.specs.declared.finding.Step.TheVariants.{Down, Stop}
use Rattle.lp_kernel.specs.declared.finding.TypeStep.{TypeStep}
use Rattle.lp_kernel.specs.declared.finding.TypeStep.TheVariants.{Below, Reached}
use Rattle.lp_exact.specs.declared.word.Word.{Word}
use Rattle.lp_exact.specs.declared.word.Word.TheVariants.{Other}
use Rattle.lp_exact.specs.Words.{word_of}
use Rattle.lp_exact.specs.LazyTypes.{full}
use Rattle.lp_exact.specs.Normalisation.{put_at}
use Rattle.lp_exact.specs.Objects.{Simple, simple_size, simple_of}
use Rattle.lp_kernel.specs.LazyJudgement.{kept, rank_of}
use Rattle.lp_kernel.specs.Checking.{Wanted, exactly, a_product, a_sort, Fault, unknown_name, out_of_fragment, ill_typed, Typing, typing, node_count, same_term, and_then, within, applied_to, read}

abbrev pub fault_of : Refusal → Fault
fault_of (UnknownName k x) = unknown_name k x
fault_of (OutOfFragment k) = out_of_fragment k
fault_of (IllTyped k w t l) = ill_typed k (want_of w) (term_of t) l

abbrev pub found_of : Finding → Result Typing Fault
found_of (Typed a v) = Ok (typing (term_of a) (term_of v))
found_of (Refused e) = Err (fault_of e)

abbrev pub checked_of : Opening → Result Term Fault
checked_of (Opened a) = Ok (term_of a)
checked_of (Closed e) = Err (fault_of e)

-- the program's context, outermost first, turned before what is given
abbrev pub turned : List Lp → List Term → List Term
turned [] d = d
turned (a ∷ l) d = turned l (term_of a ∷ d)

abbrev pub context_of : List Lp → List Term
context_of l = turned l []

abbrev pub find_at : List Declaration → List Lp → Term → ℕ → Result Typing Fault
find_at sig l t k = (read sig t).find (context_of l) k

abbrev pub check_at : List Declaration → List Lp → Term → ℕ → Result Term Fault
check_at sig l t k = (read sig t).check (context_of l) k

-- ---- what a frame does with what is found at the hole

abbrev pub lambda_found : ℕ → Term → Typing → Result Typing Fault
lambda_found k x r = within k x r.of (typing (pi x r.of) (lam x r.value))

abbrev pub let_found : ℕ → Term → Term → Typing → Result Typing Fault
let_found k x w s = within k x s.of (typing (put_at (rank_of (simple_of x)) w s.of) (kept (simple_of s.of) (put_at (rank_of (simple_of x)) w s.value)))

-- `argument_at`, of whose context only the length counts
abbrev pub argument_in : ℕ → ℕ → Term → Typing → Result Term Fault
argument_in level k x r = if same_term (full r.of) (full x) then Ok r.value else Err (ill_typed k (exactly (full x)) (full r.of) level)

abbrev pub last_found : ℕ → ℕ → ℕ → Term → Term → Term → Typing → Result Typing Fault
last_found k node level v a b s = and_then (argument_in level node a s) (applied_to k v a b)

abbrev pub continued : Frame → Typing → Result Typing Fault
continued (Body k x) r = lambda_found k (term_of x) r
continued (Within k x w) r = let_found k (term_of x) (term_of w) r
continued (Last k node level v a b) r = last_found k node level (term_of v) (term_of a) (term_of b) r

-- the answer for the whole from the answer at the hole; the innermost frame is the last
abbrev pub resumed : List Frame → Result Typing Fault → Result Typing Fault
resumed [] r = r
resumed (f ∷ l) r = and_then (resumed l r) (continued f)

-- ---- a step

abbrev pub next_of : List Declaration → List Lp → Step → Result Typing Fault
next_of sig l (Down t k e) = find_at sig l (term_of t.now) k
next_of sig l (Stop f) = found_of f

-- the step goes to a part of less than that depth, if to any
abbrev pub IsSmaller : Step → ℕ → Type 0
IsSmaller (Down t k e) n = size-Lp t.now < n
IsSmaller (Stop f) n = ⊤

-- what it says of the node past that part
abbrev pub HasEnd : Step → Type 0
HasEnd (Down t k e) = e ≡ k + node_count (term_of t.now)
HasEnd (Stop f) = ⊤

abbrev pub IsExtended : List Lp → List Lp → Type 0
IsExtended l m = (e : List Lp) × (m ≡ l ++ e)

-- from frames and a context where r is the answer, to others
pub record HasStepped (sig : List Declaration) (frames : List Frame) (l : List Lp) (r : Result Typing Fault) (newer : List Frame) (m : List Lp) (s : Step) : Type 0 where
  pub same : resumed newer (next_of sig m s) ≡ resumed frames r
  pub context : IsExtended l m

abbrev pub size_of : Option Simple → Option ℕ
size_of (Some a) = Some (simple_size a)
size_of None = None

-- the size of a simple type's products, whose domains so far count that much
abbrev pub size_after : ℕ → Option ℕ → Option ℕ
size_after domains (Some size) = Some (domains + size)
size_after domains None = None

-- the term is no product
abbrev pub IsNoProduct : Term → Type 0
IsNoProduct (pi a b) = ⊥
IsNoProduct t = ⊤

abbrev pub word_at_term : Term → Word
word_at_term (con x) = word_of x
word_at_term t = Other

-- ---- a step down the right parts of products

-- a type's answer from that of its last part, below these domains; the innermost is the last
abbrev pub over_domains : List Lp → Result Term Fault → Result Term Fault
over_domains [] r = r
over_domains (x ∷ l) r = and_then (over_domains l r) (λ y. Ok (pi (term_of x) y))

abbrev pub next_type : List Declaration → List Lp → TypeStep → Result Term Fault
next_type sig l (Below t k) = check_at sig l (term_of t.now) k
next_type sig l (Reached r) = checked_of r

-- the step goes to a part of less than that depth, if to any
abbrev pub IsLower : TypeStep → ℕ → Type 0
IsLower (Below t k) n = size-Lp t.now < n
IsLower (Reached r) n = ⊤

-- from domains and a context where r is the answer, to others
pub record HasDescended (sig : List Declaration) (domains : List Lp) (l : List Lp) (r : Result Term Fault) (newer : List Lp) (m : List Lp) (s : TypeStep) : Type 0 where
  pub same : over_domains newer (next_type sig m s) ≡ over_domains domains r
  pub context : IsExtended l m

-- ---- what the program answers for a development

abbrev pub failure_of : Rejection → Failure
failure_of (BadPrelude n) = bad_prelude n
failure_of (BadSymbol n) = bad_symbol n
failure_of (BadGoal n) = bad_goal n
failure_of (InGoal e) = in_goal (fault_of e)

abbrev pub failures_of : Option Rejection → Option Failure
failures_of None = None
failures_of (Some r) = Some (failure_of r)
