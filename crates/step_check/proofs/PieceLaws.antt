-- Pieces of the list of steps.
use Rattle.std.proofs.Common.{◌≡◌, ℕ, zero, suc, ◌+◌, ◌*◌, ◌<◌, ◌≤◌, List, [], ◌∷◌, ◌++◌, length, slice_get, Some, ap, sym, subst, ◌∙◌, arith}
use Rattle.std.proofs.Math.Nat.{mul-le-mul_right, mul-div_cancel_left}
use Rattle.std.proofs.lemmas.List.{length-append, length-map}
use lib.Ieee.Nearest.{div_mono}
use Rattle.derivation_graph.specs.Graphs.{names_of, numbers_of, rows_of}
use Rattle.derivation_graph.specs.declared.graph.Graph.{Graph}
use Rattle.step_check.specs.Freshness.{AreFirstVerdicts, HaveVerdicts}
use Rattle.step_check.specs.Pieces.{IsPiece, start_of}
use Rattle.step_check.specs.Steps.{Case, node_of, nodes_of}
use Rattle.step_check.specs.Verdicts.{HasVerdict}
use Rattle.step_check.specs.declared.verdict.Verdict.{Verdict}
use Rattle.tstp_trace.specs.declared.step.Trace.{Trace}

pub start_mono : (steps pieces low high : ℕ) → 0 < pieces → low ≤ high → start_of steps pieces low ≤ start_of steps pieces high
start_mono steps pieces low high some order = div_mono (low * steps) pieces (high * steps) pieces some some (mul-le-mul_right pieces (mul-le-mul_right steps order))

-- the first piece starts at no step, and after the last one there is none
start_first : (steps pieces : ℕ) → 0 < pieces → start_of steps pieces 0 ≡ 0
start_first steps pieces some = grind arith

start_last : (steps pieces : ℕ) → 0 < pieces → start_of steps pieces pieces ≡ steps
start_last steps pieces some = mul-div_cancel_left steps some

-- the verdicts on some steps, and those on the steps behind them
behind : (case : Case) (before : ℕ) (left right : List Verdict) → HaveVerdicts case before left → HaveVerdicts case (before + length left) right
    → (place : ℕ) (verdict : Verdict) → slice_get (left ++ right) place ≡ Some verdict → HasVerdict case (before + suc place) verdict
behind case before [] right l r place verdict at =
    let none : before + 0 ≡ before = omega arith in
    subst (λ n. HasVerdict case (n + suc place) verdict) none (r place verdict at)
behind case before (v ∷ rest) right l r zero verdict at = l zero verdict at
behind case before (v ∷ rest) right l r (suc k) verdict at =
    let one : (n : ℕ) → before + 1 + n ≡ before + suc n = λ n. omega arith in
    subst (λ n. HasVerdict case n verdict) (one (suc k))
    (behind case (before + 1) rest right (λ j w a. subst (λ n. HasVerdict case n w) (sym (one (suc j))) (l (suc j) w a))
    (λ j w a. subst (λ n. HasVerdict case (n + suc j) w) (sym (one (length rest))) (r j w a)) k verdict at)

module _ (case : Case) (pieces : ℕ) where
  pub pieces_join : (low middle high : ℕ) (left right : List Verdict) → IsPiece case pieces low middle left → IsPiece case pieces middle high right → IsPiece case pieces low high (left ++ right)
  pieces_join low middle high left right l r = record {
    each = behind case (start_of (length case.rows) pieces low) left right l.each (subst (λ n. HaveVerdicts case n right) (sym l.long) r.each);
    long = let lengths = length-append left right in omega (arith, lengths, l.long, r.long);
  }

  pub all_pieces : (list : List Verdict) → 0 < pieces → length case.rows ≡ length case.steps → IsPiece case pieces 0 pieces list → AreFirstVerdicts case list
  all_pieces list some rows p = record {
    long = let first = start_first (length case.rows) pieces some in let last = start_last (length case.rows) pieces some in omega (arith, p.long, first, last, rows);
    each = subst (λ n. HaveVerdicts case n list) (start_first (length case.rows) pieces some) p.each;
  }

pub no_steps : (case : Case) → length case.rows ≡ length case.steps → length case.rows ≡ 0 → AreFirstVerdicts case []
no_steps case rows none = record { long = omega (arith, rows, none); each = λ place verdict at. absurd cc }

pub one_row_each : (trace : Trace) (graph : Graph) → graph.parents ≡ rows_of (nodes_of trace) → length graph.parents ≡ length trace.steps
one_row_each trace graph is = ap length is ∙ (length-map (nodes_of trace) (numbers_of (names_of (nodes_of trace))) ∙ length-map trace.steps node_of)
