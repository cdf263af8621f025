-- A step without a fault has from one to eight parents, and only one where it is a negation or a Skolem step.
use Rattle.std.proofs.Common.{◌≡◌, ℕ, ◌<◌, ◌≤◌, Bool, true, false, not, nat_eq, nat_lt, if◌then◌else◌, ◌||◌, ◌&&◌, List, Option, Some, None, length, codes, count_by, refl, sym, arith}
use Rattle.std.proofs.lemmas.Bool.{eqb-false, ltb-false}
use Rattle.std.proofs.lemmas.Option.{none-some}
use Rattle.std.specs.List.{list_all}
use Rattle.std.specs.Prelude.{IsTrue}
use Rattle.std.specs.Cmp.Lexicographic.{pointwise}
use Rattle.tptp_text.specs.declared.Source.{Source, Source-F, out-Source}
use Rattle.tptp_text.specs.declared.Source.TheOpen as source
use Rattle.tstp_trace.specs.Names.{is_among}
use Rattle.tstp_trace.specs.Sources.{derivation_fault, derived_by, is_derived, is_known_status, is_mixed, most_parents, names_in, parents_of, parts_fault, source_by, source_fault, source_fault_by, source_of, statuses_in}
use Rattle.tstp_trace.specs.Traces.{HasFitParents}
use Rattle.tstp_trace.specs.declared.fault.Unsupported.TheVariants.{Word, Status, NoParent, ManyParents, Mixed}
use Rattle.tstp_trace.proofs.DistinctLaws.{distinct_once}

-- where the test would name a fault, it failed
passed : {Fault : Type 0} (test : Bool) (fault : Fault) (rest : Option Fault) → (if test then Some fault else rest) ≡ None → (test ≡ false) × (rest ≡ None)
passed true fault rest e = absurd (none-some fault (sym e))
passed false fault rest e = (refl, e)

-- the counts of a step without a fault
record Counts (flagged : Bool) (parents : ℕ) : Type 0 where
  some : 0 < parents
  few : parents ≤ most_parents
  one : IsTrue flagged → parents ≡ 1

flag_alone : (twice flagged : Bool) (parents : ℕ) → (twice || (flagged && nat_lt 1 parents)) ≡ false → IsTrue flagged → parents ≤ 1
flag_alone true flagged parents e set = absurd cc
flag_alone false true parents e set = let l = ltb-false 1 parents e in omega arith
flag_alone false false parents e set = absurd cc

counts : (derived : Bool) (statuses : List (List ℕ)) (parents : ℕ) → parts_fault derived statuses parents ≡ None → Counts (is_among statuses (codes "cth") || is_among statuses (codes "esa")) parents
counts derived statuses parents e =
    let a = passed (not derived) Word _ e in
    let b = passed (not (list_all is_known_status statuses)) Status _ a.1 in
    let c = passed (nat_eq parents 0) NoParent _ b.1 in
    let d = passed (nat_lt most_parents parents) ManyParents _ c.1 in
    let f = passed (is_mixed statuses parents) Mixed _ d.1 in
    let positive = eqb-false parents 0 c.0 in
    let low = ltb-false most_parents parents d.0 in
    record {
      some = omega arith;
      few = omega arith;
      one = λ set. let l = flag_alone (nat_lt 1 (count_by (pointwise nat_eq (codes "cth")) statuses)) (is_among statuses (codes "cth") || is_among statuses (codes "esa")) parents f.0 set in omega arith;
    }

fit_derived : (source : Source) → derivation_fault source ≡ None → HasFitParents (derived_by source)
fit_derived source e =
    let n = counts (is_derived source) (statuses_in source) (length (parents_of source)) e in
    (distinct_once (names_in source), n.some, n.few, n.one)

fit_by : (name : List ℕ) (whole : Source) (layer : Source-F Source) → source_fault_by whole layer ≡ None → HasFitParents (source_by name whole layer)
fit_by name whole source.Missing e = tt
fit_by name whole (source.Plain parent) e = fit_derived whole e
fit_by name whole (source.File None) e = tt
fit_by name whole (source.File (Some original)) e = tt
fit_by name whole (source.Inference status parents) e = fit_derived whole e
fit_by name whole source.Other e = fit_derived whole e

pub fit_source : (name : List ℕ) (source : Source) → source_fault source ≡ None → HasFitParents (source_of name source)
fit_source name source e = fit_by name source (out-Source source) e
