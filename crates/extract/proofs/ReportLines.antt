-- The lines of a list of instances, one after another.
use Rattle.std.proofs.Common.{◌≡◌, ◌++◌, ◌+◌, ◌≤◌, ◌∙◌, ℕ, suc, List, ◌∷◌, Some, append-nil, append_assoc, ap, arith, drop, length, slice_get, sym}
use Rattle.std.proofs.Math.Seq.{drop-cons}
use Rattle.std.proofs.lemmas.List.{drop_all}
use Rattle.std.proofs.lemmas.Option.{get_or_from_slice_get, slice_get_within}
use Rattle.extract.specs.ExpansionReport.{instance_lines, instances_from}
use Rattle.ground_instances.specs.declared.instance.Instance.{Instance}
use Rattle.plan.specs.declared.plan.Plan.{Plan}
use Rattle.tstp_trace.specs.declared.step.Step.{Step}

drop_there : (list : List Instance) (n : ℕ) (it : Instance) → slice_get list n ≡ Some it → drop n list ≡ it ∷ drop (suc n) list
drop_there list n it h =
    drop-cons list n it (slice_get_within list n it h) ∙ ap (λ x. x ∷ drop (suc n) list) (get_or_from_slice_get list n it it h)

module _ (steps : List Step) (plan : Plan) (list : List Instance) where
  -- one instance more is written
  pub lines_more : (n : ℕ) (it : Instance) (before after whole : List ℕ) → slice_get list n ≡ Some it → after ≡ before ++ instance_lines steps plan n it
      → before ++ instances_from steps plan n (drop n list) ≡ whole → after ++ instances_from steps plan (n + 1) (drop (n + 1) list) ≡ whole
  lines_more n it before after whole there written so_far =
      let e : n + 1 ≡ suc n = omega arith in
      ap (λ k. after ++ instances_from steps plan k (drop k list)) e ∙ ap (λ x. x ++ instances_from steps plan (suc n) (drop (suc n) list)) written
      ∙ append_assoc before (instance_lines steps plan n it) (instances_from steps plan (suc n) (drop (suc n) list))
      ∙ ap (λ l. before ++ instances_from steps plan n l) (sym (drop_there list n it there)) ∙ so_far

  -- none is left
  pub lines_all : (n : ℕ) (written whole : List ℕ) → length list ≤ n → written ++ instances_from steps plan n (drop n list) ≡ whole → written ≡ whole
  lines_all n written whole h so_far =
      sym (append-nil written) ∙ ap (λ l. written ++ instances_from steps plan n l) (sym (drop_all n list h)) ∙ so_far
