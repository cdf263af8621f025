-- What the refusals of normal forms and clause lists say.
use Rattle.std.specs.Prelude.{◌≡◌, ◌<◌, ◌≤◌, Bool, length}
use Rattle.dk_syntax.specs.Depth.{capped}
use Rattle.dk_syntax.specs.declared.Formula.{Formula}
use Rattle.normal_form.specs.ClauseLists.{clause_rows, literal_count}
use Rattle.normal_form.specs.Normal.{nodes_of, normal_of}
use Rattle.normal_form.specs.declared.clause_list.ClauseFault.{ClauseFault}
use Rattle.normal_form.specs.declared.clause_list.ClauseFault.TheVariants as list
use Rattle.normal_form.specs.declared.form.Nf.{Nf}
use Rattle.normal_form.specs.declared.signed_form.NfFault.{NfFault}
use Rattle.normal_form.specs.declared.signed_form.NfFault.TheVariants.{Memory, TooLarge}

-- the form has more than 100,000 nodes, and the number is theirs, or the greatest `u64` where they are more
abbrev pub FormFault : Formula → Bool → NfFault → Type 0
FormFault f sign (TooLarge nodes) = (100000 < nodes_of (normal_of f sign)) × (nodes ≡ capped (nodes_of (normal_of f sign)))
FormFault f sign Memory = Unit {0}

-- the list has more than 4,096 clauses, or else more than 65,536 literals, and the number is theirs, or the
-- greatest `u64` where they are more
abbrev pub ListFault : Nf → ClauseFault → Type 0
ListFault a (list.TooManyClauses count) = (4096 < length (clause_rows a)) × (count ≡ capped (length (clause_rows a)))
ListFault a (list.TooManyLiterals count) =
    (length (clause_rows a) ≤ 4096) × (65536 < literal_count (clause_rows a)) × (count ≡ capped (literal_count (clause_rows a)))
ListFault a list.Memory = Unit {0}
