-- The list that rows and their table stand for.
use Rattle.std.specs.Prelude.{List, Result, Ok, Err}
use Rattle.ground_instances.specs.Instances.{clauses_in}
use Rattle.ground_instances.specs.Rows.{instances_by}
use Rattle.ground_instances.specs.Weights.{AreTermsOf}
use Rattle.ground_instances.specs.declared.instance.Instance.{Instance}
use Rattle.ground_instances.specs.declared.instance.Instances.{Instances}
use Rattle.ground_instances.specs.declared.instance.PullFault.{PullFault}

-- the instances with their terms written out
abbrev pub instances_of : Instances → List Instance
instances_of list = instances_by list.table list.rows

-- the table has exactly the terms of the clauses, subterms included
abbrev pub HasExactTable : Instances → Type 0
HasExactTable list = AreTermsOf (clauses_in (instances_of list)) list.table

-- the answer with its instances written out
abbrev pub answer_of : Result Instances PullFault → Result (List Instance) PullFault
answer_of (Ok list) = Ok (instances_of list)
answer_of (Err fault) = Err fault
