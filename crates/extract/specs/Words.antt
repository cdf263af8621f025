-- The words for verdicts. Symbols are told by their name alone.
use Rattle.std.specs.Prelude.{ℕ, List, ◌++◌, codes, decimal}
use Rattle.step_check.specs.declared.verdict.Limit.{Limit}
use Rattle.step_check.specs.declared.verdict.Limit.TheVariants.{NormalForm, Clauses, Literals}
use Rattle.step_check.specs.declared.verdict.Reason.{Reason}
use Rattle.step_check.specs.declared.verdict.Reason.TheVariants.{UnknownLeaf, AlteredLeaf, ConjectureParent, NotConjecture, NotFresh, NotImage, HasExists, AlienSymbol, Unjustified}
use Rattle.step_check.specs.declared.verdict.Verdict.{Verdict}
use Rattle.step_check.specs.declared.verdict.Verdict.TheVariants.{Leaf, Conjecture, Structural, Clausal, Chained, Composes, Wrong, Over}
use Rattle.tptp_text.specs.Printed.{printed_name}

-- the limit that is passed
abbrev pub limit_word : Limit → List ℕ
limit_word NormalForm = codes "normal form"
limit_word Clauses = codes "clauses"
limit_word Literals = codes "literals"

-- why a step is wrong; clauses count from 0
abbrev pub reason_text : Reason → List ℕ
reason_text UnknownLeaf = codes "unknown leaf"
reason_text AlteredLeaf = codes "altered leaf"
reason_text ConjectureParent = codes "conjecture as parent"
reason_text NotConjecture = codes "not the conjecture"
reason_text (NotFresh symbol) = codes "not fresh: " ++ printed_name symbol.name
reason_text NotImage = codes "not a Skolem image"
reason_text HasExists = codes "existential left"
reason_text (AlienSymbol symbol) = codes "alien symbol: " ++ printed_name symbol.name
reason_text (Unjustified clause) = codes "unjustified clause " ++ decimal clause

abbrev pub wrong_text : Reason → List ℕ
wrong_text reason = codes "wrong: " ++ reason_text reason

abbrev pub over_text : Limit → List ℕ
over_text limit = codes "over: " ++ limit_word limit

-- what is found of a step
abbrev pub verdict_text : Verdict → List ℕ
verdict_text Leaf = codes "leaf"
verdict_text Conjecture = codes "conjecture"
verdict_text (Structural entries) = codes "structural"
verdict_text (Clausal justifications) = codes "clausal"
verdict_text (Chained chains) = codes "chained"
verdict_text (Composes composed) = codes "composed"
verdict_text (Wrong reason) = wrong_text reason
verdict_text (Over limit) = over_text limit
